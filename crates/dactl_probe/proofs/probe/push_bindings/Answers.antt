use Rattle.dactl_probe.proofs.Ordering.{orderly_room, orderly_bindings}
use Rattle.dactl_probe.proofs.probe.push_bindings.Goals as goal

pub push_bound-requires : goal.push_bound-requires
push_bound-requires c = orderly_room c.args.footprint.now c.args.node c.args.rule.now c.requires.empty c.requires.few (c.requires.orderly c.if-orderly.true) c.requires.yes

pub returns-then-orderly : goal.returns-then-orderly
returns-then-orderly c =
    orderly_bindings c.args.footprint.now c.push_bound.new.footprint c.args.node c.args.rule.now c.requires.empty (c.requires.orderly c.if-orderly.true) c.requires.yes c.push_bound.ensures
