use Rattle.std.proofs.Common.{List, take, sym, subst}
use Rattle.std.proofs.lemmas.List.{take_more}
use Rattle.dactl_meaning.specs.Meaning.{NamedPattern}
use Rattle.dactl_patterns.specs.Cycling.{Gains}
use Rattle.dactl_patterns.proofs.Gaining.{gains_none, gains_more}
use Rattle.dactl_patterns.proofs.cycling.gain.Goals as goal

pub loop-name-init : goal.loop-name-init
loop-name-init c = gains_none c.args.reached.now.keys

pub loop-name-preserved : goal.loop-name-preserved
loop-name-preserved c =
    subst (λ (l : List NamedPattern). Gains c.args.reached.now.keys l c.insert.new.self.keys) (sym (take_more c.args.names.now c.loop-name.name-index _ c.loop-name-test.true))
    (gains_more c.args.reached.now.keys (take c.loop-name.name-index c.args.names.now) c.loop-name.reached.keys c.insert.new.self.keys _ c.loop-name.invariant c.in_ok-insert.ensures.keys)
