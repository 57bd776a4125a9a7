use Rattle.std.proofs.Common.{ap, ◌∙◌}
use Rattle.dactl_symbols.specs.Finds.{finds_of, joined, joined_all, item_finds}
use Rattle.dactl_symbols.proofs.Joined.{joined_numbered-more, all_numbered}
use Rattle.dactl_symbols.proofs.survey.Survey.add_items.Goals as goal

pub loop-number-preserved : goal.loop-number-preserved
loop-number-preserved c = joined_numbered-more (item_finds c.args.owner) c.args.items.now c.loop-number.number c.index-items-number.result (finds_of c.args.self.now) (finds_of c.loop-number.self) (finds_of c.add_item.new.self) c.loop-number-test.true c.index-items-number.is c.loop-number.invariant c.in_ok-add_item.ensures

pub returns : goal.returns
returns c = c.loop-number.invariant ∙ ap (λ l. joined (finds_of c.args.self.now) (joined_all (item_finds c.args.owner) l)) (all_numbered c.args.items.now c.loop-number.number c.loop-number-test.false)
