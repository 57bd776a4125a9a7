use Rattle.std.proofs.Common.{map, subst, Contains}
use Rattle.std.specs.List.{flat_map}
use Rattle.std.proofs.lemmas.List.{take_all}
use Rattle.dactl_meaning.specs.Meaning.{named_faults}
use Rattle.dactl_symbols.specs.Least.{TellsLeast}
use Rattle.dactl_contractum.specs.Listing.{placed}
use Rattle.dactl_rules.proofs.WholePrograms.{named_more}
use Rattle.dactl_rules.proofs.compiling.first_named_fault.Goals as goal

pub loop-item-preserved : goal.loop-item-preserved
loop-item-preserved c =
    rw c.lesser-least.ensures (named_more (named_faults c.args.patterns.now.text.now) placed c.args.items.now c.loop-item.item-index c.item-item.result c.loop-item.least c.in_ok-here.here c.loop-item-test.true c.item-item.is c.loop-item.invariant c.in_ok-here.ensures)

pub returns : goal.returns
returns c = subst (λ l. TellsLeast (Contains (flat_map (named_faults c.args.patterns.now.text.now) (map placed l))) c.loop-item.least) (take_all c.loop-item.item-index c.args.items.now c.loop-item-test.false) c.loop-item.invariant
