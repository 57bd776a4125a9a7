use Rattle.std.proofs.Common.{take}
use Rattle.dactl_contractum.specs.Terms.{seen}
use Rattle.dactl_contractum.proofs.DrawnTerms.{drawn_push, seen_more}
use Rattle.dactl_contractum.proofs.contractum.draw.Goals as goal

pub loop-tree-preserved : goal.loop-tree-preserved
loop-tree-preserved c =
    rw (seen_more c.args.terms.now c.loop-tree.tree-index c.tree-item.result c.loop-tree-test.true c.tree-item.is, c.in_ok-push.ensures.items)
    (drawn_push (seen (take c.loop-tree.tree-index c.args.terms.now)) c.tree-item.result.now c.loop-tree.drawing c.term.new.drawing c.loop-tree.targets.items c.in_ok-term.field-0 c.loop-tree.invariant c.in_ok-term.ensures)
