use Rattle.std.proofs.Common.{refl, sym, ◌∙◌, ap, arith}
use Rattle.dactl_decide.specs.PathTrees.{size}
use Rattle.dactl_decide.proofs.Trees.{size_out, counted, not_counted, not_below, below_counts, past_each}
use Rattle.dactl_decide.proofs.path_tree.+count.Goals as goal

pub count-returns-then-tree : goal.count-returns-then-tree
count-returns-then-tree t c =
    let below = rw c.as_slice.ensures.value at c.in_ok-below.ensures.number in
    let whole = sym (size_out c.args.tree.now ∙ rw (c.if-tree.true, below) refl) in
    record { number = counted _ _ _ _ c.checked_add.ensures whole; many = not_counted _ _ _ c.checked_add.ensures whole }

pub count-returns-in_err-below-clause-many : goal.count-returns-in_err-below-clause-many
count-returns-in_err-below-clause-many t c = rw c.from_residual.ensures (below_counts c.args.tree.now (rw c.as_slice.ensures.value at c.in_err-below.ensures.many))

pub count_each-returns-in_err-count-clause-many : goal.count_each-returns-in_err-count-clause-many
count_each-returns-in_err-count-clause-many t c =
    rw c.from_residual.ensures
    (past_each c.args.trees.now c.loop-tree.tree-index c.tree-item.result c.loop-tree.total _ c.loop-tree-test.true c.loop-tree.invariant (ap size c.tree-item.is) (omega (arith, c.in_err-count.ensures.many)))

pub count_each-returns-in_err-total-clause-many : goal.count_each-returns-in_err-total-clause-many
count_each-returns-in_err-total-clause-many t c =
    rw c.from_residual-in_err-total.ensures
    (past_each c.args.trees.now c.loop-tree.tree-index c.tree-item.result c.loop-tree.total c.in_ok-count.field-0 c.loop-tree-test.true c.loop-tree.invariant (c.in_ok-count.ensures.number ∙ ap size c.tree-item.is) (not_below _ c.in_err-total.ensures))
