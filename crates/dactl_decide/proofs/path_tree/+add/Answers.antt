use Rattle.std.proofs.Common.{refl}
use Rattle.dactl_decide.specs.declared.path_tree.PathTree.TheViews.{out-roll-PathTree}
use Rattle.dactl_decide.proofs.Trees.{symbol_added, merging_all, both_added, tests-Union, tests-Less}
use Rattle.dactl_decide.proofs.path_tree.+add.Goals as goal

pub add-returns-in_ok-add_each-in-Sym : goal.add-returns-in_ok-add_each-in-Sym
add-returns-in_ok-add_each-in-Sym t c =
    let widened = simp out-roll-PathTree at c.in_ok-widen-in-Sym.ensures.same in
    let merged = rw c.as_slice.ensures at c.in_ok-add_each-in-Sym.ensures in
    rw c.in-Sym.is (symbol_added c.args.tree.now _ c.widen.new.trees.items c.add_each.new.trees.items c.in-Sym.symbol c.in-Sym.args (simp out-roll-PathTree refl) (simp out-roll-PathTree refl) widened (simp out-roll-PathTree at merged))

pub add-returns-in_ok-add-in-Union-2 : goal.add-returns-in_ok-add-in-Union-2
add-returns-in_ok-add-in-Union-2 t c =
    let first = rw c.get-in-Union.ensures at c.in_ok-add-in-Union.ensures in
    let second = rw c.get-in-Union-2.ensures at c.in_ok-add-in-Union-2.ensures in
    rw c.in-Union.is (both_added c.args.tree.now c.add-in-Union.new.tree c.add-in-Union-2.new.tree _ c.in-Union.left c.in-Union.right (tests-Union c.in-Union.left c.in-Union.right) first second)

pub add-returns-in_ok-add-in-Less-2 : goal.add-returns-in_ok-add-in-Less-2
add-returns-in_ok-add-in-Less-2 t c =
    let first = rw c.get-in-Less.ensures at c.in_ok-add-in-Less.ensures in
    let second = rw c.get-in-Less-2.ensures at c.in_ok-add-in-Less-2.ensures in
    rw c.in-Less.is (both_added c.args.tree.now c.add-in-Less.new.tree c.add-in-Less-2.new.tree _ c.in-Less.left c.in-Less.right (tests-Less c.in-Less.left c.in-Less.right) first second)

pub add_each-returns : goal.add_each-returns
add_each-returns t c = merging_all _ _ _ _ c.loop-place-test.false c.loop-place.invariant
