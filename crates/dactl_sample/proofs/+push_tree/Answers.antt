use Rattle.std.proofs.Common.{◌<◌, arith}
use Rattle.dactl_sample.proofs.Trees.{grown_one, grown_more}
use Rattle.dactl_sample.proofs.+push_tree.Goals as goal

pub returns-then-count-eq1 : goal.returns-then-count-eq1
returns-then-count-eq1 t c = grown_one _ _ _ _ c.if-count-eq1.true c.in_ok-push_leaf.ensures

pub returns : goal.returns
returns t c =
    let above : 1 < c.args.count = (let some = c.requires.some in let other = c.if-count-eq1.false in omega arith) in
    grown_more _ _ _ _ _ _ _ _ above c.in_ok-extend_from_slice.ensures.items c.in_ok-push_tree.ensures c.in_ok-extend_from_slice-2.ensures.items c.in_ok-push_tree-2.ensures c.in_ok-extend_from_slice-3.ensures.items
