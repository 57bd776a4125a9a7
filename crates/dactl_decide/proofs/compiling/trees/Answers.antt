use Rattle.std.proofs.Common.{arith, refl}
use Rattle.dactl_decide.proofs.Gathered.{item_read, symbol_within, trees_more}
use Rattle.dactl_decide.proofs.compiling.trees.Goals as goal

pub index_mut-requires : goal.index_mut-requires
index_mut-requires c =
    let is = item_read _ c.args.program.now.rules _ c.rule-item.result c.as_slice-rule-items.ensures c.loop-rule-test.true c.rule-item.is in
    omega (arith, c.loop-rule.trees.ok.0, c.loop-rule.invariant.long, symbol_within _ _ _ c.requires is)

pub loop-rule-preserved : goal.loop-rule-preserved
loop-rule-preserved c =
    let is = item_read _ c.args.program.now.rules _ c.rule-item.result c.as_slice-rule-items.ensures c.loop-rule-test.true c.rule-item.is in
    let within = rw c.as_slice-rule-items.ensures at c.loop-rule-test.true in
    let inside = symbol_within _ _ _ c.requires is in
    let tree = item_read c.loop-rule.trees.items c.loop-rule.trees.items c.rule-item.result.symbol c.index_mut.result.now refl (rw c.loop-rule.invariant.long inside) (c.index_mut.ensures.value) in
    trees_more _ _ _ _ c.rule-item.result c.index_mut.result.now _ is within inside tree c.in_ok-add.ensures c.loop-rule.invariant
