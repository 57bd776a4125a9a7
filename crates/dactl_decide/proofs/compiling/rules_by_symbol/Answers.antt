use Rattle.std.proofs.Common.{arith, refl, ◌≡◌, subst, length}
use Rattle.dactl_decide.specs.Gathering.{AreListsBelow}
use Rattle.dactl_decide.proofs.Gathered.{item_read, symbol_within, lists_more}
use Rattle.dactl_decide.proofs.compiling.rules_by_symbol.Goals as goal

pub index_mut-requires : goal.index_mut-requires
index_mut-requires c =
    let is = item_read _ c.args.program.now.rules _ c.rule-item.result c.as_slice-rule-items.ensures c.loop-number-test.true c.rule-item.is in
    omega (arith, c.loop-number.lists.ok.0, c.loop-number.invariant.long, symbol_within _ _ _ c.requires is)

pub loop-number-preserved : goal.loop-number-preserved
loop-number-preserved c =
    let is = item_read _ c.args.program.now.rules _ c.rule-item.result c.as_slice-rule-items.ensures c.loop-number-test.true c.rule-item.is in
    let inside = symbol_within _ _ _ c.requires is in
    let list = item_read c.loop-number.lists.items c.loop-number.lists.items c.rule-item.result.symbol c.index_mut.result.now refl (rw c.loop-number.invariant.long inside) (c.index_mut.ensures.value) in
    lists_more _ _ _ _ c.rule-item.result c.index_mut.result.now _ is inside list c.in_ok-push.ensures.items c.loop-number.invariant

pub returns : goal.returns
returns c =
    let all = rw c.as_slice-rule-items.ensures at c.loop-number-test.false in
    let end = rw c.as_slice-rule-items.ensures at c.loop-number.auto.number-end in
    let same : c.loop-number.number ≡ length c.args.program.now.rules = omega (arith, all, end) in
    subst (λ k. AreListsBelow c.args.program.now.rules (length c.args.program.now.symbols) k c.loop-number.lists.items) same c.loop-number.invariant
