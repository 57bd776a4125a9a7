use Rattle.std.proofs.Common.{refl, sym, ◌∙◌}
use Rattle.dactl_contractum.proofs.LeftSides.{none_among, fixed_none, fixed_some}
use Rattle.dactl_contractum.proofs.lefts.is_fixed_variable.Goals as goal

pub returns-in-None : goal.returns-in-None
returns-in-None c = fixed_none _ c.args.variables.now c.args.roots.now c.args.pattern.now c.args.name.now (sym c.in-None.ensures)

pub returns-then-is_none : goal.returns-then-is_none
returns-then-is_none c =
    fixed_some _ c.args.variables.now c.args.roots.now c.args.pattern.now c.args.name.now c.in-Some.number _ c.is_overwritable.result (sym c.in-Some.ensures)
    (none_among c.args.roots.now c.args.name.now c.number-in-Some.result c.is_none.result c.number-in-Some.ensures c.is_none.ensures ∙ c.if-is_none.true) c.is_overwritable.ensures

pub returns-else-is_none : goal.returns-else-is_none
returns-else-is_none c =
    c.if-is_none.false
    ∙ fixed_some _ c.args.variables.now c.args.roots.now c.args.pattern.now c.args.name.now c.in-Some.number _ _ (sym c.in-Some.ensures)
    (none_among c.args.roots.now c.args.name.now c.number-in-Some.result c.is_none.result c.number-in-Some.ensures c.is_none.ensures ∙ c.if-is_none.false) refl
