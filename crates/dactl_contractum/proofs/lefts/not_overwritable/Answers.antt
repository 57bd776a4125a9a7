use Rattle.std.proofs.Common.{ℕ, Bool, ◌++◌, ap, ◌∙◌}
use Rattle.std.specs.Borrow.{Bor}
use Rattle.dactl_base.specs.declared.refusal.Kind.TheVariants as kinds
use Rattle.dactl_model.specs.declared.program.Class.TheVariants as classes
use Rattle.dactl_meaning.specs.declared.tree.Name.{Name}
use Rattle.dactl_meaning.specs.RuleFaults.{is_class}
use Rattle.dactl_symbols.specs.Scoping.{class_in}
use Rattle.dactl_contractum.specs.Told.{fault_at}
use Rattle.dactl_contractum.specs.Lefts.{is_fixed, left_fixed}
use Rattle.dactl_contractum.proofs.LeftSides.{flat_step}
use Rattle.dactl_contractum.proofs.lefts.not_overwritable.Goals as goal

pub loop-left-preserved : goal.loop-left-preserved
loop-left-preserved c =
    let writable : ℕ → Bool = λ f. is_class classes.Overwritable (class_in c.args.viewer.scopes.now c.args.viewer.owner f) in
    let left = c.left-item.result in
    let holds = c.is_fixed_variable-holds.ensures ∙ ap (is_fixed writable c.args.variables.now c.args.roots.now c.args.pattern.now) c.as_slice-word.ensures in
    flat_step (left_fixed writable c.args.variables.now c.args.roots.now c.args.pattern.now) (λ (n : Bor Name). n.now) c.args.lefts.now c.loop-left.left-index left c.args.faults.now.items c.loop-left.faults.items c.fault_at.new.faults.items
    c.loop-left-test.true c.left-item.is c.loop-left.invariant
    (c.in_ok-fault_at.ensures ∙ ap (λ (b : Bool). c.loop-left.faults.items ++ fault_at b kinds.NotOverwritable left.now.place) holds)
