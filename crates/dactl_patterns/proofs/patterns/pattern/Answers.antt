use Rattle.std.proofs.Common.{subst}
use Rattle.std.specs.Prelude.{Contains}
use Rattle.std.specs.Borrow.{Bor}
use Rattle.dactl_meaning.specs.declared.tree.Text.{Text}
use Rattle.dactl_meaning.specs.RuleFaults.{pattern_faults}
use Rattle.dactl_symbols.specs.Least.{TellsLeast}
use Rattle.dactl_patterns.specs.Expanded.{IsExamined, IsExpansion}
use Rattle.dactl_patterns.proofs.Faultless.{wide_there}
use Rattle.dactl_patterns.proofs.patterns.pattern.Goals as goal

pub returns-in-Some-clause-faults : goal.returns-in-Some-clause-faults
returns-in-Some-clause-faults c =
    let examined = subst (λ (t : Bor Text). IsExamined t.now c.args.owner c.args.named c.args.place.byte c.args.tree.now c.in_ok-variables.field-0) c.in-Ok.ensures.text c.in_ok-variables.ensures in
    subst (TellsLeast (Contains (pattern_faults c.args.text.now c.args.owner c.args.named c.args.place.byte c.args.tree.now))) c.in-Some.is examined.fault

pub unreachable-requires : goal.unreachable-requires
unreachable-requires c =
    let text = c.in-Ok.patterns.text.now in
    let none = subst (TellsLeast (Contains (pattern_faults text c.args.owner c.args.named c.args.place.byte c.args.tree.now))) c.in_default-fault.is c.in_ok-variables.ensures.fault in
    none _ (wide_there text c.args.owner c.args.named c.args.place c.args.tree.now (subst (IsExpansion text c.args.owner c.args.named c.args.tree.now) c.in-None.is c.in_ok-variables.ensures.pat))

pub returns-clause-faults : goal.returns-clause-faults
returns-clause-faults c =
    let examined = subst (λ (t : Bor Text). IsExamined t.now c.args.owner c.args.named c.args.place.byte c.args.tree.now c.in_ok-variables.field-0) c.in-Ok.ensures.text c.in_ok-variables.ensures in
    subst (TellsLeast (Contains (pattern_faults c.args.text.now c.args.owner c.args.named c.args.place.byte c.args.tree.now))) c.in_default-fault.is examined.fault
