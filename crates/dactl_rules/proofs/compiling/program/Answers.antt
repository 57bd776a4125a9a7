use Rattle.std.proofs.Common.{◌≡◌, ◌∙◌, map, refl, ap, sym, subst, inl, inr}
use Rattle.std.specs.List.{flat_map}
use Rattle.std.proofs.lemmas.Result.{err_from_is_err_and}
use Rattle.dactl_model.specs.Programs.{IsValid}
use Rattle.std.specs.Borrow.{Bor}
use Rattle.dactl_meaning.specs.declared.tree.Text.{Text}
use Rattle.dactl_meaning.specs.Meaning.{RuleFault, is_wide}
use Rattle.dactl_symbols.specs.Least.{TellsLeast}
use Rattle.dactl_rules.specs.Drafts.{IsDraft}
use Rattle.dactl_symbols.specs.Scoping.{seen_in}
use Rattle.dactl_symbols.specs.Sights.{Sights}
use Rattle.dactl_contractum.specs.Initials.{first_start, initials_in}
use Rattle.dactl_contractum.specs.Listing.{placed}
use Rattle.dactl_rules.proofs.WholePrograms.{cycle_due, late_least, program_is, valid}
use Rattle.dactl_rules.proofs.compiling.program.Goals as goal

pub returns-in_err-patterns-clause-faults : goal.returns-in_err-patterns-clause-faults
returns-in_err-patterns-clause-faults c =
    let p = err_from_is_err_and c.from_residual.result c.from_residual.ensures.1 in
    rw (p.1, p.2) (cycle_due c.args.text.now c.in_err-patterns.field-0.0 c.in_err-patterns.ensures.faults)

pub returns-in-Some-clause-faults : goal.returns-in-Some-clause-faults
returns-in-Some-clause-faults c =
    let drafted = subst (λ (t : Bor Text). IsDraft t.now c.in_ok-compiled.compiled) c.in_ok-patterns.ensures.text c.in_ok-compiled.ensures.rules in
    late_least c.args.text.now c.in-Some.refusal c.in_ok-patterns.ensures.faults (subst (TellsLeast (RuleFault c.args.text.now)) c.in-Some.is drafted.tells)

pub returns-clause-faults : goal.returns-clause-faults
returns-clause-faults c =
    let drafted = subst (λ (t : Bor Text). IsDraft t.now c.in_ok-compiled.compiled) c.in_ok-patterns.ensures.text c.in_ok-compiled.ensures.rules in
    let sound = subst (TellsLeast (RuleFault c.args.text.now)) c.in_default.is drafted.tells in
    λ r h. elim h [ inl cycle ↦ c.in_ok-patterns.ensures.faults r cycle | inr rule ↦ sound r rule ]

pub returns-clause-meaning : goal.returns-clause-meaning
returns-clause-meaning c =
    let drafted = subst (λ (t : Bor Text). IsDraft t.now c.in_ok-compiled.compiled) c.in_ok-patterns.ensures.text c.in_ok-compiled.ensures.rules in
    c.in_ok-assemble.ensures
    ∙ program_is c.args.text.now c.args.scopes.now c.requires (is_wide c.args.text.now) c.in_ok-compiled.compiled.rules.items c.in_ok-compiled.start (map placed c.as_slice.result.now) refl
    (drafted.rules c.in_default.is)
    (subst (λ (s : Bor Sights). c.in_ok-compiled.start ≡ first_start (seen_in s.now) (flat_map initials_in (map placed c.as_slice.result.now))) c.in_ok-patterns.ensures.scopes (c.in_ok-compiled.ensures.start c.in_default.is))
    (ap (map placed) c.as_slice.ensures.value ∙ c.in_ok-items.ensures)

pub returns-clause-valid : goal.returns-clause-valid
returns-clause-valid c = λ spelled scope.
    let drafted = subst (λ (t : Bor Text). IsDraft t.now c.in_ok-compiled.compiled) c.in_ok-patterns.ensures.text c.in_ok-compiled.ensures.rules in
    let sound = subst (TellsLeast (RuleFault c.args.text.now)) c.in_default.is drafted.tells in
    let counted = drafted.counted c.in_default.is c.if-group-ge-GROUP_NUMBERS.false in
    subst IsValid (sym (returns-clause-meaning c)) (valid c.args.text.now counted c.in_ok-patterns.ensures.faults sound spelled scope)
