use Rattle.std.proofs.Common.{List, Option, length, sym, ap, ◌∙◌, subst}
use Rattle.dactl_base.specs.declared.refusal.Refusal.{Refusal}
use Rattle.dactl_meaning.specs.Meaning.{CycleFault}
use Rattle.dactl_symbols.specs.Least.{TellsLeast}
use Rattle.dactl_patterns.specs.declared.declarations.Declared.{Declared}
use Rattle.dactl_patterns.specs.Cycles.{SomeCycle}
use Rattle.dactl_patterns.proofs.CycleFaults.{text_told}
use Rattle.dactl_patterns.proofs.Tables.{counted}
use Rattle.dactl_patterns.proofs.named.ordered.Goals as goal

pub returns-in-Some-clause-faults : goal.returns-in-Some-clause-faults
returns-in-Some-clause-faults c =
    let told = subst (λ (l : List Declared). TellsLeast (SomeCycle c.args.text.now l) c.in_ok-refusal.field-0) (c.as_slice-2.ensures.value ∙ c.in_ok-order.ensures) c.in_ok-refusal.ensures in
    subst (λ (o : Option Refusal). TellsLeast (CycleFault c.args.text.now) o) c.in-Some.is (text_told c.args.text.now c.in_ok-refusal.field-0 told)

pub returns-clause-faults : goal.returns-clause-faults
returns-clause-faults c =
    let told = subst (λ (l : List Declared). TellsLeast (SomeCycle c.args.text.now l) c.in_ok-refusal.field-0) (c.as_slice-2.ensures.value ∙ c.in_ok-order.ensures) c.in_ok-refusal.ensures in
    subst (λ (o : Option Refusal). TellsLeast (CycleFault c.args.text.now) o) c.in_default.is (text_told c.args.text.now c.in_ok-refusal.field-0 told)

pub returns-clause-count : goal.returns-clause-count
returns-clause-count c = c.sort_by_key.ensures.len ∙ sym c.as_slice.ensures.len ∙ ap length (c.as_slice.ensures.value ∙ c.in_ok-order.ensures) ∙ sym (counted c.args.text.now)
