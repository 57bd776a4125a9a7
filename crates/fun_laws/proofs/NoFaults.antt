-- The translation of sound equations that are not too large has no fault.
use Rattle.std.proofs.Common.{inl, inr}
use Rattle.fun_laws.specs.Statements.{TranslationHasNoFault}
use Rattle.fun_laws.proofs.NoRuleFaults.{no_rule_fault}
use Rattle.fun_laws.proofs.NoScopeFaults.{no_scope_fault, no_cycle_fault}

pub translation_has_no_fault : TranslationHasNoFault
translation_has_no_fault e sound small r fault =
    elim fault [
      | inl scope ↦ no_scope_fault e sound small r scope
      | inr others ↦ elim others [ inl cycle ↦ no_cycle_fault e sound r cycle | inr rule ↦ no_rule_fault e sound small r rule ]
    ]
