-- What is answered for a text of equations, step by step.
use Rattle.std.proofs.Common.{◌≡◌, ℕ, ◌⊎◌, List, Result, Ok, Err, IfOk, inl, inr, sym, ap, subst, ◌∙◌}
use Rattle.dactl_base.specs.declared.refusal.TextFault.{TextFault}
use Rattle.dactl_base.specs.declared.refusal.TextFault.TheVariants as faults
use Rattle.dactl_model.specs.declared.program.Program.{Program}
use Rattle.dactl_meaning.specs.declared.tree.Text.{Text}
use Rattle.dactl_meaning.specs.Faults.{NoFault, IsDueFault, TellsFaults}
use Rattle.dactl_meaning.specs.ScopeFaults.{ScopeFault}
use Rattle.dactl_meaning.specs.Meaning.{CycleFault, RuleFault, TreeFault, program_of}
use Rattle.dactl_meaning.specs.Spelling.{IsSpelled}
use Rattle.fun_meaning.specs.declared.tree.Fun.{Fun}
use Rattle.fun_syntax.specs.Reads.{MeansFun, Answers}
use Rattle.fun_compile.specs.Translated.{translated}
use Rattle.fun_reading.proofs.Sound.{faultless_are_sound}
use Rattle.fun_reading.proofs.Small.{faultless_are_small}
use Rattle.fun_reading.proofs.Spelt.{read_are_spelt}
use Rattle.fun_laws.specs.Statements.{program_for}
use Rattle.fun_laws.proofs.NoFaults.{translation_has_no_fault}
use Rattle.fun_laws.proofs.Spelled.{spelled}
use Rattle.fun_program.specs.Compiling.{Compiles}

-- the text is refused
pub refused : (bytes : List ℕ) (f : TextFault) → Answers bytes (Err f) → Compiles bytes (Err f)
refused bytes faults.Memory told = tt
refused bytes (faults.Refused r) told = record { is = told.is; only = told.only; none = λ p is. told.none is.equations is.reads }

-- the tree of the equations of a text
module _ (bytes : List ℕ) (e : Fun) (t : Text) (means : MeansFun bytes e) (tree : t ≡ translated e) where
  no_fault : NoFault (TreeFault t)
  no_fault = subst (λ (u : Text). NoFault (TreeFault u)) (sym tree) (translation_has_no_fault e (faultless_are_sound e means.is.faultless) (faultless_are_small e means.is.faultless))

  pub no_scope_fault : NoFault (ScopeFault t)
  no_scope_fault r has = no_fault r (inl has)

  pub tree_spelled : IsSpelled t
  tree_spelled = subst IsSpelled (sym tree) (spelled e (read_are_spelt bytes e means.is.reads))

  -- the names of the tree have no fault, so only memory was wanting
  pub scope_wants : (f : TextFault) → IsDueFault (ScopeFault t) f → Compiles bytes (Err f)
  scope_wants faults.Memory due = tt
  scope_wants (faults.Refused r) due = absurd (no_scope_fault r due.holds)

  -- nor have its rules
  pub rules_answer : (result : Result Program TextFault) → TellsFaults (λ r. CycleFault t r ⊎ RuleFault t r) result → IfOk result (λ p. p ≡ program_of t) → Compiles bytes result
  rules_answer (Err faults.Memory) tells is = tt
  rules_answer (Err (faults.Refused r)) tells is = absurd (no_fault r (inr tells.holds))
  rules_answer (Ok p) tells is =
      let program : p ≡ program_for e = is ∙ ap program_of tree in
      record {
        is = record { equations = e; reads = means.is; program = program };
        only = λ q other. program ∙ ap program_for (means.only other.equations other.reads) ∙ sym other.program;
        faultless = means.faultless;
      }
