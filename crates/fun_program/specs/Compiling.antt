-- What the bytes of a text of equations mean: a program, or the first fault.
use Rattle.std.specs.Prelude.{◌≡◌, ℕ, List, Result, Ok, Err}
use Rattle.dactl_base.specs.declared.refusal.Refusal.{Refusal}
use Rattle.dactl_base.specs.declared.refusal.TextFault.{TextFault}
use Rattle.dactl_base.specs.declared.refusal.TextFault.TheVariants as faults
use Rattle.dactl_model.specs.declared.program.Program.{Program}
use Rattle.fun_meaning.specs.declared.tree.Fun.{Fun}
use Rattle.fun_syntax.specs.Reads.{IsFunOf, IsFaultOf}
use Rattle.fun_laws.specs.Statements.{program_for}

-- the bytes read equations without a fault, and the program is that of their translation
pub record IsProgramOf (bytes : List ℕ) (p : Program) : Type 0 where
  pub equations : Fun
  pub reads : IsFunOf bytes equations
  pub program : p ≡ program_for equations

-- the text means this program, and no other, and it has no fault
pub record MeansProgram (bytes : List ℕ) (p : Program) : Type 0 where
  pub is : IsProgramOf bytes p
  pub only : (q : Program) → IsProgramOf bytes q → p ≡ q
  pub faultless : (r : Refusal) → ¬ IsFaultOf bytes r

-- the text has this first fault, and no other, and it means no program
pub record MeansFault (bytes : List ℕ) (r : Refusal) : Type 0 where
  pub is : IsFaultOf bytes r
  pub only : (other : Refusal) → IsFaultOf bytes other → r ≡ other
  pub none : (p : Program) → ¬ IsProgramOf bytes p

-- what is answered for a text, memory aside
abbrev pub Compiles : List ℕ → Result Program TextFault → Type 0
Compiles bytes (Ok p) = MeansProgram bytes p
Compiles bytes (Err (faults.Refused r)) = MeansFault bytes r
Compiles bytes (Err faults.Memory) = Unit {0}
