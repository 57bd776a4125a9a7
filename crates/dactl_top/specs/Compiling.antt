-- What the bytes of a text mean: a program, or the first fault. The text is one of modules or, by the flag, one of equations.
use Rattle.std.specs.Prelude.{◌≡◌, ℕ, ◌⊎◌, Bool, true, false, List, Result, Ok, Err}
use Rattle.dactl_base.specs.declared.refusal.Refusal.{Refusal}
use Rattle.dactl_base.specs.declared.refusal.TextFault.{TextFault}
use Rattle.dactl_base.specs.declared.refusal.TextFault.TheVariants as faults
use Rattle.dactl_model.specs.declared.program.Program.{Program}
use Rattle.dactl_tokens.specs.declared.token.Token.{Token}
use Rattle.dactl_tokens.specs.Lexes.{Lexes}
use Rattle.dactl_tokens.specs.Answer as tokens
use Rattle.dactl_meaning.specs.declared.tree.Text.{Text}
use Rattle.dactl_syntax.specs.Answer as grammar
use Rattle.dactl_syntax.specs.Laws.{Reads}
use Rattle.dactl_meaning.specs.Faults.{NoFault, IsLeastFault}
use Rattle.dactl_meaning.specs.Meaning.{TreeFault, program_of}
use Rattle.fun_syntax.specs.Reads as reads
use Rattle.fun_program.specs.Compiling as equations

-- ---- a text of modules

-- the bytes read a tree that has no fault, and the program is the tree's
pub record IsProgramOf (bytes : List ℕ) (p : Program) : Type 0 where
  pub tree : Text
  pub reads : Reads bytes tree
  pub faultless : NoFault (TreeFault tree)
  pub program : p ≡ program_of tree

-- the bytes are gaps and tokens, and the first fault of the grammar is this one
pub record IsGrammarFault (bytes : List ℕ) (r : Refusal) : Type 0 where
  pub tokens : List Token
  pub lexes : Lexes bytes tokens
  pub first : grammar.IsFirstFault bytes tokens r

-- the bytes read a tree, and its least fault is this one
pub record IsMeaningFault (bytes : List ℕ) (r : Refusal) : Type 0 where
  pub tree : Text
  pub reads : Reads bytes tree
  pub least : IsLeastFault (TreeFault tree) r

-- the first fault of a text: of its tokens, of its grammar, or of its tree
abbrev pub IsFaultOf : List ℕ → Refusal → Type 0
IsFaultOf bytes r = tokens.IsFirstFault bytes r ⊎ (IsGrammarFault bytes r ⊎ IsMeaningFault bytes r)

-- the text means this program, and no other, and it has no fault
pub record MeansProgram (bytes : List ℕ) (p : Program) : Type 0 where
  pub is : IsProgramOf bytes p
  pub only : (q : Program) → IsProgramOf bytes q → p ≡ q
  pub faultless : NoFault (IsFaultOf bytes)

-- the text has this first fault, and no other, and it means no program
pub record MeansFault (bytes : List ℕ) (r : Refusal) : Type 0 where
  pub is : IsFaultOf bytes r
  pub only : (other : Refusal) → IsFaultOf bytes other → r ≡ other
  pub none : (p : Program) → ¬ IsProgramOf bytes p

-- what is answered for it, memory aside
abbrev pub Compiles : List ℕ → Result Program TextFault → Type 0
Compiles bytes (Ok p) = MeansProgram bytes p
Compiles bytes (Err (faults.Refused r)) = MeansFault bytes r
Compiles bytes (Err faults.Memory) = Unit {0}

-- ---- a text of modules, or where the flag is set one of equations

-- the text is this program's
abbrev pub IsProgramBy : Bool → List ℕ → Program → Type 0
IsProgramBy false bytes p = IsProgramOf bytes p
IsProgramBy true bytes p = equations.IsProgramOf bytes p

-- the text has this first fault
abbrev pub IsFaultBy : Bool → List ℕ → Refusal → Type 0
IsFaultBy false bytes r = IsFaultOf bytes r
IsFaultBy true bytes r = reads.IsFaultOf bytes r

-- it means this program, and no other, and it has no fault
abbrev pub MeansBy : Bool → List ℕ → Program → Type 0
MeansBy false bytes p = MeansProgram bytes p
MeansBy true bytes p = equations.MeansProgram bytes p

-- it has this first fault, and no other, and it means no program
abbrev pub MeansFaultBy : Bool → List ℕ → Refusal → Type 0
MeansFaultBy false bytes r = MeansFault bytes r
MeansFaultBy true bytes r = equations.MeansFault bytes r

-- what is answered for it, memory aside
abbrev pub CompilesBy : Bool → List ℕ → Result Program TextFault → Type 0
CompilesBy fun bytes (Ok p) = MeansBy fun bytes p
CompilesBy fun bytes (Err (faults.Refused r)) = MeansFaultBy fun bytes r
CompilesBy fun bytes (Err faults.Memory) = Unit {0}
