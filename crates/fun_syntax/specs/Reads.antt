-- What the bytes of a text of equations mean: the equations, or the first fault.
use Rattle.std.specs.Prelude.{◌≡◌, ℕ, ◌⊎◌, List, [], Result, Ok, Err}
use Rattle.dactl_base.specs.declared.refusal.Refusal.{Refusal}
use Rattle.dactl_base.specs.declared.refusal.TextFault.{TextFault}
use Rattle.dactl_base.specs.declared.refusal.TextFault.TheVariants as faults
use Rattle.dactl_tokens.specs.declared.token.Token.{Token}
use Rattle.dactl_tokens.specs.Answer as tokens
use Rattle.dactl_tokens.specs.Lexes.{Lexes}
use Rattle.fun_meaning.specs.declared.tree.Fun.{Fun}
use Rattle.fun_syntax.specs.Answer as grammar
use Rattle.fun_syntax.specs.Answer.{AreEquations}
use Rattle.fun_syntax.specs.Faults.{faults_of}
use Rattle.fun_syntax.specs.Least.{IsLeast}

-- the bytes are gaps and tokens that derive the equations
pub record FunReads (bytes : List ℕ) (e : Fun) : Type 0 where
  pub tokens : List Token
  pub lexes : Lexes bytes tokens
  pub derives : AreEquations bytes tokens e

-- the bytes read the equations, and these have no fault in their names
pub record IsFunOf (bytes : List ℕ) (e : Fun) : Type 0 where
  pub reads : FunReads bytes e
  pub faultless : faults_of e ≡ []

-- the bytes are gaps and tokens, and the first fault of the grammar is this one
pub record IsGrammarFault (bytes : List ℕ) (r : Refusal) : Type 0 where
  pub tokens : List Token
  pub lexes : Lexes bytes tokens
  pub first : grammar.IsFirstFault bytes tokens r

-- the bytes read equations, and the least fault of their names is this one
pub record IsNameFault (bytes : List ℕ) (r : Refusal) : Type 0 where
  pub equations : Fun
  pub reads : FunReads bytes equations
  pub least : IsLeast (faults_of equations) r

-- the first fault of a text: of its tokens, of its grammar, or of its names
abbrev pub IsFaultOf : List ℕ → Refusal → Type 0
IsFaultOf bytes r = tokens.IsFirstFault bytes r ⊎ (IsGrammarFault bytes r ⊎ IsNameFault bytes r)

-- the text means these equations, and no others, and it has no fault
pub record MeansFun (bytes : List ℕ) (e : Fun) : Type 0 where
  pub is : IsFunOf bytes e
  pub only : (other : Fun) → IsFunOf bytes other → e ≡ other
  pub faultless : (r : Refusal) → ¬ IsFaultOf bytes r

-- the text has this first fault, and no other, and it means no equations
pub record MeansFault (bytes : List ℕ) (r : Refusal) : Type 0 where
  pub is : IsFaultOf bytes r
  pub only : (other : Refusal) → IsFaultOf bytes other → r ≡ other
  pub none : (e : Fun) → ¬ IsFunOf bytes e

-- what is answered for a text, memory aside
abbrev pub Answers : List ℕ → Result Fun TextFault → Type 0
Answers bytes (Ok e) = MeansFun bytes e
Answers bytes (Err (faults.Refused r)) = MeansFault bytes r
Answers bytes (Err faults.Memory) = Unit {0}
