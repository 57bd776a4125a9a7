-- What is answered for a list of tokens: what it derives, or its first fault. The grammar is one for each number of brackets that may be open.
use Rattle.std.specs.Prelude.{◌≡◌, ℕ, suc, Bool, true, List, [], ◌∷◌, ◌++◌, length}
use Rattle.dactl_grammar.specs.Grammar.{Grammar}

-- the tokens begin a text, with however many brackets open
abbrev pub Begins : {T A : Type 0} → (ℕ → Grammar T A) → List T → Type 0
Begins G l = (n : ℕ) × (G n).begins l

-- the tokens up to and with the one at a place begin no text; the end of the list counts as a token there
abbrev pub NoneWithNext : {T A : Type 0} → (ℕ → Grammar T A) → List T → List T → Type 0
NoneWithNext {T} {A} G front [] = (n : ℕ) (a : A) → (G n).whole front a → ⊥
NoneWithNext G front (t ∷ rest) = Begins G (front ++ t ∷ []) → ⊥

-- the first token up to and with which the tokens begin no text has this many tokens from it on, and no bracket before it is one too many
pub record FirstUnexpected {T A : Type 0} (G : ℕ → Grammar T A) (most : ℕ) (l : List T) (left : ℕ) : Type 0 where
  pub front : List T
  pub rest : List T
  pub parts : l ≡ front ++ rest
  pub place : left ≡ length rest
  pub before : (G most).begins front
  pub none : NoneWithNext G front rest

-- the bracket with which one too many is open: with it the tokens begin a text, but none with at most so many open
pub record FirstTooDeep {T A : Type 0} (is_bracket : T → Bool) (G : ℕ → Grammar T A) (most : ℕ) (l : List T) (left : ℕ) : Type 0 where
  pub front : List T
  pub bracket : T
  pub rest : List T
  pub parts : l ≡ front ++ bracket ∷ rest
  pub place : left ≡ suc (length rest)
  pub opens : is_bracket bracket ≡ true
  pub before : (G most).begins front
  pub one_more : (G (suc most)).begins (front ++ bracket ∷ [])
  pub too_many : (G most).begins (front ++ bracket ∷ []) → ⊥
