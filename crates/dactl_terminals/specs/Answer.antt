-- What is answered where tokens are no text of a grammar: the first fault, and where it stands.
use Rattle.std.specs.Prelude.{◌≡◌, ℕ, ◌-◌, Bool, ◌⊎◌, List, [], ◌∷◌, length, drop}
use Rattle.dactl_base.specs.declared.refusal.Kind.{Kind}
use Rattle.dactl_base.specs.declared.refusal.Kind.TheVariants as kinds
use Rattle.dactl_base.specs.declared.refusal.Refusal.{Refusal}
use Rattle.dactl_grammar.specs.declared.fault.Fault.{Fault}
use Rattle.dactl_grammar.specs.declared.fault.Fault.TheVariants as faults
use Rattle.dactl_grammar.specs.Grammar.{Grammar}
use Rattle.dactl_grammar.specs.Reader.{fault_left}
use Rattle.dactl_grammar.specs.Answer.{FirstUnexpected, FirstTooDeep}
use Rattle.dactl_terminals.specs.Parts.{Tok}

-- where the next token stands, or the text ends
abbrev pub next_place : ℕ → List Tok → ℕ
next_place end [] = end
next_place end (t ∷ l) = t.place

-- the refusal of a fault, told by how many tokens stand from it on
abbrev pub kind_of : Fault → Kind
kind_of (faults.Unexpected left) = kinds.Unexpected
kind_of (faults.TooDeep left) = kinds.TooDeep

abbrev pub refusal_of : ℕ → List Tok → Fault → Refusal
refusal_of end l f = record { kind = kind_of f; place = record { byte = next_place end (drop (length l - fault_left f) l) } }

-- a grammar for each number of brackets that may be open, what is a bracket, and how many may be open
module _ {A : Type 0} (is_bracket : Tok → Bool) (G : ℕ → Grammar Tok A) (most : ℕ) where
  -- the first token such that the tokens up to and with it begin no text stands at a place; the end of the text counts as a token there
  pub record IsUnexpected (end : ℕ) (l : List Tok) (place : ℕ) : Type 0 where
    pub left : ℕ
    pub first : FirstUnexpected G most l left
    pub at : place ≡ next_place end first.rest

  -- the bracket with which one too many is open stands at a place
  pub record IsTooDeep (l : List Tok) (place : ℕ) : Type 0 where
    pub left : ℕ
    pub first : FirstTooDeep is_bracket G most l left
    pub at : place ≡ first.bracket.place

  -- the first fault of the tokens of a text that ends at a place
  abbrev pub IsFault : ℕ → List Tok → Refusal → Type 0
  IsFault end l r =
      ((r.kind ≡ kinds.Unexpected) × IsUnexpected end l r.place.byte)
      ⊎ ((r.kind ≡ kinds.TooDeep) × IsTooDeep l r.place.byte)
