-- Tokens as grammars have them, and the parts that are in more than one grammar.
use Rattle.std.specs.Prelude.{ℕ, ℤ, pos, Bool, List, ◌∷◌, if◌then◌else◌}
use Rattle.dactl_base.specs.declared.refusal.Place.{Place}
use Rattle.dactl_tokens.specs.Spelling.{is_too_wide, value_of}
use Rattle.dactl_meaning.specs.declared.tree.Name.{Name}
use Rattle.dactl_grammar.specs.Grammar.{Grammar, one, row, many, means}
use Rattle.dactl_terminals.specs.declared.token.Sort.{Sort}
use Rattle.dactl_terminals.specs.declared.token.Sort.TheVariants as s
use Rattle.dactl_terminals.specs.Sort.{same_sort}

-- a token, its spelling and its place
pub record Tok : Type 0 where
  pub sort : Sort
  pub word : List ℕ
  pub place : ℕ

abbrev pub Part_of : Type 0 → Type 1
Part_of A = Grammar Tok A

abbrev pub is : Sort → Tok → Bool
is k t = same_sort k t.sort

abbrev pub sign : Sort → Part_of Tok
sign k = one (is k)

-- a part behind a token, and before one
abbrev pub behind : {A : Type 0} → Sort → Part_of A → Part_of A
behind k P = means (λ v. v.1) (row (sign k) (λ _. P))

abbrev pub before : {A : Type 0} → Part_of A → Sort → Part_of A
before P k = means (λ v. v.0) (row P (λ _. sign k))

-- a part, and then another that doesn't depend on it
abbrev pub pair : {A B : Type 0} → Part_of A → Part_of B → Part_of (A × B)
pair P Q = row P (λ _. Q)

abbrev pub listed : {A : Type 0} → Part_of A → Part_of A → Part_of (List A)
listed P Q = means (λ v. v.0 ∷ v.1) (pair P (many Q))

abbrev pub separated : {A : Type 0} → Sort → Part_of A → Part_of (List A)
separated k P = listed P (behind k P)

-- where a token stands
abbrev pub here : Tok → Place
here t = record { byte = t.place }

abbrev pub name_of : Tok → Name
name_of t = record { text = t.word; place = here t }

abbrev pub upper : Part_of Name
upper = means name_of (sign s.Upper)

abbrev pub lower : Part_of Name
lower = means name_of (sign s.Lower)

abbrev pub names : Part_of (List Name)
names = separated s.Comma upper

-- the value of an integer's bytes, which fit 128 bits or 64
abbrev pub value_at : Bool → List ℕ → ℤ
value_at wide w = if is_too_wide wide w then pos 0 else value_of w
