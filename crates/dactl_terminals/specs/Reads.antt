-- What reading the parts that are in more than one grammar gives.
use Rattle.std.specs.Prelude.{Bool, List, ◌∷◌}
use Rattle.dactl_meaning.specs.declared.tree.Name.{Name}
use Rattle.dactl_grammar.specs.Reader.{Reader, read_one, read_row, read_as, read_many}
use Rattle.dactl_terminals.specs.declared.token.Sort.{Sort}
use Rattle.dactl_terminals.specs.declared.token.Sort.TheVariants as s
use Rattle.dactl_terminals.specs.Sort.{same_sort}
use Rattle.dactl_terminals.specs.Parts.{Tok, is, name_of}

abbrev pub Reads : Type 0 → Type 0
Reads A = Reader Tok A

-- the next token's sort passes
abbrev pub by : (Sort → Bool) → Tok → Bool
by f t = f t.sort

abbrev pub read_sign : Sort → Reads Tok
read_sign k = read_one (is k)

abbrev pub read_pair : {A B : Type 0} → Reads A → Reads B → Reads (A × B)
read_pair R S = read_row R (λ _. S)

abbrev pub read_behind : {A : Type 0} → Sort → Reads A → Reads A
read_behind k R = read_as (λ v. v.1) (read_pair (read_sign k) R)

abbrev pub read_before : {A : Type 0} → Reads A → Sort → Reads A
read_before R k = read_as (λ v. v.0) (read_pair R (read_sign k))

abbrev pub read_listed : {A : Type 0} → (Sort → Bool) → Reads A → Reads A → Reads (List A)
read_listed f R S = read_as (λ v. v.0 ∷ v.1) (read_pair R (read_many (by f) S))

unfoldable pub upper_at : Reads Name
upper_at = read_as name_of (read_sign s.Upper)

unfoldable pub lower_at : Reads Name
lower_at = read_as name_of (read_sign s.Lower)

unfoldable pub comma_upper_at : Reads Name
comma_upper_at = read_behind s.Comma upper_at

unfoldable pub names_at : Reads (List Name)
names_at = read_listed (same_sort s.Comma) upper_at comma_upper_at
