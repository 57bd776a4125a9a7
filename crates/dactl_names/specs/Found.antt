-- What a map from names finds.
use Rattle.std.specs.Prelude.{◌≡◌, ℕ, ◌+◌, ◌*◌, ◌&&◌, nat_le, nat_lt, ◌==◌, Bool, Vec, List, [], ◌∷◌, length, Option, Some, None, if◌then◌else◌}
use Rattle.std.specs.BTreeMap.{BTreeMap, get_by}
use Rattle.std.specs.Cmp.Lexicographic.{slice_cmp}
use Rattle.std.specs.List.{list_all}
use Rattle.std.specs.Option.{option_or}
use Rattle.std.specs.Ordering.{nat_cmp}
use Rattle.std.specs.Str.{bytes_eq}
use Rattle.dactl_names.specs.declared.map.NameMap.{NameMap}

-- the name has at most seven bytes
abbrev pub is_short : List ℕ → Bool
is_short name = nat_le (length name) 7 && list_all (λ b. nat_lt b 256) name

-- the number of a short name: its bytes, each with one added, as digits to the base 257, the first one least
abbrev pub packed : List ℕ → ℕ
packed [] = 0
packed (b ∷ bs) = 257 * packed bs + b + 1

-- the value of a short name, by its number
abbrev pub found_short : {V : Type 0} → BTreeMap ℕ V → ℕ → Option V
found_short short number = get_by (nat_cmp number) short

-- the value of a long name
abbrev pub found_long : {V A : Type 0} → BTreeMap (Vec ℕ A) V → List ℕ → Option V
found_long long name = get_by (λ k. slice_cmp nat_cmp name k.items) long

-- the value of a name
abbrev pub found : {V : Type 0} → NameMap V → List ℕ → Option V
found m name = if is_short name then found_short m.short (packed name) else found_long m.long name

-- the value, where this is the name, unless it has one
abbrev pub or_given : {V : Type 0} → Option V → Bool → V → Option V
or_given old is value = option_or old (if is then Some value else None)

-- the name has this value, unless it has one; all else that is found stays
abbrev pub Notes : {V : Type 0} → List ℕ → V → NameMap V → NameMap V → Type 0
Notes name value old new = (word : List ℕ) → found new word ≡ or_given (found old word) (bytes_eq name word) value

-- the same of short names, and of long ones
abbrev pub NotesShort : {V : Type 0} → ℕ → V → BTreeMap ℕ V → BTreeMap ℕ V → Type 0
NotesShort number value old new = (other : ℕ) → found_short new other ≡ or_given (found_short old other) (number == other) value

abbrev pub NotesLong : {V A : Type 0} → List ℕ → V → BTreeMap (Vec ℕ A) V → BTreeMap (Vec ℕ A) V → Type 0
NotesLong name value old new = (word : List ℕ) → found_long new word ≡ or_given (found_long old word) (bytes_eq name word) value
