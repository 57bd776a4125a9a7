-- What maps from words find.
use Rattle.std.specs.Prelude.{ℕ, Vec, List, Option, Some, None, if◌then◌else◌}
use Rattle.std.specs.BTreeMap.{BTreeMap, get_by}
use Rattle.std.specs.Cmp.Lexicographic.{slice_cmp}
use Rattle.std.specs.Option.{option_or}
use Rattle.std.specs.Ordering.{nat_cmp}
use Rattle.std.specs.Str.{bytes_eq}

-- what is known of words
abbrev pub Known : Type 0 → Type 0
Known V = List ℕ → Option V

-- what a map has for a word
abbrev pub found_in : {A V : Type 0} → BTreeMap (Vec ℕ A) V → Known V
found_in m word = get_by (λ k. slice_cmp nat_cmp word k.items) m

-- nothing is known
abbrev pub nothing : {V : Type 0} → Known V
nothing word = None

-- the same, and this of one word more, unless it is known already
unfoldable pub with_word : {V : Type 0} → Known V → List ℕ → V → Known V
with_word known word value = λ w. option_or (known w) (if bytes_eq w word then Some value else None)
