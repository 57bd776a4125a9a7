-- Names by the order of names.
use Rattle.std.specs.Prelude.{◌≡◌, ℕ, List, Option, Some, None, slice_get, Vec}
use Rattle.std.specs.BTreeMap.{BTreeMap, get_by}
use Rattle.std.specs.Cmp.Lexicographic.{slice_cmp}
use Rattle.std.specs.Ordering.{nat_cmp}

-- what a map finds at a word
abbrev pub found_in : {A : Type 0} → BTreeMap (Vec ℕ A) ℕ → List ℕ → Option ℕ
found_in m word = get_by (λ k. slice_cmp nat_cmp word k.items) m

-- the answer is the place of the word in the list, or none where it stands nowhere
abbrev pub IsPlace : List (List ℕ) → List ℕ → Option ℕ → Type 0
IsPlace names word None = (i : ℕ) → slice_get names i ≡ Some word → ⊥
IsPlace names word (Some i) = slice_get names i ≡ Some word

-- each word's answer is its place
abbrev pub ArePlaces : List (List ℕ) → (List ℕ → Option ℕ) → Type 0
ArePlaces names found = (word : List ℕ) → IsPlace names word (found word)
