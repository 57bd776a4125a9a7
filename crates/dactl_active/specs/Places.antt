-- How a ring links its numbers. No public clause cites this module.
use Rattle.std.specs.Prelude.{◌≡◌, ◌≢◌, ℕ, zero, suc, ◌+◌, ◌<◌, ◌^◌, ◌==◌, Bool, true, List, [], ◌∷◌, length, slice_index_or, if◌then◌else◌}
use Rattle.dactl_active.specs.declared.places.Place.{Place}
use Rattle.dactl_active.specs.Ring.{has}
use Rattle.dactl_active.specs.Round.{blank}

abbrev pub next_of : List Place → ℕ → ℕ
next_of places n = (slice_index_or places n blank).next

abbrev pub previous_of : List Place → ℕ → ℕ
previous_of places n = (slice_index_or places n blank).previous

abbrev pub is_present : List Place → ℕ → Bool
is_present places n = (slice_index_or places n blank).present

-- b comes right after a
pub record Joins (places : List Place) (a b : ℕ) : Type 0 where
  pub next : next_of places a ≡ b
  pub previous : previous_of places b ≡ a

-- from a to b by way of the numbers, in their order
abbrev pub Links : List Place → ℕ → List ℕ → ℕ → Type 0
Links places a [] b = Joins places a b
Links places a (n ∷ numbers) b = Joins places a n × Links places n numbers b

-- so many numbers after a
abbrev pub following : List Place → ℕ → ℕ → List ℕ
following places a zero = []
following places a (suc count) = next_of places a ∷ following places (next_of places a) count

-- n is none of the numbers
abbrev pub Lacks : List ℕ → ℕ → Type 0
Lacks [] n = Unit {0}
Lacks (m ∷ numbers) n = (m ≢ n) × Lacks numbers n

-- no two of the numbers are equal
abbrev pub AreApart : List ℕ → Type 0
AreApart [] = Unit {0}
AreApart (n ∷ numbers) = Lacks numbers n × AreApart numbers

-- the places below the room link the numbers round the anchor, which is the place at the room
pub record IsRing (places : List Place) (room count : ℕ) (numbers : List ℕ) : Type 0 where
  pub places_fit : room < 2 ^ 32
  pub long : length places ≡ room + 1
  pub counted : length numbers ≡ count
  pub below : (n : ℕ) → has numbers n ≡ true → n < room
  pub apart : AreApart numbers
  pub linked : Links places room numbers room
  pub marked : (n : ℕ) → n < room → is_present places n ≡ has numbers n

-- b comes after a from now on, and nothing else is changed
pub record Rejoins (old new : List Place) (a b : ℕ) : Type 0 where
  pub long : length new ≡ length old
  pub next : (n : ℕ) → next_of new n ≡ (if n == a then b else next_of old n)
  pub previous : (n : ℕ) → previous_of new n ≡ (if n == b then a else previous_of old n)
  pub present : (n : ℕ) → is_present new n ≡ is_present old n

-- n is marked as present or not, and nothing else is changed
pub record Marks (old new : List Place) (n : ℕ) (present : Bool) : Type 0 where
  pub long : length new ≡ length old
  pub next : (m : ℕ) → next_of new m ≡ next_of old m
  pub previous : (m : ℕ) → previous_of new m ≡ previous_of old m
  pub marked : (m : ℕ) → is_present new m ≡ (if m == n then present else is_present old m)
