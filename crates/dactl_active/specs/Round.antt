-- Which places a ring has of which only those in front are stored. No public clause cites this module.
use Rattle.std.specs.Prelude.{ℕ, ◌-◌, ◌≤◌, false, List, [], ◌∷◌, ◌++◌, length, replicate}
use Rattle.dactl_active.specs.declared.places.Place.{Place}

-- a place that is in no ring
abbrev pub blank : Place
blank = record { next = 0; previous = 0; present = false }

-- what is stored, then the places of the other numbers, and the anchor's
abbrev pub round : ℕ → List Place → Place → List Place
round room stored anchor = (stored ++ replicate (room - length stored) blank) ++ anchor ∷ []

-- there is memory for the places of all numbers
pub record IsStored (room : ℕ) (stored : List Place) (capacity : ℕ) : Type 0 where
  pub few : length stored ≤ room
  pub taken : room ≤ capacity
