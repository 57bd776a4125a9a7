-- The faults of one pattern, one after the other.
use Rattle.std.specs.Prelude.{ℕ, Bool, false, ◌&&◌, ◌||◌, List, [], ◌∷◌, ◌++◌, map, nat_lt, if◌then◌else◌}
use Rattle.std.specs.List.{flat_map}
use Rattle.dactl_base.specs.declared.refusal.Place.{Place}
use Rattle.dactl_base.specs.declared.refusal.Kind.{Kind}
use Rattle.dactl_base.specs.declared.refusal.Kind.TheVariants as kinds
use Rattle.dactl_base.specs.declared.refusal.Refusal.{Refusal}
use Rattle.dactl_meaning.specs.declared.tree.Name.{Name}
use Rattle.dactl_meaning.specs.Expansion.{Occurrence}
use Rattle.dactl_patterns.specs.declared.occurrences.Found.{Found}
use Rattle.dactl_patterns.specs.Naming.{with_word}
use Rattle.dactl_patterns.specs.Occurring.{seen, used}

-- the fault at a place, where it holds
abbrev pub fault_if : Bool → Kind → Place → List Refusal
fault_if holds kind place = if holds then record { kind = kind; place = place } ∷ [] else []

-- a variable stands where none may
abbrev pub binder_fault : Bool → Occurrence → List Refusal
binder_fault named o = fault_if (named || o.in_choice) kinds.BinderInChoice o.name.place

-- a symbol or a named pattern is given too many arguments
abbrev pub wide_fault : Name × ℕ → List Refusal
wide_fault w = fault_if (nat_lt 16 w.1) kinds.TooWide w.0.place

-- no name has had `:`
abbrev pub none_given : List ℕ → Bool
none_given w = false

-- a name has `:` again, where the test tells the names that had it
abbrev pub twice_fault : (List ℕ → Bool) → Occurrence → List Refusal
twice_fault had o = fault_if (o.given && had o.name.text) kinds.NamedTwice o.name.place

-- the test behind this place
abbrev pub given_after : (List ℕ → Bool) → Occurrence → List ℕ → Bool
given_after had o = if o.given then with_word had o.name.text else had

-- the faults of names that have `:` again, from place to place
abbrev pub twice_faults : (List ℕ → Bool) → List Occurrence → List Refusal
twice_faults had [] = []
twice_faults had (o ∷ os) = twice_fault had o ++ twice_faults (given_after had o) os

-- all faults of a pattern, by the places of its variables and its uses of names; `large` says that the whole is too wide
abbrev pub faults_with : Bool → Bool → Place → List Occurrence → List (Name × ℕ) → List Refusal
faults_with large named place os ws =
    flat_map (binder_fault named) os ++ (flat_map wide_fault ws ++ (fault_if large kinds.TooWide place ++ twice_faults none_given os))

-- all faults of a pattern, by what the code found in it
abbrev pub faults_found : Bool → Bool → Place → Found → List Refusal
faults_found large named place found = faults_with large named place (map seen found.places.items) (map used found.uses.items)
