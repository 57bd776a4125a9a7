-- What a text says of its first graph.
use Rattle.std.specs.Prelude.{◌≡◌, ℕ, List, [], ◌∷◌, map, All, Contains, Option, Some, None}
use Rattle.std.specs.List.{flat_map}
use Rattle.dactl_base.specs.declared.refusal.Refusal.{Refusal}
use Rattle.dactl_model.specs.declared.program.Start.{Start}
use Rattle.dactl_meaning.specs.Contractum.{Sketch, Target, denotes, fresh_nodes}
use Rattle.dactl_meaning.specs.Declarations.{Placed}
use Rattle.dactl_meaning.specs.Meaning.{PlacedInitial, item_initial, node_number, root_of}
use Rattle.dactl_meaning.specs.RuleFaults.{contractum_faults}
use Rattle.dactl_meaning.specs.Sight.{Seen}
use Rattle.dactl_symbols.specs.Least.{TellsLeast}
use Rattle.dactl_contractum.specs.declared.initials.ReadInitials.{ReadInitials}
use Rattle.dactl_validity.specs.Counting.{AreCountable}

-- the INITIAL of an item, if it is one
abbrev pub initials_in : Placed → List PlacedInitial
initials_in i = item_initial i.owner i.item

-- the faults of every INITIAL, by what each module sees
abbrev pub initial_faults : (ℕ → List ℕ → Option Seen) → List PlacedInitial → List Refusal
initial_faults look initials = flat_map (λ i. contractum_faults (look i.owner) [] [] i.terms) initials

-- this is their first fault, and what they make can be counted
pub record AreRead (look : ℕ → List ℕ → Option Seen) (initials : List PlacedInitial) (least : Option Refusal) : Type 0 where
  pub tells : TellsLeast (Contains (initial_faults look initials)) least
  pub counted : All AreCountable (map (λ i. i.terms) initials)

-- the start that an INITIAL means
abbrev pub start_at : (ℕ → List ℕ → Option Seen) → PlacedInitial → Start
start_at look i = record { fresh = fresh_nodes (look i.owner) [] i.terms; root = root_of i.terms }

-- the start that the first of them means, if there is one
abbrev pub first_start : (ℕ → List ℕ → Option Seen) → List PlacedInitial → Option Start
first_start look [] = None
first_start look (i ∷ more) = Some (start_at look i)

-- what is read of them: their first fault, and where there is none what the first of them means
pub record AreMeant (look : ℕ → List ℕ → Option Seen) (initials : List PlacedInitial) (r : ReadInitials) : Type 0 where
  pub read : AreRead look initials r.fault
  pub start : r.fault ≡ None → r.start ≡ first_start look initials

-- the start, or one without nodes
abbrev pub start_from : Option Start → Start
start_from None = record { fresh = []; root = 0 }
start_from (Some start) = start

-- the number of the node that the first of the targets is
abbrev pub root_in : List (List ℕ) → List Sketch → List Target → ℕ
root_in variables made [] = 0
root_in variables made (t ∷ targets) = node_number (denotes variables made t)
