-- The faults of a text in its declarations, imports and counts, by what a survey finds.
use Rattle.std.specs.Prelude.{ℕ, ◌+◌, List, [], ◌∷◌, is_none, if◌then◌else◌, Option, Some, None, option_map, slice_get}
use Rattle.dactl_base.specs.declared.refusal.Kind.{Kind}
use Rattle.dactl_base.specs.declared.refusal.Kind.TheVariants as kinds
use Rattle.dactl_base.specs.declared.refusal.Place.{Place}
use Rattle.dactl_base.specs.declared.refusal.Refusal.{Refusal}
use Rattle.dactl_meaning.specs.Declarations.{Declaration}
use Rattle.dactl_meaning.specs.Sight.{Import}
use Rattle.dactl_meaning.specs.ScopeFaults.{most_names, most_rules}
use Rattle.dactl_symbols.specs.Least.{sooner, least_by}
use Rattle.dactl_symbols.specs.Meanings.{again_after}
use Rattle.dactl_symbols.specs.Sights.{imported_in}

-- a fault of the kind at the place
abbrev pub fault_at : Kind → Place → Option Refusal
fault_at kind place = Some (record { kind = kind; place = place })

-- the fault of an import among the declarations
abbrev pub import_fault : List Declaration → Import → Option Refusal
import_fault ds i = if is_none (imported_in ds i) then fault_at kinds.UnknownModule i.name.place else None

-- the fault of a text of a length with these places of INITIAL
abbrev pub initial_fault : List Place → ℕ → Option Refusal
initial_fault [] length = fault_at kinds.NoInitial (record { byte = length })
initial_fault (place ∷ later) length = least_by (fault_at kinds.TwoInitials) later

-- the first declaration beyond those of Arithmetic and the most that a text may have
abbrev pub name_beyond : List Declaration → Option Refusal
name_beyond ds = option_map (λ d. record { kind = kinds.TooMany; place = d.name.place }) (slice_get ds (8 + most_names))

-- the first rule beyond the most that a text may have
abbrev pub rule_beyond : List Place → Option Refusal
rule_beyond places = option_map (λ p. record { kind = kinds.TooMany; place = p }) (slice_get places most_rules)

-- the first of all these faults
abbrev pub flat_fault : List Declaration → List Import → List Place → List Place → List Place → ℕ → Option Refusal
flat_fault ds imports strong initials rules length =
    sooner (sooner (sooner (again_after [] ds) (least_by (import_fault ds) imports)) (sooner (least_by (fault_at kinds.PublicTooStrong) strong) (initial_fault initials length))) (sooner (name_beyond ds) (rule_beyond rules))
