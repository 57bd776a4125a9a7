-- The fault of a list that is told.
use Rattle.std.proofs.Common.{◌≡◌, ◌<◌, inl, inr, List, Some, refl, sym, subst, arith}
use Rattle.std.specs.Prelude.{Any, Contains, slice_index_or}
use Rattle.dactl_base.specs.declared.refusal.Refusal.{Refusal}
use Rattle.dactl_meaning.specs.Faults.{rank, Precedes, StandsBefore}
use Rattle.dactl_symbols.specs.Least.{least_by, TellsLeast}
use Rattle.dactl_symbols.proofs.Sooner.{tells-same, tells-least_by}

pub not_before_itself : (a : Refusal) → ¬ Precedes a a
not_before_itself a (inl less) = omega arith
not_before_itself a (inr same) = not_stands same.1
  where
    not_stands : StandsBefore a a → ⊥
    not_stands (inl less) = omega arith
    not_stands (inr same) = let less : rank a.kind < rank a.kind = same.1 in omega arith

-- the first of the faults of a list is the least that the list contains
pub tells_list : (faults : List Refusal) → TellsLeast (Contains faults) (least_by Some faults)
tells_list faults =
    tells-same (λ r. Any (λ x. x ≡ r) faults) (Contains faults) (least_by Some faults)
    (λ r any. (any.0, any.2, (let P : Refusal → Type 0 = λ z. slice_index_or faults any.0 z ≡ z in subst P any.4 any.3)))
    (λ r has. (has.0, r, has.1, has.2, refl))
    (tells-least_by (λ x r. x ≡ r) Some (λ x. record { holds = refl; least = λ other e before. not_before_itself x (let P : Refusal → Type 0 = λ z. Precedes z x in subst P (sym e) before) }) faults)
