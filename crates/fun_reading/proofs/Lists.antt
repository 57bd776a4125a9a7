-- Lists of which a fact holds: their parts, and the first equations of functions.
use Rattle.std.proofs.Common.{Bool, true, false, cond, List, [], ◌∷◌, ◌++◌}
use Rattle.std.specs.List.{AllByRecursion, filter}
use Rattle.fun_meaning.specs.declared.tree.Equation.{Equation}
use Rattle.fun_meaning.specs.Functions.{is_other, first_ones}

pub each_split : {A : Type 0} (P : A → Type 0) (xs ys : List A) → AllByRecursion P (xs ++ ys) → AllByRecursion P xs × AllByRecursion P ys
each_split P [] ys all = (tt, all)
each_split P (x ∷ xs) ys all =
    let rest = each_split P xs ys all.1 in
    ((all.0, rest.0), rest.1)

each_filtered : (P : Equation → Type 0) (p : Equation → Bool) (xs : List Equation) → AllByRecursion P xs → AllByRecursion P (filter p xs)
each_filtered P p [] all = tt
each_filtered P p (x ∷ xs) all =
    let rest : AllByRecursion P (filter p xs) = each_filtered P p xs all.1 in
    elim (p x) as (λ b. AllByRecursion P (cond b (x ∷ filter p xs) (filter p xs))) [ true ↦ (all.0, rest) | false ↦ rest ]

pub each_first : (P : Equation → Type 0) (eqs : List Equation) → AllByRecursion P eqs → AllByRecursion P (first_ones eqs)
each_first P [] all = tt
each_first P (eq ∷ eqs) all = (all.0, each_filtered P (is_other eq) (first_ones eqs) (each_first P eqs all.1))
