-- Integers that equations have fit 64 bits.
use Rattle.std.proofs.Common.{◌≡◌, ℕ, ◌^◌, ◌<◌, false, List, to_z, of_z, sym, ap, subst, ◌∙◌, arith}
use Rattle.std.specs.Prelude.{ℤ, FitsSigned}
use Rattle.std.specs.Int.Signed.{mag}
use Rattle.std.specs.Int.{w64, w128}
use Rattle.std.proofs.lemmas.Int.{to_z-of_z}
use Rattle.dactl_terminals.specs.Parts.{value_at}
use Rattle.dactl_terminals.proofs.Values.{value_small}

narrow : (w : List ℕ) → FitsSigned w64 (value_at false w)
narrow w = record { sfits = value_small false w }

wide : (w : List ℕ) → to_z w128 (of_z w128 (value_at false w)) ≡ value_at false w
wide w =
    let small = value_small false w in
    let fits : mag (value_at false w) < 2 ^ 127 = omega arith in
    to_z-of_z w128 (value_at false w) (record { sfits = fits })

pub cast_fits : (w : List ℕ) → FitsSigned w64 (to_z w128 (of_z w128 (value_at false w)))
cast_fits w = subst (FitsSigned w64) (sym (wide w)) (narrow w)

pub cast_is : (w : List ℕ) → to_z w64 (of_z w64 (to_z w128 (of_z w128 (value_at false w)))) ≡ value_at false w
cast_is w = ap (λ (z : ℤ). to_z w64 (of_z w64 z)) (wide w) ∙ to_z-of_z w64 (value_at false w) (narrow w)
