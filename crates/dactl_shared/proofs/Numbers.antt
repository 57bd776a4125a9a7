-- Seats in the order of their numbers.
use Rattle.std.proofs.Common.{◌≡◌, ℕ, zero, suc, ◌+◌, List, [], ◌∷◌, ◌++◌, length, Some, slice_get, arith, ap, sym, ◌∙◌}
use Rattle.dactl_shared.specs.declared.store.WorkerSeat.{WorkerSeat}
use Rattle.dactl_shared.specs.Stores.{AreNumbered}

-- the same from number k + 1 on
numbered_from : (k : ℕ) (ws : List WorkerSeat) (w : WorkerSeat) → ((i : ℕ) (v : WorkerSeat) → slice_get ws i ≡ Some v → v.number ≡ k + (i + 1)) → w.number ≡ k + (length ws + 1)
    → (i : ℕ) (v : WorkerSeat) → slice_get (ws ++ w ∷ []) i ≡ Some v → v.number ≡ k + (i + 1)
numbered_from k [] w each last zero v at = let same : w ≡ v = cc in ap (λ (z : WorkerSeat). z.number) (sym same) ∙ last
numbered_from k [] w each last (suc i) v at = absurd (cc)
numbered_from k (x ∷ ws) w each last zero v at = each zero v at
numbered_from k (x ∷ ws) w each last (suc i) v at =
    let less = numbered_from (k + 1) ws w (λ j u there. let e = each (suc j) u there in omega arith) (omega arith) i v at in omega arith

-- one seat more
pub numbered_more : (ws : List WorkerSeat) (w : WorkerSeat) → AreNumbered ws → w.number ≡ length ws + 1 → AreNumbered (ws ++ w ∷ [])
numbered_more ws w each last i v at =
    let e = numbered_from 0 ws w (λ j u there. let one = each j u there in omega arith) (omega arith) i v at in omega arith
