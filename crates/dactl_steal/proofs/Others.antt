-- Stealing at one place, and at all places in their order.
use Rattle.std.proofs.Common.{◌≡◌, ◌≢◌, ℕ, zero, suc, ◌+◌, ◌<◌, ◌≤◌, List, [], ◌∷◌, ◌++◌, length, set, sym, refl, ap, ◌∙◌, subst, ⊎_elim, Option, Some, None, MatchOption, arith}
use Rattle.std.proofs.lemmas.List.{length-set}
use mathlib.Core.Option.{some, some-ne-none}
use lib.ListN.{get_elem?}
use Rattle.crossbeam_queue.proofs.Lists.{at_set}
use Rattle.dactl_model.specs.declared.graph.NodeId.{NodeId}
use Rattle.dactl_queue.specs.declared.rule.Account.{Account}
use Rattle.dactl_queue.specs.Accounts.{weigh, having_taken}
use Rattle.dactl_steal.specs.Deques.{WasEmpty}
use Rattle.dactl_steal.specs.Others.{DequeId, trail_of, slot_stolen, stolen, OthersFit, SlotFits, SlotKept, AreKept, AreUsable, IsUsableSlot, SlotWasEmpty}
use Rattle.dactl_steal.specs.declared.other.Other.{Other}
use Rattle.dactl_steal.proofs.Deques.{weigh_snoc}
use Rattle.dactl_steal.proofs.Sums.{added_set}

-- what an answer at one place says of the nodes taken there
pub robbed : (answer : Option NodeId) (slot : Option Other) (o p : Other) → slot ≡ Some o → MatchOption answer ((trail_of p ≡ trail_of o) × WasEmpty (trail_of o)) (λ x. trail_of p ≡ having_taken (trail_of o) x)
    → MatchOption answer (WasEmpty (trail_of p) × ((h : NodeId → ℕ) → weigh h (trail_of p).taken ≡ slot_stolen h slot)) (λ x. (h : NodeId → ℕ) → weigh h (trail_of p).taken ≡ slot_stolen h slot + h x)
robbed None slot o p is t = (subst WasEmpty (sym t.0) t.1, λ h. ap (λ (v : Account). weigh h v.taken) t.0 ∙ sym (ap (slot_stolen h) is))
robbed (Some x) slot o p is t = λ h. let a : weigh h (trail_of p).taken ≡ weigh h ((trail_of o).taken ++ x ∷ []) = ap (λ (v : Account). weigh h v.taken) t in
    let b : slot_stolen h slot ≡ weigh h (trail_of o).taken = ap (slot_stolen h) is in omega (arith, weigh_snoc h (trail_of o).taken x)

fits_usable : (me : ℕ) (deques : List DequeId) (place : ℕ) (slot : Option Other) → SlotFits me deques place slot → IsUsableSlot slot
fits_usable me deques place None fits = tt
fits_usable me deques place (Some o) fits = fits.2

pub others_usable : (me : ℕ) (deques : List DequeId) (others : List (Option Other)) → OthersFit me deques others → AreUsable others
others_usable me deques others fits place slot at = fits_usable me deques place slot (fits.each place slot at)

module _ (others : List (Option Other)) (place : ℕ) (v w : Option Other) where
  pub kept_at : get_elem? others place ≡ some v → SlotKept v w → AreKept others (set others place w)
  kept_at at kept me deques fits = record {
    count = length-set others place w ∙ fits.count;
    each = λ j slot e. ⊎_elim (λ (t : (j ≡ place) × (w ≡ slot)). subst (λ (x : ℕ × Option Other). SlotFits me deques x.0 x.1) (λ i. (sym t.0 i, t.1 i)) (kept.1 me deques place (fits.each place v at)))
        (λ (t : (j ≢ place) × (get_elem? others j ≡ some slot)). fits.each j slot t.1) (at_set others place j w slot e);
  }

  pub usable_at : AreUsable others → IsUsableSlot w → AreUsable (set others place w)
  usable_at usable this j slot e = ⊎_elim (λ (t : (j ≡ place) × (w ≡ slot)). subst IsUsableSlot t.1 this) (λ (t : (j ≢ place) × (get_elem? others j ≡ some slot)). usable j slot t.1) (at_set others place j w slot e)

  pub empty_at : ((j : ℕ) (slot : Option Other) → j < place → get_elem? others j ≡ some slot → SlotWasEmpty slot) → SlotWasEmpty w
      → (j : ℕ) (slot : Option Other) → j < place + 1 → get_elem? (set others place w) j ≡ some slot → SlotWasEmpty slot
  empty_at empty this j slot below e = ⊎_elim (λ (t : (j ≡ place) × (w ≡ slot)). subst SlotWasEmpty t.1 this)
      (λ (t : (j ≢ place) × (get_elem? others j ≡ some slot)). let n = t.0 in empty j slot (omega (arith, n)) t.1) (at_set others place j w slot e)

  pub stolen_at : (h : NodeId → ℕ) → get_elem? others place ≡ some v → stolen h (set others place w) + slot_stolen h v ≡ stolen h others + slot_stolen h w
  stolen_at h at = added_set (slot_stolen h) others place v w at

at_below : (others : List (Option Other)) (place : ℕ) (slot : Option Other) → get_elem? others place ≡ some slot → place < length others
at_below [] place slot e = absurd (some-ne-none slot (sym e))
at_below (x ∷ xs) zero slot e = omega arith
at_below (x ∷ xs) (suc place) slot e = omega (arith, at_below xs place slot e)

pub all_empty : (others : List (Option Other)) (count : ℕ) → length others ≤ count → ((j : ℕ) (slot : Option Other) → j < count → get_elem? others j ≡ some slot → SlotWasEmpty slot)
    → (j : ℕ) (slot : Option Other) → get_elem? others j ≡ some slot → SlotWasEmpty slot
all_empty others count long empty j slot e = empty j slot (let b = at_below others j slot e in omega arith) e

-- the only hand has nothing of the deques of others
pub nothing_stolen : (deques : List DequeId) (others : List (Option Other)) (h : NodeId → ℕ) → length deques ≡ 1 → OthersFit 0 deques others → stolen h others ≡ 0
nothing_stolen deques [] h one fits = refl
nothing_stolen deques (None ∷ []) h one fits = refl
nothing_stolen deques (Some o ∷ []) h one fits = absurd ((fits.each 0 (Some o) refl).0 refl)
nothing_stolen deques (x ∷ y ∷ xs) h one fits = absurd (let c = fits.count in omega arith)
