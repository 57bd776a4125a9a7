-- A board takes its hands back.
use Rattle.std.proofs.Common.{◌≡◌, ◌≢◌, ℕ, zero, suc, ◌+◌, ◌<◌, ◌≤◌, true, false, List, [], ◌∷◌, ◌++◌, length, map, set, sym, refl, ap, ◌∙◌, subst, inl, inr, ◌⊎◌, ⊎_elim, Option, Some, None, nat_eq, if◌then◌else◌, eqb, eq-eqb, ne_eqb, arith}
use Rattle.std.proofs.lemmas.List.{length-set}
use mathlib.Core.Option.{some, some-injective, some-ne-none}
use lib.ListN.{get_elem?}
use Rattle.crossbeam_deque.specs.Handles.{stealer_deque}
use Rattle.crossbeam_queue.specs.Passes.{view, IsPassOf}
use Rattle.crossbeam_queue.proofs.Lists.{at_set}
use Rattle.dactl_model.specs.declared.graph.NodeId.{NodeId}
use Rattle.dactl_queue.specs.Accounts.{weigh}
use Rattle.dactl_steal.specs.Sums.{added}
use Rattle.dactl_steal.specs.Members.{Stands, everyone, numbers_from, both}
use Rattle.dactl_steal.specs.Others.{OthersFit, stolen}
use Rattle.dactl_steal.specs.Owns.{account_of, reserve_of}
use Rattle.dactl_steal.specs.Closing.{Row, slot_in, slot_out}
use Rattle.dactl_steal.specs.Boards.{times, OwnFits, HandFits, IsBack, IsBoard, IsSameBoard, deques_of, puts_of, takes_of, put_of, taken_of}
use Rattle.dactl_steal.specs.declared.board.StealBoard.{StealBoard}
use Rattle.dactl_steal.specs.declared.board.StealHand.{StealHand}
use Rattle.dactl_steal.specs.declared.other.Other.{Other}
use Rattle.dactl_steal.specs.declared.own.Own.{Own}
use Rattle.dactl_steal.specs.declared.roll.Member.{Member}
use Rattle.dactl_steal.proofs.Sums.{added-append, added_set}

pub weigh-append : (h : NodeId → ℕ) (xs ys : List NodeId) → weigh h (xs ++ ys) ≡ weigh h xs + weigh h ys
weigh-append h [] ys = omega arith
weigh-append h (x ∷ xs) ys = omega (arith, weigh-append h xs ys)

abbrev pub is : ℕ → ℕ → ℕ
is number n = if nat_eq n number then 1 else 0

pub is_same : (n : ℕ) → is n n ≡ 1
is_same n = ap (λ b. if b then 1 else 0) (eq-eqb n n refl)

pub is_other : (number n : ℕ) → n ≢ number → is number n ≡ 0
is_other number n other = ap (λ b. if b then 1 else 0) (ne_eqb n number other)

pub none_from : (number first count : ℕ) → number < first → times number (numbers_from first count) ≡ 0
none_from number first zero less = refl
none_from number first (suc count) less = let z = is_other number first (λ e. omega (arith, e)) in omega (arith, none_from number (suc first) count (omega arith))

pub same_or_not : (a b : ℕ) → (a ≡ b) ⊎ (a ≢ b)
same_or_not zero zero = inl refl
same_or_not zero (suc b) = inr (λ e. omega (arith, e))
same_or_not (suc a) zero = inr (λ e. omega (arith, e))
same_or_not (suc a) (suc b) = ⊎_elim (λ (t : a ≡ b). inl (ap suc t)) (λ (t : a ≢ b). inr (λ e. t (omega (arith, e)))) (same_or_not a b)

once : (number first count : ℕ) → times number (numbers_from first count) ≤ 1
once number first zero = omega arith
once number first (suc count) = ⊎_elim (λ (e : number ≡ first). let i = subst (λ (n : ℕ). is number n ≡ 1) e (is_same number) in omega (arith, none_from number (suc first) count (omega (arith, e))))
    (λ (n : number ≢ first). let z = is_other number first (λ e. n (sym e)) in omega (arith, once number (suc first) count)) (same_or_not number first)

once_of_all : (number : ℕ) → times number everyone ≤ 1
once_of_all number = once number 0 256

-- a number that a member got does not stand at it twice
was_out : (v w : Member) (number : ℕ) → Stands (both v w) → w.numbers ≡ number ∷ [] → times number v.numbers ≡ 0
was_out v w number all mine = let s = all.1 (is number) in let a = added-append (is number) v.numbers w.numbers in let m = ap (added (is number)) mine in let i = is_same number in let o = once_of_all number in omega arith

pub at_there : {X : Type 0} (xs : List X) (i : ℕ) → i < length xs → (x : X) × (get_elem? xs i ≡ some x)
at_there [] i less = absurd (omega arith)
at_there (x ∷ xs) zero less = (x, refl)
at_there (x ∷ xs) (suc i) less = at_there xs i (omega arith)

own_moved : (b c : StealBoard) (place : ℕ) (o : Own) → IsSameBoard b c → OwnFits b place o → OwnFits c place o
own_moved b c place o same fits = record {
  deque = ap (λ v. get_elem? (map stealer_deque v.items) place) same.1 ∙ fits.deque;
  usable = fits.usable;
  parts = ap (λ v. (account_of o).parts + length v.items) same.1 ∙ fits.parts;
  room = fits.room ∙ sym same.2;
  few = subst (λ (n : ℕ). length (reserve_of o) ≤ n) (sym same.2) fits.few;
}

others_moved : (b c : StealBoard) (place : ℕ) (row : List (Option Other)) → IsSameBoard b c → OthersFit place (deques_of b) row → OthersFit place (deques_of c) row
others_moved b c place row same fits = subst (λ v. OthersFit place (map stealer_deque v.items) row) (sym same.1) fits

module _ (b c : StealBoard) (h : StealHand) (sound : IsBoard b) (fits : HandFits b h) (same : IsSameBoard b c) (pass : IsPassOf c.roll c.keeper) (joined : view c.keeper ≡ both (view b.keeper) (view h.badge)) (all : Stands (view c.keeper))
    (owns : c.owns.items ≡ set b.owns.items h.number (Some h.own)) (rows : c.rows.items ≡ set b.rows.items h.number h.others) where
  out : times h.number (view b.keeper).numbers ≡ 0
  out = was_out (view b.keeper) (view h.badge) h.number (subst Stands joined all) fits.stands

  was_none : (slot : Option Own) (row : List (Option Other)) → IsBack b h.number slot row → (slot ≡ None) × (row ≡ [])
  was_none None row back = (refl, back.1)
  was_none (Some o) row back = absurd (let z = out in let p = back.0 in omega arith)

  times_now : (place : ℕ) → times place (view c.keeper).numbers ≡ times place (view b.keeper).numbers + is place h.number
  times_now place = let j = ap (λ (m : Member). times place m.numbers) joined in let a = added-append (is place) (view b.keeper).numbers (view h.badge).numbers in
      let s = ap (times place) fits.stands in omega arith

  back_kept : (place : ℕ) (slot : Option Own) (row : List (Option Other)) → place ≢ h.number → IsBack b place slot row → IsBack c place slot row
  back_kept place None row other back = let t = times_now place in let z = is_other place h.number (λ e. other (sym e)) in ((let a = back.0 in omega arith), back.1)
  back_kept place (Some o) row other back = let t = times_now place in ((let a = back.0 in omega arith), own_moved b c place o same back.1, others_moved b c place row same back.2)

  back_now : IsBack c h.number (Some h.own) h.others.items
  back_now = let t = times_now h.number in let i = is_same h.number in ((omega arith), own_moved b c h.number h.own same fits.own, others_moved b c h.number h.others.items same fits.others)

  pub rejoins : IsBoard c
  rejoins = let slot = at_there b.owns.items h.number (let f = fits.number in let o = sound.owns in omega arith) in let row = at_there b.rows.items h.number (let f = fits.number in let o = sound.rows in omega arith) in
      let was = was_none slot.0 row.0.items (sound.back h.number slot.0 row.0 slot.1 row.1) in let count = ap (λ v. length v.items) same.1 in record {
        keeper = pass;
        few = let f = sound.few in omega arith;
        owns = ap length owns ∙ (length-set b.owns.items h.number (Some h.own) ∙ (sound.owns ∙ sym count));
        rows = ap length rows ∙ (length-set b.rows.items h.number h.others ∙ (sound.rows ∙ sym count));
        back = λ place s r a e. ⊎_elim
            (λ (t : (place ≡ h.number) × (Some h.own ≡ s)). ⊎_elim
            (λ (u : (place ≡ h.number) × (h.others ≡ r)). subst (λ (x : ℕ × Option Own). IsBack c x.0 x.1 r.items) (λ i. (sym t.0 i, t.1 i)) (subst (λ v. IsBack c h.number (Some h.own) v.items) u.1 back_now))
            (λ (u : (place ≢ h.number) × (get_elem? b.rows.items place ≡ some r)). absurd (u.0 t.0))
            (at_set b.rows.items h.number place h.others r (subst (λ l. get_elem? l place ≡ some r) rows e)))
            (λ (t : (place ≢ h.number) × (get_elem? b.owns.items place ≡ some s)). ⊎_elim
            (λ (u : (place ≡ h.number) × (h.others ≡ r)). absurd (t.0 u.0))
            (λ (u : (place ≢ h.number) × (get_elem? b.rows.items place ≡ some r)). back_kept place s r.items t.0 (sound.back place s r t.1 u.1))
            (at_set b.rows.items h.number place h.others r (subst (λ l. get_elem? l place ≡ some r) rows e)))
            (at_set b.owns.items h.number place (Some h.own) s (subst (λ l. get_elem? l place ≡ some s) owns a));
        even = λ w. let e = sound.even w in let f = fits.even w in
            let p = ap (λ (m : Member). weigh w m.put) joined in let t = ap (λ (m : Member). weigh w m.taken) joined in
            let pa = weigh-append w (puts_of b) (put_of h) in let ta = weigh-append w (takes_of b) (taken_of h) in
            let o = ap (added (slot_out w)) owns in let os = added_set (slot_out w) b.owns.items h.number slot.0 (Some h.own) slot.1 in let on = ap (slot_out w) was.0 in
            let i = ap (added (slot_in w)) owns in let ins = added_set (slot_in w) b.owns.items h.number slot.0 (Some h.own) slot.1 in let inn = ap (slot_in w) was.0 in
            let r = ap (added (λ (v : Row). stolen w v.items)) rows in let rs = added_set (λ (v : Row). stolen w v.items) b.rows.items h.number row.0 h.others row.1 in
            let rn = ap (stolen w) was.1 in omega arith;
      }
