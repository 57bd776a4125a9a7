-- Parts of a deque come back row by row.
use Rattle.std.proofs.Common.{◌≡◌, ◌≢◌, ℕ, zero, suc, ◌+◌, ◌-◌, ◌<◌, ◌≤◌, List, [], ◌∷◌, ◌++◌, length, take, set, sym, refl, ap, ◌∙◌, subst, inl, inr, ◌⊎◌, ⊎_elim, append-nil, length-append, Option, Some, None, arith}
use Rattle.std.proofs.lemmas.List.{length-set}
use lib.Seq.{take-append_seam}
use mathlib.Core.Option.{some, some-injective, some-ne-none}
use lib.ListN.{get_elem?}
use Rattle.crossbeam_queue.proofs.Lists.{at_set, at_last, at_longer}
use Rattle.dactl_model.specs.declared.graph.NodeId.{NodeId}
use Rattle.dactl_queue.specs.declared.rule.Account.{Account}
use Rattle.dactl_queue.specs.Accounts.{weigh, joined}
use Rattle.dactl_steal.specs.Sums.{added}
use Rattle.dactl_steal.specs.Others.{DequeId, SlotFits, deque_of, trail_of, stolen, slot_stolen, IsUsable}
use Rattle.crossbeam_deque.specs.Handles.{worker_deque}
use Rattle.dactl_steal.specs.Owns.{account_of}
use Rattle.dactl_steal.specs.Closing.{AllBack, Row, IsOf, EndsWith, RowsFit, having_back, all_stolen}
use Rattle.dactl_steal.specs.declared.other.Other.{Other}
use Rattle.dactl_steal.specs.declared.own.Own.{Own}
use Rattle.dactl_steal.proofs.Sums.{added_set, added_snoc}
use Rattle.dactl_steal.proofs.Boards.{weigh-append, same_or_not}
use Rattle.dactl_steal.proofs.Shares.{below_or_is}

pub split_last : {X : Type 0} (xs : List X) (n : ℕ) → length xs ≡ n + 1 → (front : List X) × (last : X) × (xs ≡ front ++ last ∷ []) × (length front ≡ n)
split_last [] n e = absurd (omega arith)
split_last (x ∷ []) n e = ([], x, refl, omega arith)
split_last (x ∷ y ∷ xs) zero e = absurd (omega arith)
split_last (x ∷ y ∷ xs) (suc n) e = let t = split_last (y ∷ xs) n (omega arith) in (x ∷ t.0, t.1, (λ i. x ∷ t.2 i), omega (arith, t.3))

-- the last slot of a row
pub ends_with : (deques : List DequeId) (count place : ℕ) (deque : DequeId) (rows : List Row) (row : Row) → RowsFit deques (count + 1) rows → get_elem? deques count ≡ some deque → get_elem? rows place ≡ some row → EndsWith deque row.items
ends_with deques count place deque rows row fits at there front None e = tt
ends_with deques count place deque rows row fits at there front (Some o) e = let long = fits.long place row there in
    let n : length front ≡ count = (let l = ap length e in omega (arith, length-append front (Some o ∷ []))) in
    let f = fits.each place row there count (Some o) (subst (λ (l : List (Option Other)). get_elem? l count ≡ some (Some o)) (sym e) (at_last front (Some o) count n)) in
    (some-injective (deque_of o) deque (sym f.1 ∙ at), f.2)

-- what one row gave back
pub record Back (place count : ℕ) (v w : Account) (front row : List (Option Other)) : Type 0 where
  pub put : w.put ≡ v.put
  pub parts : (place ≡ count → w.parts ≡ v.parts) × (place ≢ count → w.parts ≡ v.parts + 1)
  pub even : (h : NodeId → ℕ) → weigh h w.taken + stolen h front ≡ weigh h v.taken + stolen h row

pub gives_back : (deques : List DequeId) (place count : ℕ) (v w : Account) (front row : List (Option Other)) (slot : Option Other) → row ≡ front ++ slot ∷ [] → SlotFits place deques count slot → w ≡ having_back v slot → Back place count v w front row
gives_back deques place count v w front row None is fits gives = record {
  put = ap (λ (u : Account). u.put) gives;
  parts = ((λ _. ap (λ (u : Account). u.parts) gives), λ other. absurd (other (sym fits)));
  even = λ h. let g = ap (λ (u : Account). weigh h u.taken) gives in let r = ap (stolen h) is in omega (arith, added_snoc (slot_stolen h) front None);
}
gives_back deques place count v w front row (Some o) is fits gives = record {
  put = ap (λ (u : Account). u.put) gives ∙ (ap (λ (l : List NodeId). v.put ++ l) fits.2.put ∙ append-nil v.put);
  parts = ((λ same. absurd (fits.0 (sym same))), λ _. let g = ap (λ (u : Account). u.parts) gives in let p = fits.2.part in omega arith);
  even = λ h. let g = ap (λ (u : Account). weigh h u.taken) gives in let r = ap (stolen h) is in omega (arith, added_snoc (slot_stolen h) front (Some o), weigh-append h v.taken (trail_of o).taken);
}

-- the rows before a place have given back what they had last
pub record Gathering (deques : List DequeId) (count place : ℕ) (v w : Account) (olds news : List Row) : Type 0 where
  pub rows : (i : ℕ) (row : Row) → get_elem? news i ≡ some row → (old : Row) × (get_elem? olds i ≡ some old) × (i < place → row.items ≡ take (length old.items - 1) old.items) × (place ≤ i → row ≡ old)
  pub put : w.put ≡ v.put
  pub parts : (place ≤ count → w.parts ≡ v.parts + place) × (count < place → w.parts + 1 ≡ v.parts + place)
  pub even : (h : NodeId → ℕ) → weigh h w.taken + all_stolen h news ≡ weigh h v.taken + all_stolen h olds

pub gathering_starts : (deques : List DequeId) (count : ℕ) (v : Account) (rows : List Row) → Gathering deques count 0 v v rows rows
gathering_starts deques count v rows = record {
  rows = λ i row e. (row, e, (λ z. absurd (omega arith)), λ _. refl);
  put = refl;
  parts = ((λ _. omega arith), λ z. absurd (omega arith));
  even = λ h. refl;
}

shorter : (front row old : List (Option Other)) (last : Option Other) → old ≡ front ++ last ∷ [] → row ≡ take (length old - 1) old → row ≡ front
shorter front row old last is short = short ∙ (ap (λ (x : List (Option Other)). take (length x - 1) x) is ∙ (ap (λ (n : ℕ). take n (front ++ last ∷ [])) (let q : length (front ++ last ∷ []) - 1 ≡ length front = omega (arith, length-append front (last ∷ [])) in q)
    ∙ take-append_seam front (last ∷ [])))

pub gathering_goes_on : (deques : List DequeId) (count place : ℕ) (v u w : Account) (olds mids : List Row) (old new : Row) → RowsFit deques (count + 1) olds → Gathering deques count place v u olds mids → get_elem? mids place ≡ some old
    → new.items ≡ take (length old.items - 1) old.items → ((front : List (Option Other)) (slot : Option Other) → old.items ≡ front ++ slot ∷ [] → w ≡ having_back u slot) → Gathering deques count (place + 1) v w olds (set mids place new)
gathering_goes_on deques count place v u w olds mids old new fits so there short gives =
    let s = so.rows place old there in let was : old ≡ s.0 = s.3 (omega arith) in let there' : get_elem? olds place ≡ some old = s.1 ∙ ap some (sym was) in
    let l = split_last old.items count (fits.long place old there') in
    let slot = fits.each place old there' count l.1 (subst (λ (x : List (Option Other)). get_elem? x count ≡ some l.1) (sym l.2) (at_last l.0 l.1 count l.3)) in
    let front = shorter l.0 new.items old.items l.1 l.2 short in
    let b = gives_back deques place count u w l.0 old.items l.1 l.2 slot (gives l.0 l.1 l.2) in record {
      rows = λ i row e. ⊎_elim
          (λ (t : (i ≡ place) × (new ≡ row)). (old, subst (λ (n : ℕ). get_elem? olds n ≡ some old) (sym t.0) there', (λ _. subst (λ (x : Row). x.items ≡ take (length old.items - 1) old.items) t.1 short), λ past. absurd (let p = t.0 in omega arith)))
          (λ (t : (i ≢ place) × (get_elem? mids i ≡ some row)). let r = so.rows i row t.1 in let apart = t.0 in
          (r.0, r.1, (λ below. ⊎_elim (λ (less : i < place). r.2 less) (λ (is : i ≡ place). absurd (apart is)) (below_or_is i place below)), λ past. r.3 (omega arith)))
          (at_set mids place i new row e);
      put = b.put ∙ so.put;
      parts = ⊎_elim
          (λ (same : place ≡ count). ((λ le. absurd (omega (arith, same))), λ _. let p = so.parts.0 (omega (arith, same)) in let q = b.parts.0 same in omega arith))
          (λ (other : place ≢ count). let q = b.parts.1 other in ((λ le. let p = so.parts.0 (omega arith) in omega arith), λ past. let p = so.parts.1 (omega (arith, other)) in omega arith))
          (same_or_not place count);
      even = λ h. let e = so.even h in let x = b.even h in let f = ap (stolen h) front in let a = added_set (λ (r : Row). stolen h r.items) mids place old new there in omega arith;
    }

row_below : (xs : List Row) (place : ℕ) (x : Row) → get_elem? xs place ≡ some x → place < length xs
row_below [] place x e = absurd (some-ne-none x (sym e))
row_below (y ∷ ys) zero x e = omega arith
row_below (y ∷ ys) (suc place) x e = omega (arith, row_below ys place x e)

pub gathering_ends : (deques : List DequeId) (count place : ℕ) (v w : Account) (olds news : List Row) → RowsFit deques (count + 1) olds → Gathering deques count place v w olds news → length news ≤ place → RowsFit deques count news
gathering_ends deques count place v w olds news fits so all = record {
  long = λ i row e. let s = so.rows i row e in let l = split_last s.0.items count (fits.long i s.0 s.1) in
      ap length (shorter l.0 row.items s.0.items l.1 l.2 (s.2 (let b = row_below news i row e in omega arith))) ∙ l.3;
  each = λ i row e j slot a. let s = so.rows i row e in let l = split_last s.0.items count (fits.long i s.0 s.1) in
      let short = shorter l.0 row.items s.0.items l.1 l.2 (s.2 (let b = row_below news i row e in omega arith)) in
      fits.each i s.0 s.1 j slot (subst (λ (x : List (Option Other)). get_elem? x j ≡ some slot) (sym l.2) (at_longer l.0 (l.1 ∷ []) j slot (subst (λ (x : List (Option Other)). get_elem? x j ≡ some slot) short a)));
}

-- the last of the hands' own goes, with what the rows had of its deque
pub back_pops : (deques : List DequeId) (owns : List (Option Own)) (slot : Option Own) (olds news : List Row) → AllBack deques (owns ++ slot ∷ []) olds → RowsFit deques (length owns) news → length news ≡ length olds → AllBack deques owns news
back_pops deques owns slot olds news all fits same = record {
  long = let l = all.long in omega (arith, length-append owns (slot ∷ []));
  mine = λ place s e. let t = all.mine place s (at_longer owns (slot ∷ []) place s e) in (t.0, t.1, t.2, ap (λ (n : ℕ). (account_of t.0).parts + n) same ∙ t.3);
  fits = fits;
}

-- what stands last
pub last_back : (deques : List DequeId) (owns : List (Option Own)) (slot : Option Own) (rows : List Row) → AllBack deques (owns ++ slot ∷ []) rows
    → (o : Own) × (slot ≡ Some o) × (get_elem? deques (length owns) ≡ some (worker_deque o.deque)) × ((account_of o).parts + length rows ≡ 257) × (length owns < length rows) × RowsFit deques (length owns + 1) rows
last_back deques owns slot rows all = let t = all.mine (length owns) slot (at_last owns slot (length owns) refl) in
    (t.0, t.1, t.2, t.3, (let l = all.long in omega (arith, length-append owns (slot ∷ []))), subst (λ (n : ℕ). RowsFit deques n rows) (length-append owns (slot ∷ [])) all.fits)

empty_row : (row : List (Option Other)) → length row ≡ 0 → row ≡ []
empty_row [] e = refl
empty_row (x ∷ xs) e = absurd (omega arith)

no_slot : (row : List (Option Other)) (j : ℕ) (slot : Option Other) → length row ≡ 0 → get_elem? row j ≡ some slot → ⊥
no_slot [] j slot e at = some-ne-none slot (sym at)
no_slot (x ∷ xs) j slot e at = absurd (omega arith)

-- rows of no deque have nothing
pub nothing_left : (deques : List DequeId) (rows : List Row) (h : NodeId → ℕ) → RowsFit deques 0 rows → all_stolen h rows ≡ 0
nothing_left deques [] h fits = refl
nothing_left deques (row ∷ rows) h fits = let z = ap (stolen h) (empty_row row.items (fits.long 0 row refl)) in
    let r = nothing_left deques rows h (record { long = λ i x e. fits.long (suc i) x e; each = λ i x e j slot a. absurd (no_slot x.items j slot (fits.long (suc i) x e) a) }) in omega arith

-- a row that has not given anything back yet
pub still_ends : (deques : List DequeId) (count place : ℕ) (deque : DequeId) (v w : Account) (olds mids : List Row) (row : Row) → RowsFit deques (count + 1) olds → Gathering deques count place v w olds mids
    → get_elem? deques count ≡ some deque → get_elem? mids place ≡ some row → EndsWith deque row.items
still_ends deques count place deque v w olds mids row fits so at there = let s = so.rows place row there in
    subst (λ (x : Row). EndsWith deque x.items) (sym (s.3 (omega arith))) (ends_with deques count place deque olds s.0 fits at s.1)

pub all_gathered : (deques : List DequeId) (count place : ℕ) (v w : Account) (olds news : List Row) → count < length olds → length news ≡ length olds → length olds ≤ place → place ≤ length olds → RowsFit deques (count + 1) olds
    → Gathering deques count place v w olds news → RowsFit deques count news × (w.parts + 1 ≡ v.parts + length olds) × ((h : NodeId → ℕ) → weigh h w.taken + all_stolen h news ≡ weigh h v.taken + all_stolen h olds)
all_gathered deques count place v w olds news less long past end fits so = (gathering_ends deques count place v w olds news fits so (omega arith), (let p = so.parts.1 (omega arith) in omega arith), so.even)
