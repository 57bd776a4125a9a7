-- The hands' own are counted one by one.
use Rattle.std.proofs.Common.{◌≡◌, ℕ, zero, suc, ◌+◌, ◌<◌, ◌≤◌, List, [], ◌∷◌, ◌++◌, length, min, sym, refl, ap, ◌∙◌, subst, ⊎_elim, ◌⊎◌, Option, Some, None, arith}
use Rattle.std.proofs.Math.Nat.{min-eq_left, min-eq_right}
use mathlib.Core.Option.{some}
use lib.ListN.{get_elem?}
use Rattle.crossbeam_deque.specs.Handles.{worker_deque}
use Rattle.dactl_model.specs.declared.graph.NodeId.{NodeId}
use Rattle.dactl_queue.specs.Accounts.{weigh}
use Rattle.dactl_steal.specs.Closing.{Row, AllBack, RowsFit, all_stolen, slot_in, slot_out}
use Rattle.dactl_steal.specs.Others.{DequeId}
use Rattle.dactl_steal.specs.Owns.{account_of, weight_in, weight_out}
use Rattle.dactl_steal.specs.Sums.{added}
use Rattle.dactl_steal.specs.declared.own.Own.{Own}
use Rattle.dactl_steal.proofs.Gathers.{back_pops, last_back, nothing_left}
use Rattle.dactl_steal.proofs.Shares.{past_or_before}
use Rattle.dactl_steal.proofs.Sums.{added_snoc}

-- a sum of capped numbers, capped
pub min_of_sum : (a b most : ℕ) → min (min a most + min b most) most ≡ min (a + b) most
min_of_sum a b most = ⊎_elim
    (λ (la : a < most). let x : min a most ≡ a = min-eq_left (omega arith) in ⊎_elim
    (λ (lb : b < most). let y : min b most ≡ b = min-eq_left (omega arith) in ap (λ (n : ℕ). min n most) (λ i. x i + y i))
    (λ (past : most ≤ b). let y : min b most ≡ most = min-eq_right past in ap (λ (n : ℕ). min n most) (λ i. x i + y i) ∙ (min-eq_right (omega arith) ∙ sym (min-eq_right (omega arith))))
    (past_or_before b most))
    (λ (past : most ≤ a). let x : min a most ≡ most = min-eq_right past in ap (λ (n : ℕ). min (n + min b most) most) x ∙ (min-eq_right (omega arith) ∙ sym (min-eq_right (omega arith))))
    (past_or_before a most)

abbrev own_or : Own → Option Own → Own
own_or d None = d
own_or d (Some o) = o

same_own : (a b : Own) → Some a ≡ Some b → a ≡ b
same_own a b e = ap (own_or a) e

abbrev is_some_own : Option Own → Type 0
is_some_own None = ⊥
is_some_own (Some o) = Unit {0}

-- no slot is none
pub no_hole : (deques : List DequeId) (owns rest : List (Option Own)) (slot : Option Own) (rows : List Row) → AllBack deques owns rows → owns ≡ rest ++ slot ∷ [] → slot ≡ None → ⊥
no_hole deques owns rest slot rows all is none = let t = last_back deques rest slot rows (subst (λ (l : List (Option Own)). AllBack deques l rows) is all) in subst is_some_own (sym t.1 ∙ none) tt

module _ (deques : List DequeId) (owns rest : List (Option Own)) (slot : Option Own) (own : Own) (rows slice : List Row) (all : AllBack deques owns rows) (is : owns ≡ rest ++ slot ∷ []) (found : slot ≡ Some own) (there : slice ≡ rows) where
  last : (o : Own) × (slot ≡ Some o) × (get_elem? deques (length rest) ≡ some (worker_deque o.deque)) × ((account_of o).parts + length rows ≡ 257) × (length rest < length rows) × RowsFit deques (length rest + 1) rows
  last = last_back deques rest slot rows (subst (λ (l : List (Option Own)). AllBack deques l rows) is all)

  its : last.0 ≡ own
  its = same_own last.0 own (sym last.1 ∙ found)

  below : length rest < length slice
  below = let l = last.4 in let s = ap length there in omega arith

  fit : RowsFit deques (length rest + 1) slice
  fit = subst (RowsFit deques (length rest + 1)) (sym there) last.5

  at : get_elem? deques (length rest) ≡ some (worker_deque own.deque)
  at = last.2 ∙ ap (λ (o : Own). some (worker_deque o.deque)) its

  -- what the count of the last hand's own requires
  pub last_rows : (ds : List DequeId) × (count : ℕ) × (count < length slice) × RowsFit ds (count + 1) slice × (get_elem? ds count ≡ some (worker_deque own.deque))
  last_rows = (deques, length rest, below, fit, at)

  pub last_parts : (account_of own).parts + length slice ≡ 257
  last_parts = ap (λ (o : Own). (account_of o).parts + length slice) (sym its) ∙ (ap (λ (l : List Row). (account_of last.0).parts + length l) there ∙ last.3)

  -- what is left of the board once it was counted
  pub counted : (news now : List Row) (more : List NodeId) → length news ≡ length slice → now ≡ news
      → ((ds : List DequeId) (count : ℕ) → count < length slice → RowsFit ds (count + 1) slice → get_elem? ds count ≡ some (worker_deque own.deque)
      → RowsFit ds count news × ((h : NodeId → ℕ) → weight_in h own + all_stolen h news ≡ weight_out h own + all_stolen h slice + weigh h more))
      → AllBack deques rest now
      × ((h : NodeId → ℕ) → added (slot_in h) owns + all_stolen h now + added (slot_out h) rest ≡ added (slot_in h) rest + added (slot_out h) owns + all_stolen h rows + weigh h more)
  counted news now more long same told = let t = told deques (length rest) below fit at in (
    back_pops deques rest slot rows now (subst (λ (l : List (Option Own)). AllBack deques l rows) is all) (subst (RowsFit deques (length rest)) (sym same) t.0) (ap length same ∙ (long ∙ ap length there)),
    λ h. let e = t.1 h in let s = ap (all_stolen h) same in let r = ap (all_stolen h) there in
        let i = ap (added (slot_in h)) is in let o = ap (added (slot_out h)) is in let fi = ap (slot_in h) found in let fo = ap (slot_out h) found in
        omega (arith, added_snoc (slot_in h) rest slot, added_snoc (slot_out h) rest slot),
  )

-- where no hand's own is left, no part is
pub none_left : (deques : List DequeId) (owns : List (Option Own)) (rows : List Row) (h : NodeId → ℕ) → AllBack deques owns rows → length owns ≡ 0 → (added (slot_in h) owns ≡ 0) × (added (slot_out h) owns ≡ 0) × (all_stolen h rows ≡ 0)
none_left deques [] rows h all none = (refl, refl, nothing_left deques rows h all.fits)
none_left deques (x ∷ xs) rows h all none = absurd (omega arith)
