-- What a board has once every hand was given back.
use Rattle.std.proofs.Common.{◌≡◌, ◌≢◌, ℕ, zero, suc, ◌+◌, ◌<◌, ◌≤◌, List, [], ◌∷◌, ◌++◌, length, map, sym, refl, ap, ◌∙◌, subst, ⊎_elim, ◌⊎◌, Option, Some, None, arith}
use Rattle.std.proofs.lemmas.List.{length-map}
use mathlib.Core.Option.{some, some-ne-none}
use lib.ListN.{get_elem?}
use Rattle.crossbeam_deque.specs.Handles.{stealer_deque, worker_deque}
use Rattle.crossbeam_queue.specs.Passes.{view}
use Rattle.dactl_model.specs.declared.graph.NodeId.{NodeId}
use Rattle.dactl_queue.specs.Accounts.{weigh, Balances}
use Rattle.dactl_steal.specs.Boards.{IsBoard, IsBack, OwnFits, times, parts_of, puts_of, takes_of, deques_of, hands_of}
use Rattle.dactl_steal.specs.Closing.{Row, AllBack, RowsFit, all_stolen, slot_in, slot_out}
use Rattle.dactl_steal.specs.Members.{Stands, everyone, numbers_from}
use Rattle.dactl_steal.specs.Others.{OthersFit, SlotFits}
use Rattle.dactl_steal.specs.Owns.{account_of}
use Rattle.dactl_steal.specs.Sums.{added}
use Rattle.dactl_steal.specs.declared.board.StealBoard.{StealBoard}
use Rattle.dactl_steal.specs.declared.other.Other.{Other}
use Rattle.dactl_steal.specs.declared.own.Own.{Own}
use Rattle.dactl_steal.specs.declared.roll.Member.{Member}
use Rattle.dactl_steal.proofs.Boards.{at_there, is, is_same, is_other, same_or_not, none_from}
use Rattle.dactl_steal.proofs.Deques.{weigh_ones}

ones : (xs : List ℕ) → added (λ _. 1) xs ≡ length xs
ones [] = refl
ones (x ∷ xs) = omega (arith, ones xs)

pub all_length : (first count : ℕ) → length (numbers_from first count) ≡ count
all_length first zero = refl
all_length first (suc count) = omega (arith, all_length (suc first) count)

everyone_length : length everyone ≡ 256
everyone_length = all_length 0 256

stands_once : (number first count : ℕ) → first ≤ number → number < first + count → times number (numbers_from first count) ≡ 1
stands_once number first zero low high = absurd (omega arith)
stands_once number first (suc count) low high = ⊎_elim (λ (e : number ≡ first). let i = subst (λ (n : ℕ). is number n ≡ 1) e (is_same number) in let z = none_from number (suc first) count (omega (arith, e)) in omega arith)
    (λ (n : number ≢ first). let z = is_other number first (λ e. n (sym e)) in let r = stands_once number (suc first) count (omega (arith, n)) (omega arith) in omega arith) (same_or_not number first)

all_once : (number : ℕ) → number < 256 → times number everyone ≡ 1
all_once number less = stands_once number 0 256 (omega arith) less

none_more : (rest : List ℕ) → length rest ≡ 0 → (w : ℕ → ℕ) → added w rest ≡ 0
none_more [] e w = refl
none_more (x ∷ xs) e w = absurd (omega arith)

-- a member that stands for 256 numbers stands for each
stands_for_each : (m : Member) → Stands m → length m.numbers ≡ 256 → (number : ℕ) → number < 256 → times number m.numbers ≡ 1
stands_for_each m all long number less = let e = all.1 (λ _. 1) in
    let none : length all.0 ≡ 0 = omega (arith, ones m.numbers, ones all.0, ones everyone, everyone_length) in
    let s = all.1 (is number) in let z = none_more all.0 none (is number) in let o = all_once number less in omega arith

module _ (b : StealBoard) (sound : IsBoard b) (all : Stands (view b.keeper)) (whole : parts_of b ≡ 256) where
  is_back : (place : ℕ) (slot : Option Own) (row : List (Option Other)) → place < hands_of b → IsBack b place slot row → (o : Own) × (slot ≡ Some o) × OwnFits b place o × OthersFit place (deques_of b) row
  is_back place None row less back = absurd (let t = stands_for_each (view b.keeper) all whole place (let f = sound.few in omega arith) in let z = back.0 in omega arith)
  is_back place (Some o) row less back = (o, refl, back.1, back.2)

  place_below : {X : Type 0} (xs : List X) (i : ℕ) (x : X) → get_elem? xs i ≡ some x → i < length xs
  place_below [] i x e = absurd (some-ne-none x (sym e))
  place_below (y ∷ ys) zero x e = omega arith
  place_below (y ∷ ys) (suc i) x e = omega (arith, place_below ys i x e)

  pub all_back : AllBack (deques_of b) b.owns.items b.rows.items
  all_back = record {
    long = let o = sound.owns in let r = sound.rows in omega arith;
    mine = λ place slot e. let less : place < hands_of b = (let p = place_below b.owns.items place slot e in let o = sound.owns in omega arith) in
        let row = at_there b.rows.items place (let r = sound.rows in omega arith) in let t = is_back place slot row.0.items less (sound.back place slot row.0 e row.1) in
        (t.0, t.1, t.2.deque, (let p = t.2.parts in let r = sound.rows in omega arith));
    fits = record {
      long = λ place row e. let less : place < hands_of b = (let p = place_below b.rows.items place row e in let r = sound.rows in omega arith) in
          let slot = at_there b.owns.items place (let o = sound.owns in omega arith) in let t = is_back place slot.0 row.items less (sound.back place slot.0 row slot.1 e) in
          let c = t.3.count in let m = length-map b.thieves.items stealer_deque in let o = sound.owns in omega arith;
      each = λ place row e j s a. let less : place < hands_of b = (let p = place_below b.rows.items place row e in let r = sound.rows in omega arith) in
          let slot = at_there b.owns.items place (let o = sound.owns in omega arith) in let t = is_back place slot.0 row.items less (sound.back place slot.0 row slot.1 e) in t.3.each j s a;
    };
  }

  pub balanced : (left : List NodeId) → ((w : NodeId → ℕ) → added (slot_in w) b.owns.items ≡ added (slot_out w) b.owns.items + all_stolen w b.rows.items + weigh w left) → Balances (puts_of b) (takes_of b) left
  balanced left told w = let e = sound.even w in let t = told w in omega arith

  pub left_few : (left : List NodeId) → Balances (puts_of b) (takes_of b) left → length left ≤ length (puts_of b)
  left_few left told = let t = told (λ _. 1) in omega (arith, weigh_ones left, weigh_ones (puts_of b), weigh_ones (takes_of b))
