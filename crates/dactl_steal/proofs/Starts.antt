-- What is so of a board and its hands when they are made.
use Rattle.std.proofs.Common.{◌≡◌, ℕ, zero, suc, ◌+◌, ◌-◌, ◌<◌, ◌≤◌, All, List, [], ◌∷◌, ◌++◌, length, map, replicate, get_or, slice_index_or, sym, refl, ap, ◌∙◌, subst, ⊎_elim, ◌⊎◌, Option, Some, None, arith}
use Rattle.std.proofs.lemmas.List.{length-map}
use mathlib.Core.Option.{some, some-injective, some-ne-none}
use lib.ListN.{get_elem?}
use Rattle.crossbeam_deque.specs.Handles.{stealer_deque}
use Rattle.crossbeam_queue.specs.Passes.{Pass, view, IsPassOf}
use Rattle.crossbeam_queue.specs.declared.array_queue.Slotted.{Slotted}
use Rattle.crossbeam_queue.specs.declared.array_queue.Doing.{Doing}
use Rattle.crossbeam_queue.proofs.Lists.{at_map}
use Rattle.dactl_model.specs.declared.graph.NodeId.{NodeId}
use Rattle.dactl_queue.specs.declared.rule.Account.{Account}
use Rattle.dactl_queue.specs.Accounts.{weigh}
use Rattle.dactl_steal.specs.Boards.{HandFits, IsFresh, IsBoard, IsBack, OwnFits, times, deques_of, hands_of}
use Rattle.dactl_steal.specs.Closing.{Row, all_stolen, slot_in, slot_out}
use Rattle.dactl_steal.specs.Making.{IsNewOwn, IsSeated, AreSeated, IsShared, AreShared, AreUnshared, own_deque}
use Rattle.dactl_steal.specs.Members.{member, numbers_from, everyone}
use Rattle.dactl_steal.specs.Others.{DequeId, OthersFit, stolen}
use Rattle.dactl_steal.specs.Sums.{added}
use Rattle.dactl_steal.specs.declared.board.StealBoard.{StealBoard}
use Rattle.dactl_steal.specs.declared.board.StealHand.{StealHand}
use Rattle.dactl_steal.specs.declared.own.Own.{Own}
use Rattle.dactl_steal.specs.declared.roll.Member.{Member}
use Rattle.dactl_steal.proofs.Boards.{at_there, none_from}
use Rattle.dactl_steal.proofs.Shares.{at_end, no_slots}

abbrev Badge : Type 0
Badge = Pass NodeId Member

-- the first of the numbers that are left
pub next_number : (number : ℕ) → number < 256 → numbers_from number (256 - number) ≡ number ∷ numbers_from (number + 1) (255 - number)
next_number number less = ap (numbers_from number) (let q : 256 - number ≡ suc (255 - number) = omega arith in q) ∙ ap (λ (n : ℕ). number ∷ numbers_from n (255 - number)) (let q : suc number ≡ number + 1 = omega arith in q)

pub everyone_from : everyone ≡ numbers_from 0 256
everyone_from = refl

abbrev Seats : Type 0 → Type 0 → Type 0
Seats Q A = Slotted (Option NodeId) (Doing NodeId Member) Q A

pub none_seated : {Q A : Type 0} (roll : Seats Q A) (room : ℕ) (hands : List StealHand) → hands ≡ [] → AreSeated roll room hands
none_seated roll room hands is place h e = absurd (no_slots place h (subst (λ (l : List StealHand). get_elem? l place ≡ some h) is e))

-- one hand more, at the next place
pub one_seated : {Q A : Type 0} (roll : Seats Q A) (room place : ℕ) (hands news : List StealHand) (h : StealHand) → AreSeated roll room hands → length hands ≡ place → IsSeated roll place h → IsNewOwn room 0 h.own → news ≡ hands ++ h ∷ []
    → AreSeated roll room news
one_seated roll room place hands news h all long seat own is at k e = ⊎_elim
    (λ (t : get_elem? hands at ≡ some k). all at k t)
    (λ (t : (at ≡ length hands) × (h ≡ k)). subst (λ (x : ℕ × StealHand). IsSeated roll x.0 x.1 × IsNewOwn room 0 x.1.own) (λ i. (sym (t.0 ∙ long) i, t.1 i)) (seat, own))
    (at_end hands h k at (subst (λ (l : List StealHand). get_elem? l at ≡ some k) is e))

-- while the hands are seated no part is out
pub seated_unshared : {Q A : Type 0} (roll : Seats Q A) (room : ℕ) (hands slice : List StealHand) → AreSeated roll room hands → slice ≡ hands → AreUnshared room slice
seated_unshared roll room hands slice all is place h e = (all place h (subst (λ (l : List StealHand). get_elem? l place ≡ some h) is e)).1

read_there : {X : Type 0} (xs : List X) (i : ℕ) (x d : X) → get_elem? xs i ≡ some x → x ≡ slice_index_or xs i d
read_there [] i x d e = absurd (some-ne-none x (sym e))
read_there (y ∷ ys) zero x d e = sym (some-injective y x e)
read_there (y ∷ ys) (suc i) x d e = read_there ys i x d e

pub all_there : {X : Type 0} (P : X → Type 0) (xs : List X) → ((i : ℕ) (x : X) → get_elem? xs i ≡ some x → P x) → All P xs
all_there P xs each i d less = let t = at_there xs i less in subst P (read_there xs i t.0 d t.1) (each i t.0 t.1)

module _ (b : StealBoard) (olds news : List StealHand) (some_hand : 0 < length olds) (few : length olds ≤ 255) (deques : deques_of b ≡ map own_deque olds) (seated : AreSeated b.roll b.room olds) (shared : AreShared b.room olds news) where
  count : hands_of b ≡ length olds
  count = sym (length-map b.thieves.items stealer_deque) ∙ (ap length deques ∙ length-map olds own_deque)

  pub place_below : {X : Type 0} (xs : List X) (i : ℕ) (x : X) → get_elem? xs i ≡ some x → i < length xs
  place_below [] i x e = absurd (some-ne-none x (sym e))
  place_below (y ∷ ys) zero x e = omega arith
  place_below (y ∷ ys) (suc i) x e = omega (arith, place_below ys i x e)

  pub fresh_each : (place : ℕ) (k : StealHand) → get_elem? news place ≡ some k → IsFresh b k
  fresh_each place k e = let t = shared place k e in let s = (seated place t.0 t.1).0 in let i = t.2 in let n = i.own in
      let number : k.number ≡ place = ap (λ (h : StealHand). h.number) i.same ∙ s.number in
      let badge : k.badge ≡ t.0.badge = ap (λ (h : StealHand). h.badge) i.same in
      let back : k.back ≡ 0 = ap (λ (h : StealHand). h.back) i.same ∙ s.back in
      let m : view k.badge ≡ member (place ∷ []) [] [] = ap view badge ∙ s.stands in
      let put = ap (λ (x : Member). x.put) m in let taken = ap (λ (x : Member). x.taken) m in
      let below : place < length olds = place_below olds place t.0 t.1 in (
        record {
          badge = subst (IsPassOf b.roll) (sym badge) s.badge;
          stands = ap (λ (x : Member). x.numbers) m ∙ ap (λ (p : ℕ). p ∷ []) (sym number);
          number = omega (arith, number, count, below);
          own = subst (λ (p : ℕ). OwnFits b p k.own) (sym number) (record {
            deque = ap (λ (ds : List DequeId). get_elem? ds place) deques ∙ (at_map own_deque olds place t.0 t.1 ∙ ap some (sym i.deque));
            usable = (n.first, let p = n.parts in omega (arith, below, few));
            parts = let p = n.parts in omega (arith, count, some_hand);
            room = n.sized;
            few = let r = ap length n.reserve in omega arith;
          });
          others = subst (λ (x : ℕ × List DequeId). OthersFit x.0 x.1 k.others.items) (λ j. (sym number j, sym deques j)) i.others;
          few = let r = ap length n.reserve in omega arith;
          even = λ h. let p = ap (weigh h) put in let t = ap (weigh h) taken in let np = ap (weigh h) n.put in let nt = ap (weigh h) n.taken in let r = ap (weigh h) n.reserve in let z = i.none h in omega arith;
        },
        put,
        taken,
        back,
      )

pub same_count : {X : Type 0} (f : X → DequeId) (xs : List X) (slice hands : List StealHand) → map f xs ≡ map own_deque slice → slice ≡ hands → length xs ≡ length hands
same_count f xs slice hands is there = sym (length-map xs f) ∙ (ap length is ∙ (length-map slice own_deque ∙ ap length there))

-- all hands of a board that is made
pub all_fresh : (b : StealBoard) (olds slice news now : List StealHand) → 0 < length olds → length olds ≤ 255 → deques_of b ≡ map own_deque olds → AreSeated b.roll b.room olds → AreShared b.room slice news → slice ≡ olds → now ≡ news
    → All (IsFresh b) now
all_fresh b olds slice news now some_hand few deques seated shared there written = all_there (IsFresh b) now
    (subst (λ (l : List StealHand). (place : ℕ) (k : StealHand) → get_elem? l place ≡ some k → IsFresh b k) (sym written) (fresh_each b olds news some_hand few deques seated (subst (λ (l : List StealHand). AreShared b.room l news) there shared)))

below_there : {X : Type 0} (xs : List X) (i : ℕ) (x : X) → get_elem? xs i ≡ some x → i < length xs
below_there [] i x e = absurd (some-ne-none x (sym e))
below_there (y ∷ ys) zero x e = omega arith
below_there (y ∷ ys) (suc i) x e = omega (arith, below_there ys i x e)

at_each : {X : Type 0} (P : X → Type 0) (xs : List X) → All P xs → (i : ℕ) (x : X) → get_elem? xs i ≡ some x → P x
at_each P xs all i x e = subst P (sym (read_there xs i x x e)) (all i x (below_there xs i x e))

added_none : {X : Type 0} (f : X → ℕ) (xs : List X) → ((i : ℕ) (x : X) → get_elem? xs i ≡ some x → f x ≡ 0) → added f xs ≡ 0
added_none f [] each = refl
added_none f (x ∷ xs) each = let z = each 0 x refl in let r = added_none f xs (λ i y e. each (suc i) y e) in omega arith

-- a board whose hands are all out
pub sound_start : (b : StealBoard) (n : ℕ) → IsPassOf b.roll b.keeper → view b.keeper ≡ member (numbers_from n (256 - n)) [] [] → hands_of b ≡ n → n ≤ 255 → length b.owns.items ≡ n → All (λ (slot : Option Own). slot ≡ None) b.owns.items
    → length b.rows.items ≡ n → All (λ (row : Row). row.items ≡ []) b.rows.items → IsBoard b
sound_start b n pass left count few owns none rows empty = record {
  keeper = pass;
  few = omega (arith, count, few);
  owns = owns ∙ sym count;
  rows = rows ∙ sym count;
  back = λ place slot row a e. subst (λ (s : Option Own). IsBack b place s row.items) (sym (at_each (λ (s : Option Own). s ≡ None) b.owns.items none place slot a))
      (ap (λ (m : Member). times place m.numbers) left ∙ none_from place n (256 - n) (let l = below_there b.owns.items place slot a in omega (arith, owns)), at_each (λ (r : Row). r.items ≡ []) b.rows.items empty place row e);
  even = λ h. let p = ap (λ (m : Member). weigh h m.put) left in let t = ap (λ (m : Member). weigh h m.taken) left in
      let o = added_none (slot_out h) b.owns.items (λ i s e. ap (slot_out h) (at_each (λ (s : Option Own). s ≡ None) b.owns.items none i s e)) in
      let u = added_none (slot_in h) b.owns.items (λ i s e. ap (slot_in h) (at_each (λ (s : Option Own). s ≡ None) b.owns.items none i s e)) in
      let r = added_none (λ (r : Row). stolen h r.items) b.rows.items (λ i x e. ap (stolen h) (at_each (λ (r : Row). r.items ≡ []) b.rows.items empty i x e)) in omega arith;
}
