-- The deques are shared out hand by hand.
use Rattle.std.proofs.Common.{◌≡◌, ◌≢◌, ℕ, zero, suc, ◌+◌, ◌-◌, ◌<◌, ◌≤◌, List, [], ◌∷◌, ◌++◌, length, map, set, sym, refl, ap, ◌∙◌, subst, inl, inr, ◌⊎◌, ⊎_elim, length-append, Option, Some, None, arith}
use Rattle.std.proofs.lemmas.List.{length-set, length-map}
use mathlib.Core.Option.{some, some-injective, some-ne-none}
use lib.ListN.{get_elem?}
use native.Mathlib.Decide.{ℕ_discrete}
use Rattle.crossbeam_queue.proofs.Lists.{at_set, at_map}
use Rattle.dactl_model.specs.declared.graph.NodeId.{NodeId}
use Rattle.dactl_queue.specs.Accounts.{weigh}
use Rattle.dactl_steal.proofs.Sums.{added_snoc}
use Rattle.dactl_steal.specs.Making.{IsNewOwn, CanLend, AreLenders, HasLent, HaveLent, AreUnshared, IsShared, AreShared, own_deque}
use Rattle.dactl_steal.specs.Others.{DequeId, OthersFit, SlotFits, IsUsable, deque_of, trail_of, stolen, slot_stolen}
use Rattle.dactl_steal.specs.declared.board.StealHand.{StealHand}
use Rattle.dactl_steal.specs.declared.other.Other.{Other}
use Rattle.dactl_steal.specs.declared.own.Own.{Own}

pub at_end : {X : Type 0} (l : List X) (a b : X) (j : ℕ) → get_elem? (l ++ a ∷ []) j ≡ some b → (get_elem? l j ≡ some b) ⊎ ((j ≡ length l) × (a ≡ b))
at_end [] a b zero e = inr (refl, some-injective a b e)
at_end [] a b (suc j) e = absurd (some-ne-none b (sym e))
at_end (x ∷ xs) a b zero e = inl e
at_end (x ∷ xs) a b (suc j) e = ⊎_elim (λ (t : get_elem? xs j ≡ some b). inl t) (λ (t : (j ≡ length xs) × (a ≡ b)). inr (ap suc t.0, t.1)) (at_end xs a b j e)

-- while the hand with this number gets its row, the hands before a place have lent
abbrev pub Lending : ℕ → ℕ → List StealHand → List StealHand → Type 0
Lending number count olds news = (place : ℕ) (k : StealHand) → get_elem? news place ≡ some k → (h : StealHand) × (get_elem? olds place ≡ some h) × (place < count → HasLent number place h k) × (count ≤ place → k ≡ h)

pub lending_starts : (number : ℕ) (hands : List StealHand) → Lending number 0 hands hands
lending_starts number hands place k e = (k, e, (λ z. absurd (omega arith)), λ _. refl)

pub below_or_is : (a b : ℕ) → a < b + 1 → (a < b) ⊎ (a ≡ b)
below_or_is zero zero l = inr refl
below_or_is zero (suc b) l = inl (omega arith)
below_or_is (suc a) zero l = absurd (omega arith)
below_or_is (suc a) (suc b) l = ⊎_elim (λ (t : a < b). inl (omega (arith, t))) (λ (t : a ≡ b). inr (ap suc t)) (below_or_is a b (omega arith))

pub lending_skips : (number count : ℕ) (olds news : List StealHand) → count ≡ number → Lending number count olds news → Lending number (count + 1) olds news
lending_skips number count olds news own so place k e = let t = so place k e in (
  t.0,
  t.1,
  (λ below. ⊎_elim (λ (less : place < count). t.2 less)
      (λ (is : place ≡ count). let same : k ≡ t.0 = t.3 (omega (arith, is)) in record {
        same = subst (λ (x : StealHand). x ≡ record t.0 { own = x.own }) (sym same) refl;
        deque = ap own_deque same;
        own = λ _. ap (λ (x : StealHand). x.own) same;
        lent = λ other. absurd (other (is ∙ own));
      }) (below_or_is place count below)),
  λ past. t.3 (omega arith),
)

pub lending_goes_on : (number count : ℕ) (olds news : List StealHand) (k w : StealHand) → Lending number count olds news → get_elem? news count ≡ some k
    → count ≢ number → w ≡ record k { own = w.own } → own_deque w ≡ own_deque k → ((room lent : ℕ) → IsNewOwn room lent k.own → IsNewOwn room (lent + 1) w.own)
    → Lending number (count + 1) olds (set news count w)
lending_goes_on number count olds news k w so at other same deque lent place x e = ⊎_elim
    (λ (t : (place ≡ count) × (w ≡ x)). let s = so count k at in let is : k ≡ s.0 = s.3 (omega arith) in (
      s.0,
      subst (λ (n : ℕ). get_elem? olds n ≡ some s.0) (sym t.0) s.1,
      (λ _. subst (λ (y : StealHand). HasLent number place s.0 y) t.1 (record {
        same = subst (λ (y : StealHand). w ≡ record y { own = w.own }) is same;
        deque = deque ∙ ap own_deque is;
        own = λ mine. absurd (other (sym t.0 ∙ mine));
        lent = λ _ room n f. lent room n (subst (λ (y : StealHand). IsNewOwn room n y.own) (sym is) f);
      })),
      λ past. absurd (let p = t.0 in omega arith),
    ))
    (λ (t : (place ≢ count) × (get_elem? news place ≡ some x)). let s = so place x t.1 in let apart = t.0 in
    (s.0, s.1, (λ below. ⊎_elim (λ (less : place < count). s.2 less) (λ (is : place ≡ count). absurd (apart is)) (below_or_is place count below)), λ past. s.3 (omega arith)))
    (at_set news count place w x e)

at_below : {X : Type 0} (xs : List X) (place : ℕ) (x : X) → get_elem? xs place ≡ some x → place < length xs
at_below [] place x e = absurd (some-ne-none x (sym e))
at_below (y ∷ ys) zero x e = omega arith
at_below (y ∷ ys) (suc place) x e = omega (arith, at_below ys place x e)

-- all places have lent
pub lending_ends : (number count : ℕ) (olds news : List StealHand) → length news ≤ count → Lending number count olds news → HaveLent number olds news
lending_ends number count olds news all so place k e = let s = so place k e in (s.0, s.1, s.2 (let b = at_below news place k e in omega arith))

-- a row with one place more
pub row_grows : (me : ℕ) (deques : List DequeId) (row : List (Option Other)) (slot : Option Other) → ((j : ℕ) (s : Option Other) → get_elem? row j ≡ some s → SlotFits me deques j s) → SlotFits me deques (length row) slot
    → (j : ℕ) (s : Option Other) → get_elem? (row ++ slot ∷ []) j ≡ some s → SlotFits me deques j s
row_grows me deques row slot each fits j s e = ⊎_elim (λ (t : get_elem? row j ≡ some s). each j s t)
    (λ (t : (j ≡ length row) × (slot ≡ s)). subst (λ (x : ℕ × Option Other). SlotFits me deques x.0 x.1) (λ i. (sym t.0 i, t.1 i)) fits) (at_end row slot s j e)

-- the deque at a place
pub deque_at : (hands : List StealHand) (place : ℕ) (h : StealHand) → get_elem? hands place ≡ some h → get_elem? (map own_deque hands) place ≡ some (own_deque h)
deque_at hands place h e = at_map own_deque hands place h e

-- the first `count` hands have their rows
pub record Part (olds : List StealHand) (count place : ℕ) (h k : StealHand) : Type 0 where
  pub same : k ≡ record h { own = k.own; others = k.others }
  pub deque : own_deque k ≡ own_deque h
  pub before : place < count → (room : ℕ) → IsNewOwn room 0 h.own → IsNewOwn room (count - 1) k.own
  pub after : count ≤ place → (room : ℕ) → IsNewOwn room 0 h.own → IsNewOwn room count k.own
  pub others : place < count → OthersFit place (map own_deque olds) k.others.items
  pub none : place < count → (weight : NodeId → ℕ) → stolen weight k.others.items ≡ 0

abbrev pub Sharing : ℕ → List StealHand → List StealHand → Type 0
Sharing count olds news = (place : ℕ) (k : StealHand) → get_elem? news place ≡ some k → (h : StealHand) × (get_elem? olds place ≡ some h) × Part olds count place h k

pub sharing_starts : (hands : List StealHand) → Sharing 0 hands hands
sharing_starts hands place k e = (
  k,
  e,
  record {
    same = refl;
    deque = refl;
    before = λ z. absurd (omega arith);
    after = λ _ room f. f;
    others = λ z. absurd (omega arith);
    none = λ z. absurd (omega arith);
  },
)

pub past_or_before : (a b : ℕ) → (a < b) ⊎ (b ≤ a)
past_or_before zero zero = inr (omega arith)
past_or_before zero (suc b) = inl (omega arith)
past_or_before (suc a) zero = inr (omega arith)
past_or_before (suc a) (suc b) = ⊎_elim (λ (t : a < b). inl (omega (arith, t))) (λ (t : b ≤ a). inr (omega (arith, t))) (past_or_before a b)

pub lenders : (room count : ℕ) (olds news : List StealHand) → count < 256 → AreUnshared room olds → Sharing count olds news → AreLenders news
lenders room count olds news few fresh so place k e = let s = so place k e in ⊎_elim
    (λ (t : place < count). (room, count - 1, omega arith, s.2.before t room (fresh place s.0 s.1)))
    (λ (t : count ≤ place). (room, count, few, s.2.after t room (fresh place s.0 s.1))) (past_or_before place count)

pub same_deques : (olds news : List StealHand) → length news ≡ length olds → ((place : ℕ) (k : StealHand) → get_elem? news place ≡ some k → (h : StealHand) × (get_elem? olds place ≡ some h) × (own_deque k ≡ own_deque h))
    → map own_deque news ≡ map own_deque olds
same_deques [] [] long each = refl
same_deques [] (k ∷ ks) long each = absurd (omega arith)
same_deques (h ∷ hs) [] long each = absurd (omega arith)
same_deques (h ∷ hs) (k ∷ ks) long each = let s = each 0 k refl in let is : h ≡ s.0 = some-injective h s.0 s.1 in
    let head : own_deque k ≡ own_deque h = s.2 ∙ sym (ap own_deque is) in let rest = same_deques hs ks (omega arith) (λ place x e. each (suc place) x e) in λ i. head i ∷ rest i

whole_same : (a b c w : StealHand) → b ≡ record a { own = b.own; others = b.others } → c ≡ record b { own = c.own } → w ≡ record c { others = w.others } → w ≡ record a { own = w.own; others = w.others }
whole_same a b c w x y z = z ∙ (ap (λ (q : StealHand). record q { others = w.others; own = c.own }) y ∙ (ap (λ (q : StealHand). record q { others = w.others; own = c.own }) x ∙ ap (λ (o : Own). record a { own = o; others = w.others }) (sym (ap (λ (q : StealHand). q.own) z))))

part_same : (a b x : StealHand) → b ≡ record a { own = b.own; others = b.others } → record b { own = x.own } ≡ record a { own = x.own; others = b.others }
part_same a b x e = ap (λ (q : StealHand). record q { own = x.own; others = b.others }) e

-- the hand with the number `count` got its row
pub sharing_goes_on : (count : ℕ) (olds mids news : List StealHand) (k w : StealHand) → length mids ≡ length olds → Sharing count olds mids → HaveLent count mids news → get_elem? news count ≡ some k
    → w ≡ record k { others = w.others } → OthersFit count (map own_deque mids) w.others.items → ((weight : NodeId → ℕ) → stolen weight w.others.items ≡ 0)
    → Sharing (count + 1) olds (set news count w)
sharing_goes_on count olds mids news k w long so lent at same fits none place x e = ⊎_elim
    (λ (t : (place ≡ count) × (w ≡ x)). let l = lent count k at in let s = so count l.0 l.1 in (
      s.0,
      subst (λ (n : ℕ). get_elem? olds n ≡ some s.0) (sym t.0) s.1,
      subst (λ (y : ℕ × StealHand). Part olds (count + 1) y.0 s.0 y.1) (λ i. (sym t.0 i, t.1 i)) (record {
        same = whole_same s.0 l.0 k w s.2.same l.2.same same;
        deque = ap own_deque same ∙ (l.2.deque ∙ s.2.deque);
        before = λ _ room f. subst (λ (n : ℕ). IsNewOwn room n w.own) (let q : count ≡ (count + 1) - 1 = omega arith in q) (subst (IsNewOwn room count) (sym (ap (λ (y : StealHand). y.own) same ∙ l.2.own refl)) (s.2.after (omega arith) room f));
        after = λ past. absurd (omega arith);
        others = λ _. subst (λ (ds : List DequeId). OthersFit count ds w.others.items) (same_deques olds mids long (λ j y f. let z = so j y f in (z.0, z.1, z.2.deque))) fits;
        none = λ _. none;
      }),
    ))
    (λ (t : (place ≢ count) × (get_elem? news place ≡ some x)). let l = lent place x t.1 in let s = so place l.0 l.1 in let apart = t.0 in let kept : x.others ≡ l.0.others = ap (λ (y : StealHand). y.others) l.2.same in (
      s.0,
      s.1,
      record {
        same = subst (λ (y : StealHand). y ≡ record s.0 { own = y.own; others = y.others }) (sym l.2.same) (part_same s.0 l.0 x s.2.same);
        deque = l.2.deque ∙ s.2.deque;
        before = λ below room f. ⊎_elim (λ (less : place < count). subst (λ (n : ℕ). IsNewOwn room n x.own) (let q : (count - 1) + 1 ≡ (count + 1) - 1 = omega arith in q) (l.2.lent apart room (count - 1) (s.2.before less room f)))
            (λ (is : place ≡ count). absurd (apart is)) (below_or_is place count below);
        after = λ past room f. l.2.lent apart room count (s.2.after (omega arith) room f);
        others = λ below. ⊎_elim (λ (less : place < count). subst (λ v. OthersFit place (map own_deque olds) v.items) (sym kept) (s.2.others less)) (λ (is : place ≡ count). absurd (apart is)) (below_or_is place count below);
        none = λ below. ⊎_elim (λ (less : place < count). subst (λ v. (weight : NodeId → ℕ) → stolen weight v.items ≡ 0) (sym kept) (s.2.none less)) (λ (is : place ≡ count). absurd (apart is)) (below_or_is place count below);
      },
    ))
    (at_set news count place w x e)

pub sharing_ends : (room : ℕ) (olds news : List StealHand) → length news ≡ length olds → Sharing (length olds) olds news → AreUnshared room olds → AreShared room olds news
sharing_ends room olds news long so fresh place k e = let s = so place k e in let below : place < length olds = (let b = at_below news place k e in omega arith) in (
  s.0,
  s.1,
  record {
    same = s.2.same;
    deque = s.2.deque;
    own = s.2.before below room (fresh place s.0 s.1);
    others = s.2.others below;
    none = s.2.none below;
  },
)

-- a row that is made, of the places so far
pub record RowState (number place : ℕ) (olds news : List StealHand) (row : List (Option Other)) : Type 0 where
  pub long : length news ≡ length olds
  pub count : length row ≡ place
  pub lent : Lending number place olds news
  pub fits : (j : ℕ) (slot : Option Other) → get_elem? row j ≡ some slot → SlotFits number (map own_deque olds) j slot
  pub none : (weight : NodeId → ℕ) → stolen weight row ≡ 0

pub no_slots : {X : Type 0} (j : ℕ) (slot : X) → get_elem? {A = X} [] j ≡ some slot → ⊥
no_slots j slot e = some-ne-none slot (sym e)

pub state_starts : (number : ℕ) (hands : List StealHand) (row : List (Option Other)) → row ≡ [] → RowState number 0 hands hands row
state_starts number hands row is = record {
  long = refl;
  count = ap length is;
  lent = lending_starts number hands;
  fits = λ j slot e. absurd (no_slots j slot (subst (λ (l : List (Option Other)). get_elem? l j ≡ some slot) is e));
  none = λ h. ap (stolen h) is;
}

pub state_own : (number place : ℕ) (olds news : List StealHand) (row next : List (Option Other)) → place ≡ number → RowState number place olds news row → next ≡ row ++ None ∷ [] → RowState number (place + 1) olds news next
state_own number place olds news row next own so is = record {
  long = so.long;
  count = let l = ap length is in let c = so.count in omega (arith, length-append row (None ∷ []));
  lent = lending_skips number place olds news own so.lent;
  fits = subst (λ (l : List (Option Other)). (j : ℕ) (slot : Option Other) → get_elem? l j ≡ some slot → SlotFits number (map own_deque olds) j slot) (sym is) (row_grows number (map own_deque olds) row None so.fits (so.count ∙ own));
  none = λ h. let n = so.none h in let l = ap (stolen h) is in omega (arith, added_snoc (slot_stolen h) row None);
}

pub state_other : (number place : ℕ) (olds news : List StealHand) (row next : List (Option Other)) (k w : StealHand) (o : Other) → RowState number place olds news row → get_elem? news place ≡ some k → place ≢ number
    → w ≡ record k { own = w.own } → own_deque w ≡ own_deque k → ((room lent : ℕ) → IsNewOwn room lent k.own → IsNewOwn room (lent + 1) w.own) → IsUsable o → deque_of o ≡ own_deque k → (trail_of o).taken ≡ []
    → next ≡ row ++ Some o ∷ [] → RowState number (place + 1) olds (set news place w) next
state_other number place olds news row next k w o so at other same deque lent usable its none is =
    let s = so.lent place k at in let was : k ≡ s.0 = s.3 (omega arith) in
    let there : get_elem? (map own_deque olds) place ≡ some (deque_of o) = at_map own_deque olds place s.0 s.1 ∙ ap some (sym (its ∙ ap own_deque was)) in record {
      long = length-set news place w ∙ so.long;
      count = let l = ap length is in let c = so.count in omega (arith, length-append row (Some o ∷ []));
      lent = lending_goes_on number place olds news k w so.lent at other same deque lent;
      fits = subst (λ (l : List (Option Other)). (j : ℕ) (slot : Option Other) → get_elem? l j ≡ some slot → SlotFits number (map own_deque olds) j slot) (sym is) (row_grows number (map own_deque olds) row (Some o) so.fits
          (subst (λ (n : ℕ). SlotFits number (map own_deque olds) n (Some o)) (sym so.count) (other, there, usable)));
      none = λ h. let n = so.none h in let l = ap (stolen h) is in let t = ap (weigh h) none in omega (arith, added_snoc (slot_stolen h) row (Some o));
    }

-- a hand that has not lent yet in this row can
pub state_lends : (number place : ℕ) (olds news : List StealHand) (row : List (Option Other)) (k : StealHand) → AreLenders olds → RowState number place olds news row → get_elem? news place ≡ some k → CanLend k.own
state_lends number place olds news row k all so at = let s = so.lent place k at in subst (λ (x : StealHand). CanLend x.own) (sym (s.3 (omega arith))) (all place s.0 s.1)

-- a row with all places
pub row_done : (number place : ℕ) (olds news : List StealHand) (row : List (Option Other)) → RowState number place olds news row → length olds ≤ place → place ≤ length olds → OthersFit number (map own_deque olds) row
row_done number place olds news row so past end = record { count = let c = so.count in omega (arith, length-map olds own_deque); each = so.fits }
