-- How many items pass a test, along a walk and among the arcs of a node.
use Rattle.std.proofs.Common.{◌≡◌, ◌≢◌, ℕ, zero, suc, ◌+◌, ◌<◌, ◌≤◌, Bool, true, false, ◌&&◌, cond, eqb, ltb, List, [], ◌∷◌, ◌++◌, length, get_or, take, drop, count_by, refl, sym, ap, ◌∙◌, arith, subst, inl, inr}
use Rattle.std.specs.List.{IsDistinct, AllByRecursion}
use Rattle.std.proofs.lemmas.Bool.{eqb-true, eqb-false, eq-eqb, ne_eqb, lt-ltb, ltb-true, cases_Bool, and_parts}
use Rattle.std.proofs.lemmas.Bool.Decides.{nat_tests}
use Rattle.std.proofs.lemmas.List.{drop-drop, take-append-drop}
use Rattle.std.proofs.lemmas.List.Sums.{sum_by-append}
use Rattle.std.proofs.lemmas.List.Elements.{recursion_from_All}
use Rattle.std.proofs.lemmas.Map.Keys.{IsDistinct-tail}
use Rattle.dactl_active.proofs.Numbers.{Lacks-from_distinct, has-lacking}
use Rattle.dactl_arcs.specs.declared.lists.ArcRecord.{ArcRecord}
use Rattle.dactl_arcs.specs.Pool.{IsWalk, has, target_of, waits_along, arc_record}
use Rattle.dactl_arcs.specs.Moves.{record_at}
use Rattle.dactl_model.proofs.Counting.{count_by-cons}
use Rattle.dactl_store.specs.declared.table.Span.{Span}
use Rattle.dactl_store.specs.Layout.{own_part, AreLaid}
use Rattle.dactl_store.proofs.Laying.{no_span}

pub count_same : {X : Type 0} (p q : X → Bool) → ((x : X) → p x ≡ q x) → (xs : List X) → count_by p xs ≡ count_by q xs
count_same p q same [] = refl
count_same p q same (x ∷ xs) = rw (count_by-cons p, count_by-cons q, same x, count_same p q same xs) refl

-- how many of the numbers from k on pass, as many numbers as there are items
counted : (ℕ → Bool) → ℕ → List ArcRecord → ℕ
counted f k [] = 0
counted f k (a ∷ arcs) = cond (f k) 1 0 + counted f (suc k) arcs

module _ where
  counted_none : (f : ℕ → Bool) (k : ℕ) (arcs : List ArcRecord) → ((i : ℕ) → k ≤ i → f i ≡ false) → counted f k arcs ≡ 0
  unfolding counted
  counted_none f k [] none = refl
  counted_none f k (a ∷ arcs) none = rw (none k (omega arith), counted_none f (suc k) arcs (λ i above. none i (omega arith))) refl

  counted_sum : (f g h : ℕ → Bool) (k : ℕ) (arcs : List ArcRecord) → ((i : ℕ) → cond (f i) 1 0 ≡ cond (g i) 1 0 + cond (h i) 1 0) → counted f k arcs ≡ counted g k arcs + counted h k arcs
  unfolding counted
  counted_sum f g h k [] parts = refl
  counted_sum f g h k (a ∷ arcs) parts = omega (arith, parts k, counted_sum f g h (suc k) arcs parts)

  counted_one : (p : ℕ → Bool) (x k : ℕ) (arcs : List ArcRecord) → k ≤ x → x < k + length arcs → counted (λ i. eqb i x && p i) k arcs ≡ cond (p x) 1 0
  unfolding counted
  counted_one p x k [] from below = absurd (omega arith)
  counted_one p x k (a ∷ arcs) from below = elim (cases_Bool (eqb k x)) [
    | inl same ↦
        let equal = eqb-true k x same in
        let rest : counted (λ i. eqb i x && p i) (suc k) arcs ≡ 0 = counted_none (λ i. eqb i x && p i) (suc k) arcs (λ i above. ap (λ b. b && p i) (ne_eqb i x (λ e. omega arith))) in
        rw (same, rest) (rw equal (omega arith))
    | inr other ↦
        let differ = eqb-false k x other in
        rw other (omega (arith, counted_one p x (suc k) arcs (omega arith) (omega arith)))
  ]

  counted_list : (f : ℕ → Bool) (q : ArcRecord → Bool) (d : ArcRecord) (k : ℕ) (arcs : List ArcRecord) → ((i j : ℕ) → i ≡ k + j → j < length arcs → f i ≡ q (get_or arcs j d)) → counted f k arcs ≡ count_by q arcs
  unfolding counted
  counted_list f q d k [] same = refl
  counted_list f q d k (a ∷ arcs) same =
      let first : f k ≡ q a = same k 0 (omega arith) (omega arith) in
      let rest = counted_list f q d (suc k) arcs (λ i j e below. same i (suc j) (omega arith) (omega arith)) in
      rw (count_by-cons q, first, rest) refl

  counted_walk : (p : ℕ → Bool) (walk : List ℕ) (arcs : List ArcRecord) → IsDistinct eqb walk → ((i : ℕ) → has walk i ≡ true → i < length arcs) → count_by p walk ≡ counted (λ i. has walk i && p i) 0 arcs
  counted_walk p [] arcs distinct below = sym (counted_none (λ i. has [] i && p i) 0 arcs (λ i above. refl))
  counted_walk p (x ∷ walk) arcs distinct below =
      let lacks = has-lacking walk x (Lacks-from_distinct x walk distinct) in
      let rest = counted_walk p walk arcs (IsDistinct-tail eqb x walk distinct) (λ i there. below i (grind (arith, nat_tests, there))) in
      let here : x < length arcs = below x (rw (eq-eqb x x refl) refl) in
      let one = counted_one p x 0 arcs (omega arith) (omega arith) in
      let both = counted_sum (λ i. has (x ∷ walk) i && p i) (λ i. eqb i x && p i) (λ i. has walk i && p i) 0 arcs (λ i. elim (cases_Bool (eqb i x)) [
        | inl same ↦ (let absent : has walk i ≡ false = ap (has walk) (eqb-true i x same) ∙ lacks in rw (same, absent) (omega arith))
        | inr other ↦ rw other (omega arith)
      ]) in
      count_by-cons p x walk ∙ omega (arith, rest, one, both)

-- along a walk: how many of the arcs into the target along which their owners wait pass
pub count_walk : (arcs : List ArcRecord) (target : ℕ) (walk : List ℕ) → IsWalk arcs target walk → (p : ArcRecord → Bool) → count_by (λ i. p (record_at arcs i)) walk ≡ count_by (λ a. (eqb a.target target && a.waits) && p a) arcs
count_walk arcs target walk is p =
    counted_walk (λ i. p (record_at arcs i)) walk arcs is.distinct (λ i there. ltb-true i (length arcs) (and_parts (ltb i (length arcs)) (eqb (target_of arcs i) target && waits_along arcs i) (sym (is.members i) ∙ there)).0)
    ∙ counted_list (λ i. has walk i && p (record_at arcs i)) (λ a. (eqb a.target target && a.waits) && p a) (arc_record 0 0 false) 0 arcs (λ i j e below.
    let same : i ≡ j = omega arith in
    let member : has walk i ≡ (eqb (target_of arcs i) target && waits_along arcs i) = is.members i ∙ ap (λ b. b && (eqb (target_of arcs i) target && waits_along arcs i)) (lt-ltb i (length arcs) (omega arith)) in
    ap (λ b. b && p (record_at arcs i)) member ∙ ap (λ k. (eqb (target_of arcs k) target && waits_along arcs k) && p (record_at arcs k)) same)

count_none : {X : Type 0} (p : X → Bool) (xs : List X) → AllByRecursion (λ x. p x ≡ false) xs → count_by p xs ≡ 0
count_none p [] none = refl
count_none p (x ∷ xs) none = rw (count_by-cons p, none.0, count_none p xs none.1) refl

pub count-append : {X : Type 0} (p : X → Bool) (xs ys : List X) → count_by p (xs ++ ys) ≡ count_by p xs + count_by p ys
count-append p xs ys = sum_by-append (λ x. cond (p x) 1 0) xs ys

split_count : (p : ArcRecord → Bool) (n : ℕ) (arcs : List ArcRecord) → count_by p arcs ≡ count_by p (take n arcs) + count_by p (drop n arcs)
split_count p n arcs = ap (count_by p) (sym (take-append-drop n arcs)) ∙ count-append p (take n arcs) (drop n arcs)

others : (q : ArcRecord → Bool) (k m : ℕ) (arcs : List ArcRecord) → k ≢ m → AllByRecursion (λ a. a.owner ≡ k) arcs → count_by (λ a. q a && eqb a.owner m) arcs ≡ 0
others q k m [] differ all = refl
others q k m (a ∷ arcs) differ all =
    let other : eqb a.owner m ≡ false = ne_eqb a.owner m (λ e. differ (sym all.0 ∙ e)) in
    rw (count_by-cons (λ x. q x && eqb x.owner m)) (elim (cases_Bool (q a)) [
      | inl passes ↦ rw (passes, other, others q k m arcs differ all.1) refl
      | inr fails ↦ rw (fails, others q k m arcs differ all.1) refl
    ])

its_own : (q : ArcRecord → Bool) (m : ℕ) (arcs : List ArcRecord) → AllByRecursion (λ a. a.owner ≡ m) arcs → count_by (λ a. q a && eqb a.owner m) arcs ≡ count_by q arcs
its_own q m [] all = refl
its_own q m (a ∷ arcs) all =
    let mine : eqb a.owner m ≡ true = eq-eqb a.owner m all.0 in
    rw (count_by-cons (λ x. q x && eqb x.owner m), count_by-cons q) (elim (cases_Bool (q a)) [
      | inl passes ↦ rw (passes, mine, its_own q m arcs all.1) refl
      | inr fails ↦ rw (fails, its_own q m arcs all.1) refl
    ])

-- the nodes from number k on have none of the arcs of an earlier one
count_later : (q : ArcRecord → Bool) (m k at : ℕ) (spans : List Span) (arcs : List ArcRecord) → AreLaid k at spans arcs → m < k → count_by (λ a. q a && eqb a.owner m) arcs ≡ 0
count_later q m k at [] arcs laid earlier = ap (count_by (λ a. q a && eqb a.owner m)) laid
count_later q m k at (span ∷ spans) arcs laid earlier =
    split_count (λ a. q a && eqb a.owner m) span.count arcs
    ∙ omega (arith, others q k m (take span.count arcs) (λ e. omega arith) (recursion_from_All _ _ laid.3), count_later q m (k + 1) (at + span.count) spans (drop span.count arcs) laid.4 (omega arith))

-- among all arcs: how many of the node's own pass
pub count_own : (q : ArcRecord → Bool) (m j k at : ℕ) (spans : List Span) (arcs all : List ArcRecord) → AreLaid k at spans arcs → drop at all ≡ arcs → m ≡ k + j → j < length spans
    → count_by (λ a. q a && eqb a.owner m) arcs ≡ count_by q (own_part all (get_or spans j no_span))
count_own q m j k at [] arcs all laid rest is below = absurd (omega arith)
count_own q m zero k at (span ∷ spans) arcs all laid rest is below =
    let own : own_part all span ≡ take span.count arcs = ap (take span.count) (ap (λ n. drop n all) laid.0 ∙ rest) in
    let mine : count_by (λ a. q a && eqb a.owner m) (take span.count arcs) ≡ count_by q (take span.count arcs) = its_own q m (take span.count arcs) (subst (λ n. AllByRecursion (λ a. a.owner ≡ n) (take span.count arcs)) (omega arith) (recursion_from_All _ _ laid.3)) in
    let later = count_later q m (k + 1) (at + span.count) spans (drop span.count arcs) laid.4 (omega arith) in
    split_count (λ a. q a && eqb a.owner m) span.count arcs ∙ omega (arith, mine, later, ap (count_by q) own)
count_own q m (suc j) k at (span ∷ spans) arcs all laid rest is below =
    let left : drop (at + span.count) all ≡ drop span.count arcs = sym (drop-drop span.count at all) ∙ ap (drop span.count) rest in
    let first = others q k m (take span.count arcs) (λ e. omega arith) (recursion_from_All _ _ laid.3) in
    split_count (λ a. q a && eqb a.owner m) span.count arcs
    ∙ omega (arith, first, count_own q m j (k + 1) (at + span.count) spans (drop span.count arcs) all laid.4 left (omega arith) (omega arith))
