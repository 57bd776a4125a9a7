-- Lists of numbers that are all different: what is among them, and what stays when one is taken out.
use Rattle.std.proofs.Common.{◌≡◌, ◌≢◌, ℕ, suc, ◌<◌, ◌≤◌, true, false, not, cond, eqb, List, [], ◌∷◌, ◌++◌, length, Some, refl, sym, ap, subst, ◌∙◌, arith, inl, inr}
use Rattle.std.specs.List.{IsDistinct, AllByRecursion, slice_get}
use Rattle.std.proofs.lemmas.Option.{none-some, same_Some}
use Rattle.std.proofs.lemmas.Bool.{eqb-true, eqb-false, eq-eqb, ne_eqb, or_parts, or_from, or_left, both_ways, cases_Bool, cond-false, cond_both}
use Rattle.std.proofs.lemmas.Bool.Decides.{nat_tests}
use Rattle.std.proofs.lemmas.Map.Steps.{length-le_from_distinct_below}
use Rattle.dactl_active.specs.Ring.{has, inserted, turned, without}
use Rattle.dactl_active.specs.Places.{Lacks, AreApart}

pub Lacks-from_has : (xs : List ℕ) (n : ℕ) → has xs n ≡ false → Lacks xs n
Lacks-from_has [] n absent = tt
Lacks-from_has (x ∷ xs) n absent =
    let parts = or_parts (eqb n x) (has xs n) absent in
    (λ same. eqb-false n x parts.0 (sym same), Lacks-from_has xs n parts.1)

pub has-lacking : (xs : List ℕ) (n : ℕ) → Lacks xs n → has xs n ≡ false
has-lacking [] n lacks = refl
has-lacking (x ∷ xs) n lacks =
    or_from (eqb n x) (has xs n) (ne_eqb n x (λ same. lacks.0 (sym same))) (has-lacking xs n lacks.1)

-- a number that is there is not one that is lacking
pub differs : (xs : List ℕ) (absent there : ℕ) → Lacks xs absent → has xs there ≡ true → absent ≢ there
differs xs absent there lacks present same =
    both_ways (has xs there) (ap (has xs) (sym same) ∙ has-lacking xs absent lacks) present

pub Lacks-push : (xs : List ℕ) (m n : ℕ) → Lacks xs n → m ≢ n → Lacks (xs ++ m ∷ []) n
Lacks-push [] m n lacks differ = (differ, tt)
Lacks-push (x ∷ xs) m n lacks differ = (lacks.0, Lacks-push xs m n lacks.1 differ)

pub AreApart-push : (xs : List ℕ) (n : ℕ) → AreApart xs → Lacks xs n → AreApart (xs ++ n ∷ [])
AreApart-push [] n apart lacks = (tt, tt)
AreApart-push (x ∷ xs) n apart lacks =
    (Lacks-push xs n x apart.0 (λ same. lacks.0 (sym same)), AreApart-push xs n apart.1 lacks.1)

all_differ : (x : ℕ) (xs : List ℕ) → Lacks xs x → AllByRecursion (λ y. eqb x y ≡ false) xs
all_differ x [] lacks = tt
all_differ x (y ∷ ys) lacks = (ne_eqb x y (λ same. lacks.0 (sym same)), all_differ x ys lacks.1)

pub IsDistinct-from_apart : (xs : List ℕ) → AreApart xs → IsDistinct eqb xs
unfolding IsDistinct
IsDistinct-from_apart [] apart = tt
IsDistinct-from_apart (x ∷ xs) apart = (all_differ x xs apart.0, IsDistinct-from_apart xs apart.1)

lacks_from_all : (x : ℕ) (xs : List ℕ) → AllByRecursion (λ y. eqb x y ≡ false) xs → Lacks xs x
lacks_from_all x [] differ = tt
lacks_from_all x (y ∷ ys) differ = (λ same. eqb-false x y differ.0 (sym same), lacks_from_all x ys differ.1)

-- the first of distinct numbers is none of the others
pub Lacks-from_distinct : (x : ℕ) (xs : List ℕ) → IsDistinct eqb (x ∷ xs) → Lacks xs x
unfolding IsDistinct
Lacks-from_distinct x xs distinct = lacks_from_all x xs distinct.0

-- numbers below the room that are all different are at most as many as the room
pub length-apart : (xs : List ℕ) (room : ℕ) → AreApart xs → ((n : ℕ) → has xs n ≡ true → n < room) → length xs ≤ room
length-apart xs room apart below = length-le_from_distinct_below xs room (IsDistinct-from_apart xs apart) below

pub without-lacking : (xs : List ℕ) (n : ℕ) → Lacks xs n → without xs n ≡ xs
without-lacking [] n lacks = refl
without-lacking (x ∷ xs) n lacks = rw (ne_eqb x n lacks.0) (ap (λ t. x ∷ t) (without-lacking xs n lacks.1))

pub without-front : (x : ℕ) (xs : List ℕ) → Lacks xs x → without (x ∷ xs) x ≡ xs
without-front x xs lacks = rw (eq-eqb x x refl) (without-lacking xs x lacks)

-- what is left has every number but the one taken out
pub has-without : (xs : List ℕ) (n m : ℕ) → has (without xs n) m ≡ cond (eqb m n) false (has xs m)
has-without [] n m = grind (arith, nat_tests)
has-without (x ∷ xs) n m = grind (arith, nat_tests, has-without xs n m)

Lacks-without : (xs : List ℕ) (n m : ℕ) → Lacks xs m → Lacks (without xs n) m
Lacks-without [] n m lacks = tt
Lacks-without (x ∷ xs) n m lacks =
    cond_both (not (eqb x n)) (x ∷ without xs n) (without xs n) (λ ys. Lacks ys m) (λ _. (lacks.0, Lacks-without xs n m lacks.1)) (λ _. Lacks-without xs n m lacks.1)

pub AreApart-without : (xs : List ℕ) (n : ℕ) → AreApart xs → AreApart (without xs n)
AreApart-without [] n apart = tt
AreApart-without (x ∷ xs) n apart =
    cond_both (not (eqb x n)) (x ∷ without xs n) (without xs n) AreApart (λ _. (Lacks-without xs n x apart.0, AreApart-without xs n apart.1)) (λ _. AreApart-without xs n apart.1)

-- one number less is left
pub length-without : (xs : List ℕ) (n : ℕ) → AreApart xs → has xs n ≡ true → suc (length (without xs n)) ≡ length xs
length-without [] n apart present = absurd (both_ways false refl present)
length-without (x ∷ xs) n apart present = elim (cases_Bool (eqb n x)) [
  | inl same ↦
      let equal = eqb-true n x same in
      rw (eq-eqb x n (sym equal), without-lacking xs n (subst (λ k. Lacks xs k) (sym equal) apart.0)) refl
  | inr other ↦
      let rest : has xs n ≡ true = rw other at present in
      rw (ne_eqb x n (λ same. eqb-false n x other (sym same))) (ap suc (length-without xs n apart.1 rest))
]

-- the front moves to the back: it comes out, and goes in again
pub turns : (xs : List ℕ) (front : ℕ) → slice_get xs 0 ≡ Some front → IsDistinct eqb xs → inserted (without xs front) front ≡ turned xs
turns [] front at_front distinct = absurd (none-some front at_front)
turns (x ∷ xs) front at_front distinct =
    let lacks = Lacks-from_distinct x xs distinct in
    subst (λ k. inserted (without (x ∷ xs) k) k ≡ xs ++ x ∷ []) (same_Some x front at_front) (
    ap (λ ys. inserted ys x) (without-front x xs lacks) ∙ cond-false (has xs x) xs (xs ++ x ∷ []) (has-lacking xs x lacks)
    )

-- the front is one of the numbers
pub has-at_front : (xs : List ℕ) (front : ℕ) → slice_get xs 0 ≡ Some front → has xs front ≡ true
has-at_front [] front at_front = absurd (none-some front at_front)
has-at_front (x ∷ xs) front at_front = or_left (eqb front x) (has xs front) (eq-eqb front x (sym (same_Some x front at_front)))
