-- The laws of the first of several faults.
use Rattle.std.proofs.Common.{◌≡◌, ℕ, ◌+◌, ◌<◌, Bool, true, false, cond, List, [], ◌∷◌, ◌++◌, Option, Some, None, length, take, get_or, refl, sym, ap, ◌∙◌, arith, ltb}
use Rattle.std.specs.List.{flat_map}
use Rattle.std.proofs.lemmas.Bool.Decides.{nat_tests}
use Rattle.std.proofs.lemmas.List.{take_more, append-nil}
use Rattle.std.proofs.lemmas.List.Concat.{flat_map-append}
use Rattle.dactl_base.specs.declared.refusal.Refusal.{Refusal}
use Rattle.fun_syntax.specs.Least.{rank, in_turn, precedes, sooner, least}

-- ---- the order

in_turn-trans : (x y z : ℕ) (r s t : Bool) → (r ≡ true → s ≡ true → t ≡ true) → in_turn x y r ≡ true → in_turn y z s ≡ true → in_turn x z t ≡ true
in_turn-trans x y z r s t rest h k = grind (arith, nat_tests)

in_turn-negated : (x y z : ℕ) (r s t : Bool) → (r ≡ false → s ≡ false → t ≡ false) → in_turn x y r ≡ false → in_turn y z s ≡ false → in_turn x z t ≡ false
in_turn-negated x y z r s t rest h k = grind (arith, nat_tests)

lt-trans : (x y z : ℕ) → ltb x y ≡ true → ltb y z ≡ true → ltb x z ≡ true
lt-trans x y z h k = grind (arith, nat_tests)

lt-negated : (x y z : ℕ) → ltb x y ≡ false → ltb y z ≡ false → ltb x z ≡ false
lt-negated x y z h k = grind (arith, nat_tests)

pub precedes-trans : (a b c : Refusal) → precedes a b ≡ true → precedes b c ≡ true → precedes a c ≡ true
precedes-trans a b c = in_turn-trans a.place.byte b.place.byte c.place.byte _ _ _ (lt-trans (rank a.kind) (rank b.kind) (rank c.kind))

pub precedes-negated : (a b c : Refusal) → precedes a b ≡ false → precedes b c ≡ false → precedes a c ≡ false
precedes-negated a b c = in_turn-negated a.place.byte b.place.byte c.place.byte _ _ _ (lt-negated (rank a.kind) (rank b.kind) (rank c.kind))

-- ---- the first of two

pub sooner-None : (a : Option Refusal) → sooner a None ≡ a
sooner-None None = refl
sooner-None (Some a) = refl

-- the first of two, by the answer of the test
chosen : (a b : Refusal) (p : Bool) → precedes b a ≡ p → sooner (Some a) (Some b) ≡ cond p (Some b) (Some a)
chosen a b p e = ap (λ v. cond v (Some b) (Some a)) e

associates : (a b c : Refusal) (p q : Bool) → precedes b a ≡ p → precedes c b ≡ q → sooner (sooner (Some a) (Some b)) (Some c) ≡ sooner (Some a) (sooner (Some b) (Some c))
associates a b c true true ba cb =
    ap (λ o. sooner o (Some c)) (chosen a b true ba) ∙ chosen b c true cb
    ∙ sym (ap (sooner (Some a)) (chosen b c true cb) ∙ chosen a c true (precedes-trans c b a cb ba))
associates a b c true false ba cb =
    ap (λ o. sooner o (Some c)) (chosen a b true ba) ∙ chosen b c false cb
    ∙ sym (ap (sooner (Some a)) (chosen b c false cb) ∙ chosen a b true ba)
associates a b c false true ba cb = ap (λ o. sooner o (Some c)) (chosen a b false ba) ∙ sym (ap (sooner (Some a)) (chosen b c true cb))
associates a b c false false ba cb =
    ap (λ o. sooner o (Some c)) (chosen a b false ba) ∙ chosen a c false (precedes-negated c b a cb ba)
    ∙ sym (ap (sooner (Some a)) (chosen b c false cb) ∙ chosen a b false ba)

pub sooner-assoc : (a b c : Option Refusal) → sooner (sooner a b) c ≡ sooner a (sooner b c)
sooner-assoc None b c = refl
sooner-assoc (Some a) None c = refl
sooner-assoc (Some a) (Some b) None = sooner-None (sooner (Some a) (Some b))
sooner-assoc (Some a) (Some b) (Some c) = associates a b c (precedes b a) (precedes c b) refl refl

-- ---- lists of faults

pub least-append : (xs ys : List Refusal) → least (xs ++ ys) ≡ sooner (least xs) (least ys)
least-append [] ys = refl
least-append (x ∷ xs) ys = ap (sooner (Some x)) (least-append xs ys) ∙ sym (sooner-assoc (Some x) (least xs) (least ys))

-- faults of two parts
pub both : (xs ys : List Refusal) (a b : Option Refusal) → a ≡ least xs → b ≡ least ys → sooner a b ≡ least (xs ++ ys)
both xs ys a b p q = (λ j. sooner (p j) (q j)) ∙ sym (least-append xs ys)

-- the step of a loop that goes on with what is left
pub step : (xs ys : List Refusal) (told one next : Option Refusal) (all : Option Refusal) → sooner told (least (xs ++ ys)) ≡ all → one ≡ least xs → next ≡ sooner told one → sooner next (least ys) ≡ all
step xs ys told one next all so is grown =
    ap (λ o. sooner o (least ys)) (grown ∙ ap (sooner told) is) ∙ sooner-assoc told (least xs) (least ys) ∙ ap (sooner told) (sym (least-append xs ys)) ∙ so

-- the step of a loop over parts
pub parts-more : {X : Type 0} (parts : X → List Refusal) (xs : List X) (i : ℕ) (x : X) (told one : Option Refusal) → i < length xs → x ≡ get_or xs i x → told ≡ least (flat_map parts (take i xs)) → one ≡ least (parts x) → sooner told one ≡ least (flat_map parts (take (i + 1) xs))
parts-more parts xs i x told one lt at so is =
    both (flat_map parts (take i xs)) (parts x) told one so is
    ∙ ap (λ l. least (flat_map parts (take i xs) ++ l)) (sym (append-nil (parts x)))
    ∙ ap least (sym (flat_map-append parts (take i xs) (x ∷ [])))
    ∙ ap (λ y. least (flat_map parts (take i xs ++ y ∷ []))) at
    ∙ sym (ap (λ l. least (flat_map parts l)) (take_more xs i x lt))
