-- The order in which faults are told, as a test.
use Rattle.std.proofs.Common.{◌≡◌, ℕ, ◌<◌, Bool, true, false, ◌⊎◌, inl, inr, arith, ltb}
use Rattle.std.proofs.lemmas.Bool.Decides.{nat_tests}
use Rattle.dactl_base.specs.declared.refusal.Refusal.{Refusal}
use Rattle.dactl_meaning.specs.Faults.{phase, rank, Precedes, StandsBefore}
use Rattle.dactl_symbols.specs.Least.{in_turn, precedes}

-- ---- one number before the rest

in_turn-trans : (x y z : ℕ) (r s t : Bool) → (r ≡ true → s ≡ true → t ≡ true) → in_turn x y r ≡ true → in_turn y z s ≡ true → in_turn x z t ≡ true
in_turn-trans x y z r s t rest h k = grind (arith, nat_tests)

in_turn-negated : (x y z : ℕ) (r s t : Bool) → (r ≡ false → s ≡ false → t ≡ false) → in_turn x y r ≡ false → in_turn y z s ≡ false → in_turn x z t ≡ false
in_turn-negated x y z r s t rest h k = grind (arith, nat_tests)

in_turn-true : (x y : ℕ) (r : Bool) → in_turn x y r ≡ true → (x < y) ⊎ ((x ≡ y) × (r ≡ true))
in_turn-true x y r h = grind (arith, nat_tests)

in_turn-holds : (x y : ℕ) (r : Bool) → (x < y) ⊎ ((x ≡ y) × (r ≡ true)) → in_turn x y r ≡ true
in_turn-holds x y r (inl h) = grind (arith, nat_tests)
in_turn-holds x y r (inr h) = grind (arith, nat_tests)

-- ---- faults

lt-trans : (x y z : ℕ) → ltb x y ≡ true → ltb y z ≡ true → ltb x z ≡ true
lt-trans x y z h k = grind (arith, nat_tests)

lt-negated : (x y z : ℕ) → ltb x y ≡ false → ltb y z ≡ false → ltb x z ≡ false
lt-negated x y z h k = grind (arith, nat_tests)

pub precedes-trans : (a b c : Refusal) → precedes a b ≡ true → precedes b c ≡ true → precedes a c ≡ true
precedes-trans a b c =
    in_turn-trans (phase a.kind) (phase b.kind) (phase c.kind) _ _ _
    (in_turn-trans a.place.byte b.place.byte c.place.byte _ _ _ (lt-trans (rank a.kind) (rank b.kind) (rank c.kind)))

pub precedes-negated : (a b c : Refusal) → precedes a b ≡ false → precedes b c ≡ false → precedes a c ≡ false
precedes-negated a b c =
    in_turn-negated (phase a.kind) (phase b.kind) (phase c.kind) _ _ _
    (in_turn-negated a.place.byte b.place.byte c.place.byte _ _ _ (lt-negated (rank a.kind) (rank b.kind) (rank c.kind)))

lt-true : (x y : ℕ) → ltb x y ≡ true → x < y
lt-true x y h = grind (arith, nat_tests)

lt-holds : (x y : ℕ) → x < y → ltb x y ≡ true
lt-holds x y h = grind (arith, nat_tests)

stands : (a b : Refusal) → in_turn a.place.byte b.place.byte (ltb (rank a.kind) (rank b.kind)) ≡ true → StandsBefore a b
stands a b h = elim (in_turn-true a.place.byte b.place.byte _ h) [ inl less ↦ inl less | inr same ↦ inr (same.0, lt-true _ _ same.1) ]

stands_so : (a b : Refusal) → StandsBefore a b → in_turn a.place.byte b.place.byte (ltb (rank a.kind) (rank b.kind)) ≡ true
stands_so a b (inl less) = in_turn-holds a.place.byte b.place.byte _ (inl less)
stands_so a b (inr same) = in_turn-holds a.place.byte b.place.byte _ (inr (same.0, lt-holds _ _ same.1))

-- the test tells the order
pub Precedes-test : (a b : Refusal) → precedes a b ≡ true → Precedes a b
Precedes-test a b h = elim (in_turn-true (phase a.kind) (phase b.kind) _ h) [ inl less ↦ inl less | inr same ↦ inr (same.0, stands a b same.1) ]

pub test-Precedes : (a b : Refusal) → Precedes a b → precedes a b ≡ true
test-Precedes a b (inl less) = in_turn-holds (phase a.kind) (phase b.kind) _ (inl less)
test-Precedes a b (inr same) = in_turn-holds (phase a.kind) (phase b.kind) _ (inr (same.0, stands_so a b same.1))
