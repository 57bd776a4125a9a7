-- What the first of several faults tells.
use Rattle.std.proofs.Common.{◌≡◌, ℕ, zero, suc, ◌<◌, Bool, true, false, cond, ◌⊎◌, inl, inr, List, [], ◌∷◌, length, get_or, Option, Some, None, refl, sym, ap, ◌∙◌, subst, true≢false, arith, ltb}
use Rattle.std.specs.Prelude.{Contains}
use Rattle.std.proofs.lemmas.Bool.Decides.{nat_tests}
use Rattle.dactl_base.specs.declared.refusal.Kind.{Kind}
use Rattle.dactl_base.specs.declared.refusal.Kind.TheVariants as kinds
use Rattle.dactl_base.specs.declared.refusal.Refusal.{Refusal}
use Rattle.fun_syntax.specs.Least.{rank, Precedes, IsLeast, in_turn, precedes, sooner, least}
use Rattle.fun_syntax.proofs.Sooner.{precedes-trans, precedes-negated}

-- ---- the test tells the order

in_turn-true : (x y m n : ℕ) → in_turn x y (ltb m n) ≡ true → (x < y) ⊎ ((x ≡ y) × (m < n))
in_turn-true x y m n h = grind (arith, nat_tests)

in_turn-holds : (x y m n : ℕ) → (x < y) ⊎ ((x ≡ y) × (m < n)) → in_turn x y (ltb m n) ≡ true
in_turn-holds x y m n (inl h) = grind (arith, nat_tests)
in_turn-holds x y m n (inr h) = grind (arith, nat_tests)

test-Precedes : (a b : Refusal) → Precedes a b → precedes a b ≡ true
test-Precedes a b h = in_turn-holds a.place.byte b.place.byte (rank a.kind) (rank b.kind) h

Precedes-test : (a b : Refusal) → precedes a b ≡ true → Precedes a b
Precedes-test a b h = in_turn-true a.place.byte b.place.byte (rank a.kind) (rank b.kind) h

not_before : (a b : Refusal) → precedes a b ≡ false → ¬ Precedes a b
not_before a b h p = true≢false (sym (test-Precedes a b p) ∙ h)

never_before : (a : Refusal) → ¬ Precedes a a
never_before a (inl h) = omega arith
never_before a (inr h) = let k = h.1 in omega arith

-- ---- what is among faults

among_split : (x : Refusal) (xs : List Refusal) (k : ℕ) (y : Refusal) → k < length (x ∷ xs) → get_or (x ∷ xs) k y ≡ y → (y ≡ x) ⊎ Contains xs y
among_split x xs zero y lt at = inl (sym at)
among_split x xs (suc k) y lt at = let less : k < length xs = omega arith in inr (k, less, at)

among-uncons : (x : Refusal) (xs : List Refusal) (y : Refusal) → Contains (x ∷ xs) y → (y ≡ x) ⊎ Contains xs y
among-uncons x xs y h = among_split x xs h.0 y h.1 h.2

among-head : (x : Refusal) (xs : List Refusal) → Contains (x ∷ xs) x
among-head x xs = let less : 0 < length (x ∷ xs) = omega arith in (0, less, refl)

among-tail : (x : Refusal) (xs : List Refusal) (y : Refusal) → Contains xs y → Contains (x ∷ xs) y
among-tail x xs y h = let below : h.0 < length xs = h.1 in let less : suc h.0 < length (x ∷ xs) = omega arith in (suc h.0, less, h.2)

pub among-nil : (y : Refusal) → Contains [] y → ⊥
among-nil y h = let none : List Refusal = [] in let below : h.0 < length none = h.1 in omega arith

-- ---- the first is the least

none_left : (o : Option Refusal) (x : Refusal) → sooner (Some x) o ≡ None → ⊥
none_left None x e = cc
none_left (Some y) x e = at (precedes y x) e
  where
    at : (b : Bool) → cond b (Some y) (Some x) ≡ None → ⊥
    at true e = cc
    at false e = cc

pub least-None : (xs : List Refusal) → least xs ≡ None → xs ≡ []
least-None [] e = refl
least-None (x ∷ xs) e = absurd (none_left (least xs) x e)

some_is : {A : Type 0} (x y : A) → Some x ≡ Some y → x ≡ y
some_is x y e = cc

-- one fault before the others
first_of : (x : Refusal) (xs : List Refusal) (r : Refusal) (o : Option Refusal) → least xs ≡ o → ((y : Refusal) → o ≡ Some y → IsLeast xs y) → sooner (Some x) o ≡ Some r → IsLeast (x ∷ xs) r
first_of x xs r None e ih is =
    let same : x ≡ r = some_is x r is in
    let empty : xs ≡ [] = least-None xs e in
    subst (IsLeast (x ∷ xs)) same record {
      among = among-head x xs;
      least = λ other h. elim (among-uncons x xs other h) [ inl k ↦ subst (λ z. ¬ Precedes z x) (sym k) (never_before x) | inr k ↦ absurd (among-nil other (subst (λ l. Contains l other) empty k)) ];
    }
first_of x xs r (Some y) e ih is = at (precedes y x) refl is
  where
    at : (b : Bool) → precedes y x ≡ b → cond b (Some y) (Some x) ≡ Some r → IsLeast (x ∷ xs) r
    at true before is =
        let l = ih y refl in
        subst (IsLeast (x ∷ xs)) (some_is y r is) record {
          among = among-tail x xs y l.among;
          least = λ other h. elim (among-uncons x xs other h) [
            | inl k ↦ subst (λ z. ¬ Precedes z y) (sym k) (λ p. never_before y (Precedes-test y y (precedes-trans y x y before (test-Precedes x y p))))
            | inr k ↦ l.least other k
          ];
        }
    at false after is =
        let l = ih y refl in
        subst (IsLeast (x ∷ xs)) (some_is x r is) record {
          among = among-head x xs;
          least = λ other h. elim (among-uncons x xs other h) [
            | inl k ↦ subst (λ z. ¬ Precedes z x) (sym k) (never_before x)
            | inr k ↦ later other (l.least other k) after
          ];
        }
      where
        later : (other : Refusal) → ¬ Precedes other y → precedes y x ≡ false → ¬ Precedes other x
        later other not after = λ p. by (precedes other y) refl p
          where
            by : (b : Bool) → precedes other y ≡ b → Precedes other x → ⊥
            by true e p = not (Precedes-test other y e)
            by false e p = true≢false (sym (test-Precedes other x p) ∙ precedes-negated other y x e after)

pub least-Some : (xs : List Refusal) (r : Refusal) → least xs ≡ Some r → IsLeast xs r
least-Some [] r e = absurd cc
least-Some (x ∷ xs) r e = first_of x xs r (least xs) refl (λ y k. least-Some xs y k) e

-- ---- there is one least

-- the kinds by their ranks
by_rank : List Kind
by_rank = kinds.TwiceDeclared ∷ kinds.RootNotRewritable ∷ kinds.UnknownName ∷ kinds.NotAConstructor ∷ kinds.WrongArity ∷ kinds.NamedTwice ∷ kinds.Unbound ∷ kinds.TooWide ∷ kinds.TooMany ∷ kinds.BadByte ∷ kinds.NumberTooWide ∷ kinds.Unexpected ∷ kinds.TooDeep ∷ kinds.TwiceDeclared ∷ kinds.UnknownModule ∷ kinds.UnknownName ∷ kinds.NotVisible ∷ kinds.PublicTooStrong ∷ kinds.NoInitial ∷ kinds.TwoInitials ∷ kinds.TooMany ∷ kinds.PatternCycle ∷ kinds.RootNotRewritable ∷ kinds.BinderInChoice ∷ kinds.TooWide ∷ kinds.Unbound ∷ kinds.NamedTwice ∷ kinds.RedirectedTwice ∷ kinds.NotOverwritable ∷ kinds.NotCreatable ∷ kinds.MarkOnBound ∷ kinds.TooManyWaits ∷ []

pick : List Kind → ℕ → Kind
pick [] n = kinds.BadByte
pick (k ∷ ks) zero = k
pick (k ∷ ks) (suc n) = pick ks n

ranked : ℕ → Kind
ranked n = pick by_rank n

ranked-rank : (k : Kind) → ranked (rank k) ≡ k
unfolding ranked pick by_rank
ranked-rank kinds.BadByte = refl
ranked-rank kinds.NumberTooWide = refl
ranked-rank kinds.Unexpected = refl
ranked-rank kinds.TooDeep = refl
ranked-rank kinds.TwiceDeclared = refl
ranked-rank kinds.UnknownModule = refl
ranked-rank kinds.UnknownName = refl
ranked-rank kinds.NotVisible = refl
ranked-rank kinds.PublicTooStrong = refl
ranked-rank kinds.NoInitial = refl
ranked-rank kinds.TwoInitials = refl
ranked-rank kinds.TooMany = refl
ranked-rank kinds.PatternCycle = refl
ranked-rank kinds.RootNotRewritable = refl
ranked-rank kinds.BinderInChoice = refl
ranked-rank kinds.TooWide = refl
ranked-rank kinds.Unbound = refl
ranked-rank kinds.NamedTwice = refl
ranked-rank kinds.RedirectedTwice = refl
ranked-rank kinds.NotOverwritable = refl
ranked-rank kinds.NotCreatable = refl
ranked-rank kinds.MarkOnBound = refl
ranked-rank kinds.TooManyWaits = refl
ranked-rank kinds.NotAConstructor = refl
ranked-rank kinds.WrongArity = refl

same_place : (x y m n : ℕ) → ((x < y) ⊎ ((x ≡ y) × (m < n)) → ⊥) → ((y < x) ⊎ ((y ≡ x) × (n < m)) → ⊥) → (x ≡ y) × (m ≡ n)
same_place x y m n p q = grind arith

refusal_is : (a b : Refusal) → a.kind ≡ b.kind → a.place.byte ≡ b.place.byte → a ≡ b
refusal_is a b k p = λ j. record { kind = k j; place = record { byte = p j } }

pub one_least : (xs : List Refusal) (a b : Refusal) → IsLeast xs a → IsLeast xs b → a ≡ b
one_least xs a b p q =
    let same = same_place a.place.byte b.place.byte (rank a.kind) (rank b.kind) (q.least a p.among) (p.least b q.among) in
    refusal_is a b (sym (ranked-rank a.kind) ∙ ap ranked same.1 ∙ ranked-rank b.kind) same.0

-- what is told of a list
pub told_least : (xs : List Refusal) (o : Option Refusal) → o ≡ least xs → (r : Refusal) → IsLeast xs r → o ≡ Some r
told_least xs None e r l = absurd (among-nil r (subst (λ k. Contains k r) (least-None xs (sym e)) l.among))
told_least xs (Some s) e r l = ap (λ z. Some z) (one_least xs s r (least-Some xs s (sym e)) l)
