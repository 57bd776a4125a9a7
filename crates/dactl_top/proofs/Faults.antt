-- The least of faults is one.
use Rattle.std.proofs.Common.{◌≡◌, ℕ, ◌<◌, List, [], ◌∷◌, slice_get, Some, refl, sym, ap, ◌∙◌, inl, inr, arith}
use Rattle.std.proofs.lemmas.Bool.{cases_lt}
use Rattle.dactl_base.specs.declared.refusal.Kind.{Kind}
use Rattle.dactl_base.specs.declared.refusal.Kind.TheVariants as kinds
use Rattle.dactl_base.specs.declared.refusal.Refusal.{Refusal}
use Rattle.dactl_meaning.specs.Faults.{phase, rank, IsLeastFault}

-- the kinds in the order of their ranks
by_rank : List Kind
by_rank =
    kinds.BadByte ∷ kinds.NumberTooWide ∷ kinds.Unexpected ∷ kinds.TooDeep ∷ kinds.TwiceDeclared ∷ kinds.UnknownModule ∷ kinds.UnknownName ∷ kinds.NotVisible ∷ kinds.PublicTooStrong ∷ kinds.NoInitial ∷ kinds.TwoInitials ∷ kinds.TooMany
    ∷ kinds.PatternCycle ∷ kinds.RootNotRewritable ∷ kinds.BinderInChoice ∷ kinds.TooWide ∷ kinds.Unbound ∷ kinds.NamedTwice ∷ kinds.RedirectedTwice ∷ kinds.NotOverwritable ∷ kinds.NotCreatable ∷ kinds.MarkOnBound ∷ kinds.TooManyWaits ∷ kinds.NotAConstructor ∷ kinds.WrongArity ∷ []

at_rank : (k : Kind) → slice_get by_rank (rank k) ≡ Some k
unfolding by_rank
at_rank kinds.BadByte = refl
at_rank kinds.NumberTooWide = refl
at_rank kinds.Unexpected = refl
at_rank kinds.TooDeep = refl
at_rank kinds.TwiceDeclared = refl
at_rank kinds.UnknownModule = refl
at_rank kinds.UnknownName = refl
at_rank kinds.NotVisible = refl
at_rank kinds.PublicTooStrong = refl
at_rank kinds.NoInitial = refl
at_rank kinds.TwoInitials = refl
at_rank kinds.TooMany = refl
at_rank kinds.PatternCycle = refl
at_rank kinds.RootNotRewritable = refl
at_rank kinds.BinderInChoice = refl
at_rank kinds.TooWide = refl
at_rank kinds.Unbound = refl
at_rank kinds.NamedTwice = refl
at_rank kinds.RedirectedTwice = refl
at_rank kinds.NotOverwritable = refl
at_rank kinds.NotCreatable = refl
at_rank kinds.MarkOnBound = refl
at_rank kinds.TooManyWaits = refl
at_rank kinds.NotAConstructor = refl
at_rank kinds.WrongArity = refl

same_kind : (a b : Kind) → rank a ≡ rank b → a ≡ b
same_kind a b is = let e : Some a ≡ Some b = sym (at_rank a) ∙ ap (slice_get by_rank) is ∙ at_rank b in cc

same_refusal : (a b : Refusal) → a.kind ≡ b.kind → a.place.byte ≡ b.place.byte → a ≡ b
same_refusal a b kind place = ap (λ k. record { kind = k; place = a.place }) kind ∙ ap (λ n. record { kind = b.kind; place = record { byte = n } }) place

neither : (x y : ℕ) → ¬ (x < y) → ¬ (y < x) → x ≡ y
neither x y less more = elim (cases_lt x y) [
  | inl is ↦ absurd (less is)
  | inr past ↦ elim (cases_lt y x) [ inl is ↦ absurd (more is) | inr also ↦ omega (arith, past, also) ]
]

-- no two faults are the least
pub one_least : (Holds : Refusal → Type 0) (a b : Refusal) → IsLeastFault Holds a → IsLeastFault Holds b → a ≡ b
one_least Holds a b first second =
    let phases : phase a.kind ≡ phase b.kind = neither (phase a.kind) (phase b.kind) (λ less. second.least a first.holds (inl less)) (λ less. first.least b second.holds (inl less)) in
    let places : a.place.byte ≡ b.place.byte = neither a.place.byte b.place.byte (λ less. second.least a first.holds (inr (phases, inl less))) (λ less. first.least b second.holds (inr (sym phases, inl less))) in
    let ranks : rank a.kind ≡ rank b.kind = neither (rank a.kind) (rank b.kind) (λ less. second.least a first.holds (inr (phases, inr (places, less)))) (λ less. first.least b second.holds (inr (sym phases, inr (sym places, less)))) in
    same_refusal a b (same_kind a.kind b.kind ranks) places
