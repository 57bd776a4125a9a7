-- Integers of 64 bits are integers of 128 bits.
use Rattle.std.proofs.Common.{Bool, true, false, ◌||◌, Option, Some, None, IsSomeAnd, IsTrue, ◌↔◌, SomeIff, ℤ, pos, negsuc, FitsSigned, refl, subst, sym, arith}
use Rattle.std.specs.Int.{w128}
use Rattle.dactl_model.specs.Integers.{is_word, InRange}

pub word_fits : (z : ℤ) → IsTrue (is_word z) → FitsSigned w128 z
word_fits (pos n) is = grind arith
word_fits (negsuc n) is = grind arith

fits : (wide : Bool) (z : ℤ) → InRange wide z → FitsSigned w128 z
fits true z inside = inside
fits false z inside = word_fits z inside

there : (wide : Bool) (z : ℤ) → FitsSigned w128 z → IsTrue (wide || is_word z) ↔ InRange wide z
there true z inside = (λ e. inside, λ e. refl)
there false z inside = (λ e. e, λ e. e)

-- what a checked operation answers, and whether that is in range
pub in_range : (wide : Bool) (o : Option ℤ) (z : ℤ) → SomeIff o (FitsSigned w128 z) z → IsSomeAnd o (λ x. IsTrue (wide || is_word x)) ↔ InRange wide z
in_range wide None z answer = (λ e. absurd e, λ inside. absurd (answer (fits wide z inside)))
in_range wide (Some x) z answer = subst (λ y. IsTrue (wide || is_word y) ↔ InRange wide z) (sym answer.1) (there wide z answer.0)
