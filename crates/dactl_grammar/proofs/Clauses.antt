-- The clauses of a parser of whole texts, from what reading gives.
use Rattle.std.proofs.Common.{◌≡◌, ℕ, Bool, List, Result, Ok, Err, subst}
use Rattle.std.specs.Prelude.{IfOk}
use Rattle.dactl_grammar.specs.declared.fault.ReadError.{ReadError}
use Rattle.dactl_grammar.specs.declared.fault.ReadError.TheVariants as errors
use Rattle.dactl_grammar.specs.declared.fault.Fault.TheVariants.{Unexpected, TooDeep}
use Rattle.dactl_grammar.specs.Grammar.{Grammar}
use Rattle.dactl_grammar.specs.Reader.{Reader, read_all}
use Rattle.dactl_grammar.specs.Giving.{Gives}
use Rattle.dactl_grammar.specs.Answer.{FirstUnexpected, FirstTooDeep}
use Rattle.dactl_grammar.proofs.Bounded.{Bounded}
use Rattle.dactl_grammar.proofs.Answered.{read_derives, derives_read, read_unexpected, read_too_deep}
use Rattle.dactl_grammar.proofs.Exclusive.{unexpected_read, too_deep_read}

module _ {T A : Type 0} {c : T → Bool} {G : ℕ → Grammar T A} {R : ℕ → Reader T A} {more : T → Bool} (laws : Bounded c G R more) (most : ℕ) (l : List T) (r : Result A ReadError)
    (given : Gives (λ (a : A). a) r (read_all (R most) l)) where
  pub found : IfOk r (λ a. (G most).whole l a)
  found = pick r given
    where
      pick : (r : Result A ReadError) → Gives (λ (a : A). a) r (read_all (R most) l) → IfOk r (λ a. (G most).whole l a)
      pick (Ok a) h = read_derives laws most l a h
      pick (Err e) h = tt

  pub only : (a : A) → (G most).whole l a → Gives (λ (a : A). a) r (Ok a)
  only a w = subst (Gives (λ (a : A). a) r) (derives_read laws most l a w) given

  pub unexpected : (k : ℕ) → r ≡ Err (errors.Fault (Unexpected k)) → FirstUnexpected G most l k
  unexpected k e = read_unexpected laws most l k (subst (λ (z : Result A ReadError). Gives (λ (a : A). a) z (read_all (R most) l)) e given)

  pub too_deep : (k : ℕ) → r ≡ Err (errors.Fault (TooDeep k)) → FirstTooDeep c G most l k
  too_deep k e = read_too_deep laws most l k (subst (λ (z : Result A ReadError). Gives (λ (a : A). a) z (read_all (R most) l)) e given)

  pub only_unexpected : (k : ℕ) → FirstUnexpected G most l k → Gives (λ (a : A). a) r (Err (Unexpected k))
  only_unexpected k a = subst (Gives (λ (a : A). a) r) (unexpected_read laws most l k a) given

  pub only_too_deep : (k : ℕ) → FirstTooDeep c G most l k → Gives (λ (a : A). a) r (Err (TooDeep k))
  only_too_deep k a = subst (Gives (λ (a : A). a) r) (too_deep_read laws most l k a) given
