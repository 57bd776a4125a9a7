-- The laws of a grammar and its reader at every number of brackets that may be open.
use Rattle.std.proofs.Common.{ℕ, suc, Bool}
use Rattle.dactl_grammar.specs.Grammar.{Grammar}
use Rattle.dactl_grammar.specs.Reader.{Reader}
use Rattle.dactl_grammar.proofs.Exact.{Exact}
use Rattle.dactl_grammar.proofs.Grows.{Grows}

pub record Bounded {T A : Type 0} (is_bracket : T → Bool) (G : ℕ → Grammar T A) (R : ℕ → Reader T A) (more : T → Bool) : Type 0 where
  pub exact : (n : ℕ) → Exact (G n) (R n) more
  pub grows : (n : ℕ) → Grows is_bracket (G n) (R n) (G (suc n)) (R (suc n))
