use Rattle.std.proofs.Common.{◌≡◌}
use Rattle.dactl_patterns.specs.Table.{IsRightFrom}
use Rattle.dactl_patterns.proofs.named.entered.Given as goal

abbrev pub invariant-loop-declared : goal.invariant-loop-declared
invariant-loop-declared l = record {
  text : l.patterns.text ≡ l.initial.patterns.text;
  scopes : l.patterns.scopes ≡ l.initial.patterns.scopes;
  right : IsRightFrom l.declared-index l.patterns;
}
