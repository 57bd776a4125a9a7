use Rattle.std.proofs.Common.{◌≡◌, [], All, None, length, Option, vec_len}
use Rattle.dactl_steal.specs.Closing.{Row}
use Rattle.dactl_steal.specs.declared.own.Own.{Own}
use Rattle.dactl_steal.proofs.making.places_of.Given as goal

abbrev pub invariant-loop : goal.invariant-loop
invariant-loop l = record {
  owns : vec_len l.owns ≡ l.counter;
  rows : vec_len l.rows ≡ l.counter;
  none : All (λ (slot : Option Own). slot ≡ None) l.owns.items;
  empty : All (λ (row : Row). row.items ≡ []) l.rows.items;
}
