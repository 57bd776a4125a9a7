use Rattle.std.proofs.Common.{◌≡◌, ◌+◌, All, vec_len}
use Rattle.dactl_shared.specs.Stores.{IsNew, IsMaker, AreNumbered}
use Rattle.dactl_shared.proofs.store.SharedStore.deal.Given as goal

abbrev pub invariant-loop-i : goal.invariant-loop-i
invariant-loop-i l = record {
  maker : IsMaker l.turn (l.i + 1) l.maker;
  count : vec_len l.seats ≡ l.i;
  each : All (IsNew l.turn) l.seats.items;
  numbers : AreNumbered l.seats.items;
}
