use Rattle.std.proofs.Common.{◌≡◌, ℕ, ◌<◌}
use mathlib.Core.Option.{some}
use lib.ListN.{get_elem?}
use Rattle.std.specs.Prelude.{Option, length}
use Rattle.dactl_model.specs.declared.graph.NodeId.{NodeId}
use Rattle.dactl_steal.specs.Others.{AreUsable, AreKept, SlotWasEmpty, stolen}
use Rattle.dactl_steal.specs.declared.other.Other.{Other}
use Rattle.dactl_steal.proofs.stealing.steal.Given as goal

abbrev pub invariant-loop-place : goal.invariant-loop-place
invariant-loop-place g l = record {
  long : length l.others ≡ length l.initial.others;
  kept : AreKept l.initial.others l.others;
  usable : AreUsable l.others;
  empty : (place : ℕ) (slot : Option Other) → place < l.place → get_elem? l.others place ≡ some slot → SlotWasEmpty slot;
  even : (weight : NodeId → ℕ) → stolen weight l.others ≡ stolen weight l.initial.others;
}
