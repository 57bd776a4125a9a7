use Rattle.std.proofs.Common.{◌≡◌, ◌+◌, Some, slice_get, ap, sym, ◌∙◌, arith}
use Rattle.dactl_model.specs.Graphs.{node_at}
use Rattle.dactl_firing.specs.Suspending.{arcs_in}
use Rattle.dactl_firing.proofs.Flags.{arc_is, flags_yes, flags_no}
use Rattle.dactl_firing.proofs.suspending.count_flags.Goals.{then-arc, else-arc}
use Rattle.dactl_firing.proofs.suspending.count_flags.Goals as goal

pub loop-place-preserved : goal.loop-place-preserved
loop-place-preserved c =
    let found = node_at c.args.store.now.graph c.args.node in
    let place = c.loop-place.place in
    let now = c.loop-place.invariant in
    let at : slice_get (arcs_in found) place ≡ Some c.arc.result = arc_is found place c.arc.result c.arc.ensures in
    elim c.if-arc.branch [
      | then-arc w ↦ record {
        so_far = w.count-is ∙ ap (λ k. k + 1) now.so_far ∙ sym (flags_yes (arcs_in found) place c.arc.result at w.if-arc.true);
        few = let more = w.count-is in let few = now.few in omega arith;
      }
      | else-arc w ↦ record {
        so_far = w.count-is ∙ now.so_far ∙ sym (flags_no (arcs_in found) place c.arc.result at w.if-arc.false);
        few = let same = w.count-is in let few = now.few in omega arith;
      }
    ]
