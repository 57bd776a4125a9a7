use Rattle.std.proofs.Common.{◌<◌, ◌≤◌, length, refl, sym, ◌∙◌, length-set, arith}
use Rattle.dactl_model.specs.Noting.{noted_node, noted_nodes}
use Rattle.dactl_plain.proofs.InPlace.{changed_more, kept_more, changed_all}
use Rattle.dactl_plain.proofs.noting.change_nodes.Goals as goal

pub loop-number-preserved : goal.loop-number-preserved
loop-number-preserved c =
    let below : c.loop-number.number < length c.loop-number.nodes = omega (arith, c.loop-number.invariant.long) in
    rw c.set.ensures (record {
      long = length-set _ _ _ ∙ c.loop-number.invariant.long;
      changed = changed_more (noted_node c.args.noting) (noted_nodes c.args.noting) (λ k x xs. refl) (λ k. refl) c.loop-number.nodes c.loop-number.number _ _ below (rw c.as_slice.ensures at c.index-as_slice-number.is) c.in_ok-after.ensures ∙ c.loop-number.invariant.changed;
    })

pub loop-number-preserved-then-is_kept : goal.loop-number-preserved-then-is_kept
loop-number-preserved-then-is_kept c =
    let below : c.loop-number.number < length c.loop-number.nodes = omega (arith, c.loop-number.invariant.long) in
    record {
      long = c.loop-number.invariant.long;
      changed = kept_more (noted_node c.args.noting) (noted_nodes c.args.noting) (λ k x xs. refl) (λ k. refl) c.loop-number.nodes c.loop-number.number _ below (rw c.as_slice.ensures at c.index-as_slice-number.is) (c.is_kept.ensures c.if-is_kept.true) ∙ c.loop-number.invariant.changed;
    }

pub returns : goal.returns
returns c =
    let past : length c.loop-number.nodes ≤ c.loop-number.number = omega (arith, c.loop-number.invariant.long) in
    sym (changed_all (noted_node c.args.noting) (noted_nodes c.args.noting) (λ k x xs. refl) (λ k. refl) c.loop-number.nodes c.loop-number.number past) ∙ c.loop-number.invariant.changed
