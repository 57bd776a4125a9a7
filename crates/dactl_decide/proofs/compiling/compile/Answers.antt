use Rattle.std.proofs.Common.{map, ap, ◌∙◌}
use Rattle.dactl_decide.specs.Orders.{is_orderly}
use Rattle.dactl_decide.proofs.Gathered.{compiled}
use Rattle.dactl_decide.proofs.compiling.compile.Goals as goal

pub invariant_of-result : goal.invariant_of-result
invariant_of-result c =
    let counted = rw c.as_slice.ensures.value at c.in_ok-paths.ensures in
    let greatest = rw c.as_slice-2.ensures.value at c.greatest-widest.ensures in (
      compiled _ _ _ _ _ c.in_ok-program.ensures c.requires c.in_ok-trees.ensures counted greatest,
      rw c.in_ok-program.ensures c.in_ok-rules.ensures,
      rw c.in_ok-program.ensures (c.in_ok-orderly.ensures ∙ ap (map is_orderly) c.as_slice-3.ensures),
    )

pub returns-clause-decisions : goal.returns-clause-decisions
returns-clause-decisions c =
    let counted = rw c.as_slice.ensures.value at c.in_ok-paths.ensures in
    let greatest = rw c.as_slice-2.ensures.value at c.greatest-widest.ensures in
    compiled _ _ _ _ _ c.in_ok-program.ensures c.requires c.in_ok-trees.ensures counted greatest
