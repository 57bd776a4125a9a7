use Rattle.std.proofs.Common.{◌∙◌, arith, length-append}
use Rattle.dactl_decide.proofs.Trees.{has_push}
use Rattle.dactl_decide.proofs.path_tree.widen.Goals as goal

pub loop-preserved : goal.loop-preserved
loop-preserved c =
    rw c.in_ok-push.ensures.items (record {
      long = simp length-append (omega arith);
      same = λ path. has_push _ c.untested.result c.untested.ensures path ∙ c.loop.invariant.same path;
    })
