use Rattle.std.proofs.Common.{sym, ◌∙◌}
use Rattle.dactl_plain.specs.Sites.{map_of}
use Rattle.dactl_plain.proofs.Kept.{kept_old}
use Rattle.dactl_plain.proofs.firing.Site.is_kept.Goals as goal

pub returns : goal.returns
returns c = λ e.
    kept_old (map_of c.args.self.now) _ _ _ _ _ c.args.node.now c.if-number-self.false (sym c.wakes_node.ensures ∙ c.if-wakes_node.false) (rw c.as_slice.ensures at (sym c.keeps_arcs.ensures ∙ e))
