use Rattle.std.proofs.Common.{◌≡◌, ◌∷◌, Some, not, ap, subst, ◌∙◌}
use Rattle.dactl_arcs.specs.Pool.{arcs_into, rest_of_walk}
use Rattle.dactl_arcs.proofs.Steps.{only_arc}
use Rattle.dactl_arcs.proofs.stamped.StampedLists.merge_from.Goals as goal

pub move_only-requires-clause-only : goal.move_only-requires-clause-only
move_only-requires-clause-only c =
    let rest = subst (λ slot. rest_of_walk (Some c.args.first) (arcs_into c.args.self.now slot) ≡ c.args.first ∷ rest_of_walk c.next_into.result (arcs_into c.args.self.now slot)) c.requires.first.1 c.next_into.ensures.rest in
    only_arc _ c.args.first c.next_into.result c.requires.whole rest (c.is_none.ensures ∙ ap not c.if-is_none.true)
