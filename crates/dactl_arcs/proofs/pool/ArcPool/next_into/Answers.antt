use Rattle.std.proofs.Common.{◌≡◌, ◌∷◌, ap, subst, ◌∙◌}
use Rattle.std.specs.List.{slice_get}
use Rattle.dactl_arcs.specs.Linked.{IsIn, linked}
use Rattle.dactl_arcs.specs.Pool.{LeadsTo, arcs_into, from_arc, rest_of_walk, target_of}
use Rattle.dactl_arcs.proofs.Housing.{leads_on, list_on, slot_on, some_leads}
use Rattle.dactl_arcs.proofs.pool.ArcPool.next_into.Goals as goal

pub next_into-requires : goal.next_into-requires
next_into-requires c = (slot_on _ _ c.self.invariant _ c.self.view_is (target_of c.args.self.now.arcs c.args.arc) c.args.arc c.requires).0

pub returns-clause-next : goal.returns-clause-next
returns-clause-next c =
    let target = target_of c.args.self.now.arcs c.args.arc in
    let slot = slot_on _ _ c.self.invariant _ c.self.view_is target c.args.arc c.requires in
    let walk = ap (arcs_into c.self.inside.lists) slot.1 ∙ list_on _ _ c.self.invariant _ c.self.view_is target in
    c.next_into.ensures.next ∙ ap (λ w. slice_get (from_arc c.args.arc w) 1) walk

pub returns-clause-rest : goal.returns-clause-rest
returns-clause-rest c =
    let target = target_of c.args.self.now.arcs c.args.arc in
    let slot = slot_on _ _ c.self.invariant _ c.self.view_is target c.args.arc c.requires in
    let walk = ap (arcs_into c.self.inside.lists) slot.1 ∙ list_on _ _ c.self.invariant _ c.self.view_is target in
    subst (λ w. from_arc c.args.arc w ≡ c.args.arc ∷ rest_of_walk c.next_into.result w) walk c.next_into.ensures.rest

pub returns-clause-leads : goal.returns-clause-leads
returns-clause-leads c =
    let lists = c.self.inside.lists in
    let target = target_of c.args.self.now.arcs c.args.arc in
    let slot = slot_on _ _ c.self.invariant _ c.self.view_is target c.args.arc c.requires in
    some_leads (IsIn (linked lists) (target_of lists.arcs c.args.arc)) (LeadsTo c.args.self.now target)
    (λ arc leads. leads_on _ _ c.self.invariant _ c.self.view_is target arc (subst (λ s. IsIn (linked lists) s arc) slot.1 leads)) _ c.next_into.ensures.leads
