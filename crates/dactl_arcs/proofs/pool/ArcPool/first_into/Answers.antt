use Rattle.std.proofs.Common.{◌≡◌, ap, subst, ◌∙◌, arith}
use Rattle.std.specs.List.{slice_get}
use Rattle.dactl_arcs.specs.Linked.{IsIn, linked}
use Rattle.dactl_arcs.specs.Pool.{LeadsTo, arcs_into, rest_of_walk, targets}
use Rattle.dactl_arcs.proofs.Housing.{leads_on, list_on, some_leads, valid_seen}
use Rattle.dactl_arcs.proofs.pool.ArcPool.first_into.Goals as goal

pub slot_for-requires : goal.slot_for-requires
slot_for-requires c = omega (arith, c.requires, ap (λ p. targets p) c.self.view_is, c.self.invariant.fits)

pub first_into-requires : goal.first_into-requires
first_into-requires c = omega (arith, c.requires, ap (λ p. targets p) c.self.view_is, c.self.invariant.slots, c.slot_for.ensures)

pub returns-clause-first : goal.returns-clause-first
returns-clause-first c =
    let walk = ap (arcs_into c.self.inside.lists) c.slot_for.ensures ∙ list_on _ _ c.self.invariant _ c.self.view_is c.args.target in
    c.first_into.ensures.first ∙ ap (λ w. slice_get w 0) walk

pub returns-clause-whole : goal.returns-clause-whole
returns-clause-whole c =
    let walk = ap (arcs_into c.self.inside.lists) c.slot_for.ensures ∙ list_on _ _ c.self.invariant _ c.self.view_is c.args.target in
    subst (λ w. rest_of_walk c.first_into.result w ≡ w) walk c.first_into.ensures.whole

pub returns-clause-leads : goal.returns-clause-leads
returns-clause-leads c =
    let lists = c.self.inside.lists in
    some_leads (IsIn (linked lists) c.slot_for.result) (LeadsTo c.args.self.now c.args.target)
    (λ arc leads. leads_on _ _ c.self.invariant _ c.self.view_is c.args.target arc (subst (λ s. IsIn (linked lists) s arc) c.slot_for.ensures leads)) _ c.first_into.ensures.leads

pub returns-clause-valid : goal.returns-clause-valid
returns-clause-valid c = valid_seen _ _ c.self.invariant c.first_into.ensures.valid _ c.self.view_is
