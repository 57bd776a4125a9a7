use Rattle.std.proofs.Common.{◌≡◌, ◌∷◌, ◌<◌, length, Some, refl, ap, subst, ◌∙◌, arith}
use Rattle.std.specs.Option.{IfSome}
use Rattle.dactl_arcs.specs.Pool.{LeadsTo, arcs_into, rest_of_walk}
use Rattle.dactl_store.proofs.Notified.{owner_below, woken_room, wakes_passive, notifying_more, notifying_ends, woken_ends}
use Rattle.dactl_store.proofs.notify.notify_owners.Goals as goal

pub notify_owner-requires-clause-room : goal.notify_owner-requires-clause-room
notify_owner-requires-clause-room c = λ wakes.
    let is = c.loop-at.invariant.notifying in
    let old_owner = owner_below c.args.nodes.now.records c.args.arcs.now.arcs c.in-Some.arc c.arc.result c.requires.owners c.arc.ensures in
    let owner : c.arc.result.owner < length c.loop-at.nodes.records = omega (arith, old_owner, is.long) in
    let room = woken_room _ _ _ c.args.nodes.now c.loop-at.nodes c.loop-at.woken.list c.arc.result.owner is owner (wakes_passive c.arc.result.owner c.loop-at.nodes.records wakes) in
    omega (arith, room, is.long, c.loop-at.invariant.list_room, c.requires.room)

pub next_into-at-requires : goal.next_into-at-requires
next_into-at-requires c =
    let here = rw c.in-Some.is at c.loop-at.invariant.leads in
    (here.0, refl, here.2)

pub loop-at-preserved : goal.loop-at-preserved
loop-at-preserved c =
    let pool = c.args.arcs.now in
    let here = rw c.in-Some.is at c.loop-at.invariant.leads in
    let is = c.loop-at.invariant.notifying in
    let rest : rest_of_walk c.loop-at.at (arcs_into c.args.arcs.now c.args.target) ≡ c.in-Some.arc ∷ rest_of_walk c.next_into-at.result (arcs_into c.args.arcs.now c.args.target) =
    ap (λ o. rest_of_walk o (arcs_into pool c.args.target)) c.in-Some.is
    ∙ subst (λ t. rest_of_walk (Some c.in-Some.arc) (arcs_into pool t) ≡ c.in-Some.arc ∷ rest_of_walk c.next_into-at.result (arcs_into pool t)) here.1 c.next_into-at.ensures.rest in
    let old_owner = owner_below c.args.nodes.now.records pool.arcs c.in-Some.arc c.arc.result c.requires.owners c.arc.ensures in
    let owner : c.arc.result.owner < length c.loop-at.nodes.records = omega (arith, old_owner, is.long) in
    record {
      leads = subst (λ t. IfSome c.next_into-at.result (LeadsTo pool t)) here.1 c.next_into-at.ensures.leads;
      notifying = notifying_more pool.arcs (arcs_into pool c.args.target) _ _ c.in-Some.arc c.arc.result c.args.nodes.now c.loop-at.nodes c.notify_owner.new.nodes c.loop-at.woken.list c.notify_owner.new.woken.list is rest c.arc.ensures owner
          c.notify_owner.ensures.records c.notify_owner.ensures.list c.notify_owner.ensures.room;
      list_room = c.notify_owner.ensures.list_room ∙ c.loop-at.invariant.list_room;
    }

pub returns-clause-notified : goal.returns-clause-notified
returns-clause-notified c =
    let pool = c.args.arcs.now in
    notifying_ends pool.arcs c.args.target (arcs_into pool c.args.target) _ c.args.nodes.now c.loop-at.nodes c.loop-at.woken.list (c.first_into-at.ensures.valid.walks c.args.target c.requires.target) c.loop-at.invariant.notifying
    (ap (λ o. rest_of_walk o (arcs_into pool c.args.target)) c.in_default.is)

pub returns-clause-woken : goal.returns-clause-woken
returns-clause-woken c = woken_ends _ _ _ c.args.nodes.now c.loop-at.nodes c.loop-at.woken.list c.loop-at.invariant.notifying
