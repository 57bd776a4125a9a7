use Rattle.std.proofs.Common.{◌≡◌, ◌≢◌, set, ap, ◌∙◌, arith}
use Rattle.std.proofs.lemmas.Bool.Decides.{nat_tests}
use Rattle.dactl_active.specs.declared.places.Place.{Place}
use Rattle.dactl_active.proofs.Round.{read_anchor, read_ready, ready_reached, set_ready, written_anchor}
use Rattle.dactl_active.proofs.places.Places.set_previous.Goals as goal

pub returns-then-n-self : goal.returns-then-n-self
returns-then-n-self c =
    let p = c.self.inside in
    let same : p.room ≡ c.args.n = grind (arith, nat_tests, c.if-n-self.true) in
    written_anchor _ c.args.n p.room p.stored.items p.anchor _ c.self.invariant c.self.view_is (record p.anchor { previous = c.args.previous }) same
    ∙ ap (λ (p : Place). set c.args.self.now c.args.n (record p { previous = c.args.previous })) (read_anchor _ c.args.n p.room p.stored.items p.anchor _ c.self.invariant c.self.view_is same)

pub returns : goal.returns
returns c =
    let p = c.self.inside in
    let other : c.args.n ≢ p.room = grind (arith, nat_tests, c.if-n-self.false) in
    let ready = ready_reached _ c.args.n p.room p.stored.items p.anchor _ c.self.invariant c.self.view_is _ _ c.requires other c.reach.ensures.items c.reach.ensures.capacity in
    set_ready _ _ _ _ _ _ ready (record c.index_mut.result.now { previous = c.args.previous })
    ∙ ap (λ (p : Place). set c.args.self.now c.args.n (record p { previous = c.args.previous })) (read_ready _ _ _ _ _ _ ready c.index_mut.result.now c.index_mut.ensures.value)
