use Rattle.std.proofs.Common.{◌≡◌, ◌+◌, ◌≤◌, All, sym, ap, ◌∙◌, subst, arith}
use Rattle.std.proofs.lemmas.List.Elements.{All-map}
use Rattle.dactl_model.specs.Graphs.{IsWellFormed}
use Rattle.dactl_model.proofs.KeptFire.{begins_well_formed}
use Rattle.dactl_layers.proofs.store_tests.entries_alike.Goals as goal

pub loop-done-init : goal.loop-done-init
loop-done-init c =
    let store_room : c.in-Ok.store.room.nodes ≡ 64 = ap (λ r. r.nodes) c.in-Ok.ensures.ok.room in
    let woken_room : c.in_ok-woken.woken.room ≡ 64 = ap (λ w. w.room) c.in_ok-woken.ensures in (
      subst IsWellFormed (sym c.in_ok-graph.ensures) (begins_well_formed c.args.program.now c.requires),
      c.in-Ok.ensures.ok.graph ∙ sym c.in_ok-graph.ensures,
      record { newer = let first = c.in-Ok.ensures.ok.newest in omega arith; most = subst (All (λ v. v ≤ 0 + 1)) (sym c.in-Ok.ensures.ok.versions) (All-map (λ v. v ≤ 0 + 1) (λ _. 0) c.args.program.now.start.fresh (λ k d below. omega arith)) },
      omega (arith, store_room, woken_room),
    )
