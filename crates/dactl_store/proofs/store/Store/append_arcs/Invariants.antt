use Rattle.std.proofs.Common.{◌≡◌, map, take}
use Rattle.dactl_model.specs.Firing.{fresh_arc}
use Rattle.dactl_store.specs.Held.{with_arcs}
use Rattle.dactl_store.proofs.store.Store.append_arcs.Given as goal

-- the arcs so far are the owner's
abbrev pub invariant-loop-arc : goal.invariant-loop-arc
invariant-loop-arc l =
    l.self ≡ record l.initial.self { graph = with_arcs l.initial.self.graph l.owner (map (fresh_arc l.first l.bindings (λ x. x)) (take l.arc-index l.arcs)) }
