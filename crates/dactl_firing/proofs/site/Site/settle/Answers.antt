use Rattle.std.proofs.Common.{◌≡◌, ◌∷◌, ◌++◌, [], cond, length, ap, subst, ◌∙◌, arith}
use Rattle.dactl_model.specs.declared.graph.Graph.{Graph}
use Rattle.dactl_model.specs.declared.graph.Event.TheVariants.{Fire}
use Rattle.dactl_model.specs.Acts.{marks_active}
use Rattle.dactl_store.specs.Held.{with_mark, changed_at}
use Rattle.dactl_store.proofs.Growing.{length-changed_at}
use Rattle.dactl_store.proofs.Acting.{acts_are}
use Rattle.dactl_firing.specs.Waking.{woken_nodes, with_nodes, IsWokenList}
use Rattle.dactl_firing.proofs.Settled.{marked, settled, length-woken_nodes, root_room, acts_distinct, acts_listed}
use Rattle.dactl_firing.proofs.site.Site.settle.Goals as goal

pub wake_all-requires-clause-nodes : goal.wake_all-requires-clause-nodes
wake_all-requires-clause-nodes c = λ k d below.
    let there = c.requires.site.bindings k d below in
    omega (arith, there, ap (λ h. length h.graph.nodes) c.set_mark.ensures, length-changed_at c.args.self.now.node.number (marked c.settled_mark-mark.result) c.args.store.now.graph.nodes)

pub wake_all-requires-clause-room : goal.wake_all-requires-clause-room
wake_all-requires-clause-room c =
    omega (arith, c.requires.room, ap (λ h. length h.graph.nodes) c.set_mark.ensures, length-changed_at c.args.self.now.node.number (marked c.settled_mark-mark.result) c.args.store.now.graph.nodes, ap (λ w. w.room) c.clear.ensures)

pub list_active-requires : goal.list_active-requires
list_active-requires c = λ active.
    let n = c.args.self.now.node in
    let h = c.args.self.now.bindings.now in
    let wakes = c.args.wakes.now in
    let before : Graph = c.args.store.now.graph in
    let mark = c.settled_mark-mark.result in
    let now = c.wake_all.new.store.graph.nodes in
    let root_marked : c.set_mark.new.self.graph ≡ with_mark before n mark = ap (λ s. s.graph) c.set_mark.ensures in
    let woken : IsWokenList (with_mark before n mark).nodes c.wake_all.new.store.graph.nodes c.wake_all.new.woken.list = subst (λ g. IsWokenList g.nodes now c.wake_all.new.woken.list) root_marked c.wake_all.ensures.list in
    let nodes : now ≡ woken_nodes h wakes 0 (changed_at n.number (marked mark) before.nodes) = ap (λ g. g.nodes) (c.wake_all.ensures.graph ∙ ap (λ g. with_nodes g (woken_nodes h wakes 0 g.nodes)) root_marked) in
    let long : length now ≡ length before.nodes = ap length nodes ∙ length-woken_nodes h wakes 0 (changed_at n.number (marked mark) before.nodes) ∙ length-changed_at n.number (marked mark) before.nodes in
    let room = root_room before n mark h wakes now c.wake_all.new.woken.list c.requires.site.node nodes woken long active in
    omega (arith, room, c.requires.room, c.wake_all.ensures.list_room, ap (λ w. w.room) c.clear.ensures)

pub returns : goal.returns
returns c =
    let n = c.args.self.now.node in
    let h = c.args.self.now.bindings.now in
    let wakes = c.args.wakes.now in
    let before : Graph = c.args.store.now.graph in
    let mark = c.settled_mark-mark.result in
    let now = c.wake_all.new.store.graph.nodes in
    let list = c.wake_all.new.woken.list in
    let all = c.list_active.new.woken.list in
    let root_marked : c.set_mark.new.self.graph ≡ with_mark before n mark = ap (λ s. s.graph) c.set_mark.ensures in
    let woken : IsWokenList (with_mark before n mark).nodes c.wake_all.new.store.graph.nodes c.wake_all.new.woken.list = subst (λ g. IsWokenList g.nodes now list) root_marked c.wake_all.ensures.list in
    let graph : c.wake_all.new.store.graph ≡ with_nodes before (woken_nodes h wakes 0 (changed_at n.number (marked mark) before.nodes)) = c.wake_all.ensures.graph ∙ ap (λ g. with_nodes g (woken_nodes h wakes 0 g.nodes)) root_marked in
    let nodes : now ≡ woken_nodes h wakes 0 (changed_at n.number (marked mark) before.nodes) = ap (λ g. g.nodes) graph in
    let listed : all ≡ cond (marks_active mark) (list ++ n ∷ []) list = c.list_active.ensures.list in
    record {
      graph = graph ∙ ap (with_nodes before) (settled n h wakes c.args.suspend mark n.number 0 before.nodes (omega arith) c.settled_mark-mark.ensures);
      versions = c.wake_all.ensures.versions ∙ ap (λ s. s.versions) c.set_mark.ensures;
      room = c.wake_all.ensures.room ∙ ap (λ s. s.room) c.set_mark.ensures;
      newest = c.wake_all.ensures.newest ∙ ap (λ s. s.newest) c.set_mark.ensures;
      list = acts_are before c.wake_all.new.store.graph (Fire n 0) all c.sort.new.self.list (acts_distinct before n mark h wakes now list c.requires.site.node nodes woken all listed) c.sort.ensures.same c.sort.ensures.ascending
          (acts_listed before n mark h wakes now list c.requires.site.node nodes woken all listed);
      list_room = c.sort.ensures.room ∙ c.list_active.ensures.room ∙ c.wake_all.ensures.list_room ∙ ap (λ w. w.room) c.clear.ensures;
    }
