use Rattle.std.proofs.Common.{◌≡◌, ◌+◌, ◌<◌, true, length, get_or, drop, sym, ap, ◌∙◌, arith}
use Rattle.std.proofs.lemmas.Option.{unwrap_or-slice_get}
use Rattle.std.proofs.lemmas.List.{drop_more, drop_all}
use Rattle.dactl_model.specs.declared.graph.NodeId.{NodeId}
use Rattle.dactl_model.specs.Matching.{bound_node}
use Rattle.dactl_store.specs.Held.{changed_at}
use Rattle.dactl_firing.specs.Waking.{woken_node, woken_nodes, with_nodes}
use Rattle.dactl_firing.proofs.Woken.{wakening_ends, wakening_room, wakening_step, woken_more, woken_none}
use Rattle.dactl_firing.proofs.waking.wake_all.Goals as goal

pub wake-requires-clause-room : goal.wake-requires-clause-room
wake-requires-clause-room c = λ idle.
    let is = c.loop-variable.invariant.wakening in
    let v = get_or c.args.wakes.now c.loop-variable.variable-index 0 in
    let node : NodeId = get_or c.args.bindings.now v (record { number = 0 }) in
    let there : node.number < length c.args.store.now.graph.nodes = c.requires.nodes v (record { number = 0 }) (c.requires.wakes c.loop-variable.variable-index 0 c.loop-variable-test.true) in
    let room = wakening_room c.args.store.now.graph.nodes c.loop-variable.store.graph.nodes c.loop-variable.woken.list node is idle (omega (arith, there, is.long)) in
    omega (arith, room, is.long, c.loop-variable.invariant.list_room, c.requires.room)

pub loop-variable-preserved : goal.loop-variable-preserved
loop-variable-preserved c =
    let now = c.loop-variable.invariant in
    let h = c.args.bindings.now in
    let v = get_or c.args.wakes.now c.loop-variable.variable-index 0 in
    let node : NodeId = get_or h v (record { number = 0 }) in
    let rest = drop (c.loop-variable.variable-index + 1) c.args.wakes.now in
    let bound : (bound_node h v).number ≡ 0 + node.number = ap (λ x. x.number) (unwrap_or-slice_get h v (record { number = 0 })) ∙ omega arith in
    let changed : c.wake.new.store.graph.nodes ≡ changed_at node.number (woken_node true) c.loop-variable.store.graph.nodes = ap (λ g. g.nodes) c.wake.ensures.graph in
    let parts = drop_more c.args.wakes.now c.loop-variable.variable-index 0 c.loop-variable-test.true in
    record {
      nodes = ap (woken_nodes h rest 0) changed
          ∙ sym (woken_more h v rest node.number 0 c.loop-variable.store.graph.nodes bound)
          ∙ sym (ap (λ ws. woken_nodes h ws 0 c.loop-variable.store.graph.nodes) parts)
          ∙ now.nodes;
      root = ap (λ g. g.root) c.wake.ensures.graph ∙ now.root;
      versions = c.wake.ensures.versions ∙ now.versions;
      room = c.wake.ensures.room ∙ now.room;
      newest = c.wake.ensures.newest ∙ now.newest;
      wakening = wakening_step c.args.store.now.graph.nodes c.loop-variable.store.graph.nodes c.wake.new.store.graph.nodes c.loop-variable.woken.list c.wake.new.woken.list node now.wakening changed c.wake.ensures.list;
      list_room = c.wake.ensures.list_room ∙ now.list_room;
    }

pub returns-clause-graph : goal.returns-clause-graph
returns-clause-graph c =
    let h = c.args.bindings.now in
    let nodes : c.loop-variable.store.graph.nodes ≡ woken_nodes h c.args.wakes.now 0 c.args.store.now.graph.nodes =
    sym (woken_none h 0 c.loop-variable.store.graph.nodes)
    ∙ sym (ap (λ ws. woken_nodes h ws 0 c.loop-variable.store.graph.nodes) (drop_all c.loop-variable.variable-index c.args.wakes.now c.loop-variable-test.false))
    ∙ c.loop-variable.invariant.nodes in
    ap (with_nodes c.loop-variable.store.graph) nodes
    ∙ ap (λ r. record { nodes = woken_nodes h c.args.wakes.now 0 c.args.store.now.graph.nodes; root = r }) c.loop-variable.invariant.root

pub returns-clause-list : goal.returns-clause-list
returns-clause-list c = wakening_ends c.args.store.now.graph.nodes c.loop-variable.store.graph.nodes c.loop-variable.woken.list c.loop-variable.invariant.wakening
