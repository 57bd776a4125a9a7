use Rattle.std.proofs.Common.{◌≡◌, ◌++◌, length, map, ap, refl, ◌∙◌, arith}
use Rattle.std.proofs.lemmas.List.{length-map}
use Rattle.dactl_model.specs.declared.graph.NodeId.{NodeId}
use Rattle.dactl_model.specs.declared.graph.Graph.{Graph}
use Rattle.dactl_model.specs.Firing.{redirection, old_nodes, fresh_node}
use Rattle.dactl_model.proofs.KeptFire.{length-old_nodes}
use Rattle.dactl_store.specs.Contractum.{with_fresh}
use Rattle.dactl_store.specs.Redirecting.{sent, redirected_node}
use Rattle.dactl_firing.specs.Site.{pairs_of}
use Rattle.dactl_firing.specs.Waking.{with_nodes, new_acts}
use Rattle.dactl_firing.proofs.Made.{acts_few, graph_made, list_made, pairs_send}
use Rattle.dactl_firing.proofs.Moves.{pairs_below, moves_few}
use Rattle.dactl_firing.proofs.Ready.{settled_count, settled_arcs, can_append, latest_grown, versions_made}
use Rattle.dactl_firing.proofs.site.Site.make_written.Goals as goal

pub append_contractum-requires : goal.append_contractum-requires
append_contractum-requires c =
    let n = c.args.self.now.node in
    let h = c.args.self.now.bindings.now in
    let g : Graph = c.args.store.now.graph in
    let first = c.settle.new.store in
    can_append c.args.store.now first c.requires.body.0 (length h) h c.args.body.fresh.now refl c.requires.valid c.requires.site.bindings c.requires.body.1.news c.requires.fits.nodes c.requires.fits.arcs
    (settled_count g first.graph n h c.args.body.wakes.now c.args.body.suspend c.settle.ensures.graph) (settled_arcs g first.graph n h c.args.body.wakes.now c.args.body.suspend c.settle.ensures.graph) c.settle.ensures.room

pub list_new-requires-clause-room : goal.list_new-requires-clause-room
list_new-requires-clause-room c =
    let count = settled_count c.args.store.now.graph c.settle.new.store.graph c.args.self.now.node c.args.self.now.bindings.now c.args.body.wakes.now c.args.body.suspend c.settle.ensures.graph in
    omega (arith, count, ap length c.settle.ensures.list, acts_few c.args.store.now.graph c.args.self.now.node 0 c.settle.new.store.graph.nodes, c.settle.ensures.list_room, c.requires.room, c.requires.fits.nodes, c.requires.valid.nodes)

pub redirect-requires-clause-few : goal.redirect-requires-clause-few
redirect-requires-clause-few c =
    moves_few (length c.args.self.now.bindings.now) c.requires.site.few c.args.body.moves.now (λ k d below. (c.requires.body.1.move_ends k d below).0) c.requires.body.1.once

pub redirect-requires-clause-nodes : goal.redirect-requires-clause-nodes
redirect-requires-clause-nodes c =
    let h = c.args.self.now.bindings.now in
    let count = settled_count c.args.store.now.graph c.settle.new.store.graph c.args.self.now.node h c.args.body.wakes.now c.args.body.suspend c.settle.ensures.graph in
    let room : c.append_contractum.new.self.room ≡ c.args.store.now.room = c.append_contractum.ensures.room ∙ c.settle.ensures.room in
    let nodes : c.append_contractum.new.self.room.nodes ≡ c.args.store.now.room.nodes = ap (λ r. r.nodes) room in
    pairs_below c.append_contractum.new.self.room.nodes c.next_number-first.result (length c.args.body.fresh.now) c.args.self.now.node h c.args.body.moves.now
    (omega (arith, nodes, c.requires.site.node, c.requires.valid.nodes))
    (λ k d below. let there = c.requires.site.bindings k d below in omega (arith, nodes, there, c.requires.valid.nodes))
    (omega (arith, nodes, count, c.next_number-first.ensures.number, c.requires.fits.nodes, c.requires.valid.nodes))
    c.requires.body.1.move_ends

pub redirect-requires-clause-latest : goal.redirect-requires-clause-latest
redirect-requires-clause-latest c =
    latest_grown c.args.store.now c.append_contractum.new.self c.args.self.now.entry c.args.body.fresh.now c.requires.latest
    (c.append_contractum.ensures.newest ∙ c.settle.ensures.newest)
    (c.append_contractum.ensures.versions ∙ ap (λ vs. vs ++ map (λ _. c.args.self.now.entry) c.args.body.fresh.now) c.settle.ensures.versions)

pub returns : goal.returns
returns c =
    let old = c.args.store.now in
    let g : Graph = old.graph in
    let n = c.args.self.now.node in
    let h = c.args.self.now.bindings.now in
    let fresh = c.args.body.fresh.now in
    let moves = c.args.body.moves.now in
    let wakes = c.args.body.wakes.now in
    let suspend = c.args.body.suspend in
    let first = c.settle.new.store in
    let second = c.append_contractum.new.self in
    let third = c.redirect.new.store in
    let start = c.next_number-first.result in
    let settled : first.graph ≡ with_nodes g (old_nodes (λ x. x) n h wakes suspend 0 g.nodes) = c.settle.ensures.graph in
    let count = settled_count g first.graph n h wakes suspend settled in
    let start_is : start ≡ length g.nodes = c.next_number-first.ensures.number ∙ count in
    let same : (x : NodeId) → sent (pairs_of start n h moves) x ≡ redirection (length g.nodes) n h moves x = λ x. pairs_send start n h moves x ∙ ap (λ m. redirection m n h moves x) start_is in
    let added : second.graph ≡ with_nodes g (old_nodes (λ x. x) n h wakes suspend 0 g.nodes ++ map (fresh_node (length g.nodes) h (λ x. x)) fresh) =
    c.append_contractum.ensures.graph ∙ ap (λ x. with_fresh x h fresh) settled
    ∙ ap (λ m. with_nodes g (old_nodes (λ x. x) n h wakes suspend 0 g.nodes ++ map (fresh_node m h (λ x. x)) fresh)) (length-old_nodes (λ x. x) n h wakes suspend 0 g.nodes) in
    record {
      graph = graph_made g n h fresh moves wakes suspend (sent (pairs_of start n h moves)) second.graph third.graph same added c.redirect.ensures.graph;
      versions = versions_made old first second third n h wakes suspend fresh (map (fresh_node (length first.graph.nodes) h (λ x. x)) fresh) c.args.self.now.entry c.requires.valid settled c.settle.ensures.versions
          (length-map fresh (fresh_node (length first.graph.nodes) h (λ x. x))) (ap (λ x. x.nodes) c.append_contractum.ensures.graph) c.append_contractum.ensures.versions c.redirect.ensures.versions
          (ap (λ x. length x.nodes) c.redirect.ensures.graph ∙ length-map second.graph.nodes (redirected_node (sent (pairs_of start n h moves))));
      room = c.redirect.ensures.room ∙ c.append_contractum.ensures.room ∙ c.settle.ensures.room;
      newest = c.redirect.ensures.newest;
      list = list_made g n h fresh moves wakes suspend first.graph c.settle.new.woken.list c.list_new.new.woken.list settled c.settle.ensures.list
          (c.list_new.ensures.list ∙ ap (λ m. c.settle.new.woken.list ++ new_acts m fresh) start_is);
      list_room = c.list_new.ensures.room ∙ c.settle.ensures.list_room;
    }
