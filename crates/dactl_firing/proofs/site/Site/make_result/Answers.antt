use Rattle.std.proofs.Common.{◌≡◌, ℕ, ◌+◌, List, [], ◌∷◌, ◌++◌, cond, length, ap, refl, ◌∙◌, arith}
use Rattle.std.proofs.lemmas.List.{length-map}
use Rattle.dactl_model.specs.declared.graph.NodeId.{NodeId}
use Rattle.dactl_model.specs.declared.graph.Graph.{Graph}
use Rattle.dactl_model.specs.declared.graph.Mark.TheVariants.{Active}
use Rattle.dactl_model.specs.declared.program.FreshNode.{FreshNode}
use Rattle.dactl_model.specs.declared.program.Move.{Move}
use Rattle.dactl_model.specs.declared.program.Body.TheVariants.{Delta}
use Rattle.dactl_model.specs.Firing.{new_nodes, redirections, redirection, old_nodes}
use Rattle.dactl_model.specs.Matching.{delta_label}
use Rattle.dactl_model.specs.Patterns.{same_node}
use Rattle.dactl_store.specs.Held.{node_with, with_node}
use Rattle.dactl_store.specs.Redirecting.{sent, redirected_node}
use Rattle.dactl_firing.specs.Waking.{with_nodes}
use Rattle.dactl_firing.proofs.Made.{acts_few, graph_made, list_made}
use Rattle.dactl_firing.proofs.Moves.{pair_below}
use Rattle.dactl_firing.proofs.Ready.{latest_grown, settled_count, versions_made}
use Rattle.dactl_firing.proofs.site.Site.make_result.Goals as goal

pub append-made-requires : goal.append-made-requires
append-made-requires c =
    let count = settled_count c.args.store.now.graph c.settle.new.store.graph c.args.self.now.node c.args.self.now.bindings.now [] 0 c.settle.ensures.graph in
    omega (arith, count, ap (λ r. r.nodes) c.settle.ensures.room, c.requires.fits.nodes, c.requires.valid.nodes)

pub push-requires : goal.push-requires
push-requires c =
    let count = settled_count c.args.store.now.graph c.settle.new.store.graph c.args.self.now.node c.args.self.now.bindings.now [] 0 c.settle.ensures.graph in
    omega (arith, count, ap length c.settle.ensures.list, acts_few c.args.store.now.graph c.args.self.now.node 0 c.settle.new.store.graph.nodes, c.settle.ensures.list_room, c.requires.room, c.requires.fits.nodes, c.requires.valid.nodes)

pub redirect-requires-clause-nodes : goal.redirect-requires-clause-nodes
redirect-requires-clause-nodes c =
    let count = settled_count c.args.store.now.graph c.settle.new.store.graph c.args.self.now.node c.args.self.now.bindings.now [] 0 c.settle.ensures.graph in
    let room : c.append-made.new.self.room ≡ c.args.store.now.room = ap (λ s. s.room) c.append-made.ensures.added ∙ c.settle.ensures.room in
    pair_below c.append-made.new.self.room.nodes c.args.self.now.node c.append-made.result
    (omega (arith, ap (λ r. r.nodes) room, c.requires.site.node, c.requires.valid.nodes))
    (omega (arith, ap (λ r. r.nodes) room, c.append-made.ensures.number, count, c.requires.fits.nodes, c.requires.valid.nodes))

pub redirect-requires-clause-latest : goal.redirect-requires-clause-latest
redirect-requires-clause-latest c =
    let fresh : List FreshNode = new_nodes (Delta c.args.op) c.args.store.now.graph c.args.self.now.bindings.now in
    latest_grown c.args.store.now c.append-made.new.self c.args.self.now.entry fresh c.requires.latest
    (ap (λ s. s.newest) c.append-made.ensures.added ∙ c.settle.ensures.newest)
    (ap (λ s. s.versions) c.append-made.ensures.added ∙ ap (λ vs. vs ++ c.args.self.now.entry ∷ []) c.settle.ensures.versions)

pub returns : goal.returns
returns c =
    let old = c.args.store.now in
    let g : Graph = old.graph in
    let n = c.args.self.now.node in
    let h = c.args.self.now.bindings.now in
    let fresh : List FreshNode = new_nodes (Delta c.args.op) g h in
    let moves : List Move = redirections (Delta c.args.op) in
    let first = c.settle.new.store in
    let second = c.append-made.new.self in
    let third = c.redirect.new.self in
    let settled : first.graph ≡ with_nodes g (old_nodes (λ x. x) n h [] 0 0 g.nodes) = c.settle.ensures.graph in
    let count = settled_count g first.graph n h [] 0 settled in
    let number : c.append-made.result.number ≡ length g.nodes = c.append-made.ensures.number ∙ count in
    let made : c.append-made.result ≡ record { number = length g.nodes + 0 } = ap (λ k. record { number = k }) (number ∙ omega arith) in
    let same : (x : NodeId) → sent ((n, c.append-made.result) ∷ []) x ≡ redirection (length g.nodes) n h moves x = λ x. ap (λ y. cond (same_node n x) y x) made in
    let label : c.computed-label.result ≡ delta_label c.args.op g h = c.computed-label.ensures in
    let with_new : second.graph ≡ with_node first.graph (node_with (delta_label c.args.op g h) Active) = ap (λ s. s.graph) c.append-made.ensures.added ∙ ap (λ l. with_node first.graph (node_with l Active)) label in
    let added : second.graph ≡ with_nodes g (old_nodes (λ x. x) n h [] 0 0 g.nodes ++ node_with (delta_label c.args.op g h) Active ∷ []) = with_new ∙ ap (λ x. with_node x (node_with (delta_label c.args.op g h) Active)) settled in
    record {
      graph = graph_made g n h fresh moves [] 0 (sent ((n, c.append-made.result) ∷ [])) second.graph third.graph same added c.redirect.ensures.graph;
      versions = versions_made old first second third n h [] 0 fresh (node_with (delta_label c.args.op g h) Active ∷ []) c.args.self.now.entry c.requires.valid settled c.settle.ensures.versions refl
          (ap (λ x. x.nodes) with_new) (ap (λ s. s.versions) c.append-made.ensures.added) c.redirect.ensures.versions
          (ap (λ x. length x.nodes) c.redirect.ensures.graph ∙ length-map second.graph.nodes (redirected_node (sent ((n, c.append-made.result) ∷ []))));
      room = c.redirect.ensures.room ∙ ap (λ s. s.room) c.append-made.ensures.added ∙ c.settle.ensures.room;
      newest = c.redirect.ensures.newest;
      list = list_made g n h fresh moves [] 0 first.graph c.settle.new.woken.list c.push.new.self.list settled c.settle.ensures.list
          (ap (λ w. w.list) c.push.ensures ∙ ap (λ (k : ℕ). c.settle.new.woken.list ++ record { number = k } ∷ []) number);
      list_room = ap (λ w. w.room) c.push.ensures ∙ c.settle.ensures.list_room;
    }
