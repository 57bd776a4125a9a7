use Rattle.std.proofs.Common.{ℕ, [], ◌++◌, List, map, sym, ap, ◌∙◌, append_assoc}
use Rattle.std.specs.List.{concat}
use Rattle.std.proofs.lemmas.List.{at_drop_more}
use Rattle.dactl_model.specs.declared.graph.NodeId.{NodeId}
use Rattle.dactl_print.specs.Lines.{node_line}
use Rattle.dactl_print.proofs.Pieces.{printed_nothing, prints_then, prints_no_more, prints_same}
use Rattle.dactl_print.proofs.lines.gather_graph.Goals as goal

pub loop-node-init : goal.loop-node-init
loop-node-init g c =
    let lines : List NodeId → List ℕ = λ nodes. concat (map (node_line c.args.program.now (g.V.View.graph c.args.view.now) c.args.walk.now.order) nodes) in
    record { sent = []; split = ap lines (sym c.order-order.ensures); prints = printed_nothing _ _ _ _ }

pub returns-in_err-gather_node : goal.returns-in_err-gather_node
returns-in_err-gather_node g c =
    let before = c.loop-node.invariant in
    let lines : List NodeId → List ℕ = λ nodes. concat (map (node_line c.args.program.now (g.V.View.graph c.args.view.now) c.args.walk.now.order) nodes) in
    let next = at_drop_more lines c.order-order.result.now c.loop-node.node-index _ c.loop-node-test.true in
    prints_same (before.split ∙ ap (λ l. before.sent ++ l) next) (prints_then before.prints (prints_no_more _ c.in_err-gather_node.ensures c.from_residual.ensures.0))

pub loop-node-preserved : goal.loop-node-preserved
loop-node-preserved g c =
    let before = c.loop-node.invariant in
    let lines : List NodeId → List ℕ = λ nodes. concat (map (node_line c.args.program.now (g.V.View.graph c.args.view.now) c.args.walk.now.order) nodes) in
    let next = at_drop_more lines c.order-order.result.now c.loop-node.node-index _ c.loop-node-test.true in
    record {
      sent = _;
      split = before.split ∙ ap (λ l. before.sent ++ l) next ∙ sym (append_assoc before.sent _ _);
      prints = prints_then before.prints c.in_ok-gather_node.ensures;
    }
