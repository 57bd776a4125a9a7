use Rattle.std.proofs.Common.{◌≡◌, ◌+◌, ◌*◌, ◌-◌, ◌≤◌, length, vec_capacity, All, sum_by}
use Rattle.dactl_model.specs.Graphs.{HasNode}
use Rattle.dactl_print.specs.Walks.{HasNumbers, AreNodesOf}
use Rattle.dactl_print.proofs.Numbers.{free}
use Rattle.dactl_print.proofs.Walking.{Leads}
use Rattle.dactl_print.proofs.walk.visit_all.Given as goal

abbrev pub invariant-loop-frame : goal.invariant-loop-frame
invariant-loop-frame g l =
    let graph = g.V.View.graph l.view in
    record {
      numbers : HasNumbers l.numbers l.order.items;
      left : free l.numbers + length l.order.items ≡ length l.numbers;
      short : length l.path.items ≤ length l.order.items;
      nodes : AreNodesOf graph l.order.items;
      frames : All (λ f. HasNode graph f.node) l.path.items;
      leads : Leads graph l.path.items l.order.items;
      order_capacity : vec_capacity l.initial.order ≤ vec_capacity l.order;
      path_capacity : vec_capacity l.initial.path ≤ vec_capacity l.path;
    }

-- a free place stands for a node with all its arcs
abbrev pub decreases-loop-frame : goal.decreases-loop-frame
decreases-loop-frame g l = 18 * free l.numbers + sum_by (λ f. 1 + (16 - f.done)) l.path.items
