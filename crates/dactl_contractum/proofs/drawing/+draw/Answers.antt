use Rattle.dactl_contractum.specs.Drawing.{arcs_in}
use Rattle.dactl_contractum.proofs.Drawings.{arcs_more, node_drawn_at}
use Rattle.dactl_contractum.proofs.drawing.+draw.Goals as goal

pub node-returns-in_ok-arcs-in-Sym : goal.node-returns-in_ok-arcs-in-Sym
node-returns-in_ok-arcs-in-Sym t c =
    node_drawn_at c.args.tree.now c.in-Sym.name c.in-Sym.args c.args.whole.now.name c.args.whole.now.marks c.args.drawing.now c.begin-in-Sym.new.self c.args_of.new.drawing c.finish.new.self c.in_ok-number-in-Sym.number (arcs_in c.in_ok-arcs-in-Sym.arcs)
    c.in-Sym.is c.in_ok-number-in-Sym.ensures.grows c.in_ok-number-in-Sym.ensures.number (rw c.as_slice.ensures at c.in_ok-arcs-in-Sym.ensures) c.finish.ensures.made c.finish.ensures.mentions

pub many_args-loop-item-preserved : goal.many_args-loop-item-preserved
many_args-loop-item-preserved t c =
    arcs_more c.args.args.now c.loop-item.item-index c.item-item.result c.args.drawing.now c.loop-item.drawing c.arg.new.drawing c.loop-item.arcs.items c.push.new.self.items c.in_ok-arg.field-0
    c.loop-item-test.true c.item-item.is c.loop-item.invariant c.in_ok-arg.ensures c.in_ok-push.ensures.items
