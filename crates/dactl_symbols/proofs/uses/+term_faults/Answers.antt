use Rattle.std.proofs.Common.{sym, ap, ◌∙◌}
use Rattle.std.specs.List.{flat_map}
use Rattle.dactl_symbols.specs.Least.{sooner, least_by}
use Rattle.dactl_symbols.specs.UseFaults.{use_fault, node_uses, arg_uses}
use Rattle.dactl_symbols.proofs.Walks.{least_parts-more}
use Rattle.dactl_symbols.proofs.Layers.{uses-node}
use Rattle.dactl_symbols.proofs.uses.+term_faults.Goals as goal

pub node-returns-in-Sym : goal.node-returns-in-Sym
node-returns-in-Sym t c =
    let below = c.node_args.ensures ∙ ap (λ l. least_by (use_fault c.args.scopes.now c.args.owner) (flat_map arg_uses l)) c.as_slice.ensures in
    c.lesser.ensures ∙ (λ j. sooner (c.use_fault-own.ensures j) (below j))
    ∙ ap (least_by (use_fault c.args.scopes.now c.args.owner)) (sym (uses-node c.in-Sym.name c.in-Sym.args) ∙ ap node_uses (sym c.in-Sym.is))

pub node_args-loop-one-preserved : goal.node_args-loop-one-preserved
node_args-loop-one-preserved t c = c.lesser-least.ensures ∙ least_parts-more (use_fault c.args.scopes.now c.args.owner) arg_uses c.args.args.now c.loop-one.one-index c.one-item.result c.loop-one.least c.node_arg.result c.loop-one-test.true c.one-item.is c.loop-one.invariant c.node_arg.ensures
