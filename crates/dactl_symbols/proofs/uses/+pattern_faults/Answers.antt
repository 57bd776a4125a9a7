use Rattle.std.proofs.Common.{sym, ap, ◌∙◌}
use Rattle.std.specs.List.{flat_map}
use Rattle.dactl_meaning.specs.declared.tree.Sign.{Sign}
use Rattle.dactl_meaning.specs.declared.tree.PatternTree.{PatternTree}
use Rattle.dactl_meaning.specs.Uses.{pattern_uses}
use Rattle.dactl_symbols.specs.Least.{sooner, least_by}
use Rattle.dactl_symbols.specs.UseFaults.{use_fault, use_at}
use Rattle.dactl_symbols.proofs.Sooner.{least_by-append}
use Rattle.dactl_symbols.proofs.Walks.{least_parts-more}
use Rattle.dactl_symbols.proofs.Layers.{uses-Sym, uses-Chain, is_any-not}
use Rattle.dactl_symbols.proofs.uses.+pattern_faults.Goals as goal

pub links-loop-link-preserved : goal.links-loop-link-preserved
links-loop-link-preserved t c = c.lesser-least.ensures ∙ least_parts-more (use_fault c.args.scopes.now c.args.owner) (λ (l : Sign × PatternTree). pattern_uses l.1) c.args.rest.now c.loop-link.link-index c.link-item.result c.loop-link.least c.pattern.result c.loop-link-test.true c.link-item.is c.loop-link.invariant c.pattern.ensures

pub patterns-loop-tree-preserved : goal.patterns-loop-tree-preserved
patterns-loop-tree-preserved t c = c.lesser-least.ensures ∙ least_parts-more (use_fault c.args.scopes.now c.args.owner) pattern_uses c.args.trees.now c.loop-tree.tree-index c.tree-item.result c.loop-tree.least c.pattern.result c.loop-tree-test.true c.tree-item.is c.loop-tree.invariant c.pattern.ensures

pub pattern-returns-in-Sym : goal.pattern-returns-in-Sym
pattern-returns-in-Sym t c =
    let given = c.use_fault-own.ensures ∙ ap (λ b. use_fault c.args.scopes.now c.args.owner (use_at c.in-Sym.name b)) (is_any-not c.is_empty.result c.in-Sym.args c.is_empty.ensures) in
    let below = c.patterns.ensures ∙ ap (λ l. least_by (use_fault c.args.scopes.now c.args.owner) (flat_map pattern_uses l)) c.as_slice.ensures in
    c.lesser.ensures ∙ (λ j. sooner (given j) (below j))
    ∙ ap (least_by (use_fault c.args.scopes.now c.args.owner)) (sym (uses-Sym c.in-Sym.name c.in-Sym.args) ∙ ap pattern_uses (sym c.in-Sym.is))

pub pattern-returns-in-Chain : goal.pattern-returns-in-Chain
pattern-returns-in-Chain t c =
    let first = c.pattern-before.ensures ∙ ap (λ p. least_by (use_fault c.args.scopes.now c.args.owner) (pattern_uses p)) c.get-in-Chain.ensures in
    let rest = c.links.ensures ∙ ap (λ l. least_by (use_fault c.args.scopes.now c.args.owner) (flat_map (λ (k : Sign × PatternTree). pattern_uses k.1) l)) c.as_slice-in-Chain.ensures in
    c.lesser-in-Chain.ensures ∙ (λ j. sooner (first j) (rest j))
    ∙ sym (least_by-append (use_fault c.args.scopes.now c.args.owner) (pattern_uses c.in-Chain.first) (flat_map (λ (k : Sign × PatternTree). pattern_uses k.1) c.in-Chain.rest))
    ∙ ap (least_by (use_fault c.args.scopes.now c.args.owner)) (sym (uses-Chain c.in-Chain.first c.in-Chain.rest) ∙ ap pattern_uses (sym c.in-Chain.is))
