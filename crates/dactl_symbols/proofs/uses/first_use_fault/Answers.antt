use Rattle.std.proofs.Common.{ℕ, sym, ap, ◌∙◌}
use Rattle.std.specs.List.{flat_map, enumerate_from}
use Rattle.dactl_meaning.specs.declared.tree.Module.{Module}
use Rattle.dactl_meaning.specs.Uses.{item_uses}
use Rattle.dactl_symbols.specs.Least.{least_by}
use Rattle.dactl_symbols.specs.UseFaults.{use_fault}
use Rattle.dactl_symbols.proofs.Joined.{all_numbered}
use Rattle.dactl_symbols.proofs.Walks.{least_numbered-more}
use Rattle.dactl_symbols.proofs.Used.{uses-by_modules}
use Rattle.dactl_symbols.proofs.uses.first_use_fault.Goals as goal

pub loop-owner-preserved : goal.loop-owner-preserved
loop-owner-preserved c =
    let one = c.items.ensures ∙ ap (λ l. least_by (use_fault c.args.scopes.now c.loop-owner.owner) (flat_map item_uses l)) c.as_slice.ensures in
    c.lesser-least.ensures ∙ least_numbered-more (λ (m : ℕ × Module). least_by (use_fault c.args.scopes.now m.0) (flat_map item_uses m.1.items)) c.as_slice-tree-items.result.now c.loop-owner.owner c.tree-item.result c.loop-owner.least c.items.result c.loop-owner-test.true c.tree-item.is c.loop-owner.invariant one

pub returns : goal.returns
returns c =
    c.loop-owner.invariant ∙ ap (λ l. least_by (λ (m : ℕ × Module). least_by (use_fault c.args.scopes.now m.0) (flat_map item_uses m.1.items)) l) (all_numbered c.as_slice-tree-items.result.now c.loop-owner.owner c.loop-owner-test.false)
    ∙ ap (λ l. least_by (λ (m : ℕ × Module). least_by (use_fault c.args.scopes.now m.0) (flat_map item_uses m.1.items)) (enumerate_from 0 l)) c.as_slice-tree-items.ensures
    ∙ sym (uses-by_modules c.args.scopes.now c.args.text.now)
