use Rattle.std.proofs.Common.{◌≡◌, Bool, List, None, sym, ap, ◌∙◌, if◌then◌else◌}
use Rattle.dactl_meaning.specs.declared.tree.Sign.{Sign}
use Rattle.dactl_meaning.specs.declared.tree.PatternTree.{PatternTree}
use Rattle.dactl_meaning.specs.declared.tree.PatternTree.TheVariants.{Chain}
use Rattle.dactl_meaning.specs.Expansion.{has_plus}
use Rattle.dactl_meaning.proofs.Induction.{plus_kept}
use Rattle.dactl_patterns.specs.Table.{head_name, head_name_level}
use Rattle.dactl_patterns.proofs.Trees.{fold_chain}
use Rattle.dactl_patterns.proofs.heads.+head_name.Goals as goal

chain_name : (tree first : PatternTree) (rest links : List (Sign × PatternTree)) (found plus : Bool) → tree ≡ Chain first rest → links ≡ rest → found ≡ has_plus links → found ≡ plus → (if plus then None else head_name first) ≡ head_name tree
chain_name tree first rest links found plus is linked test same =
    ap (λ (b : Bool). if b then None else head_name first) (sym same ∙ test ∙ ap has_plus linked ∙ sym (plus_kept head_name rest))
    ∙ sym (ap head_name is ∙ fold_chain head_name_level first rest)

pub returns-then-has_plus : goal.returns-then-has_plus
returns-then-has_plus t c = chain_name c.args.tree.now c.in-Chain.first c.in-Chain.rest _ _ _ c.in-Chain.is c.as_slice.ensures c.has_plus.ensures c.if-has_plus.true

pub returns-else-has_plus : goal.returns-else-has_plus
returns-else-has_plus t c =
    c.head_name-else-has_plus.ensures ∙ ap head_name c.get-else-has_plus.ensures
    ∙ chain_name c.args.tree.now c.in-Chain.first c.in-Chain.rest _ _ _ c.in-Chain.is c.as_slice.ensures c.has_plus.ensures c.if-has_plus.false
