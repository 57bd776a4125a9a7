-- The names of a root, by the layer of the pattern at its top.
use Rattle.std.proofs.Common.{◌≡◌, Bool, List, [], ap, ◌∙◌, if◌then◌else◌}
use Rattle.dactl_meaning.specs.declared.tree.Sign.{Sign}
use Rattle.dactl_meaning.specs.declared.tree.PatternTree.{PatternTree}
use Rattle.dactl_meaning.specs.declared.tree.PatternTree.TheVariants as p
use Rattle.dactl_meaning.specs.Expansion.{has_plus, root_names, root_names_level}
use Rattle.dactl_patterns.proofs.Trees.{fold_chain}
use Rattle.dactl_meaning.proofs.Induction.{plus_kept}

pub root_chain : (first : PatternTree) (rest : List (Sign × PatternTree)) → root_names (p.Chain first rest) ≡ (if has_plus rest then [] else root_names first)
root_chain first rest = fold_chain root_names_level first rest ∙ ap (λ (b : Bool). if b then [] else root_names first) (plus_kept root_names rest)
