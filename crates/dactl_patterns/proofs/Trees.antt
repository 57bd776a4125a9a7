-- A fold over a pattern, by the layer at its top.
use Rattle.std.proofs.Common.{◌≡◌, List, map, sym, ap, ◌∙◌}
use Rattle.dactl_meaning.specs.declared.tree.Name.{Name}
use Rattle.dactl_meaning.specs.declared.tree.Sign.{Sign}
use Rattle.dactl_meaning.specs.declared.tree.PatternTree.{PatternTree}
use Rattle.dactl_meaning.specs.declared.tree.PatternTree.TheVariants.{rolls-Binder, rolls-Chain, rolls-Sym}
use Rattle.dactl_meaning.specs.declared.tree.PatternTree.TheVariants as p
use Rattle.dactl_meaning.specs.declared.tree.PatternTree.TheOpen.{PatternTree-F}
use Rattle.dactl_meaning.specs.declared.tree.PatternTree.TheFolds.{fold-PatternTree, fold-roll-PatternTree}

module _ {R : Type 0} (level : PatternTree-F R → R) where
  abbrev folded : PatternTree → R
  folded = fold-PatternTree R level

  pub fold_symbol : (name : Name) (args : List PatternTree) → folded (p.Sym name args) ≡ level (PatternTree-F.Sym name (map folded args))
  fold_symbol name args = ap folded (sym (rolls-Sym name args)) ∙ fold-roll-PatternTree R level (PatternTree-F.Sym name args)

  pub fold_binder : (name : Name) (inner : PatternTree) → folded (p.Binder name inner) ≡ level (PatternTree-F.Binder name (folded inner))
  fold_binder name inner = ap folded (sym (rolls-Binder name inner)) ∙ fold-roll-PatternTree R level (PatternTree-F.Binder name inner)

  pub fold_chain : (first : PatternTree) (rest : List (Sign × PatternTree)) → folded (p.Chain first rest) ≡ level (PatternTree-F.Chain (folded first) (map (λ l. (l.0, folded l.1)) rest))
  fold_chain first rest = ap folded (sym (rolls-Chain first rest)) ∙ fold-roll-PatternTree R level (PatternTree-F.Chain first rest)
