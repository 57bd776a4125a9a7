-- The uses in patterns and nodes, by one layer.
use Rattle.std.proofs.Common.{◌≡◌, Bool, true, false, not, List, [], ◌∷◌, ◌++◌, map, refl, sym, ap, ◌∙◌}
use Rattle.std.specs.Prelude.{◌↔◌, IsTrue}
use Rattle.std.specs.List.{flat_map}
use Rattle.std.proofs.lemmas.List.Folds.{flat_map-map}
use Rattle.dactl_meaning.specs.declared.tree.Name.{Name}
use Rattle.dactl_meaning.specs.declared.tree.Sign.{Sign}
use Rattle.dactl_meaning.specs.declared.tree.PatternTree.{PatternTree}
use Rattle.dactl_meaning.specs.declared.tree.PatternTree.TheVariants.{rolls-Binder, rolls-Chain, rolls-Sym}
use Rattle.dactl_meaning.specs.declared.tree.PatternTree.TheVariants as p
use Rattle.dactl_meaning.specs.declared.tree.PatternTree.TheOpen.{PatternTree-F}
use Rattle.dactl_meaning.specs.declared.tree.PatternTree.TheFolds.{fold-roll-PatternTree}
use Rattle.dactl_meaning.specs.declared.tree.ArgTree.{ArgTree}
use Rattle.dactl_meaning.specs.declared.tree.NodeTree.TheVariants.{rolls-Sym as rolls-node}
use Rattle.dactl_meaning.specs.declared.tree.NodeTree.TheVariants as n
use Rattle.dactl_meaning.specs.declared.tree.NodeTree.TheOpen.{NodeTree-F}
use Rattle.dactl_meaning.specs.declared.tree.NodeTree.TheFolds.{fold-roll-NodeTree}
use Rattle.dactl_meaning.specs.Uses.{node_uses_level, arg_uses_level, term_uses_level, Use, is_any, pattern_uses_level, pattern_uses}
use Rattle.dactl_symbols.specs.UseFaults.{use_at, node_uses, arg_uses}

is_any-map : {X Y : Type 0} (f : X → Y) (xs : List X) → is_any (map f xs) ≡ is_any xs
is_any-map f [] = refl
is_any-map f (x ∷ xs) = refl

pub uses-Sym : (name : Name) (args : List PatternTree) → pattern_uses (p.Sym name args) ≡ use_at name (is_any args) ∷ flat_map pattern_uses args
uses-Sym name args =
    ap pattern_uses (sym (rolls-Sym name args)) ∙ fold-roll-PatternTree (List Use) pattern_uses_level (PatternTree-F.Sym name args)
    ∙ (λ j. use_at name (is_any-map pattern_uses args j) ∷ flat_map-map (λ u. u) pattern_uses args j)

pub uses-Binder : (name : Name) (inner : PatternTree) → pattern_uses (p.Binder name inner) ≡ pattern_uses inner
uses-Binder name inner = ap pattern_uses (sym (rolls-Binder name inner)) ∙ fold-roll-PatternTree (List Use) pattern_uses_level (PatternTree-F.Binder name inner)

pub uses-Chain : (first : PatternTree) (rest : List (Sign × PatternTree)) → pattern_uses (p.Chain first rest) ≡ pattern_uses first ++ flat_map (λ l. pattern_uses l.1) rest
uses-Chain first rest =
    ap pattern_uses (sym (rolls-Chain first rest)) ∙ fold-roll-PatternTree (List Use) pattern_uses_level (PatternTree-F.Chain first rest)
    ∙ ap (λ l. pattern_uses first ++ l) (flat_map-map (λ l. l.1) (λ (l : Sign × PatternTree). (l.0, pattern_uses l.1)) rest)

pub uses-node : (name : Name) (args : List ArgTree) → node_uses (n.Sym name args) ≡ use_at name false ∷ flat_map arg_uses args
uses-node name args =
    ap node_uses (sym (rolls-node name args)) ∙ fold-roll-NodeTree (List Use) (List Use) (List Use) node_uses_level arg_uses_level term_uses_level (NodeTree-F.Sym name args)
    ∙ ap (λ l. use_at name false ∷ l) (flat_map-map (λ u. u) arg_uses args)

-- there are arguments where they aren't empty
pub is_any-not : {X : Type 0} (b : Bool) (xs : List X) → (IsTrue b ↔ (xs ≡ [])) → not b ≡ is_any xs
is_any-not b [] h = ap not (h.1 refl)
is_any-not true (x ∷ xs) h = absurd (full (h.0 refl))
  where
    full : x ∷ xs ≡ [] → ⊥
    full e = cc
is_any-not false (x ∷ xs) h = refl
