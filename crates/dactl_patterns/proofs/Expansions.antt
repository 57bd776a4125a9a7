-- The expansion of a pattern and its nodes, by the layer at the pattern's top.
use Rattle.std.proofs.Common.{◌≡◌, ℕ, ◌+◌, ◌≤◌, List, [], ◌∷◌, map, length, Option, Some, None, refl, sym, ap, ◌∙◌, arith}
use Rattle.std.specs.Prelude.{sum_by}
use Rattle.std.proofs.lemmas.List.Sums.{sum_by-cons, sum-map}
use Rattle.dactl_model.specs.declared.program.Pat.{Pat}
use Rattle.dactl_model.specs.declared.program.Pat.TheOpen.{Pat-F}
use Rattle.dactl_model.specs.declared.program.Pat.TheViews.{roll-Pat}
use Rattle.dactl_model.specs.declared.program.Pat.TheFolds.{fold-roll-Pat}
use Rattle.dactl_meaning.specs.declared.tree.Name.{Name}
use Rattle.dactl_meaning.specs.declared.tree.Sign.{Sign}
use Rattle.dactl_meaning.specs.declared.tree.Sign.TheVariants as signs
use Rattle.dactl_meaning.specs.declared.tree.PatternTree.{PatternTree}
use Rattle.dactl_meaning.specs.declared.tree.PatternTree.TheOpen.{PatternTree-F}
use Rattle.dactl_meaning.specs.declared.tree.PatternTree.TheViews.{roll-PatternTree}
use Rattle.dactl_meaning.specs.declared.tree.PatternTree.TheFolds.{map-PatternTree, fold-roll-PatternTree}
use Rattle.dactl_meaning.specs.declared.tree.PatternTree.TheVariants as p
use Rattle.dactl_meaning.specs.Sight.{Seen, SeenSymbol, SeenPattern}
use Rattle.dactl_meaning.specs.Expansion.{at_name, at_variable, join, chain, expansion_level, expansion_by, pattern_nodes, pattern_nodes_level}
use Rattle.dactl_patterns.proofs.Trees.{fold_symbol, fold_binder, fold_chain}
use Rattle.dactl_meaning.proofs.Induction.{Each, EachLink, pattern_induction}

-- ---- expansions

module _ (look : List ℕ → Option Seen) (named : ℕ → ℕ → Pat) (variables : Option (List (List ℕ))) where
  abbrev expand : PatternTree → Pat
  expand = expansion_by look named variables

  pub expands_symbol : (name : Name) (args : List PatternTree) → expand (p.Sym name args) ≡ at_name named (look name.text) (map expand args)
  expands_symbol name args = fold_symbol (expansion_level look named variables) name args

  pub expands_binder : (name : Name) (inner : PatternTree) → expand (p.Binder name inner) ≡ at_variable variables name.text (expand inner)
  expands_binder name inner = fold_binder (expansion_level look named variables) name inner

  pub expands_chain : (first : PatternTree) (rest : List (Sign × PatternTree)) → expand (p.Chain first rest) ≡ chain (expand first) (map (λ l. (l.0, expand l.1)) rest)
  expands_chain first rest = fold_chain (expansion_level look named variables) first rest

-- ---- nodes

pub nodes_joined : (sign : Sign) (a b : Pat) → pattern_nodes (join sign a b) ≡ 1 + (pattern_nodes a + pattern_nodes b)
nodes_joined signs.Plus a b = fold-roll-Pat ℕ pattern_nodes_level (Pat-F.Union a b)
nodes_joined signs.Minus a b = fold-roll-Pat ℕ pattern_nodes_level (Pat-F.Less a b)

pub nodes_chained : (a : Pat) (rest : List (Sign × Pat)) → pattern_nodes (chain a rest) ≡ length rest + (pattern_nodes a + sum_by (λ l. pattern_nodes l.1) rest)
nodes_chained a [] = omega arith
nodes_chained a (l ∷ rest) =
    let f : Sign × Pat → ℕ = λ l. pattern_nodes l.1 in
    omega (arith, nodes_chained (join l.0 a l.1) rest, nodes_joined l.0 a l.1, sum_by-cons f l rest)

pub nodes_symbol : (f : ℕ) (ps : List Pat) → pattern_nodes (roll-Pat (Pat-F.Sym f ps)) ≡ 1 + sum_by pattern_nodes ps
nodes_symbol f ps = fold-roll-Pat ℕ pattern_nodes_level (Pat-F.Sym f ps) ∙ ap (λ n. 1 + n) (sum-map pattern_nodes ps)

pub nodes_bound : (variables : Option (List (List ℕ))) (x : List ℕ) (a : Pat) → pattern_nodes (at_variable variables x a) ≡ pattern_nodes a
nodes_bound None x a = refl
nodes_bound (Some variables) x a = fold-roll-Pat ℕ pattern_nodes_level (Pat-F.Bind _ a)

-- a chain has the nodes of its first two patterns at least, and one for their sign
pub chain_over : (a : Pat) (l : Sign × Pat) (rest : List (Sign × Pat)) → 1 + (pattern_nodes a + pattern_nodes l.1) ≤ pattern_nodes (chain a (l ∷ rest))
chain_over a l rest = let f : Sign × Pat → ℕ = λ l. pattern_nodes l.1 in omega (arith, nodes_chained a (l ∷ rest), sum_by-cons f l rest)

pub chain_first : (a : Pat) (rest : List (Sign × Pat)) → pattern_nodes a ≤ pattern_nodes (chain a rest)
chain_first a rest = omega (arith, nodes_chained a rest)

-- ---- variables count for nothing

module _ (look : List ℕ → Option Seen) (named : ℕ → ℕ → Pat) (variables : List (List ℕ)) where
  abbrev with_them : PatternTree → Pat
  with_them = expansion_by look named (Some variables)

  abbrev without : PatternTree → Pat
  without = expansion_by look named None

  abbrev SameNodes : PatternTree → Type 0
  SameNodes t = pattern_nodes (with_them t) ≡ pattern_nodes (without t)

  same_sum : (ts : List PatternTree) → Each SameNodes ts → sum_by pattern_nodes (map with_them ts) ≡ sum_by pattern_nodes (map without ts)
  same_sum [] all = refl
  same_sum (t ∷ ts) all = omega (arith, sum_by-cons pattern_nodes (with_them t) (map with_them ts), sum_by-cons pattern_nodes (without t) (map without ts), all.0, same_sum ts all.1)

  same_named : (o : Option Seen) (ts : List PatternTree) → Each SameNodes ts → pattern_nodes (at_name named o (map with_them ts)) ≡ pattern_nodes (at_name named o (map without ts))
  same_named None ts all = refl
  same_named (Some (SeenSymbol f class)) ts all = omega (arith, nodes_symbol f (map with_them ts), nodes_symbol f (map without ts), same_sum ts all)
  same_named (Some (SeenPattern m i)) ts all = refl

  same_links : (a b : Pat) (rest : List (Sign × PatternTree)) → pattern_nodes a ≡ pattern_nodes b → EachLink SameNodes rest
      → pattern_nodes (chain a (map (λ l. (l.0, with_them l.1)) rest)) ≡ pattern_nodes (chain b (map (λ l. (l.0, without l.1)) rest))
  same_links a b [] same all = same
  same_links a b (l ∷ rest) same all =
      same_links (join l.0 a (with_them l.1)) (join l.0 b (without l.1)) rest (omega (arith, nodes_joined l.0 a (with_them l.1), nodes_joined l.0 b (without l.1), same, all.0)) all.1

  by_level : (y : PatternTree-F PatternTree) → pattern_nodes (expansion_level look named (Some variables) (map-PatternTree PatternTree Pat with_them y)) ≡ pattern_nodes (expansion_level look named None (map-PatternTree PatternTree Pat without y)) → SameNodes (roll-PatternTree y)
  by_level y same =
      ap pattern_nodes (fold-roll-PatternTree Pat (expansion_level look named (Some variables)) y) ∙ same ∙ sym (ap pattern_nodes (fold-roll-PatternTree Pat (expansion_level look named None) y))

  pub same_nodes : (t : PatternTree) → SameNodes t
  same_nodes = pattern_induction SameNodes (record {
    any = by_level PatternTree-F.Any refl;
    int = by_level PatternTree-F.Int refl;
    char = by_level PatternTree-F.Char refl;
    integer = λ value. by_level (PatternTree-F.Integer value) refl;
    letter = λ value. by_level (PatternTree-F.Letter value) refl;
    symbol = λ name args all. by_level (PatternTree-F.Sym name args) (same_named (look name.text) args all);
    variable = λ name. by_level (PatternTree-F.Variable name) (nodes_bound (Some variables) name.text (roll-Pat Pat-F.Any));
    binder = λ name inner same. by_level (PatternTree-F.Binder name inner) (nodes_bound (Some variables) name.text (with_them inner) ∙ same);
    chain = λ first rest same all. by_level (PatternTree-F.Chain first rest) (same_links (with_them first) (without first) rest same all);
  })
