-- Expansions as they are made, step by step.
use Rattle.std.proofs.Common.{◌≡◌, ℕ, ◌+◌, ◌-◌, ◌<◌, ◌≤◌, List, [], ◌∷◌, ◌++◌, map, length, take, drop, get_or, Option, Some, sym, ap, ◌∙◌, subst, arith}
use Rattle.std.specs.Prelude.{sum, sum_by}
use Rattle.std.proofs.lemmas.List.{take_all, drop_more}
use Rattle.std.proofs.lemmas.List.Sums.{sum_by_more, sum_by_more_le, sum-map}
use Rattle.std.proofs.lemmas.Simd.{map-map}
use Rattle.dactl_model.specs.declared.program.Pat.{Pat}
use Rattle.dactl_model.specs.declared.program.Pat.TheVariants.{Sym, rolls-Sym}
use Rattle.dactl_model.specs.declared.program.Pat.TheOpen.{Pat-F}
use Rattle.dactl_model.specs.declared.program.Pat.TheViews.{roll-Pat}
use Rattle.dactl_model.specs.declared.program.Pat.TheFolds.{fold-roll-Pat}
use Rattle.dactl_meaning.specs.declared.tree.Sign.{Sign}
use Rattle.dactl_meaning.specs.declared.tree.PatternTree.{PatternTree}
use Rattle.dactl_meaning.specs.Expansion.{at_variable, join, chain, pattern_nodes, pattern_nodes_level}
use Rattle.dactl_symbols.proofs.Walks.{mapped-more}
use Rattle.dactl_patterns.specs.declared.expanding.Small.{Small}
use Rattle.dactl_patterns.specs.Table.{IsWithin}
use Rattle.dactl_patterns.proofs.Expansions.{nodes_bound, chain_over}

pub within_as : (most : ℕ) (a b : Pat) (r : Option Small) → b ≡ a → IsWithin most a r → IsWithin most b r
within_as most a b r is within = subst (λ (p : Pat). IsWithin most p r) (sym is) within

pub within_bound : (most : ℕ) (variables : Option (List (List ℕ))) (x : List ℕ) (a : Pat) (inner s : Small) → IsWithin most a (Some inner) → s.pat ≡ at_variable variables x inner.pat → s.nodes ≡ inner.nodes
    → IsWithin most (at_variable variables x a) (Some s)
within_bound most variables x a inner s within pat nodes = (pat ∙ ap (at_variable variables x) within.0, nodes ∙ within.1 ∙ sym (nodes_bound variables x a))

-- ---- arguments

-- these are the expansions of the trees, with as many nodes and one for their symbol
pub record AreSmall (of : PatternTree → Pat) (trees : List PatternTree) (made : List Pat) (count : ℕ) : Type 0 where
  pub pats : made ≡ map of trees
  pub nodes : count ≡ 1 + sum_by (λ t. pattern_nodes (of t)) trees

module _ (of : PatternTree → Pat) where
  abbrev nodes_of : PatternTree → ℕ
  nodes_of t = pattern_nodes (of t)

  nodes_whole : (symbol : ℕ) (args : List PatternTree) → pattern_nodes (roll-Pat (Pat-F.Sym symbol (map of args))) ≡ 1 + sum_by nodes_of args
  nodes_whole symbol args = fold-roll-Pat ℕ pattern_nodes_level (Pat-F.Sym symbol (map of args)) ∙ ap (λ n. 1 + n) (ap sum (map-map pattern_nodes of args) ∙ sum-map nodes_of args)

  -- one argument more
  pub symbol_more : (args : List PatternTree) (i : ℕ) (x : PatternTree) (pats next : List Pat) (nodes : ℕ) (s : Small) → i < length args → x ≡ get_or args i x
      → AreSmall of (take i args) pats nodes → IsWithin 0 (of x) (Some s) → next ≡ pats ++ s.pat ∷ [] → AreSmall of (take (i + 1) args) next (nodes + s.nodes)
  symbol_more args i x pats next nodes s below is so_far one pushed =
      let same : nodes_of x ≡ nodes_of (get_or args i x) = ap nodes_of is in
      record {
        pats = pushed ∙ (λ j. so_far.pats j ++ one.0 j ∷ []) ∙ sym (mapped-more of args i x below is);
        nodes = omega (arith, sum_by_more nodes_of args i x below, same, so_far.nodes, one.1);
      }

  -- one argument too many
  pub symbol_over : (symbol : ℕ) (args : List PatternTree) (i : ℕ) (x : PatternTree) (pats : List Pat) (most nodes : ℕ) → i < length args → x ≡ get_or args i x → AreSmall of (take i args) pats nodes → nodes ≤ most
      → most - nodes < nodes_of x → most < pattern_nodes (roll-Pat (Pat-F.Sym symbol (map of args)))
  symbol_over symbol args i x pats most nodes below is so_far fits over =
      let same : nodes_of x ≡ nodes_of (get_or args i x) = ap nodes_of is in
      omega (arith, nodes_whole symbol args, sum_by_more_le nodes_of args i x below, same, so_far.nodes)

  pub symbol_whole : (symbol : ℕ) (args : List PatternTree) (i : ℕ) (pats : List Pat) (nodes : ℕ) → length args ≤ i → AreSmall of (take i args) pats nodes
      → (Sym symbol pats ≡ roll-Pat (Pat-F.Sym symbol (map of args))) × (nodes ≡ pattern_nodes (roll-Pat (Pat-F.Sym symbol (map of args))))
  symbol_whole symbol args i pats nodes past so_far =
      let all = take_all i args past in (
        sym (rolls-Sym symbol pats) ∙ ap (λ (ps : List Pat). roll-Pat (Pat-F.Sym symbol ps)) (so_far.pats ∙ ap (map of) all),
        so_far.nodes ∙ ap (λ (l : List PatternTree). 1 + sum_by nodes_of l) all ∙ sym (nodes_whole symbol args),
      )

-- ---- links

drop_at : {A : Type 0} (xs : List A) (i : ℕ) (x : A) → i < length xs → x ≡ get_or xs i x → drop i xs ≡ x ∷ drop (i + 1) xs
drop_at xs i x below is = drop_more xs i x below ∙ ap (λ y. y ∷ drop (i + 1) xs) (sym is)

module _ (of : Sign × PatternTree → Sign × Pat) (rest : List (Sign × PatternTree)) (i : ℕ) (x : Sign × PatternTree) (folded whole : Pat) (below : i < length rest) (is : x ≡ get_or rest i x)
    (so_far : chain folded (map of (drop i rest)) ≡ whole) where
  opened : chain folded (of x ∷ map of (drop (i + 1) rest)) ≡ whole
  opened = ap (λ l. chain folded (map of l)) (sym (drop_at rest i x below is)) ∙ so_far

  -- one link more
  pub link_more : (next : Pat) → next ≡ join (of x).0 folded (of x).1 → chain next (map of (drop (i + 1) rest)) ≡ whole
  link_more next joins = ap (λ p. chain p (map of (drop (i + 1) rest))) joins ∙ opened

  -- one link too many
  pub link_over : (most : ℕ) → most < 1 + (pattern_nodes folded + pattern_nodes (of x).1) → most < pattern_nodes whole
  link_over most over = omega (arith, chain_over folded (of x) (map of (drop (i + 1) rest)), ap pattern_nodes opened)
