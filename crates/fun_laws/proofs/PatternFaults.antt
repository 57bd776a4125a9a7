-- The patterns of a translation have no faults.
use Rattle.std.proofs.Common.{◌≡◌, ℕ, ◌+◌, ◌≤◌, Bool, true, false, not, ◌&&◌, List, [], ◌∷◌, map, length, Option, None, refl, sym, ◌∙◌, ap, subst, arith, nat_lt, length-append}
use Rattle.std.specs.List.{AllByRecursion, flat_map, list_all, sum}
use Rattle.std.proofs.lemmas.List.Sums.{sum_by-cons}
use Rattle.dactl_model.specs.declared.program.Pat.{Pat}
use Rattle.dactl_model.specs.declared.program.Pat.TheOpen.{Pat-F}
use Rattle.dactl_model.specs.declared.program.Pat.TheViews.{roll-Pat}
use Rattle.dactl_model.specs.declared.program.Pat.TheFolds.{fold-roll-Pat, map-Pat}
use Rattle.dactl_model.proofs.Unique.{left_true, right_true}
use Rattle.dactl_meaning.specs.declared.tree.Name.{Name}
use Rattle.dactl_meaning.specs.declared.tree.PatternTree.{PatternTree}
use Rattle.dactl_meaning.specs.declared.tree.PatternTree.TheOpen.{PatternTree-F}
use Rattle.dactl_meaning.specs.declared.tree.PatternTree.TheViews.{roll-PatternTree}
use Rattle.dactl_meaning.specs.declared.tree.PatternTree.TheFolds.{fold-roll-PatternTree, map-PatternTree}
use Rattle.dactl_meaning.specs.Sight.{Seen}
use Rattle.dactl_meaning.specs.Expansion.{Occurrence, occurrences_in, expansion_level, expansion_by, at_name, pattern_nodes_level, pattern_nodes}
use Rattle.dactl_meaning.specs.RuleFaults.{widths_level, widths}
use Rattle.fun_meaning.specs.declared.tree.Expr.{Expr}
use Rattle.fun_meaning.specs.declared.tree.Expr.TheOpen.{Expr-F}
use Rattle.fun_meaning.specs.declared.tree.Expr.TheViews.{roll-Expr}
use Rattle.fun_meaning.specs.declared.tree.Expr.TheFolds.{fold-roll-Expr, map-Expr}
use Rattle.fun_meaning.specs.Names.{Spelling}
use Rattle.fun_meaning.specs.Values.{all_names, names_level, variables_of, word}
use Rattle.fun_compile.specs.Translated.{pattern_level, pattern_tree}
use Rattle.fun_meaning.specs.Sound.{known_level, is_known, narrow_level, is_narrow, size_level, size_of}
use Rattle.fun_meaning.proofs.Inducing.{Each, expr_induction}
use Rattle.fun_laws.proofs.PatternsStand.{IsSeen, occurs_roll}
use Rattle.fun_laws.proofs.Lists.{not_false, length_of_map}
use Rattle.fun_meaning.proofs.Zips.{each_append}

tree_of : (y : Expr-F Expr) → pattern_tree (roll-Expr y) ≡ pattern_level (map-Expr Expr PatternTree pattern_tree y)
tree_of y = fold-roll-Expr PatternTree pattern_level y

-- ---- variables

-- a variable without `:` and in no choice
pub record IsBare (o : Occurrence) : Type 0 where
  pub given : o.given ≡ false
  pub choice : o.in_choice ≡ false

abbrev AreBare : Expr → Type 0
AreBare x = AllByRecursion IsBare (occurrences_in (pattern_tree x) false)

all_bare : (xs : List Expr) → Each AreBare xs → AllByRecursion IsBare (flat_map (λ (a : Bool → List Occurrence). a false) (map occurrences_in (map pattern_tree xs)))
all_bare [] each = tt
all_bare (x ∷ xs) each = each_append IsBare (occurrences_in (pattern_tree x) false) (flat_map (λ (a : Bool → List Occurrence). a false) (map occurrences_in (map pattern_tree xs))) each.0 (all_bare xs each.1)

are_bare : (x : Expr) → AreBare x
are_bare = expr_induction AreBare (record {
  variable = λ x. subst (λ t. AllByRecursion IsBare (occurrences_in t false)) (sym (tree_of (Expr-F.Variable x))) (subst (AllByRecursion IsBare) (sym (occurs_roll (PatternTree-F.Variable (word x.text)) false)) (record { given = refl; choice = refl }, tt));
  integer = λ i. subst (λ t. AllByRecursion IsBare (occurrences_in t false)) (sym (tree_of (Expr-F.Integer i))) (subst (AllByRecursion IsBare) (sym (occurs_roll (PatternTree-F.Integer i) false)) tt);
  made = λ g args each.
      subst (λ t. AllByRecursion IsBare (occurrences_in t false)) (sym (tree_of (Expr-F.Made g args)))
      (subst (AllByRecursion IsBare) (sym (occurs_roll (PatternTree-F.Sym (word g.text) (map pattern_tree args)) false)) (all_bare args each));
})

each_bare : (xs : List Expr) → Each AreBare xs
each_bare [] = tt
each_bare (x ∷ xs) = (are_bare x, each_bare xs)

pub rule_bare : (g : Spelling) (xs : List Expr) → AllByRecursion IsBare (occurrences_in (roll-PatternTree (PatternTree-F.Sym (word g) (map pattern_tree xs))) false)
rule_bare g xs = subst (AllByRecursion IsBare) (sym (occurs_roll (PatternTree-F.Sym (word g) (map pattern_tree xs)) false)) (all_bare xs (each_bare xs))

-- ---- widths

abbrev IsThin : Name × ℕ → Type 0
IsThin w = nat_lt 16 w.1 ≡ false

abbrev AreThin : Expr → Type 0
AreThin x = is_narrow x ≡ true → AllByRecursion IsThin (widths (pattern_tree x))

widths_roll : (y : PatternTree-F PatternTree) → widths (roll-PatternTree y) ≡ widths_level (map-PatternTree PatternTree (List (Name × ℕ)) widths y)
widths_roll y = fold-roll-PatternTree (List (Name × ℕ)) widths_level y

all_thin : (xs : List Expr) → Each AreThin xs → list_all (λ b. b) (map is_narrow xs) ≡ true → AllByRecursion IsThin (flat_map (λ (a : List (Name × ℕ)). a) (map widths (map pattern_tree xs)))
all_thin [] each narrow = tt
all_thin (x ∷ xs) each narrow = each_append IsThin (widths (pattern_tree x)) (flat_map (λ (a : List (Name × ℕ)). a) (map widths (map pattern_tree xs))) (each.0 (left_true _ _ narrow)) (all_thin xs each.1 (right_true _ _ narrow))

three_lengths : (xs : List Expr) → length (map widths (map pattern_tree xs)) ≡ length xs
three_lengths xs = length_of_map widths (map pattern_tree xs) ∙ length_of_map pattern_tree xs

sym_thin : (g : Spelling) (xs : List Expr) → Each AreThin xs → nat_lt 16 (length xs) ≡ false → list_all (λ b. b) (map is_narrow xs) ≡ true → AllByRecursion IsThin (widths (roll-PatternTree (PatternTree-F.Sym (word g) (map pattern_tree xs))))
sym_thin g xs each narrow narrows = subst (AllByRecursion IsThin) (sym (widths_roll (PatternTree-F.Sym (word g) (map pattern_tree xs)))) (ap (nat_lt 16) (three_lengths xs) ∙ narrow, all_thin xs each narrows)

are_thin : (x : Expr) → AreThin x
are_thin = expr_induction AreThin (record {
  variable = λ x narrow. subst (λ t. AllByRecursion IsThin (widths t)) (sym (tree_of (Expr-F.Variable x))) (subst (AllByRecursion IsThin) (sym (widths_roll (PatternTree-F.Variable (word x.text)))) tt);
  integer = λ i narrow. subst (λ t. AllByRecursion IsThin (widths t)) (sym (tree_of (Expr-F.Integer i))) (subst (AllByRecursion IsThin) (sym (widths_roll (PatternTree-F.Integer i))) tt);
  made = λ g args each narrow.
      let level : (not (nat_lt 16 (length (map is_narrow args))) && list_all (λ b. b) (map is_narrow args)) ≡ true = sym (fold-roll-Expr Bool narrow_level (Expr-F.Made g args)) ∙ narrow in
      let few : nat_lt 16 (length args) ≡ false = ap (nat_lt 16) (sym (length_of_map is_narrow args)) ∙ not_false (nat_lt 16 (length (map is_narrow args))) (left_true _ _ level) in
      subst (λ t. AllByRecursion IsThin (widths t)) (sym (tree_of (Expr-F.Made g args))) (sym_thin g.text args each few (right_true _ _ level));
})

each_thin : (xs : List Expr) → Each AreThin xs
each_thin [] = tt
each_thin (x ∷ xs) = (are_thin x, each_thin xs)

pub rule_thin : (g : Spelling) (xs : List Expr) → nat_lt 16 (length xs) ≡ false → list_all (λ b. b) (map is_narrow xs) ≡ true → AllByRecursion IsThin (widths (roll-PatternTree (PatternTree-F.Sym (word g) (map pattern_tree xs))))
rule_thin g xs narrow narrows = sym_thin g xs (each_thin xs) narrow narrows

-- ---- sizes

module _ (symbols : List Spelling) (look : List ℕ → Option Seen) (expansion : ℕ → ℕ → Pat) (knows : Spelling → Bool) (seen : (g : Spelling) → knows g ≡ true → IsSeen symbols look g) where
  abbrev expand : PatternTree → Pat
  expand = expansion_by look expansion None

  expand_roll : (y : PatternTree-F PatternTree) → expand (roll-PatternTree y) ≡ expansion_level look expansion None (map-PatternTree PatternTree Pat expand y)
  expand_roll y = fold-roll-PatternTree Pat (expansion_level look expansion None) y

  nodes_roll : (y : Pat-F Pat) → pattern_nodes (roll-Pat y) ≡ pattern_nodes_level (map-Pat Pat ℕ pattern_nodes y)
  nodes_roll y = fold-roll-Pat ℕ pattern_nodes_level y

  abbrev IsSized : Expr → Type 0
  IsSized x = is_known knows x ≡ true → pattern_nodes (expand (pattern_tree x)) ≡ size_of x

  all_sized : (xs : List Expr) → Each IsSized xs → list_all (λ b. b) (map (is_known knows) xs) ≡ true → map pattern_nodes (map expand (map pattern_tree xs)) ≡ map size_of xs
  all_sized [] each known = refl
  all_sized (x ∷ xs) each known = ap (λ n. n ∷ map pattern_nodes (map expand (map pattern_tree xs))) (each.0 (left_true _ _ known)) ∙ ap (λ ns. size_of x ∷ ns) (all_sized xs each.1 (right_true _ _ known))

  sym_sized : (g : Spelling) (xs : List Expr) → Each IsSized xs → knows g ≡ true → list_all (λ b. b) (map (is_known knows) xs) ≡ true → pattern_nodes (expand (roll-PatternTree (PatternTree-F.Sym (word g) (map pattern_tree xs)))) ≡ 1 + sum (map size_of xs)
  sym_sized g xs each known all_known =
      let s = seen g known in
      ap pattern_nodes (expand_roll (PatternTree-F.Sym (word g) (map pattern_tree xs)) ∙ ap (λ o. at_name expansion o (map expand (map pattern_tree xs))) s.seen)
      ∙ nodes_roll (Pat-F.Sym s.number (map expand (map pattern_tree xs))) ∙ ap (λ ns. 1 + sum ns) (all_sized xs each all_known)

  are_sized : (x : Expr) → IsSized x
  are_sized = expr_induction IsSized (record {
    variable = λ x known. ap (λ t. pattern_nodes (expand t)) (tree_of (Expr-F.Variable x)) ∙ ap pattern_nodes (expand_roll (PatternTree-F.Variable (word x.text))) ∙ nodes_roll Pat-F.Any ∙ sym (fold-roll-Expr ℕ size_level (Expr-F.Variable x));
    integer = λ i known. ap (λ t. pattern_nodes (expand t)) (tree_of (Expr-F.Integer i)) ∙ ap pattern_nodes (expand_roll (PatternTree-F.Integer i)) ∙ nodes_roll (Pat-F.Literal i) ∙ sym (fold-roll-Expr ℕ size_level (Expr-F.Integer i));
    made = λ g args each known.
        let level : (knows g.text && list_all (λ b. b) (map (is_known knows) args)) ≡ true = sym (fold-roll-Expr Bool (known_level knows) (Expr-F.Made g args)) ∙ known in
        ap (λ t. pattern_nodes (expand t)) (tree_of (Expr-F.Made g args)) ∙ sym_sized g.text args each (left_true _ _ level) (right_true _ _ level) ∙ sym (fold-roll-Expr ℕ size_level (Expr-F.Made g args));
  })

  each_sized : (xs : List Expr) → Each IsSized xs
  each_sized [] = tt
  each_sized (x ∷ xs) = (are_sized x, each_sized xs)

  pub rule_sized : (g : Spelling) (xs : List Expr) → knows g ≡ true → list_all (λ b. b) (map (is_known knows) xs) ≡ true → pattern_nodes (expand (roll-PatternTree (PatternTree-F.Sym (word g) (map pattern_tree xs)))) ≡ 1 + sum (map size_of xs)
  rule_sized g xs known all_known = sym_sized g xs (each_sized xs) known all_known

-- a pattern has no more variables than it has parts
abbrev IsMore : Expr → Type 0
IsMore x = length (variables_of x) ≤ size_of x

all_more : (xs : List Expr) → Each IsMore xs → length (all_names (map variables_of xs)) ≤ sum (map size_of xs)
all_more [] each = omega arith
all_more (x ∷ xs) each =
    let here : length (variables_of x) ≤ size_of x = each.0 in
    let rest : length (all_names (map variables_of xs)) ≤ sum (map size_of xs) = all_more xs each.1 in
    let long = length-append (variables_of x) (all_names (map variables_of xs)) in
    omega (arith, sum_by-cons (λ (n : ℕ). n) (size_of x) (map size_of xs))

are_more : (x : Expr) → IsMore x
are_more = expr_induction IsMore (record {
  variable = λ x. subst (λ n. length (variables_of (roll-Expr (Expr-F.Variable x))) ≤ n) (sym (fold-roll-Expr ℕ size_level (Expr-F.Variable x))) (subst (λ ns. length ns ≤ 1) (sym (fold-roll-Expr (List Spelling) names_level (Expr-F.Variable x))) (omega arith));
  integer = λ i. subst (λ n. length (variables_of (roll-Expr (Expr-F.Integer i))) ≤ n) (sym (fold-roll-Expr ℕ size_level (Expr-F.Integer i))) (subst (λ ns. length ns ≤ 1) (sym (fold-roll-Expr (List Spelling) names_level (Expr-F.Integer i))) (omega arith));
  made = λ g args each.
      let all : length (all_names (map variables_of args)) ≤ sum (map size_of args) = all_more args each in
      subst (λ n. length (variables_of (roll-Expr (Expr-F.Made g args))) ≤ n) (sym (fold-roll-Expr ℕ size_level (Expr-F.Made g args))) (subst (λ ns. length ns ≤ 1 + sum (map size_of args)) (sym (fold-roll-Expr (List Spelling) names_level (Expr-F.Made g args))) (omega arith));
})

each_more : (xs : List Expr) → Each IsMore xs
each_more [] = tt
each_more (x ∷ xs) = (are_more x, each_more xs)

pub rule_more : (xs : List Expr) → length (all_names (map variables_of xs)) ≤ sum (map size_of xs)
rule_more xs = all_more xs (each_more xs)
