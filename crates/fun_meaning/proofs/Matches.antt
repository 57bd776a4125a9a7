-- A pattern holds at a node that unfolds to a value exactly where it matches the value, and binds nodes that reads to what it binds there.
use Rattle.std.proofs.Common.{◌≡◌, ℕ, zero, suc, ◌+◌, Bool, true, false, List, [], ◌∷◌, ◌++◌, map, length, Option, Some, None, slice_get, refl, sym, ◌∙◌, ap, subst, arith, ℤ, ◌==◌, ◌&&◌, if◌then◌else◌, length-append}
use Rattle.std.specs.List.{AllZip, AllByRecursion}
use Rattle.std.specs.Ordering.{int_eq}
use Rattle.std.proofs.lemmas.Bool.{eqb-true, eq-eqb}
use Rattle.dactl_model.specs.declared.graph.NodeId.{NodeId}
use Rattle.dactl_model.specs.declared.graph.Label.{Label}
use Rattle.dactl_model.specs.declared.graph.Label.TheVariants.{Symbol, Integer, Character}
use Rattle.dactl_model.specs.declared.graph.Arc.{Arc}
use Rattle.dactl_model.specs.declared.graph.Node.{Node}
use Rattle.dactl_model.specs.declared.graph.Graph.{Graph}
use Rattle.dactl_model.specs.declared.program.Pat.{Pat}
use Rattle.dactl_model.specs.declared.program.Pat.TheOpen.{Pat-F}
use Rattle.dactl_model.specs.declared.program.Pat.TheViews.{roll-Pat}
use Rattle.dactl_model.specs.Graphs.{node_at, HasNode}
use Rattle.std.proofs.lemmas.Option.{none-some, slice_get_within}
use Rattle.dactl_model.specs.Patterns.{sat, is_bound, all_hold, symbol_holds, label_holds, has_symbol, has_integer}
use Rattle.dactl_model.specs.Versions.{content_of}
use Rattle.dactl_model.proofs.Unique.{left_true, right_true, sat_roll, bound_is}
use Rattle.fun_meaning.specs.declared.tree.Expr.{Expr}
use Rattle.fun_meaning.specs.declared.tree.Expr.TheOpen.{Expr-F}
use Rattle.fun_meaning.specs.declared.tree.Expr.TheViews.{out-Expr, out-roll-Expr}
use Rattle.fun_meaning.specs.declared.tree.Expr.TheFolds.{fold_out-Expr, map-Expr}
use Rattle.fun_meaning.specs.declared.tree.Fun.{Fun}
use Rattle.fun_meaning.specs.Names.{Spelling, same_name, place_of}
use Rattle.fun_meaning.specs.Values.{word, made, all_names, names_level, variables_of, both, all_matched, integer_matched, made_matched, matched_level, matched}
use Rattle.fun_meaning.specs.Meaning.{UnfoldsNamed, UnfoldsLabel, UnfoldsContent, UnfoldsAt, Unfolds}
use Rattle.fun_meaning.specs.Translation.{PatternLevel, IsPatternAt}
use Rattle.fun_meaning.proofs.Zips.{each_append}

pub same_name_refl : (g : Spelling) → same_name g g ≡ true
same_name_refl [] = refl
same_name_refl (a ∷ rest) = rw (eq-eqb a a refl) (same_name_refl rest)

pub same_name_is : (g h : Spelling) → same_name g h ≡ true → g ≡ h
same_name_is [] [] e = refl
same_name_is [] (b ∷ bs) e = cc
same_name_is (a ∷ rest) [] e = cc
same_name_is (a ∷ rest) (b ∷ bs) e =
    let first : a ≡ b = eqb-true a b (left_true _ _ e) in
    let others : rest ≡ bs = same_name_is rest bs (right_true _ _ e) in
    ap (λ x. x ∷ rest) first ∙ ap (λ xs. b ∷ xs) others

pub both_true : (a b : Bool) → a ≡ true → b ≡ true → (a && b) ≡ true
both_true true b one two = two
both_true false b one two = one

zip_append : {A B : Type 0} (R : A → B → Type 0) (xs xs' : List A) (ys ys' : List B) → AllZip R xs ys → AllZip R xs' ys' → AllZip R (xs ++ xs') (ys ++ ys')
zip_append R [] xs' [] ys' one two = two
zip_append R [] xs' (y ∷ ys) ys' one two = absurd one
zip_append R (x ∷ xs) xs' [] ys' one two = absurd one
zip_append R (x ∷ xs) xs' (y ∷ ys) ys' one two = (one.0, zip_append R xs xs' ys ys' one.1 two)

zip_split : {A B : Type 0} (R : A → B → Type 0) (xs xs' : List A) (ys ys' : List B) → length xs ≡ length ys → AllZip R (xs ++ xs') (ys ++ ys') → AllZip R xs ys × AllZip R xs' ys'
zip_split R [] xs' [] ys' long all = (tt, all)
zip_split R [] xs' (y ∷ ys) ys' long all = absurd (omega arith)
zip_split R (x ∷ xs) xs' [] ys' long all = absurd (omega arith)
zip_split R (x ∷ xs) xs' (y ∷ ys) ys' long all =
    let rest = zip_split R xs xs' ys ys' (omega arith) all.1 in
    ((all.0, rest.0), rest.1)

pub matched_out : (x w : Expr) → matched x w ≡ matched_level (map-Expr Expr (Expr → Option (List Expr)) matched (out-Expr x)) w
matched_out x w = ap (λ t. t w) (fold_out-Expr (Expr → Option (List Expr)) matched_level x)

pub variables_out : (x : Expr) → variables_of x ≡ names_level (map-Expr Expr (List Spelling) variables_of (out-Expr x))
variables_out x = fold_out-Expr (List Spelling) names_level x

module _ (e : Fun) (symbols : List Spelling) (g : Graph) (names : List Spelling) where
  -- the variable's node, by the match, unfolds to its value
  abbrev pub Links : List NodeId → Spelling → Expr → Type 0
  Links h x u = (y : NodeId) × (slice_get h (place_of names x) ≡ Some y) × Unfolds e symbols g y u

  -- what the pattern binds at the value
  pub record Fits (h : List NodeId) (bound : Option (List Expr)) (xs : List Spelling) : Type 0 where
    pub values : List Expr
    pub is : bound ≡ Some values
    pub links : AllZip (Links h) xs values

  abbrev pub AreFit : ℕ → List NodeId → Type 0
  AreFit d h = (x : Expr) (p : Pat) (n : NodeId) (k : ℕ) (w : Expr) → IsPatternAt d symbols names x p → UnfoldsAt k e symbols g n w → sat g h p n ≡ true → Fits h (matched x w) (variables_of x)

  pub all_fit : (d : ℕ) (h : List NodeId) → AreFit d h → (xs : List Expr) (ps : List Pat) (arcs : List Arc) (k : ℕ) (ws : List Expr) → AllZip (IsPatternAt d symbols names) xs ps → AllZip (UnfoldsAt k e symbols g) (map (λ a. a.target) arcs) ws
      → all_hold (map (sat g h) ps) arcs ≡ true → Fits h (all_matched (map matched xs) ws) (all_names (map variables_of xs))
  all_fit d h ih [] [] [] k [] are reads hold = record { values = []; is = refl; links = tt }
  all_fit d h ih [] [] [] k (w ∷ ws) are reads hold = absurd reads
  all_fit d h ih [] [] (a ∷ arcs) k ws are reads hold = cc
  all_fit d h ih [] (p ∷ ps) arcs k ws are reads hold = absurd are
  all_fit d h ih (x ∷ xs) [] arcs k ws are reads hold = absurd are
  all_fit d h ih (x ∷ xs) (p ∷ ps) [] k ws are reads hold = cc
  all_fit d h ih (x ∷ xs) (p ∷ ps) (a ∷ arcs) k [] are reads hold = absurd reads
  all_fit d h ih (x ∷ xs) (p ∷ ps) (a ∷ arcs) k (w ∷ ws) are reads hold =
      let here : sat g h p a.target ≡ true = left_true _ _ hold in
      let there : all_hold (map (sat g h) ps) arcs ≡ true = right_true _ _ hold in
      let one : Fits h (matched x w) (variables_of x) = ih x p a.target k w are.0 reads.0 here in
      let two : Fits h (all_matched (map matched xs) ws) (all_names (map variables_of xs)) = all_fit d h ih xs ps arcs k ws are.1 reads.1 there in
      record {
        values = one.values ++ two.values;
        is = ap (λ o. both o (all_matched (map matched xs) ws)) one.is ∙ ap (λ o. both (Some one.values) o) two.is;
        links = zip_append (Links h) (variables_of x) (all_names (map variables_of xs)) one.values two.values one.links two.links;
      }

  variable_fits : (h : List NodeId) (x : Spelling) (n : NodeId) (k : ℕ) (w : Expr) → UnfoldsAt k e symbols g n w → sat g h (roll-Pat (Pat-F.Bind (place_of names x) (roll-Pat Pat-F.Any))) n ≡ true → Fits h (Some (w ∷ [])) (x ∷ [])
  variable_fits h x n k w unfolds holds =
      let at = bound_is (slice_get h (place_of names x)) n (left_true _ _ (sym (sat_roll g h (Pat-F.Bind (place_of names x) (roll-Pat Pat-F.Any)) n) ∙ holds)) in
      record { values = w ∷ []; is = refl; links = ((n, at, (k, unfolds)), tt) }

  integer_label_fits : (h : List NodeId) (i : ℤ) (k : ℕ) (w : Expr) (label : Label) (targets : List NodeId) → UnfoldsLabel e symbols (UnfoldsAt k e symbols g) label targets w → has_integer label i ≡ true
      → Fits h (integer_matched i (out-Expr w)) []
  integer_label_fits h i k w (Symbol f) targets unfolds holds = cc
  integer_label_fits h i k w (Character c) targets unfolds holds = cc
  integer_label_fits h i k w (Integer j) targets unfolds holds =
      let shape : out-Expr w ≡ Expr-F.Integer j = ap out-Expr unfolds ∙ out-roll-Expr (Expr-F.Integer j) in
      record { values = []; is = ap (integer_matched i) shape ∙ ap (λ b. if b then Some [] else None) holds; links = tt }

  integer_fits : (h : List NodeId) (i : ℤ) (k : ℕ) (w : Expr) (o : Option Node) → UnfoldsContent e symbols (UnfoldsAt k e symbols g) (content_of o) w → label_holds o (λ l. has_integer l i) ≡ true → Fits h (integer_matched i (out-Expr w)) []
  integer_fits h i k w None unfolds holds = cc
  integer_fits h i k w (Some node) unfolds holds = integer_label_fits h i k w node.label (map (λ a. a.target) node.arcs) unfolds holds

  made_matched_is : (name : Spelling) (tests : List (Expr → Option (List Expr))) (w : Expr) (vs : List Expr) → w ≡ made name vs → made_matched name tests (out-Expr w) ≡ all_matched tests vs
  made_matched_is name tests w vs is =
      let shape : out-Expr w ≡ Expr-F.Made (word name) vs = ap out-Expr is ∙ out-roll-Expr (Expr-F.Made (word name) vs) in
      ap (made_matched name tests) shape ∙ ap (λ b. if b then all_matched tests vs else None) (same_name_refl name)

  made_label_fits : (d : ℕ) (h : List NodeId) → AreFit d h → (name : Spelling) (args : List Expr) (f : ℕ) (ps : List Pat) (k : ℕ) (w : Expr) (label : Label) (arcs : List Arc) → slice_get symbols f ≡ Some name → AllZip (IsPatternAt d symbols names) args ps
      → UnfoldsLabel e symbols (UnfoldsAt k e symbols g) label (map (λ a. a.target) arcs) w → has_symbol label f ≡ true → all_hold (map (sat g h) ps) arcs ≡ true → Fits h (made_matched name (map matched args) (out-Expr w)) (all_names (map variables_of args))
  made_label_fits d h ih name args f ps k w (Integer i) arcs named are unfolds label holds = cc
  made_label_fits d h ih name args f ps k w (Character c) arcs named are unfolds label holds = cc
  made_label_fits d h ih name args f ps k w (Symbol s) arcs named are unfolds label holds =
      let same : s ≡ f = eqb-true s f label in
      let at : slice_get symbols s ≡ Some name = ap (slice_get symbols) same ∙ named in
      let is = subst (λ o. UnfoldsNamed e (UnfoldsAt k e symbols g) (map (λ a. a.target) arcs) w o) at unfolds in
      subst (λ o. Fits h o (all_names (map variables_of args))) (sym (made_matched_is name (map matched args) w is.1.0 is.1.2)) (all_fit d h ih args ps arcs k is.1.0 are is.1.1 holds)

  made_fits : (d : ℕ) (h : List NodeId) → AreFit d h → (name : Spelling) (args : List Expr) (f : ℕ) (ps : List Pat) (k : ℕ) (w : Expr) (o : Option Node) → slice_get symbols f ≡ Some name → AllZip (IsPatternAt d symbols names) args ps
      → UnfoldsContent e symbols (UnfoldsAt k e symbols g) (content_of o) w → symbol_holds o f (map (sat g h) ps) ≡ true → Fits h (made_matched name (map matched args) (out-Expr w)) (all_names (map variables_of args))
  made_fits d h ih name args f ps k w None named are unfolds holds = cc
  made_fits d h ih name args f ps k w (Some node) named are unfolds holds =
      let label : has_symbol node.label f ≡ true = left_true _ _ holds in
      let all : all_hold (map (sat g h) ps) node.arcs ≡ true = right_true _ _ holds in
      made_label_fits d h ih name args f ps k w node.label node.arcs named are unfolds label all

  fits_level : (d : ℕ) (h : List NodeId) → AreFit d h → (y : Expr-F Expr) (p : Pat) (n : NodeId) (k : ℕ) (w : Expr) → PatternLevel symbols names (IsPatternAt d symbols names) y p → UnfoldsAt k e symbols g n w → sat g h p n ≡ true
      → Fits h (matched_level (map-Expr Expr (Expr → Option (List Expr)) matched y) w) (names_level (map-Expr Expr (List Spelling) variables_of y))
  fits_level d h ih y p n zero w is unfolds holds = absurd unfolds
  fits_level d h ih (Expr-F.Variable x) p n (suc k) w is unfolds holds = variable_fits h x.text n (suc k) w unfolds (subst (λ q. sat g h q n ≡ true) is holds)
  fits_level d h ih (Expr-F.Integer i) p n (suc k) w is unfolds holds =
      integer_fits h i k w (node_at g n) unfolds (sym (sat_roll g h (Pat-F.Literal i) n) ∙ subst (λ q. sat g h q n ≡ true) is holds)
  fits_level d h ih (Expr-F.Made name args) p n (suc k) w is unfolds holds =
      made_fits d h ih name.text args is.0 is.1 k w (node_at g n) is.2 is.3 unfolds (sym (sat_roll g h (Pat-F.Sym is.0 is.1) n) ∙ subst (λ q. sat g h q n ≡ true) is.4 holds)

  -- where the pattern holds, it matches the value
  pub fits : (d : ℕ) (h : List NodeId) → AreFit d h
  fits zero h x p n k w is unfolds holds = absurd is
  fits (suc d) h x p n k w is unfolds holds =
      subst (λ o. Fits h o (variables_of x)) (sym (matched_out x w)) (subst (λ xs. Fits h (matched_level (map-Expr Expr (Expr → Option (List Expr)) matched (out-Expr x)) w) xs) (sym (variables_out x))
      (fits_level d h (fits d h) (out-Expr x) p n k w is unfolds holds))

  -- the node is bound to the variable
  abbrev pub Bound : List NodeId → Spelling → NodeId → Type 0
  Bound h x y = slice_get h (place_of names x) ≡ Some y

  -- there are nodes for the variables with which the test passes
  pub record Places (xs : List Spelling) (test : List NodeId → Bool) : Type 0 where
    pub nodes : List NodeId
    pub long : length xs ≡ length nodes
    pub have : AllByRecursion (HasNode g) nodes
    pub passes : (h : List NodeId) → AllZip (Bound h) xs nodes → test h ≡ true

  abbrev pub HavePlaces : ℕ → Type 0
  HavePlaces d = (x : Expr) (p : Pat) (n : NodeId) (k : ℕ) (w : Expr) (us : List Expr) → IsPatternAt d symbols names x p → UnfoldsAt k e symbols g n w → matched x w ≡ Some us → Places (variables_of x) (λ h. sat g h p n)

  split_both : (o other : Option (List Expr)) (us : List Expr) → both o other ≡ Some us → ((vs : List Expr) × (o ≡ Some vs)) × ((ws : List Expr) × (other ≡ Some ws))
  split_both None other us is = absurd (cc is)
  split_both (Some vs) None us is = absurd (cc is)
  split_both (Some vs) (Some ws) us is = ((vs, refl), (ws, refl))

  pub all_places : (d : ℕ) → HavePlaces d → (xs : List Expr) (ps : List Pat) (arcs : List Arc) (k : ℕ) (ws us : List Expr) → AllZip (IsPatternAt d symbols names) xs ps → AllZip (UnfoldsAt k e symbols g) (map (λ a. a.target) arcs) ws
      → all_matched (map matched xs) ws ≡ Some us → Places (all_names (map variables_of xs)) (λ h. all_hold (map (sat g h) ps) arcs)
  all_places d ih [] [] [] k ws us are reads found = record { nodes = []; long = refl; have = tt; passes = λ h bound. refl }
  all_places d ih [] [] (a ∷ arcs) k [] us are reads found = absurd reads
  all_places d ih [] [] (a ∷ arcs) k (w ∷ ws) us are reads found = absurd (cc found)
  all_places d ih [] (p ∷ ps) arcs k ws us are reads found = absurd are
  all_places d ih (x ∷ xs) [] arcs k ws us are reads found = absurd are
  all_places d ih (x ∷ xs) (p ∷ ps) [] k [] us are reads found = absurd (cc found)
  all_places d ih (x ∷ xs) (p ∷ ps) [] k (w ∷ ws) us are reads found = absurd reads
  all_places d ih (x ∷ xs) (p ∷ ps) (a ∷ arcs) k [] us are reads found = absurd reads
  all_places d ih (x ∷ xs) (p ∷ ps) (a ∷ arcs) k (w ∷ ws) us are reads found =
      let parts = split_both (matched x w) (all_matched (map matched xs) ws) us found in
      let one : Places (variables_of x) (λ h. sat g h p a.target) = ih x p a.target k w parts.0.0 are.0 reads.0 parts.0.1 in
      let two : Places (all_names (map variables_of xs)) (λ h. all_hold (map (sat g h) ps) arcs) = all_places d ih xs ps arcs k ws parts.1.0 are.1 reads.1 parts.1.1 in
      record {
        nodes = one.nodes ++ two.nodes;
        long = length-append (variables_of x) (all_names (map variables_of xs)) ∙ ap (λ c. c + length (all_names (map variables_of xs))) one.long ∙ ap (λ c. length one.nodes + c) two.long ∙ sym (length-append one.nodes two.nodes);
        have = each_append (HasNode g) one.nodes two.nodes one.have two.have;
        passes = λ h bound.
            let halves = zip_split (Bound h) (variables_of x) (all_names (map variables_of xs)) one.nodes two.nodes one.long bound in
            both_true (sat g h p a.target) (all_hold (map (sat g h) ps) arcs) (one.passes h halves.0) (two.passes h halves.1);
      }

  there_from : (k : ℕ) (n : NodeId) (w : Expr) (o : Option Node) → node_at g n ≡ o → UnfoldsContent e symbols (UnfoldsAt k e symbols g) (content_of o) w → HasNode g n
  there_from k n w None at unfolds = absurd unfolds
  there_from k n w (Some node) at unfolds = slice_get_within g.nodes n.number node at

  variable_places : (x : Spelling) (n : NodeId) → HasNode g n → Places (x ∷ []) (λ h. sat g h (roll-Pat (Pat-F.Bind (place_of names x) (roll-Pat Pat-F.Any))) n)
  variable_places x n has = record {
    nodes = n ∷ [];
    long = refl;
    have = (has, tt);
    passes = λ h bound.
        sat_roll g h (Pat-F.Bind (place_of names x) (roll-Pat Pat-F.Any)) n
        ∙ both_true (is_bound (slice_get h (place_of names x)) n) (sat g h (roll-Pat Pat-F.Any) n) (ap (λ o. is_bound o n) bound.0 ∙ eq-eqb n.number n.number refl) (sat_roll g h Pat-F.Any n);
  }

  if_some : (b : Bool) (o : Option (List Expr)) (us : List Expr) → (if b then o else None) ≡ Some us → (b ≡ true) × (o ≡ Some us)
  if_some true o us is = (refl, is)
  if_some false o us is = absurd (cc is)

  named_no_integer : (i : ℤ) (k : ℕ) (w : Expr) (us : List Expr) (targets : List NodeId) (o : Option Spelling) → UnfoldsNamed e (UnfoldsAt k e symbols g) targets w o → integer_matched i (out-Expr w) ≡ Some us → ⊥
  named_no_integer i k w us targets None unfolds found = unfolds
  named_no_integer i k w us targets (Some name) unfolds found =
      let shape : out-Expr w ≡ Expr-F.Made (word name) unfolds.1.0 = ap out-Expr unfolds.1.2 ∙ out-roll-Expr (Expr-F.Made (word name) unfolds.1.0) in
      let none : None ≡ Some us = sym (ap (integer_matched i) shape) ∙ found in
      none-some us none

  integer_label_found : (i : ℤ) (k : ℕ) (w : Expr) (us : List Expr) (label : Label) (targets : List NodeId) → UnfoldsLabel e symbols (UnfoldsAt k e symbols g) label targets w → integer_matched i (out-Expr w) ≡ Some us → has_integer label i ≡ true
  integer_label_found i k w us (Symbol s) targets unfolds found = absurd (named_no_integer i k w us targets (slice_get symbols s) unfolds found)
  integer_label_found i k w us (Character c) targets unfolds found = absurd unfolds
  integer_label_found i k w us (Integer j) targets unfolds found =
      let shape : out-Expr w ≡ Expr-F.Integer j = ap out-Expr unfolds ∙ out-roll-Expr (Expr-F.Integer j) in
      (if_some (int_eq j i) (Some []) us (sym (ap (integer_matched i) shape) ∙ found)).0

  integer_found : (i : ℤ) (k : ℕ) (w : Expr) (us : List Expr) (o : Option Node) → UnfoldsContent e symbols (UnfoldsAt k e symbols g) (content_of o) w → integer_matched i (out-Expr w) ≡ Some us → label_holds o (λ l. has_integer l i) ≡ true
  integer_found i k w us None unfolds found = absurd unfolds
  integer_found i k w us (Some node) unfolds found = integer_label_found i k w us node.label (map (λ a. a.target) node.arcs) unfolds found

  module _ (once : (f k : ℕ) (name : Spelling) → slice_get symbols f ≡ Some name → slice_get symbols k ≡ Some name → f ≡ k) where
    made_named_places : (d : ℕ) → HavePlaces d → (name : Spelling) (args : List Expr) (f s : ℕ) (ps : List Pat) (k : ℕ) (w : Expr) (us : List Expr) (arcs : List Arc) (o : Option Spelling) → slice_get symbols f ≡ Some name → slice_get symbols s ≡ o
        → AllZip (IsPatternAt d symbols names) args ps → UnfoldsNamed e (UnfoldsAt k e symbols g) (map (λ a. a.target) arcs) w o → made_matched name (map matched args) (out-Expr w) ≡ Some us
        → Places (all_names (map variables_of args)) (λ h. has_symbol (Symbol s) f && all_hold (map (sat g h) ps) arcs)
    made_named_places d ih name args f s ps k w us arcs None named other are unfolds found = absurd unfolds
    made_named_places d ih name args f s ps k w us arcs (Some name') named other are unfolds found =
        let shape : out-Expr w ≡ Expr-F.Made (word name') unfolds.1.0 = ap out-Expr unfolds.1.2 ∙ out-roll-Expr (Expr-F.Made (word name') unfolds.1.0) in
        let parts = if_some (same_name name name') (all_matched (map matched args) unfolds.1.0) us (sym (ap (made_matched name (map matched args)) shape) ∙ found) in
        let same : name ≡ name' = same_name_is name name' parts.0 in
        let number : s ≡ f = once s f name' other (named ∙ ap Some same) in
        let places = all_places d ih args ps arcs k unfolds.1.0 us are unfolds.1.1 parts.1 in
        record {
          nodes = places.nodes;
          long = places.long;
          have = places.have;
          passes = λ h bound. both_true (s == f) (all_hold (map (sat g h) ps) arcs) (eq-eqb s f number) (places.passes h bound);
        }

    made_label_places : (d : ℕ) → HavePlaces d → (name : Spelling) (args : List Expr) (f : ℕ) (ps : List Pat) (k : ℕ) (w : Expr) (us : List Expr) (label : Label) (arcs : List Arc) → slice_get symbols f ≡ Some name → AllZip (IsPatternAt d symbols names) args ps
        → UnfoldsLabel e symbols (UnfoldsAt k e symbols g) label (map (λ a. a.target) arcs) w → made_matched name (map matched args) (out-Expr w) ≡ Some us
        → Places (all_names (map variables_of args)) (λ h. has_symbol label f && all_hold (map (sat g h) ps) arcs)
    made_label_places d ih name args f ps k w us (Integer j) arcs named are unfolds found =
        let shape : out-Expr w ≡ Expr-F.Integer j = ap out-Expr unfolds ∙ out-roll-Expr (Expr-F.Integer j) in
        absurd (none-some us (sym (ap (made_matched name (map matched args)) shape) ∙ found))
    made_label_places d ih name args f ps k w us (Symbol s) arcs named are unfolds found = made_named_places d ih name args f s ps k w us arcs (slice_get symbols s) named refl are unfolds found
    made_label_places d ih name args f ps k w us (Character c) arcs named are unfolds found = absurd unfolds

    made_places : (d : ℕ) → HavePlaces d → (name : Spelling) (args : List Expr) (f : ℕ) (ps : List Pat) (k : ℕ) (w : Expr) (us : List Expr) (o : Option Node) → slice_get symbols f ≡ Some name → AllZip (IsPatternAt d symbols names) args ps
        → UnfoldsContent e symbols (UnfoldsAt k e symbols g) (content_of o) w → made_matched name (map matched args) (out-Expr w) ≡ Some us → Places (all_names (map variables_of args)) (λ h. symbol_holds o f (map (sat g h) ps))
    made_places d ih name args f ps k w us None named are unfolds found = absurd unfolds
    made_places d ih name args f ps k w us (Some node) named are unfolds found = made_label_places d ih name args f ps k w us node.label node.arcs named are unfolds found

    level_places : (d : ℕ) → HavePlaces d → (y : Expr-F Expr) (p : Pat) (n : NodeId) (k : ℕ) (w : Expr) (us : List Expr) → PatternLevel symbols names (IsPatternAt d symbols names) y p → UnfoldsAt k e symbols g n w
        → matched_level (map-Expr Expr (Expr → Option (List Expr)) matched y) w ≡ Some us → Places (names_level (map-Expr Expr (List Spelling) variables_of y)) (λ h. sat g h p n)
    level_places d ih y p n zero w us is unfolds found = absurd unfolds
    level_places d ih (Expr-F.Variable x) p n (suc k) w us is unfolds found = subst (λ q. Places (x.text ∷ []) (λ h. sat g h q n)) (sym is) (variable_places x.text n (there_from k n w (node_at g n) refl unfolds))
    level_places d ih (Expr-F.Integer i) p n (suc k) w us is unfolds found =
        let holds = integer_found i k w us (node_at g n) unfolds found in
        record { nodes = []; long = refl; have = tt; passes = λ h bound. ap (λ q. sat g h q n) is ∙ sat_roll g h (Pat-F.Literal i) n ∙ holds }
    level_places d ih (Expr-F.Made name args) p n (suc k) w us is unfolds found =
        let places = made_places d ih name.text args is.0 is.1 k w us (node_at g n) is.2 is.3 unfolds found in
        record {
          nodes = places.nodes;
          long = places.long;
          have = places.have;
          passes = λ h bound. ap (λ q. sat g h q n) is.4 ∙ sat_roll g h (Pat-F.Sym is.0 is.1) n ∙ places.passes h bound;
        }

    -- where it matches the value, the pattern holds with some nodes
    pub have_places : (d : ℕ) → HavePlaces d
    have_places zero x p n k w us is unfolds found = absurd is
    have_places (suc d) x p n k w us is unfolds found =
        subst (λ xs. Places xs (λ h. sat g h p n)) (sym (variables_out x)) (level_places d (have_places d) (out-Expr x) p n k w us is unfolds (sym (matched_out x w) ∙ found))
