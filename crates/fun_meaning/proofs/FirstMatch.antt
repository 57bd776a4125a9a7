-- The rule that is allowed at a function over finished arguments is that of the first equation that matches their values.
use Rattle.std.proofs.Common.{◌≡◌, ℕ, zero, suc, ◌<◌, Bool, true, false, List, [], ◌∷◌, map, length, Option, Some, None, IsSomeAnd, slice_get, refl, sym, ◌∙◌, ap, subst, arith, if◌then◌else◌}
use Rattle.std.specs.List.{AllZip}
use Rattle.std.proofs.lemmas.List.Elements.{All-from_recursion}
use Rattle.std.proofs.lemmas.Bool.{eq-eqb}
use Rattle.dactl_model.specs.declared.graph.NodeId.{NodeId}
use Rattle.dactl_model.specs.declared.graph.Label.TheVariants.{Symbol}
use Rattle.dactl_model.specs.declared.graph.Node.{Node}
use Rattle.dactl_model.specs.declared.graph.Graph.{Graph}
use Rattle.dactl_model.specs.declared.program.Pat.TheOpen.{Pat-F}
use Rattle.dactl_model.specs.declared.program.Rule.{Rule}
use Rattle.dactl_model.specs.declared.program.Program.{Program}
use Rattle.dactl_model.specs.Graphs.{node_at, HasNode}
use Rattle.dactl_model.specs.Patterns.{sat, all_hold, symbol_holds, has_symbol}
use Rattle.dactl_model.specs.Matching.{RuleMatches, HasResult, Precedes, IsAllowed}
use Rattle.dactl_model.proofs.Unique.{sat_roll}
use Rattle.fun_meaning.specs.declared.tree.Expr.{Expr}
use Rattle.fun_meaning.specs.declared.tree.Equation.{Equation}
use Rattle.fun_meaning.specs.declared.tree.Fun.{Fun}
use Rattle.fun_meaning.specs.Names.{Spelling, same_name, place_of}
use Rattle.fun_meaning.specs.Values.{equation_names, equation_matched, tried, first_equation}
use Rattle.fun_meaning.specs.Meaning.{symbol_names, UnfoldsAt}
use Rattle.fun_meaning.specs.Translation.{IsEquationRule, IsProgramOf}
use Rattle.fun_meaning.proofs.Matches.{same_name_is, both_true, Bound, Places, all_places, have_places}

-- each name is bound to the node at its own place
bound_at : (names xs : List Spelling) (nodes ys : List NodeId) (at : ℕ → ℕ) → length xs ≡ length ys → ((j : ℕ) (x : Spelling) → slice_get xs j ≡ Some x → place_of names x ≡ at j) → ((j : ℕ) (y : NodeId) → slice_get ys j ≡ Some y → slice_get nodes (at j) ≡ Some y)
    → AllZip (λ x y. slice_get nodes (place_of names x) ≡ Some y) xs ys
bound_at names [] nodes [] at long places gets = tt
bound_at names [] nodes (y ∷ ys) at long places gets = absurd (omega arith)
bound_at names (x ∷ xs) nodes [] at long places gets = absurd (omega arith)
bound_at names (x ∷ xs) nodes (y ∷ ys) at long places gets =
    (ap (slice_get nodes) (places 0 x refl) ∙ gets 0 y refl, bound_at names xs nodes ys (λ j. at (suc j)) (omega arith) (λ j z is. places (suc j) z is) (λ j z is. gets (suc j) z is))

first_skip : (x : Equation) (equations : List Equation) (g : Spelling) (vs us : List Expr) (eq : Equation) (b : Bool) → same_name x.head.text g ≡ b → (same_name x.head.text g ≡ true → equation_matched x vs ≡ None)
    → first_equation equations g vs ≡ Some (record { names = equation_names eq; values = us; right = eq.right }) → first_equation (x ∷ equations) g vs ≡ Some (record { names = equation_names eq; values = us; right = eq.right })
first_skip x equations g vs us eq true is none rest =
    ap (λ b. if b then tried x (equation_matched x vs) (first_equation equations g vs) else first_equation equations g vs) is ∙ ap (λ o. tried x o (first_equation equations g vs)) (none is) ∙ rest
first_skip x equations g vs us eq false is none rest = ap (λ b. if b then tried x (equation_matched x vs) (first_equation equations g vs) else first_equation equations g vs) is ∙ rest

-- the equation is the first one of the function that matches
pub first_is : (equations : List Equation) (g : Spelling) (vs us : List Expr) (i : ℕ) (eq : Equation) → slice_get equations i ≡ Some eq → same_name eq.head.text g ≡ true → equation_matched eq vs ≡ Some us
    → ((j : ℕ) (other : Equation) → j < i → slice_get equations j ≡ Some other → same_name other.head.text g ≡ true → equation_matched other vs ≡ None)
    → first_equation equations g vs ≡ Some (record { names = equation_names eq; values = us; right = eq.right })
first_is [] g vs us i eq at head found earlier = absurd (cc at)
first_is (x ∷ equations) g vs us zero eq at head found earlier =
    let same : x ≡ eq = cc in
    let here : same_name x.head.text g ≡ true = ap (λ y. same_name y.head.text g) same ∙ head in
    let hit : equation_matched x vs ≡ Some us = ap (λ y. equation_matched y vs) same ∙ found in
    ap (λ b. if b then tried x (equation_matched x vs) (first_equation equations g vs) else first_equation equations g vs) here
    ∙ ap (λ o. tried x o (first_equation equations g vs)) hit
    ∙ ap (λ y. Some (record { names = equation_names y; values = us; right = y.right })) same
first_is (x ∷ equations) g vs us (suc i) eq at head found earlier =
    let rest = first_is equations g vs us i eq at head found (λ j other below is same. earlier (suc j) other (omega arith) is same) in
    first_skip x equations g vs us eq (same_name x.head.text g) refl (λ same. earlier 0 x (omega arith) refl same) rest

some_or_none : {A : Type 0} (o : Option A) → ((x : A) → o ≡ Some x → ⊥) → o ≡ None
some_or_none None never = refl
some_or_none (Some x) never = absurd (never x refl)

module _ (e : Fun) (p : Program) (g : Graph) (n : NodeId) (node : Node) (d : ℕ) (vs : List Expr) (is : IsProgramOf e p) (at : node_at g n ≡ Some node) (reads : AllZip (UnfoldsAt d e (symbol_names p) g) (map (λ a. a.target) node.arcs) vs) where
  -- an equation of that symbol that matches the values has a rule that matches
  rule_matches : (i : ℕ) (eq : Equation) (rule : Rule) (us : List Expr) → slice_get e.equations i ≡ Some eq → IsEquationRule e (symbol_names p) i eq rule → node.label ≡ Symbol rule.symbol → equation_matched eq vs ≡ Some us
      → (h : List NodeId) × RuleMatches p.wide g n rule h
  rule_matches i eq rule us there from label found =
      let names = equation_names eq in
      let places : Places e (symbol_names p) g names names (λ h. all_hold (map (sat g h) from.args) node.arcs) =
      all_places e (symbol_names p) g names from.depth (have_places e (symbol_names p) g names is.once from.depth) eq.patterns from.args node.arcs d vs us from.patterns reads found in
      let bound : AllZip (Bound e (symbol_names p) g names places.nodes) names places.nodes = bound_at names names places.nodes places.nodes (λ j. j) places.long (is.sound i eq there).once (λ j y same. same) in
      let holds : sat g places.nodes rule.pattern n ≡ true =
      ap (λ q. sat g places.nodes q n) from.pattern ∙ sat_roll g places.nodes (Pat-F.Sym rule.symbol from.args) n
      ∙ ap (λ o. symbol_holds o rule.symbol (map (sat g places.nodes) from.args)) at
      ∙ both_true (has_symbol node.label rule.symbol) (all_hold (map (sat g places.nodes) from.args) node.arcs) (ap (λ l. has_symbol l rule.symbol) label ∙ eq-eqb rule.symbol rule.symbol refl) (places.passes places.nodes bound) in (
        places.nodes,
        record {
          long = sym places.long ∙ sym from.variables;
          nodes = All-from_recursion (HasNode g) places.nodes places.have;
          holds = holds;
          result = subst (λ b. HasResult p.wide b g places.nodes) (sym from.body) tt;
        },
      )

  pub earlier_none : (r : ℕ) (rule : Rule) (i : ℕ) (eq : Equation) → slice_get p.rules r ≡ Some rule → slice_get e.equations i ≡ Some eq → IsEquationRule e (symbol_names p) i eq rule → node.label ≡ Symbol rule.symbol → IsAllowed p g n r
      → (j : ℕ) (other : Equation) → j < i → slice_get e.equations j ≡ Some other → same_name other.head.text eq.head.text ≡ true → equation_matched other vs ≡ None
  earlier_none r rule i eq rule_at there from label allowed j other below other_at head = some_or_none (equation_matched other vs) (λ us found.
      let has = is.equation_rules j other other_at in
      let heads : other.head.text ≡ eq.head.text = same_name_is other.head.text eq.head.text head in
      let symbols : has.rule.symbol ≡ rule.symbol = is.once has.rule.symbol rule.symbol eq.head.text (has.is.head ∙ ap Some heads) from.head in
      let matches = rule_matches j other has.rule us other_at has.is (label ∙ ap Symbol (sym symbols)) found in
      let precedes : Precedes p has.number r = record { earlier = has.rule; later = rule; is_earlier = has.at; is_later = rule_at; symbol = symbols; group = omega (arith, has.is.group, from.group) } in
      allowed.first has.number precedes matches.0 (subst (λ o. IsSomeAnd o (λ x. RuleMatches p.wide g n x matches.0)) (sym has.at) matches.1))
