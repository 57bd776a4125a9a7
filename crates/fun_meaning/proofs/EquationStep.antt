-- The firing of an equation's rule keeps values backwards.
use Rattle.std.proofs.Common.{◌≡◌, ℕ, zero, suc, ◌<◌, true, false, List, [], ◌∷◌, map, length, Some, None, slice_get, unwrap_or, refl, sym, ◌∙◌, ap, subst, arith, if◌then◌else◌, inl, inr}
use Rattle.std.specs.List.{AllZip}
use Rattle.std.proofs.lemmas.Option.{slice_get_within}
use Rattle.dactl_model.specs.declared.graph.NodeId.{NodeId}
use Rattle.dactl_model.specs.declared.graph.Label.TheVariants.{Symbol}
use Rattle.dactl_model.specs.declared.graph.Graph.{Graph}
use Rattle.dactl_model.specs.declared.program.Program.{Program}
use Rattle.dactl_model.specs.declared.program.Rule.{Rule}
use Rattle.dactl_model.specs.Graphs.{IsWellFormed}
use Rattle.dactl_model.specs.Matching.{bound_node, RuleMatches, IsAllowed}
use Rattle.dactl_model.specs.Firing.{mentioned, redirection}
use Rattle.dactl_model.specs.Versions.{content_of}
use Rattle.fun_meaning.specs.declared.tree.Expr.{Expr}
use Rattle.fun_meaning.specs.declared.tree.Equation.{Equation}
use Rattle.fun_meaning.specs.declared.tree.Fun.{Fun}
use Rattle.fun_meaning.specs.Names.{Spelling, same_name, check_name, operation, place_of}
use Rattle.fun_meaning.specs.Values.{is_constructor, Valuing, MadeValue, NamedValue, ValueAt, Call, equation_names, equation_matched, first_equation, looked_up}
use Rattle.fun_meaning.specs.Meaning.{symbol_names, UnfoldsAt, Unfolds, CheckedOrApplied, MeansAt}
use Rattle.fun_meaning.specs.Translation.{names_check, is_check, root_to, IsEquationRule, IsProgramOf}
use Rattle.fun_meaning.specs.Invariant.{IsTidy}
use Rattle.fun_meaning.proofs.Zips.{zip_weaken}
use Rattle.fun_meaning.proofs.Depths.{deeper, values_deeper, means_up, one_depth, unfolds_means}
use Rattle.fun_meaning.proofs.Contractum.{IsLinked, named_means, stands_value}
use Rattle.fun_meaning.proofs.Backwards.{IsCarried, unfolds_after}
use Rattle.fun_meaning.proofs.Matches.{same_name_refl, same_name_is, Links, Fits, all_fit, fits}
use Rattle.fun_meaning.proofs.After.{after_firing, carried_fired, new_fired}
use Rattle.fun_meaning.proofs.FinishedNodes.{active_args}
use Rattle.fun_meaning.proofs.FirstMatch.{first_is, earlier_none}
use Rattle.fun_meaning.proofs.RootNode.{IsRoot, root_node, root_active, sent_root, sent_cases, sent_new, not_unfolds, GoesBack}

pub deeper_suc : (k d : ℕ) → deeper (suc k) d ≡ suc (deeper k d)
deeper_suc k zero = refl
deeper_suc k (suc d) = ap suc (deeper_suc k d)

-- the variable's value and node
record HasLink (e : Fun) (symbols : List Spelling) (g : Graph) (names : List Spelling) (h : List NodeId) (xs : List Spelling) (us : List Expr) (x : Spelling) : Type 0 where
  pub value : Expr
  pub looked : looked_up xs us x ≡ Some value
  pub link : Links e symbols g names h x value

has_link : (e : Fun) (symbols : List Spelling) (g : Graph) (names : List Spelling) (h : List NodeId) (xs : List Spelling) (us : List Expr) (x : Spelling) → AllZip (Links e symbols g names h) xs us → place_of xs x < length xs → HasLink e symbols g names h xs us x
has_link e symbols g names h [] us x links below = absurd (omega arith)
has_link e symbols g names h (y ∷ xs) [] x links below = absurd links
has_link e symbols g names h (y ∷ xs) (u ∷ us) x links below =
    (elim (same_name y x) as (λ b. same_name y x ≡ b → HasLink e symbols g names h (y ∷ xs) (u ∷ us) x) [
      | true ↦ λ same. record {
        value = u;
        looked = ap (λ b. if b then Some u else looked_up xs us x) same;
        link = subst (λ z. Links e symbols g names h z u) (same_name_is y x same) links.0;
      }
      | false ↦ λ other.
          let less : suc (place_of xs x) < suc (length xs) = subst (λ b. (if b then 0 else suc (place_of xs x)) < suc (length xs)) other below in
          let rest = has_link e symbols g names h xs us x links.1 (omega arith) in
          record { value = rest.value; looked = ap (λ b. if b then Some u else looked_up xs us x) other ∙ rest.looked; link = rest.link }
    ]) refl

called : (e : Fun) (V : Valuing) (name : Spelling) (vs : List Expr) (v : Expr) → operation name ≡ None → is_constructor e name ≡ false → same_name name check_name ≡ false → (call : Call) → first_equation e.equations name vs ≡ Some call → V call.names call.values call.right v
    → CheckedOrApplied e V name vs v (same_name name check_name)
called e V name vs v no_operation no_constructor no_check call first value =
    subst (λ b. CheckedOrApplied e V name vs v b) (sym no_check) (subst (λ o. NamedValue e V name vs v o) (sym no_operation) (subst (λ b. MadeValue e V name vs v b) (sym no_constructor) (call, first, value)))

check_not : (symbols : List Spelling) (f : ℕ) (name : Spelling) → slice_get symbols f ≡ Some name → same_name name check_name ≡ false → is_check symbols (Symbol f) ≡ false
check_not symbols f name named no_check = ap names_check named ∙ no_check

module _ (e : Fun) (p : Program) (g : Graph) (n : NodeId) (r : ℕ) (rule : Rule) (h : List NodeId) (i : ℕ) (eq : Equation) (is : IsProgramOf e p) (fine : IsWellFormed g) (tidy : IsTidy e p g) (rule_at : slice_get p.rules r ≡ Some rule)
    (allowed : IsAllowed p g n r) (match : RuleMatches p.wide g n rule h) (there : slice_get e.equations i ≡ Some eq) (from : IsEquationRule e (symbol_names p) i eq rule) where
  abbrev symbols : List Spelling
  symbols = symbol_names p

  abbrev names : List Spelling
  names = equation_names eq

  abbrev m : ℕ
  m = length g.nodes

  abbrev send : NodeId → NodeId
  send = redirection (length g.nodes) n h (root_to from.first)

  abbrev after : Graph
  after = after_firing g n h from.fresh (root_to from.first) from.wakes

  pub equation_root : IsRoot g h n rule.symbol from.args
  equation_root = root_node g h n rule.symbol from.args rule.pattern from.pattern match.holds

  no_check : is_check (symbol_names p) equation_root.node.label ≡ false
  no_check = ap (is_check (symbol_names p)) equation_root.label ∙ check_not (symbol_names p) rule.symbol eq.head.text from.head (is.sound i eq there).no_check

  pub equation_args : (vs : List Expr) × AllZip (Unfolds e (symbol_names p) g) (map (λ a. a.target) equation_root.node.arcs) vs
  equation_args = active_args e p g n equation_root.node tidy equation_root.at (root_active g n equation_root.node equation_root.at allowed.active) no_check

  level : (d : ℕ) × AllZip (UnfoldsAt d e (symbol_names p) g) (map (λ a. a.target) equation_root.node.arcs) equation_args.0
  level = one_depth e (symbol_names p) g (map (λ a. a.target) equation_root.node.arcs) equation_args.0 equation_args.1

  pub equation_fit : Fits e (symbol_names p) g (equation_names eq) h (equation_matched eq equation_args.0) (equation_names eq)
  equation_fit = all_fit e (symbol_names p) g (equation_names eq) from.depth h (fits e (symbol_names p) g (equation_names eq) from.depth h) eq.patterns from.args equation_root.node.arcs level.0 equation_args.0 from.patterns level.1 equation_root.hold

  first : first_equation e.equations eq.head.text equation_args.0 ≡ Some (record { names = equation_names eq; values = equation_fit.values; right = eq.right })
  first = first_is e.equations eq.head.text equation_args.0 equation_fit.values i eq there (same_name_refl eq.head.text) equation_fit.is
      (earlier_none e p g n equation_root.node level.0 equation_args.0 is equation_root.at level.1 r rule i eq rule_at there from equation_root.label allowed)

  stays : (y : NodeId) (k : ℕ) (u : Expr) → UnfoldsAt k e (symbol_names p) g y u → send y ≡ y
  stays y k u unfolds =
      elim (sent_cases (length g.nodes) n h from.first y) [
        | inl same ↦ absurd (not_unfolds e (symbol_names p) g n equation_root.node rule.symbol eq.head.text equation_root.at equation_root.label from.head (is.sound i eq there).no_constructor k u (subst (λ z. UnfoldsAt k e (symbol_names p) g z u) (sym same) unfolds))
        | inr other ↦ other
      ]

  carried : IsCarried send g after
  carried = carried_fired g n h from.fresh (root_to from.first) from.wakes

  linked : (x : Spelling) → place_of (equation_names eq) x < length (equation_names eq) → IsLinked e (symbol_names p) after h send (equation_names eq) equation_fit.values x
  linked x below =
      let has = has_link e (symbol_names p) g (equation_names eq) h (equation_names eq) equation_fit.values x equation_fit.links below in
      let node : bound_node h (place_of (equation_names eq) x) ≡ has.link.0 = ap (λ o. unwrap_or o (record { number = 0 })) has.link.1 in
      record {
        value = has.value;
        looked = has.looked;
        depth = has.link.2.0;
        unfolds = subst (λ y. UnfoldsAt has.link.2.0 e (symbol_names p) after y has.value) (sym node) (unfolds_after has.link.2.0 e (symbol_names p) g after send carried stays has.link.0 has.value has.link.2.1);
        stays = subst (λ y. send y ≡ y) (sym node) (stays has.link.0 has.link.2.0 has.value has.link.2.1);
      }

  right_value : (d : ℕ) (v : Expr) → MeansAt d e (symbol_names p) after (mentioned (length g.nodes) h from.first) v → ValueAt d e (equation_names eq) equation_fit.values eq.right v
  right_value d v means =
      stands_value e (symbol_names p) after (length g.nodes) h send (equation_names eq) equation_fit.values from.fresh is.constructors (new_fired g n h from.fresh (root_to from.first) from.wakes)
      (sent_new (length g.nodes) n h from.first (slice_get_within g.nodes n.number equation_root.node equation_root.at)) linked from.height d eq.right from.first v from.right means

  root_means : (d : ℕ) (v : Expr) → MeansAt d e (symbol_names p) after (send n) v → MeansAt (deeper (suc level.0) d) e (symbol_names p) g n v
  root_means d v means =
      let value = right_value d v (subst (λ y. MeansAt d e (symbol_names p) after y v) (sent_root (length g.nodes) n h from.first) means) in
      let deep = deeper level.0 d in
      let sound = is.sound i eq there in
      let read : AllZip (MeansAt deep e (symbol_names p) g) (map (λ a. a.target) equation_root.node.arcs) equation_args.0 =
      zip_weaken (UnfoldsAt level.0 e (symbol_names p) g) (MeansAt deep e (symbol_names p) g) (λ y u unfolds. means_up level.0 d e (symbol_names p) g y u (unfolds_means level.0 e (symbol_names p) g is.constructors y u unfolds))
      (map (λ a. a.target) equation_root.node.arcs) equation_args.0 level.1 in
      subst (λ k. MeansAt k e (symbol_names p) g n v) (sym (deeper_suc level.0 d))
      (named_means deep e (symbol_names p) g n v equation_root.node.label (map (λ a. a.target) equation_root.node.arcs) rule.symbol eq.head.text (ap content_of equation_root.at) equation_root.label from.head
      (equation_args.0, read, called e (ValueAt deep e) eq.head.text equation_args.0 v sound.no_operation sound.no_constructor sound.no_check (record { names = equation_names eq; values = equation_fit.values; right = eq.right }) first (values_deeper level.0 d e (equation_names eq) equation_fit.values eq.right v value)))

  pub equation_back : GoesBack e (symbol_names p) g after
  equation_back = record {
    send = send;
    more = suc level.0;
    carried = carried;
    moved = λ x has. elim (sent_cases (length g.nodes) n h from.first x) [
      | inl same ↦ inr (subst (λ y. (d : ℕ) (v : Expr) → MeansAt d e (symbol_names p) after (send y) v → MeansAt (deeper (suc level.0) d) e (symbol_names p) g y v) same root_means)
      | inr other ↦ inl other
    ];
    root = refl;
  }
