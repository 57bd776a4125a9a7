-- What the new nodes of a contractum mean is the value of the expression that they stand for.
use Rattle.std.proofs.Common.{◌≡◌, ℕ, zero, suc, ◌+◌, ◌<◌, List, [], ◌∷◌, map, length, Option, Some, None, slice_get, refl, sym, ◌∙◌, ap, subst}
use Rattle.std.specs.List.{AllZip}
use Rattle.dactl_model.specs.declared.graph.NodeId.{NodeId}
use Rattle.dactl_model.specs.declared.graph.Label.{Label}
use Rattle.dactl_model.specs.declared.graph.Label.TheVariants.{Symbol}
use Rattle.dactl_model.specs.declared.graph.Graph.{Graph}
use Rattle.dactl_model.specs.declared.program.Mention.{Mention}
use Rattle.dactl_model.specs.declared.program.FreshNode.{FreshNode}
use Rattle.dactl_model.specs.declared.program.Op.{Op}
use Rattle.dactl_model.specs.Matching.{bound_node}
use Rattle.dactl_model.specs.Firing.{mentioned}
use Rattle.dactl_model.specs.Versions.{content}
use Rattle.dactl_meaning.specs.declared.tree.Name.{Name}
use Rattle.fun_meaning.specs.declared.tree.Expr.{Expr}
use Rattle.fun_meaning.specs.declared.tree.Expr.TheOpen.{Expr-F}
use Rattle.fun_meaning.specs.declared.tree.Expr.TheViews.{out-Expr}
use Rattle.fun_meaning.specs.declared.tree.Fun.{Fun}
use Rattle.fun_meaning.specs.Names.{Spelling, check_name, operation, place_of}
use Rattle.fun_meaning.specs.Values.{ValueLevel, ValueAt, looked_up}
use Rattle.fun_meaning.specs.Meaning.{UnfoldsAt, CheckedOrApplied, MeansNamed, MeansLabel, MeansContent, MeansAt}
use Rattle.fun_meaning.specs.Translation.{IsTerm, IsChecked, StandsNamed, StandsLevel, StandsAt}
use Rattle.fun_meaning.proofs.Zips.{zip_through}
use Rattle.fun_meaning.proofs.Depths.{AreConstructors, value_more, means_one}

-- a node whose label is the symbol of that name
pub means_named : (k : ℕ) (e : Fun) (symbols : List Spelling) (g : Graph) (n : NodeId) (v : Expr) (label : Label) (targets : List NodeId) (f : ℕ) (name : Spelling)
    → content g n ≡ Some (record { label = label; targets = targets }) → label ≡ Symbol f → slice_get symbols f ≡ Some name → MeansAt (suc k) e symbols g n v
    → MeansNamed e (ValueAt k e) (MeansAt k e symbols g) targets v (Some name)
means_named k e symbols g n v label targets f name at is named means =
    subst (λ o. MeansNamed e (ValueAt k e) (MeansAt k e symbols g) targets v o) named
    (subst (λ l. MeansLabel e symbols (ValueAt k e) (MeansAt k e symbols g) l targets v) is
    (subst (λ o. MeansContent e symbols (ValueAt k e) (MeansAt k e symbols g) o v) at means))

-- and the other way
pub named_means : (k : ℕ) (e : Fun) (symbols : List Spelling) (g : Graph) (n : NodeId) (v : Expr) (label : Label) (targets : List NodeId) (f : ℕ) (name : Spelling)
    → content g n ≡ Some (record { label = label; targets = targets }) → label ≡ Symbol f → slice_get symbols f ≡ Some name
    → MeansNamed e (ValueAt k e) (MeansAt k e symbols g) targets v (Some name) → MeansAt (suc k) e symbols g n v
named_means k e symbols g n v label targets f name at is named means =
    subst (λ o. MeansContent e symbols (ValueAt k e) (MeansAt k e symbols g) o v) (sym at)
    (subst (λ l. MeansLabel e symbols (ValueAt k e) (MeansAt k e symbols g) l targets v) (sym is)
    (subst (λ o. MeansNamed e (ValueAt k e) (MeansAt k e symbols g) targets v o) (sym named) means))

-- the node of a variable unfolds to the variable's value, and the redirection leaves it
pub record IsLinked (e : Fun) (symbols : List Spelling) (after : Graph) (h : List NodeId) (f : NodeId → NodeId) (names : List Spelling) (us : List Expr) (x : Spelling) : Type 0 where
  pub value : Expr
  pub looked : looked_up names us x ≡ Some value
  pub depth : ℕ
  pub unfolds : UnfoldsAt depth e symbols after (bound_node h (place_of names x)) value
  pub stays : f (bound_node h (place_of names x)) ≡ bound_node h (place_of names x)

-- the new nodes are in the graph, with their arcs redirected
abbrev pub AreNew : Graph → ℕ → List NodeId → (NodeId → NodeId) → List FreshNode → Type 0
AreNew after m h f fresh =
    (j : ℕ) (node : FreshNode) → slice_get fresh j ≡ Some node → content after (record { number = m + j }) ≡ Some (record { label = node.label; targets = map (λ a. f (mentioned m h a.to)) node.arcs })

module _ (e : Fun) (symbols : List Spelling) (after : Graph) (m : ℕ) (h : List NodeId) (f : NodeId → NodeId) (names : List Spelling) (us : List Expr) (fresh : List FreshNode)
    (plain : AreConstructors e) (new : AreNew after m h f fresh) (new_stay : (j : ℕ) → f (record { number = m + j }) ≡ record { number = m + j })
    (linked : (x : Spelling) → place_of names x < length names → IsLinked e symbols after h f names us x) where
  term_stays : (stands : Expr → Mention → Type 0) (g : Spelling) (args : List Expr) (t : Mention) → IsTerm symbols fresh stands g args t → f (mentioned m h t) ≡ mentioned m h t
  term_stays stands g args t term = subst (λ z. f (mentioned m h z) ≡ mentioned m h z) (sym term.is) (new_stay term.place)

  named_stays : (stands : Expr → Mention → Type 0) (g : Spelling) (args : List Expr) (t : Mention) (o : Option Op) → StandsNamed symbols fresh stands g args t o → f (mentioned m h t) ≡ mentioned m h t
  named_stays stands g args t (Some o) is = subst (λ z. f (mentioned m h z) ≡ mentioned m h z) (sym is.is) (new_stay is.place)
  named_stays stands g args t None is = term_stays stands g args t is

  level_stays : (stands : Expr → Mention → Type 0) (y : Expr-F Expr) (t : Mention) → StandsLevel symbols names fresh stands y t → f (mentioned m h t) ≡ mentioned m h t
  level_stays stands (Expr-F.Variable x) t is = subst (λ z. f (mentioned m h z) ≡ mentioned m h z) (sym is.is) (linked x.text is.bound).stays
  level_stays stands (Expr-F.Integer i) t is = subst (λ z. f (mentioned m h z) ≡ mentioned m h z) (sym is.is) (new_stay is.place)
  level_stays stands (Expr-F.Made g args) t is = named_stays stands g.text args t (operation g.text) is

  -- what the mention stands for is not redirected
  pub stands_stays : (d : ℕ) (x : Expr) (t : Mention) → StandsAt d symbols names fresh x t → f (mentioned m h t) ≡ mentioned m h t
  stands_stays zero x t is = absurd is
  stands_stays (suc d) x t is = level_stays (StandsAt d symbols names fresh) (out-Expr x) t is

  abbrev IsMeant : ℕ → Type 0
  IsMeant d = (k : ℕ) (x : Expr) (t : Mention) (v : Expr) → StandsAt d symbols names fresh x t → MeansAt k e symbols after (mentioned m h t) v → ValueAt k e names us x v

  term_value : (d : ℕ) → IsMeant d → (k : ℕ) (g : Name) (args : List Expr) (t : Mention) (v : Expr) → IsTerm symbols fresh (StandsAt d symbols names fresh) g.text args t
      → MeansAt (suc k) e symbols after (mentioned m h t) v → ValueLevel e (ValueAt k e) names us (Expr-F.Made g args) v
  term_value d ih k g args t v term means =
      let here = subst (λ z. MeansAt (suc k) e symbols after (mentioned m h z) v) term.is means in
      let named = means_named k e symbols after _ v term.node.label _ term.symbol g.text (new term.place term.node term.at) term.label term.name here in (
        named.0,
        zip_through (λ a. f (mentioned m h a.to)) (λ x a. StandsAt d symbols names fresh x a.to) (MeansAt k e symbols after) (ValueAt k e names us)
            (λ x a w stands arg_means. ih k x a.to w stands (subst (λ n. MeansAt k e symbols after n w) (stands_stays d x a.to stands) arg_means)) args term.node.arcs named.0 term.args_stand named.1,
        subst (λ b. CheckedOrApplied e (ValueAt k e) g.text named.0 v b) term.ordinary named.2,
      )

  inner_value : (d : ℕ) → IsMeant d → (k : ℕ) (x : Expr) (g : Name) (args : List Expr) (t : Mention) (v : Expr) → out-Expr x ≡ Expr-F.Made g args → IsTerm symbols fresh (StandsAt d symbols names fresh) g.text args t
      → MeansAt k e symbols after (mentioned m h t) v → ValueAt (suc k) e names us x v
  inner_value d ih zero x g args t v shape term means = absurd means
  inner_value d ih (suc k) x g args t v shape term means =
      value_more (suc k) e names us x v (subst (λ y. ValueLevel e (ValueAt k e) names us y v) (sym shape) (term_value d ih k g args t v term means))

  checked_value : (d : ℕ) → IsMeant d → (k : ℕ) (x : Expr) (g : Name) (args : List Expr) (t : Mention) (v : Expr) → out-Expr x ≡ Expr-F.Made g args → IsChecked symbols fresh (StandsAt d symbols names fresh) g.text args t
      → MeansAt (suc k) e symbols after (mentioned m h t) v → ValueAt (suc k) e names us x v
  checked_value d ih k x g args t v shape checked means =
      let here = subst (λ z. MeansAt (suc k) e symbols after (mentioned m h z) v) checked.is means in
      let named = means_named k e symbols after _ v checked.node.label _ checked.symbol check_name (new checked.place checked.node checked.at) checked.label checked.name here in
      let one : AllZip (MeansAt k e symbols after) (f (mentioned m h checked.arc.to) ∷ []) (v ∷ []) =
      subst (λ vs. AllZip (MeansAt k e symbols after) (f (mentioned m h checked.arc.to) ∷ []) vs) named.2.0
      (subst (λ arcs. AllZip (MeansAt k e symbols after) (map (λ a. f (mentioned m h a.to)) arcs) named.0) checked.arcs named.1) in
      inner_value d ih k x g args checked.arc.to v shape checked.term (subst (λ n. MeansAt k e symbols after n v) (term_stays _ g.text args checked.arc.to checked.term) one.0)

  named_value : (d : ℕ) → IsMeant d → (k : ℕ) (x : Expr) (g : Name) (args : List Expr) (t : Mention) (v : Expr) (o : Option Op) → out-Expr x ≡ Expr-F.Made g args → StandsNamed symbols fresh (StandsAt d symbols names fresh) g.text args t o
      → MeansAt (suc k) e symbols after (mentioned m h t) v → ValueAt (suc k) e names us x v
  named_value d ih k x g args t v (Some o) shape is means = checked_value d ih k x g args t v shape is means
  named_value d ih k x g args t v None shape is means = subst (λ y. ValueLevel e (ValueAt k e) names us y v) (sym shape) (term_value d ih k g args t v is means)

  level_value : (d : ℕ) → IsMeant d → (k : ℕ) (x : Expr) (y : Expr-F Expr) (t : Mention) (v : Expr) → out-Expr x ≡ y → StandsLevel symbols names fresh (StandsAt d symbols names fresh) y t
      → MeansAt (suc k) e symbols after (mentioned m h t) v → ValueAt (suc k) e names us x v
  level_value d ih k x (Expr-F.Variable z) t v shape is means =
      let link = linked z.text is.bound in
      let here : MeansAt (suc k) e symbols after (bound_node h (place_of names z.text)) v = subst (λ y. MeansAt (suc k) e symbols after (mentioned m h y) v) is.is means in
      let same : v ≡ link.value = means_one (suc k) link.depth e symbols after plain _ v link.value here link.unfolds in
      subst (λ y. ValueLevel e (ValueAt k e) names us y v) (sym shape) (link.looked ∙ ap Some (sym same))
  level_value d ih k x (Expr-F.Integer i) t v shape is means =
      let here = subst (λ y. MeansAt (suc k) e symbols after (mentioned m h y) v) is.is means in
      let at = subst (λ o. MeansContent e symbols (ValueAt k e) (MeansAt k e symbols after) o v) (new is.place is.node is.at) here in
      let number = subst (λ l. MeansLabel e symbols (ValueAt k e) (MeansAt k e symbols after) l (map (λ a. f (mentioned m h a.to)) is.node.arcs) v) is.label at in
      subst (λ y. ValueLevel e (ValueAt k e) names us y v) (sym shape) number
  level_value d ih k x (Expr-F.Made g args) t v shape is means = named_value d ih k x g args t v (operation g.text) shape is means

  -- a value that the mention's node means is the expression's
  pub stands_value : (d : ℕ) → IsMeant d
  stands_value zero k x t v is means = absurd is
  stands_value (suc d) zero x t v is means = absurd means
  stands_value (suc d) (suc k) x t v is means = level_value d (stands_value d) k x (out-Expr x) t v refl is means
