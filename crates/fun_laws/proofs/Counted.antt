-- How many new nodes a translated term makes, and how many arcs they have.
use Rattle.std.proofs.Common.{◌≡◌, ℕ, ◌+◌, ◌<◌, ◌≤◌, ◌^◌, Bool, true, false, ◌&&◌, List, [], ◌∷◌, ◌++◌, map, length, Option, Some, None, sym, ◌∙◌, subst, arith, ℤ, length-append}
use Rattle.std.specs.List.{flat_map, list_all, sum}
use Rattle.std.proofs.lemmas.List.Sums.{sum_by-cons}
use Rattle.dactl_model.specs.declared.program.Op.{Op}
use Rattle.dactl_meaning.specs.declared.tree.Name.{Name}
use Rattle.dactl_meaning.specs.declared.tree.Marks.{Marks}
use Rattle.dactl_meaning.specs.declared.tree.Marks.TheVariants as marks
use Rattle.dactl_meaning.specs.declared.tree.TermTree.{TermTree}
use Rattle.dactl_meaning.specs.declared.tree.NodeTree.TheOpen.{NodeTree-F}
use Rattle.dactl_meaning.specs.declared.tree.NodeTree.TheViews.{roll-NodeTree}
use Rattle.dactl_meaning.specs.Contractum.{Named, Number, Of, Sketch, Drawn, DrawnArc, drawn_node, term_draws, made_by}
use Rattle.fun_meaning.specs.declared.tree.Expr.{Expr}
use Rattle.fun_meaning.specs.declared.tree.Expr.TheOpen.{Expr-F}
use Rattle.fun_meaning.specs.declared.tree.Expr.TheViews.{roll-Expr}
use Rattle.fun_meaning.specs.declared.tree.Expr.TheFolds.{fold-roll-Expr}
use Rattle.fun_meaning.specs.declared.tree.Fun.{Fun}
use Rattle.fun_meaning.specs.Names.{Spelling, check_name, operation}
use Rattle.fun_meaning.specs.Values.{is_constructor, word}
use Rattle.fun_compile.specs.Translated.{Put, bare, marked, node_over, marks_for, waiting, checked, wrapped, made_put, put_level, put, top_of, top}
use Rattle.dactl_meaning.specs.Unplaced.{nowhere}
use Rattle.fun_meaning.specs.Spelt.{weight_level, weight_of}
use Rattle.dactl_validity.specs.Counting.{arcs_of, AreCounted}
use Rattle.fun_meaning.proofs.Inducing.{Each, expr_induction}
use Rattle.fun_laws.proofs.Drawing.{drawn_puts, bare_draws, integer_draws, over_draws, checked_draws}
use Rattle.fun_laws.proofs.Lists.{length_of_map}
use Rattle.fun_laws.proofs.Starred.{starred_marked, starred_bare}
use Rattle.fun_laws.proofs.ContractumFaults.{drawn_long, drawn_arc}

arcs_append : (xs ys : List Sketch) → arcs_of (xs ++ ys) ≡ arcs_of xs + arcs_of ys
arcs_append [] ys = let e : arcs_of ys ≡ 0 + arcs_of ys = omega arith in e
arcs_append (x ∷ xs) ys =
    let rest : arcs_of (xs ++ ys) ≡ arcs_of xs + arcs_of ys = arcs_append xs ys in
    let one = sum_by-cons (λ (s : Sketch). length s.arcs) x (xs ++ ys) in
    let two = sum_by-cons (λ (s : Sketch). length s.arcs) x xs in
    omega (arith, one, two)

module _ (e : Fun) where
  -- the term makes no more than this, and one arc less
  record IsLight (t : TermTree) (k weight : ℕ) : Type 0 where
    pub nodes : length (term_draws t k).made ≤ weight
    pub arcs : arcs_of (term_draws t k).made + 1 ≤ weight

  abbrev IsClaim : Expr → Type 0
  IsClaim x = (k : ℕ) → IsLight (put e x).term k (weight_of x)

  record AreLight (xs : List Expr) (k : ℕ) : Type 0 where
    pub nodes : length (flat_map (λ (a : DrawnArc). a.drawn.made) (drawn_puts k (map (put e) xs))) ≤ sum (map weight_of xs)
    pub arcs : arcs_of (flat_map (λ (a : DrawnArc). a.drawn.made) (drawn_puts k (map (put e) xs))) + length xs ≤ sum (map weight_of xs)

  all_light : (xs : List Expr) → Each IsClaim xs → (k : ℕ) → AreLight xs k
  all_light [] each k = record { nodes = omega arith; arcs = omega arith }
  all_light (x ∷ xs) each k =
      let made = (term_draws (put e x).term k).made in
      let more = flat_map (λ (a : DrawnArc). a.drawn.made) (drawn_puts (k + length (term_draws (put e x).term k).made) (map (put e) xs)) in
      let here = each.0 k in
      let rest = all_light xs each.1 (k + length (term_draws (put e x).term k).made) in
      let total = sum_by-cons (λ (n : ℕ). n) (weight_of x) (map weight_of xs) in
      let long = length-append (term_draws (put e x).term k).made (flat_map (λ (a : DrawnArc). a.drawn.made) (drawn_puts (k + length (term_draws (put e x).term k).made) (map (put e) xs))) in
      let arcs = arcs_append (term_draws (put e x).term k).made (flat_map (λ (a : DrawnArc). a.drawn.made) (drawn_puts (k + length (term_draws (put e x).term k).made) (map (put e) xs))) in
      record { nodes = omega (arith, here.nodes, rest.nodes, total, long); arcs = omega (arith, here.arcs, rest.arcs, total, arcs) }

  by_draw : (t : TermTree) (k weight : ℕ) (d : Drawn) → term_draws t k ≡ d → length d.made ≤ weight → arcs_of d.made + 1 ≤ weight → IsLight t k weight
  by_draw t k weight d same nodes arcs = record { nodes = subst (λ (z : Drawn). length z.made ≤ weight) (sym same) nodes; arcs = subst (λ (z : Drawn). arcs_of z.made + 1 ≤ weight) (sym same) arcs }

  over_light : (m : Marks) (g : Spelling) (xs : List Expr) (k : ℕ) → Each IsClaim xs → IsLight (marked m (node_over g (map (put e) xs))) k (1 + sum (map weight_of xs))
  over_light m g xs k each =
      let rest = all_light xs each (k + 1) in
      let made = flat_map (λ (a : DrawnArc). a.drawn.made) (drawn_puts (k + 1) (map (put e) xs)) in
      let sketch : Sketch = record { name = None; marks = m; core = Of (word g); arcs = map drawn_arc (drawn_puts (k + 1) (map (put e) xs)) } in
      let count = sum_by-cons (λ (s : Sketch). length s.arcs) sketch made in
      let own : length (map drawn_arc (drawn_puts (k + 1) (map (put e) xs))) ≡ length xs =
      length_of_map drawn_arc (drawn_puts (k + 1) (map (put e) xs)) ∙ drawn_long (k + 1) (map (put e) xs) ∙ length_of_map (put e) xs in
      by_draw (marked m (node_over g (map (put e) xs))) k (1 + sum (map weight_of xs)) (drawn_node k None m (Of (word g)) (drawn_puts (k + 1) (map (put e) xs))) (over_draws m g (map (put e) xs) k)
      (omega (arith, rest.nodes)) (omega (arith, rest.arcs, count, own))

  checked_light : (t : TermTree) (k weight : ℕ) → IsLight t (k + 1) weight → IsLight (checked t) k (1 + weight)
  checked_light t k weight light =
      let made = (term_draws t (k + 1)).made in
      let long = length-append (term_draws t (k + 1)).made [] in
      let arcs = arcs_append (term_draws t (k + 1)).made [] in
      let inner : Drawn = drawn_node k None (marks.Hashes nowhere 1) (Of (word check_name)) (record { waits = true; drawn = term_draws t (k + 1) } ∷ []) in
      let count = sum_by-cons (λ (s : Sketch). length s.arcs) (record { name = None; marks = marks.Hashes nowhere 1; core = Of (word check_name); arcs = (true, (term_draws t (k + 1)).target) ∷ [] }) ((term_draws t (k + 1)).made ++ []) in
      by_draw (checked t) k (1 + weight) inner (checked_draws t k) (omega (arith, light.nodes, long)) (omega (arith, light.arcs, arcs, count))

  more_light : (t : TermTree) (k one two : ℕ) → one ≤ two → IsLight t k one → IsLight t k two
  more_light t k one two more light = record { nodes = omega (arith, light.nodes); arcs = omega (arith, light.arcs) }

  wrapped_light : (o : Option Op) (t : TermTree) (k weight : ℕ) → ((j : ℕ) → IsLight t j weight) → IsLight (wrapped o t) k (1 + weight)
  wrapped_light None t k weight light = more_light t k weight (1 + weight) (omega arith) (light k)
  wrapped_light (Some o) t k weight light = checked_light t k weight (light (k + 1))

  bare_light : (m : Marks) (x : Spelling) (k : ℕ) → IsLight (bare m x) k 1
  bare_light m x k = by_draw (bare m x) k 1 (record { target = Named x; made = [] }) (bare_draws m x k) (omega arith) (omega arith)

  integer_light : (m : Marks) (i : ℤ) (k : ℕ) → IsLight (marked m (roll-NodeTree (NodeTree-F.Integer i nowhere))) k 1
  integer_light m i k = by_draw (marked m (roll-NodeTree (NodeTree-F.Integer i nowhere))) k 1 (drawn_node k None m (Number i) []) (integer_draws m i k) (omega arith) (omega arith)

  weight_made : (g : Name) (xs : List Expr) → 1 + (1 + sum (map weight_of xs)) ≡ weight_of (roll-Expr (Expr-F.Made g xs))
  weight_made g xs = let one : 1 + (1 + sum (map weight_of xs)) ≡ 2 + sum (map weight_of xs) = omega arith in one ∙ sym (fold-roll-Expr ℕ weight_level (Expr-F.Made g xs))

  either_light : (b : Bool) (g : Spelling) (xs : List Expr) (k : ℕ) → Each IsClaim xs → IsLight (made_put b g (map (put e) xs)).term k (1 + (1 + sum (map weight_of xs)))
  either_light true g xs k each = more_light (marked marks.Plain (node_over g (map (put e) xs))) k (1 + sum (map weight_of xs)) (1 + (1 + sum (map weight_of xs))) (omega arith) (over_light marks.Plain g xs k each)
  either_light false g xs k each =
      wrapped_light (operation g) (marked (marks_for (waiting (map (put e) xs))) (node_over g (map (put e) xs))) k (1 + sum (map weight_of xs)) (λ j. over_light (marks_for (waiting (map (put e) xs))) g xs j each)

  puts_light : (x : Expr) → IsClaim x
  puts_light = expr_induction IsClaim (record {
    variable = λ x k. subst (λ n. IsLight (put e (roll-Expr (Expr-F.Variable x))).term k n) (sym (fold-roll-Expr ℕ weight_level (Expr-F.Variable x)))
        (subst (λ (a : Put). IsLight a.term k 1) (sym (fold-roll-Expr Put (put_level e) (Expr-F.Variable x))) (bare_light marks.Plain x.text k));
    integer = λ i k. subst (λ n. IsLight (put e (roll-Expr (Expr-F.Integer i))).term k n) (sym (fold-roll-Expr ℕ weight_level (Expr-F.Integer i)))
        (subst (λ (a : Put). IsLight a.term k 1) (sym (fold-roll-Expr Put (put_level e) (Expr-F.Integer i))) (integer_light marks.Plain i k));
    made = λ g xs each k. subst (λ n. IsLight (put e (roll-Expr (Expr-F.Made g xs))).term k n) (weight_made g xs)
        (subst (λ (a : Put). IsLight a.term k (1 + (1 + sum (map weight_of xs)))) (sym (fold-roll-Expr Put (put_level e) (Expr-F.Made g xs)))
        (either_light (is_constructor e g.text && list_all (λ (a : Put). a.pure) (map (put e) xs)) g.text xs k each));
  })

  each_light : (xs : List Expr) → Each IsClaim xs
  each_light [] = tt
  each_light (x ∷ xs) = (puts_light x, each_light xs)

  top_either : (b : Bool) (g : Spelling) (xs : List Expr) (k : ℕ) → IsLight (top_of (made_put b g (map (put e) xs))) k (1 + (1 + sum (map weight_of xs)))
  top_either true g xs k =
      subst (λ t. IsLight t k (1 + (1 + sum (map weight_of xs)))) (sym (starred_marked (node_over g (map (put e) xs))))
      (more_light (marked (marks.Star nowhere) (node_over g (map (put e) xs))) k (1 + sum (map weight_of xs)) (1 + (1 + sum (map weight_of xs))) (omega arith) (over_light (marks.Star nowhere) g xs k (each_light xs)))
  top_either false g xs k =
      wrapped_light (operation g) (marked (marks_for (waiting (map (put e) xs))) (node_over g (map (put e) xs))) k (1 + sum (map weight_of xs)) (λ j. over_light (marks_for (waiting (map (put e) xs))) g xs j (each_light xs))

  abbrev IsTop : Expr → Type 0
  IsTop x = IsLight (top e x) 0 (weight_of x)

  tops_light : (x : Expr) → IsTop x
  tops_light = expr_induction IsTop (record {
    variable = λ x. subst (IsLight (top e (roll-Expr (Expr-F.Variable x))) 0) (sym (fold-roll-Expr ℕ weight_level (Expr-F.Variable x)))
        (subst (λ (a : Put). IsLight (top_of a) 0 1) (sym (fold-roll-Expr Put (put_level e) (Expr-F.Variable x))) (subst (λ t. IsLight t 0 1) (sym (starred_bare x.text)) (bare_light (marks.Star nowhere) x.text 0)));
    integer = λ i. subst (IsLight (top e (roll-Expr (Expr-F.Integer i))) 0) (sym (fold-roll-Expr ℕ weight_level (Expr-F.Integer i)))
        (subst (λ (a : Put). IsLight (top_of a) 0 1) (sym (fold-roll-Expr Put (put_level e) (Expr-F.Integer i))) (subst (λ t. IsLight t 0 1) (sym (starred_marked (roll-NodeTree (NodeTree-F.Integer i nowhere)))) (integer_light (marks.Star nowhere) i 0)));
    made = λ g xs each. subst (IsLight (top e (roll-Expr (Expr-F.Made g xs))) 0) (weight_made g xs)
        (subst (λ (a : Put). IsLight (top_of a) 0 (1 + (1 + sum (map weight_of xs)))) (sym (fold-roll-Expr Put (put_level e) (Expr-F.Made g xs)))
        (top_either (is_constructor e g.text && list_all (λ (a : Put). a.pure) (map (put e) xs)) g.text xs 0));
  })

  -- what a right side makes can be counted
  pub top_few : (x : Expr) → weight_of x < 2 ^ 31 → AreCounted (made_by (top e x ∷ []))
  top_few x few =
      let light = tops_light x in
      let long = length-append (term_draws (top e x) 0).made [] in
      let arcs = arcs_append (term_draws (top e x) 0).made [] in
      record { nodes = omega (arith, light.nodes, long); arcs = omega (arith, light.arcs, arcs) }
