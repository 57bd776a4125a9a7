-- Each step keeps the invariant.
use Rattle.std.proofs.Common.{◌≡◌, ℕ, zero, suc, ◌<◌, Bool, true, false, List, [], ◌∷◌, length, Some, None, slice_get, unwrap_or, refl, sym, ◌∙◌, ap, subst, arith, inl, inr, ℤ, if◌then◌else◌}
use Rattle.std.specs.Ordering.{int_eq}
use Rattle.std.specs.Prelude.{int_lt}
use Rattle.std.specs.List.{AllZip}
use Rattle.std.proofs.lemmas.Option.{slice_get_cases, none-some}
use Rattle.dactl_model.specs.declared.graph.NodeId.{NodeId}
use Rattle.dactl_model.specs.declared.graph.Label.{Label}
use Rattle.dactl_model.specs.declared.graph.Label.TheVariants.{Symbol}
use Rattle.dactl_model.specs.declared.graph.Mark.TheVariants.{Active}
use Rattle.dactl_model.specs.declared.graph.Node.{Node}
use Rattle.dactl_model.specs.declared.graph.Graph.{Graph}
use Rattle.dactl_model.specs.declared.graph.Event.TheVariants.{Fire, Note}
use Rattle.dactl_model.specs.declared.program.Mention.TheVariants.{Old, Fresh}
use Rattle.dactl_model.specs.declared.program.FreshNode.{FreshNode}
use Rattle.dactl_model.specs.declared.program.Op.{Op}
use Rattle.dactl_model.specs.declared.program.Op.TheVariants.{Add, Sub, Mul, Eq, Lt}
use Rattle.dactl_model.specs.declared.program.Program.{Program}
use Rattle.dactl_model.specs.declared.program.Rule.{Rule}
use Rattle.dactl_model.specs.Graphs.{node_at, IsWellFormed}
use Rattle.dactl_model.specs.Matching.{bound_node, operand, truth, delta, delta_label, RuleMatches, IsAllowed}
use Rattle.dactl_model.specs.Firing.{fired}
use Rattle.fun_meaning.specs.declared.tree.Equation.{Equation}
use Rattle.fun_meaning.specs.declared.tree.Fun.{Fun}
use Rattle.fun_meaning.specs.Names.{Spelling, same_name, true_name, false_name, check_name, operation}
use Rattle.fun_meaning.specs.Values.{is_constructor, equation_names}
use Rattle.fun_meaning.specs.Meaning.{symbol_names}
use Rattle.fun_meaning.specs.Translation.{head_arity, FitsArity, FitsSymbol, names_operation, is_arithmetic, names_constructor, is_settled, root_to, IsEquationRule, IsOperationRule, IsCheckRule, IsKnownRule, IsProgramOf}
use Rattle.fun_meaning.specs.Invariant.{Finished, IsTidy}
use Rattle.fun_meaning.specs.Statements.{KeepsTidy}
use Rattle.fun_meaning.proofs.Depths.{AreConstructors}
use Rattle.fun_meaning.proofs.Matches.{same_name_is, Links}
use Rattle.fun_meaning.proofs.After.{after_firing}
use Rattle.fun_meaning.proofs.Settled.{unfolds_finished}
use Rattle.fun_meaning.proofs.RootNode.{root_active}
use Rattle.fun_meaning.proofs.EquationStep.{equation_root, equation_fit}
use Rattle.fun_meaning.proofs.OtherSteps.{operation_root, check_root, check_bound, check_plain, check_no_constructor}
use Rattle.fun_meaning.proofs.FireTidy.{one_of, rest_tidy}
use Rattle.fun_meaning.proofs.RootTidy.{redirected_tidy}
use Rattle.fun_meaning.proofs.NoteTidy.{has_active, noted_tidy}

zip_at : {A B : Type 0} (R : A → B → Type 0) (xs : List A) (ys : List B) (k : ℕ) (x : A) → AllZip R xs ys → slice_get xs k ≡ Some x → (y : B) × R x y
zip_at R [] ys k x all at = absurd (cc at)
zip_at R (z ∷ xs) [] k x all at = absurd all
zip_at R (z ∷ xs) (y ∷ ys) zero x all at = let same : z ≡ x = cc in (y, subst (λ w. R w y) same all.0)
zip_at R (z ∷ xs) (y ∷ ys) (suc k) x all at = zip_at R xs ys k x all.1 at

get_some : {A : Type 0} (xs : List A) (k : ℕ) → k < length xs → (x : A) × (slice_get xs k ≡ Some x)
get_some xs k below = elim (slice_get_cases xs k).1 [ inl (x, within, at, same) ↦ (x, at) | inr (past, none) ↦ absurd (omega arith) ]

-- a symbol of a name that is no constructor
open_label : (e : Fun) (symbols : List Spelling) (label : Label) (f : ℕ) (name : Spelling) → label ≡ Symbol f → slice_get symbols f ≡ Some name → is_constructor e name ≡ false → is_settled e symbols label ≡ false
open_label e symbols label f name is named no_constructor = ap (is_settled e symbols) is ∙ ap (names_constructor e) named ∙ no_constructor

equation_tidy : (e : Fun) (p : Program) (g : Graph) (n : NodeId) (r : ℕ) (rule : Rule) (h : List NodeId) (i : ℕ) (eq : Equation) → IsProgramOf e p → IsWellFormed g → IsTidy e p g → slice_get p.rules r ≡ Some rule → IsAllowed p g n r → RuleMatches p.wide g n rule h
    → slice_get e.equations i ≡ Some eq → (from : IsEquationRule e (symbol_names p) i eq rule) → IsTidy e p (after_firing g n h from.fresh (root_to from.first) from.wakes)
equation_tidy e p g n r rule h i eq is fine tidy rule_at allowed match there from =
    let root = equation_root e p g n r rule h i eq is fine tidy rule_at allowed match there from in
    let fit = equation_fit e p g n r rule h i eq is fine tidy rule_at allowed match there from in
    let active = has_active g n allowed.active in
    let same : root.node.mark ≡ Active = root_active g n root.node root.at allowed.active in
    redirected_tidy e p g n h from.fresh from.first from.wakes (length (equation_names eq)) is fine tidy root.node root.at same
    (open_label e (symbol_names p) root.node.label rule.symbol eq.head.text root.label from.head (is.sound i eq there).no_constructor)
    (λ v below.
    let name = get_some (equation_names eq) v below in
    let place = (is.sound i eq there).once v name.0 name.1 in
    let link = zip_at (Links e (symbol_names p) g (equation_names eq) h) (equation_names eq) fit.values v name.0 fit.links name.1 in
    let bound : bound_node h v ≡ link.1.0 = ap (bound_node h) (sym place) ∙ ap (λ o. unwrap_or o (record { number = 0 })) link.1.1 in
    subst (Finished e (symbol_names p) g) (sym bound) (link.1.2.0, unfolds_finished link.1.2.0 e (symbol_names p) g fine link.1.0 link.0 link.1.2.1))
    from.woken from.tidy from.first_tidy

operation_no_constructor : (e : Fun) (name : Spelling) (o : Op) (b : Bool) → AreConstructors e → operation name ≡ Some o → is_constructor e name ≡ b → b ≡ false
operation_no_constructor e name o true plain operates same = absurd (none-some o (sym (plain name same).0 ∙ operates))
operation_no_constructor e name o false plain operates same = refl

no_head : (equations : List Equation) (g : Spelling) → ((i : ℕ) (eq : Equation) → slice_get equations i ≡ Some eq → same_name eq.head.text g ≡ false) → head_arity equations g ≡ None
no_head [] g differ = refl
no_head (eq ∷ equations) g differ = ap (λ b. if b then Some (length eq.patterns) else head_arity equations g) (differ 0 eq refl) ∙ no_head equations g (λ i other at. differ (suc i) other at)

head_differs : (e : Fun) (head g : Spelling) (b : Bool) → is_constructor e head ≡ false → is_constructor e g ≡ true → same_name head g ≡ b → b ≡ false
head_differs e head g true lacks has same =
    let one : head ≡ g = same_name_is head g same in
    let clash : true ≡ false = sym has ∙ sym (ap (is_constructor e) one) ∙ lacks in
    cc
head_differs e head g false lacks has same = refl

-- True and False have no arity
no_arity : (e : Fun) (p : Program) (g : Spelling) → IsProgramOf e p → is_constructor e g ≡ true → head_arity e.equations g ≡ None
no_arity e p g is constructor = no_head e.equations g (λ i eq at. head_differs e eq.head.text g (same_name eq.head.text g) (is.sound i eq at).no_constructor constructor refl)

truth_fits : (e : Fun) (p : Program) (b : Bool) → IsProgramOf e p → FitsSymbol e (symbol_names p) (truth b) 0
truth_fits e p true is = subst (λ o. FitsArity e o 0) (sym is.truth) (λ k has. absurd (none-some k (sym (no_arity e p true_name is refl) ∙ has)))
truth_fits e p false is = subst (λ o. FitsArity e o 0) (sym is.falsity) (λ k has. absurd (none-some k (sym (no_arity e p false_name is refl) ∙ has)))

delta_fits : (e : Fun) (p : Program) (o : Op) (x y : ℤ) → IsProgramOf e p → FitsSymbol e (symbol_names p) (delta o x y) 0
delta_fits e p Add x y is = tt
delta_fits e p Sub x y is = tt
delta_fits e p Mul x y is = tt
delta_fits e p Eq x y is = truth_fits e p (int_eq x y) is
delta_fits e p Lt x y is = truth_fits e p (int_lt x y) is

truth_plain : (e : Fun) (p : Program) (b : Bool) → IsProgramOf e p → is_arithmetic (symbol_names p) (truth b) ≡ false
truth_plain e p true is = ap names_operation is.truth
truth_plain e p false is = ap names_operation is.falsity

delta_plain : (e : Fun) (p : Program) (o : Op) (x y : ℤ) → IsProgramOf e p → is_arithmetic (symbol_names p) (delta o x y) ≡ false
delta_plain e p Add x y is = refl
delta_plain e p Sub x y is = refl
delta_plain e p Mul x y is = refl
delta_plain e p Eq x y is = truth_plain e p (int_eq x y) is
delta_plain e p Lt x y is = truth_plain e p (int_lt x y) is

-- the node of a match and the active node are one
root_is_active : (g : Graph) (n : NodeId) (node active : Node) → node_at g n ≡ Some node → node_at g n ≡ Some active → active.mark ≡ Active → node.mark ≡ Active
root_is_active g n node active at also is = let one : node ≡ active = one_of (node_at g n) node active at also in ap (λ x. x.mark) one ∙ is

operation_tidy : (e : Fun) (p : Program) (g : Graph) (n : NodeId) (r : ℕ) (rule : Rule) (h : List NodeId) → IsProgramOf e p → IsWellFormed g → IsTidy e p g → IsAllowed p g n r → RuleMatches p.wide g n rule h → (from : IsOperationRule (symbol_names p) rule)
    → IsTidy e p (after_firing g n h (record { label = delta_label from.op g h; arcs = []; mark = Active } ∷ []) (root_to (Fresh 0)) [])
operation_tidy e p g n r rule h is fine tidy allowed match from =
    let result : FreshNode = record { label = delta_label from.op g h; arcs = []; mark = Active } in
    let root = operation_root e p g n rule h is match from in
    let active = has_active g n allowed.active in
    redirected_tidy e p g n h (result ∷ []) (Fresh 0) [] 0 is fine tidy root.node root.at (root_is_active g n root.node active.node root.at active.at active.active)
    (open_label e (symbol_names p) root.node.label rule.symbol from.name root.label from.named (operation_no_constructor e from.name from.op (is_constructor e from.name) is.constructors from.operates refl))
    (λ v below. absurd (omega arith)) tt
    (record { symbol = delta_fits e p from.op (operand g h 0) (operand g h 1) is; mark = refl; arcs_tidy = tt }, tt)
    (delta_plain e p from.op (operand g h 0) (operand g h 1) is)

check_tidy : (e : Fun) (p : Program) (g : Graph) (n : NodeId) (r : ℕ) (rule : Rule) (h : List NodeId) → IsProgramOf e p → IsWellFormed g → IsTidy e p g → IsAllowed p g n r → RuleMatches p.wide g n rule h → (from : IsCheckRule (symbol_names p) rule)
    → IsTidy e p (after_firing g n h [] (root_to (Old 0)) (0 ∷ []))
check_tidy e p g n r rule h is fine tidy allowed match from =
    let root = check_root e p g n rule h is match from in
    let active = has_active g n allowed.active in
    let plain = check_plain e p g n rule h is match from in
    let bound = check_bound e p g n rule h is match from in
    redirected_tidy e p g n h [] (Old 0) (0 ∷ []) 1 is fine tidy root.node root.at (root_is_active g n root.node active.node root.at active.at active.active)
    (open_label e (symbol_names p) root.node.label rule.symbol check_name root.label from.named (check_no_constructor e p g n rule h is match from (is_constructor e check_name) refl))
    (λ v below.
    let zero_is : 0 ≡ v = omega arith in
    subst (λ k. Finished e (symbol_names p) g (bound_node h k)) zero_is (subst (Finished e (symbol_names p) g) (sym bound) (1, unfolds_finished 1 e (symbol_names p) g fine _ plain.value plain.unfolds)))
    (omega arith, tt) tt (omega arith)

fire_tidy : (e : Fun) (p : Program) (g : Graph) (n : NodeId) (r : ℕ) (rule : Rule) (h : List NodeId) → IsProgramOf e p → IsWellFormed g → IsTidy e p g → slice_get p.rules r ≡ Some rule → IsAllowed p g n r → RuleMatches p.wide g n rule h
    → IsKnownRule e (symbol_names p) rule → IsTidy e p (fired g n h rule.body)
fire_tidy e p g n r rule h is fine tidy at allowed match (inl operation) =
    subst (λ b. IsTidy e p (fired g n h b)) (sym (ap (λ x. x.body) operation.is)) (operation_tidy e p g n r rule h is fine tidy allowed match operation)
fire_tidy e p g n r rule h is fine tidy at allowed match (inr (inl some)) =
    subst (λ b. IsTidy e p (fired g n h b)) (sym some.is.body) (equation_tidy e p g n r rule h some.index some.equation is fine tidy at allowed match some.at some.is)
fire_tidy e p g n r rule h is fine tidy at allowed match (inr (inr (inl rest))) =
    let active = has_active g n allowed.active in
    subst (λ b. IsTidy e p (fired g n h b)) (sym rest.body) (rest_tidy e p g n h is fine tidy active.node active.at active.active)
fire_tidy e p g n r rule h is fine tidy at allowed match (inr (inr (inr check))) =
    subst (λ b. IsTidy e p (fired g n h b)) (sym check.body) (check_tidy e p g n r rule h is fine tidy allowed match check)

pub keeps_tidy : KeepsTidy
keeps_tidy e p g after (Fire n r) valid is fine tidy step =
    let fires = step.1 in
    subst (IsTidy e p) (sym fires.after) (fire_tidy e p g n r fires.rule fires.bindings is fine tidy fires.is_rule step.0 fires.is_match (is.kinds r fires.rule fires.is_rule))
keeps_tidy e p g after (Note n) valid is fine tidy step =
    let active = has_active g n step.0.active in
    subst (IsTidy e p) (sym step.1) (noted_tidy e p g n is fine tidy step.0 active.node active.at active.active)
