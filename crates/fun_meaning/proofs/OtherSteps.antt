-- The other kinds of step keep values backwards too.
use Rattle.std.proofs.Common.{◌≡◌, ℕ, ◌+◌, Bool, true, false, List, [], ◌∷◌, map, length, Option, Some, None, slice_get, unwrap_or, refl, sym, ◌∙◌, ap, subst, inl, inr, ◌&&◌, ℤ, ◌+ℤ◌, ◌-ℤ◌, ◌*ℤ◌}
use Rattle.dactl_model.specs.Integers.{InRange}
use Rattle.std.specs.Ordering.{int_eq}
use Rattle.std.specs.Prelude.{int_lt}
use Rattle.std.specs.List.{AllZip}
use Rattle.std.proofs.lemmas.Option.{none-some}
use Rattle.dactl_model.specs.declared.graph.NodeId.{NodeId}
use Rattle.dactl_model.specs.declared.graph.Label.{Label}
use Rattle.dactl_model.specs.declared.graph.Label.TheVariants.{Symbol, Integer, Character}
use Rattle.dactl_model.specs.declared.graph.Arc.{Arc}
use Rattle.dactl_model.specs.declared.graph.Mark.TheVariants.{Active}
use Rattle.dactl_model.specs.declared.graph.Node.{Node}
use Rattle.dactl_model.specs.declared.graph.Graph.{Graph}
use Rattle.dactl_model.specs.declared.program.Mention.TheVariants.{Old, Fresh}
use Rattle.dactl_model.specs.declared.program.FreshNode.{FreshNode}
use Rattle.dactl_model.specs.declared.program.Op.{Op}
use Rattle.dactl_model.specs.declared.program.Op.TheVariants.{Add, Sub, Mul, Eq, Lt}
use Rattle.dactl_model.specs.declared.program.Pat.{Pat}
use Rattle.dactl_model.specs.declared.program.Pat.TheOpen.{Pat-F}
use Rattle.dactl_model.specs.declared.program.Pat.TheViews.{roll-Pat}
use Rattle.dactl_model.specs.declared.program.Program.{Program}
use Rattle.dactl_model.specs.declared.program.Rule.{Rule}
use Rattle.dactl_model.specs.Graphs.{node_at}
use Rattle.dactl_model.specs.Patterns.{sat, all_hold, symbol_holds, label_holds, has_symbol, is_integer, is_bound}
use Rattle.dactl_model.specs.Matching.{bound_node, integer_of, integer_in, operand, truth, delta, delta_label, FitsRange, HasResult, RuleMatches}
use Rattle.dactl_model.specs.Firing.{redirection}
use Rattle.dactl_model.specs.Noting.{noted}
use Rattle.dactl_model.specs.Versions.{content_of}
use Rattle.dactl_model.proofs.Unique.{left_true, right_true, sat_roll, bound_is}
use Rattle.dactl_model.proofs.Found.{or_cases}
use Rattle.fun_meaning.specs.declared.tree.Expr.{Expr}
use Rattle.fun_meaning.specs.declared.tree.Fun.{Fun}
use Rattle.fun_meaning.specs.Names.{Spelling, same_name, check_name, true_name, false_name, operation}
use Rattle.fun_meaning.specs.Values.{integer, made, is_constructor, truth_value, FitsResult, result_of, IsResult, Valuing, NamedValue, ValueAt}
use Rattle.fun_meaning.specs.Meaning.{symbol_names, Reading, UnfoldsNamed, UnfoldsLabel, UnfoldsContent, UnfoldsAt, IsPlain, CheckedOrApplied, MeansAt}
use Rattle.fun_meaning.specs.Translation.{root_to, plain_pattern, IsOperationRule, IsCheckRule, IsProgramOf}
use Rattle.fun_meaning.proofs.Depths.{AreConstructors, deeper, means_up, unfolds_means, means_one}
use Rattle.fun_meaning.proofs.Contractum.{named_means}
use Rattle.fun_meaning.proofs.Backwards.{unfolds_after}
use Rattle.fun_meaning.proofs.Matches.{same_name_is}
use Rattle.fun_meaning.proofs.After.{after_firing, carried_fired, new_fired, carried_noted}
use Rattle.fun_meaning.proofs.RootNode.{label_is, IsRoot, root_node, sent_root, sent_cases, not_unfolds, GoesBack}

-- a step that redirects nothing
pub rest_back : (e : Fun) (p : Program) (g : Graph) (n : NodeId) (h : List NodeId) → GoesBack e (symbol_names p) g (after_firing g n h [] [] [])
rest_back e p g n h = record {
  send = redirection (length g.nodes) n h [];
  more = 0;
  carried = carried_fired g n h [] [] [];
  moved = λ x has. inl refl;
  root = refl;
}

pub note_back : (e : Fun) (p : Program) (g : Graph) (n : NodeId) → GoesBack e (symbol_names p) g (noted g n)
note_back e p g n = record { send = λ x. x; more = 0; carried = carried_noted g n; moved = λ x has. inl refl; root = refl }

-- a node with an integer, True or False, and its value
pub record HasPlain (e : Fun) (symbols : List Spelling) (g : Graph) (n : NodeId) : Type 0 where
  pub value : Expr
  pub plain : IsPlain value
  pub unfolds : UnfoldsAt 1 e symbols g n value

-- the root of the rule has the value of a node that its redirection leads to
pub plain_back : (e : Fun) (symbols : List Spelling) (g after : Graph) (n t : NodeId) (w : Expr) → AreConstructors e → UnfoldsAt 1 e symbols after t w → MeansAt 2 e symbols g n w → (d : ℕ) (v : Expr) → MeansAt d e symbols after t v
    → MeansAt (deeper 2 d) e symbols g n v
plain_back e symbols g after n t w plain unfolds means d v is =
    let same : v ≡ w = means_one d 1 e symbols after plain t v w is unfolds in
    subst (λ u. MeansAt (deeper 2 d) e symbols g n u) (sym same) (means_up 2 d e symbols g n w means)

-- one argument at one arc
pub record IsOnly (test : NodeId → Bool) (arcs : List Arc) : Type 0 where
  pub arc : Arc
  pub is : arcs ≡ arc ∷ []
  pub passes : test arc.target ≡ true

pub only_arc : (test : NodeId → Bool) (arcs : List Arc) → all_hold (test ∷ []) arcs ≡ true → IsOnly test arcs
only_arc test [] hold = cc
only_arc test (a ∷ []) hold = record { arc = a; is = refl; passes = left_true _ _ hold }
only_arc test (a ∷ b ∷ arcs) hold = let e : all_hold [] (b ∷ arcs) ≡ true = right_true (test a.target) (all_hold [] (b ∷ arcs)) hold in cc

pub record AreTwo (first second : NodeId → Bool) (arcs : List Arc) : Type 0 where
  pub one : Arc
  pub two : Arc
  pub is : arcs ≡ one ∷ two ∷ []
  pub one_passes : first one.target ≡ true
  pub two_passes : second two.target ≡ true

pub two_arcs : (first second : NodeId → Bool) (arcs : List Arc) → all_hold (first ∷ second ∷ []) arcs ≡ true → AreTwo first second arcs
two_arcs first second [] hold = cc
two_arcs first second (a ∷ arcs) hold =
    let rest = only_arc second arcs (right_true (first a.target) (all_hold (second ∷ []) arcs) hold) in
    record { one = a; two = rest.arc; is = ap (λ xs. a ∷ xs) rest.is; one_passes = left_true _ _ hold; two_passes = rest.passes }

label_integer_unfolds : (e : Fun) (symbols : List Spelling) (R : Reading) (label : Label) (targets : List NodeId) → is_integer label ≡ true → UnfoldsLabel e symbols R label targets (integer (integer_of label))
label_integer_unfolds e symbols R (Symbol f) targets is = cc
label_integer_unfolds e symbols R (Character c) targets is = cc
label_integer_unfolds e symbols R (Integer i) targets is = refl

integer_unfolds : (e : Fun) (symbols : List Spelling) (R : Reading) (o : Option Node) → label_holds o is_integer ≡ true → UnfoldsContent e symbols R (content_of o) (integer (integer_in o))
integer_unfolds e symbols R None is = cc
integer_unfolds e symbols R (Some node) is = label_integer_unfolds e symbols R node.label (map (λ a. a.target) node.arcs) is

-- the node of an integer variable
pub record IsIntegerAt (e : Fun) (symbols : List Spelling) (g : Graph) (h : List NodeId) (v : ℕ) (t : NodeId) : Type 0 where
  pub bound : slice_get h v ≡ Some t
  pub unfolds : UnfoldsAt 1 e symbols g t (integer (operand g h v))

integer_at : (e : Fun) (symbols : List Spelling) (g : Graph) (h : List NodeId) (v : ℕ) (t : NodeId) → sat g h (roll-Pat (Pat-F.Bind v (roll-Pat Pat-F.Int))) t ≡ true → IsIntegerAt e symbols g h v t
integer_at e symbols g h v t holds =
    let level : (is_bound (slice_get h v) t && sat g h (roll-Pat Pat-F.Int) t) ≡ true = sym (sat_roll g h (Pat-F.Bind v (roll-Pat Pat-F.Int)) t) ∙ holds in
    let first : is_bound (slice_get h v) t ≡ true = left_true _ _ level in
    let second : sat g h (roll-Pat Pat-F.Int) t ≡ true = right_true _ _ level in
    let bound : slice_get h v ≡ Some t = bound_is (slice_get h v) t first in
    let number : label_holds (node_at g t) is_integer ≡ true = sym (sat_roll g h Pat-F.Int t) ∙ second in
    let node : bound_node h v ≡ t = ap (λ o. unwrap_or o (record { number = 0 })) bound in
    record {
      bound = bound;
      unfolds = subst (λ y. UnfoldsAt 1 e symbols g t (integer (integer_in (node_at g y)))) (sym node) (integer_unfolds e symbols (UnfoldsAt 0 e symbols g) (node_at g t) number);
    }

truth_unfolds : (e : Fun) (symbols : List Spelling) (R : Reading) → slice_get symbols 5 ≡ Some true_name → slice_get symbols 6 ≡ Some false_name → (b : Bool) → UnfoldsLabel e symbols R (truth b) [] (truth_value b)
truth_unfolds e symbols R truths falses true = subst (λ o. UnfoldsNamed e R [] (made true_name []) o) (sym truths) (refl, ([], tt, refl))
truth_unfolds e symbols R truths falses false = subst (λ o. UnfoldsNamed e R [] (made false_name []) o) (sym falses) (refl, ([], tt, refl))

delta_unfolds : (e : Fun) (symbols : List Spelling) (R : Reading) → slice_get symbols 5 ≡ Some true_name → slice_get symbols 6 ≡ Some false_name → (o : Op) (x y : ℤ) → UnfoldsLabel e symbols R (delta o x y) [] (result_of o x y)
delta_unfolds e symbols R truths falses Add x y = refl
delta_unfolds e symbols R truths falses Sub x y = refl
delta_unfolds e symbols R truths falses Mul x y = refl
delta_unfolds e symbols R truths falses Eq x y = truth_unfolds e symbols R truths falses (int_eq x y)
delta_unfolds e symbols R truths falses Lt x y = truth_unfolds e symbols R truths falses (int_lt x y)

-- a result in the range of a program that is not wide
result_fits : (wide : Bool) (o : Op) (x y : ℤ) → wide ≡ false → FitsRange wide (delta o x y) → FitsResult o x y
result_fits wide Add x y narrow fits = subst (λ b. InRange b (x +ℤ y)) narrow fits
result_fits wide Sub x y narrow fits = subst (λ b. InRange b (x -ℤ y)) narrow fits
result_fits wide Mul x y narrow fits = subst (λ b. InRange b (x *ℤ y)) narrow fits
result_fits wide Eq x y narrow fits = tt
result_fits wide Lt x y narrow fits = tt

-- an operation is not Chk
pub operation_not_check : (name : Spelling) (o : Op) (b : Bool) → operation name ≡ Some o → same_name name check_name ≡ b → b ≡ false
operation_not_check name o true is same =
    let e : name ≡ check_name = same_name_is name check_name same in
    let clash : None ≡ Some o = sym (ap operation e) ∙ is in
    absurd (none-some o clash)
operation_not_check name o false is same = refl

operated : (e : Fun) (V : Valuing) (name : Spelling) (o : Op) (vs : List Expr) (v : Expr) → operation name ≡ Some o → IsResult o vs v → CheckedOrApplied e V name vs v (same_name name check_name)
operated e V name o vs v is result = subst (λ b. CheckedOrApplied e V name vs v b) (sym (operation_not_check name o (same_name name check_name) is refl)) (subst (λ z. NamedValue e V name vs v z) (sym is) result)

module _ (e : Fun) (p : Program) (g : Graph) (n : NodeId) (rule : Rule) (h : List NodeId) (is : IsProgramOf e p) (match : RuleMatches p.wide g n rule h) (from : IsOperationRule (symbol_names p) rule) where
  abbrev operands : List Pat
  operands = roll-Pat (Pat-F.Bind 0 (roll-Pat Pat-F.Int)) ∷ roll-Pat (Pat-F.Bind 1 (roll-Pat Pat-F.Int)) ∷ []

  abbrev result : FreshNode
  result = record { label = delta_label from.op g h; arcs = []; mark = Active }

  abbrev after : Graph
  after = after_firing g n h (result ∷ []) (root_to (Fresh 0)) []

  pub operation_root : IsRoot g h n rule.symbol operands
  operation_root = root_node g h n rule.symbol operands rule.pattern (ap (λ x. x.pattern) from.is) match.holds

  args : AreTwo (sat g h (roll-Pat (Pat-F.Bind 0 (roll-Pat Pat-F.Int)))) (sat g h (roll-Pat (Pat-F.Bind 1 (roll-Pat Pat-F.Int)))) operation_root.node.arcs
  args = two_arcs (sat g h (roll-Pat (Pat-F.Bind 0 (roll-Pat Pat-F.Int)))) (sat g h (roll-Pat (Pat-F.Bind 1 (roll-Pat Pat-F.Int)))) operation_root.node.arcs operation_root.hold

  left : IsIntegerAt e (symbol_names p) g h 0 args.one.target
  left = integer_at e (symbol_names p) g h 0 args.one.target args.one_passes

  right : IsIntegerAt e (symbol_names p) g h 1 args.two.target
  right = integer_at e (symbol_names p) g h 1 args.two.target args.two_passes

  fits_result : FitsResult from.op (operand g h 0) (operand g h 1)
  fits_result = result_fits p.wide from.op (operand g h 0) (operand g h 1) is.narrow (subst (λ b. HasResult p.wide b g h) (ap (λ x. x.body) from.is) match.result)

  before_means : MeansAt 2 e (symbol_names p) g n (result_of from.op (operand g h 0) (operand g h 1))
  before_means =
      let targets : map (λ a. a.target) operation_root.node.arcs ≡ args.one.target ∷ args.two.target ∷ [] = ap (λ arcs. map (λ a. a.target) arcs) args.is in
      named_means 1 e (symbol_names p) g n (result_of from.op (operand g h 0) (operand g h 1)) operation_root.node.label (map (λ a. a.target) operation_root.node.arcs) rule.symbol from.name (ap content_of operation_root.at) operation_root.label from.named (
        integer (operand g h 0) ∷ integer (operand g h 1) ∷ [],
        subst (λ ts. AllZip (MeansAt 1 e (symbol_names p) g) ts (integer (operand g h 0) ∷ integer (operand g h 1) ∷ [])) (sym targets)
            (unfolds_means 1 e (symbol_names p) g is.constructors args.one.target _ left.unfolds, (unfolds_means 1 e (symbol_names p) g is.constructors args.two.target _ right.unfolds, tt)),
        operated e (ValueAt 1 e) from.name from.op (integer (operand g h 0) ∷ integer (operand g h 1) ∷ []) (result_of from.op (operand g h 0) (operand g h 1)) from.operates
            (record { left = operand g h 0; right = operand g h 1; operands = refl; fits = fits_result; is = refl }),
      )

  after_unfolds : UnfoldsAt 1 e (symbol_names p) after (record { number = length g.nodes + 0 }) (result_of from.op (operand g h 0) (operand g h 1))
  after_unfolds =
      subst (λ o. UnfoldsContent e (symbol_names p) (UnfoldsAt 0 e (symbol_names p) after) o (result_of from.op (operand g h 0) (operand g h 1))) (sym (new_fired g n h (result ∷ []) (root_to (Fresh 0)) [] 0 result refl))
      (delta_unfolds e (symbol_names p) (UnfoldsAt 0 e (symbol_names p) after) is.truth is.falsity from.op (operand g h 0) (operand g h 1))

  pub operation_back : GoesBack e (symbol_names p) g after
  operation_back = record {
    send = redirection (length g.nodes) n h (root_to (Fresh 0));
    more = 2;
    carried = carried_fired g n h (result ∷ []) (root_to (Fresh 0)) [];
    moved = λ x has. elim (sent_cases (length g.nodes) n h (Fresh 0) x) [
      | inl same ↦ inr (subst (λ y. (d : ℕ) (v : Expr) → MeansAt d e (symbol_names p) after (redirection (length g.nodes) n h (root_to (Fresh 0)) y) v → MeansAt (deeper 2 d) e (symbol_names p) g y v) same
          (λ d v means. plain_back e (symbol_names p) g after n (record { number = length g.nodes + 0 }) (result_of from.op (operand g h 0) (operand g h 1)) is.constructors after_unfolds before_means d v
          (subst (λ y. MeansAt d e (symbol_names p) after y v) (sent_root (length g.nodes) n h (Fresh 0)) means)))
      | inr other ↦ inl other
    ];
    root = refl;
  }

no_arcs : (arcs : List Arc) → all_hold [] arcs ≡ true → arcs ≡ []
no_arcs [] hold = refl
no_arcs (a ∷ arcs) hold = cc

bare_unfolds : (e : Fun) (symbols : List Spelling) (g : Graph) (t : NodeId) (f : ℕ) (name : Spelling) (o : Option Node) → slice_get symbols f ≡ Some name → is_constructor e name ≡ true → node_at g t ≡ o → symbol_holds o f [] ≡ true → UnfoldsAt 1 e symbols g t (made name [])
bare_unfolds e symbols g t f name None named constructor at holds = cc
bare_unfolds e symbols g t f name (Some node) named constructor at holds =
    let label : node.label ≡ Symbol f = label_is node.label f (left_true _ _ holds) in
    let none : node.arcs ≡ [] = no_arcs node.arcs (right_true (has_symbol node.label f) (all_hold [] node.arcs) holds) in
    subst (λ o. UnfoldsContent e symbols (UnfoldsAt 0 e symbols g) (content_of o) (made name [])) (sym at)
    (subst (λ l. UnfoldsLabel e symbols (UnfoldsAt 0 e symbols g) l (map (λ a. a.target) node.arcs) (made name [])) (sym label)
    (subst (λ o. UnfoldsNamed e (UnfoldsAt 0 e symbols g) (map (λ a. a.target) node.arcs) (made name []) o) (sym named)
    (constructor, ([], subst (λ arcs. AllZip (UnfoldsAt 0 e symbols g) (map (λ a. a.target) arcs) []) (sym none) tt, refl))))

bare_plain : (e : Fun) (symbols : List Spelling) (g : Graph) (h : List NodeId) (t : NodeId) (f : ℕ) (name : Spelling) → slice_get symbols f ≡ Some name → is_constructor e name ≡ true → IsPlain (made name []) → sat g h (roll-Pat (Pat-F.Sym f [])) t ≡ true
    → HasPlain e symbols g t
bare_plain e symbols g h t f name named constructor plain holds =
    record { value = made name []; plain = plain; unfolds = bare_unfolds e symbols g t f name (node_at g t) named constructor refl (sym (sat_roll g h (Pat-F.Sym f []) t) ∙ holds) }

plain_at : (e : Fun) (symbols : List Spelling) (g : Graph) (h : List NodeId) (t : NodeId) → slice_get symbols 5 ≡ Some true_name → slice_get symbols 6 ≡ Some false_name → sat g h plain_pattern t ≡ true → HasPlain e symbols g t
plain_at e symbols g h t truths falses holds =
    elim (or_cases _ _ (sym (sat_roll g h (Pat-F.Union (roll-Pat (Pat-F.Union (roll-Pat Pat-F.Int) (roll-Pat (Pat-F.Sym 5 [])))) (roll-Pat (Pat-F.Sym 6 []))) t) ∙ holds)) [
      | inl first ↦ elim (or_cases _ _ (sym (sat_roll g h (Pat-F.Union (roll-Pat Pat-F.Int) (roll-Pat (Pat-F.Sym 5 []))) t) ∙ first)) [
        | inl number ↦ record {
          value = integer (integer_in (node_at g t));
          plain = inl (integer_in (node_at g t), refl);
          unfolds = integer_unfolds e symbols (UnfoldsAt 0 e symbols g) (node_at g t) (sym (sat_roll g h Pat-F.Int t) ∙ number);
        }
        | inr second ↦ bare_plain e symbols g h t 5 true_name truths refl (inr (inl refl)) second
      ]
      | inr third ↦ bare_plain e symbols g h t 6 false_name falses refl (inr (inr refl)) third
    ]

module _ (e : Fun) (p : Program) (g : Graph) (n : NodeId) (rule : Rule) (h : List NodeId) (is : IsProgramOf e p) (match : RuleMatches p.wide g n rule h) (from : IsCheckRule (symbol_names p) rule) where
  abbrev checked : Graph
  checked = after_firing g n h [] (root_to (Old 0)) (0 ∷ [])

  pub check_root : IsRoot g h n rule.symbol (roll-Pat (Pat-F.Bind 0 plain_pattern) ∷ [])
  check_root = root_node g h n rule.symbol (roll-Pat (Pat-F.Bind 0 plain_pattern) ∷ []) rule.pattern from.pattern match.holds

  pub only : IsOnly (sat g h (roll-Pat (Pat-F.Bind 0 plain_pattern))) check_root.node.arcs
  only = only_arc (sat g h (roll-Pat (Pat-F.Bind 0 plain_pattern))) check_root.node.arcs check_root.hold

  level : (is_bound (slice_get h 0) only.arc.target && sat g h plain_pattern only.arc.target) ≡ true
  level = sym (sat_roll g h (Pat-F.Bind 0 plain_pattern) only.arc.target) ∙ only.passes

  pub check_bound : bound_node h 0 ≡ only.arc.target
  check_bound = ap (λ o. unwrap_or o (record { number = 0 })) (bound_is (slice_get h 0) only.arc.target (left_true _ _ level))

  pub check_plain : HasPlain e (symbol_names p) g only.arc.target
  check_plain = plain_at e (symbol_names p) g h only.arc.target is.truth is.falsity (right_true _ _ level)

  pub check_no_constructor : (b : Bool) → is_constructor e check_name ≡ b → b ≡ false
  check_no_constructor true same = let clash : true ≡ false = (is.constructors check_name same).1 in absurd (cc clash)
  check_no_constructor false same = refl

  stays : (y : NodeId) (k : ℕ) (u : Expr) → UnfoldsAt k e (symbol_names p) g y u → redirection (length g.nodes) n h (root_to (Old 0)) y ≡ y
  stays y k u unfolds =
      elim (sent_cases (length g.nodes) n h (Old 0) y) [
        | inl same ↦ absurd (not_unfolds e (symbol_names p) g n check_root.node rule.symbol check_name check_root.at check_root.label from.named (check_no_constructor (is_constructor e check_name) refl) k u (subst (λ z. UnfoldsAt k e (symbol_names p) g z u) (sym same) unfolds))
        | inr other ↦ other
      ]

  check_before : MeansAt 2 e (symbol_names p) g n check_plain.value
  check_before =
      let targets : map (λ a. a.target) check_root.node.arcs ≡ only.arc.target ∷ [] = ap (λ arcs. map (λ a. a.target) arcs) only.is in
      named_means 1 e (symbol_names p) g n check_plain.value check_root.node.label (map (λ a. a.target) check_root.node.arcs) rule.symbol check_name (ap content_of check_root.at) check_root.label from.named
      (check_plain.value ∷ [], subst (λ ts. AllZip (MeansAt 1 e (symbol_names p) g) ts (check_plain.value ∷ [])) (sym targets) (unfolds_means 1 e (symbol_names p) g is.constructors only.arc.target check_plain.value check_plain.unfolds, tt), (refl, check_plain.plain))

  pub check_back : GoesBack e (symbol_names p) g checked
  check_back =
      let send = redirection (length g.nodes) n h (root_to (Old 0)) in
      let carried = carried_fired g n h [] (root_to (Old 0)) (0 ∷ []) in
      record {
        send = send;
        more = 2;
        carried = carried;
        moved = λ x has. elim (sent_cases (length g.nodes) n h (Old 0) x) [
          | inl same ↦ inr (subst (λ y. (d : ℕ) (v : Expr) → MeansAt d e (symbol_names p) checked (redirection (length g.nodes) n h (root_to (Old 0)) y) v → MeansAt (deeper 2 d) e (symbol_names p) g y v) same
              (λ d v means. plain_back e (symbol_names p) g checked n only.arc.target check_plain.value is.constructors (unfolds_after 1 e (symbol_names p) g checked send carried stays only.arc.target check_plain.value check_plain.unfolds) check_before d v
              (subst (λ y. MeansAt d e (symbol_names p) checked y v) (sent_root (length g.nodes) n h (Old 0) ∙ check_bound) means)))
          | inr other ↦ inl other
        ];
        root = refl;
      }
