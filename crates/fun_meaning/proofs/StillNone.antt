-- An operation over finished nodes that no rule matches is matched by none after a step either.
use Rattle.std.proofs.Common.{◌≡◌, ℕ, true, false, ◌&&◌, List, [], ◌∷◌, map, length, Option, Some, None, IsSomeAnd, slice_get, unwrap_or, replicate, refl, sym, ◌∙◌, ap, subst, arith, inl, inr}
use Rattle.std.specs.List.{AllByRecursion}
use Rattle.std.proofs.lemmas.List.Elements.{All-from_recursion}
use Rattle.std.proofs.lemmas.Bool.{eq-eqb}
use Rattle.std.proofs.lemmas.Option.{none-some}
use Rattle.dactl_model.specs.declared.graph.NodeId.{NodeId}
use Rattle.dactl_model.specs.declared.graph.Label.{Label}
use Rattle.dactl_model.specs.declared.graph.Label.TheVariants.{Symbol, Integer, Character}
use Rattle.dactl_model.specs.declared.graph.Arc.{Arc}
use Rattle.dactl_model.specs.declared.graph.Node.{Node}
use Rattle.dactl_model.specs.declared.graph.Graph.{Graph}
use Rattle.dactl_model.specs.declared.program.Op.{Op}
use Rattle.dactl_model.specs.declared.program.Pat.{Pat}
use Rattle.dactl_model.specs.declared.program.Pat.TheOpen.{Pat-F}
use Rattle.dactl_model.specs.declared.program.Pat.TheViews.{roll-Pat}
use Rattle.dactl_model.specs.declared.program.Program.{Program}
use Rattle.dactl_model.specs.declared.program.Rule.{Rule}
use Rattle.dactl_model.specs.Graphs.{node_at, HasNode, IsWellFormed}
use Rattle.dactl_model.specs.Patterns.{sat, all_hold, symbol_holds, label_holds, has_symbol, is_integer, is_bound}
use Rattle.dactl_model.specs.Matching.{bound_node, integer_of, integer_in, operand, delta, FitsRange, HasResult, RuleMatches, HasNoMatch}
use Rattle.dactl_model.specs.Versions.{Content, content, content_of}
use Rattle.dactl_model.proofs.Unique.{left_true, right_true, sat_roll, bound_is}
use Rattle.fun_meaning.specs.declared.tree.Fun.{Fun}
use Rattle.fun_meaning.specs.Names.{Spelling, same_name, check_name, operation}
use Rattle.fun_meaning.specs.Meaning.{symbol_names}
use Rattle.fun_meaning.specs.Translation.{awaited, is_operation, names_operation, is_arithmetic, names_check, is_check, IsOperationRule, IsKnownRule, IsProgramOf}
use Rattle.fun_meaning.specs.Invariant.{Finished, IsStuck, IsTidy}
use Rattle.fun_meaning.proofs.Zips.{each_weaken}
use Rattle.fun_meaning.proofs.FinishedNodes.{no_flags, finished_args}
use Rattle.fun_meaning.proofs.Backwards.{IsCarried}
use Rattle.fun_meaning.proofs.Matches.{both_true}
use Rattle.fun_meaning.proofs.After.{node_there, targets_in}
use Rattle.fun_meaning.proofs.RootNode.{root_node}
use Rattle.fun_meaning.proofs.OtherSteps.{two_arcs, operation_not_check}
use Rattle.fun_meaning.proofs.KeptTidy.{label_at}

-- the symbol of an operation's node is named as one
operation_named : (symbols : List Spelling) (label : Label) (f : ℕ) (name : Spelling) → is_arithmetic symbols label ≡ true → label ≡ Symbol f → slice_get symbols f ≡ Some name → operation name ≡ None → ⊥
operation_named symbols label f name arithmetic is named none =
    let clash : true ≡ false = sym arithmetic ∙ ap (is_arithmetic symbols) is ∙ ap names_operation named ∙ ap is_operation none in
    cc

two_of : {A : Type 0} (h : List A) (a b : A) → length h ≡ 2 → slice_get h 0 ≡ Some a → slice_get h 1 ≡ Some b → h ≡ a ∷ b ∷ []
two_of [] a b long first second = absurd (omega arith)
two_of (x ∷ []) a b long first second = absurd (omega arith)
two_of (x ∷ y ∷ []) a b long first second = let one : x ≡ a = cc in let two : y ≡ b = cc in ap (λ z. z ∷ y ∷ []) one ∙ ap (λ z. a ∷ z ∷ []) two
two_of (x ∷ y ∷ z ∷ h) a b long first second = absurd (omega arith)

-- two targets, seen in the other list of arcs
record TwoTargets (arcs : List Arc) (one two : NodeId) : Type 0 where
  pub first : Arc
  pub second : Arc
  pub is : arcs ≡ first ∷ second ∷ []
  pub to_one : first.target ≡ one
  pub to_two : second.target ≡ two

two_targets : (arcs : List Arc) (one two : NodeId) → map (λ a. a.target) arcs ≡ one ∷ two ∷ [] → TwoTargets arcs one two
two_targets [] one two same = cc
two_targets (a ∷ []) one two same = cc
two_targets (a ∷ b ∷ []) one two same = record { first = a; second = b; is = refl; to_one = cc; to_two = cc }
two_targets (a ∷ b ∷ c ∷ arcs) one two same = cc

content_targets : (node : Node) (label : Label) (targets : List NodeId) → content_of (Some node) ≡ Some (record { label = label; targets = targets }) → map (λ a. a.target) node.arcs ≡ targets
content_targets node label targets is =
    let inner : ◌≡◌ {A = Content} (record { label = node.label; targets = map (λ a. a.target) node.arcs }) (record { label = label; targets = targets }) = cc in
    ap (λ c. c.targets) inner

map_stays : (send : NodeId → NodeId) (ns : List NodeId) → AllByRecursion (λ n. send n ≡ n) ns → map send ns ≡ ns
map_stays send [] all = refl
map_stays send (n ∷ ns) all = ap (λ m. m ∷ map send ns) all.0 ∙ ap (λ ms. n ∷ ms) (map_stays send ns all.1)

module _ (e : Fun) (p : Program) (g after : Graph) (send : NodeId → NodeId) (is : IsProgramOf e p) (fine : IsWellFormed g) (carried : IsCarried send g after) where
  record HasSame (t : NodeId) : Type 0 where
    pub before : Node
    pub now : Node
    pub at : node_at g t ≡ Some before
    pub now_at : node_at after t ≡ Some now
    pub label : now.label ≡ before.label

  same_from : (t : NodeId) (node : Node) (o : Option Node) → node_at g t ≡ Some node → node_at after t ≡ o → content after t ≡ Some (record { label = node.label; targets = map send (map (λ a. a.target) node.arcs) }) → HasSame t
  same_from t node None at now is_content = absurd (none-some _ (sym (ap content_of now) ∙ is_content))
  same_from t node (Some other) at now is_content = record { before = node; now = other; at = at; now_at = now; label = label_at after t other node.label (map send (map (λ a. a.target) node.arcs)) now is_content }

  has_same : (t : NodeId) → HasNode g t → HasSame t
  has_same t has =
      let there = node_there g t has in
      same_from t there.0 (node_at after t) there.1 refl (carried t (record { label = there.0.label; targets = map (λ a. a.target) there.0.arcs }) (ap content_of there.1))

  integer_same : (t : NodeId) → HasNode g t → integer_in (node_at after t) ≡ integer_in (node_at g t)
  integer_same t has = let s = has_same t has in ap integer_in s.now_at ∙ ap integer_of s.label ∙ sym (ap integer_in s.at)

  is_integer_same : (t : NodeId) → HasNode g t → label_holds (node_at after t) is_integer ≡ label_holds (node_at g t) is_integer
  is_integer_same t has = let s = has_same t has in ap (λ o. label_holds o is_integer) s.now_at ∙ ap is_integer s.label ∙ sym (ap (λ o. label_holds o is_integer) s.at)

  abbrev integer_pattern : ℕ → Pat
  integer_pattern v = roll-Pat (Pat-F.Bind v (roll-Pat Pat-F.Int))

  -- where an integer's variable is bound after, it is before
  record IsBoundBefore (h : List NodeId) (v : ℕ) (t : NodeId) : Type 0 where
    pub holds : sat g h (integer_pattern v) t ≡ true
    pub bound : slice_get h v ≡ Some t

  bound_before : (h : List NodeId) (v : ℕ) (t : NodeId) → HasNode g t → sat after h (integer_pattern v) t ≡ true → IsBoundBefore h v t
  bound_before h v t has holds =
      let level : (is_bound (slice_get h v) t && sat after h (roll-Pat Pat-F.Int) t) ≡ true = sym (sat_roll after h (Pat-F.Bind v (roll-Pat Pat-F.Int)) t) ∙ holds in
      let number : label_holds (node_at after t) is_integer ≡ true = sym (sat_roll after h Pat-F.Int t) ∙ right_true _ _ level in
      record {
        holds = sat_roll g h (Pat-F.Bind v (roll-Pat Pat-F.Int)) t ∙ both_true _ _ (left_true _ _ level) (sat_roll g h Pat-F.Int t ∙ sym (is_integer_same t has) ∙ number);
        bound = bound_is (slice_get h v) t (left_true _ _ level);
      }

  operand_same : (h : List NodeId) (v : ℕ) (t : NodeId) → HasNode g t → slice_get h v ≡ Some t → operand after h v ≡ operand g h v
  operand_same h v t has bound =
      let node : bound_node h v ≡ t = ap (λ o. unwrap_or o (record { number = 0 })) bound in
      ap (λ y. integer_in (node_at after y)) node ∙ integer_same t has ∙ sym (ap (λ y. integer_in (node_at g y)) node)

  module _ (x : NodeId) (node : Node) (at : node_at g x ≡ Some node) (arithmetic : is_arithmetic (symbol_names p) node.label ≡ true) (targets_stay : AllByRecursion (λ n. send n ≡ n) (map (λ a. a.target) node.arcs)) (none : (r : ℕ) → HasNoMatch p g x r) where
    now_content : content after x ≡ Some (record { label = node.label; targets = map (λ a. a.target) node.arcs })
    now_content = carried x (record { label = node.label; targets = map (λ a. a.target) node.arcs }) (ap content_of at)
        ∙ ap (λ ts. Some (record { label = node.label; targets = ts })) (map_stays send (map (λ a. a.target) node.arcs) targets_stay)

    operation_none : (r : ℕ) (rule : Rule) (h : List NodeId) → slice_get p.rules r ≡ Some rule → IsOperationRule (symbol_names p) rule → RuleMatches p.wide after x rule h → ⊥
    operation_none r rule h rule_at from match =
        let root = root_node after h x rule.symbol (integer_pattern 0 ∷ integer_pattern 1 ∷ []) rule.pattern (ap (λ y. y.pattern) from.is) match.holds in
        let args = two_arcs (sat after h (integer_pattern 0)) (sat after h (integer_pattern 1)) root.node.arcs root.hold in
        let same_label : root.node.label ≡ node.label = label_at after x root.node node.label (map (λ a. a.target) node.arcs) root.at now_content in
        let same_targets : map (λ a. a.target) root.node.arcs ≡ map (λ a. a.target) node.arcs = content_targets root.node node.label (map (λ a. a.target) node.arcs) (sym (ap content_of root.at) ∙ now_content) in
        let two = two_targets node.arcs args.one.target args.two.target (sym same_targets ∙ ap (λ arcs. map (λ a. a.target) arcs) args.is) in
        let have = subst (λ arcs. AllByRecursion (HasNode g) (map (λ a. a.target) arcs)) two.is (targets_in g x node fine at) in
        let has_one : HasNode g args.one.target = subst (HasNode g) two.to_one have.0 in
        let has_two : HasNode g args.two.target = subst (HasNode g) two.to_two have.1.0 in
        let left = bound_before h 0 args.one.target has_one args.one_passes in
        let right = bound_before h 1 args.two.target has_two args.two_passes in
        let hold : all_hold (map (sat g h) (integer_pattern 0 ∷ integer_pattern 1 ∷ [])) node.arcs ≡ true =
        ap (all_hold (map (sat g h) (integer_pattern 0 ∷ integer_pattern 1 ∷ []))) two.is
        ∙ both_true _ _ (ap (sat g h (integer_pattern 0)) two.to_one ∙ left.holds) (both_true _ _ (ap (sat g h (integer_pattern 1)) two.to_two ∙ right.holds) refl) in
        let holds : sat g h rule.pattern x ≡ true =
        ap (λ q. sat g h q x) (ap (λ y. y.pattern) from.is) ∙ sat_roll g h (Pat-F.Sym rule.symbol (integer_pattern 0 ∷ integer_pattern 1 ∷ [])) x
        ∙ ap (λ o. symbol_holds o rule.symbol (map (sat g h) (integer_pattern 0 ∷ integer_pattern 1 ∷ []))) at
        ∙ both_true _ _ (ap (λ l. has_symbol l rule.symbol) (sym same_label ∙ root.label) ∙ eq-eqb rule.symbol rule.symbol refl) hold in
        let long : length h ≡ 2 = match.long ∙ ap (λ y. y.variables) from.is in
        let pair : h ≡ args.one.target ∷ args.two.target ∷ [] = two_of h args.one.target args.two.target long left.bound right.bound in
        let fits_after : FitsRange p.wide (delta from.op (operand after h 0) (operand after h 1)) = subst (λ b. HasResult p.wide b after h) (ap (λ y. y.body) from.is) match.result in
        let fits_now : FitsRange p.wide (delta from.op (operand g h 0) (operand g h 1)) =
        subst (λ i. FitsRange p.wide (delta from.op (operand g h 0) i)) (operand_same h 1 args.two.target has_two right.bound) (subst (λ i. FitsRange p.wide (delta from.op i (operand after h 1))) (operand_same h 0 args.one.target has_one left.bound) fits_after) in
        none r h (subst (λ o. IsSomeAnd o (λ y. RuleMatches p.wide g x y h)) (sym rule_at) (record {
          long = match.long;
          nodes = All-from_recursion (HasNode g) h (subst (AllByRecursion (HasNode g)) (sym pair) (has_one, (has_two, tt)));
          holds = holds;
          result = subst (λ b. HasResult p.wide b g h) (sym (ap (λ y. y.body) from.is)) fits_now;
        }))

    not_named : (h : List NodeId) (f : ℕ) (args : List Pat) (q : Pat) (name : Spelling) → q ≡ roll-Pat (Pat-F.Sym f args) → sat after h q x ≡ true → slice_get (symbol_names p) f ≡ Some name → operation name ≡ None → ⊥
    not_named h f args q name shape holds named no_operation =
        let root = root_node after h x f args q shape holds in
        operation_named (symbol_names p) node.label f name arithmetic (sym (label_at after x root.node node.label (map (λ a. a.target) node.arcs) root.at now_content) ∙ root.label) named no_operation

    rule_none : (r : ℕ) (rule : Rule) (h : List NodeId) → slice_get p.rules r ≡ Some rule → IsKnownRule e (symbol_names p) rule → RuleMatches p.wide after x rule h → ⊥
    rule_none r rule h rule_at (inl operates) match = operation_none r rule h rule_at operates match
    rule_none r rule h rule_at (inr (inl some)) match =
        not_named h rule.symbol some.is.args rule.pattern some.equation.head.text some.is.pattern match.holds some.is.head (is.sound some.index some.equation some.at).no_operation
    rule_none r rule h rule_at (inr (inr (inl rest))) match =
        let inner = roll-Pat (Pat-F.Sym rule.symbol (replicate rest.count (roll-Pat Pat-F.Any))) in
        not_named h rule.symbol (replicate rest.count (roll-Pat Pat-F.Any)) inner rest.name refl
        (right_true _ _ (sym (sat_roll after h (Pat-F.Bind 0 (roll-Pat (Pat-F.Sym rule.symbol (replicate rest.count (roll-Pat Pat-F.Any))))) x) ∙ subst (λ q. sat after h q x ≡ true) rest.pattern match.holds)) rest.named rest.no_operation
    rule_none r rule h rule_at (inr (inr (inr check))) match = not_named h rule.symbol _ rule.pattern check_name check.pattern match.holds check.named refl

    none_from : (r : ℕ) (h : List NodeId) (o : Option Rule) → slice_get p.rules r ≡ o → IsSomeAnd o (λ rule. RuleMatches p.wide after x rule h) → ⊥
    none_from r h None rule_at match = match
    none_from r h (Some rule) rule_at match = rule_none r rule h rule_at (is.kinds r rule rule_at) match

    pub still_none : (r : ℕ) → HasNoMatch p after x r
    still_none r h match = none_from r h (slice_get p.rules r) refl match

arithmetic_name : (name : Spelling) (o : Option Op) → operation name ≡ o → is_operation o ≡ true → same_name name check_name ≡ false
arithmetic_name name None same is = cc
arithmetic_name name (Some o) same is = operation_not_check name o (same_name name check_name) same refl

arithmetic_names : (o : Option Spelling) → names_operation o ≡ true → names_check o ≡ false
arithmetic_names None is = refl
arithmetic_names (Some name) is = arithmetic_name name (operation name) refl is

arithmetic_no_check : (symbols : List Spelling) (label : Label) → is_arithmetic symbols label ≡ true → is_check symbols label ≡ false
arithmetic_no_check symbols (Integer i) is = refl
arithmetic_no_check symbols (Symbol f) is = arithmetic_names (slice_get symbols f) is
arithmetic_no_check symbols (Character c) is = refl

-- an operation that awaits nothing
pub unflagged_none : (e : Fun) (p : Program) (g after : Graph) (send : NodeId → NodeId) → IsProgramOf e p → IsWellFormed g → IsCarried send g after → IsTidy e p g → ((y : NodeId) → Finished e (symbol_names p) g y → send y ≡ y)
    → (x : NodeId) (node : Node) → node_at g x ≡ Some node → is_arithmetic (symbol_names p) node.label ≡ true → awaited node.mark ≡ 0 → ((r : ℕ) → HasNoMatch p g x r) → (r : ℕ) → HasNoMatch p after x r
unflagged_none e p g after send is fine carried tidy stays x node at arithmetic unmarked none =
    let here = tidy x node at in
    let finished = finished_args e p g node.label node.arcs (arithmetic_no_check (symbol_names p) node.label arithmetic) here.arcs_tidy (no_flags node.arcs (here.mark ∙ unmarked)) in
    still_none e p g after send is fine carried x node at arithmetic (each_weaken (Finished e (symbol_names p) g) (λ n. send n ≡ n) stays (map (λ a. a.target) node.arcs) finished) none

pub stuck_none : (e : Fun) (p : Program) (g after : Graph) (send : NodeId → NodeId) → IsProgramOf e p → IsWellFormed g → IsCarried send g after → IsTidy e p g → ((y : NodeId) → Finished e (symbol_names p) g y → send y ≡ y)
    → (x : NodeId) → IsStuck p g x → (r : ℕ) → HasNoMatch p after x r
stuck_none e p g after send is fine carried tidy stays x was = unflagged_none e p g after send is fine carried tidy stays x was.node was.at was.arithmetic (ap awaited was.idle) was.none
