-- What readings that agree with a graph tell of a rule is so.
use Rattle.std.proofs.Common.{◌≡◌, ℕ, zero, suc, ◌<◌, ◌↔◌, Bool, true, false, ◌||◌, not, List, [], ◌∷◌, length, All, slice_get, Option, Some, None, sym, ◌∙◌, ap, subst, refl, arith, ◌==◌, inl, inr, IsSomeAnd}
use Rattle.std.specs.List.{list_all, AllByRecursion}
use Rattle.std.proofs.lemmas.List.Elements.{recursion_from_All}
use Rattle.std.proofs.lemmas.Bool.{eqb-true, eq-eqb}
use Rattle.dactl_model.specs.declared.graph.NodeId.{NodeId}
use Rattle.dactl_model.specs.declared.graph.Graph.{Graph}
use Rattle.dactl_model.specs.declared.graph.Node.{Node}
use Rattle.dactl_model.specs.declared.graph.Mark.TheVariants.{Active}
use Rattle.dactl_model.specs.declared.graph.Event.TheVariants.{Fire, Note}
use Rattle.dactl_model.specs.declared.reading.Reading.{Reading}
use Rattle.dactl_model.specs.declared.program.Pat.TheOpen.{Pat-F}
use Rattle.dactl_model.specs.declared.program.Pat.TheViews.{roll-Pat}
use Rattle.dactl_model.specs.declared.program.Op.{Op}
use Rattle.dactl_model.specs.declared.program.Op.TheVariants as op
use Rattle.dactl_model.specs.declared.program.Body.{Body}
use Rattle.dactl_model.specs.declared.program.Body.TheVariants.{Written, Delta}
use Rattle.dactl_model.specs.declared.program.Rule.{Rule}
use Rattle.dactl_model.specs.declared.program.Program.{Program}
use Rattle.dactl_model.specs.Graphs.{node_at, HasNode, IsWellFormed}
use Rattle.dactl_model.specs.Patterns.{sat, same_node, is_integer}
use Rattle.dactl_model.specs.Programs.{IsValid, IsValidRule, IsDelta, integer_binder, arithmetic_pattern, arithmetic_rule}
use Rattle.dactl_model.specs.Matching.{bound_node, integer_of, integer_in, delta, delta_label, FitsRange, HasResult, RuleMatches, Matches, HasNoMatch, Precedes}
use Rattle.dactl_model.specs.Readings.{No, Yes, Told, told, told_all, told_symbol, told_symbol_at, told_label, reading_of, Agrees, targets_of}
use Rattle.dactl_model.specs.RuleTold.{no_conflict, bindings_told, integer_read, delta_told, HasResultTold, IsRuleYes, IsRuleNo, Agree}
use Rattle.dactl_model.specs.Laws.{ReadingsTell, ShownMayHappen}
use Rattle.dactl_model.proofs.Variables.{passes_below}
use Rattle.dactl_model.proofs.Told.{Gives, Gives-append, told_roll, seen, tells, least_sure}
use Rattle.dactl_model.proofs.RuleTells.{gives_pairs}
use Rattle.dactl_model.proofs.Pairs.{All-slice_get, ArePairs, has_pairs, has_node, pair_nodes_have, length-pair_nodes}

-- pairs that some nodes give do not conflict
head_agrees : (h : List NodeId) (x : ℕ × NodeId) (ys : List (ℕ × NodeId)) → slice_get h x.0 ≡ Some x.1 → Gives h ys → list_all (λ y. not (x.0 == y.0) || same_node x.1 y.1) ys ≡ true
head_agrees h x [] here gives = refl
head_agrees h x (y ∷ ys) here gives =
    let first : (not (x.0 == y.0) || same_node x.1 y.1) ≡ true = one (x.0 == y.0) refl in
    let rest : list_all (λ z. not (x.0 == z.0) || same_node x.1 z.1) ys ≡ true = head_agrees h x ys here gives.1 in
    rw (first, rest) refl
  where
    one : (b : Bool) → (x.0 == y.0) ≡ b → (not b || same_node x.1 y.1) ≡ true
    one false e = refl
    one true e =
        let at : x.0 ≡ y.0 = eqb-true x.0 y.0 e in
        let both : Some x.1 ≡ Some y.1 = sym here ∙ (ap (slice_get h) at ∙ gives.0) in
        let same : x.1 ≡ y.1 = cc in
        eq-eqb x.1.number y.1.number (ap (λ m. m.number) same)

given_agree : (h : List NodeId) (pairs : List (ℕ × NodeId)) → Gives h pairs → no_conflict pairs ≡ true
given_agree h [] gives = refl
given_agree h (x ∷ xs) gives =
    let first : list_all (λ y. not (x.0 == y.0) || same_node x.1 y.1) xs ≡ true = head_agrees h x xs gives.0 gives.1 in
    let rest : no_conflict xs ≡ true = given_agree h xs gives.1 in
    rw (first, rest) refl

same_pattern : (rule other : Rule) (o : Option Rule) → o ≡ Some rule → o ≡ Some other → rule.pattern ≡ other.pattern
same_pattern rule other o is also = let same : rule ≡ other = cc in ap (λ x. x.pattern) same

-- each of the first five rules is over two integers
is_arithmetic : (p : Program) (r : ℕ) (rule : Rule) → IsValid p → slice_get p.rules r ≡ Some rule → r < 5 → rule.pattern ≡ arithmetic_pattern r
is_arithmetic p zero rule valid is below = same_pattern rule (arithmetic_rule 0 op.Add) _ is valid.add
is_arithmetic p (suc zero) rule valid is below = same_pattern rule (arithmetic_rule 1 op.Sub) _ is valid.sub
is_arithmetic p (suc (suc zero)) rule valid is below = same_pattern rule (arithmetic_rule 2 op.Mul) _ is valid.mul
is_arithmetic p (suc (suc (suc zero))) rule valid is below = same_pattern rule (arithmetic_rule 3 op.Eq) _ is valid.eq
is_arithmetic p (suc (suc (suc (suc zero)))) rule valid is below = same_pattern rule (arithmetic_rule 4 op.Lt) _ is valid.lt
is_arithmetic p (suc (suc (suc (suc (suc r))))) rule valid is below = absurd (omega arith)

module _ (g : Graph) (rs : List Reading) (agree : AllByRecursion (Agrees g) rs) where
  -- the integer of a node was read as it is
  abbrev IsRead : NodeId → Type 0
  IsRead a = integer_read (reading_of rs a) ≡ integer_in (node_at g a)

  -- two nodes whose integers were read, and which each list of nodes that gives the pairs has for variables 0 and 1
  record HasOperands (pairs : List (ℕ × NodeId)) : Type 0 where
    pub left : NodeId
    pub right : NodeId
    pub left_read : IsRead left
    pub right_read : IsRead right
    pub left_given : (h : List NodeId) → Gives h pairs → slice_get h 0 ≡ Some left
    pub right_given : (h : List NodeId) → Gives h pairs → slice_get h 1 ≡ Some right

  read_at : (a : NodeId) (o : Option Reading) → reading_of rs a ≡ o → (told_label o is_integer).value ≡ Yes → IsRead a
  read_at a None found e = cc
  read_at a (Some r) found e = let s = seen g a rs r agree found in ap integer_read found ∙ ap integer_of (sym s.label) ∙ sym (ap integer_in s.at)

  binder_read : (v : ℕ) (a : NodeId) → (told rs (integer_binder v) a).value ≡ Yes → IsRead a
  binder_read v a e = read_at a (reading_of rs a) refl (sym (ap (λ t. t.value) (told_roll rs (Pat-F.Bind v (roll-Pat Pat-F.Int)) a) ∙ ap (λ t. t.value) (told_roll rs Pat-F.Int a)) ∙ e)

  binder_given : (h : List NodeId) (v : ℕ) (a : NodeId) → Gives h (told rs (integer_binder v) a).pairs → slice_get h v ≡ Some a
  binder_given h v a gives = (subst (λ t. Gives h t.pairs) (told_roll rs (Pat-F.Bind v (roll-Pat Pat-F.Int)) a) gives).0

  abbrev operand_tests : List (NodeId → Told)
  operand_tests = told rs (integer_binder 0) ∷ told rs (integer_binder 1) ∷ []

  operands_of : (targets : List NodeId) → (told_all operand_tests targets).value ≡ Yes → HasOperands (told_all operand_tests targets).pairs
  operands_of [] e = cc
  operands_of (a ∷ []) e = let both = least_sure g rs agree (told rs (integer_binder 0) a).value No e in let clash : No ≡ Yes = both.1 in cc
  operands_of (a ∷ b ∷ targets) e =
      let first = least_sure g rs agree _ _ e in
      let second = least_sure g rs agree _ _ first.1 in
      record {
        left = a;
        right = b;
        left_read = binder_read 0 a first.0;
        right_read = binder_read 1 b second.0;
        left_given = λ h gives. binder_given h 0 a (Gives-append h _ _ gives).0;
        right_given = λ h gives. binder_given h 1 b (Gives-append h _ _ (Gives-append h (told rs (integer_binder 0) a).pairs _ gives).1).0;
      }

  operands_at : (t : Bool) (targets : List NodeId) → (told_symbol_at t operand_tests targets).value ≡ Yes → HasOperands (told_symbol_at t operand_tests targets).pairs
  operands_at false targets e = cc
  operands_at true targets e = operands_of targets e

  operands_read : (f : ℕ) (o : Option Reading) → (told_symbol o f operand_tests).value ≡ Yes → HasOperands (told_symbol o f operand_tests).pairs
  operands_read f None e = cc
  operands_read f (Some r) e = operands_at _ (targets_of r.targets) e

  operands : (f : ℕ) (n : NodeId) → (told rs (arithmetic_pattern f) n).value ≡ Yes → HasOperands (told rs (arithmetic_pattern f) n).pairs
  operands f n e =
      let at = told_roll rs (Pat-F.Sym f (integer_binder 0 ∷ integer_binder 1 ∷ [])) n in
      subst (λ t. HasOperands t.pairs) (sym at) (operands_read f (reading_of rs n) (sym (ap (λ t. t.value) at) ∙ e))

  bound_is_given : (h : List NodeId) (v : ℕ) (a : NodeId) → slice_get h v ≡ Some a → bound_node h v ≡ a
  bound_is_given h v a e = rw e refl

  same_result : (f : ℕ) (n : NodeId) (o : Op) (h k : List NodeId) → (told rs (arithmetic_pattern f) n).value ≡ Yes → Gives h (told rs (arithmetic_pattern f) n).pairs → Gives k (told rs (arithmetic_pattern f) n).pairs
      → delta_told o rs k ≡ delta_label o g h
  same_result f n o h k e gives also =
      let read = operands f n e in
      let h0 = bound_is_given h 0 read.left (read.left_given h gives) in
      let h1 = bound_is_given h 1 read.right (read.right_given h gives) in
      let k0 = bound_is_given k 0 read.left (read.left_given k also) in
      let k1 = bound_is_given k 1 read.right (read.right_given k also) in
      let left : integer_read (reading_of rs (bound_node k 0)) ≡ integer_in (node_at g (bound_node h 0)) = ap (λ a. integer_read (reading_of rs a)) k0 ∙ read.left_read ∙ sym (ap (λ a. integer_in (node_at g a)) h0) in
      let right : integer_read (reading_of rs (bound_node k 1)) ≡ integer_in (node_at g (bound_node h 1)) = ap (λ a. integer_read (reading_of rs a)) k1 ∙ read.right_read ∙ sym (ap (λ a. integer_in (node_at g a)) h1) in
      ap (λ x. delta o x (integer_read (reading_of rs (bound_node k 1)))) left ∙ ap (λ y. delta o (integer_in (node_at g (bound_node h 0))) y) right

  module _ (p : Program) (n : NodeId) (r : ℕ) (rule : Rule) (valid : IsValid p) (fine : IsWellFormed g) (has : HasNode g n) (is_rule : slice_get p.rules r ≡ Some rule) where
    rule_fine : IsValidRule (length p.symbols) r rule
    rule_fine = valid.rules r rule is_rule

    pairs_fine : ArePairs rule.variables g (told rs rule.pattern n).pairs
    pairs_fine = has_pairs rule.variables g rs fine agree rule.pattern (passes_below rule.variables rule.pattern (λ v bound. (rule_fine.variables v).0 bound)) n has

    given : no_conflict (told rs rule.pattern n).pairs ≡ true → Gives (bindings_told rs n rule) (told rs rule.pattern n).pairs
    given agreed = gives_pairs _ rule.variables agreed (variables_of _ pairs_fine)
      where
        variables_of : (pairs : List (ℕ × NodeId)) → ArePairs rule.variables g pairs → AllByRecursion (λ y. y.0 < rule.variables) pairs
        variables_of [] are = tt
        variables_of (x ∷ xs) are = (are.0.variable, variables_of xs are.1)

    -- the result of an operation is the one that was told
    results : (body : Body) → rule.body ≡ body → (h k : List NodeId) → (told rs rule.pattern n).value ≡ Yes → Gives h (told rs rule.pattern n).pairs → Gives k (told rs rule.pattern n).pairs → HasResultTold p.wide body rs k ↔ HasResult p.wide body g h
    results (Written fresh moves wakes suspend) is h k e gives also = (λ told. tt, λ result. tt)
    results (Delta o) is h k e gives also =
        let below : r < 5 = rule_fine.delta (subst IsDelta (sym is) tt) in
        let pattern : rule.pattern ≡ arithmetic_pattern r = is_arithmetic p r rule valid is_rule below in
        let same : delta_told o rs k ≡ delta_label o g h =
        same_result r n o h k (subst (λ q. (told rs q n).value ≡ Yes) pattern e) (subst (λ q. Gives h (told rs q n).pairs) pattern gives) (subst (λ q. Gives k (told rs q n).pairs) pattern also) in
        (λ told. subst (FitsRange p.wide) same told, λ result. subst (FitsRange p.wide) (sym same) result)

    rule_matches : IsRuleYes p.wide rs n rule → RuleMatches p.wide g n rule (bindings_told rs n rule)
    rule_matches sure =
        let gives = given sure.agreed in
        record {
          long = length-pair_nodes _ 0 rule.variables;
          nodes = pair_nodes_have rule.variables g fine _ pairs_fine rule.variables;
          holds = (tells g rs agree rule.pattern).sure true rule_fine.in_place _ n sure.pattern gives;
          result = (results rule.body refl _ _ sure.pattern gives gives).0 sure.result;
        }

    none_matches : IsRuleNo p.wide rs n rule → (h : List NodeId) → RuleMatches p.wide g n rule h → ⊥
    none_matches denied h is =
        let gives : Gives h (told rs rule.pattern n).pairs = (tells g rs agree rule.pattern).pairs h n is.holds in
        let agreed : no_conflict (told rs rule.pattern n).pairs ≡ true = given_agree h _ gives in
        elim denied [
          | inl fails ↦ (let f : sat g h rule.pattern n ≡ false = (tells g rs agree rule.pattern).no true rule_fine.in_place h n fails in let t : sat g h rule.pattern n ≡ true = is.holds in let clash : true ≡ false = sym t ∙ f in absurd cc)
          | inr (inl conflict) ↦ (let clash : true ≡ false = sym agreed ∙ conflict in absurd cc)
          | inr (inr out) ↦ out.1 ((results rule.body refl h (bindings_told rs n rule) out.0 gives (given agreed)).1 is.result)
        ]

pub readings_tell : ReadingsTell
readings_tell p g rs n r rule valid fine agree has is_rule =
    let each = recursion_from_All (Agrees g) rs agree in
    (λ sure. rw is_rule (rule_matches g rs each p n r rule valid fine has is_rule sure), λ denied h is. none_matches g rs each p n r rule valid fine has is_rule denied h (rw is_rule at is))

has_active : (g : Graph) (n : NodeId) (o : Option Node) → node_at g n ≡ o → IsSomeAnd o (λ node. node.mark ≡ Active) → HasNode g n
has_active g n None at is = absurd is
has_active g n (Some node) at is = has_node g n node at

none_of : (p : Program) (g : Graph) (rs : List Reading) (n : NodeId) → IsValid p → IsWellFormed g → Agree rs g → HasNode g n → All (λ rule. IsRuleNo p.wide rs n rule) p.rules → (r : ℕ) (o : Option Rule) → slice_get p.rules r ≡ o → HasNoMatch p g n r
none_of p g rs n valid fine agree has denied r None is = λ h matches. absurd (rw is at matches)
none_of p g rs n valid fine agree has denied r (Some rule) is = (readings_tell p g rs n r rule valid fine agree has is).1 (All-slice_get (λ x. IsRuleNo p.wide rs n x) p.rules r rule denied is)

pub shown_may_happen : ShownMayHappen
shown_may_happen p g rs bindings (Fire n r) valid fine agree shows active =
    let has = has_active g n (node_at g n) refl active in
    let matches : Matches p g n r bindings = subst (Matches p g n r) (sym shows.bindings_are) ((readings_tell p g rs n r shows.rule valid fine agree has shows.is_rule).0 shows.yes) in
    let first = λ (s : ℕ) (earlier : Precedes p s r). (readings_tell p g rs n s earlier.earlier valid fine agree has earlier.is_earlier).1 (shows.first s earlier.earlier earlier.is_earlier earlier) in
    (record { active = active; matching = (bindings, matches); first = first }, matches)
shown_may_happen p g rs bindings (Note n) valid fine agree shows active =
    record { active = active; none = λ r. none_of p g rs n valid fine agree (has_active g n (node_at g n) refl active) shows.none r (slice_get p.rules r) refl }
