-- What the translation of sound equations means is a program of them.
use Rattle.std.proofs.Common.{◌≡◌, ℕ, zero, suc, ◌+◌, Bool, true, false, not, ◌||◌, List, [], ◌∷◌, ◌++◌, map, length, replicate, codes, Option, Some, None, slice_get, refl, sym, ◌∙◌, ap, subst, arith, ◌⊎◌, inl, inr}
use Rattle.std.specs.List.{AllByRecursion, list_any, flat_map, enumerate_from}
use Rattle.std.proofs.lemmas.List.{append-nil}
use Rattle.std.proofs.lemmas.Bool.{eqb-true}
use Rattle.dactl_model.specs.declared.program.Class.TheVariants as classes
use Rattle.dactl_model.specs.declared.program.Mention.{Mention}
use Rattle.dactl_model.specs.declared.program.Mention.TheVariants.{Old, Fresh}
use Rattle.dactl_model.specs.declared.program.FreshNode.{FreshNode}
use Rattle.dactl_model.specs.declared.program.Op.{Op}
use Rattle.dactl_model.specs.declared.program.Op.TheVariants.{Add, Sub, Mul, Eq, Lt}
use Rattle.dactl_model.specs.declared.program.Pat.TheOpen.{Pat-F}
use Rattle.dactl_model.specs.declared.program.Pat.TheViews.{roll-Pat}
use Rattle.dactl_model.specs.declared.program.Rule.{Rule}
use Rattle.dactl_model.specs.declared.program.Start.{Start}
use Rattle.dactl_model.specs.declared.program.Program.{Program}
use Rattle.dactl_model.specs.Programs.{arithmetic_rule}
use Rattle.dactl_model.proofs.Unique.{left_true, right_true}
use Rattle.dactl_meaning.specs.declared.tree.Name.{Name}
use Rattle.dactl_meaning.specs.declared.tree.Group.{Group}
use Rattle.dactl_meaning.specs.declared.tree.Item.{Item}
use Rattle.dactl_meaning.specs.declared.tree.Item.TheVariants as item
use Rattle.dactl_meaning.specs.declared.tree.RuleTree.{RuleTree}
use Rattle.dactl_meaning.specs.declared.tree.TermTree.{TermTree}
use Rattle.dactl_meaning.specs.Declarations.{Placed, items, PlacedGroup, item_groups, groups}
use Rattle.dactl_meaning.specs.Sight.{sees}
use Rattle.dactl_meaning.specs.Expansion.{is_among}
use Rattle.dactl_meaning.specs.Contractum.{term_draws, made_by, denotes, fresh_nodes}
use Rattle.dactl_meaning.specs.Meaning.{rule_of, rules_from, arithmetic_rules, PlacedInitial, item_initial, all_initials, node_number, start_by, program_of}
use Rattle.fun_meaning.specs.declared.tree.Equation.{Equation}
use Rattle.fun_meaning.specs.declared.tree.Fun.{Fun}
use Rattle.fun_meaning.specs.Names.{Spelling, same_name, true_name, false_name, check_name, operation}
use Rattle.fun_meaning.specs.Values.{is_constructor, word}
use Rattle.fun_meaning.specs.Meaning.{symbol_names}
use Rattle.fun_meaning.specs.Translation.{StandsAt, head_arity, named_arity, arity, NoOperation, IsTidyFresh, IsEquationRule, IsOperationRule, IsKnownRule, HasRestRule, IsProgramOf}
use Rattle.fun_meaning.proofs.Matches.{same_name_refl, same_name_is}
use Rattle.fun_compile.specs.Translated.{constructor_items, trees_of, groups_of, equation_tree, rest_tree, check_tree, top, translated}
use Rattle.dactl_meaning.specs.Unplaced.{nowhere}
use Rattle.fun_meaning.specs.Functions.{arithmetic_name, functions, first_ones, names_of, constructors}
use Rattle.fun_meaning.specs.Sound.{arity_fits, fits_in, AreSound}
use Rattle.fun_laws.proofs.DrawnStands.{IsSeenName}
use Rattle.fun_laws.proofs.PatternsStand.{IsSeen}
use Rattle.fun_laws.proofs.EquationRules.{IsContractum, contractum, equation_rule}
use Rattle.fun_laws.proofs.LastRules.{rest_is, rest_rule, check_rule}
use Rattle.fun_laws.proofs.SeenNames.{words_are, seen_name, seen_number}
use Rattle.fun_laws.proofs.Heads.{among_left, among_right, first_stood, first_of, head_has, head_among, among_get, placed, rules_at, rules_back}
use Rattle.fun_laws.proofs.Lists.{append_cases, get_in_left, get_in_right, or_right}
use Rattle.fun_meaning.proofs.After.{get_map}
use Rattle.fun_meaning.proofs.FireTidy.{get_unmap}

-- ---- the items' groups and INITIAL

abbrev pub items_by : List Spelling → List Name → List Item → List Placed
items_by heads names more =
    map (λ (i : ℕ × Item). record { owner = 0; number = i.0; item = i.1 }) (enumerate_from 0 (item.Imports (word arithmetic_name ∷ []) ∷ item.Symbols classes.Rewritable None (map word heads) ∷ (constructor_items names ++ more)))

groups_by : (heads : List Spelling) (names : List Name) (gs : List Group) (terms : List TermTree) → flat_map (λ (i : Placed). item_groups i.owner i.item) (items_by heads names (item.Rules gs ∷ item.Initial nowhere terms ∷ [])) ≡ map placed gs ++ []
groups_by heads [] gs terms = refl
groups_by heads (g ∷ names) gs terms = refl

initials_by : (heads : List Spelling) (names : List Name) (gs : List Group) (terms : List TermTree) → flat_map (λ (i : Placed). item_initial i.owner i.item) (items_by heads names (item.Rules gs ∷ item.Initial nowhere terms ∷ [])) ≡ record { owner = 0; terms = terms } ∷ []
initials_by heads [] gs terms = refl
initials_by heads (g ∷ names) gs terms = refl

pub items_are : (e : Fun) → items (translated e) ≡ items_by (functions e ++ check_name ∷ []) e.constructors (item.Rules (groups_of e) ∷ item.Initial nowhere (top e e.main ∷ []) ∷ [])
items_are e = append-nil (items_by (functions e ++ check_name ∷ []) e.constructors (item.Rules (groups_of e) ∷ item.Initial nowhere (top e e.main ∷ []) ∷ []))

pub groups_are : (e : Fun) → groups (translated e) ≡ map placed (groups_of e)
groups_are e = ap (flat_map (λ (i : Placed). item_groups i.owner i.item)) (items_are e) ∙ groups_by (functions e ++ check_name ∷ []) e.constructors (groups_of e) (top e e.main ∷ []) ∙ append-nil (map placed (groups_of e))

pub initials_are : (e : Fun) → all_initials (translated e) ≡ record { owner = 0; terms = top e e.main ∷ [] } ∷ []
initials_are e = ap (flat_map (λ (i : Placed). item_initial i.owner i.item)) (items_are e) ∙ initials_by (functions e ++ check_name ∷ []) e.constructors (groups_of e) (top e e.main ∷ [])

not_true : (b : Bool) → not b ≡ true → b ≡ false
not_true true is = cc
not_true false is = refl

fits_arity : (o : Option ℕ) (count k : ℕ) → arity_fits o count ≡ true → o ≡ Some k → count ≡ k
fits_arity None count k is has = absurd (cc has)
fits_arity (Some j) count k is has = let one : j ≡ count = eqb-true j count is in let two : j ≡ k = cc in sym one ∙ two

-- a mention that is of no variable
fresh_mention : (symbols : List Spelling) (fresh : List FreshNode) (t : Mention) → NoOperation symbols 0 fresh t → t ≡ Fresh (node_number t)
fresh_mention symbols fresh (Old v) is = absurd (omega arith)
fresh_mention symbols fresh (Fresh i) is = refl

-- the names before the text's own
abbrev pub built : List Spelling
built = codes "IAdd" ∷ codes "ISub" ∷ codes "IMul" ∷ codes "IEq" ∷ codes "ILt" ∷ codes "True" ∷ codes "False" ∷ []

any_same : (g : Spelling) (names : List Name) (i : ℕ) → slice_get (map (λ (c : Name). c.text) names) i ≡ Some g → list_any (λ (c : Name). same_name g c.text) names ≡ true
any_same g [] i at = absurd (cc at)
any_same g (x ∷ names) zero at = let same : x.text ≡ g = cc in ap (λ b. b || list_any (λ (c : Name). same_name g c.text) names) (ap (same_name g) same ∙ same_name_refl g)
any_same g (x ∷ names) (suc i) at = or_right (same_name g x.text) (list_any (λ (c : Name). same_name g c.text) names) (any_same g names i at)

operation_kind : (e : Fun) (r : ℕ) (rule : Rule) → slice_get arithmetic_rules r ≡ Some rule → IsOperationRule (names_of e) rule
operation_kind e zero rule at = let same : arithmetic_rule 0 Add ≡ rule = cc in subst (IsOperationRule (names_of e)) same (record { name = codes "IAdd"; op = Add; named = refl; operates = refl; is = refl })
operation_kind e (suc zero) rule at = let same : arithmetic_rule 1 Sub ≡ rule = cc in subst (IsOperationRule (names_of e)) same (record { name = codes "ISub"; op = Sub; named = refl; operates = refl; is = refl })
operation_kind e (suc (suc zero)) rule at = let same : arithmetic_rule 2 Mul ≡ rule = cc in subst (IsOperationRule (names_of e)) same (record { name = codes "IMul"; op = Mul; named = refl; operates = refl; is = refl })
operation_kind e (suc (suc (suc zero))) rule at = let same : arithmetic_rule 3 Eq ≡ rule = cc in subst (IsOperationRule (names_of e)) same (record { name = codes "IEq"; op = Eq; named = refl; operates = refl; is = refl })
operation_kind e (suc (suc (suc (suc zero)))) rule at = let same : arithmetic_rule 4 Lt ≡ rule = cc in subst (IsOperationRule (names_of e)) same (record { name = codes "ILt"; op = Lt; named = refl; operates = refl; is = refl })
operation_kind e (suc (suc (suc (suc (suc r))))) rule at = absurd (cc at)

-- a head that is neither an operation nor Chk
head_arity_is : (e : Fun) (g : Spelling) (o : Option Op) (b : Bool) → operation g ≡ None → same_name g check_name ≡ false → arity e g ≡ head_arity e.equations g
head_arity_is e g o b none no_check = ap (λ o. named_arity e.equations g o (same_name g check_name)) none ∙ ap (named_arity e.equations g None) no_check

module _ (e : Fun) (s : AreSound e) where
  pub seen_of : (g : Spelling) → is_among (names_of e) g ≡ true → IsSeen (names_of e) (sees (translated e) 0) g
  seen_of g among = seen_name e g (s.apart g among) among

  pub seen_as : (g : Spelling) (count : ℕ) → fits_in e g count ≡ true → IsSeenName e (names_of e) (sees (translated e) 0) g count × (same_name g check_name ≡ false)
  seen_as g count is =
      let here = seen_of g (left_true _ _ is) in (
        record { number = here.number; class = here.class; seen = here.seen; named = here.named; fits = λ k has. fits_arity (arity e g) count k (right_true _ _ (right_true (is_among (names_of e) g) _ is)) has },
        not_true (same_name g check_name) (left_true _ _ (right_true (is_among (names_of e) g) _ is)),
      )

  pub check_in : is_among (names_of e) check_name ≡ true
  check_in = among_right built ((functions e ++ check_name ∷ []) ++ constructors e) check_name (among_left (functions e ++ check_name ∷ []) (constructors e) check_name (among_right (functions e) (check_name ∷ []) check_name refl))

  check_as : IsSeenName e (names_of e) (sees (translated e) 0) check_name 1
  check_as =
      let here = seen_of check_name check_in in
      record { number = here.number; class = here.class; seen = here.seen; named = here.named; fits = λ k has. let one : Some 1 ≡ Some k = has in cc }

  pub head_in : (i : ℕ) (eq : Equation) → slice_get e.equations i ≡ Some eq → is_among (names_of e) eq.head.text ≡ true
  head_in i eq at =
      among_right built ((functions e ++ check_name ∷ []) ++ constructors e) eq.head.text (among_left (functions e ++ check_name ∷ []) (constructors e) eq.head.text (among_left (functions e) (check_name ∷ []) eq.head.text (head_among e.equations i eq at)))

  pub true_in : is_among (names_of e) true_name ≡ true
  true_in = refl

  pub false_in : is_among (names_of e) false_name ≡ true
  false_in = refl

  pub true_number : (seen_of true_name true_in).number ≡ 5
  unfolding seen_of
  true_number = seen_number e true_name (s.apart true_name true_in) true_in

  pub false_number : (seen_of false_name false_in).number ≡ 6
  unfolding seen_of
  false_number = seen_number e false_name (s.apart false_name false_in) false_in

  no_operation : (g : Spelling) → is_constructor e g ≡ true → operation g ≡ None
  no_operation g constructor = (s.constructors g constructor).0

  pub equation_is : (i : ℕ) (eq : Equation) → slice_get e.equations i ≡ Some eq → IsEquationRule e (names_of e) i eq (rule_of (translated e) 0 (5 + i) (equation_tree e eq))
  equation_is i eq at =
      equation_rule e (names_of e) (translated e) (fits_in e) (is_among (names_of e)) seen_as check_as no_operation seen_of i eq (seen_of eq.head.text (head_in i eq at)) (s.heads i eq at).once (s.patterns i eq at) (s.rights i eq at)

  abbrev own_rules : List Rule
  own_rules = rules_from (translated e) 5 (map placed (groups_of e))

  rules_are : (program_of (translated e)).rules ≡ arithmetic_rules ++ own_rules
  rules_are = ap (λ (gs : List PlacedGroup). arithmetic_rules ++ rules_from (translated e) 5 gs) (groups_are e)

  rule_at : (j : ℕ) (t : RuleTree) → slice_get (trees_of e) j ≡ Some t → slice_get (program_of (translated e)).rules (5 + j) ≡ Some (rule_of (translated e) 0 (5 + j) t)
  rule_at j t at = ap (λ (rs : List Rule). slice_get rs (5 + j)) rules_are ∙ get_in_right arithmetic_rules own_rules j ∙ rules_at (translated e) (trees_of e) 5 j t at

  abbrev pub rest_trees : List RuleTree
  rest_trees = map (λ (eq : Equation). rest_tree eq.head.text (length eq.patterns)) (first_ones e.equations)

  abbrev pub last_trees : List RuleTree
  last_trees = check_tree ∷ rest_tree check_name 1 ∷ []

  rest_kind : (group : ℕ) (j : ℕ) (eq : Equation) → slice_get (first_ones e.equations) j ≡ Some eq → IsKnownRule e (names_of e) (rule_of (translated e) 0 group (rest_tree eq.head.text (length eq.patterns)))
  rest_kind group j eq at =
      let there = first_stood e.equations j eq at in
      inr (inr (inl (rest_rule (names_of e) (translated e) group eq.head.text (length eq.patterns) (seen_of eq.head.text (head_in there.0 eq there.1)) (s.heads there.0 eq there.1).no_operation)))

  last_kind : (group i : ℕ) (t : RuleTree) → slice_get last_trees i ≡ Some t → IsKnownRule e (names_of e) (rule_of (translated e) 0 group t)
  last_kind group zero t at =
      let same : check_tree ≡ t = cc in
      subst (λ z. IsKnownRule e (names_of e) (rule_of (translated e) 0 group z)) same
      (inr (inr (inr (check_rule (names_of e) (translated e) group (seen_of check_name check_in) (seen_of true_name true_in) (seen_of false_name false_in) true_number false_number))))
  last_kind group (suc zero) t at =
      let same : rest_tree check_name 1 ≡ t = cc in
      subst (λ z. IsKnownRule e (names_of e) (rule_of (translated e) 0 group z)) same (inr (inr (inl (rest_rule (names_of e) (translated e) group check_name 1 (seen_of check_name check_in) refl))))
  last_kind group (suc (suc i)) t at = absurd (cc at)

  tree_kind : (j : ℕ) (t : RuleTree) → slice_get (trees_of e) j ≡ Some t → IsKnownRule e (names_of e) (rule_of (translated e) 0 (5 + j) t)
  tree_kind j t at =
      elim (append_cases (map (equation_tree e) e.equations) (rest_trees ++ last_trees) j t at) [
        | inl here ↦
            let from = get_unmap (equation_tree e) e.equations j t here in
            subst (λ z. IsKnownRule e (names_of e) (rule_of (translated e) 0 (5 + j) z)) (sym from.2) (inr (inl (record { index = j; equation = from.0; at = from.1; is = equation_is j from.0 from.1 })))
        | inr (i, there, sum) ↦
            elim (append_cases rest_trees last_trees i t there) [
              | inl here ↦
                  let from = get_unmap (λ (eq : Equation). rest_tree eq.head.text (length eq.patterns)) (first_ones e.equations) i t here in
                  subst (λ z. IsKnownRule e (names_of e) (rule_of (translated e) 0 (5 + j) z)) (sym from.2) (rest_kind (5 + j) i from.0 from.1)
              | inr (m, last, total) ↦ last_kind (5 + j) m t last
            ]
      ]

  kinds_are : (r : ℕ) (rule : Rule) → slice_get (program_of (translated e)).rules r ≡ Some rule → IsKnownRule e (names_of e) rule
  kinds_are r rule at =
      elim (append_cases arithmetic_rules own_rules r rule (sym (ap (λ (rs : List Rule). slice_get rs r) rules_are) ∙ at)) [
        | inl here ↦ inl (operation_kind e r rule here)
        | inr (j, there, sum) ↦
            let from = rules_back (translated e) (trees_of e) 5 j rule there in
            subst (IsKnownRule e (names_of e)) (sym from.2) (tree_kind j from.0 from.1)
      ]

  rest_from : (f k j : ℕ) (g : Spelling) → slice_get (names_of e) f ≡ Some g → slice_get (trees_of e) j ≡ Some (rest_tree g k) → HasRestRule (program_of (translated e)) f k
  rest_from f k j g named at =
      let here = seen_of g (among_get (names_of e) f g named) in
      let is = rest_is (names_of e) (translated e) (5 + j) g k here in
      let number : here.number ≡ f = sym (s.once here.number g here.named) ∙ s.once f g named in
      record {
        number = 5 + j;
        rule = rule_of (translated e) 0 (5 + j) (rest_tree g k);
        at = rule_at j (rest_tree g k) at;
        variables = is.variables;
        pattern = is.pattern ∙ ap (λ i. roll-Pat (Pat-F.Bind 0 (roll-Pat (Pat-F.Sym i (replicate k (roll-Pat Pat-F.Any)))))) number;
        body = is.body;
      }

  in_rest : (i : ℕ) (t : RuleTree) → slice_get (rest_trees ++ last_trees) i ≡ Some t → slice_get (trees_of e) (length (map (equation_tree e) e.equations) + i) ≡ Some t
  in_rest i t at = get_in_right (map (equation_tree e) e.equations) (rest_trees ++ last_trees) i ∙ at

  rest_has : (f k : ℕ) (g : Spelling) (b : Bool) → slice_get (names_of e) f ≡ Some g → operation g ≡ None → same_name g check_name ≡ b → arity e g ≡ Some k → HasRestRule (program_of (translated e)) f k
  rest_has f k g true named none check has =
      let is : g ≡ check_name = same_name_is g check_name check in
      let one : Some 1 ≡ Some k = sym (ap (λ o. named_arity e.equations g o (same_name g check_name)) none ∙ ap (named_arity e.equations g None) check) ∙ has in
      let count : 1 ≡ k = cc in
      rest_from f k (length (map (equation_tree e) e.equations) + (length rest_trees + 1)) g named
      (in_rest (length rest_trees + 1) (rest_tree g k) (get_in_right rest_trees last_trees 1 ∙ ap (λ n. Some (rest_tree check_name n)) count ∙ ap (λ n. Some (rest_tree n k)) (sym is)))
  rest_has f k g false named none check has =
      let first = first_of e.equations g k (sym (head_arity_is e g None false none check) ∙ has) in
      rest_from f k (length (map (equation_tree e) e.equations) + first.place) g named
      (in_rest first.place (rest_tree g k) (get_in_left rest_trees last_trees first.place (rest_tree g k)
      (get_map (λ (eq : Equation). rest_tree eq.head.text (length eq.patterns)) (first_ones e.equations) first.place first.equation first.at ∙ ap (λ n. Some (rest_tree n (length first.equation.patterns))) first.head ∙ ap (λ n. Some (rest_tree g n)) first.long)))

  known_by : (f : ℕ) (g : Spelling) → slice_get (names_of e) f ≡ Some g → (is_constructor e g ≡ true) ⊎ ((k : ℕ) × (arity e g ≡ Some k))
  known_by zero g at = let same : codes "IAdd" ≡ g = cc in inr (2, ap (arity e) (sym same))
  known_by (suc zero) g at = let same : codes "ISub" ≡ g = cc in inr (2, ap (arity e) (sym same))
  known_by (suc (suc zero)) g at = let same : codes "IMul" ≡ g = cc in inr (2, ap (arity e) (sym same))
  known_by (suc (suc (suc zero))) g at = let same : codes "IEq" ≡ g = cc in inr (2, ap (arity e) (sym same))
  known_by (suc (suc (suc (suc zero)))) g at = let same : codes "ILt" ≡ g = cc in inr (2, ap (arity e) (sym same))
  known_by (suc (suc (suc (suc (suc zero))))) g at = let same : codes "True" ≡ g = cc in inl (ap (is_constructor e) (sym same))
  known_by (suc (suc (suc (suc (suc (suc zero)))))) g at = let same : codes "False" ≡ g = cc in inl (ap (is_constructor e) (sym same))
  known_by (suc (suc (suc (suc (suc (suc (suc f))))))) g at =
      elim (append_cases (functions e ++ check_name ∷ []) (constructors e) f g at) [
        | inl here ↦
            elim (append_cases (functions e) (check_name ∷ []) f g here) [
              | inl function ↦
                  let from = get_unmap (λ (eq : Equation). eq.head.text) (first_ones e.equations) f g function in
                  let there = first_stood e.equations f from.0 from.1 in
                  let sound = s.heads there.0 from.0 there.1 in
                  let has = head_has e.equations there.0 from.0 there.1 in
                  inr (has.0, ap (arity e) from.2 ∙ head_arity_is e from.0.head.text None false sound.no_operation sound.no_check ∙ has.1)
              | inr (i, check, sum) ↦ check_known i g check
            ]
        | inr (i, there, sum) ↦ inl (or_right (same_name g true_name) _ (or_right (same_name g false_name) _ (any_same g e.constructors i there)))
      ]
    where
      check_known : (i : ℕ) (h : Spelling) → slice_get (check_name ∷ []) i ≡ Some h → (is_constructor e h ≡ true) ⊎ ((k : ℕ) × (arity e h ≡ Some k))
      check_known zero h is = let same : check_name ≡ h = cc in inr (1, ap (arity e) (sym same))
      check_known (suc i) h is = absurd (cc is)

  main_is : IsContractum e (names_of e) (translated e) (fits_in e) (is_among (names_of e)) seen_as check_as no_operation seen_of [] e.main
  main_is = contractum e (names_of e) (translated e) (fits_in e) (is_among (names_of e)) seen_as check_as no_operation seen_of [] e.main s.main

  abbrev program : Program
  program = program_of (translated e)

  names_same : symbol_names (program_of (translated e)) ≡ names_of e
  names_same = words_are e

  abbrev main_terms : List TermTree
  main_terms = top e e.main ∷ []

  abbrev main_start : Start
  main_start = record { fresh = fresh_nodes (sees (translated e) 0) [] main_terms; root = node_number (denotes [] (made_by main_terms) (term_draws (top e e.main) 0).target) }

  start_is : (program_of (translated e)).start ≡ main_start
  start_is = ap (λ (is : List PlacedInitial). start_by (translated e) is) (initials_are e)

  main_stands : StandsAt main_is.put.stands.0 (names_of e) [] main_start.fresh e.main (Fresh main_start.root)
  main_stands = subst (StandsAt main_is.put.stands.0 (names_of e) [] main_start.fresh e.main) (fresh_mention (names_of e) main_start.fresh (denotes [] (made_by main_terms) (term_draws (top e e.main) 0).target) main_is.put.no_operation) main_is.put.stands.1

  -- the program that the translation means is one of the equations
  pub is_program : IsProgramOf e (program_of (translated e))
  is_program = record {
    narrow = refl;
    kinds = λ r rule at. subst (λ n. IsKnownRule e n rule) (sym names_same) (kinds_are r rule at);
    equation_rules = λ i eq at. record {
      number = 5 + i;
      rule = rule_of (translated e) 0 (5 + i) (equation_tree e eq);
      at = rule_at i (equation_tree e eq) (get_in_left (map (equation_tree e) e.equations) (rest_trees ++ last_trees) i (equation_tree e eq) (get_map (equation_tree e) e.equations i eq at));
      is = subst (λ n. IsEquationRule e n i eq (rule_of (translated e) 0 (5 + i) (equation_tree e eq))) (sym names_same) (equation_is i eq at);
    };
    rest_rules = λ f k g named none has. rest_has f k g (same_name g check_name) (sym (ap (λ n. slice_get n f) names_same) ∙ named) none refl has;
    once = λ f k g one two. sym (s.once f g (sym (ap (λ n. slice_get n f) names_same) ∙ one)) ∙ s.once k g (sym (ap (λ n. slice_get n k) names_same) ∙ two);
    truth = ap (λ n. slice_get n 5) names_same;
    falsity = ap (λ n. slice_get n 6) names_same;
    constructors = s.constructors;
    symbols_known = λ f g named. known_by f g (sym (ap (λ n. slice_get n f) names_same) ∙ named);
    sound = s.heads;
    start_height = main_is.put.stands.0;
    start = subst (λ n. StandsAt main_is.put.stands.0 n [] (program_of (translated e)).start.fresh e.main (Fresh (program_of (translated e)).start.root)) (sym names_same)
        (subst (λ (st : Start). StandsAt main_is.put.stands.0 (names_of e) [] st.fresh e.main (Fresh st.root)) (sym start_is) main_stands);
    start_tidy = subst (λ n. AllByRecursion (IsTidyFresh e n 0 (program_of (translated e)).start.fresh) (program_of (translated e)).start.fresh) (sym names_same)
        (subst (λ (st : Start). AllByRecursion (IsTidyFresh e (names_of e) 0 st.fresh) st.fresh) (sym start_is) main_is.tidy);
  }
