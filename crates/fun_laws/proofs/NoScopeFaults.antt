-- The names of a translation have no faults, and no named pattern reaches itself.
use Rattle.std.proofs.Common.{codes, slice_index_or, ◌≡◌, ℕ, zero, suc, ◌+◌, ◌<◌, ◌≤◌, Bool, true, false, List, [], ◌∷◌, ◌++◌, map, length, drop, Option, Some, None, IsNone, IsSomeAnd, slice_get, refl, sym, ◌∙◌, ap, subst, arith, if◌then◌else◌, inl, inr, length-append}
use Rattle.std.specs.List.{Any, Contains, AllByRecursion, flat_map}
use Rattle.std.proofs.lemmas.Option.{slice_get_within}
use Rattle.dactl_base.specs.declared.refusal.Kind.{Kind}
use Rattle.dactl_base.specs.declared.refusal.Kind.TheVariants as kinds
use Rattle.dactl_base.specs.declared.refusal.Refusal.{Refusal}
use Rattle.dactl_meaning.specs.declared.tree.Name.{Name}
use Rattle.dactl_meaning.specs.declared.tree.Group.{Group}
use Rattle.dactl_meaning.specs.declared.tree.Item.TheVariants as item
use Rattle.dactl_meaning.specs.declared.tree.Marks.TheVariants as marks
use Rattle.dactl_meaning.specs.declared.tree.RuleTree.{RuleTree}
use Rattle.dactl_meaning.specs.declared.tree.TermTree.{TermTree}
use Rattle.dactl_meaning.specs.declared.tree.Text.{Text}
use Rattle.dactl_meaning.specs.Declarations.{Placed, PlacedRule, rules, Declaration, own_names, all_names, meaning}
use Rattle.dactl_meaning.specs.Sight.{Import, item_imports, imports, imported, sees}
use Rattle.dactl_meaning.specs.Expansion.{is_among}
use Rattle.dactl_meaning.specs.Uses.{Use, pattern_uses, term_uses, rule_uses, item_uses, uses}
use Rattle.dactl_meaning.specs.ScopeFaults.{most_names, most_rules, TwiceDeclared, is_usable, IsUnknown, HasTooStrong, item_initials, initials, TooMany, HasScopeFault, ScopeFault}
use Rattle.dactl_meaning.specs.Meaning.{IsCycleAt, CycleFault}
use Rattle.fun_meaning.specs.declared.tree.Equation.{Equation}
use Rattle.fun_meaning.specs.declared.tree.Fun.{Fun}
use Rattle.fun_meaning.specs.Names.{Spelling, same_name, check_name, place_of}
use Rattle.fun_meaning.specs.Values.{equation_names, word}
use Rattle.fun_meaning.proofs.Zips.{each_map, each_append, each_weaken}
use Rattle.fun_compile.specs.Translated.{bare, root_name, value_name, top, equation_tree, rest_tree, check_tree, group_of, trees_of, groups_of, translated}
use Rattle.dactl_meaning.specs.Unplaced.{nowhere}
use Rattle.fun_meaning.specs.Functions.{arithmetic_name, fun_name, functions, first_ones, names_of, constructors}
use Rattle.fun_meaning.specs.Sound.{fits_in, AreSound, AreSmall}
use Rattle.fun_laws.proofs.SeenNames.{usable_name, texts_are, own_long}
use Rattle.fun_laws.proofs.NamedUses.{IsNamed, rule_uses_named, rest_uses_named, check_uses_named, bare_uses_named, tops_named}
use Rattle.fun_laws.proofs.NoRuleFaults.{placed_rule, rules_are}
use Rattle.fun_laws.proofs.Heads.{first_stood, among_get}
use Rattle.fun_laws.proofs.Whole.{built, items_by, items_are, seen_of, check_in, head_in, true_in, false_in, rest_trees, last_trees}
use Rattle.dactl_model.proofs.Unique.{left_true}
use Rattle.fun_laws.proofs.Lists.{append_cases, get_in_left, get_in_right, length_of_map, all_at}
use Rattle.fun_meaning.proofs.After.{get_map}
use Rattle.fun_meaning.proofs.FireTidy.{get_unmap}

-- ---- lists

any_none : {A : Type 0} (P : A → Type 0) (xs : List A) → AllByRecursion (λ x. P x → ⊥) xs → Any P xs → ⊥
any_none P xs all (k, x, below, is, p) = any_at P xs all k x below is p
  where
    any_at : {A : Type 0} (Q : A → Type 0) (ys : List A) → AllByRecursion (λ y. Q y → ⊥) ys → (j : ℕ) (y : A) → j < length ys → slice_index_or ys j y ≡ y → Q y → ⊥
    any_at Q [] none j y below is q = absurd (omega arith)
    any_at Q (z ∷ ys) none zero y below is q = none.0 (subst Q (sym is) q)
    any_at Q (z ∷ ys) none (suc j) y below is q = any_at Q ys none.1 j y (omega arith) is q

index_get : {A : Type 0} (xs : List A) (k : ℕ) (x : A) → k < length xs → slice_index_or xs k x ≡ x → slice_get xs k ≡ Some x
index_get [] k x below is = absurd (omega arith)
index_get (y ∷ xs) zero x below is = ap Some is
index_get (y ∷ xs) (suc k) x below is = index_get xs k x (omega arith) is

-- ---- each name is declared once

insert_by : (z y : Spelling) (xs ys : List Spelling) (x : Spelling) (j : ℕ) (b : Bool) → same_name z x ≡ b → (if b then 0 else suc (place_of (xs ++ ys) x)) ≡ suc (length xs) + j → (place_of (xs ++ ys) x ≡ length xs + j → place_of (xs ++ y ∷ ys) x ≡ length xs + suc j)
    → (if b then 0 else suc (place_of (xs ++ y ∷ ys) x)) ≡ suc (length xs) + suc j
insert_by z y xs ys x j true same is rest = absurd (omega arith)
insert_by z y xs ys x j false same is rest = let inner : place_of (xs ++ y ∷ ys) x ≡ length xs + suc j = rest (omega arith) in omega arith

insert_place : (xs : List Spelling) (y : Spelling) (ys : List Spelling) (x : Spelling) (j : ℕ) → same_name y x ≡ false → place_of (xs ++ ys) x ≡ length xs + j → place_of (xs ++ y ∷ ys) x ≡ length xs + suc j
insert_place [] y ys x j other is = let one : suc (place_of ys x) ≡ 0 + suc j = omega arith in ap (λ b. if b then 0 else suc (place_of ys x)) other ∙ one
insert_place (z ∷ xs) y ys x j other is = insert_by z y xs ys x j (same_name z x) refl is (insert_place xs y ys x j other)

-- the names of all declarations
abbrev all_texts : Fun → List Spelling
all_texts e = arithmetic_name ∷ (built ++ fun_name ∷ ((functions e ++ check_name ∷ []) ++ constructors e))

later_place : (w x : Spelling) (names : List Spelling) (k : ℕ) → same_name w x ≡ false → place_of names x ≡ k → place_of (w ∷ names) x ≡ suc k
later_place w x names k other is = ap (λ b. if b then 0 else suc (place_of names x)) other ∙ ap suc is

not_empty : (x : ℕ) (xs : List ℕ) → x ∷ xs ≡ [] → ⊥
not_empty x xs is = cc

-- a use in a module
abbrev owned_use : ℕ → Use → ℕ × Use
owned_use k u = (k, u)

uses_by : (heads : List Spelling) (names : List Name) (gs : List Group) (terms : List TermTree) → flat_map (λ (i : Placed). map (owned_use i.owner) (item_uses i.item)) (items_by heads names (item.Rules gs ∷ item.Initial nowhere terms ∷ []))
    ≡ map (owned_use 0) (flat_map (λ (g : Group). flat_map rule_uses g.rules) gs) ++ (map (owned_use 0) (flat_map term_uses terms) ++ [])
uses_by heads [] gs terms = refl
uses_by heads (g ∷ names) gs terms = refl

imports_by : (heads : List Spelling) (names : List Name) (gs : List Group) (terms : List TermTree) → flat_map (λ (i : Placed). item_imports i.owner i.item) (items_by heads names (item.Rules gs ∷ item.Initial nowhere terms ∷ [])) ≡ record { owner = 0; name = word arithmetic_name } ∷ []
imports_by heads [] gs terms = refl
imports_by heads (g ∷ names) gs terms = refl

item_initials_by : (heads : List Spelling) (names : List Name) (gs : List Group) (terms : List TermTree) → flat_map (λ (i : Placed). item_initials i.item) (items_by heads names (item.Rules gs ∷ item.Initial nowhere terms ∷ [])) ≡ 0 ∷ []
item_initials_by heads [] gs terms = refl
item_initials_by heads (g ∷ names) gs terms = refl

strong_by : (heads : List Spelling) (names : List Name) (gs : List Group) (terms : List TermTree) (place : ℕ) → AllByRecursion (λ (i : Placed). HasTooStrong i.item place → ⊥) (items_by heads names (item.Rules gs ∷ item.Initial nowhere terms ∷ []))
strong_by heads [] gs terms place = (λ f. f, (λ f. f, (λ f. f, (λ f. f, tt))))
strong_by heads (g ∷ names) gs terms place = (λ f. f, (λ f. f, (λ f. f, (λ f. f, (λ f. f, tt)))))

cycles_by : (text : Text) (heads : List Spelling) (names : List Name) (gs : List Group) (terms : List TermTree) (place : ℕ) → AllByRecursion (λ (i : Placed). IsCycleAt text (i.owner, i.number) i.item place → ⊥) (items_by heads names (item.Rules gs ∷ item.Initial nowhere terms ∷ []))
cycles_by text heads [] gs terms place = (λ f. f, (λ f. f, (λ f. f, (λ f. f, tt))))
cycles_by text heads (g ∷ names) gs terms place = (λ f. f, (λ f. f, (λ f. f, (λ f. f, (λ f. f, tt)))))

module _ (e : Fun) (s : AreSound e) where
  own_texts : (j : ℕ) (x : Spelling) → slice_get ((functions e ++ check_name ∷ []) ++ constructors e) j ≡ Some x → place_of (all_texts e) x ≡ 9 + j
  own_texts j x at =
      let place : slice_get (names_of e) (7 + j) ≡ Some x = get_in_right built ((functions e ++ check_name ∷ []) ++ constructors e) j ∙ at in
      let apart = s.apart x (among_get (names_of e) (7 + j) x place) in
      let inner = insert_place built fun_name ((functions e ++ check_name ∷ []) ++ constructors e) x j apart.1 (s.once (7 + j) x place) in
      let sum : suc (7 + suc j) ≡ 9 + j = omega arith in
      later_place arithmetic_name x (built ++ fun_name ∷ ((functions e ++ check_name ∷ []) ++ constructors e)) (7 + suc j) apart.0 inner ∙ sum

  built_texts : (k : ℕ) (x : Spelling) → slice_get (arithmetic_name ∷ (built ++ fun_name ∷ [])) k ≡ Some x → place_of (all_texts e) x ≡ k
  built_texts zero x at = let same : arithmetic_name ≡ x = cc in ap (place_of (all_texts e)) (sym same)
  built_texts (suc zero) x at = let same : codes "IAdd" ≡ x = cc in ap (place_of (all_texts e)) (sym same)
  built_texts (suc (suc zero)) x at = let same : codes "ISub" ≡ x = cc in ap (place_of (all_texts e)) (sym same)
  built_texts (suc (suc (suc zero))) x at = let same : codes "IMul" ≡ x = cc in ap (place_of (all_texts e)) (sym same)
  built_texts (suc (suc (suc (suc zero)))) x at = let same : codes "IEq" ≡ x = cc in ap (place_of (all_texts e)) (sym same)
  built_texts (suc (suc (suc (suc (suc zero))))) x at = let same : codes "ILt" ≡ x = cc in ap (place_of (all_texts e)) (sym same)
  built_texts (suc (suc (suc (suc (suc (suc zero)))))) x at = let same : codes "True" ≡ x = cc in ap (place_of (all_texts e)) (sym same)
  built_texts (suc (suc (suc (suc (suc (suc (suc zero))))))) x at = let same : codes "False" ≡ x = cc in ap (place_of (all_texts e)) (sym same)
  built_texts (suc (suc (suc (suc (suc (suc (suc (suc zero)))))))) x at = let same : fun_name ≡ x = cc in ap (place_of (all_texts e)) (sym same)
  built_texts (suc (suc (suc (suc (suc (suc (suc (suc (suc k))))))))) x at = absurd (cc at)

  all_once : (k : ℕ) (x : Spelling) → slice_get (all_texts e) k ≡ Some x → place_of (all_texts e) x ≡ k
  all_once k x at =
      elim (append_cases (arithmetic_name ∷ (built ++ fun_name ∷ [])) ((functions e ++ check_name ∷ []) ++ constructors e) k x at) [
        | inl here ↦ built_texts k x here
        | inr (j, there, sum) ↦ own_texts j x there ∙ sum
      ]

  twice_none : (place : ℕ) → TwiceDeclared (translated e) place → ⊥
  twice_none place twice =
      let k = twice.before.0 in
      let d = twice.before.1 in
      let first : slice_get twice.earlier twice.before.0 ≡ Some twice.before.1 = index_get twice.earlier k d twice.before.2 twice.before.3 in
      let texts = map (λ (x : Declaration). x.name.text) (all_names (translated e)) in
      let same_list : all_texts e ≡ map (λ (x : Declaration). x.name.text) (twice.earlier ++ twice.again ∷ twice.later) = sym (texts_are e) ∙ ap (map (λ (x : Declaration). x.name.text)) twice.order in
      let at_first : slice_get (all_texts e) twice.before.0 ≡ Some twice.again.name.text =
      ap (λ (ns : List Spelling). slice_get ns twice.before.0) same_list
      ∙ get_map (λ (x : Declaration). x.name.text) (twice.earlier ++ twice.again ∷ twice.later) k d (get_in_left twice.earlier (twice.again ∷ twice.later) k d first) ∙ ap Some twice.before.4 in
      let at_again : slice_get (all_texts e) (length twice.earlier + 0) ≡ Some twice.again.name.text =
      ap (λ (ns : List Spelling). slice_get ns (length twice.earlier + 0)) same_list
      ∙ get_map (λ (x : Declaration). x.name.text) (twice.earlier ++ twice.again ∷ twice.later) (length twice.earlier + 0) twice.again (get_in_right twice.earlier (twice.again ∷ twice.later) 0) in
      let one : twice.before.0 ≡ length twice.earlier + 0 = sym (all_once k twice.again.name.text at_first) ∙ all_once (length twice.earlier + 0) twice.again.name.text at_again in
      let below : twice.before.0 < length twice.earlier = twice.before.2 in
      absurd (omega arith)

  -- ---- uses

  abbrev IsOwn : ℕ × Use → Type 0
  IsOwn u = (u.0 ≡ 0) × IsNamed (names_of e) u.1

  fits_among : (g : Spelling) (count : ℕ) → fits_in e g count ≡ true → is_among (names_of e) g ≡ true
  fits_among g count fits = left_true _ _ fits

  equation_named : (i : ℕ) (eq : Equation) → slice_get e.equations i ≡ Some eq → AllByRecursion (IsNamed (names_of e)) (rule_uses (equation_tree e eq))
  equation_named i eq at =
      each_append (IsNamed (names_of e)) (pattern_uses (equation_tree e eq).pattern) (term_uses (top e eq.right) ++ []) (rule_uses_named (names_of e) eq.head.text eq.patterns (head_in e s i eq at) (s.patterns i eq at))
      (each_append (IsNamed (names_of e)) (term_uses (top e eq.right)) [] (tops_named (names_of e) e (fits_in e) (equation_names eq) fits_among (check_in e s) eq.right (s.rights i eq at)) tt)

  rest_named : (g : Spelling) (count : ℕ) → is_among (names_of e) g ≡ true → AllByRecursion (IsNamed (names_of e)) (rule_uses (rest_tree g count))
  rest_named g count among =
      each_append (IsNamed (names_of e)) (pattern_uses (rest_tree g count).pattern) (term_uses (bare marks.Plain root_name) ++ []) (rest_uses_named (names_of e) g count among)
      (each_append (IsNamed (names_of e)) (term_uses (bare marks.Plain root_name)) [] (bare_uses_named (names_of e) marks.Plain root_name) tt)

  last_named : (k : ℕ) (t : RuleTree) → slice_get (last_trees e s) k ≡ Some t → AllByRecursion (IsNamed (names_of e)) (rule_uses t)
  last_named zero t at =
      let same : check_tree ≡ t = cc in
      subst (λ z. AllByRecursion (IsNamed (names_of e)) (rule_uses z)) same
      (each_append (IsNamed (names_of e)) (pattern_uses check_tree.pattern) (term_uses (bare (marks.Star nowhere) value_name) ++ []) (check_uses_named (names_of e) (check_in e s) (true_in e s) (false_in e s))
      (each_append (IsNamed (names_of e)) (term_uses (bare (marks.Star nowhere) value_name)) [] (bare_uses_named (names_of e) (marks.Star nowhere) value_name) tt))
  last_named (suc zero) t at = let same : rest_tree check_name 1 ≡ t = cc in subst (λ z. AllByRecursion (IsNamed (names_of e)) (rule_uses z)) same (rest_named check_name 1 (check_in e s))
  last_named (suc (suc k)) t at = absurd (cc at)

  groups_named : (trees : List RuleTree) → AllByRecursion (λ (t : RuleTree). AllByRecursion (IsNamed (names_of e)) (rule_uses t)) trees → AllByRecursion (IsNamed (names_of e)) (flat_map (λ (g : Group). flat_map rule_uses g.rules) (map group_of trees))
  groups_named [] all = tt
  groups_named (t ∷ trees) all =
      each_append (IsNamed (names_of e)) (rule_uses t ++ []) (flat_map (λ (g : Group). flat_map rule_uses g.rules) (map group_of trees)) (each_append (IsNamed (names_of e)) (rule_uses t) [] all.0 tt) (groups_named trees all.1)

  tree_named : (j : ℕ) (t : RuleTree) → slice_get (trees_of e) j ≡ Some t → AllByRecursion (IsNamed (names_of e)) (rule_uses t)
  tree_named j t at =
      elim (append_cases (map (equation_tree e) e.equations) (rest_trees e s ++ last_trees e s) j t at) [
        | inl here ↦
            let from = get_unmap (equation_tree e) e.equations j t here in
            subst (λ z. AllByRecursion (IsNamed (names_of e)) (rule_uses z)) (sym from.2) (equation_named j from.0 from.1)
        | inr (i, there, total) ↦
            elim (append_cases (rest_trees e s) (last_trees e s) i t there) [
              | inl here ↦
                  let from = get_unmap (λ (eq : Equation). rest_tree eq.head.text (length eq.patterns)) (first_ones e.equations) i t here in
                  let stood = first_stood e.equations i from.0 from.1 in
                  subst (λ z. AllByRecursion (IsNamed (names_of e)) (rule_uses z)) (sym from.2) (rest_named from.0.head.text (length from.0.patterns) (head_in e s stood.0 from.0 stood.1))
              | inr (k, last, sum) ↦ last_named k t last
            ]
      ]

  owned : (us : List Use) → AllByRecursion (IsNamed (names_of e)) us → AllByRecursion IsOwn (map (owned_use 0) us)
  owned us all = each_map (owned_use 0) (IsNamed (names_of e)) IsOwn (λ u is. (refl, is)) us all

  uses_own : AllByRecursion IsOwn (uses (translated e))
  uses_own =
      subst (AllByRecursion IsOwn) (sym (ap (flat_map (λ (i : Placed). map (owned_use i.owner) (item_uses i.item))) (items_are e) ∙ uses_by (functions e ++ check_name ∷ []) e.constructors (groups_of e) (top e e.main ∷ [])))
      (each_append IsOwn (map (owned_use 0) (flat_map (λ (g : Group). flat_map rule_uses g.rules) (groups_of e))) (map (owned_use 0) (flat_map term_uses (top e e.main ∷ [])) ++ [])
      (owned (flat_map (λ (g : Group). flat_map rule_uses g.rules) (groups_of e)) (groups_named (trees_of e) (all_at (λ (t : RuleTree). AllByRecursion (IsNamed (names_of e)) (rule_uses t)) (trees_of e) tree_named)))
      (each_append IsOwn (map (owned_use 0) (flat_map term_uses (top e e.main ∷ []))) []
      (owned (flat_map term_uses (top e e.main ∷ [])) (each_append (IsNamed (names_of e)) (term_uses (top e e.main)) [] (tops_named (names_of e) e (fits_in e) [] fits_among (check_in e s) e.main s.main) tt)) tt))

  use_known : (place : ℕ) (u : ℕ × Use) → IsOwn u → (place ≡ u.1.name.place.byte) × IsUnknown (translated e) u.1 → ⊥
  use_known place u own fault =
      let usable = usable_name e u.1.name.text (s.apart u.1.name.text own.1) own.1 in
      elim fault.1 [
        | inl not_usable ↦ let clash : true ≡ false = sym usable.0 ∙ not_usable in cc
        | inr given ↦ let clash : true ≡ false = sym given.1 ∙ usable.1 in cc
      ]

  none_is_none : {A : Type 0} (o : Option A) (x : A) → o ≡ Some x → IsNone o → ⊥
  none_is_none o x is none = let clash : true ≡ false = subst IsNone is none in cc

  use_seen : (place : ℕ) (u : ℕ × Use) → IsOwn u → (place ≡ u.1.name.place.byte) × (is_usable (meaning (translated e) u.1.name.text) ≡ true) × IsNone (sees (translated e) u.0 u.1.name.text) → ⊥
  use_seen place u own fault =
      let here = seen_of e s u.1.name.text own.1 in
      none_is_none (sees (translated e) u.0 u.1.name.text) _ (ap (λ k. sees (translated e) k u.1.name.text) own.0 ∙ here.seen) fault.2

  imports_are : imports (translated e) ≡ record { owner = 0; name = word arithmetic_name } ∷ []
  imports_are = ap (flat_map (λ (i : Placed). item_imports i.owner i.item)) (items_are e) ∙ imports_by (functions e ++ check_name ∷ []) e.constructors (groups_of e) (top e e.main ∷ [])

  initials_is : initials (translated e) ≡ 0 ∷ []
  initials_is = ap (flat_map (λ (i : Placed). item_initials i.item)) (items_are e) ∙ item_initials_by (functions e ++ check_name ∷ []) e.constructors (groups_of e) (top e e.main ∷ [])

  module _ (m : AreSmall e) where
    rules_long : length (rules (translated e)) ≡ length (trees_of e)
    rules_long = ap length (rules_are e) ∙ length_of_map placed_rule (trees_of e)

    trees_long : length (trees_of e) ≡ length e.equations + (length (first_ones e.equations) + 2)
    trees_long =
        length-append (map (equation_tree e) e.equations) (rest_trees e s ++ last_trees e s)
        ∙ ap (λ n. n + length (rest_trees e s ++ last_trees e s)) (length_of_map (equation_tree e) e.equations)
        ∙ ap (λ n. length e.equations + n) (length-append (rest_trees e s) (last_trees e s) ∙ ap (λ n. n + 2) (length_of_map (λ (eq : Equation). rest_tree eq.head.text (length eq.patterns)) (first_ones e.equations)))

    no_more : {A : Type 0} (P : A → Type 0) (xs : List A) (n : ℕ) (o : Option A) → slice_get xs n ≡ o → length xs ≤ n → IsSomeAnd o P → ⊥
    no_more P xs n None at few is = is
    no_more P xs n (Some x) at few is = absurd (let within : n < length xs = slice_get_within xs n x at in omega arith)

    too_many_none : (place : ℕ) → TooMany (translated e) place → ⊥
    too_many_none place (inl names) =
        let heads : length (functions e) ≡ length (first_ones e.equations) = length_of_map (λ (eq : Equation). eq.head.text) (first_ones e.equations) in
        let with_check : length (functions e ++ check_name ∷ []) ≡ length (functions e) + 1 = length-append (functions e) (check_name ∷ []) in
        let made : length (constructors e) ≡ length e.constructors = length_of_map (λ (c : Name). c.text) e.constructors in
        let few : length (own_names (translated e)) ≤ 16384 = (let long = own_long e in let limit = m.names in omega arith) in
        no_more (λ (d : Declaration). place ≡ d.name.place.byte) (own_names (translated e)) most_names (slice_get (own_names (translated e)) most_names) refl few names
    too_many_none place (inr more) =
        let heads : length (functions e) ≡ length (first_ones e.equations) = length_of_map (λ (eq : Equation). eq.head.text) (first_ones e.equations) in
        let few : length (rules (translated e)) ≤ 4096 = (let long = rules_long in let trees = trees_long in let limit = m.rules in omega arith) in
        no_more (λ (r : PlacedRule). place ≡ r.rule.place.byte) (rules (translated e)) most_rules (slice_get (rules (translated e)) most_rules) refl few more

    scope_none : (kind : Kind) (place : ℕ) → HasScopeFault (translated e) kind place → ⊥
    scope_none kinds.TwiceDeclared place is = twice_none place is
    scope_none kinds.UnknownModule place is =
        any_none (λ (i : Import). (place ≡ i.name.place.byte) × IsNone (imported (translated e) i)) (record { owner = 0; name = word arithmetic_name } ∷ []) (λ fault. let clash : true ≡ false = fault.1 in cc, tt)
        (subst (Any (λ (i : Import). (place ≡ i.name.place.byte) × IsNone (imported (translated e) i))) imports_are is)
    scope_none kinds.UnknownName place is =
        any_none (λ (u : ℕ × Use). (place ≡ u.1.name.place.byte) × IsUnknown (translated e) u.1) (uses (translated e))
        (each_weaken IsOwn (λ (u : ℕ × Use). (place ≡ u.1.name.place.byte) × IsUnknown (translated e) u.1 → ⊥) (use_known place) (uses (translated e)) uses_own) is
    scope_none kinds.NotVisible place is =
        any_none (λ (u : ℕ × Use). (place ≡ u.1.name.place.byte) × (is_usable (meaning (translated e) u.1.name.text) ≡ true) × IsNone (sees (translated e) u.0 u.1.name.text)) (uses (translated e))
        (each_weaken IsOwn (λ (u : ℕ × Use). (place ≡ u.1.name.place.byte) × (is_usable (meaning (translated e) u.1.name.text) ≡ true) × IsNone (sees (translated e) u.0 u.1.name.text) → ⊥) (use_seen place) (uses (translated e)) uses_own) is
    scope_none kinds.PublicTooStrong place is =
        any_none (λ (i : Placed). HasTooStrong i.item place) (items_by (functions e ++ check_name ∷ []) e.constructors (item.Rules (groups_of e) ∷ item.Initial nowhere (top e e.main ∷ []) ∷ []))
        (strong_by (functions e ++ check_name ∷ []) e.constructors (groups_of e) (top e e.main ∷ []) place) (subst (Any (λ (i : Placed). HasTooStrong i.item place)) (items_are e) is)
    scope_none kinds.NoInitial place is = not_empty 0 [] (sym initials_is ∙ is.1)
    scope_none kinds.TwoInitials place is =
        let none : Contains [] place = subst (λ (ps : List ℕ). Contains (drop 1 ps) place) initials_is is in
        absurd (let below : none.0 < 0 = none.1 in omega arith)
    scope_none kinds.TooMany place is = too_many_none place is
    scope_none kinds.BadByte place is = is
    scope_none kinds.NumberTooWide place is = is
    scope_none kinds.Unexpected place is = is
    scope_none kinds.TooDeep place is = is
    scope_none kinds.PatternCycle place is = is
    scope_none kinds.RootNotRewritable place is = is
    scope_none kinds.BinderInChoice place is = is
    scope_none kinds.TooWide place is = is
    scope_none kinds.Unbound place is = is
    scope_none kinds.NamedTwice place is = is
    scope_none kinds.RedirectedTwice place is = is
    scope_none kinds.NotOverwritable place is = is
    scope_none kinds.NotCreatable place is = is
    scope_none kinds.MarkOnBound place is = is
    scope_none kinds.TooManyWaits place is = is
    scope_none kinds.NotAConstructor place is = is
    scope_none kinds.WrongArity place is = is

    -- no name has a fault
    pub no_scope_fault : (r : Refusal) → ScopeFault (translated e) r → ⊥
    no_scope_fault r is = scope_none r.kind r.place.byte is

  -- no named pattern reaches itself: there is none
  pub no_cycle_fault : (r : Refusal) → CycleFault (translated e) r → ⊥
  no_cycle_fault r is =
      any_none (λ (i : Placed). IsCycleAt (translated e) (i.owner, i.number) i.item r.place.byte) (items_by (functions e ++ check_name ∷ []) e.constructors (item.Rules (groups_of e) ∷ item.Initial nowhere (top e e.main ∷ []) ∷ []))
      (cycles_by (translated e) (functions e ++ check_name ∷ []) e.constructors (groups_of e) (top e e.main ∷ []) r.place.byte) (subst (Any (λ (i : Placed). IsCycleAt (translated e) (i.owner, i.number) i.item r.place.byte)) (items_are e) is.1)
