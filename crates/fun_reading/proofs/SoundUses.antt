-- What equations without a fault are, and how their names are used.
use Rattle.std.proofs.Common.{◌≡◌, ℕ, ◌-◌, ◌==◌, Bool, true, false, not, ◌||◌, ◌⊎◌, inl, inr, List, [], ◌∷◌, ◌++◌, length, nat_lt, Option, Some, None, is_some, is_none, refl, sym, ap, ◌∙◌, subst}
use Rattle.std.specs.Prelude.{nat_le}
use Rattle.std.specs.List.{AllByRecursion, flat_map}
use Rattle.dactl_base.specs.declared.refusal.Kind.TheVariants as kinds
use Rattle.dactl_model.specs.declared.program.Op.{Op}
use Rattle.dactl_meaning.specs.Expansion.{is_among}
use Rattle.fun_meaning.specs.declared.tree.Equation.{Equation}
use Rattle.fun_meaning.specs.declared.tree.Fun.{Fun}
use Rattle.fun_meaning.specs.Names.{Spelling, same_name, true_name, false_name, check_name, operation}
use Rattle.fun_meaning.specs.Values.{is_constructor}
use Rattle.fun_meaning.specs.Functions.{first_ones, functions, constructors, names_of}
use Rattle.fun_meaning.specs.Translation.{head_arity, named_arity, arity}
use Rattle.fun_meaning.specs.Sound.{IsApart, AreOnce, arity_fits, fits_in}
use Rattle.fun_meaning.proofs.Matches.{both_true, same_name_is}
use Rattle.fun_meaning.proofs.Zips.{each_map}
use Rattle.fun_syntax.specs.Faults.{most_names, most_rules, most_arguments, most_pieces, data_faults, head_faults, left_faults, use_faults, with_pieces, twice_faults, expression_faults, equation_faults, declared_faults, faults_of}
use Rattle.fun_syntax.specs.Least.{when}
use Rattle.fun_syntax.specs.Pieces.{pieces_of, left_pieces}
use Rattle.fun_syntax.specs.Roles.{built_in, with_constructors, roles_of, is_reserved, is_given, has_other_count}
use Rattle.fun_syntax.specs.Words.{nothing}
use Rattle.fun_reading.proofs.Empty.{front_empty, back_empty, each_empty, when_none, not_none, left_none, right_none}
use Rattle.fun_reading.proofs.Roles.{bytes_swapped, eqb-sym, role_by, is_declared, built_says, role_of}
use Rattle.fun_reading.proofs.SoundPieces.{or_left, or_right, AreDistinct}
use Rattle.fun_reading.proofs.SoundNames.{refute, or_split, clash, among_append, among_each, declared_among, are_once, distinct_append, first_distinct, arity_among, IsFree, free_of, data_new, data_distinct, heads_free, built_names, built_among}
use Rattle.fun_reading.proofs.Lists.{each_first}

-- ---- the faults, one list for each part

pub record HasNone (e : Fun) : Type 0 where
  pub names : data_faults built_in most_names e.constructors ≡ []
  pub heads : head_faults (with_constructors built_in e.constructors) (most_names - length e.constructors) most_rules e.equations ≡ []
  pub equations : AllByRecursion (λ (eq : Equation). equation_faults (roles_of e) eq ≡ []) e.equations
  pub main : expression_faults (roles_of e) nothing (pieces_of e.main) ≡ []

pub has_none : (e : Fun) → faults_of e ≡ [] → HasNone e
has_none e none =
    let declared : declared_faults e ≡ [] = front_empty (declared_faults e) (flat_map (equation_faults (roles_of e)) e.equations ++ expression_faults (roles_of e) nothing (pieces_of e.main)) none in
    let rest : flat_map (equation_faults (roles_of e)) e.equations ++ expression_faults (roles_of e) nothing (pieces_of e.main) ≡ [] =
    back_empty (declared_faults e) (flat_map (equation_faults (roles_of e)) e.equations ++ expression_faults (roles_of e) nothing (pieces_of e.main)) none in
    record {
      names = front_empty (data_faults built_in most_names e.constructors) (head_faults (with_constructors built_in e.constructors) (most_names - length e.constructors) most_rules e.equations) declared;
      heads = back_empty (data_faults built_in most_names e.constructors) (head_faults (with_constructors built_in e.constructors) (most_names - length e.constructors) most_rules e.equations) declared;
      equations = each_empty (equation_faults (roles_of e)) e.equations (front_empty (flat_map (equation_faults (roles_of e)) e.equations) (expression_faults (roles_of e) nothing (pieces_of e.main)) rest);
      main = back_empty (flat_map (equation_faults (roles_of e)) e.equations) (expression_faults (roles_of e) nothing (pieces_of e.main)) rest;
    }

-- of one equation
pub record HasNoneIn (e : Fun) (eq : Equation) : Type 0 where
  pub given : is_given (roles_of e eq.head.text) ≡ false
  pub lefts : use_faults (roles_of e) true (left_pieces eq) ≡ []
  pub twice : twice_faults nothing (left_pieces eq) ≡ []
  pub right : expression_faults (roles_of e) (with_pieces nothing (left_pieces eq)) (pieces_of eq.right) ≡ []

pub has_none_in : (e : Fun) (eq : Equation) → equation_faults (roles_of e) eq ≡ [] → HasNoneIn e eq
has_none_in e eq none =
    let head = left_faults (roles_of e eq.head.text) eq.head (length eq.patterns) (length (left_pieces eq)) in
    let uses = use_faults (roles_of e) true (left_pieces eq) in
    let twice = twice_faults nothing (left_pieces eq) in
    let right = expression_faults (roles_of e) (with_pieces nothing (left_pieces eq)) (pieces_of eq.right) in
    let left : head ++ (uses ++ twice) ≡ [] = front_empty (head ++ (uses ++ twice)) right none in
    let first : head ≡ [] = front_empty head (uses ++ twice) left in
    let rest : uses ++ twice ≡ [] = back_empty head (uses ++ twice) left in
    record {
      given = when_none (is_given (roles_of e eq.head.text)) kinds.RootNotRewritable eq.head (front_empty (when (is_given (roles_of e eq.head.text)) kinds.RootNotRewritable eq.head)
          (when (has_other_count (roles_of e eq.head.text) (length eq.patterns)) kinds.WrongArity eq.head ++ when (nat_lt most_arguments (length eq.patterns) || nat_le most_pieces (length (left_pieces eq))) kinds.TooWide eq.head) first);
      lefts = front_empty uses twice rest;
      twice = back_empty uses twice rest;
      right = back_empty (head ++ (uses ++ twice)) right none;
    }

-- ---- functions and constructors

-- no operation, no constructor, and not reserved
pub record IsOfEquations (e : Fun) (w : Spelling) : Type 0 where
  pub no_operation : operation w ≡ None
  pub no_constructor : is_constructor e w ≡ false
  pub free : IsFree w

not_given : (o : Option Op) (made : Bool) (k : Option ℕ) → is_given (role_by o made k) ≡ false → (o ≡ None) × (made ≡ false)
not_given (Some o) made k is = absurd (cc is)
not_given None true k is = absurd (cc is)
not_given None false k is = (refl, refl)

head_of_equations : (e : Fun) (eq : Equation) → HasNoneIn e eq → is_reserved eq.head.text ≡ false → IsOfEquations e eq.head.text
head_of_equations e eq none free =
    let both = not_given (operation eq.head.text) (is_constructor e eq.head.text) (head_arity e.equations eq.head.text) (ap is_given (sym (role_of e eq.head.text)) ∙ none.given) in
    record { no_operation = both.0; no_constructor = both.1; free = free_of eq.head.text free }

heads_of_equations : (e : Fun) (eqs : List Equation) → AllByRecursion (λ (eq : Equation). equation_faults (roles_of e) eq ≡ []) eqs → AllByRecursion (λ (eq : Equation). is_reserved eq.head.text ≡ false) eqs → AllByRecursion (λ (eq : Equation). IsOfEquations e eq.head.text) eqs
heads_of_equations e [] none free = tt
heads_of_equations e (eq ∷ eqs) none free = (head_of_equations e eq (has_none_in e eq none.0) free.0, heads_of_equations e eqs none.1 free.1)

no_operation_by : (o : Option Op) (made : Bool) → role_by o made None ≡ None → (o ≡ None) × (made ≡ false)
no_operation_by (Some o) made is = absurd (cc is)
no_operation_by None true is = absurd (cc is)
no_operation_by None false is = (refl, refl)

module _ (e : Fun) (none : HasNone e) where
  pub heads_are : AllByRecursion (λ (eq : Equation). IsOfEquations e eq.head.text) e.equations
  heads_are = heads_of_equations e e.equations none.equations (heads_free e.equations (with_constructors built_in e.constructors) (most_names - length e.constructors) most_rules none.heads)

  functions_are : AllByRecursion (IsOfEquations e) (functions e)
  functions_are =
      each_map (λ (eq : Equation). eq.head.text) (λ (eq : Equation). IsOfEquations e eq.head.text) (IsOfEquations e) (λ eq is. is) (first_ones e.equations) (each_first (λ (eq : Equation). IsOfEquations e eq.head.text) e.equations heads_are)

  pub function_is : (w : Spelling) → is_among (functions e) w ≡ true → IsOfEquations e w
  function_is w among = among_each (IsOfEquations e) (functions e) functions_are w among

  -- a `DATA` name is none that is built in, and not reserved
  pub record IsOfData (w : Spelling) : Type 0 where
    pub no_operation : operation w ≡ None
    pub no_truth : (same_name w true_name || same_name w false_name) ≡ false
    pub free : IsFree w

  pub data_is : (w : Spelling) → is_declared e.constructors w ≡ true → IsOfData w
  data_is w is =
      let new = data_new e.constructors built_in most_names none.names w is in
      let both = no_operation_by (operation w) (same_name w true_name || same_name w false_name) (sym (built_says w) ∙ new.0) in
      record { no_operation = both.0; no_truth = both.1; free = free_of w new.1 }

  pub constructor_is : (w : Spelling) → is_constructor e w ≡ true → (operation w ≡ None) × (same_name w check_name ≡ false)
  constructor_is w is = elim (or_split (same_name w true_name) (same_name w false_name || is_declared e.constructors w) is) [
    | inl true_is ↦ let same : w ≡ true_name = same_name_is w true_name true_is in (ap operation same, ap (λ z. same_name z check_name) same)
    | inr more ↦ elim (or_split (same_name w false_name) (is_declared e.constructors w) more) [
      | inl false_is ↦ let same : w ≡ false_name = same_name_is w false_name false_is in (ap operation same, ap (λ z. same_name z check_name) same)
      | inr declared ↦ let here = data_is w declared in (here.no_operation, here.free.check)
    ]
  ]

  -- ---- each name once

  abbrev with_check : List Spelling
  with_check = functions e ++ check_name ∷ []

  -- where a name is from
  with_check_case : (w : Spelling) → is_among with_check w ≡ true → (is_among (functions e) w ≡ true) ⊎ (check_name ≡ w)
  with_check_case w among = elim (or_split (is_among (functions e) w) (is_among (check_name ∷ []) w) (sym (among_append (functions e) (check_name ∷ []) w) ∙ among)) [
    | inl here ↦ inl here
    | inr there ↦ inr (among_each (λ v. check_name ≡ v) (check_name ∷ []) (refl, tt) w there)
  ]

  names_case : (w : Spelling) → is_among (with_check ++ constructors e) w ≡ true → (is_among (functions e) w ≡ true) ⊎ ((check_name ≡ w) ⊎ (is_declared e.constructors w ≡ true))
  names_case w among = elim (or_split (is_among with_check w) (is_among (constructors e) w) (sym (among_append with_check (constructors e) w) ∙ among)) [
    | inl here ↦ elim (with_check_case w here) [ inl one ↦ inl one | inr one ↦ inr (inl one) ]
    | inr there ↦ inr (inr (sym (declared_among e.constructors w) ∙ there))
  ]

  no_data_check : is_declared e.constructors check_name ≡ false
  no_data_check = refute (is_declared e.constructors check_name) (λ is. clash (same_name check_name check_name) refl (data_is check_name is).free.check)

  -- no function is a `DATA` name
  no_data_function : (w : Spelling) → IsOfEquations e w → is_declared e.constructors w ≡ false
  no_data_function w is =
      right_none (same_name w false_name) (is_declared e.constructors w) (right_none (same_name w true_name) (same_name w false_name || is_declared e.constructors w) is.no_constructor)

  no_data : (w : Spelling) → is_among with_check w ≡ true → is_among (constructors e) w ≡ false
  no_data w among = declared_among e.constructors w ∙ elim (with_check_case w among) [
    | inl function ↦ no_data_function w (function_is w function)
    | inr check ↦ ap (is_declared e.constructors) (sym check) ∙ no_data_check
  ]

  no_check : (w : Spelling) → is_among (functions e) w ≡ true → is_among (check_name ∷ []) w ≡ false
  no_check w among = ap (λ b. b || false) (bytes_swapped check_name w ∙ (function_is w among).free.check)

  truth_of : (w : Spelling) → is_constructor e w ≡ false → (same_name w true_name || same_name w false_name) ≡ false
  truth_of w is =
      ap (λ b. b || same_name w false_name) (left_none (same_name w true_name) (same_name w false_name || is_declared e.constructors w) is)
      ∙ left_none (same_name w false_name) (is_declared e.constructors w) (right_none (same_name w true_name) (same_name w false_name || is_declared e.constructors w) is)

  not_built : (w : Spelling) → operation w ≡ None → (same_name w true_name || same_name w false_name) ≡ false → is_among built_names w ≡ false
  not_built w one two = built_among w ∙ ap (λ o. is_some o || (same_name w true_name || same_name w false_name)) one ∙ two

  built_alone : (w : Spelling) → is_among built_names w ≡ true → is_among (with_check ++ constructors e) w ≡ false
  built_alone w built = refute (is_among (with_check ++ constructors e) w) (λ among. clash (is_among built_names w) built (elim (names_case w among) [
    | inl function ↦ let is = function_is w function in not_built w is.no_operation (truth_of w is.no_constructor)
    | inr (inl check) ↦ ap (is_among built_names) (sym check)
    | inr (inr declared) ↦ let is = data_is w declared in not_built w is.no_operation is.no_truth
  ]))

  names_distinct : AreDistinct (names_of e)
  names_distinct =
      distinct_append built_names (with_check ++ constructors e) (refl, (refl, (refl, (refl, (refl, (refl, (refl, tt)))))))
      (distinct_append with_check (constructors e) (distinct_append (functions e) (check_name ∷ []) (first_distinct e.equations) (refl, tt) no_check) (data_distinct e.constructors built_in most_names none.names) no_data) built_alone

  pub names_once : AreOnce (names_of e)
  names_once = are_once (names_of e) names_distinct

  -- ---- apart from the names of modules

  pub names_apart : (w : Spelling) → is_among (names_of e) w ≡ true → IsApart w
  names_apart w among = elim (or_split (is_among built_names w) (is_among (with_check ++ constructors e) w) (sym (among_append built_names (with_check ++ constructors e) w) ∙ among)) [
    | inl built ↦ among_each IsApart built_names ((refl, refl), ((refl, refl), ((refl, refl), ((refl, refl), ((refl, refl), ((refl, refl), ((refl, refl), tt))))))) w built
    | inr more ↦ elim (names_case w more) [
      | inl function ↦ (function_is w function).free.apart
      | inr (inl check) ↦ subst IsApart check (refl, refl)
      | inr (inr declared) ↦ (data_is w declared).free.apart
    ]
  ]

  -- ---- uses

  among_built : (w : Spelling) → is_among built_names w ≡ true → is_among (names_of e) w ≡ true
  among_built w is = among_append built_names (with_check ++ constructors e) w ∙ or_left (is_among built_names w) (is_among (with_check ++ constructors e) w) is

  among_more : (w : Spelling) → is_among (with_check ++ constructors e) w ≡ true → is_among (names_of e) w ≡ true
  among_more w is = among_append built_names (with_check ++ constructors e) w ∙ or_right (is_among built_names w) (is_among (with_check ++ constructors e) w) is

  constructor_among : (w : Spelling) → is_constructor e w ≡ true → is_among (names_of e) w ≡ true
  constructor_among w is = elim (or_split (same_name w true_name) (same_name w false_name || is_declared e.constructors w) is) [
    | inl true_is ↦ among_built w (built_among w ∙ or_right (is_some (operation w)) (same_name w true_name || same_name w false_name) (or_left (same_name w true_name) (same_name w false_name) true_is))
    | inr more ↦ elim (or_split (same_name w false_name) (is_declared e.constructors w) more) [
      | inl false_is ↦ among_built w (built_among w ∙ or_right (is_some (operation w)) (same_name w true_name || same_name w false_name) (or_right (same_name w true_name) (same_name w false_name) false_is))
      | inr declared ↦ among_more w (among_append with_check (constructors e) w ∙ or_right (is_among with_check w) (is_among (constructors e) w) (declared_among e.constructors w ∙ declared))
    ]
  ]

  function_among : (w : Spelling) → is_among (functions e) w ≡ true → is_among (names_of e) w ≡ true
  function_among w is =
      among_more w (among_append with_check (constructors e) w ∙ or_left (is_among with_check w) (is_among (constructors e) w)
      (among_append (functions e) (check_name ∷ []) w ∙ or_left (is_among (functions e) w) (is_among (check_name ∷ []) w) is))

  known_by : (w : Spelling) (o : Option Op) (made : Bool) (k : Option ℕ) → operation w ≡ o → is_constructor e w ≡ made → head_arity e.equations w ≡ k → is_none (role_by o made k) ≡ false → is_among (names_of e) w ≡ true
  known_by w (Some o) made k one two three is = among_built w (built_among w ∙ ap (λ p. is_some p || (same_name w true_name || same_name w false_name)) one)
  known_by w None true k one two three is = constructor_among w two
  known_by w None false None one two three is = absurd (cc is)
  known_by w None false (Some k) one two three is = function_among w (arity_among e.equations w k three)

  -- a word that is anything is among the names
  pub known : (w : Spelling) → is_none (roles_of e w) ≡ false → is_among (names_of e) w ≡ true
  known w is = known_by w (operation w) (is_constructor e w) (head_arity e.equations w) refl refl refl (ap is_none (sym (role_of e w)) ∙ is)

  turned : (m n : ℕ) → not (m == n) ≡ false → (n == m) ≡ true
  turned m n is = eqb-sym n m ∙ not_none (m == n) is

  -- an operation is not Chk
  operation_check : (w : Spelling) (o : Op) → operation w ≡ Some o → same_name w check_name ≡ false
  operation_check w o is = refute (same_name w check_name) (λ same. let clashes : None ≡ Some o = sym (ap operation (same_name_is w check_name same)) ∙ is in cc)

  no_arity : (w : Spelling) → is_constructor e w ≡ true → (k : Option ℕ) → head_arity e.equations w ≡ k → k ≡ None
  no_arity w made None is = refl
  no_arity w made (Some k) is = absurd (clash (is_constructor e w) made (function_is w (arity_among e.equations w k is)).no_constructor)

  -- Chk is nothing, and each name has arguments as it may
  record IsCounted (w : Spelling) (count : ℕ) : Type 0 where
    pub check : same_name w check_name ≡ false
    pub fits : arity_fits (arity e w) count ≡ true

  counted_by : (w : Spelling) (count : ℕ) (o : Option Op) (made : Bool) (k : Option ℕ) → operation w ≡ o → is_constructor e w ≡ made → head_arity e.equations w ≡ k
      → is_none (role_by o made k) ≡ false → has_other_count (role_by o made k) count ≡ false → IsCounted w count
  counted_by w count (Some o) made k one two three is other = record {
    check = operation_check w o one;
    fits = ap (λ p. arity_fits (named_arity e.equations w p (same_name w check_name)) count) one ∙ turned count 2 other;
  }
  counted_by w count None true k one two three is other =
      let none_here = no_arity w two (head_arity e.equations w) refl in
      let here = constructor_is w two in
      record {
        check = here.1;
        fits = (λ j. arity_fits (named_arity e.equations w (one j) (here.1 j)) count) ∙ ap (λ p. arity_fits p count) none_here;
      }
  counted_by w count None false None one two three is other = absurd (cc is)
  counted_by w count None false (Some k) one two three is other =
      let here = function_is w (arity_among e.equations w k three) in
      record {
        check = here.free.check;
        fits = (λ j. arity_fits (named_arity e.equations w (one j) (here.free.check j)) count) ∙ ap (λ p. arity_fits p count) three ∙ turned count k other;
      }

  -- a name of an expression that has no fault
  pub fits : (w : Spelling) (count : ℕ) → is_none (roles_of e w) ≡ false → has_other_count (roles_of e w) count ≡ false → fits_in e w count ≡ true
  fits w count is other =
      let counted = counted_by w count (operation w) (is_constructor e w) (head_arity e.equations w) refl refl refl (ap is_none (sym (role_of e w)) ∙ is) (ap (λ r. has_other_count r count) (sym (role_of e w)) ∙ other) in
      both_true _ _ (known w is) (both_true _ _ (ap not counted.check) counted.fits)
