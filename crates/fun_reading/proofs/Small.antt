-- Equations without a fault in their names are not too large.
use Rattle.std.proofs.Common.{Bool, ◌≡◌, ℕ, ◌+◌, ◌-◌, ◌<◌, ◌≤◌, true, false, List, [], ◌∷◌, ◌++◌, map, length, sym, ◌∙◌, arith, ◌||◌, Some, slice_get}
use Rattle.std.specs.Prelude.{nat_lt, nat_le}
use Rattle.std.specs.List.{AllByRecursion, flat_map, sum}
use Rattle.std.proofs.lemmas.Bool.{le-ltb, leb-false}
use Rattle.std.proofs.lemmas.List.{length-map}
use Rattle.dactl_base.specs.declared.refusal.Kind.TheVariants as kinds
use Rattle.dactl_base.specs.declared.refusal.Place.{Place}
use Rattle.dactl_base.specs.declared.refusal.Refusal.{Refusal}
use Rattle.fun_meaning.specs.declared.tree.Equation.{Equation}
use Rattle.fun_meaning.specs.declared.tree.Fun.{Fun}
use Rattle.fun_meaning.specs.Functions.{functions, first_ones}
use Rattle.fun_meaning.specs.Sound.{size_of, left_size, AreSmall}
use Rattle.fun_syntax.specs.declared.roles.Role.{Role}
use Rattle.fun_syntax.specs.Faults.{most_names, most_rules, data_faults, head_faults, use_faults, twice_faults, unbound_faults, with_pieces, equation_faults, declared_faults, faults_of}
use Rattle.fun_syntax.specs.Least.{when}
use Rattle.fun_syntax.specs.Pieces.{pieces_of, left_pieces}
use Rattle.fun_syntax.specs.Roles.{built_in, with_constructors, with_functions, roles_of, is_given, has_other_count}
use Rattle.fun_syntax.specs.Words.{Known, nothing}
use Rattle.fun_reading.specs.Statements.{FaultlessAreSmall}
use Rattle.fun_meaning.proofs.Zips.{each_at}
use Rattle.fun_reading.proofs.Empty.{front_empty, back_empty, each_empty, when_none, left_none, right_none}
use Rattle.fun_reading.proofs.SmallTrees.{pieces_counted, narrow, pieces_narrow}
use Rattle.fun_reading.proofs.SmallCounts.{is_new, made_by, HaveRoom, data_fit, heads_fit, AreGiven, declared_given, head_new, made_is}

-- what an equation without faults has
record IsSmall (roles : Known Role) (eq : Equation) : Type 0 where
  pub head : is_given (roles eq.head.text) ≡ false
  pub few : nat_lt 16 (length eq.patterns) ≡ false
  pub left : nat_lt 64 (left_size eq) ≡ false
  pub patterns : use_faults roles true (left_pieces eq) ≡ []
  pub right : use_faults roles false (pieces_of eq.right) ≡ []

left_fits : (pieces size : ℕ) → pieces ≡ size → nat_le 64 pieces ≡ false → nat_lt 64 (1 + size) ≡ false
left_fits pieces size same few = let below : pieces < 64 = leb-false 64 pieces few in let fits : 1 + size ≤ 64 = omega arith in le-ltb 64 (1 + size) fits

module _ (roles : Known Role) (eq : Equation) where
  abbrev bound : Known Place
  bound = with_pieces nothing (left_pieces eq)

  -- the faults of the head, in three parts
  abbrev defined : List Refusal
  defined = when (is_given (roles eq.head.text)) kinds.RootNotRewritable eq.head

  abbrev other : List Refusal
  other = when (has_other_count (roles eq.head.text) (length eq.patterns)) kinds.WrongArity eq.head

  abbrev is_wide : Bool
  is_wide = nat_lt 16 (length eq.patterns) || nat_le 64 (length (left_pieces eq))

  abbrev wide : List Refusal
  wide = when is_wide kinds.TooWide eq.head

  -- the faults of the names on the left side, and of its variables
  abbrev used : List Refusal
  used = use_faults roles true (left_pieces eq)

  abbrev twice : List Refusal
  twice = twice_faults nothing (left_pieces eq)

  -- those of the right side
  abbrev used_right : List Refusal
  used_right = use_faults roles false (pieces_of eq.right)

  abbrev unbound : List Refusal
  unbound = unbound_faults bound (pieces_of eq.right)

  equation_small : equation_faults roles eq ≡ [] → IsSmall roles eq
  equation_small empty =
      let side = front_empty ((defined ++ (other ++ wide)) ++ (used ++ twice)) (used_right ++ unbound) empty in
      let right = back_empty ((defined ++ (other ++ wide)) ++ (used ++ twice)) (used_right ++ unbound) empty in
      let left = front_empty (defined ++ (other ++ wide)) (used ++ twice) side in
      let uses = back_empty (defined ++ (other ++ wide)) (used ++ twice) side in
      let narrow = when_none is_wide kinds.TooWide eq.head (back_empty other wide (back_empty defined (other ++ wide) left)) in
      let few = right_none (nat_lt 16 (length eq.patterns)) (nat_le 64 (length (left_pieces eq))) narrow in
      record {
        head = when_none (is_given (roles eq.head.text)) kinds.RootNotRewritable eq.head (front_empty defined (other ++ wide) left);
        few = left_none (nat_lt 16 (length eq.patterns)) (nat_le 64 (length (left_pieces eq))) narrow;
        left = left_fits (length (left_pieces eq)) (sum (map size_of eq.patterns)) (pieces_counted eq.patterns) few;
        patterns = front_empty used twice uses;
        right = front_empty used_right unbound right;
      }

all_small : (roles : Known Role) (equations : List Equation) → AllByRecursion (λ eq. equation_faults roles eq ≡ []) equations → AllByRecursion (IsSmall roles) equations
all_small roles [] all = tt
all_small roles (eq ∷ more) all = (equation_small roles eq all.0, all_small roles more all.1)

heads_new : (before : Known Role) (whole equations : List Equation) → AreGiven before → AllByRecursion (IsSmall (with_functions before whole)) equations
    → AllByRecursion (λ eq. is_new before eq ≡ true) equations
heads_new before whole [] given all = tt
heads_new before whole (eq ∷ more) given all = (head_new before whole eq.head.text given all.0.head, heads_new before whole more given all.1)

counts_fit : (constructors equations made functions : ℕ) → constructors ≤ 16382 → HaveRoom (16382 - constructors) 4094 equations made → made ≡ functions
    → (functions + constructors ≤ 16382) × (equations + functions ≤ 4094)
counts_fit constructors equations made functions few room same = (omega (arith, room.names), omega (arith, room.rules))

module _ (e : Fun) where
  -- what is declared before the equations, and how many functions these make
  abbrev before : Known Role
  before = with_constructors built_in e.constructors

  abbrev made : ℕ
  made = made_by before e.equations

  abbrev names : List Refusal
  names = data_faults built_in most_names e.constructors

  abbrev heads : List Refusal
  heads = head_faults before (most_names - length e.constructors) most_rules e.equations

  functions_made : AllByRecursion (IsSmall (roles_of e)) e.equations → made ≡ length (functions e)
  functions_made all =
      let new = heads_new before e.equations e.equations (declared_given e.constructors) all in
      made_is before e.equations new ∙ sym (length-map (first_ones e.equations) (λ (eq : Equation). eq.head.text))

  -- the names, and the equations and functions
  counted : declared_faults e ≡ [] → AllByRecursion (IsSmall (roles_of e)) e.equations
      → (length (functions e) + length e.constructors ≤ 16382) × (length e.equations + length (functions e) ≤ 4094)
  counted empty all =
      counts_fit (length e.constructors) (length e.equations) made (length (functions e)) (data_fit built_in most_names e.constructors (front_empty names heads empty))
      (heads_fit before (most_names - length e.constructors) most_rules e.equations (back_empty names heads empty)) (functions_made all)

  abbrev in_equations : List Refusal
  in_equations = flat_map (equation_faults (roles_of e)) e.equations

  abbrev used_in_main : List Refusal
  used_in_main = use_faults (roles_of e) false (pieces_of e.main)

  abbrev unbound_in_main : List Refusal
  unbound_in_main = unbound_faults nothing (pieces_of e.main)

  small : faults_of e ≡ [] → AreSmall e
  small empty =
      let declared = front_empty (declared_faults e) (in_equations ++ (used_in_main ++ unbound_in_main)) empty in
      let rest = back_empty (declared_faults e) (in_equations ++ (used_in_main ++ unbound_in_main)) empty in
      let each = front_empty in_equations (used_in_main ++ unbound_in_main) rest in
      let main = back_empty in_equations (used_in_main ++ unbound_in_main) rest in
      let all = all_small (roles_of e) e.equations (each_empty (equation_faults (roles_of e)) e.equations each) in
      let at : (i : ℕ) (eq : Equation) → slice_get e.equations i ≡ Some eq → IsSmall (roles_of e) eq = λ i eq is. each_at (IsSmall (roles_of e)) e.equations i eq all is in
      let counts = counted declared all in
      record {
        heads = λ i eq is. (at i eq is).few;
        lefts = λ i eq is. (at i eq is).left;
        patterns = λ i eq is. pieces_narrow (roles_of e) true eq.patterns (at i eq is).patterns;
        rights = λ i eq is. narrow (roles_of e) false eq.right (at i eq is).right;
        main = narrow (roles_of e) false e.main (front_empty used_in_main unbound_in_main main);
        names = counts.0;
        rules = counts.1;
      }

pub faultless_are_small : FaultlessAreSmall
faultless_are_small e empty = small e empty
