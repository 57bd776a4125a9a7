-- What is gathered of a program's rules, one rule at a time.
use Rattle.std.proofs.Common.{◌≡◌, ℕ, ◌+◌, ◌<◌, Bool, true, false, ◌&&◌, ◌||◌, ◌==◌, List, [], ◌∷◌, ◌++◌, take, length, get_or, refl, sym, ◌∙◌, ap, arith, slice_get, slice_set, Some, All, inl, inr, subst, length-set, ◌⊎◌, map, Option, None, IsSomeAnd}
use Rattle.std.specs.Option.{option_map}
use Rattle.std.specs.List.{list_any, Contains}
use Rattle.std.specs.declared.alloc.Global.{Global}
use Rattle.std.specs.declared.vec.Vec.{Vec}
use Rattle.std.proofs.lemmas.Bool.{cases_lt, eq-eqb, eqb-true, eqb-false}
use Rattle.std.proofs.lemmas.List.{take_all, length-map}
use Rattle.std.proofs.lemmas.List.Folds.{list_any_more}
use Rattle.std.proofs.lemmas.List.Elements.{All-push, All-weaker, Contains-push, Contains-append_left}
use Rattle.std.proofs.lemmas.List.Quantifiers.{all_pairs_push}
use Rattle.std.proofs.lemmas.Option.{slice_get_read, get_or_from_slice_get, slice_get-map}
use Rattle.dactl_model.specs.declared.program.Rule.{Rule}
use Rattle.dactl_model.specs.declared.program.Program.{Program}
use Rattle.dactl_model.specs.Programs.{IsValid}
use Rattle.dactl_decide.specs.declared.path_tree.PathTree.{PathTree}
use Rattle.dactl_decide.specs.Paths.{is_root, tests, symbol_tests, IsNumberOf}
use Rattle.dactl_decide.specs.PathTrees.{has, size}
use Rattle.dactl_decide.specs.Decisions.{HasRootSymbol, AreRulesBelow, AreNumbersOfPaths, AreDecisions, IsWidest}
use Rattle.dactl_decide.specs.Gathering.{AreTreesBelow, AreListsBelow}
use Rattle.dactl_decide.proofs.Trees.{get_set_same, get_set_other}
use Rattle.dactl_decide.proofs.PathLists.{number_of_tree}

-- each rule's symbol is one of the program's
pub symbol_within : (p : Program) (r : ℕ) (rule : Rule) → IsValid p → slice_get p.rules r ≡ Some rule → rule.symbol < length p.symbols
symbol_within p r rule valid is = (valid.rules r rule is).symbol

pub item_read : {X : Type 0} (items xs : List X) (k : ℕ) (x : X) → items ≡ xs → k < length items → x ≡ get_or items k x → slice_get xs k ≡ Some x
item_read items xs k x e below is = slice_get_read xs (length items) k x (ap length e) below (is ∙ ap (λ ys. get_or ys k x) e)

-- one more rule
pub symbol_tests_more : (rules : List Rule) (k f : ℕ) (rule : Rule) (path : List ℕ) → slice_get rules k ≡ Some rule → k < length rules
    → symbol_tests (take (k + 1) rules) f path ≡ (symbol_tests (take k rules) f path || ((rule.symbol == f) && tests rule.pattern path))
symbol_tests_more rules k f rule path is within =
    ap (λ b. is_root path || b) (list_any_more (λ x. (x.symbol == f) && tests x.pattern path) rules k rule within ∙ ap (λ x. list_any (λ y. (y.symbol == f) && tests y.pattern path) (take k rules) || ((x.symbol == f) && tests x.pattern path)) (get_or_from_slice_get rules k rule rule is))
    ∙ assoc (is_root path) (list_any (λ x. (x.symbol == f) && tests x.pattern path) (take k rules)) ((rule.symbol == f) && tests rule.pattern path)
  where
    assoc : (a b c : Bool) → (a || (b || c)) ≡ ((a || b) || c)
    assoc true b c = refl
    assoc false b c = refl

-- where a place was written, it has what was written, and the others have what they had
written : {X : Type 0} (xs : List X) (k i : ℕ) (v x : X) → k < length xs → slice_get (slice_set xs k v) i ≡ Some x → ((k ≡ i) × (v ≡ x)) ⊎ ((k ≡ i → ⊥) × (slice_get xs i ≡ Some x))
written xs k i v x within is =
    (elim (k == i) as (λ b. (k == i) ≡ b → ((k ≡ i) × (v ≡ x)) ⊎ ((k ≡ i → ⊥) × (slice_get xs i ≡ Some x))) [
      | true ↦ λ e. (let at = eqb-true k i e in inl (at, same v x (sym (get_set_same xs k v within) ∙ (ap (λ j. slice_get (slice_set xs k v) j) at ∙ is))))
      | false ↦ λ e. (let other = eqb-false k i e in inr (other, sym (get_set_other xs k i v other) ∙ is))
    ]) refl
  where
    same : {X : Type 0} (a b : X) → Some a ≡ Some b → a ≡ b
    same a b e = cc

pub trees_more : (rules : List Rule) (symbols k : ℕ) (trees : List PathTree) (rule : Rule) (tree new : PathTree) → slice_get rules k ≡ Some rule → k < length rules → rule.symbol < symbols
    → slice_get trees rule.symbol ≡ Some tree → ((path : List ℕ) → has new path ≡ (has tree path || tests rule.pattern path)) → AreTreesBelow rules symbols k trees
    → AreTreesBelow rules symbols (k + 1) (slice_set trees rule.symbol new)
trees_more rules symbols k trees rule tree new is within inside is_tree added so = record {
  long = simp length-set so.long;
  each = λ f t get path. elim (written trees rule.symbol f new t (rw so.long inside) get) [
    | inl here ↦ (
        ap (λ x. has x path) (sym here.1)
        ∙ (added path
        ∙ (ap (λ b. b || tests rule.pattern path) (so.each rule.symbol tree is_tree path)
        ∙ (ap (λ g. symbol_tests (take k rules) g path || tests rule.pattern path) here.0
        ∙ sym (symbol_tests_more rules k f rule path is within ∙ ap (λ b. symbol_tests (take k rules) f path || (b && tests rule.pattern path)) (eq-eqb rule.symbol f here.0))))))
    | inr other ↦ (
        so.each f t other.1 path
        ∙ sym (symbol_tests_more rules k f rule path is within ∙ (ap (λ b. symbol_tests (take k rules) f path || (b && tests rule.pattern path)) (ne-eqb rule.symbol f other.0) ∙ or_false _)))
  ];
}
  where
    or_false : (b : Bool) → (b || false) ≡ b
    or_false true = refl
    or_false false = refl

    ne-eqb : (m n : ℕ) → (m ≡ n → ⊥) → (m == n) ≡ false
    ne-eqb m n ne = (elim (m == n) as (λ b. (m == n) ≡ b → b ≡ false) [ true ↦ λ e. absurd (ne (eqb-true m n e)) | false ↦ λ e. refl ]) refl

-- each tree's size is the number of its symbol's paths
pub numbers_of_trees : (rules : List Rule) (symbols : ℕ) (trees : List PathTree) → AreTreesBelow rules symbols (length rules) trees → AreNumbersOfPaths rules symbols (map size trees)
numbers_of_trees rules symbols trees so = record {
  long = length-map trees size ∙ so.long;
  each = λ f n get. at f n (slice_get trees f) refl (sym (slice_get-map size trees f) ∙ get);
}
  where
    at : (f n : ℕ) (o : Option PathTree) → slice_get trees f ≡ o → option_map size o ≡ Some n → IsNumberOf (symbol_tests rules f) n
    at f n None is e = cc
    at f n (Some t) is e =
        let same : size t ≡ n = cc in
        subst (IsNumberOf (symbol_tests rules f)) same (number_of_tree t (symbol_tests rules f) (λ path. so.each f t is path ∙ ap (λ rs. symbol_tests rs f path) (take_all (length rules) rules (omega arith))))

pub has_root : (rules : List Rule) (f r : ℕ) (rule : Rule) → slice_get rules r ≡ Some rule → rule.symbol ≡ f → HasRootSymbol rules f r
has_root rules f r rule is e = subst (λ o. IsSomeAnd o (λ x. x.symbol ≡ f)) (sym is) e

pub root_of : (rules : List Rule) (f r : ℕ) (rule : Rule) → slice_get rules r ≡ Some rule → HasRootSymbol rules f r → rule.symbol ≡ f
root_of rules f r rule is has = subst (λ o. IsSomeAnd o (λ x. x.symbol ≡ f)) is has

later : (rules : List Rule) (k f : ℕ) (numbers : List ℕ) → All (λ r. (r < k) × HasRootSymbol rules f r) numbers → All (λ r. (r < k + 1) × HasRootSymbol rules f r) numbers
later rules k f numbers each = All-weaker (λ r. (r < k) × HasRootSymbol rules f r) (λ r. (r < k + 1) × HasRootSymbol rules f r) (λ r is. (omega (arith, is.0), is.1)) numbers each

rules_pushed : (rules : List Rule) (k f : ℕ) (rule : Rule) (numbers : List ℕ) → slice_get rules k ≡ Some rule → rule.symbol ≡ f → AreRulesBelow rules k f numbers → AreRulesBelow rules (k + 1) f (numbers ++ k ∷ [])
rules_pushed rules k f rule numbers is at so = record {
  each = All-push (λ r. (r < k + 1) × HasRootSymbol rules f r) numbers k (later rules k f numbers so.each) (omega arith, has_root rules f k rule is at);
  whole = λ r below has. elim (cases_lt r k) [
    | inl before ↦ Contains-append_left numbers (k ∷ []) r (so.whole r before has)
    | inr not_before ↦ (let same : k ≡ r = omega arith in subst (λ x. Contains (numbers ++ k ∷ []) x) same (Contains-push numbers k))
  ];
  ascending = all_pairs_push (λ a b. a < b) numbers k so.ascending (λ i d within. (so.each i d within).0);
}

rules_kept : (rules : List Rule) (k f : ℕ) (rule : Rule) (numbers : List ℕ) → slice_get rules k ≡ Some rule → (rule.symbol ≡ f → ⊥) → AreRulesBelow rules k f numbers → AreRulesBelow rules (k + 1) f numbers
rules_kept rules k f rule numbers is other so = record {
  each = later rules k f numbers so.each;
  whole = λ r below has. elim (cases_lt r k) [
    | inl before ↦ so.whole r before has
    | inr not_before ↦ (let same : r ≡ k = omega arith in absurd (other (root_of rules f k rule is (subst (HasRootSymbol rules f) same has))))
  ];
  ascending = so.ascending;
}

pub lists_more : (rules : List Rule) (symbols k : ℕ) (lists : List (Vec ℕ Global)) (rule : Rule) (numbers new : Vec ℕ Global) → slice_get rules k ≡ Some rule → rule.symbol < symbols
    → slice_get lists rule.symbol ≡ Some numbers → new.items ≡ numbers.items ++ k ∷ [] → AreListsBelow rules symbols k lists
    → AreListsBelow rules symbols (k + 1) (slice_set lists rule.symbol new)
lists_more rules symbols k lists rule numbers new is inside is_list pushed so = record {
  long = simp length-set so.long;
  each = λ f ns get. elim (written lists rule.symbol f new ns (rw so.long inside) get) [
    | inl here ↦ (
        let before = so.each rule.symbol numbers is_list in
        let pushed_here = rules_pushed rules k rule.symbol rule numbers.items is refl before in
        subst (λ g. AreRulesBelow rules (k + 1) g ns.items) here.0 (subst (λ xs. AreRulesBelow rules (k + 1) rule.symbol xs) (sym pushed ∙ ap (λ v. v.items) here.1) pushed_here))
    | inr other ↦ rules_kept rules k f rule ns.items is other.0 (so.each f ns other.1)
  ];
}

-- what a compiler has gathered are decisions
pub compiled : (p q : Program) (trees : List PathTree) (paths : List ℕ) (widest : ℕ) → q ≡ p → IsValid p → AreTreesBelow p.rules (length p.symbols) (length p.rules) trees → paths ≡ map size trees → IsWidest paths widest
    → AreDecisions (record { program = q; paths = paths; widest = widest })
compiled p q trees paths widest same valid gathered counted greatest = record {
  valid = rw same valid;
  numbers = rw (same, counted) (numbers_of_trees p.rules (length p.symbols) trees gathered);
  greatest = greatest;
}
