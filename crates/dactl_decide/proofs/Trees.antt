-- Trees of paths, one level at a time.
use Rattle.std.proofs.Common.{◌≡◌, ℕ, zero, suc, ◌+◌, ◌^◌, ◌<◌, ◌≤◌, Bool, true, false, ◌&&◌, ◌||◌, List, [], ◌∷◌, ◌++◌, map, take, get_or, length, refl, sym, ◌∙◌, ap, arith, slice_get, slice_set, Some, None, Option, cond, sum, subst, length-set, inl, inr}
use Rattle.std.specs.Option.{option_map, SomeIff, IfSome, IfNone}
use Rattle.std.proofs.lemmas.Bool.{cases_lt}
use Rattle.std.proofs.lemmas.List.Sums.{sum-map, sum_by_more_le}
use Rattle.std.proofs.lemmas.Option.{slice_get_past, slice_get-map, slice_get_within}
use Rattle.dactl_model.specs.declared.program.Pat.{Pat}
use Rattle.dactl_model.specs.declared.program.Pat.TheOpen.{Pat-F}
use Rattle.dactl_model.specs.declared.program.Pat.TheViews.{roll-Pat}
use Rattle.dactl_model.specs.declared.program.Pat.TheFolds.{fold-roll-Pat, map-Pat}
use Rattle.dactl_model.specs.declared.program.Pat.TheVariants.{Sym, Union, Less, rolls-Sym, rolls-Union, rolls-Less}
use Rattle.dactl_decide.specs.declared.path_tree.PathTree.{PathTree}
use Rattle.dactl_decide.specs.declared.path_tree.PathTree.TheViews.{out-PathTree}
use Rattle.dactl_decide.specs.declared.path_tree.PathTree.TheFolds.{fold_out-PathTree}
use Rattle.dactl_decide.specs.Paths.{is_root, test_below, tests_below, tests, tests_level}
use Rattle.dactl_decide.specs.PathTrees.{has, has_level, size, size_level}

pub tests_roll : (x : Pat-F Pat) (path : List ℕ) → tests (roll-Pat x) path ≡ tests_level (map-Pat Pat (List ℕ → Bool) tests x) path
tests_roll x path = ap (λ t. t path) (fold-roll-Pat (List ℕ → Bool) tests_level x)

pub tests-Sym : (f : ℕ) (args : List Pat) (path : List ℕ) → tests (Sym f args) path ≡ (is_root path || tests_below (map tests args) path)
tests-Sym f args path = ap (λ p. tests p path) (sym (rolls-Sym f args)) ∙ tests_roll (Pat-F.Sym f args) path

pub tests-Union : (q s : Pat) (path : List ℕ) → tests (Union q s) path ≡ (tests q path || tests s path)
tests-Union q s path = ap (λ p. tests p path) (sym (rolls-Union q s)) ∙ tests_roll (Pat-F.Union q s) path

pub tests-Less : (q s : Pat) (path : List ℕ) → tests (Less q s) path ≡ (tests q path || tests s path)
tests-Less q s path = ap (λ p. tests p path) (sym (rolls-Less q s)) ∙ tests_roll (Pat-F.Less q s) path

pub has_out : (t : PathTree) (path : List ℕ) → has t path ≡ ((out-PathTree t).tested && is_root path || tests_below (map has (out-PathTree t).below.items) path)
has_out t path = ap (λ h. h path) (fold_out-PathTree (List ℕ → Bool) has_level t)

pub get_set_same : {X : Type 0} (xs : List X) (k : ℕ) (v : X) → k < length xs → slice_get (slice_set xs k v) k ≡ Some v
get_set_same [] k v within = absurd (omega arith)
get_set_same (x ∷ xs) zero v within = refl
get_set_same (x ∷ xs) (suc k) v within = get_set_same xs k v (omega arith)

pub get_set_other : {X : Type 0} (xs : List X) (k i : ℕ) (v : X) → (k ≡ i → ⊥) → slice_get (slice_set xs k v) i ≡ slice_get xs i
get_set_other [] k i v other = refl
get_set_other (x ∷ xs) zero zero v other = absurd (other refl)
get_set_other (x ∷ xs) zero (suc i) v other = refl
get_set_other (x ∷ xs) (suc k) zero v other = refl
get_set_other (x ∷ xs) (suc k) (suc i) v other = get_set_other xs k i v (λ e. other (ap suc e))

-- the tree at a place has what it had, and the places of the pattern there
abbrev IsMerged : List PathTree → List PathTree → List Pat → ℕ → Type 0
IsMerged olds news ps i =
    (path : List ℕ) → test_below (option_map has (slice_get news i)) path ≡ (test_below (option_map has (slice_get olds i)) path || test_below (option_map tests (slice_get ps i)) path)

-- the trees before the place are merged with their patterns, and the others are as they were
pub record AreMerging (olds news : List PathTree) (ps : List Pat) (k : ℕ) : Type 0 where
  pub long : length ps ≤ length news
  pub done : (i : ℕ) → i < k → IsMerged olds news ps i
  pub rest : (i : ℕ) → k ≤ i → slice_get news i ≡ slice_get olds i

pub merging_none : (olds : List PathTree) (ps : List Pat) → length ps ≤ length olds → AreMerging olds olds ps 0
merging_none olds ps long = record { long = long; done = λ i below. absurd (omega arith); rest = λ i above. refl }

pub merging_more : (olds news : List PathTree) (ps : List Pat) (k : ℕ) (tree new : PathTree) (p : Pat) → slice_get news k ≡ Some tree → slice_get ps k ≡ Some p
    → ((path : List ℕ) → has new path ≡ (has tree path || tests p path)) → AreMerging olds news ps k → AreMerging olds (slice_set news k new) ps (k + 1)
merging_more olds news ps k tree new p is_tree is_p added so = record {
  long = simp length-set so.long;
  done = λ i below. elim (cases_lt i k) [ inl before ↦ earlier i before | inr not_before ↦ here i (omega arith) ];
  rest = λ i above. get_set_other news k i new (λ e. absurd (omega arith)) ∙ so.rest i (omega arith);
}
  where
    earlier : (i : ℕ) → i < k → IsMerged olds (slice_set news k new) ps i
    earlier i before path = ap (λ o. test_below (option_map has o) path) (get_set_other news k i new (λ e. absurd (omega arith))) ∙ so.done i before path

    here : (i : ℕ) → k ≡ i → IsMerged olds (slice_set news k new) ps i
    here i at = subst (IsMerged olds (slice_set news k new) ps) at (λ path.
        ap (λ o. test_below (option_map has o) path) (get_set_same news k new (slice_get_within news k tree is_tree))
        ∙ (added path
        ∙ sym (ap (λ o. test_below (option_map has o) path || test_below (option_map tests (slice_get ps k)) path) (sym (so.rest k (omega arith)) ∙ is_tree)
        ∙ ap (λ o. has tree path || test_below (option_map tests o) path) is_p)))

or_false : (b : Bool) → (b || false) ≡ b
or_false true = refl
or_false false = refl

pub merging_all : (olds news : List PathTree) (ps : List Pat) (k : ℕ) → length ps ≤ k → AreMerging olds news ps k
    → (path : List ℕ) → tests_below (map has news) path ≡ (tests_below (map has olds) path || tests_below (map tests ps) path)
merging_all olds news ps k all so [] = refl
merging_all olds news ps k all so (i ∷ path) =
    ap (λ o. test_below o path) (slice_get-map has news i)
    ∙ (merged
    ∙ sym (ap (λ o. test_below o path || test_below (slice_get (map tests ps) i) path) (slice_get-map has olds i) ∙ ap (λ o. test_below (option_map has (slice_get olds i)) path || test_below o path) (slice_get-map tests ps i)))
  where
    merged : test_below (option_map has (slice_get news i)) path ≡ (test_below (option_map has (slice_get olds i)) path || test_below (option_map tests (slice_get ps i)) path)
    merged = elim (cases_lt i k) [
      | inl before ↦ so.done i before path
      | inr past ↦ ap (λ o. test_below (option_map has o) path) (so.rest i past) ∙ sym (ap (λ o. test_below (option_map has (slice_get olds i)) path || test_below (option_map tests o) path) (slice_get_past ps i (omega arith)) ∙ or_false _)
    ]

-- what a symbol's pattern adds to a tree
pub added_symbol : (root tested old args : Bool) → (root || (old || args)) ≡ ((tested && root || old) || (root || args))
added_symbol true true old args = refl
added_symbol true false true args = refl
added_symbol true false false args = refl
added_symbol false true old args = refl
added_symbol false false old args = refl

pub added_both : (old a b : Bool) → ((old || a) || b) ≡ (old || (a || b))
added_both true a b = refl
added_both false a b = refl

pub symbol_added : (old new : PathTree) (wide news : List PathTree) (f : ℕ) (args : List Pat) → (out-PathTree new).tested ≡ true → (out-PathTree new).below.items ≡ news
    → ((path : List ℕ) → tests_below (map has wide) path ≡ tests_below (map has (out-PathTree old).below.items) path)
    → ((path : List ℕ) → tests_below (map has news) path ≡ (tests_below (map has wide) path || tests_below (map tests args) path))
    → (path : List ℕ) → has new path ≡ (has old path || tests (Sym f args) path)
symbol_added old new wide news f args tested below widened merged path =
    let root = is_root path in
    let was = tests_below (map has (out-PathTree old).below.items) path in
    let adds = tests_below (map tests args) path in
    has_out new path
    ∙ (ap (λ b. b && root || tests_below (map has (out-PathTree new).below.items) path) tested
    ∙ (ap (λ ts. root || tests_below (map has ts) path) below
    ∙ (ap (λ b. root || b) (merged path ∙ ap (λ b. b || adds) (widened path))
    ∙ (added_symbol root (out-PathTree old).tested was adds
    ∙ (ap (λ b. b || (root || adds)) (sym (has_out old path)) ∙ ap (λ b. has old path || b) (sym (tests-Sym f args path)))))))

pub both_added : (old mid new : PathTree) (p q s : Pat) → ((path : List ℕ) → tests p path ≡ (tests q path || tests s path)) → ((path : List ℕ) → has mid path ≡ (has old path || tests q path))
    → ((path : List ℕ) → has new path ≡ (has mid path || tests s path)) → (path : List ℕ) → has new path ≡ (has old path || tests p path)
both_added old mid new p q s is first second path =
    second path ∙ (ap (λ b. b || tests s path) (first path) ∙ (added_both (has old path) (tests q path) (tests s path) ∙ ap (λ b. has old path || b) (sym (is path))))

-- a further tree without paths adds none
pub has_push : (trees : List PathTree) (t : PathTree) → ((path : List ℕ) → has t path ≡ false) → (path : List ℕ) → tests_below (map has (trees ++ t ∷ [])) path ≡ tests_below (map has trees) path
has_push trees t none [] = refl
has_push [] t none (zero ∷ path) = none path
has_push [] t none (suc i ∷ path) = refl
has_push (x ∷ xs) t none (zero ∷ path) = refl
has_push (x ∷ xs) t none (suc i ∷ path) = has_push xs t none (i ∷ path)

pub size_out : (t : PathTree) → size t ≡ sum (map size (out-PathTree t).below.items) + cond (out-PathTree t).tested 1 0
size_out t = fold_out-PathTree ℕ size_level t

pub counted : (r : Option ℕ) (P : Type 0) (x y : ℕ) → SomeIff r P x → x ≡ y → IfSome r (λ n. n ≡ y)
counted None P x y is e = tt
counted (Some n) P x y is e = is.1 ∙ e

pub not_below : (x : ℕ) → (x < 2 ^ 32 → ⊥) → 2 ^ 32 ≤ x
not_below x not = elim (cases_lt x (2 ^ 32)) [ inl below ↦ absurd (not below) | inr above ↦ above ]

-- a sum that has no 32 bits
pub not_counted : (r : Option ℕ) (x y : ℕ) → SomeIff r (x < 2 ^ 32) x → x ≡ y → IfNone r (2 ^ 32 ≤ y)
not_counted None x y is e = omega (arith, not_below x is, e)
not_counted (Some n) x y is e = tt

-- what is below a node counts
pub below_counts : (t : PathTree) → 2 ^ 32 ≤ sum (map size (out-PathTree t).below.items) → 2 ^ 32 ≤ size t
below_counts t past = omega (arith, size_out t, past)

-- nor has the whole sum then
pub past_each : (trees : List PathTree) (i : ℕ) (d : PathTree) (total item : ℕ) → i < length trees → total ≡ sum (map size (take i trees)) → item ≡ size (get_or trees i d) → 2 ^ 32 ≤ total + item → 2 ^ 32 ≤ sum (map size trees)
past_each trees i d total item inside so_far is past = omega (arith, sum-map size trees, sum-map size (take i trees), sum_by_more_le size trees i d inside, so_far, is, past)
