-- The paths of a tree in a list.
use Rattle.std.proofs.Common.{◌≡◌, ℕ, zero, suc, ◌+◌, Bool, true, false, ◌&&◌, ◌||◌, List, [], ◌∷◌, ◌++◌, map, length, length-append, refl, sym, ◌∙◌, ap, arith, cond, sum, subst}
use Rattle.std.specs.List.{AllByRecursion, IsDistinct}
use Rattle.std.specs.Set.{is_member}
use Rattle.std.proofs.lemmas.List.Folds.{list_any-append}
use Rattle.std.proofs.lemmas.Map.Keys.{IsDistinct-cons}
use Rattle.std.proofs.lemmas.Cmp.{nat_list_eq_equiv}
use Rattle.std.proofs.lemmas.List.{length-map}
use Rattle.std.proofs.lemmas.List.Sums.{sum_by-cons}
use Rattle.std.proofs.Math.Dec.{eqb-suc-zero, eqb-zero-suc, eqb-suc-suc}
use Rattle.dactl_decide.specs.declared.path_tree.PathTree.{PathTree}
use Rattle.dactl_decide.specs.declared.path_tree.PathTree.TheOpen.{PathTree-F}
use Rattle.dactl_decide.specs.declared.path_tree.PathTree.TheViews.{roll-PathTree}
use Rattle.dactl_decide.specs.declared.path_tree.PathTree.TheFolds.{fold-PathTree, fold-roll-PathTree, map-PathTree, ind-PathTree}
use Rattle.dactl_decide.specs.Paths.{is_root, tests_below, same_path, IsNumberOf}
use Rattle.dactl_decide.specs.PathTrees.{has, has_level, size, size_level}

-- the path is in the list
abbrev holds : List (List ℕ) → List ℕ → Bool
holds paths path = is_member same_path paths path

-- the same path below the next argument
abbrev bump : List ℕ → List ℕ
bump [] = []
bump (i ∷ path) = suc i ∷ path

abbrev under : List ℕ → List ℕ
under path = 0 ∷ path

-- the paths of each list, below the argument at its place
abbrev numbered : List (List (List ℕ)) → List (List ℕ)
numbered [] = []
numbered (ps ∷ rest) = map under ps ++ map bump (numbered rest)

abbrev paths_level : PathTree-F (List (List ℕ)) → List (List ℕ)
paths_level t = cond t.tested ([] ∷ []) [] ++ numbered t.below.items

abbrev paths_of : PathTree → List (List ℕ)
paths_of = fold-PathTree (List (List ℕ)) paths_level

-- members

under_zero : (ps : List (List ℕ)) (path : List ℕ) → holds (map under ps) (zero ∷ path) ≡ holds ps path
under_zero [] path = refl
under_zero (p ∷ ps) path = ap (λ b. same_path path p || b) (under_zero ps path)

under_suc : (ps : List (List ℕ)) (i : ℕ) (path : List ℕ) → holds (map under ps) (suc i ∷ path) ≡ false
under_suc [] i path = refl
under_suc (p ∷ ps) i path = ap (λ b. b && same_path path p || holds (map under ps) (suc i ∷ path)) (eqb-suc-zero i) ∙ under_suc ps i path

under_root : (ps : List (List ℕ)) → holds (map under ps) [] ≡ false
under_root [] = refl
under_root (p ∷ ps) = under_root ps

bump_zero : (qs : List (List ℕ)) (path : List ℕ) → holds (map bump qs) (zero ∷ path) ≡ false
bump_zero [] path = refl
bump_zero ([] ∷ qs) path = bump_zero qs path
bump_zero ((j ∷ q) ∷ qs) path = ap (λ b. b && same_path path q || holds (map bump qs) (zero ∷ path)) (eqb-zero-suc j) ∙ bump_zero qs path

bump_suc : (qs : List (List ℕ)) (i : ℕ) (path : List ℕ) → holds (map bump qs) (suc i ∷ path) ≡ holds qs (i ∷ path)
bump_suc [] i path = refl
bump_suc ([] ∷ qs) i path = bump_suc qs i path
bump_suc ((j ∷ q) ∷ qs) i path = ap (λ b. b && same_path path q || holds (map bump qs) (suc i ∷ path)) (eqb-suc-suc i j) ∙ ap (λ b. same_path (i ∷ path) (j ∷ q) || b) (bump_suc qs i path)

bump_root : (qs : List (List ℕ)) → holds (map bump qs) [] ≡ holds qs []
bump_root [] = refl
bump_root ([] ∷ qs) = refl
bump_root ((j ∷ q) ∷ qs) = bump_root qs

or_false : (b : Bool) → (b || false) ≡ b
or_false true = refl
or_false false = refl

-- what is asked of a tree: its list has its paths, none of them twice, and as many as they are
abbrev AreDifferent : List (List ℕ) → Type 0
AreDifferent [] = Unit {0}
AreDifferent (p ∷ ps) = (holds ps p ≡ false) × AreDifferent ps

record IsListed (t : PathTree) : Type 0 where
  pub members : (path : List ℕ) → holds (paths_of t) path ≡ has t path
  pub different : AreDifferent (paths_of t)
  pub long : length (paths_of t) ≡ size t

abbrev AreListed : List PathTree → Type 0
AreListed [] = Unit {0}
AreListed (t ∷ ts) = IsListed t × AreListed ts

numbered_members : (ts : List PathTree) → AreListed ts → (path : List ℕ) → holds (numbered (map paths_of ts)) path ≡ tests_below (map has ts) path
numbered_members [] listed [] = refl
numbered_members [] listed (i ∷ path) = refl
numbered_members (t ∷ ts) listed [] =
    list_any-append (same_path []) (map under (paths_of t)) (map bump (numbered (map paths_of ts)))
    ∙ (ap (λ b. b || holds (map bump (numbered (map paths_of ts))) []) (under_root (paths_of t)) ∙ (bump_root (numbered (map paths_of ts)) ∙ numbered_members ts listed.1 []))
numbered_members (t ∷ ts) listed (zero ∷ path) =
    list_any-append (same_path (zero ∷ path)) (map under (paths_of t)) (map bump (numbered (map paths_of ts)))
    ∙ (ap (λ b. holds (map under (paths_of t)) (zero ∷ path) || b) (bump_zero (numbered (map paths_of ts)) path) ∙ (or_false _ ∙ (under_zero (paths_of t) path ∙ listed.0.members path)))
numbered_members (t ∷ ts) listed (suc i ∷ path) =
    list_any-append (same_path (suc i ∷ path)) (map under (paths_of t)) (map bump (numbered (map paths_of ts)))
    ∙ (ap (λ b. b || holds (map bump (numbered (map paths_of ts))) (suc i ∷ path)) (under_suc (paths_of t) i path) ∙ (bump_suc (numbered (map paths_of ts)) i path ∙ numbered_members ts listed.1 (i ∷ path)))

-- no path twice

left_false : (a b : Bool) → (a || b) ≡ false → a ≡ false
left_false true b e = e
left_false false b e = refl

right_false : (a b : Bool) → (a || b) ≡ false → b ≡ false
right_false true b e = absurd (cc)
right_false false b e = e

different_append : (ps qs : List (List ℕ)) → AreDifferent ps → AreDifferent qs → ((path : List ℕ) → holds ps path ≡ true → holds qs path ≡ false) → AreDifferent (ps ++ qs)
different_append [] qs first second apart = second
different_append (p ∷ ps) qs first second apart = (
  list_any-append (same_path p) ps qs ∙ (ap (λ b. b || holds qs p) first.0 ∙ apart p (ap (λ b. b || holds ps p) (same_self p))),
  different_append ps qs first.1 second (λ path within. apart path (ap (λ b. same_path path p || b) within ∙ or_true (same_path path p))),
)
  where
    or_true : (b : Bool) → (b || true) ≡ true
    or_true true = refl
    or_true false = refl

    same_self : (path : List ℕ) → same_path path path ≡ true
    same_self path = nat_list_eq_equiv.refl path

different_under : (ps : List (List ℕ)) → AreDifferent ps → AreDifferent (map under ps)
different_under [] different = tt
different_under (p ∷ ps) different = (under_zero ps p ∙ different.0, different_under ps different.1)

different_bump : (qs : List (List ℕ)) → AreDifferent qs → holds qs [] ≡ false → AreDifferent (map bump qs)
different_bump [] different rootless = tt
different_bump ([] ∷ qs) different rootless = absurd cc
different_bump ((j ∷ q) ∷ qs) different rootless = (bump_suc qs j q ∙ different.0, different_bump qs different.1 rootless)

apart_numbered : (ps qs : List (List ℕ)) (path : List ℕ) → holds (map under ps) path ≡ true → holds (map bump qs) path ≡ false
apart_numbered ps qs [] within = let e : true ≡ false = sym within ∙ under_root ps in cc
apart_numbered ps qs (zero ∷ path) within = bump_zero qs path
apart_numbered ps qs (suc i ∷ path) within = let e : true ≡ false = sym within ∙ under_suc ps i path in cc

numbered_different : (ts : List PathTree) → AreListed ts → AreDifferent (numbered (map paths_of ts))
numbered_different [] listed = tt
numbered_different (t ∷ ts) listed =
    different_append _ _ (different_under (paths_of t) listed.0.different) (different_bump (numbered (map paths_of ts)) (numbered_different ts listed.1) (numbered_members ts listed.1 [])) (apart_numbered (paths_of t) (numbered (map paths_of ts)))

-- and their number

sum-cons : (n : ℕ) (ns : List ℕ) → sum (n ∷ ns) ≡ n + sum ns
sum-cons n ns = sum_by-cons (λ k. k) n ns

numbered_long : (ts : List PathTree) → AreListed ts → length (numbered (map paths_of ts)) ≡ sum (map size ts)
numbered_long [] listed = refl
numbered_long (t ∷ ts) listed =
    let here : length (map under (paths_of t)) ≡ size t = length-map (paths_of t) under ∙ listed.0.long in
    let rest : length (map bump (numbered (map paths_of ts))) ≡ sum (map size ts) = length-map (numbered (map paths_of ts)) bump ∙ numbered_long ts listed.1 in
    let parts = length-append (map under (paths_of t)) (map bump (numbered (map paths_of ts))) in
    parts ∙ (ap (λ n. n + length (map bump (numbered (map paths_of ts)))) here ∙ (ap (λ n. size t + n) rest ∙ sym (sum-cons (size t) (map size ts))))

-- one level

paths_roll : (x : PathTree-F PathTree) → paths_of (roll-PathTree x) ≡ cond x.tested ([] ∷ []) [] ++ numbered (map paths_of x.below.items)
paths_roll x = fold-roll-PathTree (List (List ℕ)) paths_level x

has_roll : (x : PathTree-F PathTree) (path : List ℕ) → has (roll-PathTree x) path ≡ (x.tested && is_root path || tests_below (map has x.below.items) path)
has_roll x path = ap (λ h. h path) (fold-roll-PathTree (List ℕ → Bool) has_level x)

size_roll : (x : PathTree-F PathTree) → size (roll-PathTree x) ≡ sum (map size x.below.items) + cond x.tested 1 0
size_roll x = fold-roll-PathTree ℕ size_level x

root_member : (b : Bool) (path : List ℕ) → holds (cond b ([] ∷ []) []) path ≡ (b && is_root path)
root_member true [] = refl
root_member true (i ∷ path) = refl
root_member false path = refl

root_different : (b : Bool) → AreDifferent (cond b ([] ∷ []) [])
root_different true = (refl, tt)
root_different false = tt

root_apart : (b : Bool) (qs : List (List ℕ)) → holds qs [] ≡ false → (path : List ℕ) → holds (cond b ([] ∷ []) []) path ≡ true → holds qs path ≡ false
root_apart true qs none [] within = none
root_apart true qs none (i ∷ path) within = cc
root_apart false qs none path within = cc

root_long : (b : Bool) → length {A = List ℕ} (cond b ([] ∷ []) []) ≡ cond b 1 0
root_long true = refl
root_long false = refl

level : (x : PathTree-F PathTree) → AreListed x.below.items → IsListed (roll-PathTree x)
level x listed = let below = numbered (map paths_of x.below.items) in record {
  members = λ path.
      ap (λ ps. holds ps path) (paths_roll x)
      ∙ (list_any-append (same_path path) (cond x.tested ([] ∷ []) []) below
      ∙ (ap (λ b. b || holds below path) (root_member x.tested path) ∙ (ap (λ b. x.tested && is_root path || b) (numbered_members x.below.items listed path) ∙ sym (has_roll x path))));
  different =
      subst AreDifferent (sym (paths_roll x)) (different_append (cond x.tested ([] ∷ []) []) below (root_different x.tested) (numbered_different x.below.items listed) (root_apart x.tested below (numbered_members x.below.items listed [])));
  long =
      ap length (paths_roll x)
      ∙ (length-append (cond x.tested ([] ∷ []) []) below
      ∙ (omega (arith, root_long x.tested, numbered_long x.below.items listed) ∙ sym (size_roll x)));
}

listed_parts : (xs : List ((t : PathTree) × IsListed t)) → AreListed (map (λ e. e.0) xs)
listed_parts [] = tt
listed_parts (x ∷ xs) = (x.1, listed_parts xs)

listed : (t : PathTree) → IsListed t
listed = ind-PathTree IsListed (λ x y is. subst (λ z. IsListed (roll-PathTree z)) is (level (map-PathTree ((t : PathTree) × IsListed t) PathTree (λ e. e.0) y) (listed_parts y.below.items)))

IsDistinct-nil : IsDistinct same_path []
unfolding IsDistinct
IsDistinct-nil = tt

distinct_of : (ps : List (List ℕ)) → AreDifferent ps → IsDistinct same_path ps
distinct_of [] different = IsDistinct-nil
distinct_of (p ∷ ps) different = IsDistinct-cons same_path p ps (each ps different.0) (distinct_of ps different.1)
  where
    each : (qs : List (List ℕ)) → holds qs p ≡ false → AllByRecursion (λ q. same_path p q ≡ false) qs
    each [] none = tt
    each (q ∷ qs) none = (left_false _ _ none, each qs (right_false _ _ none))

pub number_of_tree : (t : PathTree) (passes : List ℕ → Bool) → ((path : List ℕ) → has t path ≡ passes path) → IsNumberOf passes (size t)
number_of_tree t passes is = record {
  paths = paths_of t;
  different = distinct_of (paths_of t) (listed t).different;
  exactly = λ path. (listed t).members path ∙ is path;
  number = sym (listed t).long;
}
