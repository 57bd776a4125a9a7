-- The faults that a walk finds are those that the definitions say.
use Rattle.std.proofs.Common.{◌≡◌, ℕ, ◌<◌, ◌≤◌, Bool, true, false, List, [], ◌∷◌, ◌++◌, map, length, Option, Some, None, refl, sym, ap, ◌∙◌, subst, append_assoc, arith}
use Rattle.std.specs.Prelude.{not, ◌&&◌, ◌||◌, filter, nat_lt, is_some, Contains, IfSome, if◌then◌else◌}
use Rattle.std.specs.List.{flat_map}
use Rattle.std.specs.Str.{bytes_eq}
use Rattle.std.proofs.lemmas.Bool.{ltb-false, lt-ltb, le-ltb, or_left, or_right, or_from}
use Rattle.std.proofs.lemmas.Slice.Eq.{bytes_eq-Decides}
use Rattle.std.proofs.lemmas.List.Elements.{Contains-append_left, Contains-append_right}
use Rattle.dactl_base.specs.declared.refusal.Place.{Place}
use Rattle.dactl_base.specs.declared.refusal.Kind.{Kind}
use Rattle.dactl_base.specs.declared.refusal.Kind.TheVariants as kinds
use Rattle.dactl_base.specs.declared.refusal.Refusal.{Refusal}
use Rattle.dactl_model.specs.declared.program.Pat.{Pat}
use Rattle.dactl_meaning.specs.declared.tree.Name.{Name}
use Rattle.dactl_meaning.specs.declared.tree.PatternTree.{PatternTree}
use Rattle.dactl_meaning.specs.declared.tree.Text.{Text}
use Rattle.dactl_meaning.specs.Sight.{sees}
use Rattle.dactl_meaning.specs.Expansion.{Occurrence, is_among, each_once, occurrences, variables_of, named_count, named_expansion, expansion_by, pattern_nodes, pattern_expansion}
use Rattle.dactl_meaning.specs.RuleFaults.{again, place_of, each_at, at_if, widths, binders_in_choice, named_twice_in_pattern, wide_in_pattern, pattern_faults}
use Rattle.dactl_patterns.specs.declared.occurrences.Occurrence as code
use Rattle.dactl_patterns.specs.declared.occurrences.Found.{Found}
use Rattle.dactl_patterns.specs.Occurring.{seen, HasFound}
use Rattle.dactl_patterns.specs.Naming.{names_in, with_word}
use Rattle.dactl_patterns.specs.TreeFaults as spec
use Rattle.dactl_patterns.specs.TreeFaults.{fault_if, none_given, twice_faults, faults_with}
use Rattle.dactl_patterns.specs.Expanded.{expansion_as, variables_counted, is_wide, IsExpansion}
use Rattle.dactl_patterns.proofs.Expansions.{same_nodes}

-- a fault at each thing that passes the test
each_are : {X : Type 0} (test : X → Bool) (kind : Kind) (at : X → Place) (xs : List X) → flat_map (λ x. fault_if (test x) kind (at x)) xs ≡ each_at kind (map (λ x. (at x).byte) (filter test xs))
each_are test kind at [] = refl
each_are test kind at (x ∷ xs) =
    elim (test x) as (λ b. fault_if b kind (at x) ++ flat_map (λ x. fault_if (test x) kind (at x)) xs ≡ each_at kind (map (λ x. (at x).byte) (if b then x ∷ filter test xs else filter test xs))) [
      | true ↦ ap (λ k. record { kind = kind; place = at x } ∷ k) (each_are test kind at xs)
      | false ↦ each_are test kind at xs
    ]

whole_are : (large : Bool) (place : Place) → fault_if large kinds.TooWide place ≡ each_at kinds.TooWide (at_if large place.byte)
whole_are true place = refl
whole_are false place = refl

-- the test tells these names
SameNames : (List ℕ → Bool) → List (List ℕ) → Type 0
SameNames had names = (w : List ℕ) → had w ≡ is_among names w

or_swapped : (a b : Bool) → (a || b) ≡ (b || a)
or_swapped true true = refl
or_swapped true false = refl
or_swapped false true = refl
or_swapped false false = refl

same-push : (had : List ℕ → Bool) (names : List (List ℕ)) (w : List ℕ) → SameNames had names → SameNames (with_word had w) (w ∷ names)
unfolding SameNames
same-push had names w same = λ v. or_swapped (had v) (bytes_eq w v) ∙ ap (λ b. bytes_eq w v || b) (same v)

-- a name that is one of them already is no more to tell
same-again : (had : List ℕ → Bool) (names : List (List ℕ)) (w : List ℕ) → is_among names w ≡ true → SameNames had names → SameNames (with_word had w) names
unfolding SameNames
same-again had names w among same = λ v. ap (λ b. b || bytes_eq w v) (same v) ∙ by v (bytes_eq w v) refl
  where
    by : (v : List ℕ) (b : Bool) → bytes_eq w v ≡ b → (is_among names v || b) ≡ is_among names v
    by v true e = let there : is_among names v ≡ true = ap (is_among names) (sym ((bytes_eq-Decides w v).0 e)) ∙ among in ap (λ b. b || true) there ∙ sym there
    by v false e = or_swapped (is_among names v) false

abbrev given_names : List Occurrence → List Name
given_names os = map (λ o. o.name) (filter (λ o. o.given) os)

abbrev told : List Name → List Refusal
told names = each_at kinds.NamedTwice (map place_of names)

twice_are : (had : List ℕ → Bool) (names : List (List ℕ)) (os : List Occurrence) → SameNames had names → twice_faults had os ≡ told (again names (given_names os))
unfolding SameNames
twice_are had names [] same = refl
twice_are had names (o ∷ os) same =
    let w = o.name.text in
    let stays = twice_are had names os same in
    let grows = twice_are (with_word had w) (w ∷ names) os (same-push had names w same) in
    elim o.given as (λ g. fault_if (g && had w) kinds.NamedTwice o.name.place ++ twice_faults (if g then with_word had w else had) os ≡ told (again names (map (λ o. o.name) (if g then o ∷ filter (λ o. o.given) os else filter (λ o. o.given) os)))) [
      | false ↦ stays
      | true ↦ (rw (same w) (elim (is_among names w) as (λ b. is_among names w ≡ b → fault_if b kinds.NamedTwice o.name.place ++ twice_faults (with_word had w) os ≡ told (if b then o.name ∷ again names (given_names os) else again (w ∷ names) (given_names os))) [
        | true ↦ λ e. ap (λ k. record { kind = kinds.NamedTwice; place = o.name.place } ∷ k) (twice_are (with_word had w) names os (same-again had names w e same))
        | false ↦ λ e. grows
      ] refl))
    ]

names_seen : (xs : List code.Occurrence) → names_in xs ≡ map (λ o. o.name.text) (map seen xs)
names_seen [] = refl
names_seen (x ∷ xs) = ap (λ k. x.name.now.text ∷ k) (names_seen xs)

-- the variables by the places that were found
pub variables_found : (found : Found) (tree : PatternTree) (xs : List code.Occurrence) → xs ≡ found.places.items → HasFound found tree → each_once (names_in xs) ≡ variables_of tree
variables_found found tree xs same has = ap each_once (ap names_in same ∙ names_seen found.places.items ∙ ap (map (λ o. o.name.text)) has.places)

-- the faults by what was found, one kind after the other
pub faults_found : (text : Text) (owner : ℕ) (named large : Bool) (place : Place) (tree : PatternTree) (found : Found) → HasFound found tree → large ≡ is_wide text owner named tree
    → spec.faults_found large named place found ≡ pattern_faults text owner named place.byte tree
unfolding SameNames
faults_found text owner named large place tree found has is =
    let a = each_at kinds.BinderInChoice (binders_in_choice named tree) in
    let b = each_at kinds.TooWide (wide_in_pattern tree) in
    let c = each_at kinds.TooWide (at_if large place.byte) in
    let d = each_at kinds.NamedTwice (named_twice_in_pattern tree) in
    (λ j. faults_with large named place (has.places j) (has.uses j))
    ∙ (λ j.
    each_are (λ (o : Occurrence). named || o.in_choice) kinds.BinderInChoice (λ o. o.name.place) (occurrences tree) j
    ++ (each_are (λ (w : Name × ℕ). nat_lt 16 w.1) kinds.TooWide (λ w. w.0.place) (widths tree) j ++ (whole_are large place j ++ twice_are none_given [] (occurrences tree) (λ w. refl) j)))
    ∙ sym (append_assoc a b (c ++ d)) ∙ sym (append_assoc (a ++ b) c d)
    ∙ ap (λ l. ((a ++ b) ++ each_at kinds.TooWide (at_if l place.byte)) ++ d) is

-- ---- the expansion

pub counted_is : (text : Text) (owner : ℕ) (named : Bool) (tree : PatternTree) (variables : List (List ℕ)) (o : Option (List (List ℕ))) → o ≡ variables_counted named variables → variables ≡ variables_of tree
    → expansion_by (sees text owner) (named_expansion text (named_count text)) o tree ≡ expansion_as named text owner tree
counted_is text owner true tree variables o is same = ap (λ v. expansion_by (sees text owner) (named_expansion text (named_count text)) v tree) is
counted_is text owner false tree variables o is same = ap (λ v. expansion_by (sees text owner) (named_expansion text (named_count text)) v tree) (is ∙ ap Some same)

pub counted_few : (named : Bool) (variables : List (List ℕ)) (o : Option (List (List ℕ))) → o ≡ variables_counted named variables → (not named && nat_lt 64 (length variables)) ≡ false → IfSome o (λ v. length v < 256)
counted_few true variables o is few = subst (λ (z : Option (List (List ℕ))). IfSome z (λ v. length v < 256)) (sym is) tt
counted_few false variables o is few =
    let below : length variables < 256 = omega (arith, ltb-false 64 (length variables) few) in
    subst (λ (z : Option (List (List ℕ))). IfSome z (λ v. length v < 256)) (sym is) below

nodes_as : (text : Text) (owner : ℕ) (named : Bool) (tree : PatternTree) → pattern_nodes (expansion_as named text owner tree) ≡ pattern_nodes (pattern_expansion text owner tree)
nodes_as text owner true tree = refl
nodes_as text owner false tree = same_nodes (sees text owner) (named_expansion text (named_count text)) (variables_of tree) tree

-- too many variables, or too many nodes
pub many_wide : (text : Text) (owner : ℕ) (named : Bool) (tree : PatternTree) (variables : List (List ℕ)) → variables ≡ variables_of tree → (not named && nat_lt 64 (length variables)) ≡ true → is_wide text owner named tree ≡ true
many_wide text owner named tree variables same many =
    or_right (nat_lt 64 (pattern_nodes (pattern_expansion text owner tree))) _ (ap (λ (v : List (List ℕ)). not named && nat_lt 64 (length v)) (sym same) ∙ many)

pub large_wide : (text : Text) (owner : ℕ) (named : Bool) (tree : PatternTree) (p : Pat) → p ≡ expansion_as named text owner tree → 64 < pattern_nodes p → is_wide text owner named tree ≡ true
large_wide text owner named tree p is large =
    let nodes : pattern_nodes p ≡ pattern_nodes (pattern_expansion text owner tree) = ap pattern_nodes is ∙ nodes_as text owner named tree in
    or_left _ _ (lt-ltb 64 (pattern_nodes (pattern_expansion text owner tree)) (omega arith))

pub small_narrow : (text : Text) (owner : ℕ) (named : Bool) (tree : PatternTree) (variables : List (List ℕ)) (p : Pat) → variables ≡ variables_of tree → (not named && nat_lt 64 (length variables)) ≡ false → p ≡ expansion_as named text owner tree
    → pattern_nodes p ≤ 64 → is_wide text owner named tree ≡ false
small_narrow text owner named tree variables p same few is small =
    let nodes : pattern_nodes p ≡ pattern_nodes (pattern_expansion text owner tree) = ap pattern_nodes is ∙ nodes_as text owner named tree in
    or_from _ _ (le-ltb 64 (pattern_nodes (pattern_expansion text owner tree)) (omega arith)) (ap (λ (v : List (List ℕ)). not named && nat_lt 64 (length v)) (sym same) ∙ few)

-- a pattern has no expansion just where it is too wide
pub none_wide : (text : Text) (owner : ℕ) (named : Bool) (tree : PatternTree) (o : Option Pat) (none : Bool) → is_some o ≡ not none → IsExpansion text owner named tree o → none ≡ is_wide text owner named tree
none_wide text owner named tree None true is wide = sym wide
none_wide text owner named tree None false is wide = cc
none_wide text owner named tree (Some p) true is narrow = cc
none_wide text owner named tree (Some p) false is narrow = sym narrow.0

one_is : (x : Refusal) → Contains (x ∷ []) x
one_is x = (0, (omega arith), refl)

-- a pattern that is too wide has a fault at its place
pub wide_there : (text : Text) (owner : ℕ) (named : Bool) (place : Place) (tree : PatternTree) → is_wide text owner named tree ≡ true
    → Contains (pattern_faults text owner named place.byte tree) (record { kind = kinds.TooWide; place = place })
wide_there text owner named place tree wide =
    let fault : Refusal = record { kind = kinds.TooWide; place = place } in
    let before = each_at kinds.BinderInChoice (binders_in_choice named tree) ++ each_at kinds.TooWide (wide_in_pattern tree) in
    let here = each_at kinds.TooWide (at_if (is_wide text owner named tree) place.byte) in
    Contains-append_left (before ++ here) (each_at kinds.NamedTwice (named_twice_in_pattern tree)) fault
    (Contains-append_right before here fault (subst (λ (z : Bool). Contains (each_at kinds.TooWide (at_if z place.byte)) fault) (sym wide) (one_is fault)))
