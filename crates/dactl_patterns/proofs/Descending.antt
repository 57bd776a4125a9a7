-- Where levels descend, a named pattern that names none of its own level is in no cycle; and levels that are looked through descend.
use Rattle.std.proofs.Common.{◌≡◌, ℕ, ◌≤◌, ◌<◌, List, [], ◌∷◌, Option, Some, None, refl, sym, subst, arith}
use Rattle.std.specs.Prelude.{All, Any, Contains, slice_get, option_and_then}
use Rattle.std.specs.List.{enumerate_from}
use Rattle.dactl_meaning.specs.declared.tree.PatternTree.{PatternTree}
use Rattle.dactl_meaning.specs.declared.tree.Item.{Item}
use Rattle.dactl_meaning.specs.declared.tree.Item.TheVariants as item
use Rattle.dactl_meaning.specs.declared.tree.Module.{Module}
use Rattle.dactl_meaning.specs.declared.tree.Text.{Text}
use Rattle.dactl_meaning.specs.Declarations.{Placed, items_of, items, item_pattern, named_pattern}
use Rattle.dactl_meaning.specs.Meaning.{NamedPattern, Reaches}
use Rattle.dactl_patterns.specs.declared.declarations.Declared.{Declared}
use Rattle.dactl_patterns.specs.Cycling.{named_by, named_from, ReachesItself}
use Rattle.dactl_patterns.specs.Cycles.{declared_at, declared, all_declared}
use Rattle.dactl_patterns.specs.Levels.{DescendsAt, IsDescending}
use Rattle.dactl_patterns.proofs.Gaining.{none_in}
use Rattle.dactl_patterns.proofs.Reaching.{names_listed}
use Rattle.dactl_patterns.proofs.Somewhere.{one_any, given_any, mapped_any, numbered_any}

none_some : {A : Type 0} {x : A} → None ≡ Some x → ⊥
none_some e = cc

-- ---- cycles

-- what is reached has no higher level
reached_below : (text : Text) (level : NamedPattern → ℕ) → IsDescending text level → (between : List NamedPattern) (a b : NamedPattern) → Reaches text a between b → level b ≤ level a
reached_below text level descends [] a b names = descends a b (names_listed text a b names)
reached_below text level descends (c ∷ between) a b path =
    omega (arith, descends a c (names_listed text a c path.0), reached_below text level descends between c b path.1)

pub is_free : (text : Text) (level : NamedPattern → ℕ) (a : NamedPattern) → IsDescending text level → ((b : NamedPattern) → Contains (named_from text a) b → level b < level a) → ¬ ReachesItself text a
is_free text level a descends lower = λ way. leads_on way.0 way.1
  where
    leads_on : (between : List NamedPattern) → Reaches text a between a → ⊥
    leads_on [] names = omega (arith, lower a (names_listed text a a names))
    leads_on (c ∷ between) path = omega (arith, lower c (names_listed text a c path.0), reached_below text level descends between c a path.1)

-- ---- all that names something is declared

abbrev Is : NamedPattern → Declared → Type 0
Is a p = p.pattern ≡ a

item_declared : (a : NamedPattern) (i : Item) (tree : PatternTree) → item_pattern i ≡ Some tree → Any (Is a) (declared_at a i)
item_declared a (item.Named public name pattern) tree is = one_any (Is a) (record { pattern = a; place = name.place }) refl
item_declared a _ tree is = absurd (none_some is)

abbrev Declares : NamedPattern → Placed → Type 0
Declares a p = Any (Is a) (declared p)

in_item : (text : Text) (a : NamedPattern) (tree : PatternTree) (found : Module) (o : Option Item) → slice_get text.modules a.0 ≡ Some found → slice_get found.items a.1 ≡ o → option_and_then item_pattern o ≡ Some tree → Any (Is a) (all_declared text)
in_item text a tree found None here at is = absurd (none_some is)
in_item text a tree found (Some i) here at is =
    given_any (Is a) declared (items text)
    (given_any (Declares a) items_of (enumerate_from 0 text.modules)
    (numbered_any (λ m. Any (Declares a) (items_of m)) text.modules a.0 found here
    (mapped_any (Declares a) (λ j. record { owner = a.0; number = j.0; item = j.1 }) (enumerate_from 0 found.items)
    (numbered_any (λ j. Any (Is a) (declared_at (a.0, j.0) j.1)) found.items a.1 i at (item_declared a i tree is)))))

in_module : (text : Text) (a : NamedPattern) (tree : PatternTree) (o : Option Module) → slice_get text.modules a.0 ≡ o → option_and_then item_pattern (option_and_then (λ found. slice_get found.items a.1) o) ≡ Some tree → Any (Is a) (all_declared text)
in_module text a tree None here is = absurd (none_some is)
in_module text a tree (Some found) here is = in_item text a tree found (slice_get found.items a.1) here refl is

by_tree : (text : Text) (a b : NamedPattern) (o : Option PatternTree) → named_pattern text a.0 a.1 ≡ o → Contains (named_by text a.0 o) b → Any (Is a) (all_declared text)
by_tree text a b None is has = absurd (none_in b has)
by_tree text a b (Some tree) is has = in_module text a tree (slice_get text.modules a.0) refl is

-- ---- all that is declared descends

pub descending : (text : Text) (level : NamedPattern → ℕ) (patterns : List Declared) → patterns ≡ all_declared text → All (λ p. DescendsAt text level p.pattern) patterns → IsDescending text level
descending text level patterns are each = λ a b has.
    let any = subst (Any (Is a)) (sym are) (by_tree text a b (named_pattern text a.0 a.1) refl has) in
    let this : DescendsAt text level any.1.pattern = subst (λ (p : Declared). DescendsAt text level p.pattern) any.3 (each any.0 any.1 any.2) in
    let here : DescendsAt text level a = subst (DescendsAt text level) any.4 this in
    here b has
