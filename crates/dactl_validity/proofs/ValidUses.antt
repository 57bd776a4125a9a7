-- What a rule, a named pattern or an INITIAL uses, the text uses.
use Rattle.std.proofs.Common.{◌≡◌, ℕ, List, [], ◌∷◌, ◌++◌, map, refl, sym, ap, subst, ◌∙◌, inl, inr}
use Rattle.std.specs.List.{flat_map}
use Rattle.dactl_meaning.specs.declared.tree.RuleTree.{RuleTree}
use Rattle.dactl_meaning.specs.declared.tree.Group.{Group}
use Rattle.dactl_meaning.specs.declared.tree.Part.{Part}
use Rattle.dactl_meaning.specs.declared.tree.Part.TheVariants as parts
use Rattle.dactl_meaning.specs.declared.tree.Item.{Item}
use Rattle.dactl_meaning.specs.declared.tree.Item.TheVariants as item
use Rattle.dactl_meaning.specs.declared.tree.Text.{Text}
use Rattle.dactl_meaning.specs.Declarations.{Placed, PlacedGroup, items, item_groups, groups, rules}
use Rattle.dactl_meaning.specs.Uses.{Use, term_uses, part_uses, rule_uses, item_uses, uses}
use Rattle.dactl_meaning.specs.Contractum.{term_of_part}
use Rattle.dactl_meaning.specs.ScopeFaults.{item_initials, initials}
use Rattle.dactl_meaning.specs.Meaning.{PlacedInitial, item_initial, all_initials}
use Rattle.dactl_validity.proofs.ValidLists.{In, in_map, map_in, in_flat, flat_in}

-- a group of an item: the item uses what its rules use
abbrev IsGroupOf : ℕ → Item → PlacedGroup → Type 0
IsGroupOf m i g = (g.owner ≡ m) × ((r : RuleTree) (u : Use) → In g.group.rules r → In (rule_uses r) u → In (item_uses i) u)

group_of : (m : ℕ) (i : Item) (g : PlacedGroup) → In (item_groups m i) g → IsGroupOf m i g
group_of m (item.Imports names) g h = absurd h
group_of m (item.Symbols class public names) g h = absurd h
group_of m (item.Named public name pattern) g h = absurd h
group_of m (item.Rules gs) g h =
    let r = map_in (λ (x : Group). record { owner = m; group = x }) gs g h in
    subst (IsGroupOf m (item.Rules gs)) r.2 (refl, λ rule u k l. in_flat (λ (x : Group). flat_map rule_uses x.rules) gs r.0 u r.1 (in_flat rule_uses r.0.rules rule u k l))
group_of m (item.Initial place terms) g h = absurd h

in_uses : (text : Text) (i : Placed) (m : ℕ) (u : Use) → In (items text) i → m ≡ i.owner → In (item_uses i.item) u → In (uses text) (m, u)
in_uses text i m u h e k =
    subst (λ n. In (uses text) (n, u)) (sym e) (in_flat (λ (z : Placed). map (λ (v : Use). (z.owner, v)) (item_uses z.item)) (items text) i (i.owner, u) h (in_map (λ (v : Use). (i.owner, v)) (item_uses i.item) u k))

-- a rule of the text: its group, and what it uses
pub group_uses : (text : Text) (g : PlacedGroup) → In (groups text) g → (r : RuleTree) (u : Use) → In g.group.rules r → In (rule_uses r) u → In (uses text) (g.owner, u)
group_uses text g h r u k l =
    let f = flat_in (λ (z : Placed). item_groups z.owner z.item) (items text) g h in
    let of = group_of f.0.owner f.0.item g f.2 in
    in_uses text f.0 g.owner u f.1 of.0 (of.1 r u k l)

pub in_rules : (text : Text) (g : PlacedGroup) (r : RuleTree) → In (groups text) g → In g.group.rules r → In (rules text) (record { owner = g.owner; rule = r })
in_rules text g r h k = in_flat (λ (z : PlacedGroup). map (λ (x : RuleTree). record { owner = z.owner; rule = x }) z.group.rules) (groups text) g _ h (in_map (λ (x : RuleTree). record { owner = g.owner; rule = x }) g.group.rules r k)

-- what the terms of a rule's parts use, the rule uses
part_term : (p : Part) → part_uses p ≡ term_uses (term_of_part p)
part_term (parts.Term t) = refl
part_term (parts.Redirect left t) = refl

pub parts_uses : (ps : List Part) (u : Use) → In (flat_map term_uses (map term_of_part ps)) u → In (flat_map part_uses ps) u
parts_uses ps u h =
    let f = flat_in term_uses (map term_of_part ps) u h in
    let p = map_in term_of_part ps f.0 f.1 in
    in_flat part_uses ps p.0 u p.1 (subst (λ l. In l u) (ap term_uses (sym p.2) ∙ sym (part_term p.0)) f.2)

-- an INITIAL of the text, and what it uses
abbrev IsInitialOf : ℕ → Item → PlacedInitial → Type 0
IsInitialOf m i x = (x.owner ≡ m) × ((u : Use) → In (flat_map term_uses x.terms) u → In (item_uses i) u)

initial_of : (m : ℕ) (i : Item) (x : PlacedInitial) → In (item_initial m i) x → IsInitialOf m i x
initial_of m (item.Imports names) x h = absurd h
initial_of m (item.Symbols class public names) x h = absurd h
initial_of m (item.Named public name pattern) x h = absurd h
initial_of m (item.Rules gs) x h = absurd h
initial_of m (item.Initial place terms) x (inl e) = subst (IsInitialOf m (item.Initial place terms)) e (refl, λ u k. k)
initial_of m (item.Initial place terms) x (inr h) = absurd h

pub initial_uses : (text : Text) (x : PlacedInitial) → In (all_initials text) x → (u : Use) → In (flat_map term_uses x.terms) u → In (uses text) (x.owner, u)
initial_uses text x h u k =
    let f = flat_in (λ (z : Placed). item_initial z.owner z.item) (items text) x h in
    let of = initial_of f.0.owner f.0.item x f.2 in
    in_uses text f.0 x.owner u f.1 of.0 (of.1 u k)

-- a text without any INITIAL has no place of one
none_more : (m : ℕ) (i : Item) (xs : List PlacedInitial) (ys : List ℕ) → item_initial m i ++ xs ≡ [] → (xs ≡ [] → ys ≡ []) → item_initials i ++ ys ≡ []
none_more m (item.Imports names) xs ys e f = f e
none_more m (item.Symbols class public names) xs ys e f = f e
none_more m (item.Named public name pattern) xs ys e f = f e
none_more m (item.Rules gs) xs ys e f = f e
none_more m (item.Initial place terms) xs ys e f = absurd cc

none_of : (is : List Placed) → flat_map (λ (i : Placed). item_initial i.owner i.item) is ≡ [] → flat_map (λ (i : Placed). item_initials i.item) is ≡ []
none_of [] e = refl
none_of (i ∷ is) e = none_more i.owner i.item _ _ e (none_of is)

pub no_initials : (text : Text) → all_initials text ≡ [] → initials text ≡ []
no_initials text = none_of (items text)
