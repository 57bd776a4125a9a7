-- Rules and faults that are added one after another.
use Rattle.std.proofs.Common.{◌≡◌, ℕ, ◌+◌, ◌<◌, List, [], ◌∷◌, ◌++◌, map, length, take, get_or, Contains, Option, None, refl, sym, ap, ◌∙◌, subst, arith, append_assoc, length-append}
use Rattle.std.specs.List.{flat_map}
use Rattle.std.proofs.lemmas.List.{append-nil, map-append}
use Rattle.std.proofs.lemmas.List.Elements.{All-append, All-from_recursion}
use Rattle.std.proofs.lemmas.Grind.{flat_map-append}
use Rattle.dactl_base.specs.declared.refusal.Refusal.{Refusal}
use Rattle.dactl_model.specs.declared.program.Rule.{Rule}
use Rattle.dactl_meaning.specs.declared.tree.Group.{Group}
use Rattle.dactl_meaning.specs.declared.tree.RuleTree.{RuleTree}
use Rattle.dactl_meaning.specs.declared.tree.TermTree.{TermTree}
use Rattle.dactl_meaning.specs.declared.tree.Text.{Text}
use Rattle.dactl_meaning.specs.Declarations.{Placed, PlacedGroup}
use Rattle.dactl_meaning.specs.Meaning.{rule_of, rules_from}
use Rattle.dactl_meaning.specs.RuleFaults.{rule_faults}
use Rattle.dactl_symbols.specs.Least.{sooner, TellsLeast}
use Rattle.dactl_symbols.proofs.Sooner.{sooner-None, sooner-assoc}
use Rattle.dactl_rules.specs.declared.compiled.CompiledRules.{CompiledRules}
use Rattle.dactl_validity.specs.Counting.{AreCountable}
use Rattle.dactl_rules.specs.RuleLists.{Adds, AddsGroups, HasRules, terms_of, placed_groups, groups_in, faults_in}
use Rattle.dactl_contractum.proofs.Least.{none_told, both_none, tells_append}
use Rattle.dactl_contractum.proofs.Listings.{one_more, flat_one}
use Rattle.dactl_contractum.proofs.Listings.{items_more as items_more_of}

-- ---- additions

pub adds_none : (r : CompiledRules) → Adds [] [] [] 0 r r
adds_none r = record {
  least = None;
  tells = none_told;
  fault = sym (sooner-None r.fault);
  added = λ e. sym (append-nil r.rules.items);
  counted = λ e. All-from_recursion AreCountable [] tt;
  next = omega arith;
}

pub adds_then : {f g : List Refusal} {r s : List Rule} {c d : List (List TermTree)} {m n : ℕ} {x y z : CompiledRules} → Adds f r c m x y → Adds g s d n y z → Adds (f ++ g) (r ++ s) (c ++ d) (m + n) x z
adds_then {f} {g} {r} {s} {c} {d} {m} {n} {x} {y} {z} a b = record {
  least = sooner a.least b.least;
  tells = tells_append f g a.least b.least a.tells b.tells;
  fault = b.fault ∙ ap (λ (o : Option Refusal). sooner o b.least) a.fault ∙ sooner-assoc x.fault a.least b.least;
  added = λ e. let none = both_none a.least b.least e in b.added none.1 ∙ ap (λ (l : List Rule). l ++ s) (a.added none.0) ∙ append_assoc x.rules.items r s;
  counted = λ e. let none = both_none a.least b.least e in All-append AreCountable c d (a.counted none.0) (b.counted none.1);
  next = let first = a.next in let second = b.next in omega (arith, first, second);
}

-- the additions by other names
pub adds_same : {f g : List Refusal} {r s : List Rule} {c d : List (List TermTree)} {m n : ℕ} {x y : CompiledRules} → f ≡ g → r ≡ s → c ≡ d → m ≡ n → Adds f r c m x y → Adds g s d n x y
adds_same {x = x} {y = y} ef er ec em a = subst (λ (v : List Refusal × (List Rule × (List (List TermTree) × ℕ))). Adds v.0 v.1.0 v.1.1.0 v.1.1.1 x y) (λ j. (ef j, (er j, (ec j, em j)))) a

-- a rule more of a group
pub rules_more : (text : Text) (owner : ℕ) (rules : List RuleTree) (i : ℕ) (tree : RuleTree) (x y z : CompiledRules) → i < length rules → tree ≡ get_or rules i tree
    → Adds (flat_map (rule_faults text owner) (take i rules)) (map (rule_of text owner x.group) (take i rules)) (map terms_of (take i rules)) 0 x y
    → Adds (rule_faults text owner tree) (rule_of text owner y.group tree ∷ []) (terms_of tree ∷ []) 0 y z
    → Adds (flat_map (rule_faults text owner) (take (i + 1) rules)) (map (rule_of text owner x.group) (take (i + 1) rules)) (map terms_of (take (i + 1) rules)) 0 x z
rules_more text owner rules i tree x y z lt at before here =
    let more = one_more rules i tree lt at in
    let same : y.group ≡ x.group = let e = before.next in omega (arith, e) in
    adds_same
    (sym (ap (flat_map (rule_faults text owner)) more ∙ flat_one (rule_faults text owner) (take i rules) tree))
    (ap (λ (k : ℕ). map (rule_of text owner x.group) (take i rules) ++ rule_of text owner k tree ∷ []) same
    ∙ sym (ap (map (rule_of text owner x.group)) more ∙ map-append (rule_of text owner x.group) (take i rules) (tree ∷ [])))
    (sym (ap (map terms_of) more ∙ map-append terms_of (take i rules) (tree ∷ [])))
    refl
    (adds_then before here)

-- the group is behind its rules
pub group_ends : {f : List Refusal} {r : List Rule} {c : List (List TermTree)} {x y z : CompiledRules} → Adds f r c 0 x y → z.rules ≡ y.rules → z.fault ≡ y.fault → z.group ≡ y.group + 1 → Adds f r c 1 x z
group_ends {r = r} {x = x} a rules fault group = record {
  least = a.least;
  tells = a.tells;
  fault = fault ∙ a.fault;
  added = λ e. ap (λ v. v.items) rules ∙ a.added e;
  counted = a.counted;
  next = let before = a.next in omega (arith, before, group);
}

-- ---- groups

rules_both : (text : Text) (n : ℕ) (xs ys : List PlacedGroup) → rules_from text n (xs ++ ys) ≡ rules_from text n xs ++ rules_from text (n + length xs) ys
rules_both text n [] ys = let e : n ≡ n + 0 = omega arith in ap (λ (k : ℕ). rules_from text k ys) e
rules_both text n (g ∷ xs) ys =
    let e : n + 1 + length xs ≡ n + length (g ∷ xs) = omega arith in
    ap (λ (z : List Rule). map (rule_of text g.owner n) g.group.rules ++ z) (rules_both text (n + 1) xs ys ∙ ap (λ (k : ℕ). rules_from text (n + 1) xs ++ rules_from text k ys) e)
    ∙ sym (append_assoc (map (rule_of text g.owner n) g.group.rules) (rules_from text (n + 1) xs) (rules_from text (n + length (g ∷ xs)) ys))

pub groups_none : (text : Text) (x : CompiledRules) → AddsGroups text [] x x
groups_none text x = adds_none x

pub groups_then : (text : Text) (gs hs : List PlacedGroup) (x y z : CompiledRules) → AddsGroups text gs x y → AddsGroups text hs y z → AddsGroups text (gs ++ hs) x z
groups_then text gs hs x y z a b =
    let at : y.group ≡ x.group + length gs = a.next in
    adds_same
    (sym (flat_map-append (λ (g : PlacedGroup). flat_map (rule_faults text g.owner) g.group.rules) gs hs))
    (ap (λ (k : ℕ). rules_from text x.group gs ++ rules_from text k hs) at ∙ sym (rules_both text x.group gs hs))
    (sym (flat_map-append (λ (g : PlacedGroup). map terms_of g.group.rules) gs hs))
    (sym (length-append gs hs))
    (adds_then a b)

pub groups_one : (text : Text) (owner : ℕ) (group : Group) (x y : CompiledRules)
    → Adds (flat_map (rule_faults text owner) group.rules) (map (rule_of text owner x.group) group.rules) (map terms_of group.rules) 1 x y → AddsGroups text (placed_groups owner (group ∷ [])) x y
groups_one text owner group x y a =
    adds_same (sym (append-nil (flat_map (rule_faults text owner) group.rules))) (sym (append-nil (map (rule_of text owner x.group) group.rules))) (sym (append-nil (map terms_of group.rules))) refl a

-- a group more of a module
pub groups_more : (text : Text) (owner : ℕ) (groups : List Group) (i : ℕ) (group : Group) (x y z : CompiledRules) → i < length groups → group ≡ get_or groups i group
    → AddsGroups text (placed_groups owner (take i groups)) x y
    → Adds (flat_map (rule_faults text owner) group.rules) (map (rule_of text owner y.group) group.rules) (map terms_of group.rules) 1 y z
    → AddsGroups text (placed_groups owner (take (i + 1) groups)) x z
groups_more text owner groups i group x y z lt at before here =
    subst (λ (gs : List PlacedGroup). AddsGroups text gs x z)
    (sym (ap (placed_groups owner) (one_more groups i group lt at) ∙ map-append (λ (g : Group). let p : PlacedGroup = record { owner = owner; group = g } in p) (take i groups) (group ∷ [])))
    (groups_then text (placed_groups owner (take i groups)) (placed_groups owner (group ∷ [])) x y z before (groups_one text owner group y z here))

-- an item more of a text
pub groups_of_items_more : {I : Type 0} (text : Text) (placed : I → Placed) (items : List I) (i : ℕ) (item : I) (x y z : CompiledRules) → i < length items → item ≡ get_or items i item
    → AddsGroups text (flat_map groups_in (map placed (take i items))) x y → AddsGroups text (groups_in (placed item)) y z
    → AddsGroups text (flat_map groups_in (map placed (take (i + 1) items))) x z
groups_of_items_more text placed items i item x y z lt at before here =
    subst (λ (gs : List PlacedGroup). AddsGroups text gs x z)
    (sym (items_more_of groups_in placed items i item lt at))
    (groups_then text (flat_map groups_in (map placed (take i items))) (groups_in (placed item)) x y z before here)

-- all of them, from nothing
pub rules_all : (text : Text) (gs : List PlacedGroup) (x y : CompiledRules) → x.rules.items ≡ [] → x.fault ≡ None → x.group ≡ 5 → AddsGroups text gs x y → HasRules text gs y
rules_all text gs x y empty sound five a =
    let is : y.fault ≡ a.least = a.fault ∙ ap (λ (o : Option Refusal). sooner o a.least) sound in
    record {
      tells = subst (TellsLeast (Contains (faults_in text gs))) (sym is) a.tells;
      rules = λ e. a.added (sym is ∙ e) ∙ ap (λ (l : List Rule). l ++ rules_from text x.group gs) empty ∙ ap (λ (k : ℕ). rules_from text k gs) five;
      counted = λ e. a.counted (sym is ∙ e);
      next = let e = a.next in omega (arith, e, five);
    }
