-- What holds of the items of each module holds of what is listed of a text: its items, groups, rules, named patterns and INITIALs.
use Rattle.std.proofs.Common.{ℕ, List, [], ◌∷◌, Option, Some, None}
use Rattle.std.specs.List.{AllByRecursion as Each, enumerate_from, filter_map, cons_option}
use Rattle.dactl_grammar.proofs.Holds.{IfThere}
use Rattle.dactl_meaning.specs.declared.tree.Name.{Name}
use Rattle.dactl_meaning.specs.declared.tree.PatternTree.{PatternTree}
use Rattle.dactl_meaning.specs.declared.tree.TermTree.{TermTree}
use Rattle.dactl_meaning.specs.declared.tree.RuleTree.{RuleTree}
use Rattle.dactl_meaning.specs.declared.tree.Item.{Item}
use Rattle.dactl_meaning.specs.declared.tree.Item.TheVariants as item
use Rattle.dactl_meaning.specs.declared.tree.Module.{Module}
use Rattle.dactl_meaning.specs.declared.tree.Text.{Text}
use Rattle.dactl_meaning.specs.Declarations.{Placed, PlacedGroup, PlacedRule, items_of, items, item_pattern, item_groups, groups, rules as all_rules}
use Rattle.dactl_meaning.specs.Meaning.{PlacedInitial, item_initial, all_initials}
use Rattle.dactl_syntax.proofs.Holding.{Some_of, each_weaker, each_map, each_flat, each_numbered}
use Rattle.dactl_syntax.proofs.Walk.{IsGroup, IsItem, IsModule}

each_there : {X Y : Type 0} (P : Y → Type 0) (f : X → Option Y) (xs : List X) → Each (λ x. IfThere P (f x)) xs → Each P (filter_map f xs)
each_there P f [] h = tt
each_there {X} {Y} P f (x ∷ xs) h = kept (f x) h.0 (each_there P f xs h.1)
  where
    kept : (o : Option Y) → IfThere P o → Each P (filter_map f xs) → Each P (cons_option o (filter_map f xs))
    kept None k l = l
    kept (Some y) k l = (k, l)

module _ (IsRule : RuleTree → Type 0) (IsPattern : PatternTree → Type 0) (IsTerm : TermTree → Type 0) (IsSymbol : Name → Type 0) where
  abbrev Fine : Item → Type 0
  Fine t = IsItem IsRule IsPattern IsTerm IsSymbol t

  -- the facts hold of an item of the text
  abbrev pub IsFineItem : Placed → Type 0
  IsFineItem i = Fine i.item

  pub module_items : (m : ℕ × Module) → IsModule IsRule IsPattern IsTerm IsSymbol m.1 → Each IsFineItem (items_of m)
  module_items m h = each_map IsFineItem (λ i. record { owner = m.0; number = i.0; item = i.1 }) (enumerate_from 0 m.1.items) (each_numbered Fine 0 m.1.items h)

  pattern_of : (t : Item) → Fine t → IfThere IsPattern (item_pattern t)
  pattern_of (item.Named public name pattern) h = h
  pattern_of _ h = tt

  initials_of : (m : ℕ) (t : Item) → Fine t → Each (λ i. Some_of IsTerm i.terms) (item_initial m t)
  initials_of m (item.Initial place terms) h = (h, tt)
  initials_of m _ h = tt

  abbrev IsFineGroup : PlacedGroup → Type 0
  IsFineGroup g = IsGroup IsRule IsPattern IsTerm IsSymbol g.group

  groups_of : (m : ℕ) (t : Item) → Fine t → Each IsFineGroup (item_groups m t)
  groups_of m (item.Rules groups) h = each_map IsFineGroup _ groups h
  groups_of m _ h = tt

  module _ (tree : Text) (given : Each (IsModule IsRule IsPattern IsTerm IsSymbol) tree.modules) where
    items_each : Each IsFineItem (items tree)
    items_each = each_flat IsFineItem items_of (enumerate_from 0 tree.modules)
        (each_weaker (λ (m : ℕ × Module). IsModule IsRule IsPattern IsTerm IsSymbol m.1) _ module_items (enumerate_from 0 tree.modules) (each_numbered (IsModule IsRule IsPattern IsTerm IsSymbol) 0 tree.modules given))

    pub named_each : Each IsPattern (filter_map (λ i. item_pattern i.item) (items tree))
    named_each = each_there IsPattern _ (items tree) (each_weaker IsFineItem _ (λ i h. pattern_of i.item h) (items tree) items_each)

    pub initials_each : Each (λ (i : PlacedInitial). Some_of IsTerm i.terms) (all_initials tree)
    initials_each = each_flat (λ (i : PlacedInitial). Some_of IsTerm i.terms) _ (items tree) (each_weaker IsFineItem _ (λ i h. initials_of i.owner i.item h) (items tree) items_each)

    groups_each : Each IsFineGroup (groups tree)
    groups_each = each_flat IsFineGroup _ (items tree) (each_weaker IsFineItem _ (λ i h. groups_of i.owner i.item h) (items tree) items_each)

    pub rules_each : Each (λ (r : PlacedRule). IsRule r.rule) (all_rules tree)
    rules_each = each_flat (λ (r : PlacedRule). IsRule r.rule) _ (groups tree) (each_weaker IsFineGroup _ (λ g h. each_map (λ (r : PlacedRule). IsRule r.rule) _ g.group.rules h) (groups tree) groups_each)
