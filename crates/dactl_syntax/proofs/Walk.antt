-- From what holds of rules, patterns, terms and declared symbols to what holds of the items and modules of a text.
use Rattle.std.proofs.Common.{ℕ, List}
use Rattle.std.specs.List.{AllByRecursion as Each}
use Rattle.dactl_grammar.specs.Grammar.{one, maybe}
use Rattle.dactl_grammar.proofs.Holds.{Splits, Holds, holds_one, holds_row, holds_choice, holds_many, holds_means}
use Rattle.dactl_terminals.specs.declared.token.Sort.TheVariants as s
use Rattle.dactl_meaning.specs.declared.tree.Name.{Name}
use Rattle.dactl_meaning.specs.declared.tree.PatternTree.{PatternTree}
use Rattle.dactl_meaning.specs.declared.tree.TermTree.{TermTree}
use Rattle.dactl_meaning.specs.declared.tree.RuleTree.{RuleTree}
use Rattle.dactl_meaning.specs.declared.tree.Group.{Group}
use Rattle.dactl_meaning.specs.declared.tree.Item.{Item}
use Rattle.dactl_meaning.specs.declared.tree.Item.TheVariants as item
use Rattle.dactl_meaning.specs.declared.tree.Module.{Module}
use Rattle.dactl_terminals.specs.Parts.{Tok, is, behind, before, upper}
use Rattle.dactl_syntax.specs.Productions.{several, term, args, pattern, rule, group_of, group, imports_of, class, symbols_of, symbols, pattern_named_of, named, rules_of, rules, initial_of, initial, an_item, is_name, module_of, a_module}
use Rattle.dactl_syntax.proofs.Holding.{holds_anything, holds_behind, holds_before, Some_of, holds_several, holds_separated}

module _ (IsRule : RuleTree → Type 0) (IsPattern : PatternTree → Type 0) (IsTerm : TermTree → Type 0) (IsSymbol : Name → Type 0) where
  abbrev pub IsGroup : Group → Type 0
  IsGroup g = Each IsRule g.rules

  abbrev pub IsItem : Item → Type 0
  IsItem (item.Imports imported) = Unit {0}
  IsItem (item.Symbols seen public declared) = Each IsSymbol declared
  IsItem (item.Named public name pattern) = IsPattern pattern
  IsItem (item.Rules groups) = Each IsGroup groups
  IsItem (item.Initial place terms) = Some_of IsTerm terms

  abbrev pub IsModule : Module → Type 0
  IsModule m = Each IsItem m.items

  module _ (Good : List Tok → Type 0) (split : Splits Good) (n : ℕ) (of_rule : Holds Good (rule n) IsRule) (of_pattern : Holds Good (pattern n) IsPattern) (of_term : Holds Good (term (args n)) IsTerm) (of_symbol : Holds Good upper IsSymbol) where
    group_holds : Holds Good (group n) IsGroup
    group_holds = holds_means group_of IsGroup (λ rs h. h.each) (holds_before s.Semicolon split (holds_separated s.Bar split of_rule))

    symbols_hold : Holds Good symbols IsItem
    symbols_hold = holds_means symbols_of IsItem (λ v h. h.1.1.each) (holds_behind s.Symbol split (holds_row split (holds_anything class) (λ _. holds_row split (holds_anything (maybe (behind s.Public class))) (λ _. holds_before s.Semicolon split (holds_separated s.Comma split of_symbol)))))

    named_holds : Holds Good (named n) IsItem
    named_holds = holds_means pattern_named_of IsItem (λ v h. h.1.1) (holds_behind s.Pattern split (holds_row split (holds_anything _) (λ _. holds_row split (holds_anything upper) (λ _. holds_behind s.Equals split (holds_before s.Semicolon split of_pattern)))))

    rules_hold : Holds Good (rules n) IsItem
    rules_hold = holds_means rules_of IsItem (λ gs h. h.each) (holds_behind s.Rule split (holds_several split group_holds))

    initial_holds : Holds Good (initial n) IsItem
    initial_holds = holds_means initial_of IsItem (λ v h. h.1) (holds_row split (holds_one (is s.Initial)) (λ _. holds_behind s.Rewrites split (holds_before s.Semicolon split (holds_separated s.Comma split of_term))))

    item_holds : Holds Good (an_item n) IsItem
    item_holds = holds_choice (holds_means imports_of IsItem (λ v h. tt) (holds_anything _)) (holds_choice symbols_hold (holds_choice named_holds (holds_choice rules_hold initial_holds)))

    module_holds : Holds Good (a_module n) IsModule
    module_holds = holds_means module_of IsModule (λ v h. h.1.0) (holds_behind s.Module split (holds_row split (holds_anything (before upper s.Semicolon)) (λ name. holds_row split (holds_many split item_holds) (λ _. holds_anything (behind s.EndModule (before (one (is_name name)) s.Semicolon))))))

    pub modules_hold : Holds Good (several (a_module n)) (Some_of IsModule)
    modules_hold = holds_several split module_holds
