-- What a tree means: the least of its faults, or its program.
use Rattle.std.specs.Prelude.{◌≡◌, ℕ, ◌+◌, Bool, true, ◌==◌, ◌⊎◌, List, [], ◌∷◌, ◌++◌, map, length, Any, Contains, Option, Some, None, unwrap_or}
use Rattle.std.specs.List.{flat_map}
use Rattle.dactl_base.specs.declared.refusal.Kind.TheVariants as kinds
use Rattle.dactl_base.specs.declared.refusal.Refusal.{Refusal}
use Rattle.dactl_model.specs.declared.program.Mention.{Mention}
use Rattle.dactl_model.specs.declared.program.Mention.TheVariants.{Old, Fresh}
use Rattle.dactl_model.specs.declared.program.Op.TheVariants as op
use Rattle.dactl_model.specs.declared.program.Body.TheVariants.{Written}
use Rattle.dactl_model.specs.declared.program.Rule.{Rule}
use Rattle.dactl_model.specs.declared.program.Start.{Start}
use Rattle.dactl_model.specs.declared.program.Program.{Program}
use Rattle.dactl_model.specs.Binders.{head}
use Rattle.dactl_model.specs.Programs.{arithmetic_rule}
use Rattle.dactl_meaning.specs.declared.tree.PatternTree.{PatternTree}
use Rattle.dactl_meaning.specs.declared.tree.TermTree.{TermTree}
use Rattle.dactl_meaning.specs.declared.tree.RuleTree.{RuleTree}
use Rattle.dactl_meaning.specs.declared.tree.Item.{Item}
use Rattle.dactl_meaning.specs.declared.tree.Item.TheVariants as item
use Rattle.dactl_meaning.specs.declared.tree.Text.{Text}
use Rattle.dactl_meaning.specs.Declarations.{Placed, PlacedGroup, items, groups, rules, symbols, named_pattern}
use Rattle.dactl_meaning.specs.Sight.{Seen, SeenSymbol, SeenPattern, sees}
use Rattle.dactl_meaning.specs.Uses.{pattern_uses}
use Rattle.dactl_meaning.specs.ScopeFaults.{ScopeFault}
use Rattle.dactl_meaning.specs.Expansion.{variables_of, rule_expansion}
use Rattle.dactl_meaning.specs.Contractum.{term_of_part, made_by, term_draws, denotes, fresh_nodes, moves_of, wakes_of, suspend_of}
use Rattle.dactl_meaning.specs.RuleFaults.{suspendable, pattern_faults, contractum_faults, rule_faults}

-- ---- the program

-- the symbol at the head of a rule's pattern. (In a text without faults there is one.)
abbrev pub head_symbol : Text → ℕ → RuleTree → ℕ
head_symbol text m r = unwrap_or (head (rule_expansion text m r.pattern)) 0

-- the rule that a tree means, in a module and a group
abbrev pub rule_of : Text → ℕ → ℕ → RuleTree → Rule
rule_of text m group r =
    let variables = variables_of r.pattern in
    let terms = map term_of_part r.parts in
    record {
      symbol = head_symbol text m r;
      group = group;
      variables = length variables;
      pattern = rule_expansion text m r.pattern;
      body =
          Written (fresh_nodes (sees text m) variables terms) (moves_of variables r.redirects r.parts) (wakes_of variables terms)
          (suspend_of (suspendable r) terms);
    }

-- the rules of groups, which are numbered from this one on
abbrev pub rules_from : Text → ℕ → List PlacedGroup → List Rule
rules_from text group [] = []
rules_from text group (g ∷ more) = map (rule_of text g.owner group) g.group.rules ++ rules_from text (group + 1) more

-- the rules 0 to 4 are those of the arithmetic symbols, in the groups 0 to 4
abbrev pub arithmetic_rules : List Rule
arithmetic_rules = arithmetic_rule 0 op.Add ∷ arithmetic_rule 1 op.Sub ∷ arithmetic_rule 2 op.Mul ∷ arithmetic_rule 3 op.Eq ∷ arithmetic_rule 4 op.Lt ∷ []

-- an INITIAL: the number of its module, and its terms
pub record PlacedInitial : Type 0 where
  pub owner : ℕ
  pub terms : List TermTree

abbrev pub item_initial : ℕ → Item → List PlacedInitial
item_initial m (item.Initial place terms) = record { owner = m; terms = terms } ∷ []
item_initial m _ = []

-- every INITIAL, in text order
abbrev pub all_initials : Text → List PlacedInitial
all_initials text = flat_map (λ i. item_initial i.owner i.item) (items text)

abbrev pub node_number : Mention → ℕ
node_number (Old v) = v
node_number (Fresh i) = i

-- the node that the first term stands for
abbrev pub root_of : List TermTree → ℕ
root_of [] = 0
root_of (t ∷ terms) = node_number (denotes [] (made_by (t ∷ terms)) (term_draws t 0).target)

-- the start that the first INITIAL means: its contractum, its first term the root. (In a text without faults there is one.)
abbrev pub start_by : Text → List PlacedInitial → Start
start_by text [] = record { fresh = []; root = 0 }
start_by text (initial ∷ more) = record { fresh = fresh_nodes (sees text initial.owner) [] initial.terms; root = root_of initial.terms }

-- the text is of language 2, which has integers of 128 bits and characters
abbrev pub is_wide : Text → Bool
is_wide text = text.language == 2

-- the program of a tree without faults
abbrev pub program_of : Text → Program
program_of text =
    record {
      symbols = symbols text;
      rules = arithmetic_rules ++ rules_from text 5 (groups text);
      start = start_by text (all_initials text);
      wide = is_wide text;
    }

-- ---- named patterns that reach themselves

-- a named pattern, by the numbers of its module and of its item there
abbrev pub NamedPattern : Type 0
NamedPattern = ℕ × ℕ

abbrev pub IsSeenAs : NamedPattern → Option Seen → Type 0
IsSeenAs b None = ⊥
IsSeenAs b (Some (SeenSymbol f class)) = ⊥
IsSeenAs b (Some (SeenPattern m i)) = b ≡ (m, i)

-- a tree in module m names the pattern b
abbrev pub NamesIn : Text → ℕ → Option PatternTree → NamedPattern → Type 0
NamesIn text m None b = ⊥
NamesIn text m (Some tree) b = Any (λ u. IsSeenAs b (sees text m u.name.text)) (pattern_uses tree)

-- the named pattern a names the pattern b
abbrev pub Names : Text → NamedPattern → NamedPattern → Type 0
Names text a b = NamesIn text a.0 (named_pattern text a.0 a.1) b

-- a names the first of the patterns between, each names the next, and the last names b
abbrev pub Reaches : Text → NamedPattern → List NamedPattern → NamedPattern → Type 0
Reaches text a [] b = Names text a b
Reaches text a (c ∷ between) b = Names text a c × Reaches text c between b

-- the item is a named pattern that reaches itself, and its name stands at the place
abbrev pub IsCycleAt : Text → NamedPattern → Item → ℕ → Type 0
IsCycleAt text a (item.Named public name pattern) place = (place ≡ name.place.byte) × ((between : List NamedPattern) × Reaches text a between a)
IsCycleAt text a _ place = ⊥

-- PatternCycle: a named pattern reaches itself
abbrev pub CycleFault : Text → Refusal → Type 0
CycleFault text r = (r.kind ≡ kinds.PatternCycle) × Any (λ i. IsCycleAt text (i.owner, i.number) i.item r.place.byte) (items text)

-- ---- faults of the rules

-- the faults of an item's named pattern
abbrev pub named_faults : Text → Placed → List Refusal
named_faults text i = elim i.item [
  | item.Imports names ↦ []
  | item.Symbols class public names ↦ []
  | item.Named public name pattern ↦ pattern_faults text i.owner true name.place.byte pattern
  | item.Rules groups ↦ []
  | item.Initial place terms ↦ []
]

-- the faults of named patterns, of rules, and of every INITIAL
abbrev pub faults_of_rules : Text → List Refusal
faults_of_rules text =
    flat_map (named_faults text) (items text)
    ++ flat_map (λ r. rule_faults text r.owner r.rule) (rules text)
    ++ flat_map (λ i. contractum_faults (sees text i.owner) [] [] i.terms) (all_initials text)

abbrev pub RuleFault : Text → Refusal → Type 0
RuleFault text r = Contains (faults_of_rules text) r

-- ---- the meaning

-- a fault of the tree
abbrev pub TreeFault : Text → Refusal → Type 0
TreeFault text r = ScopeFault text r ⊎ (CycleFault text r ⊎ RuleFault text r)
