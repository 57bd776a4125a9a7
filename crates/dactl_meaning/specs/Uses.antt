-- The uses of the names of symbols and patterns, in patterns and terms at every depth.
use Rattle.std.specs.Prelude.{ℕ, Bool, true, false, List, [], ◌∷◌, ◌++◌, map, Option, Some, None}
use Rattle.std.specs.List.{flat_map}
use Rattle.dactl_meaning.specs.declared.tree.Name.{Name}
use Rattle.dactl_meaning.specs.declared.tree.NodeTree.TheOpen.{NodeTree-F, ArgTree-F, TermTree-F}
use Rattle.dactl_meaning.specs.declared.tree.NodeTree.TheFolds.{fold-TermTree}
use Rattle.dactl_meaning.specs.declared.tree.TermTree.{TermTree}
use Rattle.dactl_meaning.specs.declared.tree.PatternTree.{PatternTree}
use Rattle.dactl_meaning.specs.declared.tree.PatternTree.TheOpen.{PatternTree-F}
use Rattle.dactl_meaning.specs.declared.tree.PatternTree.TheFolds.{fold-PatternTree}
use Rattle.dactl_meaning.specs.declared.tree.Part.{Part}
use Rattle.dactl_meaning.specs.declared.tree.Part.TheVariants as parts
use Rattle.dactl_meaning.specs.declared.tree.RuleTree.{RuleTree}
use Rattle.dactl_meaning.specs.declared.tree.Item.{Item}
use Rattle.dactl_meaning.specs.declared.tree.Item.TheVariants as item
use Rattle.dactl_meaning.specs.declared.tree.Text.{Text}
use Rattle.dactl_meaning.specs.Declarations.{items}

-- a use of a name, and whether a pattern gives it arguments
pub record Use : Type 0 where
  pub name : Name
  pub given : Bool

-- there is something in the list
abbrev pub is_any : {X : Type 0} → List X → Bool
is_any [] = false
is_any (x ∷ xs) = true

-- the lists one after the other
abbrev pub joined : List (List Use) → List Use
joined uses = flat_map (λ u. u) uses

-- One level of a pattern, with the uses in the patterns below.
abbrev pub pattern_uses_level : PatternTree-F (List Use) → List Use
pattern_uses_level PatternTree-F.Any = []
pattern_uses_level PatternTree-F.Int = []
pattern_uses_level PatternTree-F.Char = []
pattern_uses_level (PatternTree-F.Integer value) = []
pattern_uses_level (PatternTree-F.Letter value) = []
pattern_uses_level (PatternTree-F.Sym name args) = record { name = name; given = is_any args } ∷ joined args
pattern_uses_level (PatternTree-F.Variable name) = []
pattern_uses_level (PatternTree-F.Binder name inner) = inner
pattern_uses_level (PatternTree-F.Chain first rest) = first ++ flat_map (λ l. l.1) rest

-- the uses in a pattern
abbrev pub pattern_uses : PatternTree → List Use
pattern_uses = fold-PatternTree (List Use) pattern_uses_level

-- the uses in a node, if there is one
abbrev pub body_uses : Option (List Use) → List Use
body_uses None = []
body_uses (Some uses) = uses

-- One level of a node, of an argument and of a term, with the uses below.
abbrev pub node_uses_level : NodeTree-F (List Use) (List Use) (List Use) → List Use
node_uses_level (NodeTree-F.Integer value place) = []
node_uses_level (NodeTree-F.Letter value place) = []
node_uses_level (NodeTree-F.Sym name args) = record { name = name; given = false } ∷ joined args

abbrev pub arg_uses_level : ArgTree-F (List Use) (List Use) (List Use) → List Use
arg_uses_level a = a.term

abbrev pub term_uses_level : TermTree-F (List Use) (List Use) (List Use) → List Use
term_uses_level t = body_uses t.node

-- the uses in a term
abbrev pub term_uses : TermTree → List Use
term_uses = fold-TermTree (List Use) (List Use) (List Use) node_uses_level arg_uses_level term_uses_level

-- the uses in a part of a rule's right side
abbrev pub part_uses : Part → List Use
part_uses (parts.Term term) = term_uses term
part_uses (parts.Redirect left term) = term_uses term

-- the uses in a rule
abbrev pub rule_uses : RuleTree → List Use
rule_uses r = pattern_uses r.pattern ++ flat_map part_uses r.parts

-- the uses in an item
abbrev pub item_uses : Item → List Use
item_uses (item.Imports names) = []
item_uses (item.Symbols class public names) = []
item_uses (item.Named public name pattern) = pattern_uses pattern
item_uses (item.Rules groups) = flat_map (λ g. flat_map rule_uses g.rules) groups
item_uses (item.Initial place terms) = flat_map term_uses terms

-- all uses in text order, each with the number of its module
abbrev pub uses : Text → List (ℕ × Use)
uses text = flat_map (λ i. map (λ u. (i.owner, u)) (item_uses i.item)) (items text)
