-- A tree without its places: 0 stands for each of them, and for the length.
use Rattle.std.specs.Prelude.{map, option_map}
use Rattle.dactl_base.specs.declared.refusal.Place.{Place}
use Rattle.dactl_model.specs.declared.program.Class.{Class}
use Rattle.dactl_meaning.specs.declared.tree.Name.{Name}
use Rattle.dactl_meaning.specs.declared.tree.Marks.{Marks}
use Rattle.dactl_meaning.specs.declared.tree.Marks.TheVariants as marks
use Rattle.dactl_meaning.specs.declared.tree.NodeTree.{NodeTree}
use Rattle.dactl_meaning.specs.declared.tree.NodeTree.TheVariants as node_tree
use Rattle.dactl_meaning.specs.declared.tree.NodeTree.TheOpen.{NodeTree-F, ArgTree-F, TermTree-F}
use Rattle.dactl_meaning.specs.declared.tree.NodeTree.TheFolds.{fold-NodeTree, fold-ArgTree, fold-TermTree}
use Rattle.dactl_meaning.specs.declared.tree.ArgTree.{ArgTree, roll-ArgTree}
use Rattle.dactl_meaning.specs.declared.tree.TermTree.{TermTree, roll-TermTree}
use Rattle.dactl_meaning.specs.declared.tree.PatternTree.{PatternTree}
use Rattle.dactl_meaning.specs.declared.tree.PatternTree.TheVariants as p
use Rattle.dactl_meaning.specs.declared.tree.PatternTree.TheOpen.{PatternTree-F}
use Rattle.dactl_meaning.specs.declared.tree.PatternTree.TheFolds.{fold-PatternTree}
use Rattle.dactl_meaning.specs.declared.tree.Part.{Part}
use Rattle.dactl_meaning.specs.declared.tree.Part.TheVariants as parts
use Rattle.dactl_meaning.specs.declared.tree.RuleTree.{RuleTree}
use Rattle.dactl_meaning.specs.declared.tree.Group.{Group}
use Rattle.dactl_meaning.specs.declared.tree.Item.{Item}
use Rattle.dactl_meaning.specs.declared.tree.Item.TheVariants as item
use Rattle.dactl_meaning.specs.declared.tree.Module.{Module}
use Rattle.dactl_meaning.specs.declared.tree.Text.{Text}

-- the place that stands for every place
abbrev pub nowhere : Place
nowhere = record { byte = 0 }

abbrev pub bare_name : Name → Name
bare_name n = record { text = n.text; place = nowhere }

-- ---- terms

abbrev pub bare_marks : Marks → Marks
bare_marks marks.Plain = marks.Plain
bare_marks (marks.Star place) = marks.Star nowhere
bare_marks (marks.Hashes place count) = marks.Hashes nowhere count

-- One level of a node, of an argument and of a term, over what is without places.
abbrev pub bare_node_level : NodeTree-F NodeTree ArgTree TermTree → NodeTree
bare_node_level (NodeTree-F.Integer value place) = node_tree.Integer value nowhere
bare_node_level (NodeTree-F.Letter value place) = node_tree.Letter value nowhere
bare_node_level (NodeTree-F.Sym name args) = node_tree.Sym (bare_name name) args

abbrev pub bare_arg_level : ArgTree-F NodeTree ArgTree TermTree → ArgTree
bare_arg_level a = roll-ArgTree a

abbrev pub bare_term_level : TermTree-F NodeTree ArgTree TermTree → TermTree
bare_term_level t = roll-TermTree (record { marks = bare_marks t.marks; name = option_map bare_name t.name; node = t.node })

abbrev pub bare_node : NodeTree → NodeTree
bare_node = fold-NodeTree NodeTree ArgTree TermTree bare_node_level bare_arg_level bare_term_level

abbrev pub bare_arg : ArgTree → ArgTree
bare_arg = fold-ArgTree NodeTree ArgTree TermTree bare_node_level bare_arg_level bare_term_level

abbrev pub bare_term : TermTree → TermTree
bare_term = fold-TermTree NodeTree ArgTree TermTree bare_node_level bare_arg_level bare_term_level

-- ---- patterns

abbrev pub bare_pattern_level : PatternTree-F PatternTree → PatternTree
bare_pattern_level PatternTree-F.Any = p.Any
bare_pattern_level PatternTree-F.Int = p.Int
bare_pattern_level PatternTree-F.Char = p.Char
bare_pattern_level (PatternTree-F.Integer value) = p.Integer value
bare_pattern_level (PatternTree-F.Letter value) = p.Letter value
bare_pattern_level (PatternTree-F.Sym name args) = p.Sym (bare_name name) args
bare_pattern_level (PatternTree-F.Variable name) = p.Variable (bare_name name)
bare_pattern_level (PatternTree-F.Binder name inner) = p.Binder (bare_name name) inner
bare_pattern_level (PatternTree-F.Chain first rest) = p.Chain first rest

abbrev pub bare_pattern : PatternTree → PatternTree
bare_pattern = fold-PatternTree PatternTree bare_pattern_level

-- ---- rules, items and modules

abbrev pub bare_part : Part → Part
bare_part (parts.Term term) = parts.Term (bare_term term)
bare_part (parts.Redirect left term) = parts.Redirect (bare_name left) (bare_term term)

abbrev pub bare_rule : RuleTree → RuleTree
bare_rule r = record { place = nowhere; pattern = bare_pattern r.pattern; redirects = r.redirects; parts = map bare_part r.parts }

abbrev pub bare_group : Group → Group
bare_group g = record { rules = map bare_rule g.rules }

abbrev pub bare_class : Class × Place → Class × Place
bare_class c = (c.0, nowhere)

abbrev pub bare_item : Item → Item
bare_item (item.Imports names) = item.Imports (map bare_name names)
bare_item (item.Symbols class public names) = item.Symbols class (option_map bare_class public) (map bare_name names)
bare_item (item.Named public name pattern) = item.Named public (bare_name name) (bare_pattern pattern)
bare_item (item.Rules groups) = item.Rules (map bare_group groups)
bare_item (item.Initial place terms) = item.Initial nowhere (map bare_term terms)

abbrev pub bare_module : Module → Module
bare_module m = record { name = bare_name m.name; items = map bare_item m.items }

-- the tree without its places
abbrev pub without_places : Text → Text
without_places tree = record { language = tree.language; modules = map bare_module tree.modules; length = 0 }
