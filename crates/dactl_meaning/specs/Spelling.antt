-- What a tree has from its tokens and the grammar: spelled names and whole terms.
use Rattle.std.specs.Prelude.{◌≡◌, ◌<◌, Bool, true, false, ◌&&◌, List, ◌++◌, map, length, All, IsTrue, Option, Some, None, nat_le}
use Rattle.std.specs.List.{filter_map, list_all}
use Rattle.dactl_model.specs.Integers.{is_word}
use Rattle.dactl_model.specs.Names.{is_upper_name}
use Rattle.dactl_meaning.specs.declared.tree.Name.{Name}
use Rattle.dactl_meaning.specs.declared.tree.Marks.{Marks}
use Rattle.dactl_meaning.specs.declared.tree.Marks.TheVariants as marks
use Rattle.dactl_meaning.specs.declared.tree.PatternTree.{PatternTree}
use Rattle.dactl_meaning.specs.declared.tree.PatternTree.TheOpen.{PatternTree-F}
use Rattle.dactl_meaning.specs.declared.tree.PatternTree.TheFolds.{fold-PatternTree}
use Rattle.dactl_meaning.specs.declared.tree.NodeTree.TheOpen.{NodeTree-F, ArgTree-F, TermTree-F}
use Rattle.dactl_meaning.specs.declared.tree.NodeTree.TheFolds.{fold-TermTree}
use Rattle.dactl_meaning.specs.declared.tree.TermTree.{TermTree}
use Rattle.dactl_meaning.specs.declared.tree.Text.{Text}
use Rattle.dactl_meaning.specs.Declarations.{items, item_pattern, rules, symbol_names}
use Rattle.dactl_meaning.specs.Contractum.{term_of_part}
use Rattle.dactl_meaning.specs.Meaning.{all_initials, is_wide}

-- ---- whole terms

-- `#` is counted from 1
abbrev pub is_counted : Marks → Bool
is_counted marks.Plain = true
is_counted (marks.Star p) = true
is_counted (marks.Hashes p count) = nat_le 1 count

-- a term has a name or a node, and its node is whole
abbrev pub has_body : Option Name → Option Bool → Bool
has_body name (Some whole) = whole
has_body (Some name) None = true
has_body None None = false

-- One level of a node, of an argument and of a term.
abbrev pub node_whole : NodeTree-F Bool Bool Bool → Bool
node_whole (NodeTree-F.Integer value place) = true
node_whole (NodeTree-F.Letter value place) = true
node_whole (NodeTree-F.Sym name args) = list_all (λ b. b) args

abbrev pub arg_whole : ArgTree-F Bool Bool Bool → Bool
arg_whole a = a.term

abbrev pub term_whole : TermTree-F Bool Bool Bool → Bool
term_whole t = is_counted t.marks && has_body t.name t.node

-- each term in it has a name or a node, and counts its `#` from 1
abbrev pub is_whole : TermTree → Bool
is_whole = fold-TermTree Bool Bool Bool node_whole arg_whole term_whole

-- ---- contracta

-- the terms of each rule's right side and of each INITIAL
abbrev pub contracta : Text → List (List TermTree)
contracta text = map (λ r. map term_of_part r.rule.parts) (rules text) ++ map (λ i. i.terms) (all_initials text)

-- ---- integers and characters

-- One level of a pattern: its integers have 64 bits, and it has no character.
abbrev pub pattern_narrow : PatternTree-F Bool → Bool
pattern_narrow PatternTree-F.Any = true
pattern_narrow PatternTree-F.Int = true
pattern_narrow PatternTree-F.Char = false
pattern_narrow (PatternTree-F.Integer value) = is_word value
pattern_narrow (PatternTree-F.Letter value) = false
pattern_narrow (PatternTree-F.Sym name args) = list_all (λ b. b) args
pattern_narrow (PatternTree-F.Variable name) = true
pattern_narrow (PatternTree-F.Binder name inner) = inner
pattern_narrow (PatternTree-F.Chain first rest) = first && list_all (λ link. link.1) rest

abbrev pub is_narrow_pattern : PatternTree → Bool
is_narrow_pattern = fold-PatternTree Bool pattern_narrow

-- One level of a node, of an argument and of a term, in the same way.
abbrev pub node_narrow : NodeTree-F Bool Bool Bool → Bool
node_narrow (NodeTree-F.Integer value place) = is_word value
node_narrow (NodeTree-F.Letter value place) = false
node_narrow (NodeTree-F.Sym name args) = list_all (λ b. b) args

abbrev pub arg_narrow : ArgTree-F Bool Bool Bool → Bool
arg_narrow a = a.term

abbrev pub has_narrow : Option Bool → Bool
has_narrow (Some narrow) = narrow
has_narrow None = true

abbrev pub term_narrow : TermTree-F Bool Bool Bool → Bool
term_narrow t = has_narrow t.node

abbrev pub is_narrow_term : TermTree → Bool
is_narrow_term = fold-TermTree Bool Bool Bool node_narrow arg_narrow term_narrow

-- the patterns of all rules, and all named patterns
abbrev pub all_patterns : Text → List PatternTree
all_patterns text = map (λ r. r.rule.pattern) (rules text) ++ filter_map (λ i. item_pattern i.item) (items text)

-- a tree whose integers have 64 bits, and which has no character
pub record IsNarrowText (text : Text) : Type 0 where
  pub patterns : All (λ p. IsTrue (is_narrow_pattern p)) (all_patterns text)
  pub terms : All (λ terms. All (λ t. IsTrue (is_narrow_term t)) terms) (contracta text)

-- ---- texts

-- a tree as tokens and the grammar shape it: its symbols are spelled as upper names, each INITIAL has a term, terms are whole, and only a text of language 2 has wider integers and characters
pub record IsSpelled (text : Text) : Type 0 where
  pub names : All (λ d. IsTrue (is_upper_name (is_wide text) d.name.text)) (symbol_names text)
  pub initials : All (λ i. 0 < length i.terms) (all_initials text)
  pub whole : All (λ terms. All (λ t. IsTrue (is_whole t)) terms) (contracta text)
  pub narrow : is_wide text ≡ false → IsNarrowText text
