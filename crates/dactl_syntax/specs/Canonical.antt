-- The canonical text of a tree: its tokens in the order of the grammar, each with one space behind it, but `;` and the Header with one LF.
use Rattle.std.specs.Prelude.{ℕ, zero, suc, Bool, true, false, ◌||◌, List, [], ◌∷◌, ◌++◌, map, Option, Some, None, codes, if◌then◌else◌}
use Rattle.std.specs.List.{concat}
use Rattle.std.specs.Fmt.{signed_decimal}
use Rattle.dactl_base.specs.declared.refusal.Place.{Place}
use Rattle.dactl_model.specs.declared.program.Class.{Class}
use Rattle.dactl_model.specs.declared.program.Class.TheVariants as classes
use Rattle.dactl_meaning.specs.declared.tree.Name.{Name}
use Rattle.dactl_meaning.specs.declared.tree.Marks.{Marks}
use Rattle.dactl_meaning.specs.declared.tree.Marks.TheVariants as marks
use Rattle.dactl_meaning.specs.declared.tree.NodeTree.{NodeTree}
use Rattle.dactl_meaning.specs.declared.tree.NodeTree.TheOpen.{NodeTree-F, ArgTree-F, TermTree-F}
use Rattle.dactl_meaning.specs.declared.tree.NodeTree.TheFolds.{fold-NodeTree, fold-ArgTree, fold-TermTree}
use Rattle.dactl_meaning.specs.declared.tree.ArgTree.{ArgTree}
use Rattle.dactl_meaning.specs.declared.tree.TermTree.{TermTree}
use Rattle.dactl_meaning.specs.declared.tree.PatternTree.{PatternTree}
use Rattle.dactl_meaning.specs.declared.tree.PatternTree.TheOpen.{PatternTree-F}
use Rattle.dactl_meaning.specs.declared.tree.PatternTree.TheFolds.{fold-PatternTree}
use Rattle.dactl_meaning.specs.declared.tree.Sign.{Sign}
use Rattle.dactl_meaning.specs.declared.tree.Sign.TheVariants as signs
use Rattle.dactl_meaning.specs.declared.tree.Part.{Part}
use Rattle.dactl_meaning.specs.declared.tree.Part.TheVariants as parts
use Rattle.dactl_meaning.specs.declared.tree.RuleTree.{RuleTree}
use Rattle.dactl_meaning.specs.declared.tree.Group.{Group}
use Rattle.dactl_meaning.specs.declared.tree.Item.{Item}
use Rattle.dactl_meaning.specs.declared.tree.Item.TheVariants as item
use Rattle.dactl_meaning.specs.declared.tree.Module.{Module}
use Rattle.dactl_meaning.specs.declared.tree.Text.{Text}
use Rattle.dactl_meaning.specs.Meaning.{is_wide}
use Rattle.dactl_syntax.specs.declared.write_patterns.Standing.{Standing}
use Rattle.dactl_syntax.specs.declared.write_patterns.Standing.TheVariants as standing

-- a token with the space behind it
abbrev pub word : List ℕ → List ℕ
word w = w ++ 32 ∷ []

-- `;` with the LF behind it
abbrev pub line_end : List ℕ
line_end = codes ";" ++ 10 ∷ []

-- parts with a token between each two
abbrev pub separated : List ℕ → List (List ℕ) → List ℕ
separated sep [] = []
separated sep (w ∷ ws) = w ++ concat (map (λ v. sep ++ v) ws)

-- a character, with the space behind it
abbrev pub character : ℕ → List ℕ
character byte = word (39 ∷ byte ∷ 39 ∷ [])

abbrev pub comma : List ℕ
comma = word (codes ",")

abbrev pub bar : List ℕ
bar = word (codes "|")

-- what stands before the part of an index: nothing before the first
abbrev pub before_text : ℕ → List ℕ → List ℕ
before_text zero sep = []
before_text (suc i) sep = sep

-- arguments in brackets; no brackets stand where there are none
abbrev pub bracketed : List (List ℕ) → List ℕ
bracketed [] = []
bracketed (a ∷ more) = word (codes "[") ++ (concat (a ∷ more) ++ word (codes "]"))

-- ---- terms

abbrev pub repeated : ℕ → List ℕ → List ℕ
repeated zero w = []
repeated (suc n) w = repeated n w ++ w

abbrev pub marks_text : Marks → List ℕ
marks_text marks.Plain = []
marks_text (marks.Star p) = word (codes "*")
marks_text (marks.Hashes p n) = repeated n (word (codes "#"))

-- a name, a node or both, with `:` between them
abbrev pub body_text : Option Name → Option (List ℕ) → List ℕ
body_text None None = []
body_text None (Some node) = node
body_text (Some name) None = word name.text
body_text (Some name) (Some node) = word name.text ++ (word (codes ":") ++ node)

abbrev pub node_level : NodeTree-F (List ℕ) (List ℕ) (List ℕ) → List ℕ
node_level (NodeTree-F.Integer value p) = word (signed_decimal value)
node_level (NodeTree-F.Letter value p) = character value
node_level (NodeTree-F.Sym name args) = word name.text ++ bracketed args

abbrev pub arg_level : ArgTree-F (List ℕ) (List ℕ) (List ℕ) → List ℕ
arg_level a = (if a.waits then word (codes "^") else []) ++ a.term

abbrev pub term_level : TermTree-F (List ℕ) (List ℕ) (List ℕ) → List ℕ
term_level t = marks_text t.marks ++ body_text t.name t.node

abbrev pub node_text : NodeTree → List ℕ
node_text = fold-NodeTree (List ℕ) (List ℕ) (List ℕ) node_level arg_level term_level

abbrev pub arg_text : ArgTree → List ℕ
arg_text = fold-ArgTree (List ℕ) (List ℕ) (List ℕ) node_level arg_level term_level

abbrev pub term_text : TermTree → List ℕ
term_text = fold-TermTree (List ℕ) (List ℕ) (List ℕ) node_level arg_level term_level

-- ---- patterns

-- a pattern's text without brackets round it, and whether it is a chain, a variable or a binder
pub record Piece : Type 0 where
  pub bytes : List ℕ
  pub is_chain : Bool
  pub is_named : Bool

abbrev pub in_round : List ℕ → List ℕ
in_round w = word (codes "(") ++ (w ++ word (codes ")"))

-- round brackets stand around a chain that isn't a whole pattern, and around a variable or binder directly behind `:`
abbrev pub brackets : Standing → Piece → Bool
brackets standing.Whole p = false
brackets standing.Inner p = p.is_chain
brackets standing.Bound p = p.is_chain || p.is_named

abbrev pub stand : Standing → Piece → List ℕ
stand s p = if brackets s p then in_round p.bytes else p.bytes

abbrev pub plain : List ℕ → Piece
plain w = record { bytes = w; is_chain = false; is_named = false }

abbrev pub sign_text : Sign → List ℕ
sign_text signs.Plus = word (codes "+")
sign_text signs.Minus = word (codes "-")

abbrev pub link_text : Sign × Piece → List ℕ
link_text l = sign_text l.0 ++ stand standing.Inner l.1

abbrev pub pattern_level : PatternTree-F Piece → Piece
pattern_level PatternTree-F.Any = plain (word (codes "ANY"))
pattern_level PatternTree-F.Int = plain (word (codes "INT"))
pattern_level PatternTree-F.Char = plain (word (codes "CHAR"))
pattern_level (PatternTree-F.Integer value) = plain (word (signed_decimal value))
pattern_level (PatternTree-F.Letter value) = plain (character value)
pattern_level (PatternTree-F.Sym name args) = plain (word name.text ++ bracketed (map (stand standing.Inner) args))
pattern_level (PatternTree-F.Variable name) = record { bytes = word name.text; is_chain = false; is_named = true }
pattern_level (PatternTree-F.Binder name inner) = record { bytes = word name.text ++ (word (codes ":") ++ stand standing.Bound inner); is_chain = false; is_named = true }
pattern_level (PatternTree-F.Chain first rest) = record { bytes = stand standing.Inner first ++ concat (map link_text rest); is_chain = true; is_named = false }

abbrev pub piece_of : PatternTree → Piece
piece_of = fold-PatternTree Piece pattern_level

abbrev pub pattern_text : Standing → PatternTree → List ℕ
pattern_text s p = stand s (piece_of p)

-- a sign and the pattern behind it
abbrev pub tail_text : Sign × PatternTree → List ℕ
tail_text l = sign_text l.0 ++ pattern_text standing.Inner l.1

-- ---- rules

abbrev pub part_text : Part → List ℕ
part_text (parts.Term t) = term_text t
part_text (parts.Redirect left t) = word left.text ++ (word (codes ":=") ++ term_text t)

abbrev pub arrow_text : Bool → List ℕ
arrow_text redirects = word (if redirects then codes "=>" else codes "->")

abbrev pub rule_text : RuleTree → List ℕ
rule_text r = pattern_text standing.Whole r.pattern ++ (arrow_text r.redirects ++ separated comma (map part_text r.parts))

abbrev pub group_text : Group → List ℕ
group_text g = separated bar (map rule_text g.rules) ++ line_end

-- ---- items and modules

abbrev pub names_text : List Name → List ℕ
names_text names = separated comma (map (λ n. word n.text) names)

abbrev pub class_text : Class → List ℕ
class_text classes.Rewritable = word (codes "REWRITABLE")
class_text classes.Overwritable = word (codes "OVERWRITABLE")
class_text classes.Creatable = word (codes "CREATABLE")

abbrev pub public_class_text : Option (Class × Place) → List ℕ
public_class_text None = []
public_class_text (Some c) = word (codes "PUBLIC") ++ class_text c.0

abbrev pub public_text : Bool → List ℕ
public_text public = if public then word (codes "PUBLIC") else []

abbrev pub item_text : Item → List ℕ
item_text (item.Imports names) = word (codes "IMPORTS") ++ (names_text names ++ line_end)
item_text (item.Symbols class public names) = word (codes "SYMBOL") ++ (class_text class ++ (public_class_text public ++ (names_text names ++ line_end)))
item_text (item.Named public name pattern) = word (codes "PATTERN") ++ (public_text public ++ (word name.text ++ (word (codes "=") ++ (pattern_text standing.Whole pattern ++ line_end))))
item_text (item.Rules groups) = word (codes "RULE") ++ concat (map group_text groups)
item_text (item.Initial p terms) = word (codes "INITIAL") ++ (word (codes "=>") ++ (separated comma (map term_text terms) ++ line_end))

abbrev pub module_text : Module → List ℕ
module_text m = word (codes "MODULE") ++ (word m.name.text ++ (line_end ++ (concat (map item_text m.items) ++ (word (codes "ENDMODULE") ++ (word m.name.text ++ line_end)))))

-- the Header of language 2, with the LF behind it
abbrev pub header_text : Bool → List ℕ
header_text wide = if wide then codes "DACTL 2;" ++ 10 ∷ [] else []

-- the canonical text
abbrev pub canonical : Text → List ℕ
canonical t = header_text (is_wide t) ++ concat (map module_text t.modules)
