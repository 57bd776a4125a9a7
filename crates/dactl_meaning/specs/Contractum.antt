-- What a contractum says: its new nodes in the order of their symbols, integers and characters, and the nodes that it mentions.
use Rattle.std.specs.Prelude.{ℕ, ◌+◌, Bool, true, false, ◌&&◌, List, [], ◌∷◌, ◌++◌, map, length, min, Option, Some, None, if◌then◌else◌, ℤ}
use Rattle.std.specs.List.{filter, flat_map}
use Rattle.dactl_model.specs.declared.graph.Label.{Label}
use Rattle.dactl_model.specs.declared.graph.Label.TheVariants as labels
use Rattle.dactl_model.specs.declared.graph.Mark.{Mark}
use Rattle.dactl_model.specs.declared.graph.Mark.TheVariants.{Idle, Active, Waiting}
use Rattle.dactl_model.specs.declared.program.Mention.{Mention}
use Rattle.dactl_model.specs.declared.program.Mention.TheVariants.{Old, Fresh}
use Rattle.dactl_model.specs.declared.program.FreshNode.{FreshNode}
use Rattle.dactl_model.specs.declared.program.Left.TheVariants.{Root, Variable}
use Rattle.dactl_model.specs.declared.program.Move.{Move}
use Rattle.dactl_meaning.specs.declared.tree.Name.{Name}
use Rattle.dactl_meaning.specs.declared.tree.Marks.{Marks}
use Rattle.dactl_meaning.specs.declared.tree.Marks.TheVariants as marks
use Rattle.dactl_meaning.specs.declared.tree.NodeTree.TheOpen.{NodeTree-F, ArgTree-F, TermTree-F}
use Rattle.dactl_meaning.specs.declared.tree.NodeTree.TheFolds.{fold-NodeTree, fold-ArgTree, fold-TermTree}
use Rattle.dactl_meaning.specs.declared.tree.NodeTree.{NodeTree}
use Rattle.dactl_meaning.specs.declared.tree.ArgTree.{ArgTree}
use Rattle.dactl_meaning.specs.declared.tree.TermTree.{TermTree}
use Rattle.dactl_meaning.specs.declared.tree.Part.{Part}
use Rattle.dactl_meaning.specs.declared.tree.Part.TheVariants as parts
use Rattle.dactl_meaning.specs.Sight.{Seen, SeenSymbol, SeenPattern}
use Rattle.dactl_meaning.specs.Expansion.{is_among, number_in}

-- ---- as it is written

-- a term stands for the new node of a number, or for the node of a name
pub data Target : Type 0 where
  Made : ℕ → Target
  Named : List ℕ → Target

-- what a new node is made of
pub data Core : Type 0 where
  Number : ℤ → Core
  Character : ℕ → Core
  Of : Name → Core

-- a new node as it is written: the name before its `:`, its marks, what it is, and its arcs with their `^`
pub record Sketch : Type 0 where
  pub name : Option Name
  pub marks : Marks
  pub core : Core
  pub arcs : List (Bool × Target)

-- what a term stands for, and the new nodes that it makes, the outer before the inner
pub record Drawn : Type 0 where
  pub target : Target
  pub made : List Sketch

-- an argument and whether `^` stands before it
pub record DrawnArc : Type 0 where
  pub waits : Bool
  pub drawn : Drawn

-- the arguments one after another, where the next new node has number k
abbrev pub drawn_from : ℕ → List (ℕ → DrawnArc) → List DrawnArc
drawn_from k [] = []
drawn_from k (a ∷ args) = a k ∷ drawn_from (k + length (a k).drawn.made) args

-- a node with these arguments, of number k
abbrev pub drawn_node : ℕ → Option Name → Marks → Core → List DrawnArc → Drawn
drawn_node k name m core args =
    record { target = Made k; made = record { name = name; marks = m; core = core; arcs = map (λ a. (a.waits, a.drawn.target)) args } ∷ flat_map (λ a. a.drawn.made) args }

-- One level: a node of number k, with the name and the marks of its term; its arguments follow it.
abbrev pub node_drawn : NodeTree-F (ℕ → Option Name → Marks → Drawn) (ℕ → DrawnArc) (ℕ → Drawn) → ℕ → Option Name → Marks → Drawn
node_drawn (NodeTree-F.Integer value p) k name m = drawn_node k name m (Number value) []
node_drawn (NodeTree-F.Letter value p) k name m = drawn_node k name m (Character value) []
node_drawn (NodeTree-F.Sym symbol args) k name m = drawn_node k name m (Of symbol) (drawn_from (k + 1) args)

abbrev pub arg_drawn : ArgTree-F (ℕ → Option Name → Marks → Drawn) (ℕ → DrawnArc) (ℕ → Drawn) → ℕ → DrawnArc
arg_drawn a k = record { waits = a.waits; drawn = a.term k }

-- a term with a node makes it; one without stands for the node of its name
abbrev pub drawn_term : Option Name → Marks → Option (ℕ → Option Name → Marks → Drawn) → ℕ → Drawn
drawn_term name m (Some node) k = node k name m
drawn_term (Some name) m None k = record { target = Named name.text; made = [] }
drawn_term None m None k = record { target = Named []; made = [] }

abbrev pub term_drawn : TermTree-F (ℕ → Option Name → Marks → Drawn) (ℕ → DrawnArc) (ℕ → Drawn) → ℕ → Drawn
term_drawn t = drawn_term t.name t.marks t.node

-- what a term stands for, where the next new node has number k
abbrev pub term_draws : TermTree → ℕ → Drawn
term_draws = fold-TermTree (ℕ → Option Name → Marks → Drawn) (ℕ → DrawnArc) (ℕ → Drawn) node_drawn arg_drawn term_drawn

abbrev pub node_draws : NodeTree → ℕ → Option Name → Marks → Drawn
node_draws = fold-NodeTree (ℕ → Option Name → Marks → Drawn) (ℕ → DrawnArc) (ℕ → Drawn) node_drawn arg_drawn term_drawn

abbrev pub arg_draws : ArgTree → ℕ → DrawnArc
arg_draws = fold-ArgTree (ℕ → Option Name → Marks → Drawn) (ℕ → DrawnArc) (ℕ → Drawn) node_drawn arg_drawn term_drawn

-- terms one after another
abbrev pub terms_draw : ℕ → List TermTree → List Drawn
terms_draw k [] = []
terms_draw k (t ∷ terms) = term_draws t k ∷ terms_draw (k + length (term_draws t k).made) terms

-- the new nodes of the terms of a contractum
abbrev pub made_by : List TermTree → List Sketch
made_by terms = flat_map (λ d. d.made) (terms_draw 0 terms)

-- a mention: a name without a node, and the marks before it
pub record MentionTree : Type 0 where
  pub name : Name
  pub marks : Marks

-- a name without a node is a mention
abbrev pub mention_here : Option Name → Marks → Option (List MentionTree) → List MentionTree
mention_here name m (Some under) = under
mention_here (Some name) m None = record { name = name; marks = m } ∷ []
mention_here None m None = []

-- One level: the mentions in the order of their names.
abbrev pub node_mentions : NodeTree-F (List MentionTree) (List MentionTree) (List MentionTree) → List MentionTree
node_mentions (NodeTree-F.Integer value p) = []
node_mentions (NodeTree-F.Letter value p) = []
node_mentions (NodeTree-F.Sym symbol args) = flat_map (λ a. a) args

abbrev pub arg_mentions : ArgTree-F (List MentionTree) (List MentionTree) (List MentionTree) → List MentionTree
arg_mentions a = a.term

abbrev pub term_mentions : TermTree-F (List MentionTree) (List MentionTree) (List MentionTree) → List MentionTree
term_mentions t = mention_here t.name t.marks t.node

abbrev pub mentions_in : TermTree → List MentionTree
mentions_in = fold-TermTree (List MentionTree) (List MentionTree) (List MentionTree) node_mentions arg_mentions term_mentions

-- the mentions of the terms of a contractum
abbrev pub mentions_of : List TermTree → List MentionTree
mentions_of terms = flat_map mentions_in terms

-- ---- the parts of a rule

abbrev pub term_of_part : Part → TermTree
term_of_part (parts.Term t) = t
term_of_part (parts.Redirect left t) = t

abbrev pub left_of_part : Part → Option Name
left_of_part (parts.Term t) = None
left_of_part (parts.Redirect left t) = Some left

-- the names that have a node in the contractum, in order
abbrev pub name_list : Option Name → List Name
name_list None = []
name_list (Some name) = name ∷ []

abbrev pub given_names : List Sketch → List Name
given_names made = flat_map (λ s. name_list s.name) made

-- ---- what it means

-- the new node has this name
abbrev pub has_name : Sketch → List ℕ → Bool
has_name s w = is_among (map (λ n. n.text) (name_list s.name)) w

-- the number of the first new node of this name
abbrev pub number_given : List Sketch → List ℕ → ℕ
number_given [] w = 0
number_given (s ∷ made) w = if has_name s w then 0 else number_given made w + 1

-- a name denotes its variable, and what is no variable denotes its new node
abbrev pub name_denotes : List (List ℕ) → List Sketch → List ℕ → Mention
name_denotes variables made w = if is_among variables w then Old (number_in variables w) else Fresh (number_given made w)

abbrev pub denotes : List (List ℕ) → List Sketch → Target → Mention
denotes variables made (Made k) = Fresh k
denotes variables made (Named w) = name_denotes variables made w

-- the mark that is written: `*` is active, k times `#` awaits k notifications
abbrev pub mark_of : Marks → Mark
mark_of marks.Plain = Idle
mark_of (marks.Star p) = Active
mark_of (marks.Hashes p count) = Waiting count

abbrev pub symbol_label : Option Seen → Label
symbol_label None = labels.Symbol 0
symbol_label (Some (SeenSymbol f class)) = labels.Symbol f
symbol_label (Some (SeenPattern m i)) = labels.Symbol 0

-- the label of a new node. (In a text without faults the name of a term is a symbol that is seen.)
abbrev pub label_of : (List ℕ → Option Seen) → Core → Label
label_of look (Number value) = labels.Integer value
label_of look (Character value) = labels.Character value
label_of look (Of symbol) = symbol_label (look symbol.text)

-- the new node of a sketch
abbrev pub fresh_of : (List ℕ → Option Seen) → List (List ℕ) → List Sketch → Sketch → FreshNode
fresh_of look variables made s =
    record { label = label_of look s.core; arcs = map (λ a. record { to = denotes variables made a.1; waits = a.0 }) s.arcs; mark = mark_of s.marks }

-- the new nodes of a contractum
abbrev pub fresh_nodes : (List ℕ → Option Seen) → List (List ℕ) → List TermTree → List FreshNode
fresh_nodes look variables terms = map (fresh_of look variables (made_by terms)) (made_by terms)

-- the redirection of a part with a left side, to what its term stands for
abbrev pub move_of : List (List ℕ) → List Sketch → Option Name → Drawn → List Move
move_of variables made None d = []
move_of variables made (Some left) d = record { from = Variable (number_in variables left.text); to = denotes variables made d.target } ∷ []

-- the redirections of the parts, one after another, where the next new node has number k
abbrev pub moves_from : List (List ℕ) → List Sketch → ℕ → List Part → List Move
moves_from variables made k [] = []
moves_from variables made k (part ∷ rest) =
    let d = term_draws (term_of_part part) k in move_of variables made (left_of_part part) d ++ moves_from variables made (k + length d.made) rest

-- `=>` redirects the root to the first term, before all others
abbrev pub root_move : List (List ℕ) → List Sketch → Bool → List TermTree → List Move
root_move variables made false terms = []
root_move variables made true [] = []
root_move variables made true (t ∷ terms) = record { from = Root; to = denotes variables made (term_draws t 0).target } ∷ []

abbrev pub moves_of : List (List ℕ) → Bool → List Part → List Move
moves_of variables redirects ps =
    let terms = map term_of_part ps in root_move variables (made_by terms) redirects terms ++ moves_from variables (made_by terms) 0 ps

abbrev pub has_star : Marks → Bool
has_star marks.Plain = false
has_star (marks.Star p) = true
has_star (marks.Hashes p count) = false

-- how many `#` are written
abbrev pub hashes : Marks → ℕ
hashes marks.Plain = 0
hashes (marks.Star p) = 0
hashes (marks.Hashes p count) = count

abbrev pub has_hashes : Marks → Bool
has_hashes marks.Plain = false
has_hashes (marks.Star p) = false
has_hashes (marks.Hashes p count) = true

-- the mentions of these names, which are the root's, with `#`
abbrev pub suspensions : List (List ℕ) → List TermTree → List MentionTree
suspensions roots terms = filter (λ m. has_hashes m.marks && is_among roots m.name.text) (mentions_of terms)

-- how many notifications the first of the mentions asks for, which is 16 at most, or 0 where there is none
abbrev pub asked_by : List MentionTree → ℕ
asked_by [] = 0
asked_by (m ∷ more) = min 16 (hashes m.marks)

-- how many notifications the root is to wait for again
abbrev pub suspend_of : List (List ℕ) → List TermTree → ℕ
suspend_of roots terms = asked_by (suspensions roots terms)

-- the variables that are mentioned with `*`, in text order
abbrev pub wakes_of : List (List ℕ) → List TermTree → List ℕ
wakes_of variables terms = map (λ m. number_in variables m.name.text) (filter (λ m. has_star m.marks && is_among variables m.name.text) (mentions_of terms))
