-- What a drawing holds, in the words of the definitions of a contractum.
use Rattle.std.specs.Prelude.{◌≡◌, ℕ, zero, suc, Bool, List, [], ◌∷◌, ◌++◌, map, length}
use Rattle.std.specs.List.{flat_map}
use Rattle.dactl_meaning.specs.declared.tree.NodeTree.{NodeTree}
use Rattle.dactl_meaning.specs.declared.tree.ArgTree.{ArgTree}
use Rattle.dactl_meaning.specs.declared.tree.TermTree.{TermTree}
use Rattle.dactl_meaning.specs.declared.tree.NodeTree.TheFolds.{fold-NodeTree, fold-ArgTree}
use Rattle.dactl_meaning.specs.Contractum as contractum
use Rattle.dactl_meaning.specs.Contractum.{Drawn, DrawnArc, MentionTree, arg_draws, drawn_from, node_mentions, arg_mentions, term_mentions}
use Rattle.dactl_contractum.specs.declared.drawing.Target.{Target}
use Rattle.dactl_contractum.specs.declared.drawing.Target.TheVariants as target
use Rattle.dactl_contractum.specs.declared.drawing.Core.{Core}
use Rattle.dactl_contractum.specs.declared.drawing.Core.TheVariants as core
use Rattle.dactl_contractum.specs.declared.drawing.Sketch.{Sketch}
use Rattle.dactl_contractum.specs.declared.drawing.SketchArc.{SketchArc}
use Rattle.dactl_contractum.specs.declared.drawing.Arcs.{Arcs}
use Rattle.dactl_contractum.specs.declared.drawing.Arcs.TheVariants as arcs
use Rattle.dactl_contractum.specs.declared.drawing.Mentioned.{Mentioned}
use Rattle.dactl_contractum.specs.declared.drawing.Drawing.{Drawing}

-- ---- one level of the definitions, at each part of a term

-- arguments one after another, where the next new node has number k
abbrev pub args_draw : List ArgTree → ℕ → List DrawnArc
args_draw args k = drawn_from k (map arg_draws args)

abbrev pub node_mentioned : NodeTree → List MentionTree
node_mentioned = fold-NodeTree (List MentionTree) (List MentionTree) (List MentionTree) node_mentions arg_mentions term_mentions

abbrev pub arg_mentioned : ArgTree → List MentionTree
arg_mentioned = fold-ArgTree (List MentionTree) (List MentionTree) (List MentionTree) node_mentions arg_mentions term_mentions

abbrev pub args_mentioned : List ArgTree → List MentionTree
args_mentioned args = flat_map arg_mentioned args

-- ---- what is drawn

abbrev pub target_of : Target → contractum.Target
target_of (target.Made k) = contractum.Made k
target_of (target.Named n) = contractum.Named n.now.text
target_of target.Nameless = contractum.Named []

abbrev pub core_of : Core → contractum.Core
core_of (core.Number value) = contractum.Number value.now
core_of (core.Character value) = contractum.Character value
core_of (core.Of name) = contractum.Of name.now

abbrev pub arc_of : SketchArc → Bool × contractum.Target
arc_of a = (a.waits, target_of a.target)

abbrev pub arcs_in : Arcs → List SketchArc
arcs_in arcs.None = []
arcs_in (arcs.One a) = a ∷ []
arcs_in (arcs.Two a b) = a ∷ b ∷ []
arcs_in (arcs.More many) = many.items

abbrev pub sketch_of : Sketch → contractum.Sketch
sketch_of s = record { name = s.term.now.name; marks = s.term.now.marks; core = core_of s.core; arcs = map arc_of (arcs_in s.arcs) }

abbrev pub mention_of : Mentioned → MentionTree
mention_of m = record { name = m.name.now; marks = m.marks }

-- the new nodes of a drawing, and what it mentions
abbrev pub made_in : Drawing → List contractum.Sketch
made_in d = map sketch_of d.made.items

abbrev pub mentioned_in : Drawing → List MentionTree
mentioned_in d = map mention_of d.mentions.items

-- the number of the next new node
abbrev pub next_number : Drawing → ℕ
next_number d = length d.made.items

-- a new node whose arcs are not drawn yet
abbrev pub begun : TermTree → Core → contractum.Sketch
begun t c = record { name = t.name; marks = t.marks; core = core_of c; arcs = [] }

-- the new nodes, where the one of that number has these arcs
abbrev pub with_arcs : List contractum.Sketch → ℕ → List (Bool × contractum.Target) → List contractum.Sketch
with_arcs [] number arcs = []
with_arcs (s ∷ made) zero arcs = record s { arcs = arcs } ∷ made
with_arcs (s ∷ made) (suc number) arcs = s ∷ with_arcs made number arcs

-- a drawing grows by new nodes and mentions
pub record Grows (nodes : List contractum.Sketch) (names : List MentionTree) (old new : Drawing) : Type 0 where
  pub made : made_in new ≡ made_in old ++ nodes
  pub mentions : mentioned_in new ≡ mentioned_in old ++ names

-- a term is drawn: the drawing grows by what it makes and mentions, and this is what it stands for
pub record Draws (drawn : Drawn) (names : List MentionTree) (old new : Drawing) (t : Target) : Type 0 where
  pub grows : Grows drawn.made names old new
  pub stands : target_of t ≡ drawn.target

-- an argument is drawn, and this is the arc to what it stands for
pub record DrawsArc (drawn : DrawnArc) (names : List MentionTree) (old new : Drawing) (arc : SketchArc) : Type 0 where
  pub grows : Grows drawn.drawn.made names old new
  pub stands : arc_of arc ≡ (drawn.waits, drawn.drawn.target)

-- arguments are drawn, and these are the arcs to what they stand for
pub record DrawsArcs (drawn : List DrawnArc) (names : List MentionTree) (old new : Drawing) (arcs : List SketchArc) : Type 0 where
  pub grows : Grows (flat_map (λ a. a.drawn.made) drawn) names old new
  pub stands : map arc_of arcs ≡ map (λ a. (a.waits, a.drawn.target)) drawn
