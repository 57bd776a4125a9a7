-- What a contractum means, part by part.
use Rattle.std.specs.Prelude.{ℕ, Bool, true, false, ◌&&◌, List, [], ◌∷◌, ◌++◌, map, Option, Some, None, if◌then◌else◌}
use Rattle.dactl_model.specs.declared.graph.Label.{Label}
use Rattle.dactl_model.specs.declared.graph.Label.TheVariants as labels
use Rattle.dactl_model.specs.declared.program.FreshArc.{FreshArc}
use Rattle.dactl_model.specs.declared.program.FreshNode.{FreshNode}
use Rattle.dactl_model.specs.declared.program.Left.TheVariants.{Root, Variable}
use Rattle.dactl_model.specs.declared.program.Move.{Move}
use Rattle.dactl_meaning.specs.declared.tree.Name.{Name}
use Rattle.dactl_meaning.specs.declared.tree.Part.{Part}
use Rattle.dactl_meaning.specs.Expansion.{is_among, number_in}
use Rattle.dactl_meaning.specs.Contractum.{Core, Number, Character, Of, Target, Sketch, MentionTree, denotes, mark_of, has_star, left_of_part}

-- an arc of a new node
abbrev pub arc_meant : List (List ℕ) → List Sketch → Bool × Target → FreshArc
arc_meant variables made a = record { to = denotes variables made a.1; waits = a.0 }

-- the label of a new node whose symbol has that number
abbrev pub label_with : Core → ℕ → Label
label_with (Number value) n = labels.Integer value
label_with (Character value) n = labels.Character value
label_with (Of name) n = labels.Symbol n

-- a new node whose symbol has that number
abbrev pub node_with : List (List ℕ) → List Sketch → Sketch → ℕ → FreshNode
node_with variables made s n = record { label = label_with s.core n; arcs = map (arc_meant variables made) s.arcs; mark = mark_of s.marks }

-- the new nodes, whose symbols have these numbers
abbrev pub nodes_with : List (List ℕ) → List Sketch → List Sketch → List ℕ → List FreshNode
nodes_with variables made [] symbols = []
nodes_with variables made (s ∷ sketches) [] = []
nodes_with variables made (s ∷ sketches) (n ∷ symbols) = node_with variables made s n ∷ nodes_with variables made sketches symbols

-- the variable that a mention wakes, if it wakes one
abbrev pub wake_of : List (List ℕ) → MentionTree → Option ℕ
wake_of variables m = if has_star m.marks && is_among variables m.name.text then Some (number_in variables m.name.text) else None

-- the redirection of a part to what its term stands for, if the part has a left side
abbrev pub move_by : List (List ℕ) → List Sketch → Option Name → Target → List Move
move_by variables made None t = []
move_by variables made (Some left) t = record { from = Variable (number_in variables left.text); to = denotes variables made t } ∷ []

-- the redirections of the parts, to what their terms stand for
abbrev pub moves_by : List (List ℕ) → List Sketch → List Part → List Target → List Move
moves_by variables made [] targets = []
moves_by variables made (part ∷ parts) [] = []
moves_by variables made (part ∷ parts) (t ∷ targets) = move_by variables made (left_of_part part) t ++ moves_by variables made parts targets

-- the redirection of the root to the first of the targets, where it is redirected
abbrev pub root_by : List (List ℕ) → List Sketch → Bool → List Target → List Move
root_by variables made false targets = []
root_by variables made true [] = []
root_by variables made true (t ∷ targets) = record { from = Root; to = denotes variables made t } ∷ []
