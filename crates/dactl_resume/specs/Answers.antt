-- What a reader of printed graphs answers.
use Rattle.std.specs.Prelude.{◌≡◌, ◌≢◌, ◌⊎◌, ℕ, ◌+◌, ◌<◌, ◌==◌, if◌then◌else◌, List, [], ◌∷◌, length, slice_get, Some}
use Rattle.dactl_model.specs.declared.graph.Node.{Node}
use Rattle.dactl_model.specs.declared.graph.Graph.{Graph}
use Rattle.dactl_model.specs.declared.program.Program.{Program}
use Rattle.dactl_model.specs.Graphs.{IsFineNode, IsWellFormed}
use Rattle.dactl_print.specs.Lines.{IsLabelAmong, IsGraphText}
use Rattle.dactl_resume.specs.Plain.{put_content, put_node}
use Rattle.dactl_resume.specs.Restriction.{IsOfLanguage, IsCanonical, IsPrintable}

-- a byte before the first line
abbrev pub prepend : ℕ → List (List ℕ) → List (List ℕ)
prepend c [] = (c ∷ []) ∷ []
prepend c (line ∷ lines) = (c ∷ line) ∷ lines

-- the pieces that end with a line feed, and a last one without it where that piece isn't empty
abbrev pub lines_of : List ℕ → List (List ℕ)
lines_of [] = []
lines_of (c ∷ cs) = if c == 10 then (10 ∷ []) ∷ lines_of cs else prepend c (lines_of cs)

-- a node whose line may stand among so many lines: its targets are among them, it has at most 16 arcs, and none where it is an integer or a character, it waits along its own arcs, and its label is one of the program's
pub record IsListed (p : Program) (count : ℕ) (node : Node) : Type 0 where
  pub fine : IsFineNode count node
  pub symbol : IsLabelAmong (length p.symbols) node.label
  pub language : IsOfLanguage p.wide node.label

-- the bytes are the mark, the label and the arguments of such a node, with the LF
pub record IsContentOf (p : Program) (count : ℕ) (bytes : List ℕ) (node : Node) : Type 0 where
  pub text : bytes ≡ put_content p node []
  pub listed : IsListed p count node

-- the bytes are the line of this node at place i, from 0, among so many lines
pub record IsLineOf (p : Program) (count i : ℕ) (bytes : List ℕ) (node : Node) : Type 0 where
  pub text : bytes ≡ put_node p i node []
  pub listed : IsListed p count node

-- the line has a good form
abbrev pub IsGood : Program → ℕ → ℕ → List ℕ → Type 0
IsGood p count i bytes = (node : Node) × IsLineOf p count i bytes node

-- each line has a good form
abbrev pub AreGood : Program → List (List ℕ) → Type 0
AreGood p lines = (i : ℕ) (bytes : List ℕ) → slice_get lines i ≡ Some bytes → IsGood p (length lines) i bytes

-- the graph of the lines: each node is that of its line, and the root is that of the first one
pub record IsGraphOf (p : Program) (lines : List (List ℕ)) (g : Graph) : Type 0 where
  pub long : length g.nodes ≡ length lines
  pub root : g.root.number ≡ 0
  pub nodes : (i : ℕ) (bytes : List ℕ) (node : Node) → slice_get lines i ≡ Some bytes → slice_get g.nodes i ≡ Some node → IsLineOf p (length lines) i bytes node

-- the first line that has no good form stands at place i
pub record IsMalformed (p : Program) (lines : List (List ℕ)) (i : ℕ) : Type 0 where
  pub bytes : List ℕ
  pub at : slice_get lines i ≡ Some bytes
  pub bad : IsGood p (length lines) i bytes → ⊥
  pub before : (j : ℕ) (good : List ℕ) → j < i → slice_get lines j ≡ Some good → IsGood p (length lines) j good

-- two texts differ first in the line at place i: one that is missing differs too
pub record DiffersFirst (text other : List ℕ) (i : ℕ) : Type 0 where
  pub differs : slice_get (lines_of text) i ≢ slice_get (lines_of other) i
  pub before : (j : ℕ) → j < i → slice_get (lines_of text) j ≡ slice_get (lines_of other) j

-- each line has a good form, and the text differs first at place i from the print of the graph of its lines
pub record IsOther (p : Program) (text : List ℕ) (i : ℕ) : Type 0 where
  pub some : lines_of text ≢ []
  pub graph : Graph
  pub is_graph : IsGraphOf p (lines_of text) graph
  pub print : List ℕ
  pub is_print : IsGraphText p graph print
  pub first : DiffersFirst text print i

-- the line of this number, from 1, is told to be bad: line 1 where there is none, else the first one that has no good form, and else the first one that differs from the print of the graph
abbrev pub IsBadAt : Program → List ℕ → ℕ → Type 0
IsBadAt p text line =
    ((lines_of text ≡ []) × (line ≡ 1)) ⊎ ((i : ℕ) × (line ≡ i + 1) × (IsMalformed p (lines_of text) i ⊎ IsOther p text i))

-- the graph that is read: the text is its print, whose numbers are its own
pub record IsRead (p : Program) (text : List ℕ) (g : Graph) : Type 0 where
  pub fine : IsWellFormed g
  pub canonical : IsCanonical g
  pub printable : IsPrintable p g
  pub print : IsGraphText p g text
