-- The print of a graph that is numbered as it is printed: node i has the number i + 1. Each text is given with what follows it.
use Rattle.std.specs.Prelude.{ℕ, ◌+◌, cond, List, [], ◌∷◌, ◌++◌}
use Rattle.std.specs.Fmt.{decimal}
use Rattle.dactl_model.specs.declared.graph.Arc.{Arc}
use Rattle.dactl_model.specs.declared.graph.Node.{Node}
use Rattle.dactl_model.specs.declared.program.Program.{Program}
use Rattle.dactl_print.specs.Lines.{mark_text, label_text}

-- `@` and the number of the target, after `^` where the arc waits
abbrev pub put_argument : Arc → List ℕ → List ℕ
put_argument a rest = cond a.waits (94 ∷ []) [] ++ (64 ∷ (decimal (a.target.number + 1) ++ rest))

-- further arguments, each after a space, and the bracket that closes them
abbrev pub put_further : List Arc → List ℕ → List ℕ
put_further [] rest = 93 ∷ rest
put_further (a ∷ arcs) rest = 32 ∷ put_argument a (put_further arcs rest)

-- the arguments in brackets; nothing where there are none
abbrev pub put_arguments : List Arc → List ℕ → List ℕ
put_arguments [] rest = rest
put_arguments (a ∷ arcs) rest = 91 ∷ put_argument a (put_further arcs rest)

-- mark, label, arguments and the LF
abbrev pub put_content : Program → Node → List ℕ → List ℕ
put_content p node rest = mark_text node.mark ++ (label_text p node.label ++ put_arguments node.arcs (10 ∷ rest))

-- the line of node i
abbrev pub put_node : Program → ℕ → Node → List ℕ → List ℕ
put_node p i node rest = 64 ∷ (decimal (i + 1) ++ (32 ∷ put_content p node rest))

-- the lines of the nodes from number i on
abbrev pub put_nodes : Program → ℕ → List Node → List ℕ
put_nodes p i [] = []
put_nodes p i (node ∷ nodes) = put_node p i node (put_nodes p (i + 1) nodes)
