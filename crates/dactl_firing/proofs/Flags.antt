-- The arcs of a node, counted one after another where it waits along them.
use Rattle.std.proofs.Common.{◌≡◌, ℕ, ◌+◌, true, false, List, length, take, slice_get, Option, Some, None, IsSomeAnd, ap, ◌∙◌}
use Rattle.std.proofs.lemmas.List.Sums.{count_by_more_yes, count_by_more_no}
use Rattle.std.proofs.lemmas.Option.{slice_get_within, get_or_from_slice_get}
use Rattle.dactl_model.specs.declared.graph.Arc.{Arc}
use Rattle.dactl_model.specs.declared.graph.Node.{Node}
use Rattle.dactl_model.specs.Graphs.{flags}
use Rattle.dactl_firing.specs.Suspending.{arcs_in}

pub arity_is : (o : Option Node) (count : ℕ) → IsSomeAnd o (λ node. count ≡ length node.arcs) → count ≡ length (arcs_in o)
arity_is None count is = absurd is
arity_is (Some node) count is = is

pub arc_is : (o : Option Node) (place : ℕ) (arc : Arc) → IsSomeAnd o (λ node. slice_get node.arcs place ≡ Some arc) → slice_get (arcs_in o) place ≡ Some arc
arc_is None place arc is = absurd is
arc_is (Some node) place arc is = is

pub flags_yes : (arcs : List Arc) (place : ℕ) (arc : Arc) → slice_get arcs place ≡ Some arc → arc.waits ≡ true → flags (take (place + 1) arcs) ≡ flags (take place arcs) + 1
flags_yes arcs place arc at waits =
    count_by_more_yes (λ a. a.waits) arcs place arc (slice_get_within arcs place arc at) (ap (λ a. a.waits) (get_or_from_slice_get arcs place arc arc at) ∙ waits)

pub flags_no : (arcs : List Arc) (place : ℕ) (arc : Arc) → slice_get arcs place ≡ Some arc → arc.waits ≡ false → flags (take (place + 1) arcs) ≡ flags (take place arcs)
flags_no arcs place arc at idle =
    count_by_more_no (λ a. a.waits) arcs place arc (slice_get_within arcs place arc at) (ap (λ a. a.waits) (get_or_from_slice_get arcs place arc arc at) ∙ idle)
