-- What can be told without memory.
use Rattle.std.specs.Prelude.{◌≡◌, length}
use Rattle.dactl_top.specs.declared.outcome.Outcome.{Outcome}
use Rattle.dactl_top.specs.declared.outcome.Outcome.TheVariants.{Refused, BadGraph, Small, Judged, Ran}
use Rattle.dactl_top.specs.Lines.{small_line, refused_line, bad_graph_line, verdict_line}
use Rattle.dactl_top.specs.Preparing.{IsPrintable}
use Rattle.dactl_top.specs.Running.{start_room}

-- the line of the outcome stands ready, or its graph can be printed
abbrev pub IsTellable : Outcome → Type 0
IsTellable (Refused refusal line) = line.items ≡ refused_line refusal
IsTellable (BadGraph p bad line) = line.items ≡ bad_graph_line bad
IsTellable (Small p line) = line.items ≡ small_line (start_room p)
IsTellable (Judged p verdict journal line) = line.items ≡ verdict_line verdict (length journal.items)
IsTellable (Ran run trace numbering) = IsPrintable run numbering
IsTellable _ = Unit {0}
