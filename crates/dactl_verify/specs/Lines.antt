-- The lines of a trace, as they are read.
use Rattle.std.specs.Prelude.{◌≡◌, ℕ, ◌^◌, ◌<◌, ◌≤◌, List}
use Rattle.dactl_model.specs.declared.graph.Event.{Event}
use Rattle.dactl_model.specs.declared.graph.Event.TheVariants.{Fire, Note}
use Rattle.dactl_model.specs.declared.graph.Entry.{Entry}
use Rattle.dactl_print.specs.Texts.{entry_line}

-- the number of a worker
abbrev pub IsWorker : ℕ → Type 0
IsWorker worker = (1 ≤ worker) × (worker ≤ 16)

-- the line is that of the entry, which has this number, and a worker from 1 to 16
pub record IsLineOf (number : ℕ) (entry : Entry) (line : List ℕ) : Type 0 where
  pub text : line ≡ entry_line number entry
  pub worker : IsWorker entry.worker

-- the numbers in the event have 32 bits
abbrev pub HasWords : Event → Type 0
HasWords (Fire node rule) = (node.number < 2 ^ 32) × (rule < 2 ^ 32)
HasWords (Note node) = node.number < 2 ^ 32
