-- What an answer adds: an entry, and one to a number that a seat keeps.
use Rattle.std.specs.Prelude.{ℕ, ◌+◌, if◌then◌else◌, nat_eq, Option, Some, None}
use Rattle.dactl_model.specs.declared.graph.Event.{Event}
use Rattle.dactl_model.specs.declared.graph.Entry.{Entry}
use Rattle.dactl_state.specs.declared.state.Answer.{Answer}
use Rattle.dactl_state.specs.declared.state.Answer.TheVariants.{Committed, Stale, Passive}
use Rattle.dactl_state.specs.Grown.{entry_of}

-- the entry that a commit of the event by the worker adds, if any
abbrev pub entry_by : Answer → ℕ → Event → Option Entry
entry_by Committed worker event = Some (entry_of worker event)
entry_by _ worker event = None

-- one more; the greatest number of 64 bits stays
abbrev pub raised : ℕ → ℕ
raised n = (if nat_eq n 18446744073709551615 then n else n + 1)

-- how many answers were Stale, with this one
abbrev pub stale_by : Answer → ℕ → ℕ
stale_by (Stale n was now) k = raised k
stale_by _ k = k

-- how many answers were Passive, with this one
abbrev pub passive_by : Answer → ℕ → ℕ
passive_by Passive k = raised k
passive_by _ k = k
