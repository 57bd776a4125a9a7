-- The end line and the trace.
use Rattle.std.specs.Prelude.{ℕ, ◌+◌, List, [], ◌∷◌, ◌++◌, codes}
use Rattle.std.specs.Fmt.{decimal}
use Rattle.dactl_model.specs.declared.graph.Event.{Event}
use Rattle.dactl_model.specs.declared.graph.Event.TheVariants.{Fire, Note}
use Rattle.dactl_model.specs.declared.graph.Entry.{Entry}
use Rattle.dactl_model.specs.declared.graph.End.{End}
use Rattle.dactl_model.specs.declared.graph.End.TheVariants.{Normal, Budget, Full}

-- the end of a line
abbrev pub line_feed : List ℕ
line_feed = 10 ∷ []

-- how the run ended
abbrev pub end_word : End → List ℕ
end_word Normal = codes "normal "
end_word Budget = codes "budget "
end_word (Full node rule needed left) = codes "full "

-- how the run ended, and after how many entries
abbrev pub end_line : End → ℕ → List ℕ
end_line end entries = end_word end ++ (decimal entries ++ line_feed)

-- what was done, and where
abbrev pub event_text : Event → List ℕ
event_text (Fire node rule) = codes " fire " ++ (decimal node.number ++ (codes " " ++ decimal rule))
event_text (Note node) = codes " note " ++ decimal node.number

-- the entry of this number: its worker and its event
abbrev pub entry_line : ℕ → Entry → List ℕ
entry_line number entry = decimal number ++ (codes " w" ++ (decimal entry.worker ++ (event_text entry.event ++ line_feed)))

-- entries whose numbers begin with this one
abbrev pub entry_lines : ℕ → List Entry → List ℕ
entry_lines number [] = []
entry_lines number (entry ∷ entries) = entry_line number entry ++ entry_lines (number + 1) entries

-- one line an entry, numbered from 1
abbrev pub trace_lines : List Entry → List ℕ
trace_lines journal = entry_lines 1 journal
