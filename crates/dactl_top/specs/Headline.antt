-- The headline: what stands whenever a call answers that a program ran.
use Rattle.std.specs.Prelude.{◌≡◌, ℕ, ◌++◌, List, length, Some, true, false}
use Rattle.dactl_model.specs.declared.graph.Graph.{Graph}
use Rattle.dactl_model.specs.declared.graph.End.{End}
use Rattle.dactl_model.specs.declared.program.Program.{Program}
use Rattle.dactl_print.specs.Texts.{end_line}
use Rattle.dactl_print.specs.Lines.{IsGraphText}
use Rattle.dactl_settings.specs.declared.settings.Settings.{Settings}
use Rattle.fun_program.specs.Values.{ShowsValues}
use Rattle.dactl_top.specs.declared.status.Status.{Status}
use Rattle.dactl_top.specs.declared.status.Status.TheVariants.{Normal, Budget, Full}
use Rattle.dactl_top.specs.Compiling.{MeansBy}
use Rattle.dactl_top.specs.Devices.{Took}
use Rattle.dactl_top.specs.Given.{HasSettings, IsText}
use Rattle.dactl_top.specs.Calls.{Call, given_of}
use Rattle.dactl_top.specs.Outcomes.{status_of_end, trace_if}
use Rattle.dactl_top.specs.Parts.{Runs}
use Rattle.dactl_top.specs.Running.{limits_of, IsRun}

-- the answer is normal, budget or full
abbrev pub IsOfRun : Status → Type 0
IsOfRun Normal = Unit {0}
IsOfRun Budget = Unit {0}
IsOfRun Full = Unit {0}
IsOfRun _ = ⊥

-- Whatever the input, and however many workers interleave, the journal is a reduction of the relation of the program of its text
-- part, from that program's first graph. The answer is the end that holds after it, and the bytes written are exactly that answer, the
-- journal if traced, and the graph after it, below its root.
pub record IsRunOfText (call : Call) : Type 0 where
  -- the settings are those of the words, and the input is all that the source gave, or the sample text
  pub settings : Settings
  pub has_settings : HasSettings (given_of call) settings
  pub has_text : IsText (given_of call) settings.sample
  -- no trace was to be checked, and the program is what the text part of the input means, with the graph that is read from the rest in place
  -- of its start where the run was to go on from one
  pub unasked : settings.verify ≡ false
  pub program : Program
  pub is_program : call.kept.program ≡ Some program
  pub runs : Runs (MeansBy settings.fun) settings call.kept.text.items program
  -- the journal is that of a run of it, within the limits, and the reports are those of its workers
  pub graph : Graph
  pub ended : End
  pub is_end : call.kept.end ≡ Some ended
  pub run : IsRun (limits_of settings) settings.workers program call.kept.journal.items graph ended call.kept.reports.items call.kept.left
  -- where the text is one of equations, and the run started from what they say, whatever the root of the last graph unfolds to is the value
  -- that they give to the expression of `MAIN`, whichever way the workers interleaved; this holds for each of the three answers
  pub values : settings.fun ≡ true → settings.resume ≡ false → ShowsValues call.kept.text.items program graph
  -- the answer is its end, and this was written
  pub is_answer : call.answer ≡ status_of_end ended
  pub text : List ℕ
  pub is_text : IsGraphText program graph text
  pub written : Took call.sink (end_line ended (length call.kept.journal.items) ++ trace_if settings.trace call.kept.journal.items ++ text)
