-- A whole call, and how it is answered.
use Rattle.std.specs.Prelude.{◌≡◌, ℕ, List, [], None}
use Rattle.dactl_top.specs.declared.kept.Kept.{Kept}
use Rattle.dactl_top.specs.declared.status.Status.{Status}
use Rattle.dactl_top.specs.declared.outcome.Outcome.{Outcome}
use Rattle.dactl_top.specs.Devices.{SourceChange, SinkChange}
use Rattle.dactl_top.specs.Given.{Given}
use Rattle.dactl_top.specs.Outcomes.{HasCause, IsKept, IsTold}

-- nothing is kept of what the text says
pub record HasNothing (kept : Kept) : Type 0 where
  pub refusal : kept.refusal ≡ None
  pub program : kept.program ≡ None
  pub journal : kept.journal.items ≡ []
  pub ended : kept.end ≡ None
  pub reports : kept.reports.items ≡ []
  pub left : kept.left ≡ 0

-- nothing is kept yet
pub record IsEmpty (kept : Kept) : Type 0 where
  pub settings : kept.settings ≡ None
  pub text : kept.text.items ≡ []
  pub nothing : HasNothing kept

-- all that can be seen of a call: its words, what its devices told before and after, what it kept, and its answer
pub record Call : Type 0 where
  pub words : List (List ℕ)
  pub source : SourceChange
  pub sink : SinkChange
  pub kept : Kept
  pub answer : Status

abbrev pub call_of : List (List ℕ) → SourceChange → SinkChange → Kept → Status → Call
call_of words source sink kept answer = record { words = words; source = source; sink = sink; kept = kept; answer = answer }

-- what the call was given and read
abbrev pub given_of : Call → Given
given_of call = record { words = call.words; source = call.source; settings = call.kept.settings; text = call.kept.text.items }

-- something came of the call: it has its cause, this is kept of it, and it was told
pub record IsAnswered (call : Call) : Type 0 where
  pub outcome : Outcome
  pub cause : HasCause (given_of call) outcome
  pub kept : IsKept outcome call.kept
  pub told : IsTold outcome call.sink call.answer
