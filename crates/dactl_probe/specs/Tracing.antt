-- What a probe keeps to itself.
use Rattle.std.specs.Prelude.{◌≡◌, ◌≢◌, ℕ, ◌≤◌, ◌⊎◌, true, List, [], Some, AllPairs}
use Rattle.std.specs.List.{AllZip}
use Rattle.dactl_model.specs.declared.graph.NodeId.{NodeId}
use Rattle.dactl_model.specs.declared.reading.Reading.{Reading}
use Rattle.dactl_model.specs.declared.program.Program.{Program}
use Rattle.dactl_model.specs.Readings.{reading_of}
use Rattle.dactl_model.specs.Rooms.{Observed}
use Rattle.dactl_decide.specs.Decisions.{Decisions, AreDecisions}
use Rattle.dactl_probe.specs.declared.verdict.Verdict.{Verdict}
use Rattle.dactl_probe.specs.declared.verdict.Verdict.TheVariants as verdict
use Rattle.dactl_probe.specs.declared.probe.Next.{Next}
use Rattle.dactl_probe.specs.declared.probe.Next.TheVariants.{Need, Done}
use Rattle.dactl_probe.specs.declared.lost.Lost.{Lost}
use Rattle.dactl_probe.specs.Leading.{Leads}
use Rattle.dactl_probe.specs.Lost.{AreLost}
use Rattle.dactl_probe.specs.Verdicts.{label_tests, IsVerdict}

-- what a verdict asks for
abbrev pub next_of : Verdict → Next
next_of (verdict.Need m) = Need m
next_of (verdict.Fire r) = Done
next_of verdict.Note = Done

-- the path is tested at a node with the root's label, and leads from n to the node of the reading
abbrev pub IsReadAt : Program → Reading → List Reading → NodeId → List ℕ → NodeId → Type 0
IsReadAt p root rs n path m = (label_tests p root.label path ≡ true) × Leads rs n path m

-- the root was read, and each reading is at a tested path
pub record IsTraced (p : Program) (rs : List Reading) (n : NodeId) : Type 0 where
  pub root : Reading
  pub is_root : reading_of rs n ≡ Some root
  pub paths : List (List ℕ)
  pub places : AllZip (λ path r. IsReadAt p root rs n path r.node) paths rs

-- the fields of a probe fit together; the rules that are known to be lost fail whatever is read further
pub record IsSound (d : Decisions) (n : NodeId) (footprint : Observed) (v : Verdict) (lost : Lost) : Type 0 where
  pub decisions : AreDecisions d
  pub room : d.widest ≤ footprint.room
  pub unbound : footprint.bindings ≡ []
  pub different : AllPairs (λ a b. a.node ≢ b.node) footprint.readings
  pub traced : (footprint.readings ≡ []) ⊎ IsTraced d.program footprint.readings n
  pub decided : IsVerdict d.program footprint.readings n v
  pub are_lost : AreLost d.program.rules footprint.readings n lost
