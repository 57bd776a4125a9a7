-- What the reports of the workers of a run tell of its journal.
use Rattle.std.specs.Prelude.{◌≡◌, ℕ, zero, suc, ◌+◌, List, [], ◌∷◌, All, map, sum_by}
use Rattle.dactl_model.specs.declared.graph.Entry.{Entry}
use Rattle.dactl_model.specs.declared.program.Program.{Program}
use Rattle.dactl_settings.specs.Limits.{IsUpTo}
use Rattle.dactl_workers.specs.declared.report.WorkerReport.{WorkerReport}
use Rattle.dactl_workers.specs.Reports.{IsReport}

-- so many numbers from the first on
abbrev pub numbers_from : ℕ → ℕ → List ℕ
numbers_from first zero = []
numbers_from first (suc count) = first ∷ numbers_from (first + 1) count

-- one report for each worker, in the order of their numbers. Each counts the worker's own entries of the journal and the nodes that these
-- made active, which were offered once each. All that were offered were taken, or handed back, or are left
pub record AreReports (p : Program) (journal : List Entry) (workers : ℕ) (reports : List WorkerReport) (left : ℕ) : Type 0 where
  pub numbers : map (λ r. r.worker) reports ≡ numbers_from 1 workers
  pub each : All (IsReport p journal) reports
  pub sums : sum_by (λ r. r.offered) reports ≡ sum_by (λ r. r.taken) reports + sum_by (λ r. r.refused) reports + left
  pub signed : All (λ entry. IsUpTo workers entry.worker) journal
