-- What the numbers of a report tell of a journal.
use Rattle.std.specs.Prelude.{◌≡◌, ◌+◌, ◌≤◌, List, [], length}
use Rattle.dactl_model.specs.declared.graph.NodeId.{NodeId}
use Rattle.dactl_model.specs.declared.graph.Entry.{Entry}
use Rattle.dactl_model.specs.declared.program.Program.{Program}
use Rattle.dactl_turn.specs.Gives.{by_worker}
use Rattle.dactl_workers.specs.declared.report.WorkerReport.{WorkerReport}
use Rattle.dactl_workers.specs.Accounts.{OwnActs, by_others}

-- of these entries the report counts the worker's own, and the nodes that they made active; each stale commit is paid for
-- by an entry of another worker, and each passive one by such an entry or by a node taken
pub record IsReport (p : Program) (entries : List Entry) (r : WorkerReport) : Type 0 where
  pub commits : r.commits ≡ length (by_worker r.worker entries)
  pub offers : List NodeId
  pub acts : OwnActs p r.worker [] entries offers
  pub offered : r.offered ≡ length offers
  pub stale : r.stale ≤ length (by_others r.worker entries)
  pub paid : r.stale + r.passive ≤ r.taken + length (by_others r.worker entries)
