use Rattle.std.proofs.Common.{◌≡◌, arith}
use Rattle.dactl_base.proofs.NumberParts.{number_behind}
use Rattle.dactl_verify.proofs.line.read_worker.Goals as goal
use Rattle.dactl_verify.proofs.line.read_worker.Goals.{then-worker-lt1-via-then-worker-lt1, then-worker-lt1-via-else-worker-lt1+then-worker-gt16}

pub returns-then-worker-lt1 : goal.returns-then-worker-lt1
returns-then-worker-lt1 c =
    λ worker rest few is.
    let same : c.in_ok-worker.worker ≡ worker = (number_behind c.in_ok-worker.ensures is).0 in
    let least = few.0 in
    let most = few.1 in
    elim c.then-worker-lt1.branch [
      | then-worker-lt1-via-then-worker-lt1 w ↦ absurd (omega arith)
      | then-worker-lt1-via-else-worker-lt1+then-worker-gt16 w ↦ absurd (omega arith)
    ]
