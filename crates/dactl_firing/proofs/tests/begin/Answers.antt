use Rattle.std.proofs.Common.{Result, Ok, Err, arith}
use Rattle.std.specs.Prelude.{IfOk}
use Rattle.dactl_store.proofs.Latest.{latest_begun}
use Rattle.dactl_firing.proofs.tests.begin.Goals as goal

-- what follows of a value follows of it where the call succeeds
on_ok : {T E : Type 0} {P Q : T → Type 0} (r : Result T E) → ((x : T) → P x → Q x) → IfOk r P → IfOk r Q
on_ok (Ok x) follows holds = follows x holds
on_ok (Err e) follows holds = tt

pub returns-clause-latest : goal.returns-clause-latest
returns-clause-latest c = on_ok c.begin.result (λ held begun. latest_begun 1 _ _ held (omega arith) begun) c.begin.ensures.ok
