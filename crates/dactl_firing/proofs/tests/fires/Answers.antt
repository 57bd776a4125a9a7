use Rattle.std.proofs.Common.{false, refl, sym, ◌∙◌, Result, Ok, Err}
use Rattle.std.specs.Prelude.{IsTrue, OnOk}
use Rattle.std.specs.Result.{is_ok}
use Rattle.std.proofs.lemmas.Bool.{both_ways}
use Rattle.dactl_store.proofs.Latest.{latest_next}
use Rattle.dactl_firing.specs.Fired.{HasFired}
use Rattle.dactl_firing.proofs.tests.fires.Goals as goal

-- what holds where the call succeeds
on_ok : {T E P : Type 0} (r : Result T E) → OnOk r P → IsTrue (is_ok r) → P
on_ok (Ok x) holds is = holds
on_ok (Err e) holds is = absurd (both_ways false refl is)

pub returns-then-is_match-clause-latest : goal.returns-then-is_match-clause-latest
returns-then-is_match-clause-latest c = λ ok.
    let fired : HasFired c.args.program.now _ 5 c.args.entry c.args.store.now c.fire.new.store _ = on_ok c.fire.result c.fire.ensures.ok (sym c.is_ok.ensures.value ∙ ok) in
    latest_next c.args.entry c.args.store.now c.fire.new.store fired.versions c.requires.latest fired.newest
