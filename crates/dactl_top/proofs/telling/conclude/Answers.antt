use Rattle.std.proofs.Common.{refl, codes}
use Rattle.dactl_top.specs.Outcomes.{run_text}
use Rattle.dactl_top.proofs.Orders.{each_has_text}
use Rattle.dactl_top.proofs.telling.conclude.Goals as goal

pub returns-in-Usage-clause-told : goal.returns-in-Usage-clause-told
returns-in-Usage-clause-told g c = rw c.in-Usage.is (record { due = codes "usage: dactl [OPTIONS] < TEXT\n"; is_due = refl; gives = c.give.ensures })

pub returns-in-ReadFault-clause-told : goal.returns-in-ReadFault-clause-told
returns-in-ReadFault-clause-told g c = rw c.in-ReadFault.is (record { due = codes "read fault\n"; is_due = refl; gives = c.give-in-ReadFault.ensures })

pub returns-in-TooLong-clause-told : goal.returns-in-TooLong-clause-told
returns-in-TooLong-clause-told g c = rw c.in-TooLong.is (record { due = codes "too long\n"; is_due = refl; gives = c.give-in-TooLong.ensures })

pub returns-in-Memory-clause-told : goal.returns-in-Memory-clause-told
returns-in-Memory-clause-told g c = rw c.in-Memory.is (record { due = codes "memory\n"; is_due = refl; gives = c.give-in-Memory.ensures })

pub returns-in-NoPart-clause-told : goal.returns-in-NoPart-clause-told
returns-in-NoPart-clause-told g c = rw c.in-NoPart.is (record { due = codes "missing part\n"; is_due = refl; gives = c.give-in-NoPart.ensures })

pub returns-in-Checked-clause-told : goal.returns-in-Checked-clause-told
returns-in-Checked-clause-told g c = rw c.in-Checked.is (record { due = codes "ok\n"; is_due = refl; gives = c.give-in-Checked.ensures })

pub returns-in-Ran-clause-told : goal.returns-in-Ran-clause-told
returns-in-Ran-clause-told g c =
    let printable = (rw c.in-Ran.is at c.requires.tellable) in
    let run = c.in-Ran.run' in
    let shown = each_has_text run.program run.store.graph printable.formed in
    rw c.in-Ran.is (record { due = run_text run c.in-Ran.trace shown.0; is_due = (shown.0, shown.1, refl); gives = c.give_run-status.ensures shown.0 shown.1 })
