use Rattle.std.proofs.Common.{refl}
use Rattle.dactl_sample.proofs.Lengths.{sample_short}
use Rattle.dactl_top.proofs.input.take_text.Goals as goal

pub returns-in-Ok : goal.returns-in-Ok
returns-in-Ok g c =
    let limits = (rw c.in-Some.is at c.requires.limits.sample) in
    rw c.in-Some.is (record { left = refl; faults = refl }, record { sample = c.in-Ok.ensures; fits = sample_short _ _ c.in-Ok.ensures limits.0 limits.1 })
