use Rattle.dactl_probe.proofs.Traced.{sound_probing, nothing_needed}
use Rattle.dactl_probe.proofs.probe.Probe.need.Goals as goal

pub returns-in-Need-clause-probing : goal.returns-in-Need-clause-probing
returns-in-Need-clause-probing c = rw (← c.self.view_is) (sound_probing _ _ _ _ _ c.self.invariant)

pub returns-in-Fire : goal.returns-in-Fire
returns-in-Fire c = rw (← c.self.view_is) (record { next = nothing_needed c.self.inside.verdict c.in-Fire.is; probing = sound_probing _ _ _ _ _ c.self.invariant })
