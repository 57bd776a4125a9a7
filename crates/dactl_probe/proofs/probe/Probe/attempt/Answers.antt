use Rattle.dactl_probe.proofs.Ordering.{flag_of}
use Rattle.dactl_probe.proofs.Traced.{sound_probing, fire_within, fire_yes, shows_fire}
use Rattle.dactl_probe.proofs.probe.Probe.attempt.Goals as goal

pub rule-requires : goal.rule-requires
rule-requires c = rw c.program.ensures.same (fire_within _ _ _ _ _ c.self.invariant.decided c.in-Fire.is)

pub is_orderly-orderly-requires : goal.is_orderly-orderly-requires
is_orderly-orderly-requires c = fire_within _ _ _ _ _ c.self.invariant.decided c.in-Fire.is

pub push_bindings-requires-clause-orderly : goal.push_bindings-requires-clause-orderly
push_bindings-requires-clause-orderly c = λ set.
    let is = rw c.program.ensures.same at c.rule.ensures in
    flag_of c.self.inside.deciders.now.program.rules c.in-Fire.rule c.rule.result.now c.is_orderly-orderly.result c.is_orderly-orderly.ensures is set

pub push_bindings-requires-clause-yes : goal.push_bindings-requires-clause-yes
push_bindings-requires-clause-yes c =
    let is = rw c.program.ensures.same at c.rule.ensures in
    fire_yes c.self.inside.deciders.now.program c.self.inside.footprint.readings c.self.inside.node c.self.inside.verdict c.in-Fire.rule c.rule.result.now c.self.invariant.decided c.in-Fire.is is

pub returns-in-Fire-clause-shows : goal.returns-in-Fire-clause-shows
returns-in-Fire-clause-shows c =
    let is = rw c.program.ensures.same at c.rule.ensures in
    rw (← c.self.view_is) (shows_fire c.self.inside.deciders.now.program c.self.inside.footprint c.push_bindings.new.footprint c.self.inside.node c.self.inside.verdict c.in-Fire.rule c.rule.result.now c.self.invariant.decided c.in-Fire.is is c.push_bindings.ensures)

pub returns-in-Fire-clause-probing : goal.returns-in-Fire-clause-probing
returns-in-Fire-clause-probing c = rw (← c.self.view_is) (sound_probing _ _ _ _ _ c.self.invariant)

pub returns-in-Note-clause-probing : goal.returns-in-Note-clause-probing
returns-in-Note-clause-probing c = rw (← c.self.view_is) (sound_probing _ _ _ _ _ c.self.invariant)
