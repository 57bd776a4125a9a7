use Rattle.dactl_model.proofs.validity.has_sound_variables.Goals as goal

pub returns-then-rule-le64 : goal.returns-then-rule-le64
returns-then-rule-le64 c = (
  λ e. record { few = c.if-rule-le64.true; variables = c.has_variables.ensures.0 e },
  λ has. c.has_variables.ensures.1 has.variables,
)
