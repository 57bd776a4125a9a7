use Rattle.dactl_model.proofs.ValidityParts.{rule_of_parts, body_of}
use Rattle.dactl_model.proofs.validity.is_valid_rule.Goals as goal

pub returns-then-has_sound_variables : goal.returns-then-has_sound_variables
returns-then-has_sound_variables c = (
  λ e. rule_of_parts _ _ _ (c.has_sound_pattern.ensures.0 c.if-not-has_sound_pattern.false) (c.has_sound_variables.ensures.0 c.if-has_sound_variables.true) (c.has_sound_body.ensures.0 e),
  λ valid. c.has_sound_body.ensures.1 (body_of _ _ _ valid),
)
