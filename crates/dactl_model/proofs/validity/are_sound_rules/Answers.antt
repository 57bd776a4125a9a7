use Rattle.std.proofs.Common.{arith}
use Rattle.dactl_model.proofs.validity.are_sound_rules.Goals as goal

pub returns-then-are_valid_rules : goal.returns-then-are_valid_rules
returns-then-are_valid_rules c = (
  λ e. record {
    few = omega arith;
    arithmetic = c.has_arithmetic.ensures.0 c.if-not-has_arithmetic.false;
    valid = c.are_valid_rules.ensures.0 c.if-are_valid_rules.true;
    rise = c.do_groups_rise.ensures.0 e;
  },
  λ sound. c.do_groups_rise.ensures.1 sound.rise,
)
