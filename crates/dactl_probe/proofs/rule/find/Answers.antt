use Rattle.std.proofs.Common.{subst}
use Rattle.dactl_probe.specs.Verdicts.{IsRuleFound}
use Rattle.dactl_probe.proofs.Decided.{same_rule}
use Rattle.dactl_probe.proofs.Ordering.{flag_of}
use Rattle.dactl_probe.proofs.Rules.{operands}
use Rattle.dactl_probe.proofs.rule.find.Goals as goal

pub returns : goal.returns
returns c = λ rule is.
    let found = rw c.program-program.ensures.same at c.rule-rule.ensures in
    let same = same_rule c.args.deciders.now.program.rules c.args.number c.rule-rule.result.now rule found is in
    subst (λ x. IsRuleFound c.args.deciders.now.program.wide c.args.readings.now c.args.node x c.find_rule.result) same
    (subst (λ p. IsRuleFound p.wide c.args.readings.now c.args.node c.rule-rule.result.now c.find_rule.result) c.program-program.ensures.same c.find_rule.ensures)

pub find_rule-requires-clause-operands : goal.find_rule-requires-clause-operands
find_rule-requires-clause-operands c =
    let is = rw c.program-program.ensures.same at c.rule-rule.ensures in
    operands c.args.deciders.now.program c.args.number c.rule-rule.result.now c.program-program.ensures.decisions.valid is

pub find_rule-requires-clause-orderly : goal.find_rule-requires-clause-orderly
find_rule-requires-clause-orderly c = λ set.
    let is = rw c.program-program.ensures.same at c.rule-rule.ensures in
    flag_of c.args.deciders.now.program.rules c.args.number c.rule-rule.result.now c.is_orderly-orderly.result c.is_orderly-orderly.ensures is set
