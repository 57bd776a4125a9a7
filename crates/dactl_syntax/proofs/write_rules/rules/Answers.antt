use Rattle.std.proofs.Common.{rules, ◌≡◌, ◌++◌}
use Rattle.dactl_syntax.specs.Canonical.{before_text, bar, rule_text}
use Rattle.dactl_syntax.proofs.Written.{separated_more}
use Rattle.dactl_syntax.proofs.write_rules.rules.Goals as goal

pub loop-index-preserved : goal.loop-index-preserved
loop-index-preserved c =
    let between : c.before-in-loop-index.new.out.items ≡ c.loop-index.out.items ++ before_text c.loop-index.index bar = search rules in
    separated_more bar rule_text c.args.rules.now c.loop-index.index c.index-rules-index.result c.args.out.now.items c.loop-index.out.items c.before-in-loop-index.new.out.items c.rule.new.out.items c.loop-index-test.true c.loop-index.invariant between c.index-rules-index.is c.in_ok-rule.ensures
