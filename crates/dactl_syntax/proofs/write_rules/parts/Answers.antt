use Rattle.std.proofs.Common.{rules, ◌≡◌, ◌++◌}
use Rattle.dactl_syntax.specs.Canonical.{before_text, comma, part_text}
use Rattle.dactl_syntax.proofs.Written.{separated_more}
use Rattle.dactl_syntax.proofs.write_rules.parts.Goals as goal

pub loop-index-preserved : goal.loop-index-preserved
loop-index-preserved c =
    let between : c.before-in-loop-index.new.out.items ≡ c.loop-index.out.items ++ before_text c.loop-index.index comma = search rules in
    separated_more comma part_text c.args.parts.now c.loop-index.index c.index-parts-index.result c.args.out.now.items c.loop-index.out.items c.before-in-loop-index.new.out.items c.part.new.out.items c.loop-index-test.true c.loop-index.invariant between c.index-parts-index.is c.in_ok-part.ensures
