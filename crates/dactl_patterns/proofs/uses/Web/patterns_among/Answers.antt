use Rattle.std.proofs.Common.{refl}
use Rattle.dactl_symbols.proofs.Walks.{picked_same-more}
use Rattle.dactl_patterns.specs.Cycling.{pattern_at}
use Rattle.dactl_patterns.specs.declared.occurrences.Use.{Use}
use Rattle.dactl_patterns.proofs.uses.Web.patterns_among.Goals as goal

pub loop-one-preserved : goal.loop-one-preserved
loop-one-preserved c =
    let look = pattern_at c.args.self.now.text.now c.args.owner in
    picked_same-more look (λ (u : Use). u.name.now) c.args.uses.now c.loop-one.one-index c.one-item.result c.loop-one.found.items c.note_pattern.new.found.items (look c.one-item.result.name.now)
    c.loop-one-test.true c.one-item.is c.loop-one.invariant c.in_ok-note_pattern.ensures (refl)
