use Rattle.std.proofs.Common.{rules, ◌≡◌, ◌++◌}
use Rattle.dactl_meaning.specs.declared.tree.Name.{Name}
use Rattle.dactl_syntax.specs.Canonical.{before_text, comma, word}
use Rattle.dactl_syntax.proofs.Written.{separated_more}
use Rattle.dactl_syntax.proofs.write_items.names.Goals as goal

pub loop-index-preserved : goal.loop-index-preserved
loop-index-preserved c =
    let between : c.before-in-loop-index.new.out.items ≡ c.loop-index.out.items ++ before_text c.loop-index.index comma = search rules in
    separated_more comma (λ (n : Name). word n.text) c.args.names.now c.loop-index.index c.index-names-index.result c.args.out.now.items c.loop-index.out.items c.before-in-loop-index.new.out.items c.name.new.out.items c.loop-index-test.true c.loop-index.invariant between c.index-names-index.is c.in_ok-name.ensures
