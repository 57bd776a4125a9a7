use Rattle.std.proofs.Common.{suc, Option, subst}
use Rattle.dactl_meaning.specs.declared.tree.PatternTree.{PatternTree}
use Rattle.dactl_meaning.specs.Expansion.{expansion_of, named_expansion}
use Rattle.dactl_meaning.specs.Meaning.{NamedPattern}
use Rattle.dactl_meaning.specs.Sight.{sees}
use Rattle.dactl_patterns.specs.Table.{IsKnown}
use Rattle.dactl_patterns.proofs.Tables.{table_more}
use Rattle.dactl_patterns.proofs.named.enter.Goals as goal

pub returns-in_ok-insert-clause-right : goal.returns-in_ok-insert-clause-right
returns-in_ok-insert-clause-right c = λ d right more.
    let text = c.args.patterns.now.text.now in
    let owner = c.args.pattern.0 in
    table_more c.args.patterns.now.known c.insert.new.self c.args.pattern c.in_ok-known.known (λ (a : NamedPattern). named_expansion text (suc d) a.0 a.1) c.in_ok-insert.ensures.updates.0 more
    (subst (λ (o : Option PatternTree). IsKnown (expansion_of (named_expansion text d) (sees text owner) o) c.in_ok-known.known) c.in-Some.ensures (c.in_ok-known.ensures (named_expansion text d) right))
