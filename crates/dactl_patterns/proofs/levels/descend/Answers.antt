use Rattle.std.proofs.Common.{List, subst}
use Rattle.std.specs.Prelude.{All}
use Rattle.std.proofs.lemmas.List.{take_all}
use Rattle.std.proofs.lemmas.List.Elements.{All-more}
use Rattle.dactl_patterns.specs.declared.declarations.Declared.{Declared}
use Rattle.dactl_patterns.specs.Levels.{level_in, DescendsAt}
use Rattle.dactl_patterns.proofs.levels.descend.Goals as goal

pub loop-declared-preserved : goal.loop-declared-preserved
loop-declared-preserved c =
    let l = c.loop-declared in
    All-more (λ (p : Declared). DescendsAt c.args.web.now.text.now (level_in c.args.levels.now) p.pattern) c.args.patterns.now l.declared-index _ c.loop-declared-test.true l.invariant
    (c.in_ok-descends_at.ensures c.if-not-branch.false)

pub returns : goal.returns
returns c = λ all.
    let l = c.loop-declared in
    subst (λ (ps : List Declared). All (λ p. DescendsAt c.args.web.now.text.now (level_in c.args.levels.now) p.pattern) ps) (take_all l.declared-index c.args.patterns.now c.loop-declared-test.false) l.invariant
