use Rattle.std.proofs.Common.{rules, All, subst, arith}
use Rattle.std.proofs.lemmas.List.{take_all}
use Rattle.std.proofs.lemmas.List.Elements.{All-more}
use Rattle.dactl_store.specs.Held.{IsVersionAt}
use Rattle.dactl_state.specs.Grown.{HasNotGrown}
use Rattle.dactl_state.proofs.state.first_grown.Goals as goal

pub loop-reading-preserved : goal.loop-reading-preserved
loop-reading-preserved c = let le = c.if-reading-now.false in let at : IsVersionAt c.args.store.now c.reading-item.result.node c.version-now.result = search rules in
    All-more (HasNotGrown c.args.store.now) c.args.readings.now c.loop-reading.reading-index c.reading-item.result c.loop-reading-test.true c.loop-reading.invariant (subst (HasNotGrown c.args.store.now) c.reading-item.is (c.version-now.result, at, (λ lt. absurd (omega arith))))

pub returns : goal.returns
returns c = let le = c.loop-reading-test.false in let all = take_all c.loop-reading.reading-index c.args.readings.now le in subst (λ z. All (HasNotGrown c.args.store.now) z) all c.loop-reading.invariant
