use Rattle.dactl_decide.proofs.Gathered.{item_read}
use Rattle.dactl_decide.proofs.compiling.Deciders.rules.Goals as goal

pub returns-in-Some : goal.returns-in-Some
returns-in-Some c =
    let was = c.in-Some.ensures.lookup in
    let is = item_read _ c.self.inside.rules.items _ c.in-Some.rules.now c.deref.ensures.value was.3.0 was.1 in
    rw (c.as_slice.ensures.value, ← c.self.view_is) (c.self.invariant.1.each c.args.symbol c.in-Some.rules.now is)
