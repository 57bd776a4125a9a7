use Rattle.std.proofs.Common.{ℕ, sym, subst}
use Rattle.crossbeam_queue.specs.Fifo.{Pushes}
use Rattle.crossbeam_queue.specs.Passes.{view}
use Rattle.dactl_queue.specs.Accounts.{Balanced, Puts}
use Rattle.dactl_queue.proofs.Accounts.{puts, knows}
use Rattle.dactl_queue.proofs.ruled.RuledHand.put.Goals as goal

pub push_as-requires-clause-rule : goal.push_as-requires-clause-rule
push_as-requires-clause-rule g c = let v = view c.args.pass.now in
    (subst (λ (n : ℕ). Pushes Balanced n c.args.pass.now.id v c.args.node (Puts g.J.Roomy.room v c.args.node)) (sym c.requires.room) (puts _ _ _ _ c.requires.part), knows _ _)
