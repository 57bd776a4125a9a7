use Rattle.std.proofs.Common.{◌≡◌, ℕ, ◌+◌, [], ◌∷◌, ◌++◌, ap, arith}
use Rattle.dactl_queue.specs.declared.rule.Account.{Account}
use Rattle.dactl_queue.specs.Accounts.{weigh}
use Rattle.dactl_steal.specs.Owns.{account_of, reserve_of}
use Rattle.dactl_steal.proofs.Deques.{puts, weigh_snoc}
use Rattle.dactl_steal.proofs.own.Own.put.Goals as goal

pub push_as-requires-clause-pushes : goal.push_as-requires-clause-pushes
push_as-requires-clause-pushes c = puts _ _ _ c.requires.usable.1

pub returns-in_default-clause-put : goal.returns-in_default-clause-put
returns-in_default-clause-put c = λ h. let old = account_of c.args.self.now in let p = ap (λ (v : Account). weigh h v.put) c.in_default.ensures.rule.0 in omega (arith, weigh_snoc h old.put c.args.node)

pub returns-clause-put : goal.returns-clause-put
returns-clause-put c = λ h. let p = ap (λ (v : Account). weigh h v.put) c.in-Err.ensures.rule.1 in let r = ap (weigh h) c.push_back_reserved.ensures.items in
    let n = ap h c.in-Err.ensures.rule.0 in omega (arith, weigh_snoc h (reserve_of c.args.self.now) c.in-Err.node)
