use Rattle.std.proofs.Common.{◌≡◌, ℕ, [], length, ap, arith}
use Rattle.dactl_queue.specs.declared.rule.Account.{Account}
use Rattle.dactl_queue.specs.Accounts.{weigh}
use Rattle.dactl_steal.specs.Owns.{account_of, reserve_of}
use Rattle.dactl_steal.proofs.Deques.{takes, finds, counts, weigh_snoc}
use Rattle.dactl_steal.proofs.Owns.{kept_alone}
use Rattle.dactl_steal.proofs.own.Own.take.Goals as goal

pub pop_as-requires-clause-fifo : goal.pop_as-requires-clause-fifo
pop_as-requires-clause-fifo c = λ _. takes _ _ c.requires.usable.1

pub pop_as-requires-clause-empty : goal.pop_as-requires-clause-empty
pop_as-requires-clause-empty c = finds _ _

pub returns-in-Some-clause-taken : goal.returns-in-Some-clause-taken
returns-in-Some-clause-taken c = λ h. let old = account_of c.args.self.now in let p = ap (λ (v : Account). weigh h v.put) c.in-Some.ensures.rule.0 in
    let t = ap (λ (v : Account). weigh h v.taken) c.in-Some.ensures.rule.0 in omega (arith, weigh_snoc h old.taken c.in-Some.node)

pub returns-clause-alone : goal.returns-clause-alone
returns-clause-alone c all = let old = account_of c.args.self.now in let n = counts old [] c.in_default.ensures.rule.1 all in
    kept_alone _ _ _ _ _ (let e : length old.put ≡ length old.taken = omega arith in e) c.pop_front.ensures.items
