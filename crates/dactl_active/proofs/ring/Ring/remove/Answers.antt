use Rattle.std.proofs.Common.{sym, ap, ◌∙◌, arith}
use Rattle.dactl_active.specs.Ring.{has, without}
use Rattle.dactl_active.proofs.Linking.{next_in_range, numbers_are, previous_in_range, read_ring, removed_fields}
use Rattle.dactl_active.proofs.Numbers.{Lacks-from_has, without-lacking}
use Rattle.dactl_active.proofs.ring.Ring.remove.Goals as goal

pub returns-then-not-contains-clause-numbers : goal.returns-then-not-contains-clause-numbers
returns-then-not-contains-clause-numbers c =
    let absent = sym c.contains.ensures ∙ c.if-not-contains.true in
    sym (without-lacking _ _ (Lacks-from_has c.args.self.now.numbers c.args.n absent))

pub join-requires-clause-before_in_range : goal.join-requires-clause-before_in_range
join-requires-clause-before_in_range c =
    let room = ap (λ r. r.room) c.self.view_is in
    let present = ap (λ r. has r.numbers c.args.n) c.self.view_is ∙ sym c.contains.ensures ∙ c.if-not-contains.false in
    previous_in_range _ _ _ c.self.invariant c.args.n (omega arith) _ c.get-next.ensures present

pub join-requires-clause-after_in_range : goal.join-requires-clause-after_in_range
join-requires-clause-after_in_range c =
    let room = ap (λ r. r.room) c.self.view_is in
    let present = ap (λ r. has r.numbers c.args.n) c.self.view_is ∙ sym c.contains.ensures ∙ c.if-not-contains.false in
    next_in_range _ _ _ c.self.invariant c.args.n (omega arith) _ c.get-next.ensures present

pub invariant_of-self : goal.invariant_of-self
invariant_of-self c =
    let room = ap (λ r. r.room) c.self.view_is in
    let present = ap (λ r. has r.numbers c.args.n) c.self.view_is ∙ sym c.contains.ensures ∙ c.if-not-contains.false in
    read_ring _ _ _ _ (removed_fields _ _ _ c.self.invariant c.args.n (omega arith) _ c.get-next.ensures present _ _ c.join.ensures c.mark.ensures)

pub returns-clause-numbers : goal.returns-clause-numbers
returns-clause-numbers c =
    let room = ap (λ r. r.room) c.self.view_is in
    let present = ap (λ r. has r.numbers c.args.n) c.self.view_is ∙ sym c.contains.ensures ∙ c.if-not-contains.false in
    let new = removed_fields _ _ _ c.self.invariant c.args.n (omega arith) _ c.get-next.ensures present _ _ c.join.ensures c.mark.ensures in
    numbers_are _ _ _ _ new ∙ ap (λ r. without r.numbers c.args.n) c.self.view_is
