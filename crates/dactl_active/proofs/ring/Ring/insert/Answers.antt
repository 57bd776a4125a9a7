use Rattle.std.proofs.Common.{◌++◌, ◌∷◌, [], sym, ap, ◌∙◌, arith}
use Rattle.std.proofs.lemmas.Bool.{cond-false}
use Rattle.dactl_active.specs.Ring.{has}
use Rattle.dactl_active.proofs.Linking.{back_in_range, few, inserted_fields, numbers_are, read_ring}
use Rattle.dactl_active.proofs.ring.Ring.insert.Goals as goal

pub set_next-requires : goal.set_next-requires
set_next-requires c = back_in_range _ _ _ c.self.invariant _ c.get-back.ensures

-- n is not yet in the ring, so the ring is not full
pub overflow_add-self : goal.overflow_add-self
overflow_add-self c =
    let room = ap (λ r. r.room) c.self.view_is in
    let absent = ap (λ r. has r.numbers c.args.n) c.self.view_is ∙ sym c.contains.ensures ∙ c.if-contains.false in
    let new = inserted_fields _ _ _ c.self.invariant c.args.n (omega arith) _ _ _ _ c.get-back.ensures c.set_next.ensures c.set.ensures c.set_previous.ensures absent in
    omega (arith, few _ _ _ _ new, new.places_fit)

pub invariant_of-self : goal.invariant_of-self
invariant_of-self c =
    let room = ap (λ r. r.room) c.self.view_is in
    let absent = ap (λ r. has r.numbers c.args.n) c.self.view_is ∙ sym c.contains.ensures ∙ c.if-contains.false in
    read_ring _ _ _ _ (inserted_fields _ _ _ c.self.invariant c.args.n (omega arith) _ _ _ _ c.get-back.ensures c.set_next.ensures c.set.ensures c.set_previous.ensures absent)

pub returns-clause-numbers : goal.returns-clause-numbers
returns-clause-numbers c =
    let room = ap (λ r. r.room) c.self.view_is in
    let absent = ap (λ r. has r.numbers c.args.n) c.self.view_is ∙ sym c.contains.ensures ∙ c.if-contains.false in
    let new = inserted_fields _ _ _ c.self.invariant c.args.n (omega arith) _ _ _ _ c.get-back.ensures c.set_next.ensures c.set.ensures c.set_previous.ensures absent in
    let at_back = numbers_are _ _ _ _ new in
    let grown = sym (cond-false (has c.args.self.now.numbers c.args.n) c.args.self.now.numbers (c.args.self.now.numbers ++ c.args.n ∷ []) (sym c.contains.ensures ∙ c.if-contains.false)) in
    at_back ∙ ap (λ r. r.numbers ++ c.args.n ∷ []) c.self.view_is ∙ grown
