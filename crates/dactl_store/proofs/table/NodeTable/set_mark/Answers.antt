use Rattle.std.proofs.Common.{length, sym, ap, ◌∙◌, arith}
use Rattle.dactl_store.specs.Table.{ring_with}
use Rattle.dactl_store.proofs.Rings.{IsTable-set}
use Rattle.dactl_store.proofs.table.NodeTable.set_mark.Goals as goal

pub invariant_of-self : goal.invariant_of-self
invariant_of-self c =
    let numbers = c.place.ensures.numbers ∙ sym (ap (λ r. ring_with r.mark c.self.inside.ring.numbers c.args.node) c.set_mark.ensures) in
    IsTable-set _ c.self.inside.ring c.place.new.ring _ _ _ _ c.set_mark.new.self c.self.invariant (omega (arith, ap (λ t. length t.records) c.self.view_is)) c.self.invariant.taken numbers c.place.ensures.room
