use Rattle.std.proofs.Common.{◌<◌, [], ◌∷◌, ◌++◌, vec_capacity, length, subst, sym, ap, arith}
use Rattle.dactl_store.specs.Table.{IsTable}
use Rattle.dactl_store.proofs.Rings.{IsTable-push}
use Rattle.dactl_store.proofs.table.NodeTable.push.Goals as goal

pub invariant_of-self : goal.invariant_of-self
invariant_of-self c =
    let few : length c.self.inside.records.items < c.self.inside.room = omega (arith, ap (λ t. length t.records) c.self.view_is, ap (λ t. t.room) c.self.view_is) in
    subst (λ records. IsTable records c.place.new.ring c.self.inside.room (vec_capacity c.push_reserved.new.self)) (sym c.push_reserved.ensures.items)
    (subst (λ r. IsTable (c.self.inside.records.items ++ r ∷ []) c.place.new.ring c.self.inside.room (vec_capacity c.push_reserved.new.self)) (sym c.of.ensures)
    (IsTable-push _ c.self.inside.ring c.place.new.ring _ _ _ _ c.args.node c.self.invariant few (omega arith) (omega arith) c.place.ensures.numbers c.place.ensures.room))
