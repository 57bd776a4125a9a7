use Rattle.std.proofs.Common.{◌≡◌, length, vec_capacity, vec_len, sym, subst, rules, arith}
use Rattle.dactl_arcs.proofs.Tables.{IsReady, IsTable-set, below_long, ready_already, ready_stored, set_ready}
use Rattle.dactl_arcs.proofs.table.Table.set.Goals as goal
use Rattle.dactl_arcs.proofs.table.Table.set.Goals.{then-len-place, else-len-place}

pub store-requires-clause-room : goal.store-requires-clause-room
store-requires-clause-room c =
    let inside = below_long _ c.args.place c.self.inside.counts c.self.inside.length _ _ c.self.invariant c.self.view_is c.requires in
    omega (arith, inside, c.self.invariant.taken)

pub store-requires-clause-fits : goal.store-requires-clause-fits
store-requires-clause-fits c =
    let inside = below_long _ c.args.place c.self.inside.counts c.self.inside.length _ _ c.self.invariant c.self.view_is c.requires in
    search (rules, inside)

pub index_mut-requires : goal.index_mut-requires
index_mut-requires c =
    let t = c.if-len-place.self-inside in
    let ready : IsReady c.args.self.now c.args.place t.counts t.length t.stored.items (vec_capacity t.stored) = elim c.if-len-place.branch [
      | then-len-place w ↦
          subst (λ i. IsReady c.args.self.now c.args.place i.counts i.length i.stored.items (vec_capacity i.stored)) (sym w.self-inside-is)
          (ready_stored _ c.args.place c.self.inside.counts c.self.inside.length _ _ c.self.invariant c.self.view_is _ _ c.requires (omega arith) w.store.ensures.items w.store.ensures.capacity)
      | else-len-place w ↦
          subst (λ i. IsReady c.args.self.now c.args.place i.counts i.length i.stored.items (vec_capacity i.stored)) (sym w.self-inside-is)
          (ready_already _ c.args.place c.self.inside.counts c.self.inside.length _ _ c.self.invariant c.self.view_is (omega arith))
    ] in
    let count : vec_len t.stored ≡ length t.stored.items = search rules in
    omega (arith, count, ready.inside)

pub invariant_of-self : goal.invariant_of-self
invariant_of-self c =
    let t = c.if-len-place.self-inside in
    let ready : IsReady c.args.self.now c.args.place t.counts t.length t.stored.items (vec_capacity t.stored) = elim c.if-len-place.branch [
      | then-len-place w ↦
          subst (λ i. IsReady c.args.self.now c.args.place i.counts i.length i.stored.items (vec_capacity i.stored)) (sym w.self-inside-is)
          (ready_stored _ c.args.place c.self.inside.counts c.self.inside.length _ _ c.self.invariant c.self.view_is _ _ c.requires (omega arith) w.store.ensures.items w.store.ensures.capacity)
      | else-len-place w ↦
          subst (λ i. IsReady c.args.self.now c.args.place i.counts i.length i.stored.items (vec_capacity i.stored)) (sym w.self-inside-is)
          (ready_already _ c.args.place c.self.inside.counts c.self.inside.length _ _ c.self.invariant c.self.view_is (omega arith))
    ] in
    IsTable-set _ _ _ _ _ _ c.args.number ready

pub returns : goal.returns
returns c =
    let t = c.if-len-place.self-inside in
    let ready : IsReady c.args.self.now c.args.place t.counts t.length t.stored.items (vec_capacity t.stored) = elim c.if-len-place.branch [
      | then-len-place w ↦
          subst (λ i. IsReady c.args.self.now c.args.place i.counts i.length i.stored.items (vec_capacity i.stored)) (sym w.self-inside-is)
          (ready_stored _ c.args.place c.self.inside.counts c.self.inside.length _ _ c.self.invariant c.self.view_is _ _ c.requires (omega arith) w.store.ensures.items w.store.ensures.capacity)
      | else-len-place w ↦
          subst (λ i. IsReady c.args.self.now c.args.place i.counts i.length i.stored.items (vec_capacity i.stored)) (sym w.self-inside-is)
          (ready_already _ c.args.place c.self.inside.counts c.self.inside.length _ _ c.self.invariant c.self.view_is (omega arith))
    ] in
    set_ready _ _ _ _ _ _ c.args.number ready
