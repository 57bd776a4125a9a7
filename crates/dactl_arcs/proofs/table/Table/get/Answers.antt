use Rattle.std.proofs.Common.{◌<◌, ◌≤◌, length, get_or, sym, ap, ◌∙◌, arith}
use Rattle.dactl_arcs.proofs.Tables.{get_initial, length-table}
use Rattle.dactl_arcs.proofs.table.Table.get.Goals as goal

pub returns : goal.returns
returns c =
    let t = c.self.inside in
    let long = length-table t.counts t.length _ _ c.self.invariant in
    let inside : c.args.place < t.length = omega (arith, ap length c.self.view_is, long, c.requires) in
    let behind : length t.stored.items ≤ c.args.place = omega arith in
    c.initial.ensures ∙ sym (get_initial t.counts t.length _ _ c.self.invariant c.args.place behind inside) ∙ ap (λ xs. get_or xs c.args.place 0) c.self.view_is
