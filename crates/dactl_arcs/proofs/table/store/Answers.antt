use Rattle.std.proofs.Common.{◌≡◌, ◌+◌, ◌-◌, ◌++◌, ◌∷◌, [], length, vec_len, ap, ◌∙◌, rules, arith, length-append}
use Rattle.dactl_arcs.specs.Tables.{initial_at, initials}
use Rattle.dactl_arcs.proofs.Tables.{initials-push, length-initials}
use Rattle.dactl_arcs.proofs.table.store.Goals as goal

pub push_reserved-requires : goal.push_reserved-requires
push_reserved-requires c =
    let old = c.args.stored.now.items in
    let more = c.loop-at.at - length old in
    let count : vec_len c.loop-at.stored ≡ length c.loop-at.stored.items = search rules in
    let long : length c.loop-at.stored.items ≡ length old + more = ap length c.loop-at.invariant.1 ∙ length-append old (initials c.args.counts (length old) more) ∙ ap (λ n. length old + n) (length-initials c.args.counts (length old) more) in
    omega (arith, count, long, c.loop-at.invariant.0, c.loop-at.invariant.2)

pub loop-at-preserved : goal.loop-at-preserved
loop-at-preserved c =
    let old = c.args.stored.now.items in
    let more = c.loop-at.at - length old in
    let at : c.loop-at.at ≡ length old + more = omega (arith, c.loop-at.invariant.0) in
    let next : more + 1 ≡ c.loop-at.at + 1 - length old = omega (arith, c.loop-at.invariant.0) in
    let pushed =
    c.push_reserved.ensures.items ∙ ap (λ xs. xs ++ c.initial.result ∷ []) c.loop-at.invariant.1
    ∙ ap (λ x. (old ++ initials c.args.counts (length old) more) ++ x ∷ []) (c.initial.ensures ∙ ap (initial_at c.args.counts) at)
    ∙ initials-push c.args.counts old more ∙ ap (λ n. old ++ initials c.args.counts (length old) n) next in
    (omega (arith, c.loop-at.invariant.0), pushed, c.push_reserved.ensures.capacity ∙ c.loop-at.invariant.2)
