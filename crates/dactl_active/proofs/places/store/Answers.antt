use Rattle.std.proofs.Common.{◌≡◌, ◌+◌, ◌-◌, ◌++◌, ◌∷◌, [], length, replicate, vec_len, ap, ◌∙◌, rules, arith, append_assoc, length-append}
use Rattle.std.proofs.lemmas.List.{length-replicate, replicate_more}
use Rattle.dactl_active.specs.Round.{blank}
use Rattle.dactl_active.proofs.places.store.Goals as goal

pub push_reserved-requires : goal.push_reserved-requires
push_reserved-requires c =
    let old = c.args.stored.now.items in
    let more = c.loop-at.at - length old in
    let count : vec_len c.loop-at.stored ≡ length c.loop-at.stored.items = search rules in
    let long : length c.loop-at.stored.items ≡ length old + more = ap length c.loop-at.invariant.1 ∙ length-append old (replicate more blank) ∙ ap (λ n. length old + n) (length-replicate more blank) in
    omega (arith, count, long, c.loop-at.invariant.0, c.loop-at.invariant.2)

pub loop-at-preserved : goal.loop-at-preserved
loop-at-preserved c =
    let old = c.args.stored.now.items in
    let more = c.loop-at.at - length old in
    let next : more + 1 ≡ c.loop-at.at + 1 - length old = omega (arith, c.loop-at.invariant.0) in
    let pushed =
    c.push_reserved.ensures.items ∙ ap (λ ps. ps ++ c.vacant.result ∷ []) c.loop-at.invariant.1
    ∙ ap (λ p. (old ++ replicate more blank) ++ p ∷ []) c.vacant.ensures
    ∙ append_assoc old (replicate more blank) (blank ∷ [])
    ∙ ap (λ ps. old ++ ps) (replicate_more more blank ∙ ap (λ n. replicate n blank) next) in
    (omega (arith, c.loop-at.invariant.0), pushed, c.push_reserved.ensures.capacity ∙ c.loop-at.invariant.2)
