use Rattle.std.proofs.Common.{ap, sym, ◌∙◌}
use Rattle.dactl_meaning.specs.Expansion.{is_among}
use Rattle.dactl_contractum.proofs.LeftSides.{any_there}
use Rattle.dactl_contractum.proofs.lefts.redirect_root.Goals as goal

pub returns-then-contains : goal.returns-then-contains
returns-then-contains c =
    let here = ap (is_among c.args.roots.now) (sym c.as_slice.ensures) ∙ sym c.contains.ensures ∙ c.if-contains.true in
    sym (any_there (λ n. is_among c.args.roots.now n.text) (λ n. n.now) c.args.lefts.now c.loop-left.left-index c.left-item.result c.loop-left-test.true c.left-item.is here)
