use Rattle.std.proofs.Common.{ap}
use Rattle.std.specs.Int.{w128}
use Rattle.std.proofs.lemmas.Int.{to_z-of_z}
use Rattle.dactl_model.specs.declared.graph.Label.TheVariants.{Integer}
use Rattle.dactl_resume.proofs.LabelTexts.{test_of, in_range_of, no_range}
use Rattle.dactl_resume.proofs.labels.integer_label.Goals as goal

pub returns-then-is_in_range : goal.returns-then-is_in_range
returns-then-is_in_range c =
    let fits = c.in_ok-value.ensures.0 in
    let same = to_z-of_z w128 c.in_ok-value.value fits in
    let test = test_of c.args.wide c.in_ok-value.value _ _ _ same c.is_in_range.ensures c.if-is_in_range.true in
    (c.in_ok-value.value, ap Integer same, in_range_of c.args.wide c.in_ok-value.value test fits, c.in_ok-value.ensures.1)

pub returns-else-is_in_range : goal.returns-else-is_in_range
returns-else-is_in_range c =
    let same = to_z-of_z w128 c.in_ok-value.value c.in_ok-value.ensures.0 in
    let test = test_of c.args.wide c.in_ok-value.value _ _ _ same c.is_in_range.ensures c.if-is_in_range.false in
    λ z range is. no_range c.args.wide c.args.word.now c.in_ok-value.value z test c.in_ok-value.ensures range is
