use Rattle.std.proofs.Common.{List, [], ◌∷◌, ◌++◌, length, ap, ◌∙◌, arith}
use Rattle.dactl_model.specs.declared.graph.Arc.{Arc}
use Rattle.dactl_resume.proofs.ArgumentParts.{none_first, none_others}
use Rattle.dactl_resume.proofs.arguments.read_arguments.Goals as goal

pub returns-in_default : goal.returns-in_default
returns-in_default c = none_first c.args.bytes.now c.args.count (λ e. let so = c.is_end.ensures.1 e in let not = c.if-is_end.false in cc) c.in_default.ensures

pub returns-else-branch : goal.returns-else-branch
returns-else-branch c =
    let none = rw c.if-branch.false at c.in_ok-read_further.ensures in
    let one = ap length (c.in_ok-push.ensures.items ∙ ap (λ (xs : List Arc). xs ++ c.in-Some.first ∷ []) c.new-arcs.ensures.items) in
    none_others c.args.bytes.now c.in-Some.rest.now c.args.count c.ranges.count.fits c.in-Some.first c.in-Some.ensures (λ more is targets few. none more is targets (omega (arith, one, few)))
