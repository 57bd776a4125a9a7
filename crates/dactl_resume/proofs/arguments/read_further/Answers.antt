use Rattle.std.proofs.Common.{List, sym, subst, ◌∙◌}
use Rattle.dactl_model.specs.declared.graph.Arc.{Arc}
use Rattle.dactl_resume.proofs.ArgumentParts.{AreRead, one_read, all_read, none_further}
use Rattle.dactl_resume.proofs.arguments.read_further.Goals as goal

pub returns-in_default : goal.returns-in_default
returns-in_default c =
    λ more is targets most.
    none_further c.args.arcs.now.items c.arguments.arcs.items c.args.bytes.now c.arguments.rest.now c.args.count c.ranges.count.fits c.arguments.invariant
    (λ closes. let so = c.is_close.ensures.1 closes in let not = c.arguments-test.true in cc) c.in_default.ensures more is targets

pub arguments-preserved : goal.arguments-preserved
arguments-preserved c =
    let next =
    one_read c.args.arcs.now.items c.arguments.arcs.items c.args.bytes.now c.arguments.rest.now c.args.count c.ranges.count.fits c.arguments.invariant c.in-Some.arc c.in-Some.behind.now c.in-Some.ensures
    (λ full. c.if-len-eq-MOST.false (c.len.ensures ∙ c.arguments.arcs.ok.0 ∙ full)) in
    subst (λ (xs : List Arc). AreRead c.args.arcs.now.items xs c.args.bytes.now c.in-Some.behind.now c.args.count) (sym c.in_ok-push.ensures.items) next

pub returns : goal.returns
returns c =
    all_read c.args.arcs.now.items c.arguments.arcs.items c.args.bytes.now c.arguments.rest.now c.args.count c.ranges.count.fits c.arguments.invariant (c.is_close.ensures.0 c.arguments-test.false)
