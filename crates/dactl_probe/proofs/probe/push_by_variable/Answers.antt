use Rattle.std.proofs.Common.{◌∙◌, ap, arith, length, length-take}
use Rattle.dactl_model.specs.RuleTold.{bindings_told}
use Rattle.dactl_probe.proofs.Rules.{binding_pushed, bindings_all}
use Rattle.dactl_probe.proofs.probe.push_by_variable.Goals as goal

pub push_binding-requires : goal.push_binding-requires
push_binding-requires c =
    omega (arith, ap (λ f. length f.bindings) c.loop-variable.invariant, length-take c.loop-variable.variable (bindings_told c.args.footprint.now.readings c.args.node c.args.rule.now), c.loop-variable-test.true, c.requires.few)

pub loop-variable-preserved : goal.loop-variable-preserved
loop-variable-preserved c =
    binding_pushed c.args.footprint.now c.loop-variable.footprint c.push_binding.new.self _ c.args.node c.args.rule.now c.loop-variable.variable c.bound-found.result c.loop-variable-test.true c.loop-variable.invariant c.readings.ensures c.bound-found.ensures c.push_binding.ensures

pub returns : goal.returns
returns c =
    c.loop-variable.invariant ∙ ap (λ bs. record c.args.footprint.now { bindings = bs }) (bindings_all c.args.footprint.now.readings c.args.node c.args.rule.now c.loop-variable.variable c.loop-variable-test.false)
