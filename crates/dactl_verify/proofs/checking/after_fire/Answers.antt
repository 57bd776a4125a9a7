use Rattle.std.proofs.Common.{ap, refl}
use Rattle.std.proofs.lemmas.Option.{slice_get_within}
use Rattle.dactl_model.specs.declared.graph.Room.{Room}
use Rattle.dactl_verify.proofs.Outcomes.{fire_reached}
use Rattle.dactl_verify.proofs.Rooms.{within}
use Rattle.dactl_verify.proofs.checking.after_fire.Goals as goal

pub returns-then-exceeds : goal.returns-then-exceeds
returns-then-exceeds c =
    let found = rw c.in-Some.is at c.in_ok-bindings.ensures.found in (
      refl,
      record {
        rule = c.rule.result.now;
        is_rule = c.rule.ensures;
        allowed = found.0;
        needs = c.needed_by-needed.ensures;
        has = c.left-left.ensures;
        above = c.exceeds.ensures.0 c.if-exceeds.true;
      },
    )

pub fire_in_place-requires-clause-rule : goal.fire_in_place-requires-clause-rule
fire_in_place-requires-clause-rule c = slice_get_within c.args.program.now.rules c.args.rule _ c.rule.ensures

pub returns : goal.returns
returns c =
    let found = rw c.in-Some.is at c.in_ok-bindings.ensures.found in
    let fits = within _ _ _ _ _ c.needed_by-needed.ensures c.left-left.ensures c.exceeds.ensures c.if-exceeds.false in (
      (found.0, c.in_ok-after.ensures),
      fire_reached c.args.program.now c.args.room c.args.reached.graph c.in_ok-after.after c.args.reached.arcs _ c.args.node c.args.rule c.rule.result.now c.requires.program c.rule.ensures
          c.requires.reached fits (ap (λ (x : Room). x.arcs) c.needed_by-needed.ensures) found.0 c.in_ok-after.ensures,
    )
