use Rattle.std.proofs.Common.{rules, ◌≡◌, List, [], None, refl, sym, subst}
use Rattle.dactl_model.specs.declared.graph.Entry.{Entry}
use Rattle.dactl_state.specs.Runs.{Run, IsCourse}
use Rattle.dactl_state.proofs.Course.{begun_course}
use Rattle.dactl_state.proofs.state.State.begin.Goals as goal

pub invariant_of-result : goal.invariant_of-result
invariant_of-result c = let h = c.in-Ok.store in let none : c.in-Ok-with_capacity.journal.items ≡ [] = search rules in
    (subst (λ (z : List Entry). let r : Run = record { program = c.args.program; limits = c.args.limits; journal = z; held = h; full = None } in IsCourse r) (sym none) (begun_course c.args.program c.args.limits h c.requires c.in-Ok.ensures.ok c.keep.ensures), search rules, search rules)

pub returns-clause-ok : goal.returns-clause-ok
returns-clause-ok c = let h = c.in-Ok.store in (record { program = refl; limited = refl; journal = search rules; begun = c.in-Ok.ensures.ok; full = refl }, (invariant_of-result c).0)
