use Rattle.std.proofs.Common.{ℕ, List, ap, subst, ◌∙◌}
use Rattle.dactl_names.specs.declared.map.NameMap.{NameMap}
use Rattle.dactl_names.specs.Found.{found, Notes}
use Rattle.dactl_contractum.proofs.Tables.{given_more, unnamed_more}
use Rattle.dactl_contractum.proofs.contractum.given.Goals as goal
use Rattle.dactl_contractum.proofs.contractum.given.Goals.{in-Some+in_ok-note, in_default}

pub loop-number-preserved : goal.loop-number-preserved
loop-number-preserved c = elim c.match-sketch.branch [
  | in-Some+in_ok-note b ↦ λ w.
      ap (λ (t : NameMap ℕ). found t w) b.numbers-is
      ∙ given_more c.args.made.now c.loop-number.number c.index-made-number.result b.in-Some.name c.loop-number.numbers b.note.new.self c.loop-number-test.true c.index-made-number.is b.in-Some.is
      (subst (λ (v : List ℕ). Notes v c.loop-number.number c.loop-number.numbers b.note.new.self) b.as_slice.ensures b.in_ok-note.ensures.after) c.loop-number.invariant w
  | in_default b ↦ λ w.
      ap (λ (t : NameMap ℕ). found t w) b.numbers-is
      ∙ unnamed_more c.args.made.now c.loop-number.number c.index-made-number.result c.loop-number.numbers c.loop-number-test.true c.index-made-number.is b.in_default.is c.loop-number.invariant w
]
