use Rattle.std.proofs.Common.{◌≡◌, ℕ, List, ◌++◌, ◌||◌, is_some, map, take, Option, ap, subst, ◌∙◌}
use Rattle.std.proofs.lemmas.List.{append-nil}
use Rattle.dactl_base.specs.declared.refusal.Kind.TheVariants as kinds
use Rattle.dactl_meaning.specs.declared.tree.Name.{Name}
use Rattle.dactl_meaning.specs.Contractum.{given_names, name_list}
use Rattle.dactl_contractum.specs.Drawing.{sketch_of}
use Rattle.dactl_names.specs.Found.{found, Notes}
use Rattle.dactl_contractum.specs.Numbers.{variable_number}
use Rattle.dactl_contractum.specs.Told.{fault_at}
use Rattle.dactl_contractum.proofs.Twice.{twice_start, twice_more, names_more}
use Rattle.dactl_contractum.proofs.faults.named_twice.Goals as goal
use Rattle.dactl_contractum.proofs.faults.named_twice.Goals.{in-Some+in_ok-note+in_ok-fault_at, in_default}

pub loop-sketch-init : goal.loop-sketch-init
loop-sketch-init c = twice_start kinds.NamedTwice c.args.variables.now c.new-seen.result c.args.faults.now.items c.new-seen.ensures

pub loop-sketch-preserved : goal.loop-sketch-preserved
loop-sketch-preserved c = elim c.match-sketch.branch [
  | in-Some+in_ok-note+in_ok-fault_at b ↦
      let n = b.in-Some.name in
      let before = given_names (map sketch_of (take c.loop-sketch.sketch-index c.args.made.now)) in
      let more = names_more c.args.made.now c.loop-sketch.sketch-index c.sketch-item.result c.loop-sketch-test.true c.sketch-item.is
      ∙ ap (λ (o : Option Name). before ++ name_list o) b.in-Some.is in
      let noted = subst (λ (v : List ℕ). Notes v 0 c.loop-sketch.seen b.note.new.self) b.as_slice-word.ensures b.in_ok-note.ensures.after in
      let faults : c.match-sketch.faults.items ≡ c.loop-sketch.faults.items ++ fault_at b.is_bound-known.result kinds.NamedTwice n.place = ap (λ (z : _). z.items) b.faults-is ∙ b.in_ok-fault_at.ensures in
      let known = b.is_bound-known.ensures ∙ ap (λ (v : List ℕ). is_some (variable_number c.args.variables.now v) || is_some (found c.loop-sketch.seen v)) b.as_slice-word.ensures in
      rw (more, b.seen-is) (twice_more kinds.NamedTwice c.args.variables.now before c.loop-sketch.seen b.note.new.self c.args.faults.now.items c.loop-sketch.faults.items c.match-sketch.faults.items n b.is_bound-known.result c.loop-sketch.invariant noted known faults)
  | in_default b ↦
      let before = given_names (map sketch_of (take c.loop-sketch.sketch-index c.args.made.now)) in
      let more = names_more c.args.made.now c.loop-sketch.sketch-index c.sketch-item.result c.loop-sketch-test.true c.sketch-item.is
      ∙ ap (λ (o : Option Name). before ++ name_list o) b.in_default.is ∙ append-nil before in
      rw (more, b.seen-is, b.faults-is) c.loop-sketch.invariant
]
