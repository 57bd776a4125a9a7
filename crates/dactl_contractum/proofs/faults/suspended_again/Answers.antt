use Rattle.std.proofs.Common.{◌≡◌, ◌∙◌, ◌∷◌, ◌++◌, [], Bool, map, take, ap, sym, if◌then◌else◌}
use Rattle.std.proofs.lemmas.List.{append-nil}
use Rattle.dactl_contractum.specs.Drawing.{mention_of}
use Rattle.dactl_contractum.specs.Told.{is_suspension, suspensions_in, fault_at_mark}
use Rattle.dactl_contractum.proofs.ToldFaults.{kept_more}
use Rattle.dactl_contractum.proofs.Suspensions.{again_start, again_more}
use Rattle.dactl_contractum.proofs.faults.suspended_again.Goals as goal
use Rattle.dactl_contractum.proofs.faults.suspended_again.Goals.{then-is_suspending+in_ok-fault_at_mark, else-is_suspending}

pub loop-mention-init : goal.loop-mention-init
loop-mention-init c = again_start c.args.faults.now.items

pub loop-mention-preserved : goal.loop-mention-preserved
loop-mention-preserved c =
    let roots = c.args.roots.now in
    let mention = mention_of c.mention-item.result in
    let before = suspensions_in roots (map mention_of (take c.loop-mention.mention-index c.args.mentions.now)) in
    let more = kept_more (is_suspension roots) mention_of c.args.mentions.now c.loop-mention.mention-index c.mention-item.result c.loop-mention-test.true c.mention-item.is in
    elim c.if-is_suspending.branch [
      | then-is_suspending+in_ok-fault_at_mark b ↦
          let kept = more ∙ ap (λ (z : Bool). before ++ (if z then mention ∷ [] else [])) (sym c.is_suspending.ensures ∙ b.if-is_suspending.true) in
          let step : c.if-is_suspending.faults.items ≡ c.loop-mention.faults.items ++ fault_at_mark c.loop-mention.found c.mention-item.result.marks = ap (λ (z : _). z.items) b.faults-is ∙ b.in_ok-fault_at_mark.ensures in
          rw (kept, b.found-is) (again_more before mention c.loop-mention.found c.args.faults.now.items c.loop-mention.faults.items c.if-is_suspending.faults.items c.loop-mention.invariant step)
      | else-is_suspending b ↦
          let kept = more ∙ ap (λ (z : Bool). before ++ (if z then mention ∷ [] else [])) (sym c.is_suspending.ensures ∙ b.if-is_suspending.false) ∙ append-nil before in
          rw (kept, b.found-is, b.faults-is) c.loop-mention.invariant
    ]
