use Rattle.std.proofs.Common.{ℕ, List, [], ◌∷◌, ◌++◌, take, map, ap, sym, ◌∙◌}
use Rattle.std.specs.List.{filter_map}
use Rattle.std.proofs.lemmas.List.{append-nil}
use Rattle.dactl_contractum.specs.Drawing.{mention_of}
use Rattle.dactl_contractum.specs.Meant.{wake_of}
use Rattle.dactl_contractum.proofs.Meanings.{wakes_more, kept_one, kept_none}
use Rattle.dactl_contractum.proofs.contractum.Contractum.wakes.Goals as goal
use Rattle.dactl_contractum.proofs.contractum.Contractum.wakes.Goals.{in-Some+in_ok-push, in_default}

pub loop-mention-preserved : goal.loop-mention-preserved
loop-mention-preserved c =
    let wake = wake_of c.args.variables.now in
    let mentions = c.as_slice-mention-items.result.now in
    let before = filter_map wake (map mention_of (take c.loop-mention.mention-index mentions)) in
    let more = wakes_more wake mention_of mentions c.loop-mention.mention-index c.mention-item.result c.loop-mention-test.true c.mention-item.is in
    elim c.match-woken.branch [
      | in-Some+in_ok-push b ↦
          ap (λ (z : _). z.items) b.wakes-is ∙ b.in_ok-push.ensures.items ∙ ap (λ (z : List ℕ). z ++ b.in-Some.variable ∷ []) c.loop-mention.invariant
          ∙ ap (λ (z : List ℕ). before ++ z) (sym (kept_one wake (mention_of c.mention-item.result) b.in-Some.variable (sym b.in-Some.ensures))) ∙ sym more
      | in_default b ↦
          ap (λ (z : _). z.items) b.wakes-is ∙ c.loop-mention.invariant ∙ sym (append-nil before)
          ∙ ap (λ (z : List ℕ). before ++ z) (sym (kept_none wake (mention_of c.mention-item.result) (sym c.woken.ensures ∙ b.in_default.is))) ∙ sym more
    ]
