use Rattle.std.proofs.Common.{◌≡◌, ◌++◌, List, [], ◌∷◌, ℕ, true, false, not, sym, ap, ◌∙◌}
use Rattle.dactl_patterns.specs.Naming.{has_word, with_word}
use Rattle.dactl_patterns.proofs.Distinct.{held_more, names_more}
use Rattle.dactl_patterns.proofs.names.variables.Goals as goal
use Rattle.dactl_patterns.proofs.names.variables.Goals.{then-branch+in_ok-from_slice+in_ok-push, else-branch}

pub loop-occurrence-preserved : goal.loop-occurrence-preserved
loop-occurrence-preserved c =
    let l = c.loop-occurrence in
    let x = c.occurrence-item.result in
    let name : List ℕ = x.name.now.text in
    let had = has_word l.seen in
    let grown : has_word c.add.new.names ≡ with_word had name = c.in_ok-add.ensures.names ∙ ap (with_word had) c.as_slice-name.ensures in
    let added : c.in_ok-add.field-0 ≡ not (had name) = c.in_ok-add.ensures.added ∙ ap (λ (w : List ℕ). not (had w)) c.as_slice-name.ensures in
    let held = held_more c.args.occurrences.now l.occurrence-index x had c.loop-occurrence-test.true c.occurrence-item.is l.invariant.held (has_word c.add.new.names) grown in
    let names = names_more c.args.occurrences.now l.occurrence-index x had c.loop-occurrence-test.true c.occurrence-item.is l.invariant.held in
    elim c.if-branch.branch [
      | then-branch+in_ok-from_slice+in_ok-push w ↦
          record {
            held = held;
            names = w.names-is ∙ w.in_ok-push.ensures.ok ∙ (λ j. l.invariant.names j ++ (w.in_ok-from_slice.ensures ∙ c.as_slice-name.ensures) j ∷ []) ∙ sym (names true (sym w.if-branch.true ∙ added));
          }
      | else-branch w ↦ record { held = held; names = w.names-is ∙ l.invariant.names ∙ sym (names false (sym w.if-branch.false ∙ added)) }
    ]
