use Rattle.std.proofs.Common.{ℕ, List, ◌++◌, length, ap, ◌∙◌}
use Rattle.dactl_print.proofs.Pieces.{prints_then}
use Rattle.dactl_print.proofs.OneOrder.{has_one_text}
use Rattle.dactl_top.specs.Outcomes.{trace_if}
use Rattle.dactl_top.proofs.Written.{told, told_same, told_apart, told_flushed, writes_all, writes_front, writes_some, writes_same}
use Rattle.dactl_top.proofs.output.write_run.Goals as goal

pub returns-in_err-show_end : goal.returns-in_err-show_end
returns-in_err-show_end g c = λ text shown.
    let run = c.args.run.now in
    let journal = c.as_slice-journal.result.now in
    writes_same _ (told_apart run.ended (length journal) c.args.trace journal text ∙ told_same run.ended c.args.trace text (length journal) journal run.journal.items (ap length c.as_slice-journal.ensures.value) c.as_slice-journal.ensures.value)
    (writes_front _ (trace_if c.args.trace journal ++ text) c.from_residual.ensures.0 c.requires.none c.in_err-show_end.ensures.prints)

pub returns-in_err-show_trace_if : goal.returns-in_err-show_trace_if
returns-in_err-show_trace_if g c = λ text shown.
    let run = c.args.run.now in
    let journal = c.as_slice-journal.result.now in
    writes_same _ (told_same run.ended c.args.trace text (length journal) journal run.journal.items (ap length c.as_slice-journal.ensures.value) c.as_slice-journal.ensures.value)
    (writes_front _ text c.from_residual-in_err-show_trace_if.ensures.0 c.requires.none (prints_then c.in_ok-show_end.ensures.prints c.in_err-show_trace_if.ensures.prints))

pub returns-in_err-show : goal.returns-in_err-show
returns-in_err-show g c = λ text shown.
    let run = c.args.run.now in
    let journal = c.as_slice-journal.result.now in
    let (same, is, p) = c.in_err-show.ensures.prints in
    writes_same _
    (ap (λ (t : List ℕ). told run.ended (length journal) c.args.trace journal t) (has_one_text _ _ same text is shown)
    ∙ told_same run.ended c.args.trace text (length journal) journal run.journal.items (ap length c.as_slice-journal.ensures.value) c.as_slice-journal.ensures.value)
    (writes_some _ c.from_residual-in_err-show.ensures.0 c.requires.none (prints_then (prints_then c.in_ok-show_end.ensures.prints c.in_ok-show_trace_if.ensures.prints) p))

pub returns-in_err-flush : goal.returns-in_err-flush
returns-in_err-flush g c = λ text shown.
    let run = c.args.run.now in
    let journal = c.as_slice-journal.result.now in
    let (same, is, p) = c.in_ok-show.ensures.prints in
    writes_same _
    (told_flushed run.ended (length journal) c.args.trace journal same
    ∙ ap (λ (t : List ℕ). told run.ended (length journal) c.args.trace journal t) (has_one_text _ _ same text is shown)
    ∙ told_same run.ended c.args.trace text (length journal) journal run.journal.items (ap length c.as_slice-journal.ensures.value) c.as_slice-journal.ensures.value)
    (writes_some _ c.from_residual-in_err-flush.ensures.0 c.requires.none (prints_then (prints_then (prints_then c.in_ok-show_end.ensures.prints c.in_ok-show_trace_if.ensures.prints) p) c.in_err-flush.ensures.prints))

pub returns : goal.returns
returns g c = λ text shown.
    let run = c.args.run.now in
    let journal = c.as_slice-journal.result.now in
    let (same, is, p) = c.in_ok-show.ensures.prints in
    writes_same _
    (told_flushed run.ended (length journal) c.args.trace journal same
    ∙ ap (λ (t : List ℕ). told run.ended (length journal) c.args.trace journal t) (has_one_text _ _ same text is shown)
    ∙ told_same run.ended c.args.trace text (length journal) journal run.journal.items (ap length c.as_slice-journal.ensures.value) c.as_slice-journal.ensures.value)
    (writes_all _ _ c.requires.none c.in_ok-flush.ensures.empty (prints_then (prints_then (prints_then c.in_ok-show_end.ensures.prints c.in_ok-show_trace_if.ensures.prints) p) c.in_ok-flush.ensures.prints))
