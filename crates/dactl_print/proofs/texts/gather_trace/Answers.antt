use Rattle.std.proofs.Common.{◌+◌, ◌++◌, sym, ap, ◌∙◌, append_assoc}
use Rattle.std.proofs.lemmas.List.{at_drop_more}
use Rattle.dactl_print.specs.Texts.{entry_lines}
use Rattle.dactl_print.proofs.Pieces.{prints_then, prints_no_more, prints_same}
use Rattle.dactl_print.proofs.texts.gather_trace.Goals as goal

pub returns-in_err-gather_entry : goal.returns-in_err-gather_entry
returns-in_err-gather_entry g c =
    let before = c.loop-entry.invariant in
    let next = at_drop_more (entry_lines c.loop-entry.number) c.args.journal.now c.loop-entry.entry-index _ c.loop-entry-test.true in
    prints_same (before.split ∙ ap (λ l. before.sent ++ l) next) (prints_then before.prints (prints_no_more _ c.in_err-gather_entry.ensures c.from_residual.ensures.0))

pub loop-entry-preserved : goal.loop-entry-preserved
loop-entry-preserved g c =
    let before = c.loop-entry.invariant in
    let next = at_drop_more (entry_lines c.loop-entry.number) c.args.journal.now c.loop-entry.entry-index _ c.loop-entry-test.true in
    record {
      number = ap (λ n. n + 1) before.number;
      sent = _;
      split = before.split ∙ ap (λ l. before.sent ++ l) next ∙ sym (append_assoc before.sent _ _);
      prints = prints_then before.prints c.in_ok-gather_entry.ensures;
    }
