use Rattle.std.proofs.Common.{◌++◌, sym, ap, ◌∙◌, append_assoc}
use Rattle.dactl_model.specs.Graphs.{node_at}
use Rattle.dactl_print.proofs.Pieces.{prints_then, prints_no_more, prints_same}
use Rattle.dactl_print.proofs.NodeTexts.{further_more, further_end}
use Rattle.dactl_print.proofs.lines.gather_further.Goals as goal

pub returns-in_err-gather_argument : goal.returns-in_err-gather_argument
returns-in_err-gather_argument g c =
    let before = c.loop-place.invariant in
    let o = node_at (g.V.View.graph c.args.view.now) c.args.node in
    let next = further_more c.args.walk.now.order o c.loop-place.place c.arc.result c.arc.ensures in
    prints_same (before.split ∙ ap (λ l. before.sent ++ l) next) (prints_then before.prints (prints_no_more _ c.in_err-gather_argument.ensures c.from_residual.ensures.0))

pub loop-place-preserved : goal.loop-place-preserved
loop-place-preserved g c =
    let before = c.loop-place.invariant in
    let o = node_at (g.V.View.graph c.args.view.now) c.args.node in
    let next = further_more c.args.walk.now.order o c.loop-place.place c.arc.result c.arc.ensures in
    record {
      sent = _;
      split = before.split ∙ ap (λ l. before.sent ++ l) next ∙ sym (append_assoc before.sent _ _);
      prints = prints_then before.prints c.in_ok-gather_argument.ensures;
    }

pub returns : goal.returns
returns g c =
    let before = c.loop-place.invariant in
    let o = node_at (g.V.View.graph c.args.view.now) c.args.node in
    let last = further_end c.args.walk.now.order o c.args.arity c.loop-place.place c.requires.arity c.loop-place-test.false in
    prints_same (before.split ∙ ap (λ l. before.sent ++ l) last) (prints_then before.prints c.gather.ensures)
