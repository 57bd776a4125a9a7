use Rattle.dactl_verify.proofs.LineParts.{note_node, note_end, note_read}
use Rattle.dactl_verify.proofs.line.read_note.Goals as goal

pub returns-in_err-node : goal.returns-in_err-node
returns-in_err-node c = rw c.from_residual.ensures (λ n small is. c.in_err-node.ensures _ _ (note_node n small is))

pub returns-then-not-is_end : goal.returns-then-not-is_end
returns-then-not-is_end c =
    λ n small is.
    let so = c.is_end.ensures.1 (note_end n c.in_ok-node.ensures small is) in
    let not = c.if-not-is_end.true in
    cc

pub returns : goal.returns
returns c = (c.in_ok-node.ensures.word, note_read c.in_ok-node.ensures (c.is_end.ensures.0 c.if-not-is_end.false))
