use Rattle.dactl_verify.proofs.LineParts.{fire_node, fire_rule, fire_end, fire_read}
use Rattle.dactl_verify.proofs.line.read_fire.Goals as goal

pub returns-in_err-node : goal.returns-in_err-node
returns-in_err-node c = rw c.from_residual.ensures (λ n r small is. c.in_err-node.ensures _ _ (fire_node n r small is))

pub returns-in_err-rule : goal.returns-in_err-rule
returns-in_err-rule c = rw c.from_residual-in_err-rule.ensures (λ n r small is. c.in_err-rule.ensures _ _ (fire_rule n r c.in_ok-node.ensures small is))

pub returns-then-not-is_end : goal.returns-then-not-is_end
returns-then-not-is_end c =
    λ n r small is.
    let so = c.is_end.ensures.1 (fire_end n r c.in_ok-node.ensures c.in_ok-rule.ensures small is) in
    let not = c.if-not-is_end.true in
    cc

pub returns : goal.returns
returns c = ((c.in_ok-node.ensures.word, c.in_ok-rule.ensures.word), fire_read c.in_ok-node.ensures c.in_ok-rule.ensures (c.is_end.ensures.0 c.if-not-is_end.false))
