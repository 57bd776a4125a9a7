use Rattle.std.proofs.Common.{◌++◌, List, ℕ, length, ap, ◌∙◌, arith}
use Rattle.dactl_resume.proofs.LineLists.{lines_next, lines_few}
use Rattle.dactl_resume.proofs.lines.count_lines.Goals as goal

pub overflow_add-count : goal.overflow_add-count
overflow_add-count c = omega (arith, lines_few c.args.text.now, c.lines.invariant.counted, c.requires)

pub lines-preserved : goal.lines-preserved
lines-preserved c =
    let joined = c.split_line.ensures.joined ∙ ap (λ (l : List ℕ). l ++ c.split_line.result.1.now) c.split_line.ensures.line in
    let next = ap length (lines_next c.lines.rest.now c.split_line.result.1.now (omega arith) joined) in
    record {
      counted = omega (arith, next, c.lines.invariant.counted);
      few = omega (arith, c.split_line.ensures.shorter, c.lines.invariant.few);
    }
