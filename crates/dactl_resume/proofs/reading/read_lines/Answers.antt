use Rattle.std.proofs.Common.{ℕ, ◌+◌, List, refl, sym, ◌∙◌, subst, arith}
use Rattle.std.proofs.lemmas.Bool.{eqb-true}
use Rattle.dactl_model.specs.declared.graph.Node.{Node}
use Rattle.dactl_resume.specs.Answers.{lines_of, IsLineOf}
use Rattle.dactl_resume.proofs.LineLists.{lines_few}
use Rattle.dactl_resume.proofs.LineWalk.{Walked, place_below, walked_more, malformed_here, graph_walked}
use Rattle.dactl_resume.proofs.reading.read_lines.Goals as goal

pub read_line-requires-clause-place : goal.read_line-requires-clause-place
read_line-requires-clause-place c =
    let split = c.split_line.ensures in
    let below = place_below c.args.program.now (lines_of c.args.text.now) c.lines.rest.now c.lines.place c.lines.nodes.items c.lines.invariant c.split_line.result.0.now c.split_line.result.1.now (omega arith) split.line split.joined in
    omega (arith, below, c.count_lines-count.ensures)

pub overflow_add-result : goal.overflow_add-result
overflow_add-result c =
    let split = c.split_line.ensures in
    let below = place_below c.args.program.now (lines_of c.args.text.now) c.lines.rest.now c.lines.place c.lines.nodes.items c.lines.invariant c.split_line.result.0.now c.split_line.result.1.now (omega arith) split.line split.joined in
    omega (arith, below, lines_few c.args.text.now, c.requires.few)

pub returns-in-None-clause-fault : goal.returns-in-None-clause-fault
returns-in-None-clause-fault c =
    let split = c.split_line.ensures in
    let none = rw c.in-None.is at c.in_ok-node.ensures in (
      c.lines.place,
      refl,
      malformed_here c.args.program.now (lines_of c.args.text.now) c.lines.rest.now c.lines.place c.lines.nodes.items c.lines.invariant c.split_line.result.0.now c.split_line.result.1.now (omega arith) split.line split.joined
          (λ node own. none node (subst (λ (k : ℕ). IsLineOf c.args.program.now k c.lines.place c.split_line.result.0.now node) (sym c.count_lines-count.ensures) own)),
    )

pub lines-preserved : goal.lines-preserved
lines-preserved c =
    let split = c.split_line.ensures in
    let found = rw c.in-Some.is at c.in_ok-node.ensures in
    let own = subst (λ (k : ℕ). IsLineOf c.args.program.now k c.lines.place c.split_line.result.0.now c.in-Some.node) c.count_lines-count.ensures found in
    let more =
    walked_more c.args.program.now (lines_of c.args.text.now) c.lines.rest.now c.lines.place c.lines.nodes.items c.lines.invariant c.split_line.result.0.now c.split_line.result.1.now (omega arith) split.line split.joined
    c.in-Some.node own (omega (arith, split.shorter, c.lines.invariant.few)) in
    subst (λ (ns : List Node). Walked c.args.program.now (lines_of c.args.text.now) c.split_line.result.1.now (c.lines.place + 1) ns) (sym c.in_ok-push-in-Some.ensures.items) more

pub returns-clause-read : goal.returns-clause-read
returns-clause-read c = graph_walked c.args.program.now (lines_of c.args.text.now) c.lines.rest.now c.lines.place c.lines.nodes.items c.lines.invariant _ (eqb-true _ 0 (sym c.is_empty.ensures ∙ c.lines-test.false)) c.from_vec.ensures refl
