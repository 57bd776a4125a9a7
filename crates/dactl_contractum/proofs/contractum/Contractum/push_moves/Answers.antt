use Rattle.std.proofs.Common.{ℕ, List, [], ◌∷◌, ◌++◌, take, map, get_or, ap, sym, ◌∙◌, Option}
use Rattle.std.proofs.lemmas.List.{append-nil}
use Rattle.dactl_model.specs.declared.program.Mention.{Mention}
use Rattle.dactl_model.specs.declared.program.Left.TheVariants.{Variable}
use Rattle.dactl_model.specs.declared.program.Move.{Move}
use Rattle.dactl_meaning.specs.declared.tree.Name.{Name}
use Rattle.dactl_meaning.specs.Expansion.{number_in}
use Rattle.dactl_meaning.specs.Contractum.{left_of_part, denotes}
use Rattle.dactl_contractum.specs.declared.drawing.Target.{Target}
use Rattle.dactl_contractum.specs.declared.drawing.Target.TheVariants as target
use Rattle.dactl_contractum.specs.Drawing.{target_of, made_in}
use Rattle.dactl_contractum.specs.Meant.{move_by, moves_by}
use Rattle.dactl_contractum.proofs.Meanings.{moves_more, push_step}
use Rattle.dactl_contractum.proofs.contractum.Contractum.push_moves.Goals as goal
use Rattle.dactl_contractum.proofs.contractum.Contractum.push_moves.Goals.{in-Redirect+in_ok-push, in_default}

pub loop-number-preserved : goal.loop-number-preserved
loop-number-preserved c =
    let variables = c.args.variables.now in
    let made = made_in c.args.self.now.drawing in
    let targets = c.args.self.now.targets.items in
    let before = moves_by variables made (take c.loop-number.number c.args.parts.now) (map target_of (take c.loop-number.number targets)) in
    elim c.match-part.branch [
      | in-Redirect+in_ok-push b ↦
          let t = get_or targets c.loop-number.number b.index.result.now in
          let moved : ℕ → Mention → List Move = λ n m. c.loop-number.moves.items ++ record { from = Variable n; to = m } ∷ [] in
          let more = moves_more variables made target_of c.args.parts.now targets c.loop-number.number c.index-parts-number.result b.index.result.now c.loop-number-test.true c.requires.parts c.index-parts-number.is in
          let step = ap (λ (z : _). z.items) b.moves-is ∙ b.in_ok-push.ensures.items
          ∙ ap (λ (n : ℕ). moved n b.meant-to.result) (b.number_of.ensures ∙ ap (number_in variables) b.as_slice.ensures)
          ∙ ap (moved (number_in variables b.in-Redirect.left.text)) (b.meant-to.ensures ∙ ap (λ (z : Target). denotes variables made (target_of z)) b.index.ensures)
          ∙ ap (λ (o : Option Name). c.loop-number.moves.items ++ move_by variables made o (target_of t)) (sym (ap left_of_part b.in-Redirect.is)) in
          push_step c.args.moves.now.items before (move_by variables made (left_of_part c.index-parts-number.result) (target_of t)) c.loop-number.moves.items c.match-part.moves.items _ step c.loop-number.invariant more
      | in_default b ↦
          let t = get_or targets c.loop-number.number (target.Made 0) in
          let more = moves_more variables made target_of c.args.parts.now targets c.loop-number.number c.index-parts-number.result (target.Made 0) c.loop-number-test.true c.requires.parts c.index-parts-number.is in
          let step = ap (λ (z : _). z.items) b.moves-is ∙ sym (append-nil c.loop-number.moves.items)
          ∙ ap (λ (o : Option Name). c.loop-number.moves.items ++ move_by variables made o (target_of t)) (sym (ap left_of_part b.in_default.is)) in
          push_step c.args.moves.now.items before (move_by variables made (left_of_part c.index-parts-number.result) (target_of t)) c.loop-number.moves.items c.match-part.moves.items _ step c.loop-number.invariant more
    ]
