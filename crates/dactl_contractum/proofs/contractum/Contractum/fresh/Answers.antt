use Rattle.std.proofs.Common.{◌≤◌, List, [], ◌∷◌, ◌++◌, length, map, ap, sym, ◌∙◌, arith}
use Rattle.std.proofs.lemmas.List.{take_all}
use Rattle.dactl_contractum.specs.declared.drawing.Sketch.{Sketch}
use Rattle.dactl_contractum.specs.Drawing.{sketch_of, made_in}
use Rattle.dactl_contractum.specs.Meant.{nodes_with}
use Rattle.dactl_contractum.proofs.Meanings.{nodes_more}
use Rattle.dactl_contractum.proofs.contractum.Contractum.fresh.Goals as goal

pub loop-number-preserved : goal.loop-number-preserved
loop-number-preserved c =
    nodes_more c.args.variables.now (made_in c.args.self.now.drawing) sketch_of c.as_slice-sketch-items.result.now c.args.symbols.now c.loop-number.number c.sketch-item.result c.loop-number.fresh.items c.push.new.self.items
    c.loop-number-test.true (c.requires.symbols ∙ ap length (sym c.as_slice-sketch-items.ensures.value)) c.sketch-item.is c.loop-number.invariant
    (c.in_ok-push.ensures.items ∙ ap (λ (n : _). c.loop-number.fresh.items ++ n ∷ []) c.in_ok-node.ensures)

pub returns : goal.returns
returns c =
    let made = made_in c.args.self.now.drawing in
    let many : length c.args.symbols.now ≤ c.loop-number.number = omega (arith, c.requires.symbols, ap length c.as_slice-sketch-items.ensures.value, c.loop-number-test.false) in
    c.from_vec.ensures ∙ c.loop-number.invariant
    ∙ (λ j. nodes_with c.args.variables.now made (map sketch_of (take_all c.loop-number.number c.as_slice-sketch-items.result.now c.loop-number-test.false j)) (take_all c.loop-number.number c.args.symbols.now many j))
    ∙ ap (λ (l : List Sketch). nodes_with c.args.variables.now made (map sketch_of l) c.args.symbols.now) c.as_slice-sketch-items.ensures.value
