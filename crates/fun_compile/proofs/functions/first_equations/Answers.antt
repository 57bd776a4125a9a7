use Rattle.std.proofs.Common.{◌≡◌, ◌+◌, ◌∷◌, ◌++◌, [], List, drop, sym, ap, ◌∙◌}
use Rattle.std.specs.Prelude.{not}
use Rattle.std.specs.List.{filter}
use Rattle.std.proofs.lemmas.List.{map-append}
use Rattle.fun_meaning.specs.declared.tree.Equation.{Equation}
use Rattle.fun_meaning.specs.Functions.{first_ones}
use Rattle.fun_compile.specs.Knowing.{has_name, told}
use Rattle.fun_compile.proofs.FirstOnes.{is_new, first_begin, first_new, first_again}
use Rattle.fun_compile.proofs.functions.first_equations.Goals as goal
use Rattle.fun_compile.proofs.functions.first_equations.Goals.{then-branch+in_ok-push, else-branch}

pub loop-equation-init : goal.loop-equation-init
loop-equation-init c = first_begin c.new-heads.result (told c.new-firsts.result.items) c.args.equations.now (ap told c.new-firsts.ensures.items) c.new-heads.ensures.empty

pub loop-equation-preserved : goal.loop-equation-preserved
loop-equation-preserved c =
    let equations : List Equation = c.args.equations.now in
    let i = c.loop-equation.equation-index in
    let x : Equation = c.equation-item.result in
    let firsts : List Equation = told c.loop-equation.firsts.items in
    let rest : List Equation = filter (is_new c.insert.new.self) (first_ones (drop (i + 1) equations)) in
    let added : is_new c.loop-equation.heads x ≡ c.in_ok-insert.field-0 = ap (λ k. not (has_name c.loop-equation.heads k)) (sym c.as_slice.ensures) ∙ sym c.in_ok-insert.ensures.added in
    elim c.if-branch.branch [
      | then-branch+in_ok-push w ↦
          let longer : told c.if-branch.firsts.items ≡ firsts ++ x ∷ [] = ap told ((cc) ∙ w.in_ok-push.ensures.items) ∙ map-append (λ q. q.now) c.loop-equation.firsts.items _ in
          ap (λ f. f ++ rest) longer
          ∙ first_new equations i x c.loop-equation.heads c.insert.new.self c.as_slice.result firsts (first_ones equations) c.loop-equation-test.true c.equation-item.is c.as_slice.ensures c.in_ok-insert.ensures.updates c.loop-equation.invariant (added ∙ w.if-branch.true)
      | else-branch w ↦
          let same : told c.if-branch.firsts.items ≡ firsts = ap told (cc) in
          ap (λ f. f ++ rest) same
          ∙ first_again equations i x c.loop-equation.heads c.insert.new.self c.as_slice.result firsts (first_ones equations) c.loop-equation-test.true c.equation-item.is c.as_slice.ensures c.in_ok-insert.ensures.updates c.loop-equation.invariant (added ∙ w.if-branch.false)
    ]
