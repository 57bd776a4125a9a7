use Rattle.std.proofs.lemmas.Result.{err_from_is_err_and}
use Rattle.fun_program.proofs.Compiled.{scope_wants, rules_answer, tree_spelled, no_scope_fault}
use Rattle.fun_program.proofs.compile.compile_equations.Goals as goal

pub returns-in_err-scopes-clause-answer : goal.returns-in_err-scopes-clause-answer
returns-in_err-scopes-clause-answer c =
    let told = err_from_is_err_and c.from_residual-in_err-scopes.result c.from_residual-in_err-scopes.ensures.1 in
    rw (told.1, told.2) (scope_wants c.args.text.now c.in_ok-equations.equations c.in_ok-tree.tree c.in_ok-equations.ensures c.in_ok-tree.ensures c.in_err-scopes.field-0.0 c.in_err-scopes.ensures.faults)

pub returns-clause-answer : goal.returns-clause-answer
returns-clause-answer c = rules_answer c.args.text.now c.in_ok-equations.equations c.in_ok-tree.tree c.in_ok-equations.ensures c.in_ok-tree.ensures c.program.result c.program.ensures.faults c.program.ensures.meaning

pub returns-clause-valid : goal.returns-clause-valid
returns-clause-valid c = c.program.ensures.valid
    (tree_spelled c.args.text.now c.in_ok-equations.equations c.in_ok-tree.tree c.in_ok-equations.ensures c.in_ok-tree.ensures)
    (no_scope_fault c.args.text.now c.in_ok-equations.equations c.in_ok-tree.tree c.in_ok-equations.ensures c.in_ok-tree.ensures)
