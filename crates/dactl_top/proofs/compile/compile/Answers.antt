use Rattle.std.proofs.Common.{Err, ap, subst}
use Rattle.std.proofs.lemmas.Result.{err_from_is_err_and}
use Rattle.dactl_syntax.specs.Answer.{IsTree}
use Rattle.dactl_syntax.proofs.Spelled.{trees_are_spelled}
use Rattle.dactl_top.proofs.Compiled.{Scanned, Parsed, scanned, parsed, token_fault, grammar_fault, scope_fault, rules_answer}
use Rattle.dactl_top.proofs.compile.compile.Goals as goal

pub returns-in_err-found-clause-answer : goal.returns-in_err-found-clause-answer
returns-in_err-found-clause-answer c =
    let told = err_from_is_err_and c.from_residual.result c.from_residual.ensures.1 in
    rw (told.1, told.2) (token_fault c.args.text.now c.in_err-found.field-0.0 (λ r is. c.in_err-found.ensures.refused r (ap (λ f. Err f) is)) c.in_err-found.ensures.only c.in_err-found.ensures.only_refused)

pub returns-in_err-tree-clause-answer : goal.returns-in_err-tree-clause-answer
returns-in_err-tree-clause-answer c =
    let told = err_from_is_err_and c.from_residual-in_err-tree.result c.from_residual-in_err-tree.ensures.1 in
    let scan : Scanned c.args.text.now c.as_slice.result.now = scanned c.args.text.now c.as_slice.result.now c.in_ok-found.found c.as_slice.ensures.value c.in_ok-found.ensures.found c.in_ok-found.ensures.only c.in_ok-found.ensures.only_refused in
    rw (told.1, told.2)
    (grammar_fault c.args.text.now c.as_slice.result.now c.in_err-tree.field-0.0 scan (λ r is. c.in_err-tree.ensures.refused r (ap (λ f. Err f) is)) c.in_err-tree.ensures.only c.in_err-tree.ensures.only_refused)

pub returns-clause-answer : goal.returns-clause-answer
returns-clause-answer c =
    let scan : Scanned c.args.text.now c.as_slice.result.now = scanned c.args.text.now c.as_slice.result.now c.in_ok-found.found c.as_slice.ensures.value c.in_ok-found.ensures.found c.in_ok-found.ensures.only c.in_ok-found.ensures.only_refused in
    let parse : Parsed c.args.text.now c.in_ok-tree.tree = parsed c.args.text.now c.as_slice.result.now c.in_ok-tree.tree scan c.in_ok-tree.ensures.found c.in_ok-tree.ensures.only c.in_ok-tree.ensures.only_refused in
    scope_fault c.args.text.now c.in_ok-tree.tree _ parse c.in-Err.ensures.faults

pub returns-in-Ok-clause-answer : goal.returns-in-Ok-clause-answer
returns-in-Ok-clause-answer c =
    let scan : Scanned c.args.text.now c.as_slice.result.now = scanned c.args.text.now c.as_slice.result.now c.in_ok-found.found c.as_slice.ensures.value c.in_ok-found.ensures.found c.in_ok-found.ensures.only c.in_ok-found.ensures.only_refused in
    let parse : Parsed c.args.text.now c.in_ok-tree.tree = parsed c.args.text.now c.as_slice.result.now c.in_ok-tree.tree scan c.in_ok-tree.ensures.found c.in_ok-tree.ensures.only c.in_ok-tree.ensures.only_refused in
    rules_answer c.args.text.now c.in_ok-tree.tree c.program.result parse c.in-Ok.ensures.faults c.program.ensures.faults c.program.ensures.meaning

pub returns-in-Ok-clause-valid : goal.returns-in-Ok-clause-valid
returns-in-Ok-clause-valid c =
    let tree : IsTree c.args.text.now c.in_ok-found.found.items c.in_ok-tree.tree = subst (λ x. IsTree c.args.text.now x c.in_ok-tree.tree) c.as_slice.ensures.value c.in_ok-tree.ensures.found in
    c.program.ensures.valid (trees_are_spelled c.args.text.now c.in_ok-tree.tree (record { tokens = c.in_ok-found.found.items; lexes = c.in_ok-found.ensures.found; is_tree = tree })) c.in-Ok.ensures.faults
