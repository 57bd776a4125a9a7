use Rattle.std.proofs.Common.{Err, sym, ap, ◌∙◌}
use Rattle.std.proofs.lemmas.Result.{err_from_is_err_and}
use Rattle.fun_syntax.proofs.Whole.{Scanned, Parsed, scanned, parsed, token_fault, grammar_fault, name_fault, no_fault}
use Rattle.fun_syntax.proofs.read.read_fun.Goals as goal

pub returns-in_err-tokens : goal.returns-in_err-tokens
returns-in_err-tokens c =
    let told = err_from_is_err_and c.from_residual.result c.from_residual.ensures.1 in
    rw (told.1, told.2) (token_fault c.args.text.now c.in_err-tokens.field-0.0 (λ r is. c.in_err-tokens.ensures.refused r (ap (λ f. Err f) is)) c.in_err-tokens.ensures.only c.in_err-tokens.ensures.only_refused)

pub returns-in_err-found : goal.returns-in_err-found
returns-in_err-found c =
    let told = err_from_is_err_and c.from_residual-in_err-found.result c.from_residual-in_err-found.ensures.1 in
    let scan : Scanned c.args.text.now c.as_slice.result.now = scanned c.args.text.now c.as_slice.result.now c.in_ok-tokens.tokens c.as_slice.ensures.value c.in_ok-tokens.ensures.found c.in_ok-tokens.ensures.only c.in_ok-tokens.ensures.only_refused in
    rw (told.1, told.2)
    (grammar_fault c.args.text.now c.as_slice.result.now c.in_err-found.field-0.0 scan (λ r is. c.in_err-found.ensures.refused r (ap (λ f. Err f) is)) c.in_err-found.ensures.only c.in_err-found.ensures.only_refused)

pub returns-in-None : goal.returns-in-None
returns-in-None c =
    let scan : Scanned c.args.text.now c.as_slice.result.now = scanned c.args.text.now c.as_slice.result.now c.in_ok-tokens.tokens c.as_slice.ensures.value c.in_ok-tokens.ensures.found c.in_ok-tokens.ensures.only c.in_ok-tokens.ensures.only_refused in
    let parse : Parsed c.args.text.now c.in_ok-found.found = parsed c.args.text.now c.as_slice.result.now c.in_ok-found.found scan c.in_ok-found.ensures.found c.in_ok-found.ensures.only c.in_ok-found.ensures.only_refused in
    no_fault c.args.text.now c.in_ok-found.found parse (sym c.in-None.is ∙ c.in_ok-first_fault.ensures)

pub returns : goal.returns
returns c =
    let scan : Scanned c.args.text.now c.as_slice.result.now = scanned c.args.text.now c.as_slice.result.now c.in_ok-tokens.tokens c.as_slice.ensures.value c.in_ok-tokens.ensures.found c.in_ok-tokens.ensures.only c.in_ok-tokens.ensures.only_refused in
    let parse : Parsed c.args.text.now c.in_ok-found.found = parsed c.args.text.now c.as_slice.result.now c.in_ok-found.found scan c.in_ok-found.ensures.found c.in_ok-found.ensures.only c.in_ok-found.ensures.only_refused in
    name_fault c.args.text.now c.in_ok-found.found c.in-Some.refusal parse (sym c.in-Some.is ∙ c.in_ok-first_fault.ensures)
