use Rattle.std.proofs.Common.{sym, ◌∙◌}
use Rattle.std.proofs.lemmas.Result.{err_from_is_err_and}
use Rattle.fun_syntax.specs.Reading.{data_at, constructors_at}
use Rattle.dactl_terminals.specs.Seen.{toks}
use Rattle.dactl_terminals.proofs.Steps.{less_left}
use Rattle.fun_syntax.proofs.Steps.{data_shrinks, more_data, bad_data, no_data, from_none}
use Rattle.fun_syntax.proofs.equations.constructors.Goals as goal

pub more-init : goal.more-init
more-init c = rw c.new-found.ensures (from_none (toks c.args.text.now c.args.tokens.now))

pub returns-in_err-names : goal.returns-in_err-names
returns-in_err-names c =
    let p = err_from_is_err_and c.from_residual.result c.from_residual.ensures.1 in
    rw (p.1, p.2) (bad_data c.in_err-names.field-0.0 c.more.found (toks c.args.text.now c.more.rest.now)
    (constructors_at (toks c.args.text.now c.args.tokens.now)) (sym (c.next_is.ensures c.args.text.now) ∙ c.more-test.true) c.in_err-names.ensures c.more.invariant)

pub more-smaller : goal.more-smaller
more-smaller c = less_left data_at data_shrinks c.args.text.now c.more.rest.now c.in_ok-names.after.now c.in_ok-names.names c.in_ok-names.ensures

pub more-preserved : goal.more-preserved
more-preserved c =
    rw c.in_ok-append.ensures (more_data c.more.found (toks c.args.text.now c.more.rest.now) (toks c.args.text.now c.in_ok-names.after.now) c.in_ok-names.names
    (constructors_at (toks c.args.text.now c.args.tokens.now)) (sym (c.next_is.ensures c.args.text.now) ∙ c.more-test.true) c.in_ok-names.ensures c.more.invariant)

pub returns : goal.returns
returns c =
    no_data c.more.found (toks c.args.text.now c.more.rest.now)
    (constructors_at (toks c.args.text.now c.args.tokens.now)) (sym (c.next_is.ensures c.args.text.now) ∙ c.more-test.false) c.more.invariant
