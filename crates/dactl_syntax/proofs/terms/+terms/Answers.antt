use Rattle.std.proofs.Common.{rules, sym, ◌∙◌, arith}
use Rattle.std.proofs.lemmas.Grind.{common_steps}
use Rattle.std.proofs.lemmas.Result.{err_from_is_err_and}
use Rattle.dactl_syntax.specs.Sort.{starts_arg}
use Rattle.dactl_grammar.specs.Reader.{read_many}
use Rattle.dactl_terminals.specs.Reads.{by}
use Rattle.dactl_syntax.specs.Reading.{arg_at}
use Rattle.dactl_terminals.specs.Seen.{toks}
use Rattle.dactl_grammar.proofs.Loop.{goes_on, ends, is_done}
use Rattle.dactl_terminals.proofs.Steps.{less_left}
use Rattle.dactl_syntax.proofs.Steps.{arg_shrinks, args_step}
use Rattle.dactl_syntax.proofs.terms.+terms.Goals as goal

pub arg_list-returns-in_err-arg : goal.arg_list-returns-in_err-arg
arg_list-returns-in_err-arg t c =
    let p = err_from_is_err_and c.from_residual.result c.from_residual.ensures.1 in
    rw (p.1, p.2) (ends (by starts_arg) (arg_at c.args.room) (arg_shrinks c.args.room) c.in_err-arg.field-0.0 c.more.args.items (toks c.args.text.now c.more.rest.now)
    (read_many (by starts_arg) (arg_at c.args.room) (toks c.args.text.now c.args.tokens.now)) (sym (c.starts_arg.ensures c.args.text.now) ∙ c.more-test.true) c.in_err-arg.ensures c.more.invariant)

pub arg_list-more-smaller : goal.arg_list-more-smaller
arg_list-more-smaller t c = less_left (arg_at c.args.room) (arg_shrinks c.args.room) c.args.text.now c.more.rest.now c.in_ok-arg.after.now c.in_ok-arg.arg c.in_ok-arg.ensures

pub arg_list-more-preserved : goal.arg_list-more-preserved
arg_list-more-preserved t c =
    rw c.in_ok-push.ensures.items (goes_on (by starts_arg) (arg_at c.args.room) (arg_shrinks c.args.room) c.more.args.items (toks c.args.text.now c.more.rest.now) c.in_ok-arg.arg (toks c.args.text.now c.in_ok-arg.after.now)
    (read_many (by starts_arg) (arg_at c.args.room) (toks c.args.text.now c.args.tokens.now)) (sym (c.starts_arg.ensures c.args.text.now) ∙ c.more-test.true) c.in_ok-arg.ensures c.more.invariant)

pub arg_list-returns : goal.arg_list-returns
arg_list-returns t c =
    rw (c.from_vec.ensures, c.shrink_to_fit.ensures.items) (is_done (by starts_arg) (arg_at c.args.room) (arg_shrinks c.args.room) c.more.args.items (toks c.args.text.now c.more.rest.now)
    (read_many (by starts_arg) (arg_at c.args.room) (toks c.args.text.now c.args.tokens.now)) (sym (c.starts_arg.ensures c.args.text.now) ∙ c.more-test.false) c.more.invariant)

pub args-returns-in_err-args : goal.args-returns-in_err-args
args-returns-in_err-args t c =
    let e = args_step c.args.room (omega arith) (toks c.args.text.now c.args.tokens.now) in
    first_of (search rules, grind (arith, common_steps))

pub args-returns-in_err-rest-2 : goal.args-returns-in_err-rest-2
args-returns-in_err-rest-2 t c =
    let e = args_step c.args.room (omega arith) (toks c.args.text.now c.args.tokens.now) in
    first_of (search rules, grind (arith, common_steps))

pub args-returns : goal.args-returns
args-returns t c =
    let e = args_step c.args.room (omega arith) (toks c.args.text.now c.args.tokens.now) in
    first_of (search rules, grind (arith, common_steps))
