use Rattle.std.proofs.Common.{sym, ◌∙◌}
use Rattle.std.proofs.lemmas.Result.{err_from_is_err_and}
use Rattle.dactl_terminals.specs.declared.token.Sort.TheVariants as s
use Rattle.dactl_terminals.specs.Sort.{same_sort}
use Rattle.dactl_grammar.specs.Reader.{read_many}
use Rattle.dactl_terminals.specs.Reads.{by}
use Rattle.fun_syntax.specs.Reading.{equation_at, equations_at}
use Rattle.dactl_terminals.specs.Seen.{toks}
use Rattle.dactl_grammar.proofs.Loop.{goes_on, ends, is_done}
use Rattle.dactl_terminals.proofs.Steps.{less_left}
use Rattle.fun_syntax.proofs.Steps.{equation_shrinks}
use Rattle.fun_syntax.proofs.equations.equations.Goals as goal

pub returns-in_err-item : goal.returns-in_err-item
unfolding equations_at
returns-in_err-item c =
    let p = err_from_is_err_and c.from_residual.result c.from_residual.ensures.1 in
    rw (p.1, p.2) (ends (by (same_sort s.Upper)) (equation_at c.args.room) (equation_shrinks c.args.room) c.in_err-item.field-0.0 c.more.found (toks c.args.text.now c.more.rest.now)
    (read_many (by (same_sort s.Upper)) (equation_at c.args.room) (toks c.args.text.now c.args.tokens.now)) (sym (c.next_is.ensures c.args.text.now) ∙ c.more-test.true) c.in_err-item.ensures c.more.invariant)

pub more-smaller : goal.more-smaller
more-smaller c = less_left (equation_at c.args.room) (equation_shrinks c.args.room) c.args.text.now c.more.rest.now c.in_ok-item.after.now c.in_ok-item.item c.in_ok-item.ensures

pub more-preserved : goal.more-preserved
more-preserved c =
    rw c.in_ok-push.ensures.ok (goes_on (by (same_sort s.Upper)) (equation_at c.args.room) (equation_shrinks c.args.room) c.more.found (toks c.args.text.now c.more.rest.now) c.in_ok-item.item (toks c.args.text.now c.in_ok-item.after.now)
    (read_many (by (same_sort s.Upper)) (equation_at c.args.room) (toks c.args.text.now c.args.tokens.now)) (sym (c.next_is.ensures c.args.text.now) ∙ c.more-test.true) c.in_ok-item.ensures c.more.invariant)

pub returns : goal.returns
unfolding equations_at
returns c =
    is_done (by (same_sort s.Upper)) (equation_at c.args.room) (equation_shrinks c.args.room) c.more.found (toks c.args.text.now c.more.rest.now)
    (read_many (by (same_sort s.Upper)) (equation_at c.args.room) (toks c.args.text.now c.args.tokens.now)) (sym (c.next_is.ensures c.args.text.now) ∙ c.more-test.false) c.more.invariant
