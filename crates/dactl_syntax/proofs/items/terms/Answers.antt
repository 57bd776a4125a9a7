use Rattle.std.proofs.Common.{sym, ◌∙◌}
use Rattle.std.proofs.lemmas.Result.{err_from_is_err_and}
use Rattle.dactl_terminals.proofs.Steps.{part_less, part_found, part_fails, all_found}
use Rattle.dactl_syntax.proofs.ModuleLaws.{firm_comma_term}
use Rattle.dactl_syntax.proofs.items.terms.Goals as goal

pub returns-in_err-item : goal.returns-in_err-item
returns-in_err-item c =
    let p = err_from_is_err_and c.from_residual-in_err-item.result c.from_residual-in_err-item.ensures.1 in
    rw (p.1, p.2) (part_fails (firm_comma_term c.args.room) c.more.invariant _ (sym (c.next_is.ensures c.args.text.now) ∙ c.more-test.true) c.in_err-item.ensures)

pub more-smaller : goal.more-smaller
more-smaller c = part_less (firm_comma_term c.args.room) c.more.invariant _ _ c.in_ok-item.ensures

pub more-preserved : goal.more-preserved
more-preserved c = rw c.in_ok-push-2.ensures.ok (part_found (firm_comma_term c.args.room) c.more.invariant _ _ (sym (c.next_is.ensures c.args.text.now) ∙ c.more-test.true) c.in_ok-item.ensures)

pub returns : goal.returns
returns c = all_found (firm_comma_term c.args.room) c.more.invariant (sym (c.next_is.ensures c.args.text.now) ∙ c.more-test.false)
