use Rattle.std.proofs.Common.{true, false, sym, ◌∙◌}
use Rattle.dactl_symbols.specs.Meanings.{meaning_in}
use Rattle.dactl_symbols.specs.UseFaults.{use_at}
use Rattle.dactl_symbols.proofs.Used.{use_fault-known, hidden_or_none}
use Rattle.dactl_symbols.proofs.uses.use_fault.Goals as goal

pub returns-then-is_some : goal.returns-then-is_some
returns-then-is_some c =
    let u = use_at c.args.name.now c.args.given in
    hidden_or_none c.seen.result u true (sym c.is_some.ensures ∙ c.if-is_some.true)
    ∙ use_fault-known c.args.scopes.now c.args.owner u c.in-Some.meaning c.seen.result (c.in-Some.ensures ∙ (λ j. meaning_in (c.names.ensures j) (c.as_slice.ensures j))) (sym c.is_known.ensures ∙ c.if-not-is_known.false) c.seen.ensures

pub returns : goal.returns
returns c =
    let u = use_at c.args.name.now c.args.given in
    hidden_or_none c.seen.result u false (sym c.is_some.ensures ∙ c.if-is_some.false)
    ∙ use_fault-known c.args.scopes.now c.args.owner u c.in-Some.meaning c.seen.result (c.in-Some.ensures ∙ (λ j. meaning_in (c.names.ensures j) (c.as_slice.ensures j))) (sym c.is_known.ensures ∙ c.if-not-is_known.false) c.seen.ensures
