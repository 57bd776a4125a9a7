use Rattle.std.proofs.Common.{Err, Vec, Global, ap, arith}
use Rattle.std.proofs.lemmas.Result.{err_from_is_err_and}
use Rattle.std.proofs.lemmas.Grind.{common_steps}
use Rattle.dactl_tokens.specs.declared.token.Token.{Token}
use Rattle.dactl_tokens.proofs.Reading.{read_more, left_less, read_all, read_refused, lexes_once, never_both, fault_only, fault_only_refused}
use Rattle.dactl_tokens.proofs.scan.tokens.Goals as goal

pub returns-in_err-token-clause-only : goal.returns-in_err-token-clause-only
returns-in_err-token-clause-only c = λ ts a.
    let p = err_from_is_err_and c.from_residual-in_err-token.result c.from_residual-in_err-token.ensures.1 in
    rw (p.1, p.2) (fault_only {X = Vec Token Global} (λ found. found.items) c.args.text.now c.in_err-token.field-0.0 (λ r e. read_refused c.language-wide.result.0 c.args.text.now c.token.found.items c.token.rest.now r c.language-wide.ensures.wide c.token.invariant (c.in_err-token.ensures.fault r (ap Err e))) ts a)

pub returns-in_err-token-clause-only_refused : goal.returns-in_err-token-clause-only_refused
returns-in_err-token-clause-only_refused c = λ r a.
    let p = err_from_is_err_and c.from_residual-in_err-token.result c.from_residual-in_err-token.ensures.1 in
    rw (p.1, p.2) (fault_only_refused (Vec Token Global) c.args.text.now c.in_err-token.field-0.0 (λ s e. read_refused c.language-wide.result.0 c.args.text.now c.token.found.items c.token.rest.now s c.language-wide.ensures.wide c.token.invariant (c.in_err-token.ensures.fault s (ap Err e))) r a)

pub token-smaller : goal.token-smaller
token-smaller c = left_less c.language-wide.result.0 c.token.rest.now c.in_ok-token.after.now c.skip_gap-rest-in-token.result.now _ c.in_ok-token.token c.in_ok-token.ensures.token c.skip_gap-rest-in-token.ensures.skips

pub token-preserved : goal.token-preserved
token-preserved c =
    rw c.in_ok-push-2.ensures.items (read_more c.language-wide.result.0 c.args.text.now c.token.found.items c.token.rest.now c.in_ok-token.after.now c.skip_gap-rest-in-token.result.now c.in_ok-token.token c.language-wide.ensures.wide c.token.invariant c.in_ok-token.ensures.token c.skip_gap-rest-in-token.ensures.skips c.skip_gap-rest-in-token.ensures.halts)

pub returns-clause-only : goal.returns-clause-only
returns-clause-only c = λ ts a. lexes_once c.args.text.now c.token.found.items ts (read_all c.args.text.now c.token.found.items c.token.rest.now c.token.invariant (grind (arith, common_steps))) a

pub returns-clause-only_refused : goal.returns-clause-only_refused
returns-clause-only_refused c = λ r a. never_both c.args.text.now c.token.found.items r (read_all c.args.text.now c.token.found.items c.token.rest.now c.token.invariant (grind (arith, common_steps))) a
