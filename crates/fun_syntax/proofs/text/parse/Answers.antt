use Rattle.std.proofs.Common.{◌≡◌, List, Ok, Err, sym, ap, subst, ◌∙◌, length}
use Rattle.dactl_terminals.specs.Answer.{refusal_of}
use Rattle.dactl_terminals.specs.Parts.{Tok}
use Rattle.dactl_terminals.specs.Seen.{toks}
use Rattle.fun_syntax.specs.Answer.{IsFirstFault}
use Rattle.fun_syntax.proofs.Answered.{read_found, read_only, never_both, none_found, read_fault, one_fault, as_tokens}
use Rattle.fun_syntax.proofs.text.parse.Goals as goal

pub returns-in-Ok-clause-found : goal.returns-in-Ok-clause-found
returns-in-Ok-clause-found c =
    read_found c.args.text.now c.args.tokens.now c.in-Ok.found (as_tokens c.args.text.now c.args.tokens.now c.in_ok-terminals.terminals.items c.as_slice.result.now (Ok c.in-Ok.found) c.as_slice.ensures.value c.in_ok-terminals.ensures c.in-Ok.ensures)

pub returns-in-Ok-clause-only : goal.returns-in-Ok-clause-only
returns-in-Ok-clause-only c =
    read_only c.args.text.now c.args.tokens.now c.in-Ok.found (as_tokens c.args.text.now c.args.tokens.now c.in_ok-terminals.terminals.items c.as_slice.result.now (Ok c.in-Ok.found) c.as_slice.ensures.value c.in_ok-terminals.ensures c.in-Ok.ensures)

pub returns-in-Ok-clause-only_refused : goal.returns-in-Ok-clause-only_refused
returns-in-Ok-clause-only_refused c =
    never_both c.args.text.now c.args.tokens.now c.in-Ok.found (as_tokens c.args.text.now c.args.tokens.now c.in_ok-terminals.terminals.items c.as_slice.result.now (Ok c.in-Ok.found) c.as_slice.ensures.value c.in_ok-terminals.ensures c.in-Ok.ensures)

pub returns-clause-only : goal.returns-clause-only
returns-clause-only c =
    none_found c.args.text.now c.args.tokens.now c.in-Err-Fault.fault (as_tokens c.args.text.now c.args.tokens.now c.in_ok-terminals.terminals.items c.as_slice.result.now (Err c.in-Err-Fault.fault) c.as_slice.ensures.value c.in_ok-terminals.ensures (rw c.in-Err-Fault.field-0-is at c.in-Err-Fault.ensures))

pub returns-clause-refused : goal.returns-clause-refused
returns-clause-refused c = λ r e.
    let read = as_tokens c.args.text.now c.args.tokens.now c.in_ok-terminals.terminals.items c.as_slice.result.now (Err c.in-Err-Fault.fault) c.as_slice.ensures.value c.in_ok-terminals.ensures (rw c.in-Err-Fault.field-0-is at c.in-Err-Fault.ensures) in
    let seen = ap (toks c.args.text.now) c.as_slice-in-Err-Fault.ensures.value ∙ c.in_ok-terminals.ensures in
    let same : c.refusal_of-refusal.result ≡ r = cc in
    subst (IsFirstFault c.args.text.now c.args.tokens.now) (sym (c.refusal_of-refusal.ensures ∙ ap (λ (l : List Tok). refusal_of (length c.args.text.now) l c.in-Err-Fault.fault) seen) ∙ same) (read_fault c.args.text.now c.args.tokens.now c.in-Err-Fault.fault read)

pub returns-clause-only_refused : goal.returns-clause-only_refused
returns-clause-only_refused c = λ r w.
    let read = as_tokens c.args.text.now c.args.tokens.now c.in_ok-terminals.terminals.items c.as_slice.result.now (Err c.in-Err-Fault.fault) c.as_slice.ensures.value c.in_ok-terminals.ensures (rw c.in-Err-Fault.field-0-is at c.in-Err-Fault.ensures) in
    let seen = ap (toks c.args.text.now) c.as_slice-in-Err-Fault.ensures.value ∙ c.in_ok-terminals.ensures in
    c.refusal_of-refusal.ensures ∙ ap (λ (l : List Tok). refusal_of (length c.args.text.now) l c.in-Err-Fault.fault) seen ∙ one_fault c.args.text.now c.args.tokens.now c.in-Err-Fault.fault read r w
