use Rattle.std.proofs.Common.{◌≡◌, ◌-◌, ℕ, [], ◌∷◌, ◌++◌, length, Ok, sym, ap, ◌∙◌, arith, length-append}
use Rattle.dactl_terminals.specs.declared.token.Sort.TheVariants.{Hash}
use Rattle.dactl_terminals.specs.Sort.{same_sort}
use Rattle.dactl_grammar.specs.Reader.{read_many}
use Rattle.dactl_terminals.specs.Reads.{by, read_sign}
use Rattle.dactl_syntax.specs.Reading.{hashes_at}
use Rattle.dactl_terminals.specs.Seen.{toks, seen}
use Rattle.dactl_grammar.proofs.Loop.{goes_on, is_done, read_ok}
use Rattle.dactl_syntax.proofs.Steps.{hash_shrinks, one_left}
use Rattle.dactl_syntax.proofs.terms.hashes.Goals as goal

pub more-preserved : goal.more-preserved
more-preserved c =
    let text = c.args.text.now in
    let tok = seen text c.in_ok-after.field-0-0 in
    let read : read_sign Hash (toks text c.more.rest.now) ≡ Ok (tok, toks text c.in_ok-after.after.now) = c.in_ok-after.ensures in
    let one = one_left text c.more.rest.now c.in_ok-after.after.now tok read in
    let len = length-append c.more.invariant.0 (tok ∷ []) in (
      c.more.invariant.0 ++ tok ∷ [],
      goes_on (by (same_sort Hash)) (read_sign Hash) hash_shrinks c.more.invariant.0 (toks text c.more.rest.now) tok (toks text c.in_ok-after.after.now)
          (read_many (by (same_sort Hash)) (read_sign Hash) (toks text c.args.tokens.now)) (sym (c.next_is.ensures text) ∙ c.more-test.true) read c.more.invariant.1,
      omega arith,
    )

pub returns-clause-value : goal.returns-clause-value
unfolding hashes_at
returns-clause-value c =
    let text = c.args.text.now in
    let n : length c.more.invariant.0 ≡ length c.args.tokens.now - length c.more.rest.now = omega arith in
    let all = is_done (by (same_sort Hash)) (read_sign Hash) hash_shrinks c.more.invariant.0 (toks text c.more.rest.now)
    (read_many (by (same_sort Hash)) (read_sign Hash) (toks text c.args.tokens.now)) (sym (c.next_is.ensures text) ∙ c.more-test.false) c.more.invariant.1 in
    rw all (ap (λ (k : ℕ). read_ok (k, toks text c.more.rest.now)) n)
