use Rattle.std.proofs.Common.{rules, sym, ◌∙◌, arith}
use Rattle.std.proofs.lemmas.Grind.{common_steps}
use Rattle.std.proofs.lemmas.Result.{err_from_is_err_and}
use Rattle.dactl_syntax.specs.Sort.{starts_piece, is_sign}
use Rattle.dactl_terminals.specs.Reads.{by}
use Rattle.dactl_syntax.specs.Reading.{piece_reads, link_at, pieces_at, links_at}
use Rattle.dactl_terminals.specs.Seen.{toks}
use Rattle.dactl_grammar.proofs.Loop.{goes_on, ends, is_done}
use Rattle.dactl_terminals.proofs.Steps.{less_left}
use Rattle.dactl_syntax.proofs.PatternSteps.{piece_shrinks, link_shrinks, squares_step, rounds_step}
use Rattle.dactl_syntax.proofs.patterns.+patterns.Goals as goal

pub pieces-returns-in_err-item : goal.pieces-returns-in_err-item
unfolding pieces_at
pieces-returns-in_err-item t c =
    let p = err_from_is_err_and c.from_residual.result c.from_residual.ensures.1 in
    rw (p.1, p.2) (ends (by starts_piece) (piece_reads c.args.room) (piece_shrinks c.args.room) c.in_err-item.field-0.0 c.more.found.items (toks c.args.text.now c.more.rest.now)
    (pieces_at c.args.room (toks c.args.text.now c.args.tokens.now)) (sym (c.starts_piece.ensures c.args.text.now) ∙ c.more-test.true) c.in_err-item.ensures c.more.invariant)

pub pieces-more-smaller : goal.pieces-more-smaller
pieces-more-smaller t c = less_left (piece_reads c.args.room) (piece_shrinks c.args.room) c.args.text.now c.more.rest.now c.in_ok-item.after.now c.in_ok-item.item c.in_ok-item.ensures

pub pieces-more-preserved : goal.pieces-more-preserved
unfolding pieces_at
pieces-more-preserved t c =
    rw c.in_ok-push.ensures.items (goes_on (by starts_piece) (piece_reads c.args.room) (piece_shrinks c.args.room) c.more.found.items (toks c.args.text.now c.more.rest.now) c.in_ok-item.item (toks c.args.text.now c.in_ok-item.after.now)
    (pieces_at c.args.room (toks c.args.text.now c.args.tokens.now)) (sym (c.starts_piece.ensures c.args.text.now) ∙ c.more-test.true) c.in_ok-item.ensures c.more.invariant)

pub pieces-returns : goal.pieces-returns
unfolding pieces_at
pieces-returns t c =
    rw (c.from_vec.ensures, c.shrink_to_fit.ensures.items) (is_done (by starts_piece) (piece_reads c.args.room) (piece_shrinks c.args.room) c.more.found.items (toks c.args.text.now c.more.rest.now)
    (pieces_at c.args.room (toks c.args.text.now c.args.tokens.now)) (sym (c.starts_piece.ensures c.args.text.now) ∙ c.more-test.false) c.more.invariant)

pub links-returns-in_err-item : goal.links-returns-in_err-item
unfolding links_at
links-returns-in_err-item t c =
    let p = err_from_is_err_and c.from_residual.result c.from_residual.ensures.1 in
    rw (p.1, p.2) (ends (by is_sign) (link_at c.args.room) (link_shrinks c.args.room) c.in_err-item.field-0.0 c.more.found (toks c.args.text.now c.more.rest.now)
    (links_at c.args.room (toks c.args.text.now c.args.tokens.now)) (sym (c.is_sign.ensures c.args.text.now) ∙ c.more-test.true) c.in_err-item.ensures c.more.invariant)

pub links-more-smaller : goal.links-more-smaller
links-more-smaller t c = less_left (link_at c.args.room) (link_shrinks c.args.room) c.args.text.now c.more.rest.now c.in_ok-item.after.now c.in_ok-item.item c.in_ok-item.ensures

pub links-more-preserved : goal.links-more-preserved
unfolding links_at
links-more-preserved t c =
    rw c.in_ok-push.ensures.ok (goes_on (by is_sign) (link_at c.args.room) (link_shrinks c.args.room) c.more.found (toks c.args.text.now c.more.rest.now) c.in_ok-item.item (toks c.args.text.now c.in_ok-item.after.now)
    (links_at c.args.room (toks c.args.text.now c.args.tokens.now)) (sym (c.is_sign.ensures c.args.text.now) ∙ c.more-test.true) c.in_ok-item.ensures c.more.invariant)

pub links-returns : goal.links-returns
unfolding links_at
links-returns t c =
    is_done (by is_sign) (link_at c.args.room) (link_shrinks c.args.room) c.more.found (toks c.args.text.now c.more.rest.now)
    (links_at c.args.room (toks c.args.text.now c.args.tokens.now)) (sym (c.is_sign.ensures c.args.text.now) ∙ c.more-test.false) c.more.invariant

pub squares-returns-in_err-args : goal.squares-returns-in_err-args
squares-returns-in_err-args t c =
    let e = squares_step c.args.room (omega arith) (toks c.args.text.now c.args.tokens.now) in
    first_of (search rules, grind (arith, common_steps))

pub squares-returns-in_err-rest-2 : goal.squares-returns-in_err-rest-2
squares-returns-in_err-rest-2 t c =
    let e = squares_step c.args.room (omega arith) (toks c.args.text.now c.args.tokens.now) in
    first_of (search rules, grind (arith, common_steps))

pub squares-returns : goal.squares-returns
squares-returns t c =
    let e = squares_step c.args.room (omega arith) (toks c.args.text.now c.args.tokens.now) in
    first_of (search rules, grind (arith, common_steps))

pub rounds-returns-in_err-inner : goal.rounds-returns-in_err-inner
rounds-returns-in_err-inner t c =
    let e = rounds_step c.args.room (omega arith) (toks c.args.text.now c.args.tokens.now) in
    first_of (search rules, grind (arith, common_steps))

pub rounds-returns-in_err-rest-2 : goal.rounds-returns-in_err-rest-2
rounds-returns-in_err-rest-2 t c =
    let e = rounds_step c.args.room (omega arith) (toks c.args.text.now c.args.tokens.now) in
    first_of (search rules, grind (arith, common_steps))

pub rounds-returns : goal.rounds-returns
rounds-returns t c =
    let e = rounds_step c.args.room (omega arith) (toks c.args.text.now c.args.tokens.now) in
    first_of (search rules, grind (arith, common_steps))
