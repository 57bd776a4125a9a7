use Rattle.std.proofs.Common.{rules, append_assoc, ◌≡◌, []}
use Rattle.dactl_syntax.specs.declared.write_patterns.Standing.TheVariants as standing
use Rattle.dactl_syntax.specs.Canonical.{pattern_text, tail_text, sign_text}
use Rattle.dactl_syntax.proofs.Written.{step_more, two_parts, piece_binder, piece_chain, piece_sym, bracketed_some}
use Rattle.dactl_syntax.proofs.write_patterns.+write_patterns.Goals as goal

pub pieces-loop-piece-preserved : goal.pieces-loop-piece-preserved
pieces-loop-piece-preserved t c = step_more (pattern_text standing.Inner) c.args.args.now c.loop-piece.piece-index c.piece-item.result c.args.out.now.items c.loop-piece.out.items c.pattern.new.out.items c.loop-piece-test.true c.loop-piece.invariant c.piece-item.is c.in_ok-pattern.ensures

pub links-loop-link-preserved : goal.links-loop-link-preserved
links-loop-link-preserved t c = step_more tail_text c.args.rest.now c.loop-link.link-index c.link-item.result c.args.out.now.items c.loop-link.out.items c.pattern.new.out.items c.loop-link-test.true c.loop-link.invariant c.link-item.is
    (two_parts c.loop-link.out.items c.sign.new.out.items c.pattern.new.out.items (sign_text c.link-item.result.0) (pattern_text standing.Inner c.link-item.result.1) c.in_ok-sign.ensures c.in_ok-pattern.ensures)

pub bare-returns-in_ok-word-in-Binder : goal.bare-returns-in_ok-word-in-Binder
bare-returns-in_ok-word-in-Binder t c = rw (c.in-Binder.is, piece_binder c.in-Binder.variable c.in-Binder.inner) (search (rules, append_assoc))

pub bare-returns-in_ok-pattern-in-Chain : goal.bare-returns-in_ok-pattern-in-Chain
bare-returns-in_ok-pattern-in-Chain t c = rw (c.in-Chain.is, piece_chain c.in-Chain.first c.in-Chain.rest) (search (rules, append_assoc))

pub bare-returns-in_ok-pieces-in-Sym : goal.bare-returns-in_ok-pieces-in-Sym
bare-returns-in_ok-pieces-in-Sym t c =
    let some : c.in-Sym.args ≡ [] → ⊥ = search rules in
    rw (c.in-Sym.is, piece_sym c.in-Sym.symbol c.in-Sym.args, bracketed_some (pattern_text standing.Inner) c.in-Sym.args some) (search (rules, append_assoc))
