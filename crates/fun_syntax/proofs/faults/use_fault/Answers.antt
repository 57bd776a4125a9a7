use Rattle.std.proofs.Common.{◌∙◌}
use Rattle.fun_syntax.specs.Faults.{piece_faults}
use Rattle.fun_syntax.specs.Words.{found_in}
use Rattle.fun_syntax.proofs.Sooner.{parts-more}
use Rattle.fun_syntax.proofs.faults.use_fault.Goals as goal

pub loop-piece-preserved : goal.loop-piece-preserved
loop-piece-preserved c = c.lesser-told.ensures ∙ parts-more (piece_faults (found_in c.args.roles.now) c.args.in_pattern) c.args.pieces.now c.loop-piece.piece-index c.piece-item.result c.loop-piece.told c.piece_fault.result c.loop-piece-test.true c.piece-item.is c.loop-piece.invariant c.piece_fault.ensures
