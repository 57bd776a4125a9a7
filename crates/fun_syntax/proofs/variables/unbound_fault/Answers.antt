use Rattle.std.proofs.Common.{◌∙◌}
use Rattle.fun_syntax.specs.Faults.{free_faults}
use Rattle.fun_syntax.specs.Words.{found_in}
use Rattle.fun_syntax.proofs.Sooner.{parts-more}
use Rattle.fun_syntax.proofs.variables.unbound_fault.Goals as goal

pub loop-piece-preserved : goal.loop-piece-preserved
loop-piece-preserved c = c.lesser-told.ensures ∙ parts-more (free_faults (found_in c.args.bound.now)) c.args.pieces.now c.loop-piece.piece-index c.piece-item.result c.loop-piece.told c.free_fault.result c.loop-piece-test.true c.piece-item.is c.loop-piece.invariant c.free_fault.ensures
