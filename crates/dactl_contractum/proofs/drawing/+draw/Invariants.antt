use Rattle.std.proofs.Common.{take}
use Rattle.dactl_contractum.specs.Drawing.{next_number, args_draw, args_mentioned, DrawsArcs}
use Rattle.dactl_contractum.proofs.drawing.+draw.Given as goal

abbrev pub invariant-many_args-loop-item : goal.invariant-many_args-loop-item
invariant-many_args-loop-item l =
    DrawsArcs (args_draw (take l.item-index l.args) (next_number l.initial.drawing)) (args_mentioned (take l.item-index l.args)) l.initial.drawing l.drawing l.arcs.items
