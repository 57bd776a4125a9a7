use Rattle.std.proofs.Common.{take}
use Rattle.fun_compile.specs.Knowing.{HasNames}
use Rattle.fun_compile.proofs.names.set_of.Given as goal

abbrev pub invariant-loop-name : goal.invariant-loop-name
invariant-loop-name l = HasNames (take l.name-index l.names) l.set
