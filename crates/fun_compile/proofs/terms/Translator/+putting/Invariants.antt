use Rattle.std.proofs.Common.{map, take}
use Rattle.fun_compile.specs.Putting.{ArePut}
use Rattle.fun_compile.specs.Translated.{put}
use Rattle.fun_compile.proofs.terms.Translator.+putting.Given as goal

abbrev pub invariant-arguments-loop-expression : goal.invariant-arguments-loop-expression
invariant-arguments-loop-expression l = ArePut (map (put l.self.fun.now) (take l.expression-index l.args)) (record { args = l.list; waiting = l.waiting })
