use Rattle.std.proofs.Common.{◌≡◌, map, take}
use Rattle.fun_compile.specs.Knowing.{told}
use Rattle.fun_compile.specs.Translated.{word}
use Rattle.fun_compile.proofs.module.functions.Given as goal

abbrev pub invariant-loop-equation : goal.invariant-loop-equation
invariant-loop-equation l = l.names ≡ map word (map (λ eq. eq.head.text) (told (take l.equation-index l.firsts)))
