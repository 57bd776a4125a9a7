use Rattle.std.proofs.Common.{◌≡◌, map, take}
use Rattle.fun_compile.specs.Translated.{word}
use Rattle.fun_compile.proofs.module.words.Given as goal

abbrev pub invariant-loop-name : goal.invariant-loop-name
invariant-loop-name l = l.all ≡ map (λ c. word c.text) (take l.name-index l.names)
