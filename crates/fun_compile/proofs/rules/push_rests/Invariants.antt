use Rattle.std.proofs.Common.{◌≡◌, ◌++◌, map, length, take}
use Rattle.fun_compile.specs.Knowing.{told}
use Rattle.fun_compile.specs.Translated.{group_of, rest_tree}
use Rattle.fun_compile.proofs.rules.push_rests.Given as goal

abbrev pub invariant-loop-equation : goal.invariant-loop-equation
invariant-loop-equation l = l.groups ≡ l.initial.groups ++ map (λ eq. group_of (rest_tree eq.head.text (length eq.patterns))) (told (take l.equation-index l.firsts))
