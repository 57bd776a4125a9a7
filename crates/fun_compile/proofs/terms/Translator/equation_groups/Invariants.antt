use Rattle.std.proofs.Common.{◌≡◌, map, take}
use Rattle.fun_compile.specs.Translated.{group_of, equation_tree}
use Rattle.fun_compile.proofs.terms.Translator.equation_groups.Given as goal

abbrev pub invariant-loop-equation : goal.invariant-loop-equation
invariant-loop-equation l = l.groups ≡ map (λ eq. group_of (equation_tree l.self.fun.now eq)) (take l.equation-index l.equations)
