use Rattle.std.proofs.Common.{◌≡◌, ◌++◌, drop}
use Rattle.std.specs.List.{filter}
use Rattle.fun_meaning.specs.Functions.{first_ones}
use Rattle.fun_compile.specs.Knowing.{told}
use Rattle.fun_compile.proofs.FirstOnes.{is_new}
use Rattle.fun_compile.proofs.functions.first_equations.Given as goal

-- those found, and those of the rest that are new, are all
abbrev pub invariant-loop-equation : goal.invariant-loop-equation
invariant-loop-equation l = told l.firsts.items ++ filter (is_new l.heads) (first_ones (drop l.equation-index l.equations)) ≡ first_ones l.equations
