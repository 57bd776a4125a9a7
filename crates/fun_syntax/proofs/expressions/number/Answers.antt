use Rattle.std.proofs.Common.{ap, subst, sym, ◌∙◌, to_z, of_z}
use Rattle.std.specs.Prelude.{ℤ, FitsSigned}
use Rattle.std.specs.Int.{w64, w128}
use Rattle.dactl_terminals.specs.Seen.{word_of}
use Rattle.fun_syntax.proofs.Values.{cast_fits, cast_is}
use Rattle.fun_syntax.proofs.expressions.number.Goals as goal

pub overflow_cast-result : goal.overflow_cast-result
overflow_cast-result c = subst (λ (v : ℤ). FitsSigned w64 (to_z w128 (of_z w128 v))) (sym c.value.ensures) (cast_fits (word_of c.args.text.now c.args.token))

pub returns : goal.returns
returns c = ap (λ (v : ℤ). to_z w64 (of_z w64 (to_z w128 (of_z w128 v)))) c.value.ensures ∙ cast_is (word_of c.args.text.now c.args.token)
