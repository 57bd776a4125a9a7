use Rattle.std.proofs.Common.{ap, sym, ◌∙◌, subst}
use Rattle.std.specs.Result.{result_ok}
use Rattle.std.specs.Str.{IsUtf8}
use Rattle.dactl_base.proofs.Decimals.{parse_integer, utf8_integer}
use Rattle.dactl_base.proofs.numbers.loose_integer.Goals as goal

pub returns-in-Ok : goal.returns-in-Ok
returns-in-Ok c = rw c.ok.ensures.value (λ z fits is. ap result_ok (parse_integer z c.in-Ok.text.now c.parse.result fits (c.in-Ok.ensures.cases.0 ∙ is) c.parse.ensures.value.0))

pub returns-in-Err : goal.returns-in-Err
returns-in-Err c = λ z fits is. absurd (c.in-Err.ensures.cases.0 (subst IsUtf8 (sym is) (utf8_integer z fits)))
