use Rattle.std.proofs.Common.{refl, sym, subst}
use Rattle.dactl_top.specs.Compiling.{MeansFaultBy}
use Rattle.dactl_top.specs.Parts.{IsStarted}
use Rattle.dactl_top.proofs.steps.answer_parts.Goals as goal

pub returns-in-Ok-clause-comes : goal.returns-in-Ok-clause-comes
returns-in-Ok-clause-comes g c = λ input parted. record {
  check = c.if-settings.true;
  rest = c.args.rest.now;
  meant = record { means = record { text = c.args.text.now; parted = parted; says = c.in-Ok.ensures.answer }; valid = c.in-Ok.ensures.valid };
}

pub returns-in-Ok-2-clause-comes : goal.returns-in-Ok-2-clause-comes
returns-in-Ok-2-clause-comes g c = λ input parted.
    c.judge.ensures.comes input (record { means = record { text = c.args.text.now; parted = parted; says = c.in-Ok.ensures.answer }; valid = c.in-Ok.ensures.valid })

pub returns-in-Ok-3-clause-comes : goal.returns-in-Ok-3-clause-comes
returns-in-Ok-3-clause-comes g c = λ input parted.
    c.go_on.ensures.comes input (record { means = record { text = c.args.text.now; parted = parted; says = c.in-Ok.ensures.answer }; valid = c.in-Ok.ensures.valid })

pub returns-in-Ok-4-clause-comes : goal.returns-in-Ok-4-clause-comes
returns-in-Ok-4-clause-comes g c = λ input parted.
    let p = c.in-Ok.program in
    c.run.ensures.comes input
    (record {
      runs = record {
        rest = c.args.rest.now;
        meant = p;
        part = record { text = c.args.text.now; parted = parted; says = c.in-Ok.ensures.answer };
        started = subst (λ b. IsStarted b p c.args.rest.now p) (sym c.if-settings-3.false) refl;
      };
      sound = c.in-Ok.ensures.valid;
      valid = c.in-Ok.ensures.valid;
    })

pub returns-in-Err-Refused-clause-comes : goal.returns-in-Err-Refused-clause-comes
returns-in-Err-Refused-clause-comes g c = λ input parted.
    let means = (rw c.in-Err-Refused.field-0-is at c.in-Err-Refused.ensures.answer) in
    c.refused.ensures.comes c.args.settings input (c.args.rest.now, record { text = c.args.text.now; parted = parted; says = subst (MeansFaultBy c.args.settings.fun c.args.text.now) (sym c.in-Err-Refused.refusal-is) means })
