use Rattle.std.proofs.Common.{sym, subst}
use Rattle.dactl_resume.specs.Answers.{IsBadAt}
use Rattle.dactl_top.specs.Outcomes.{IsMeant}
use Rattle.dactl_top.specs.Parts.{IsStarted}
use Rattle.dactl_top.proofs.steps.go_on.Goals as goal

pub returns-in-Ok-clause-comes : goal.returns-in-Ok-clause-comes
returns-in-Ok-clause-comes g c = λ input meant.
    let p = c.args.program in
    let q = c.in-Ok.program in
    c.run.ensures.comes input
    (record {
      runs = record {
        rest = c.args.graph.now;
        meant = p;
        part = meant.means;
        started = subst (λ b. IsStarted b p c.args.graph.now q) (sym c.requires.asked) c.in-Ok.ensures.resumed;
      };
      sound = meant.valid;
      valid = c.in-Ok.ensures.resumed.valid;
    })

pub returns-in-Err-Bad-clause-comes : goal.returns-in-Err-Bad-clause-comes
returns-in-Err-Bad-clause-comes g c = λ input meant.
    let bad = (rw c.in-Err-Bad.field-0-is at c.in-Err-Bad.ensures.fault) in
    let graph = c.args.graph.now in
    let comes = (rw c.in-Err-Bad.field-0-is at c.bad_graph.ensures.comes) in
    comes c.args.settings input (record {
      check = c.requires.check.0;
      asked = c.requires.asked;
      unasked = c.requires.check.1;
      rest = graph;
      meant = subst (IsMeant c.args.settings input graph) (sym bad.0) meant;
      is_bad = subst (λ p. IsBadAt p graph c.in-Err-Bad.line) (sym bad.0) bad.1;
    })
