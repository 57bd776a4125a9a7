use Rattle.std.proofs.Common.{ap, sym, subst, Contains}
use Rattle.std.specs.Result.{IfOk}
use Rattle.dactl_meaning.specs.Meaning.{named_faults}
use Rattle.dactl_symbols.specs.Least.{TellsLeast}
use Rattle.dactl_rules.proofs.compiling.named_fault.Goals as goal

pub returns-in-Named : goal.returns-in-Named
returns-in-Named c =
    subst (λ l. IfOk c.pattern_fault.result (TellsLeast (Contains l)))
    (sym (ap (λ i. named_faults c.args.patterns.now.text.now (record { owner = c.args.item.owner; number = c.args.item.number; item = i })) c.in-Named.is))
    c.pattern_fault.ensures
