use Rattle.std.proofs.Common.{length, ap, ◌∙◌}
use Rattle.dactl_base.specs.declared.refusal.Place.{Place}
use Rattle.dactl_terminals.proofs.Answered.{place_at}
use Rattle.dactl_terminals.proofs.faults.place_from.Goals as goal

pub returns-in-Some : goal.returns-in-Some
returns-in-Some c =
    ap (λ (p : Place). p.byte) c.place_of.ensures
    ∙ place_at c.args.text.now (length c.args.text.now) c.args.tokens.now c.saturating_sub.result _ c.in-Some.token.now c.saturating_sub.ensures c.in-Some.ensures.lookup.3.0 c.in-Some.ensures.lookup.1
