-- Steps under two programs with the same rules and the same width.
use Rattle.std.proofs.Common.{◌≡◌, ℕ, List, [], ◌∷◌, IsSomeAnd, slice_get, sym, ◌∙◌, ap, subst}
use Rattle.dactl_model.specs.declared.graph.NodeId.{NodeId}
use Rattle.dactl_model.specs.declared.graph.Graph.{Graph}
use Rattle.dactl_model.specs.declared.graph.Event.{Event}
use Rattle.dactl_model.specs.declared.graph.Event.TheVariants.{Fire, Note}
use Rattle.dactl_model.specs.declared.graph.Entry.{Entry}
use Rattle.dactl_model.specs.declared.program.Program.{Program}
use Rattle.dactl_model.specs.Matching.{RuleMatches, Matches, Precedes, IsAllowed, IsQuiet}
use Rattle.dactl_model.specs.Firing.{IsFired}
use Rattle.dactl_model.specs.Steps.{Step, Reduction}
use Rattle.dactl_within.specs.Statements.{StepsByRules, RunsByRules}

module _ (p q : Program) (rules : p.rules ≡ q.rules) (wide : p.wide ≡ q.wide) where
  matches_too : (g : Graph) (n : NodeId) (r : ℕ) (h : List NodeId) → Matches p g n r h → Matches q g n r h
  matches_too g n r h m =
      subst (λ w. IsSomeAnd (slice_get q.rules r) (λ rule. RuleMatches w g n rule h)) wide
      (subst (λ rs. IsSomeAnd (slice_get rs r) (λ rule. RuleMatches p.wide g n rule h)) rules m)

  precedes_too : (s r : ℕ) → Precedes p s r → Precedes q s r
  precedes_too s r before = record {
    earlier = before.earlier;
    later = before.later;
    is_earlier = ap (λ rs. slice_get rs s) (sym rules) ∙ before.is_earlier;
    is_later = ap (λ rs. slice_get rs r) (sym rules) ∙ before.is_later;
    symbol = before.symbol;
    group = before.group;
  }

module _ (p q : Program) (rules : p.rules ≡ q.rules) (wide : p.wide ≡ q.wide) where
  allowed_too : (g : Graph) (n : NodeId) (r : ℕ) → IsAllowed p g n r → IsAllowed q g n r
  allowed_too g n r allowed = record {
    active = allowed.active;
    matching = (allowed.matching.0, matches_too p q rules wide g n r allowed.matching.0 allowed.matching.1);
    first = λ s before h m. allowed.first s (precedes_too q p (sym rules) (sym wide) s r before) h (matches_too q p (sym rules) (sym wide) g n s h m);
  }

  quiet_too : (g : Graph) (n : NodeId) → IsQuiet p g n → IsQuiet q g n
  quiet_too g n quiet = record { active = quiet.active; none = λ r h m. quiet.none r h (matches_too q p (sym rules) (sym wide) g n r h m) }

  fired_too : (g : Graph) (n : NodeId) (r : ℕ) (g' : Graph) → IsFired p g n r g' → IsFired q g n r g'
  fired_too g n r g' fired = record {
    rule = fired.rule;
    bindings = fired.bindings;
    is_rule = ap (λ rs. slice_get rs r) (sym rules) ∙ fired.is_rule;
    is_match = subst (λ w. RuleMatches w g n fired.rule fired.bindings) wide fired.is_match;
    after = fired.after;
  }

  step_too : (g g' : Graph) (e : Event) → Step p g e g' → Step q g e g'
  step_too g g' (Fire n r) step = (allowed_too g n r step.0, fired_too g n r g' step.1)
  step_too g g' (Note n) step = (quiet_too g n step.0, step.1)

  run_too : (g g' : Graph) (journal : List Entry) → Reduction p g journal g' → Reduction q g journal g'
  run_too g g' [] run = run
  run_too g g' (entry ∷ entries) run = (run.0, step_too g run.0 entry.event run.1, run_too run.0 g' entries run.2)

pub steps_by_rules : StepsByRules
steps_by_rules p q g g' e rules wide step = step_too p q rules wide g g' e step

pub runs_by_rules : RunsByRules
runs_by_rules p q g g' journal rules wide run = run_too p q rules wide g g' journal run
