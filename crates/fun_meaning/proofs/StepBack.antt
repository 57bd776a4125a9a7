-- Each step keeps values backwards.
use Rattle.std.proofs.Common.{◌≡◌, ℕ, List, Some, slice_get, sym, ap, subst, inl, inr}
use Rattle.dactl_model.specs.declared.graph.NodeId.{NodeId}
use Rattle.dactl_model.specs.declared.graph.Graph.{Graph}
use Rattle.dactl_model.specs.declared.graph.Event.{Event}
use Rattle.dactl_model.specs.declared.graph.Event.TheVariants.{Fire, Note}
use Rattle.dactl_model.specs.declared.program.Program.{Program}
use Rattle.dactl_model.specs.declared.program.Rule.{Rule}
use Rattle.dactl_model.specs.Graphs.{IsWellFormed}
use Rattle.dactl_model.specs.Matching.{RuleMatches, IsAllowed}
use Rattle.dactl_model.specs.Firing.{fired}
use Rattle.dactl_model.specs.Steps.{Step}
use Rattle.fun_meaning.specs.declared.tree.Fun.{Fun}
use Rattle.fun_meaning.specs.Meaning.{symbol_names}
use Rattle.fun_meaning.specs.Translation.{IsKnownRule, IsProgramOf}
use Rattle.fun_meaning.specs.Invariant.{IsTidy}
use Rattle.fun_meaning.specs.Statements.{KeepsMeaning}
use Rattle.fun_meaning.proofs.After.{is_there, closed_graph}
use Rattle.fun_meaning.proofs.RootNode.{GoesBack, root_back}
use Rattle.fun_meaning.proofs.EquationStep.{equation_back}
use Rattle.fun_meaning.proofs.OtherSteps.{rest_back, note_back, operation_back, check_back}

fire_back : (e : Fun) (p : Program) (g : Graph) (n : NodeId) (r : ℕ) (rule : Rule) (h : List NodeId) → IsProgramOf e p → IsWellFormed g → IsTidy e p g → slice_get p.rules r ≡ Some rule → IsAllowed p g n r → RuleMatches p.wide g n rule h
    → IsKnownRule e (symbol_names p) rule → GoesBack e (symbol_names p) g (fired g n h rule.body)
fire_back e p g n r rule h is fine tidy at allowed match (inl operation) =
    subst (λ b. GoesBack e (symbol_names p) g (fired g n h b)) (sym (ap (λ x. x.body) operation.is)) (operation_back e p g n rule h is match operation)
fire_back e p g n r rule h is fine tidy at allowed match (inr (inl some)) =
    subst (λ b. GoesBack e (symbol_names p) g (fired g n h b)) (sym some.is.body) (equation_back e p g n r rule h some.index some.equation is fine tidy at allowed match some.at some.is)
fire_back e p g n r rule h is fine tidy at allowed match (inr (inr (inl rest))) =
    subst (λ b. GoesBack e (symbol_names p) g (fired g n h b)) (sym rest.body) (rest_back e p g n h)
fire_back e p g n r rule h is fine tidy at allowed match (inr (inr (inr check))) =
    subst (λ b. GoesBack e (symbol_names p) g (fired g n h b)) (sym check.body) (check_back e p g n rule h is match check)

pub step_back : (e : Fun) (p : Program) (g after : Graph) (event : Event) → IsProgramOf e p → IsWellFormed g → IsTidy e p g → Step p g event after → GoesBack e (symbol_names p) g after
step_back e p g after (Fire n r) is fine tidy step =
    let fires = step.1 in
    subst (GoesBack e (symbol_names p) g) (sym fires.after) (fire_back e p g n r fires.rule fires.bindings is fine tidy fires.is_rule step.0 fires.is_match (is.kinds r fires.rule fires.is_rule))
step_back e p g after (Note n) is fine tidy step = subst (GoesBack e (symbol_names p) g) (sym step.1) (note_back e p g n)

pub keeps_meaning : KeepsMeaning
keeps_meaning e p g after event v valid is fine tidy step means =
    root_back e (symbol_names p) g after v (closed_graph g fine) (is_there g g.root fine.root) (step_back e p g after event is fine tidy step) means
