use Rattle.std.proofs.Common.{◌≡◌, drop}
use Rattle.dactl_model.specs.Firing.{redirection}
use Rattle.dactl_plain.proofs.firing.Site.redirected.Given as goal

-- none of the redirections so far concerns the node
abbrev pub invariant-loop-step : goal.invariant-loop-step
invariant-loop-step l =
    redirection l.self.first l.self.root l.self.bound.now l.self.moves.now l.node ≡ redirection l.self.first l.self.root l.self.bound.now (drop l.step-index l.self.moves.now) l.node
