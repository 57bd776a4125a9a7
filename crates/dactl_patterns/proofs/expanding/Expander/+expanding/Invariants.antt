use Rattle.std.proofs.Common.{◌≡◌, ℕ, ◌≤◌, map, take, drop}
use Rattle.dactl_model.specs.declared.program.Pat.{Pat}
use Rattle.dactl_meaning.specs.Expansion.{pattern_nodes, chain}
use Rattle.dactl_patterns.specs.Table.{IsRight}
use Rattle.dactl_patterns.specs.Expanding.{of_tree, of_link}
use Rattle.dactl_patterns.proofs.Within.{AreSmall}
use Rattle.dactl_patterns.proofs.expanding.Expander.+expanding.Given as goal

-- those so far are expanded
abbrev pub invariant-symbol-loop-argument : goal.invariant-symbol-loop-argument
invariant-symbol-loop-argument l =
    (l.nodes ≤ l.most) × ((named : ℕ → ℕ → Pat) → IsRight named l.self.patterns.now → AreSmall (of_tree l.self named) (take l.argument-index l.args) l.pats l.nodes)

-- what is folded so far, and the rest, is all
abbrev pub invariant-chain-loop-link : goal.invariant-chain-loop-link
invariant-chain-loop-link l =
    (l.folded.nodes ≤ l.most)
    × ((named : ℕ → ℕ → Pat) → IsRight named l.self.patterns.now → l.fn.first.nodes ≡ pattern_nodes l.fn.first.pat
    → (l.folded.nodes ≡ pattern_nodes l.folded.pat) × (chain l.folded.pat (map (of_link l.self named) (drop l.link-index l.rest)) ≡ chain l.fn.first.pat (map (of_link l.self named) l.rest)))
