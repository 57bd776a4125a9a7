use Rattle.std.proofs.Common.{◌≡◌, take}
use Rattle.dactl_terminals.specs.Seen.{toks, tokens_seen}
use Rattle.dactl_terminals.proofs.terminals.terminals.Given as goal

abbrev pub invariant-loop-token : goal.invariant-loop-token
invariant-loop-token l = toks l.text l.found.items ≡ tokens_seen l.equations l.text (take l.token-index l.tokens)
