use Rattle.std.proofs.Common.{◌≡◌, List, ◌+◌, length}
use Rattle.dactl_terminals.specs.declared.token.Sort.TheVariants.{Hash}
use Rattle.dactl_terminals.specs.Sort.{same_sort}
use Rattle.dactl_terminals.specs.Parts.{Tok}
use Rattle.dactl_grammar.specs.Reader.{read_many}
use Rattle.dactl_terminals.specs.Reads.{by, read_sign}
use Rattle.dactl_terminals.specs.Seen.{toks}
use Rattle.dactl_grammar.proofs.Loop.{with_front}
use Rattle.dactl_syntax.proofs.terms.hashes.Given as goal

abbrev pub invariant-more : goal.invariant-more
invariant-more l =
    (seen : List Tok) × (with_front seen (read_many (by (same_sort Hash)) (read_sign Hash) (toks l.text l.rest)) ≡ read_many (by (same_sort Hash)) (read_sign Hash) (toks l.text l.tokens)) × (length seen + length l.rest ≡ length l.tokens)

abbrev pub decreases-more : goal.decreases-more
decreases-more l = length l.rest
