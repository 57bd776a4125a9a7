use Rattle.std.proofs.Common.{◌≡◌, length}
use Rattle.dactl_terminals.specs.declared.token.Sort.TheVariants as s
use Rattle.dactl_terminals.specs.Sort.{same_sort}
use Rattle.dactl_grammar.specs.Reader.{read_many}
use Rattle.dactl_terminals.specs.Reads.{by}
use Rattle.fun_syntax.specs.Reading.{equation_at}
use Rattle.dactl_terminals.specs.Seen.{toks}
use Rattle.dactl_grammar.proofs.Loop.{with_front}
use Rattle.fun_syntax.proofs.equations.equations.Given as goal

abbrev pub invariant-more : goal.invariant-more
invariant-more l = with_front l.found (read_many (by (same_sort s.Upper)) (equation_at l.room) (toks l.text l.rest)) ≡ read_many (by (same_sort s.Upper)) (equation_at l.room) (toks l.text l.tokens)

abbrev pub decreases-more : goal.decreases-more
decreases-more l = length l.rest
