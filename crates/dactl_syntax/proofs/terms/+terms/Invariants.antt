use Rattle.std.proofs.Common.{◌≡◌, ◌+◌, ◌*◌, length}
use Rattle.dactl_syntax.specs.Sort.{starts_arg}
use Rattle.dactl_grammar.specs.Reader.{read_many}
use Rattle.dactl_terminals.specs.Reads.{by}
use Rattle.dactl_syntax.specs.Reading.{arg_at}
use Rattle.dactl_terminals.specs.Seen.{toks}
use Rattle.dactl_grammar.proofs.Loop.{with_front}
use Rattle.dactl_syntax.proofs.terms.+terms.Given as goal

abbrev pub decreases-args : goal.decreases-args
decreases-args l = 6 * l.room

abbrev pub decreases-node : goal.decreases-node
decreases-node l = 6 * l.room + 1

abbrev pub decreases-body : goal.decreases-body
decreases-body l = 6 * l.room + 2

abbrev pub decreases-term : goal.decreases-term
decreases-term l = 6 * l.room + 3

abbrev pub decreases-arg : goal.decreases-arg
decreases-arg l = 6 * l.room + 4

abbrev pub decreases-arg_list : goal.decreases-arg_list
decreases-arg_list l = 6 * l.room + 5

abbrev pub invariant-arg_list-more : goal.invariant-arg_list-more
invariant-arg_list-more l = with_front l.args.items (read_many (by starts_arg) (arg_at l.room) (toks l.text l.rest)) ≡ read_many (by starts_arg) (arg_at l.room) (toks l.text l.tokens)

abbrev pub decreases-arg_list-more : goal.decreases-arg_list-more
decreases-arg_list-more l = length l.rest
