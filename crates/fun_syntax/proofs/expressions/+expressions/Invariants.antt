use Rattle.std.proofs.Common.{◌≡◌, ◌+◌, ◌*◌, length}
use Rattle.fun_syntax.specs.Sort.{starts_expr}
use Rattle.dactl_grammar.specs.Reader.{read_many}
use Rattle.dactl_terminals.specs.Reads.{by}
use Rattle.fun_syntax.specs.Reading.{expr_at}
use Rattle.dactl_terminals.specs.Seen.{toks}
use Rattle.dactl_grammar.proofs.Loop.{with_front}
use Rattle.fun_syntax.proofs.expressions.+expressions.Given as goal

abbrev pub decreases-args : goal.decreases-args
decreases-args l = 4 * l.room

abbrev pub decreases-given : goal.decreases-given
decreases-given l = 4 * l.room + 1

abbrev pub decreases-expr : goal.decreases-expr
decreases-expr l = 4 * l.room + 2

abbrev pub decreases-arg_list : goal.decreases-arg_list
decreases-arg_list l = 4 * l.room + 3

abbrev pub invariant-arg_list-more : goal.invariant-arg_list-more
invariant-arg_list-more l = with_front l.args (read_many (by starts_expr) (expr_at l.room) (toks l.text l.rest)) ≡ read_many (by starts_expr) (expr_at l.room) (toks l.text l.tokens)

abbrev pub decreases-arg_list-more : goal.decreases-arg_list-more
decreases-arg_list-more l = length l.rest
