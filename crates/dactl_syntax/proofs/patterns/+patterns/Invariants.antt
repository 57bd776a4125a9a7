use Rattle.std.proofs.Common.{◌≡◌, ◌+◌, ◌*◌, length}
use Rattle.dactl_syntax.specs.Sort.{starts_piece, is_sign}
use Rattle.dactl_grammar.specs.Reader.{read_many}
use Rattle.dactl_terminals.specs.Reads.{by}
use Rattle.dactl_syntax.specs.Reading.{piece_reads, link_at, pieces_at, links_at}
use Rattle.dactl_terminals.specs.Seen.{toks}
use Rattle.dactl_grammar.proofs.Loop.{with_front}
use Rattle.dactl_syntax.proofs.patterns.+patterns.Given as goal

abbrev pub decreases-squares : goal.decreases-squares
decreases-squares l = 6 * l.room + 0

abbrev pub decreases-rounds : goal.decreases-rounds
decreases-rounds l = 6 * l.room + 0

abbrev pub decreases-base : goal.decreases-base
decreases-base l = 6 * l.room + 1

abbrev pub decreases-piece : goal.decreases-piece
decreases-piece l = 6 * l.room + 2

abbrev pub decreases-pieces : goal.decreases-pieces
decreases-pieces l = 6 * l.room + 3

abbrev pub decreases-link : goal.decreases-link
decreases-link l = 6 * l.room + 3

abbrev pub decreases-links : goal.decreases-links
decreases-links l = 6 * l.room + 4

abbrev pub decreases-pattern : goal.decreases-pattern
decreases-pattern l = 6 * l.room + 5

abbrev pub invariant-pieces-more : goal.invariant-pieces-more
invariant-pieces-more l = with_front l.found.items (read_many (by starts_piece) (piece_reads l.room) (toks l.text l.rest)) ≡ pieces_at l.room (toks l.text l.tokens)

abbrev pub decreases-pieces-more : goal.decreases-pieces-more
decreases-pieces-more l = length l.rest

abbrev pub invariant-links-more : goal.invariant-links-more
invariant-links-more l = with_front l.found (read_many (by is_sign) (link_at l.room) (toks l.text l.rest)) ≡ links_at l.room (toks l.text l.tokens)

abbrev pub decreases-links-more : goal.decreases-links-more
decreases-links-more l = length l.rest
