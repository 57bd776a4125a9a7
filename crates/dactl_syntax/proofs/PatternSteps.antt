-- What the loops and the steps over brackets of patterns cite.
use Rattle.std.proofs.Common.{◌≡◌, ℕ, zero, suc, ◌-◌, ◌<◌, List, refl, arith}
use Rattle.dactl_terminals.specs.declared.token.Sort.TheVariants as s
use Rattle.dactl_terminals.specs.Parts.{Tok}
use Rattle.dactl_syntax.specs.Productions.{squares, rounds}
use Rattle.dactl_terminals.specs.Reads.{read_behind, read_before}
use Rattle.dactl_syntax.specs.Reading.{piece_reads, link_at, pieces_at, pattern_at, squares_at, rounds_at}
use Rattle.dactl_terminals.proofs.Firm.{firm_shrinks}
use Rattle.dactl_syntax.proofs.PatternLaws.{firm_piece, firm_link, firm_squares, firm_rounds}
use Rattle.dactl_grammar.proofs.Loop.{Shrinks}

pub piece_shrinks : (n : ℕ) → Shrinks (piece_reads n)
unfolding piece_reads
piece_shrinks n = firm_shrinks (firm_piece (squares n) (rounds n) (squares_at n) (rounds_at n) (firm_squares n) (firm_rounds n))

pub link_shrinks : (n : ℕ) → Shrinks (link_at n)
unfolding link_at piece_reads
link_shrinks n = firm_shrinks (firm_link (squares n) (rounds n) (squares_at n) (rounds_at n) (firm_squares n) (firm_rounds n))

pub squares_step : (n : ℕ) → 0 < n → (l : List Tok) → squares_at n l ≡ read_behind s.Open (read_before (pieces_at (n - 1)) s.Close) l
unfolding squares_at rounds_at pieces_at piece_reads
squares_step zero h l = absurd (omega arith)
squares_step (suc n) h l = let e : suc n - 1 ≡ n = omega arith in rw e refl

pub rounds_step : (n : ℕ) → 0 < n → (l : List Tok) → rounds_at n l ≡ read_behind s.Left (read_before (pattern_at (n - 1)) s.Right) l
unfolding squares_at rounds_at pattern_at
rounds_step zero h l = absurd (omega arith)
rounds_step (suc n) h l = let e : suc n - 1 ≡ n = omega arith in rw e refl
