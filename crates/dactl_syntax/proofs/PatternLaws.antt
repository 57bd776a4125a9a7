-- Reading patterns, rules, items and modules is exact for their grammar.
use Rattle.std.proofs.Common.{ℕ, zero, suc, Bool, true, false, List, refl}
use Rattle.std.specs.Prelude.{◌||◌}
use Rattle.dactl_terminals.specs.declared.token.Sort.{Sort}
use Rattle.dactl_terminals.specs.declared.token.Sort.TheVariants as s
use Rattle.dactl_meaning.specs.declared.tree.PatternTree.{PatternTree}
use Rattle.dactl_terminals.specs.Sort.{same_sort}
use Rattle.dactl_syntax.specs.Sort.{starts_base, starts_piece, is_sign}
use Rattle.dactl_grammar.specs.Grammar.{many}
use Rattle.dactl_grammar.specs.Reader.{read_many}
use Rattle.dactl_terminals.specs.Parts.{Part_of, behind, before, pair}
use Rattle.dactl_syntax.specs.Productions.{any_of, int_of, char_of, number_of, character_of, pattern_sym_of, base, piece_of, piece, plus_of, minus_of, operator, chain_of, pattern_over, squares, rounds, pattern}
use Rattle.dactl_terminals.specs.Reads.{Reads, by, read_pair, read_behind, read_before}
use Rattle.dactl_syntax.specs.Reading.{read_base, read_piece, operator_at, read_pattern, squares_at, rounds_at, pattern_at}
use Rattle.dactl_terminals.proofs.Fits.{none}
use Rattle.dactl_terminals.proofs.Firm.{Firm, firm_sign, firm_barred, firm_as, firm_row, firm_pair, firm_after, firm_behind, firm_before, firm_choice, firm_or, fit_option, fit_repeat, firm_upper, firm_lower}

abbrev pub goes_on_piece : Sort → Bool
goes_on_piece s.Colon = true
goes_on_piece s.Open = true
goes_on_piece _ = false

abbrev pub goes_on_pattern : Sort → Bool
goes_on_pattern t = is_sign t || goes_on_piece t

abbrev pub goes_on_pieces : Sort → Bool
goes_on_pieces t = starts_piece t || goes_on_piece t

abbrev pub starts_piece_or_close : Sort → Bool
starts_piece_or_close t = starts_piece t || same_sort s.Close t

-- ---- patterns

pub firm_operator : Firm operator operator_at is_sign none
unfolding operator_at same_sort
firm_operator = firm_choice is_sign none (firm_as plus_of (firm_sign s.Plus)) (firm_as minus_of (firm_sign s.Minus)) refl refl refl refl refl

module _ (square : Part_of (List PatternTree)) (round : Part_of PatternTree) (read_s : Reads (List PatternTree)) (read_r : Reads PatternTree)
    (firm_s : Firm square read_s (same_sort s.Open) none) (firm_r : Firm round read_r (same_sort s.Left) none) where
  pub firm_base : Firm (base square round) (read_base read_s read_r) starts_base (same_sort s.Open)
  unfolding same_sort
  firm_base = firm_choice starts_base (same_sort s.Open) (firm_as any_of (firm_sign s.Any))
      (firm_or (same_sort s.Open) (firm_as int_of (firm_sign s.Int))
      (firm_or (same_sort s.Open) (firm_as char_of (firm_sign s.Char))
      (firm_or (same_sort s.Open) (firm_as number_of (firm_sign s.Integer))
      (firm_or (same_sort s.Open) (firm_as character_of (firm_sign s.Character))
      (firm_or (same_sort s.Open) (firm_as pattern_sym_of (firm_row firm_upper (λ _. fit_option (same_sort s.Open) firm_s refl refl) refl refl refl refl)) firm_r
      refl refl refl) refl refl refl) refl refl refl) refl refl refl) refl refl refl) refl refl refl refl refl

  pub firm_of_base : Firm (behind s.Colon (base square round)) (read_behind s.Colon (read_base read_s read_r)) (same_sort s.Colon) (same_sort s.Open)
  unfolding same_sort
  firm_of_base = firm_behind s.Colon firm_base refl refl refl

  pub firm_piece : Firm (piece square round) (read_piece read_s read_r) starts_piece goes_on_piece
  unfolding same_sort
  firm_piece = firm_choice starts_piece goes_on_piece
      (firm_as piece_of (firm_row firm_lower (λ _. fit_option goes_on_piece firm_of_base refl refl) refl refl refl refl))
      firm_base refl refl refl refl refl

  pub firm_link : Firm (pair operator (piece square round)) (read_pair operator_at (read_piece read_s read_r)) is_sign goes_on_piece
  firm_link = firm_pair firm_operator (λ _. firm_piece) refl refl refl

  pub firm_pattern : Firm (pattern_over square round) (read_pattern read_s read_r) starts_piece goes_on_pattern
  firm_pattern = firm_as chain_of (firm_row firm_piece (λ _. fit_repeat goes_on_pattern firm_link refl refl refl) refl refl refl refl)

  firm_square : Firm (behind s.Open (before (many (piece square round)) s.Close)) (read_behind s.Open (read_before (read_many (by starts_piece) (read_piece read_s read_r)) s.Close)) (same_sort s.Open) none
  unfolding same_sort
  firm_square = firm_behind s.Open (firm_as (λ v. v.0) (firm_after starts_piece_or_close (fit_repeat goes_on_pieces firm_piece refl refl refl) (λ _. firm_sign s.Close) refl refl refl refl)) refl refl refl

  firm_round : Firm (behind s.Left (before (pattern_over square round) s.Right)) (read_behind s.Left (read_before (read_pattern read_s read_r) s.Right)) (same_sort s.Left) none
  unfolding same_sort
  firm_round = firm_behind s.Left (firm_before s.Right firm_pattern refl refl refl) refl refl refl

mutual
  unfolding squares rounds squares_at rounds_at

  pub firm_squares : (n : ℕ) → Firm (squares n) (squares_at n) (same_sort s.Open) none
  firm_squares zero = firm_barred s.Open
  firm_squares (suc n) = firm_square (squares n) (rounds n) (squares_at n) (rounds_at n) (firm_squares n) (firm_rounds n)

  pub firm_rounds : (n : ℕ) → Firm (rounds n) (rounds_at n) (same_sort s.Left) none
  firm_rounds zero = firm_barred s.Left
  firm_rounds (suc n) = firm_round (squares n) (rounds n) (squares_at n) (rounds_at n) (firm_squares n) (firm_rounds n)

pub firm_pattern_at : (n : ℕ) → Firm (pattern n) (pattern_at n) starts_piece goes_on_pattern
unfolding pattern_at
firm_pattern_at n = firm_pattern (squares n) (rounds n) (squares_at n) (rounds_at n) (firm_squares n) (firm_rounds n)
