-- Reading terms is exact for the grammar of terms.
use Rattle.std.proofs.Common.{ℕ, zero, suc, Bool, true, false, List, length, refl}
use Rattle.std.specs.Prelude.{◌||◌}
use Rattle.dactl_terminals.specs.declared.token.Sort.{Sort}
use Rattle.dactl_terminals.specs.declared.token.Sort.TheVariants as s
use Rattle.dactl_meaning.specs.declared.tree.ArgTree.{ArgTree}
use Rattle.dactl_terminals.specs.Sort.{same_sort}
use Rattle.dactl_syntax.specs.Sort.{starts_mark, starts_node, starts_body, starts_term, starts_arg}
use Rattle.dactl_grammar.specs.Grammar.{many}
use Rattle.dactl_grammar.specs.Reader.{read_many}
use Rattle.dactl_terminals.specs.Parts.{Part_of, behind, before}
use Rattle.dactl_syntax.specs.Productions.{star_of, hashes_of, counted, mark, integer_of, letter_of, sym_of, node, named_of, bare_of, body, term_of, term, arg_of, arg, args}
use Rattle.dactl_terminals.specs.Reads.{Reads, by, read_behind, read_before}
use Rattle.dactl_syntax.specs.Reading.{hashes_at, mark_at, read_node, read_body, read_term, read_arg, args_at}
use Rattle.dactl_terminals.proofs.Fits.{none, Fit, a_meaning}
use Rattle.dactl_terminals.proofs.Firm.{Firm, firm_sign, firm_barred, firm_as, firm_row, firm_after, firm_behind, firm_choice, firm_or, fit_option, fit_repeat, firm_upper, firm_lower}

-- the tokens with which a term may go on
abbrev pub goes_on_term : Sort → Bool
goes_on_term s.Colon = true
goes_on_term s.Open = true
goes_on_term _ = false

abbrev pub goes_on_arg : Sort → Bool
goes_on_arg t = starts_arg t || goes_on_term t

abbrev starts_arg_or_close : Sort → Bool
starts_arg_or_close t = starts_arg t || same_sort s.Close t

pub fit_hashes : Fit counted hashes_at (same_sort s.Hash) (same_sort s.Hash)
unfolding same_sort hashes_at
fit_hashes = a_meaning length (fit_repeat (same_sort s.Hash) (firm_sign s.Hash) refl refl refl)

pub firm_mark : Firm mark mark_at starts_mark (same_sort s.Hash)
unfolding mark_at same_sort
firm_mark = firm_choice starts_mark (same_sort s.Hash) (firm_as star_of (firm_sign s.Star)) (firm_as hashes_of (firm_row (firm_sign s.Hash) (λ _. fit_hashes) refl refl refl refl)) refl refl refl refl refl

-- ---- what stands within brackets is given

module _ (inner : Part_of (List ArgTree)) (read : Reads (List ArgTree)) (firm : Firm inner read (same_sort s.Open) none) where
  pub firm_node : Firm (node inner) (read_node read) starts_node (same_sort s.Open)
  unfolding same_sort
  firm_node = firm_choice starts_node (same_sort s.Open)
      (firm_as integer_of (firm_sign s.Integer))
      (firm_or (same_sort s.Open) (firm_as letter_of (firm_sign s.Character))
      (firm_as sym_of (firm_row firm_upper (λ _. fit_option (same_sort s.Open) firm refl refl) refl refl refl refl)) refl refl refl) refl refl refl refl refl

  pub firm_of_colon : Firm (behind s.Colon (node inner)) (read_behind s.Colon (read_node read)) (same_sort s.Colon) (same_sort s.Open)
  unfolding same_sort
  firm_of_colon = firm_behind s.Colon firm_node refl refl refl

  firm_body : Firm (body inner) (read_body read) starts_body goes_on_term
  unfolding same_sort
  firm_body = firm_choice starts_body goes_on_term
      (firm_as named_of (firm_row firm_lower (λ _. fit_option goes_on_term firm_of_colon refl refl) refl refl refl refl))
      (firm_as bare_of firm_node) refl refl refl refl refl

  pub firm_term : Firm (term inner) (read_term read) starts_term goes_on_term
  unfolding same_sort
  firm_term = firm_as term_of (firm_after starts_term (fit_option starts_mark firm_mark refl refl) (λ _. firm_body) refl refl refl refl)

  pub firm_arg : Firm (arg inner) (read_arg read) starts_arg goes_on_term
  unfolding same_sort
  firm_arg = firm_as arg_of (firm_after starts_arg (fit_option (same_sort s.Wait) (firm_sign s.Wait) refl refl) (λ _. firm_term) refl refl refl refl)

  firm_bracket : Firm (behind s.Open (before (many (arg inner)) s.Close)) (read_behind s.Open (read_before (read_many (by starts_arg) (read_arg read)) s.Close)) (same_sort s.Open) none
  unfolding same_sort
  firm_bracket = firm_behind s.Open (firm_as (λ v. v.0) (firm_after starts_arg_or_close (fit_repeat goes_on_arg firm_arg refl refl refl) (λ _. firm_sign s.Close) refl refl refl refl)) refl refl refl

pub firm_args : (n : ℕ) → Firm (args n) (args_at n) (same_sort s.Open) none
unfolding args args_at
firm_args zero = firm_barred s.Open
firm_args (suc n) = firm_bracket (args n) (args_at n) (firm_args n)
