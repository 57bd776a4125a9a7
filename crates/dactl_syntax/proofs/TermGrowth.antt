-- With one more bracket each part of the grammar reads the same, or more.
use Rattle.std.proofs.Common.{◌≡◌, ℕ, zero, suc, Bool, true, inl, List, [], length, refl}
use Rattle.std.specs.Prelude.{◌||◌}
use Rattle.dactl_terminals.specs.declared.token.Sort.TheVariants as s
use Rattle.dactl_meaning.specs.declared.tree.ArgTree.{ArgTree}
use Rattle.dactl_terminals.specs.Sort.{same_sort}
use Rattle.dactl_syntax.specs.Sort.{starts_mark, starts_arg}
use Rattle.dactl_grammar.specs.Grammar.{many, barred}
use Rattle.dactl_grammar.specs.Reader.{head_is, read_many}
use Rattle.dactl_terminals.specs.Parts.{Tok, Part_of, is, behind, before}
use Rattle.dactl_syntax.specs.Productions.{mark, star_of, hashes_of, counted, integer_of, letter_of, sym_of, node, named_of, bare_of, body, term_of, term, arg_of, arg, args}
use Rattle.dactl_terminals.specs.Reads.{Reads, by, read_behind, read_before}
use Rattle.dactl_syntax.specs.Reading.{hashes_at, mark_at, read_node, read_body, read_term, read_arg, args_at}
use Rattle.dactl_terminals.proofs.Fits.{none, fit_sign, fit_upper, fit_lower}
use Rattle.dactl_terminals.proofs.Firm.{Firm, firm_sign, fit_option, fit_repeat}
use Rattle.dactl_syntax.proofs.TermLaws.{firm_mark, firm_of_colon, firm_arg, firm_args, goes_on_arg}
use Rattle.dactl_grammar.proofs.Grows.{Grows, grows_means, grows_barred}
use Rattle.dactl_terminals.proofs.Grown.{g_sign, g_row, g_choice, g_maybe, g_many, g_behind, g_before, g_upper, g_lower}

-- the brackets that count
abbrev pub opens : Tok → Bool
opens t = is s.Open t || is s.Left t

abbrev pub Grown : {A : Type 0} → Part_of A → Reads A → Part_of A → Reads A → Type 0
Grown P R P' R' = Grows opens P R P' R'

g_hashes : Grown counted hashes_at counted hashes_at
unfolding hashes_at
g_hashes = grows_means length (g_many (same_sort s.Hash) (fit_sign s.Hash) (g_sign s.Hash))

g_mark : Grown mark mark_at mark mark_at
unfolding mark_at
g_mark = g_choice (head_is (by (same_sort s.Star))) (grows_means star_of (g_sign s.Star)) (grows_means hashes_of (g_row (fit_sign s.Hash) (g_sign s.Hash) (λ _. g_hashes)))

module _ (P P' : Part_of (List ArgTree)) (R R' : Reads (List ArgTree)) (firm : Firm P R (same_sort s.Open) none) (g : Grown P R P' R') where
  g_node : Grown (node P) (read_node R) (node P') (read_node R')
  g_node = g_choice (head_is (by (same_sort s.Integer))) (grows_means integer_of (g_sign s.Integer))
      (g_choice (head_is (by (same_sort s.Character))) (grows_means letter_of (g_sign s.Character)) (grows_means sym_of (g_row fit_upper g_upper (λ _. g_maybe (same_sort s.Open) firm.fit g))))

  g_body : Grown (body P) (read_body R) (body P') (read_body R')
  unfolding same_sort
  g_body = g_choice (head_is (by (same_sort s.Lower)))
      (grows_means named_of (g_row fit_lower g_lower (λ _. g_maybe (same_sort s.Colon) (firm_of_colon P R firm).fit (g_behind s.Colon g_node))))
      (grows_means bare_of g_node)

  pub g_term : Grown (term P) (read_term R) (term P') (read_term R')
  unfolding same_sort
  g_term = grows_means term_of (g_row (fit_option starts_mark firm_mark refl refl) (g_maybe starts_mark firm_mark.fit g_mark) (λ _. g_body))

  pub g_arg : Grown (arg P) (read_arg R) (arg P') (read_arg R')
  unfolding same_sort
  g_arg = grows_means arg_of (g_row (fit_option (same_sort s.Wait) (firm_sign s.Wait) refl refl) (g_maybe (same_sort s.Wait) (fit_sign s.Wait) (g_sign s.Wait)) (λ _. g_term))

  pub g_bracket : Grown (behind s.Open (before (many (arg P)) s.Close)) (read_behind s.Open (read_before (read_many (by starts_arg) (read_arg R)) s.Close)) (behind s.Open (before (many (arg P')) s.Close)) (read_behind s.Open (read_before (read_many (by starts_arg) (read_arg R')) s.Close))
  unfolding same_sort
  g_bracket = g_behind s.Open (g_before s.Close (fit_repeat goes_on_arg (firm_arg P R firm) refl refl refl) (g_many starts_arg (firm_arg P R firm).fit g_arg))

pub open_counts : (t : Tok) → is s.Open t ≡ true → opens t ≡ true
open_counts t h = rw h refl

pub g_args : (n : ℕ) → Grown (args n) (args_at n) (args (suc n)) (args_at (suc n))
unfolding args args_at
g_args zero = grows_barred opens (is s.Open) (λ v. v.1) (λ _. before (many (arg barred)) s.Close) (λ _. read_before (read_many (by starts_arg) (read_arg (args_at zero))) s.Close) (λ _. inl record { front = []; back = []; values = []; parts = refl; first = refl; second = inl tt }) open_counts
g_args (suc n) = g_bracket (args n) (args (suc n)) (args_at n) (args_at (suc n)) (firm_args n) (g_args n)
