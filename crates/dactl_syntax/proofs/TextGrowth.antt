-- The same for patterns, rules, items and modules.
use Rattle.std.proofs.Common.{◌≡◌, ℕ, zero, suc, Bool, true, false, inl, List, [], ◌∷◌, ◌++◌, refl}
use Rattle.std.specs.Prelude.{◌||◌, is_some}
use Rattle.dactl_terminals.specs.declared.token.Sort.TheVariants as s
use Rattle.dactl_meaning.specs.declared.tree.PatternTree.{PatternTree}
use Rattle.dactl_terminals.specs.Sort.{same_sort}
use Rattle.dactl_syntax.specs.Sort.{starts_piece, is_sign, is_class, starts_item}
use Rattle.dactl_grammar.specs.Grammar.{many, barred}
use Rattle.dactl_grammar.specs.Reader.{head_is, read_many}
use Rattle.dactl_terminals.specs.Parts.{Tok, Part_of, is, behind, before}
use Rattle.dactl_syntax.specs.Productions.{several, term, args, any_of, int_of, char_of, number_of, character_of, pattern_sym_of, base, piece_of, piece, plus_of, minus_of, operator, chain_of, pattern_over, squares, rounds, pattern, part_term, part_redirect, part, rewrites_of, redirects_of, rewriting, redirecting, rule_of, rule, group_of, group, imports_of, imports, class_at, class, symbols_of, symbols, pattern_named_of, named, rules_of, rules, initial_of, initial, an_item, is_name, module_of, a_module, language_of, text}
use Rattle.dactl_terminals.specs.Reads.{Reads, by, read_behind, read_before}
use Rattle.dactl_syntax.specs.Reading.{read_base, read_piece, operator_at, read_pattern, squares_at, rounds_at, pattern_at, args_at, term_at, redirects, part_at, plain_at, comma_part_at, plain_parts_at, parts_at, rewriting_at, redirecting_at, right_side_at, rule_at, bar_rule_at, rule_list_at, group_at, groups_at, imports_at, class_reads, public_class_at, public_at, symbols_at, named_at, rules_at, comma_term_at, terms_at, initial_at, item_at, items_at, module_at, modules_at, language_at, text_at}
use Rattle.dactl_terminals.proofs.Fits.{none, fit_sign, fit_upper, fit_lower, fit_names}
use Rattle.dactl_terminals.proofs.Firm.{Firm, firm_upper, firm_behind, firm_before, fit_repeat}
use Rattle.dactl_grammar.proofs.Same.{Same, same_parted}
use Rattle.dactl_syntax.proofs.TermLaws.{firm_args}
use Rattle.dactl_syntax.proofs.PatternLaws.{goes_on_piece, goes_on_pieces, firm_operator, firm_of_base, firm_piece, firm_link, firm_pattern, firm_squares, firm_rounds, firm_pattern_at}
use Rattle.dactl_syntax.proofs.RuleLaws.{firm_term_at, firm_part, firm_comma_part, firm_rule, firm_bar_rule, firm_rule_list, firm_group, firm_plain}
use Rattle.dactl_syntax.proofs.ModuleLaws.{firm_class, fit_public_class, fit_public, firm_comma_term, firm_terms, firm_item, fit_items, firm_module, fit_language, firm_name}
use Rattle.dactl_grammar.proofs.Grows.{grows_one, grows_means, grows_placed, grows_barred}
use Rattle.dactl_terminals.proofs.Grown.{g_sign, g_row, g_choice, g_maybe, g_many, g_behind, g_before, g_upper, g_lower, g_list, g_names}
use Rattle.dactl_syntax.proofs.TermGrowth.{opens, Grown, g_term, g_args, open_counts}

g_operator : Grown operator operator_at operator operator_at
unfolding operator_at
g_operator = g_choice (head_is (by (same_sort s.Plus))) (grows_means plus_of (g_sign s.Plus)) (grows_means minus_of (g_sign s.Minus))

module _ (P P' : Part_of (List PatternTree)) (Q Q' : Part_of PatternTree) (R R' : Reads (List PatternTree)) (S S' : Reads PatternTree)
    (firm_s : Firm P R (same_sort s.Open) none) (firm_r : Firm Q S (same_sort s.Left) none) (g : Grown P R P' R') (h : Grown Q S Q' S') where
  g_base : Grown (base P Q) (read_base R S) (base P' Q') (read_base R' S')
  g_base = g_choice (head_is (by (same_sort s.Any))) (grows_means any_of (g_sign s.Any))
      (g_choice (head_is (by (same_sort s.Int))) (grows_means int_of (g_sign s.Int))
      (g_choice (head_is (by (same_sort s.Char))) (grows_means char_of (g_sign s.Char))
      (g_choice (head_is (by (same_sort s.Integer))) (grows_means number_of (g_sign s.Integer))
      (g_choice (head_is (by (same_sort s.Character))) (grows_means character_of (g_sign s.Character))
      (g_choice (head_is (by (same_sort s.Upper))) (grows_means pattern_sym_of (g_row fit_upper g_upper (λ _. g_maybe (same_sort s.Open) firm_s.fit g))) h)))))

  g_piece : Grown (piece P Q) (read_piece R S) (piece P' Q') (read_piece R' S')
  unfolding same_sort
  g_piece = g_choice (head_is (by (same_sort s.Lower)))
      (grows_means piece_of (g_row fit_lower g_lower (λ _. g_maybe (same_sort s.Colon) (firm_of_base P Q R S firm_s firm_r).fit (g_behind s.Colon g_base))))
      g_base

  firm_p : Firm (piece P Q) (read_piece R S) starts_piece goes_on_piece
  firm_p = firm_piece P Q R S firm_s firm_r

  g_pattern_over : Grown (pattern_over P Q) (read_pattern R S) (pattern_over P' Q') (read_pattern R' S')
  unfolding same_sort
  g_pattern_over = grows_means chain_of (g_row firm_p.fit g_piece (λ _. g_many is_sign (firm_link P Q R S firm_s firm_r).fit (g_row firm_operator.fit g_operator (λ _. g_piece))))

  g_square : Grown (behind s.Open (before (many (piece P Q)) s.Close)) (read_behind s.Open (read_before (read_many (by starts_piece) (read_piece R S)) s.Close)) (behind s.Open (before (many (piece P' Q')) s.Close)) (read_behind s.Open (read_before (read_many (by starts_piece) (read_piece R' S')) s.Close))
  unfolding same_sort
  g_square = g_behind s.Open (g_before s.Close (fit_repeat goes_on_pieces firm_p refl refl refl) (g_many starts_piece firm_p.fit g_piece))

  g_round : Grown (behind s.Left (before (pattern_over P Q) s.Right)) (read_behind s.Left (read_before (read_pattern R S) s.Right)) (behind s.Left (before (pattern_over P' Q') s.Right)) (read_behind s.Left (read_before (read_pattern R' S') s.Right))
  g_round = g_behind s.Left (g_before s.Right (firm_pattern P Q R S firm_s firm_r).fit g_pattern_over)

or_true : (b : Bool) → (b || true) ≡ true
or_true true = refl
or_true false = refl

left_counts : (t : Tok) → is s.Left t ≡ true → opens t ≡ true
left_counts t h = rw h (or_true (is s.Open t))

mutual
  unfolding squares rounds squares_at rounds_at

  pub g_squares : (n : ℕ) → Grown (squares n) (squares_at n) (squares (suc n)) (squares_at (suc n))
  g_squares zero = grows_barred opens (is s.Open) (λ v. v.1) (λ _. before (many (piece barred barred)) s.Close) (λ _. read_before (read_many (by starts_piece) (read_piece (squares_at zero) (rounds_at zero))) s.Close) (λ _. inl record { front = []; back = []; values = []; parts = refl; first = refl; second = inl (inl tt) }) open_counts
  g_squares (suc n) = g_square (squares n) (squares (suc n)) (rounds n) (rounds (suc n)) (squares_at n) (squares_at (suc n)) (rounds_at n) (rounds_at (suc n)) (firm_squares n) (firm_rounds n) (g_squares n) (g_rounds n)

  pub g_rounds : (n : ℕ) → Grown (rounds n) (rounds_at n) (rounds (suc n)) (rounds_at (suc n))
  g_rounds zero = grows_barred opens (is s.Left) (λ v. v.1) (λ _. before (pattern_over barred barred) s.Right) (λ _. read_before (read_pattern (squares_at zero) (rounds_at zero)) s.Right) (λ _. inl (inl (inl (inl tt)))) left_counts
  g_rounds (suc n) = g_round (squares n) (squares (suc n)) (rounds n) (rounds (suc n)) (squares_at n) (squares_at (suc n)) (rounds_at n) (rounds_at (suc n)) (firm_squares n) (firm_rounds n) (g_squares n) (g_rounds n)

-- what a part of a pattern derives, it derives with one more bracket
pub base_wider : (n : ℕ) (l : List Tok) (t : PatternTree) → (base (squares n) (rounds n)).whole l t → (base (squares (suc n)) (rounds (suc n))).whole l t
base_wider n = (g_base (squares n) (squares (suc n)) (rounds n) (rounds (suc n)) (squares_at n) (squares_at (suc n)) (rounds_at n) (rounds_at (suc n)) (firm_squares n) (firm_rounds n) (g_squares n) (g_rounds n)).whole

pub piece_wider : (n : ℕ) (l : List Tok) (t : PatternTree) → (piece (squares n) (rounds n)).whole l t → (piece (squares (suc n)) (rounds (suc n))).whole l t
piece_wider n = (g_piece (squares n) (squares (suc n)) (rounds n) (rounds (suc n)) (squares_at n) (squares_at (suc n)) (rounds_at n) (rounds_at (suc n)) (firm_squares n) (firm_rounds n) (g_squares n) (g_rounds n)).whole

pub g_pattern : (n : ℕ) → Grown (pattern n) (pattern_at n) (pattern (suc n)) (pattern_at (suc n))
unfolding pattern_at
g_pattern n = g_pattern_over (squares n) (squares (suc n)) (rounds n) (rounds (suc n)) (squares_at n) (squares_at (suc n)) (rounds_at n) (rounds_at (suc n)) (firm_squares n) (firm_rounds n) (g_squares n) (g_rounds n)

g_term_at : (n : ℕ) → Grown (term (args n)) (term_at n) (term (args (suc n))) (term_at (suc n))
unfolding term_at
g_term_at n = g_term (args n) (args (suc n)) (args_at n) (args_at (suc n)) (firm_args n) (g_args n)

g_same : {A : Type 0} {P Q P' Q' : Part_of A} {R R' : Reads A} → Same P Q → Same P' Q' → Grown P R P' R' → Grown Q R Q' R'
g_same s t g = record {
  whole = λ u a w. t.whole_to u a (g.whole u a (s.whole_from u a w));
  begins = λ u b. t.begins_to u (g.begins u (s.begins_from u b));
  same = g.same;
  refused = g.refused;
  deep = λ l n e. let d = g.deep l n e in record { front = d.front; token = d.token; rest = d.rest; parts = d.parts; place = d.place; bracket = d.bracket; begins = t.begins_to (d.front ++ d.token ∷ []) d.begins };
}

g_imports : Grown imports imports_at imports imports_at
unfolding imports_at
g_imports = grows_means imports_of (g_behind s.Imports (g_before s.Semicolon fit_names g_names))

g_class : Grown class class_reads class class_reads
unfolding class_reads
g_class = grows_means class_at (grows_one opens (by is_class))

g_symbols : Grown symbols symbols_at symbols symbols_at
unfolding symbols_at public_class_at same_sort
g_symbols = grows_means symbols_of (g_behind s.Symbol (g_row firm_class.fit g_class (λ _. g_row fit_public_class (g_maybe (same_sort s.Public) (firm_behind s.Public firm_class refl refl refl).fit (g_behind s.Public g_class)) (λ _. g_before s.Semicolon fit_names g_names))))

module _ (n : ℕ) where
  g_part : Grown (part n) (part_at n) (part (suc n)) (part_at (suc n))
  unfolding part_at
  g_part = g_choice redirects (grows_means part_redirect (g_row fit_lower g_lower (λ _. g_behind s.Becomes (g_term_at n)))) (grows_means part_term (g_term_at n))

  g_comma_part : Grown (behind s.Comma (part n)) (comma_part_at n) (behind s.Comma (part (suc n))) (comma_part_at (suc n))
  unfolding comma_part_at
  g_comma_part = g_behind s.Comma g_part

  g_rewriting : Grown (rewriting n) (rewriting_at n) (rewriting (suc n)) (rewriting_at (suc n))
  unfolding rewriting_at plain_parts_at plain_at
  g_rewriting = grows_means rewrites_of (g_behind s.Rewrites (g_list (same_sort s.Comma) (firm_plain n).fit (grows_means part_term (g_term_at n)) (firm_comma_part n).fit g_comma_part))

  g_redirecting : Grown (redirecting n) (redirecting_at n) (redirecting (suc n)) (redirecting_at (suc n))
  unfolding redirecting_at parts_at
  g_redirecting = grows_means redirects_of (g_behind s.Arrow (g_list (same_sort s.Comma) (firm_part n).fit g_part (firm_comma_part n).fit g_comma_part))

  g_rule : Grown (rule n) (rule_at n) (rule (suc n)) (rule_at (suc n))
  unfolding rule_at right_side_at
  g_rule = grows_means rule_of (grows_placed (λ t. t.place)
      (g_same (same_parted (pattern n) (rewriting n) (redirecting n)) (same_parted (pattern (suc n)) (rewriting (suc n)) (redirecting (suc n)))
      (g_row (firm_pattern_at n).fit (g_pattern n) (λ _. g_choice (head_is (by (same_sort s.Rewrites))) g_rewriting g_redirecting))))

  g_group : Grown (group n) (group_at n) (group (suc n)) (group_at (suc n))
  unfolding group_at rule_list_at bar_rule_at
  g_group = grows_means group_of (g_before s.Semicolon (firm_rule_list n).fit (g_list (same_sort s.Bar) (firm_rule n).fit g_rule (firm_bar_rule n).fit (g_behind s.Bar g_rule)))

  g_rules : Grown (rules n) (rules_at n) (rules (suc n)) (rules_at (suc n))
  unfolding rules_at groups_at
  g_rules = grows_means rules_of (g_behind s.Rule (g_list starts_piece (firm_group n).fit g_group (firm_group n).fit g_group))

  g_named : Grown (named n) (named_at n) (named (suc n)) (named_at (suc n))
  unfolding named_at public_at same_sort
  g_named = grows_means pattern_named_of (g_behind s.Pattern (g_row fit_public (grows_means is_some (g_maybe (same_sort s.Public) (fit_sign s.Public) (g_sign s.Public))) (λ _. g_row fit_upper g_upper (λ _. g_behind s.Equals (g_before s.Semicolon (firm_pattern_at n).fit (g_pattern n))))))

  g_initial : Grown (initial n) (initial_at n) (initial (suc n)) (initial_at (suc n))
  unfolding initial_at terms_at comma_term_at
  g_initial = grows_means initial_of (g_row (fit_sign s.Initial) (g_sign s.Initial) (λ _. g_behind s.Rewrites (g_before s.Semicolon (firm_terms n).fit (g_list (same_sort s.Comma) (firm_term_at n).fit (g_term_at n) (firm_comma_term n).fit (g_behind s.Comma (g_term_at n))))))

  g_item : Grown (an_item n) (item_at n) (an_item (suc n)) (item_at (suc n))
  unfolding item_at
  g_item = g_choice (head_is (by (same_sort s.Imports))) g_imports (g_choice (head_is (by (same_sort s.Symbol))) g_symbols (g_choice (head_is (by (same_sort s.Pattern))) g_named (g_choice (head_is (by (same_sort s.Rule))) g_rules g_initial)))

  g_module : Grown (a_module n) (module_at n) (a_module (suc n)) (module_at (suc n))
  unfolding module_at items_at same_sort
  g_module = grows_means module_of (g_behind s.Module (g_row (firm_before s.Semicolon firm_upper refl refl refl).fit (g_before s.Semicolon fit_upper g_upper)
      (λ name. g_row (fit_items n) (g_many starts_item (firm_item n).fit g_item) (λ _. g_behind s.EndModule (g_before s.Semicolon (firm_name name).fit (grows_one opens (is_name name)))))))

  g_modules : Grown (several (a_module n)) (modules_at n) (several (a_module (suc n))) (modules_at (suc n))
  unfolding modules_at
  g_modules = g_list (same_sort s.Module) (firm_module n).fit g_module (firm_module n).fit g_module

  pub g_text : Grown (text n) (text_at n) (text (suc n)) (text_at (suc n))
  unfolding text_at language_at same_sort
  g_text = g_row fit_language (grows_means language_of (g_maybe (same_sort s.Header) (fit_sign s.Header) (g_sign s.Header))) (λ _. g_modules)
