-- Reading items, modules and texts is exact for their grammar.
use Rattle.std.proofs.Common.{◌≡◌, ℕ, Bool, true, List, [], ◌∷◌, refl}
use Rattle.std.proofs.lemmas.Bool.{and_parts}
use Rattle.std.specs.Prelude.{◌||◌, is_some}
use Rattle.std.specs.Str.{bytes_eq}
use Rattle.dactl_terminals.specs.declared.token.Sort.{Sort}
use Rattle.dactl_terminals.specs.declared.token.Sort.TheVariants as s
use Rattle.dactl_meaning.specs.declared.tree.Name.{Name}
use Rattle.dactl_terminals.specs.Sort.{same_sort}
use Rattle.dactl_syntax.specs.Sort.{starts_term, starts_piece, is_class, starts_item}
use Rattle.dactl_grammar.specs.Grammar.{StartsOne, one, maybe, many, means}
use Rattle.dactl_grammar.specs.Reader.{read_one}
use Rattle.dactl_terminals.specs.Parts.{Tok, is, sign, behind, before, separated}
use Rattle.dactl_syntax.specs.Productions.{several, term, args, imports_of, imports, class_at, class, symbols_of, symbols, pattern_named_of, named, rules_of, rules, initial_of, initial, an_item, is_name, module_of, a_module, language_of, text}
use Rattle.dactl_terminals.specs.Reads.{by}
use Rattle.dactl_syntax.specs.Reading.{comma_term_at, terms_at, items_at, imports_at, class_reads, public_class_at, public_at, symbols_at, named_at, rules_at, initial_at, item_at, module_end, module_at, modules_at, language_at, text_at}
use Rattle.dactl_grammar.proofs.Exact.{exact_one}
use Rattle.dactl_terminals.proofs.Fits.{none, Fit, a_meaning}
use Rattle.dactl_terminals.proofs.Firm.{Firm, firm_sign, firm_as, firm_pair, firm_after, firm_behind, firm_before, firm_choice, firm_or, fit_option, fit_repeat, firm_list, firm_upper, firm_names}
use Rattle.dactl_syntax.proofs.TermLaws.{goes_on_term}
use Rattle.dactl_syntax.proofs.PatternLaws.{firm_pattern_at}
use Rattle.dactl_syntax.proofs.RuleLaws.{firm_term_at, firm_groups}

-- a token that a test of its own picks
pub firm_test : (c : Tok → Bool) (f : Sort → Bool) → ((t : Tok) → c t ≡ true → f t.sort ≡ true) → Firm (one c) (read_one c) f none
firm_test c f h = record { fit = record { exact = exact_one c; starts = starts }; solid = λ a w. absurd cc }
  where
    starts : (t : Tok) (l : List Tok) → StartsOne c (t ∷ l) → f t.sort ≡ true
    starts t [] b = h t b
    starts t (u ∷ l) b = absurd b

pub fit_language : Fit (means language_of (maybe (sign s.Header))) language_at (same_sort s.Header) (same_sort s.Header)
unfolding same_sort language_at
fit_language = a_meaning language_of (fit_option (same_sort s.Header) (firm_sign s.Header) refl refl)

abbrev starts_text : Sort → Bool
starts_text t = same_sort s.Header t || same_sort s.Module t

abbrev goes_on_terms : Sort → Bool
goes_on_terms t = same_sort s.Comma t || goes_on_term t

firm_imports : Firm imports imports_at (same_sort s.Imports) none
unfolding same_sort imports_at
firm_imports = firm_as imports_of (firm_behind s.Imports (firm_before s.Semicolon firm_names refl refl refl) refl refl refl)

pub firm_class : Firm class class_reads is_class none
unfolding class_reads
firm_class = firm_as class_at (firm_test (by is_class) is_class (λ t h. h))

abbrev starts_public : Sort → Bool
starts_public t = same_sort s.Public t || same_sort s.Upper t

pub fit_public_class : Fit (maybe (behind s.Public class)) public_class_at (same_sort s.Public) (same_sort s.Public)
unfolding same_sort public_class_at
fit_public_class = fit_option (same_sort s.Public) (firm_behind s.Public firm_class refl refl refl) refl refl

firm_symbols : Firm symbols symbols_at (same_sort s.Symbol) none
unfolding same_sort symbols_at
firm_symbols = firm_as symbols_of (firm_behind s.Symbol
    (firm_pair firm_class (λ _. firm_after starts_public fit_public_class (λ _. firm_before s.Semicolon firm_names refl refl refl) refl refl refl refl) refl refl refl) refl refl refl)

pub fit_public : Fit (means is_some (maybe (sign s.Public))) public_at (same_sort s.Public) (same_sort s.Public)
unfolding same_sort public_at
fit_public = a_meaning is_some (fit_option (same_sort s.Public) (firm_sign s.Public) refl refl)

abbrev starts_rest : Sort → Bool
starts_rest t = starts_item t || same_sort s.EndModule t

abbrev pub goes_on_items : Sort → Bool
goes_on_items t = starts_item t || starts_piece t

pub firm_name : (name : Name) → Firm (one (is_name name)) (read_one (is_name name)) (same_sort s.Upper) none
firm_name name = firm_test (is_name name) (same_sort s.Upper) (λ t h. (and_parts (is s.Upper t) (bytes_eq t.word name.text) h).0)

module _ (n : ℕ) where
  firm_named : Firm (named n) (named_at n) (same_sort s.Pattern) none
  unfolding same_sort named_at
  firm_named = firm_as pattern_named_of (firm_behind s.Pattern
      (firm_after starts_public fit_public (λ _. firm_pair firm_upper (λ _. firm_behind s.Equals (firm_before s.Semicolon (firm_pattern_at n) refl refl refl) refl refl refl) refl refl refl)
      refl refl refl refl) refl refl refl)

  firm_rules : Firm (rules n) (rules_at n) (same_sort s.Rule) starts_piece
  unfolding same_sort rules_at
  firm_rules = firm_as rules_of (firm_behind s.Rule (firm_groups n) refl refl refl)

  pub firm_comma_term : Firm (behind s.Comma (term (args n))) (comma_term_at n) (same_sort s.Comma) goes_on_term
  unfolding same_sort comma_term_at
  firm_comma_term = firm_behind s.Comma (firm_term_at n) refl refl refl

  pub firm_terms : Firm (separated s.Comma (term (args n))) (terms_at n) starts_term goes_on_terms
  unfolding same_sort terms_at
  firm_terms = firm_list goes_on_terms (firm_term_at n) firm_comma_term refl refl refl refl refl refl refl

  firm_initial : Firm (initial n) (initial_at n) (same_sort s.Initial) none
  unfolding same_sort initial_at
  firm_initial = firm_as initial_of (firm_pair (firm_sign s.Initial) (λ _. firm_behind s.Rewrites (firm_before s.Semicolon firm_terms refl refl refl) refl refl refl) refl refl refl)

  pub firm_item : Firm (an_item n) (item_at n) starts_item starts_piece
  unfolding same_sort item_at
  firm_item = firm_choice starts_item starts_piece firm_imports
      (firm_or starts_piece firm_symbols (firm_or starts_piece firm_named (firm_or starts_piece firm_rules firm_initial
      refl refl refl) refl refl refl) refl refl refl) refl refl refl refl refl

  firm_end : (name : Name) → Firm (behind s.EndModule (before (one (is_name name)) s.Semicolon)) (module_end name) (same_sort s.EndModule) none
  unfolding same_sort
  firm_end name = firm_behind s.EndModule (firm_before s.Semicolon (firm_name name) refl refl refl) refl refl refl

  pub fit_items : Fit (many (an_item n)) (items_at n) starts_item goes_on_items
  unfolding items_at
  fit_items = fit_repeat goes_on_items firm_item refl refl refl

  pub firm_module : Firm (a_module n) (module_at n) (same_sort s.Module) none
  unfolding same_sort module_at
  firm_module = firm_as module_of (firm_behind s.Module
      (firm_pair (firm_before s.Semicolon firm_upper refl refl refl) (λ name. firm_after starts_rest fit_items (λ _. firm_end name) refl refl refl refl) refl refl refl) refl refl refl)

  pub firm_modules : Firm (several (a_module n)) (modules_at n) (same_sort s.Module) (same_sort s.Module)
  unfolding same_sort modules_at
  firm_modules = firm_list (same_sort s.Module) firm_module firm_module refl refl refl refl refl refl refl

  pub firm_text : Firm (text n) (text_at n) starts_text (same_sort s.Module)
  unfolding same_sort text_at
  firm_text = firm_after starts_text fit_language (λ _. firm_modules) refl refl refl refl
