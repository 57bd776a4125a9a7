-- The language of a tree is that of its bytes: 2 where they begin with the Header.
use Rattle.std.proofs.Common.{◌≡◌, ℕ, Bool, true, false, cond, List, [], ◌∷◌, ◌++◌, Option, Some, None, refl, sym, ap, subst, ◌∙◌}
use Rattle.std.specs.Prelude.{◌==◌}
use Rattle.dactl_grammar.specs.Grammar.{WholeMaybe}
use Rattle.dactl_tokens.specs.Lexes.{has_header}
use Rattle.dactl_terminals.specs.declared.token.Sort.TheVariants as s
use Rattle.dactl_meaning.specs.declared.tree.Module.{Module}
use Rattle.dactl_meaning.specs.declared.tree.Text.{Text}
use Rattle.dactl_meaning.specs.Meaning.{is_wide}
use Rattle.dactl_terminals.specs.Sort.{same_sort}
use Rattle.dactl_terminals.specs.Parts.{Tok, sign}
use Rattle.dactl_syntax.specs.Productions.{several, a_module, language_of}
use Rattle.dactl_syntax.specs.Answer.{tokens_seen, most_open}
use Rattle.dactl_syntax.specs.Laws.{Reads}
use Rattle.dactl_terminals.proofs.Sorts.{apart}
use Rattle.dactl_syntax.proofs.TokenFacts.{StartsAs, tokens_are_seen, tokens_start}
use Rattle.dactl_syntax.proofs.Holding.{AreTold, split_told}
use Rattle.dactl_syntax.proofs.ModuleLaws.{firm_modules}

-- no Header begins modules
no_header_first : (l : List Tok) (ms : List Module) → (several (a_module most_open)).whole l ms → StartsAs true l → ⊥
unfolding same_sort
no_header_first [] ms w h = absurd cc
no_header_first (t ∷ l) ms w h =
    let fit = (firm_modules most_open).fit in
    let first = fit.starts t l (fit.exact.whole_begins (t ∷ l) ms w) in
    let other = apart (same_sort s.Header) (same_sort s.Module) refl t.sort h in
    absurd cc

-- the language that the tokens before the modules tell
told : (wide : Bool) (l front back : List Tok) (ms : List Module) (o : Option Tok) → l ≡ front ++ back → StartsAs wide l → WholeMaybe (sign s.Header) front o → (several (a_module most_open)).whole back ms → (language_of o == 2) ≡ wide
told true l front back ms None e h f w = absurd (no_header_first back ms w (subst (StartsAs true) (e ∙ ap (λ (k : List Tok). k ++ back) f) h))
told false l front back ms None e h f w = refl
told wide l front back ms (Some t) e h f w = sym f.1 ∙ subst (StartsAs wide) (e ∙ ap (λ (k : List Tok). k ++ back) f.0) h

pub language_read : (bytes : List ℕ) (tree : Text) → Reads bytes tree → is_wide tree ≡ has_header bytes
language_read bytes tree r =
    let row = r.is_tree.derives in
    ap (λ (k : ℕ). k == 2) row.first.is ∙ told (has_header bytes) (tokens_seen bytes r.tokens) row.front row.back tree.modules row.first.value row.parts (tokens_start bytes r.tokens r.lexes) row.first.inner row.second

-- a language is 2 or 1
numbered : (o : Option Tok) (b : Bool) → (language_of o == 2) ≡ b → language_of o ≡ cond b 2 1
numbered None true e = absurd cc
numbered None false e = refl
numbered (Some t) true e = refl
numbered (Some t) false e = absurd cc

pub language_is : (bytes : List ℕ) (tree : Text) → Reads bytes tree → tree.language ≡ cond (has_header bytes) 2 1
language_is bytes tree r =
    let first = r.is_tree.derives.first in
    let e = first.is in
    e ∙ numbered first.value (has_header bytes) (ap (λ (k : ℕ). k == 2) (sym e) ∙ language_read bytes tree r)

-- the tokens of the modules
pub record ModulesRead (bytes : List ℕ) (tree : Text) : Type 0 where
  pub tokens : List Tok
  pub told : AreTold (has_header bytes) tokens
  pub derives : (several (a_module most_open)).whole tokens tree.modules

pub modules_read : (bytes : List ℕ) (tree : Text) → Reads bytes tree → ModulesRead bytes tree
modules_read bytes tree r =
    let row = r.is_tree.derives in
    let wide : Bool = has_header bytes in
    record {
      tokens = row.back;
      told = (split_told wide row.front row.back (subst (AreTold wide) row.parts (tokens_are_seen bytes r.tokens r.lexes).told)).1;
      derives = row.second;
    }
