-- The tokens of a text as equations see them: upper names are spelled as names, and values have 64 bits.
use Rattle.std.proofs.Common.{◌≡◌, ℕ, Bool, true, false, List, Some, refl, ap, ◌∙◌}
use Rattle.std.specs.Prelude.{◌&&◌, ◌||◌, not, codes}
use Rattle.std.specs.List.{AllByRecursion as Each, list_all}
use Rattle.std.specs.Str.{bytes_eq}
use Rattle.dactl_model.specs.Integers.{is_word}
use Rattle.dactl_model.specs.Names.{is_upper_name, begins_capital, is_word_byte, is_keyword}
use Rattle.dactl_tokens.specs.declared.token.Token.{Token}
use Rattle.dactl_tokens.specs.declared.token.TokenKind.TheVariants as kinds
use Rattle.dactl_tokens.specs.Lexes.{Lexes, has_header, header}
use Rattle.dactl_syntax.proofs.TokenFacts.{upper_named}
use Rattle.dactl_terminals.specs.declared.token.Sort.TheVariants as s
use Rattle.dactl_terminals.specs.Sort.{same_sort}
use Rattle.dactl_terminals.specs.Parts.{Tok, is, value_at}
use Rattle.dactl_terminals.specs.Seen.{between, sort_of, token_seen}
use Rattle.fun_syntax.specs.Answer.{tokens_seen}
use Rattle.dactl_terminals.proofs.Told.{kind_told, OfWords, tokens_hold}
use Rattle.dactl_terminals.proofs.Values.{value_small}
use Rattle.dactl_syntax.proofs.Narrow.{word_within}

-- ---- upper names

-- a name of language 2 is one of language 1
narrow_name : (wide : Bool) (w : List ℕ) → is_upper_name wide w ≡ true → is_upper_name false w ≡ true
unfolding is_keyword
narrow_name wide w = by (begins_capital w) (list_all is_word_byte w) _ (wide && bytes_eq w (codes "CHAR"))
  where
    by : (a b k c : Bool) → (a && b && not (k || c)) ≡ true → (a && b && not (k || false)) ≡ true
    by true true true c h = absurd cc
    by true true false c h = refl
    by true false k c h = absurd cc
    by false b k c h = absurd cc

-- ---- all tokens

-- an upper name is spelled as a name, and the value has 64 bits
pub record IsSpelt (t : Tok) : Type 0 where
  pub upper : is s.Upper t ≡ true → is_upper_name false t.word ≡ true
  pub value : is_word (value_at false t.word) ≡ true

abbrev pub AreSpeltTokens : List Tok → Type 0
AreSpeltTokens l = Each IsSpelt l

spelt_by : (wide : Bool) → OfWords true wide IsSpelt
spelt_by wide k word place kind fits = record {
  upper = λ h. narrow_name wide word (upper_named wide word (kind ∙ ap Some (kind_told s.Upper kinds.Upper refl true k word h)));
  value = word_within (value_at false word) (value_small false word);
}

-- the Header is no name
header_spelt : (text : List ℕ) → IsSpelt (token_seen true text header)
unfolding sort_of same_sort
header_spelt text = record { upper = λ h. absurd cc; value = word_within (value_at false (between text 0 8)) (value_small false (between text 0 8)) }

-- the tokens of a text are so
pub tokens_are_spelt : (text : List ℕ) (ts : List Token) → Lexes text ts → AreSpeltTokens (tokens_seen text ts)
tokens_are_spelt text ts w = tokens_hold true text IsSpelt (spelt_by (has_header text)) (λ h. header_spelt text) ts w
