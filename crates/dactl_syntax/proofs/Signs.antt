-- Each sign, keyword and name is written as the token that it is.
use Rattle.std.proofs.Common.{◌≡◌, ℕ, Bool, true, inl, inr, List, Option, None, Some, refl, sym, ap, subst, false}
use Rattle.std.specs.Prelude.{codes, ℤ, ◌<◌}
use Rattle.std.specs.Int.Signed.{mag}
use Rattle.std.specs.Fmt.{signed_decimal}
use Rattle.dactl_tokens.specs.declared.token.TokenKind.TheVariants as kinds
use Rattle.dactl_tokens.specs.Spelling.{kind_of, bound, is_keyword, is_sign_byte, is_long_sign}
use Rattle.dactl_terminals.specs.declared.token.Sort.{Sort}
use Rattle.dactl_terminals.specs.declared.token.Sort.TheVariants as s
use Rattle.dactl_meaning.specs.declared.tree.Name.{Name}
use Rattle.dactl_terminals.specs.Sort.{same_sort}
use Rattle.dactl_terminals.specs.Parts.{is, sign, name_of, upper, lower, value_at}
use Rattle.dactl_syntax.specs.Productions.{letter}
use Rattle.dactl_terminals.specs.Seen.{keyword_sort, sign_sort, sort_of}
use Rattle.dactl_syntax.specs.Canonical.{word, line_end, character}
use Rattle.dactl_meaning.specs.Unplaced.{bare_name}
use Rattle.dactl_syntax.proofs.TokenFacts.{character_bytes, character_is}
use Rattle.dactl_syntax.proofs.Holding.{Anything}
use Rattle.dactl_syntax.proofs.Numbers.{decimal_spelled}
use Rattle.dactl_grammar.proofs.Holds.{IfThere}
use Rattle.dactl_syntax.proofs.Back.{Back, SameBy, back_one, back_means}

-- ---- signs and keywords

no_integer_sign : kinds.Sign ≡ kinds.Integer → ⊥
no_integer_sign e = cc

pub no_integer_keyword : kinds.Keyword ≡ kinds.Integer → ⊥
no_integer_keyword e = cc

pub no_integer_upper : kinds.Upper ≡ kinds.Integer → ⊥
no_integer_upper e = cc

no_integer_lower : kinds.Lower ≡ kinds.Integer → ⊥
no_integer_lower e = cc

no_integer_character : kinds.Character ≡ kinds.Integer → ⊥
no_integer_character e = cc

module _ (wide : Bool) where
  -- a sign before a space
  sign_word : (k : Sort) (bytes : List ℕ) → kind_of wide bytes ≡ Some kinds.Sign → same_sort k (sort_of false kinds.Sign bytes) ≡ true → Back wide (sign k) (word bytes) Anything
  sign_word k bytes e h = back_one (is k) (record { kind = kinds.Sign; bytes = bytes; blank = 32 }) Anything (record { kind = e; fits = λ i. absurd (no_integer_sign i); space = inl refl }) (λ place. h) (λ place. tt)

  keyword_word : (k : Sort) (bytes : List ℕ) → kind_of wide bytes ≡ Some kinds.Keyword → same_sort k (sort_of false kinds.Keyword bytes) ≡ true → Back wide (sign k) (word bytes) Anything
  keyword_word k bytes e h = back_one (is k) (record { kind = kinds.Keyword; bytes = bytes; blank = 32 }) Anything (record { kind = e; fits = λ i. absurd (no_integer_keyword i); space = inl refl }) (λ place. h) (λ place. tt)

  pub semicolon_back : Back wide (sign s.Semicolon) line_end Anything
  unfolding kind_of is_sign_byte is_long_sign sort_of sign_sort same_sort
  semicolon_back = back_one (is s.Semicolon) (record { kind = kinds.Sign; bytes = codes ";"; blank = 10 }) Anything (record { kind = refl; fits = λ i. absurd (no_integer_sign i); space = inr refl }) (λ place. refl) (λ place. tt)

  -- the bytes of the signs and keywords that are the same in both languages
  abbrev bytes_of : Sort → Option (List ℕ)
  bytes_of s.Open = Some (codes "[")
  bytes_of s.Close = Some (codes "]")
  bytes_of s.Left = Some (codes "(")
  bytes_of s.Right = Some (codes ")")
  bytes_of s.Comma = Some (codes ",")
  bytes_of s.Bar = Some (codes "|")
  bytes_of s.Colon = Some (codes ":")
  bytes_of s.Becomes = Some (codes ":=")
  bytes_of s.Equals = Some (codes "=")
  bytes_of s.Rewrites = Some (codes "=>")
  bytes_of s.Arrow = Some (codes "->")
  bytes_of s.Star = Some (codes "*")
  bytes_of s.Hash = Some (codes "#")
  bytes_of s.Wait = Some (codes "^")
  bytes_of s.Plus = Some (codes "+")
  bytes_of s.Minus = Some (codes "-")
  bytes_of s.Module = Some (codes "MODULE")
  bytes_of s.EndModule = Some (codes "ENDMODULE")
  bytes_of s.Imports = Some (codes "IMPORTS")
  bytes_of s.Symbol = Some (codes "SYMBOL")
  bytes_of s.Pattern = Some (codes "PATTERN")
  bytes_of s.Rule = Some (codes "RULE")
  bytes_of s.Initial = Some (codes "INITIAL")
  bytes_of s.Public = Some (codes "PUBLIC")
  bytes_of s.Any = Some (codes "ANY")
  bytes_of s.Int = Some (codes "INT")
  bytes_of _ = None

  pub sign_back : (k : Sort) → IfThere (λ w. Back wide (sign k) (word w) Anything) (bytes_of k)
  unfolding kind_of is_keyword is_sign_byte is_long_sign sort_of keyword_sort sign_sort same_sort
  sign_back s.Open = sign_word s.Open (codes "[") refl refl
  sign_back s.Close = sign_word s.Close (codes "]") refl refl
  sign_back s.Left = sign_word s.Left (codes "(") refl refl
  sign_back s.Right = sign_word s.Right (codes ")") refl refl
  sign_back s.Comma = sign_word s.Comma (codes ",") refl refl
  sign_back s.Bar = sign_word s.Bar (codes "|") refl refl
  sign_back s.Colon = sign_word s.Colon (codes ":") refl refl
  sign_back s.Becomes = sign_word s.Becomes (codes ":=") refl refl
  sign_back s.Equals = sign_word s.Equals (codes "=") refl refl
  sign_back s.Rewrites = sign_word s.Rewrites (codes "=>") refl refl
  sign_back s.Arrow = sign_word s.Arrow (codes "->") refl refl
  sign_back s.Star = sign_word s.Star (codes "*") refl refl
  sign_back s.Hash = sign_word s.Hash (codes "#") refl refl
  sign_back s.Wait = sign_word s.Wait (codes "^") refl refl
  sign_back s.Plus = sign_word s.Plus (codes "+") refl refl
  sign_back s.Minus = sign_word s.Minus (codes "-") refl refl
  sign_back s.Module = keyword_word s.Module (codes "MODULE") refl refl
  sign_back s.EndModule = keyword_word s.EndModule (codes "ENDMODULE") refl refl
  sign_back s.Imports = keyword_word s.Imports (codes "IMPORTS") refl refl
  sign_back s.Symbol = keyword_word s.Symbol (codes "SYMBOL") refl refl
  sign_back s.Pattern = keyword_word s.Pattern (codes "PATTERN") refl refl
  sign_back s.Rule = keyword_word s.Rule (codes "RULE") refl refl
  sign_back s.Initial = keyword_word s.Initial (codes "INITIAL") refl refl
  sign_back s.Public = keyword_word s.Public (codes "PUBLIC") refl refl
  sign_back s.Any = keyword_word s.Any (codes "ANY") refl refl
  sign_back s.Int = keyword_word s.Int (codes "INT") refl refl
  sign_back _ = tt

  pub char_back : wide ≡ true → Back wide (sign s.Char) (word (codes "CHAR")) Anything
  unfolding kind_of is_keyword sort_of keyword_sort same_sort
  char_back e = keyword_word s.Char (codes "CHAR") (subst (λ (x : Bool). kind_of x (codes "CHAR") ≡ Some kinds.Keyword) (sym e) refl) refl

  -- ---- names, integers and characters

  pub upper_back : (name : Name) → kind_of wide name.text ≡ Some kinds.Upper → Back wide upper (word name.text) (SameBy bare_name name)
  unfolding sort_of same_sort
  upper_back name e = back_means name_of (SameBy bare_name name) (λ t h. ap (λ (w : List ℕ). record { text = w; place = record { byte = 0 } }) h)
      (back_one (is s.Upper) (record { kind = kinds.Upper; bytes = name.text; blank = 32 }) (λ t. t.word ≡ name.text) (record { kind = e; fits = λ i. absurd (no_integer_upper i); space = inl refl }) (λ place. refl) (λ place. refl))

  pub lower_back : (name : Name) → kind_of wide name.text ≡ Some kinds.Lower → Back wide lower (word name.text) (SameBy bare_name name)
  unfolding sort_of same_sort
  lower_back name e = back_means name_of (SameBy bare_name name) (λ t h. ap (λ (w : List ℕ). record { text = w; place = record { byte = 0 } }) h)
      (back_one (is s.Lower) (record { kind = kinds.Lower; bytes = name.text; blank = 32 }) (λ t. t.word ≡ name.text) (record { kind = e; fits = λ i. absurd (no_integer_lower i); space = inl refl }) (λ place. refl) (λ place. refl))

  pub integer_back : (value : ℤ) → mag value < bound wide → Back wide (sign s.Integer) (word (signed_decimal value)) (λ t. value_at true t.word ≡ value)
  unfolding sort_of same_sort
  integer_back value h =
      let spelled = decimal_spelled wide value h in
      back_one (is s.Integer) (record { kind = kinds.Integer; bytes = signed_decimal value; blank = 32 }) (λ t. value_at true t.word ≡ value) (record { kind = spelled.kind; fits = λ i. spelled.fits; space = inl refl }) (λ place. refl) (λ place. spelled.value)

  pub character_back : (w : List ℕ) → kind_of wide w ≡ Some kinds.Character → Back wide (sign s.Character) (character (letter w)) (λ t. letter t.word ≡ letter w)
  unfolding sort_of same_sort
  character_back w e =
      let kind = subst (λ (v : List ℕ). kind_of wide v ≡ Some kinds.Character) (character_is wide w e).bytes e in
      back_one (is s.Character) (record { kind = kinds.Character; bytes = character_bytes (letter w); blank = 32 }) (λ t. letter t.word ≡ letter w) (record { kind = kind; fits = λ i. absurd (no_integer_character i); space = inl refl }) (λ place. refl) (λ place. refl)
