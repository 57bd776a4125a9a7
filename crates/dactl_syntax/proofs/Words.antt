-- Words with a blank behind each are read as the tokens that they are.
use Rattle.std.proofs.Common.{◌≡◌, ℕ, zero, suc, ◌+◌, ◌<◌, Bool, true, false, cond, ◌⊎◌, inl, inr, List, [], ◌∷◌, ◌++◌, length, take, Option, Some, None, refl, sym, ap, subst, ◌∙◌, append_assoc, arith, length-append}
use Rattle.std.proofs.Math.Bool.{and-false, and-true}
use Rattle.std.specs.Prelude.{◌&&◌, ◌==◌}
use Rattle.std.specs.List.{AllByRecursion as Each}
use Rattle.std.proofs.lemmas.Bool.{eqb-true}
use Rattle.dactl_model.proofs.Unique.{left_true, right_true}
use Rattle.dactl_tokens.specs.declared.token.Token.{Token}
use Rattle.dactl_tokens.specs.declared.token.TokenKind.{TokenKind}
use Rattle.dactl_tokens.specs.declared.token.TokenKind.TheVariants as kinds
use Rattle.dactl_tokens.specs.Spelling.{is_upper, is_lower, is_digit, is_word, is_blank, all, sign_kind, is_long_sign, character_kind, kind_of, is_too_wide}
use Rattle.dactl_tokens.specs.Lexes.{IsGap, none, blank, IsLongest, Scans, ScansText, Lexes, has_header, header}
use Rattle.dactl_tokens.proofs.OneReading.{kind_nil}
use Rattle.dactl_tokens.proofs.Longest.{at_quote, past_three}
use Rattle.dactl_syntax.specs.Canonical.{header_text}
use Rattle.dactl_terminals.specs.Parts.{Tok}
use Rattle.dactl_terminals.specs.Seen.{between, tok_of, token_seen}
use Rattle.dactl_syntax.specs.Answer.{tokens_seen}
use Rattle.dactl_terminals.proofs.Told.{between_is}

-- a word, what kind of token it is, and the blank behind it
pub record Word : Type 0 where
  pub kind : TokenKind
  pub bytes : List ℕ
  pub blank : ℕ

-- a space or LF
abbrev pub IsSpace : ℕ → Type 0
IsSpace b = (b ≡ 32) ⊎ (b ≡ 10)

-- a token of a language, with a space behind it
pub record IsFine (wide : Bool) (w : Word) : Type 0 where
  pub kind : kind_of wide w.bytes ≡ Some w.kind
  pub fits : w.kind ≡ kinds.Integer → is_too_wide wide w.bytes ≡ false
  pub space : IsSpace w.blank

-- the bytes of words
abbrev pub text_of : List Word → List ℕ
text_of [] = []
text_of (w ∷ ws) = (w.bytes ++ w.blank ∷ []) ++ text_of ws

-- the place behind a word and its blank, and behind words
abbrev pub next : ℕ → Word → ℕ
next place w = place + length w.bytes + 1

abbrev pub after : ℕ → List Word → ℕ
after place [] = place
after place (w ∷ ws) = after (next place w) ws

-- the tokens of words from a place on, as the grammar sees them
abbrev pub tok_at : ℕ → Word → Tok
tok_at place w = tok_of false w.kind w.bytes place

abbrev pub toks_at : ℕ → List Word → List Tok
toks_at place [] = []
toks_at place (w ∷ ws) = tok_at place w ∷ toks_at (next place w) ws

abbrev token_at : ℕ → Word → Token
token_at place w = record { kind = w.kind; from = place; to = place + length w.bytes }

abbrev pub tokens_at : ℕ → List Word → List Token
tokens_at place [] = []
tokens_at place (w ∷ ws) = token_at place w ∷ tokens_at (next place w) ws

-- ---- rows of words

pub text_row : (xs ys : List Word) → text_of (xs ++ ys) ≡ text_of xs ++ text_of ys
text_row [] ys = refl
text_row (w ∷ xs) ys = ap (λ (z : List ℕ). (w.bytes ++ w.blank ∷ []) ++ z) (text_row xs ys) ∙ sym (append_assoc (w.bytes ++ w.blank ∷ []) (text_of xs) (text_of ys))

pub toks_row : (place : ℕ) (xs ys : List Word) → toks_at place (xs ++ ys) ≡ toks_at place xs ++ toks_at (after place xs) ys
toks_row place [] ys = refl
toks_row place (w ∷ xs) ys = ap (λ (z : List Tok). tok_at place w ∷ z) (toks_row (next place w) xs ys)

-- ---- no token goes over a space

space_fails : (p : ℕ → Bool) → p 32 ≡ false → p 10 ≡ false → (b : ℕ) → IsSpace b → p b ≡ false
space_fails p s l b (inl e) = ap p e ∙ s
space_fails p s l b (inr e) = ap p e ∙ l

-- what fails at the space fails over it
fails_over : (p : ℕ → Bool) (bs more : List ℕ) (b k : ℕ) → p b ≡ false → length bs < k → all p (take k (bs ++ b ∷ more)) ≡ false
fails_over p [] more b zero h lt = absurd (omega arith)
fails_over p [] more b (suc k) h lt = rw h refl
fails_over p (c ∷ bs) more b zero h lt = absurd (omega arith)
fails_over p (c ∷ bs) more b (suc k) h lt = rw (fails_over p bs more b k h (omega arith)) (and-false (p c))

-- tests that no front over the space passes
record Fails (rest : List ℕ) : Type 0 where
  pub word : all is_word rest ≡ false
  pub digit : all is_digit rest ≡ false
  pub equals : all (λ c. c == 61) rest ≡ false
  pub more : all (λ c. c == 62) rest ≡ false

fails : (bs more : List ℕ) (b k : ℕ) → IsSpace b → length bs < k → Fails (take k (bs ++ b ∷ more))
fails bs more b k space lt = record {
  word = fails_over is_word bs more b k (space_fails is_word refl refl b space) lt;
  digit = fails_over is_digit bs more b k (space_fails is_digit refl refl b space) lt;
  equals = fails_over (λ c. c == 61) bs more b k (space_fails (λ c. c == 61) refl refl b space) lt;
  more = fails_over (λ c. c == 62) bs more b k (space_fails (λ c. c == 62) refl refl b space) lt;
}

no_sign : (b : ℕ) (rest : List ℕ) → Fails rest → sign_kind (b ∷ rest) ≡ None
unfolding is_long_sign
no_sign b [] f = let h = f.word in absurd cc
no_sign b (c ∷ []) f = rw (sym (and-true (c == 61)) ∙ f.equals, sym (and-true (c == 62)) ∙ f.more, sym (and-true (is_digit c)) ∙ f.digit, and-false (b == 58), and-false (b == 61), and-false (b == 45)) refl
no_sign b (c ∷ d ∷ rest) f = rw (f.digit, and-false (b == 45)) refl

cond_same : (b : Bool) (x : Option TokenKind) → cond b x x ≡ x
cond_same true x = refl
cond_same false x = refl

no_kind : (wide : Bool) (b : ℕ) (rest : List ℕ) → ((b == 39) && wide) ≡ false → Fails rest → kind_of wide (b ∷ rest) ≡ None
unfolding kind_of
no_kind wide b rest q f = rw (f.word, f.digit, q, no_sign b rest f, cond_same (is_digit b) None, cond_same (is_lower b) None, cond_same (is_upper b) None) refl

-- ---- nor does a character

quote_longest : (bytes more : List ℕ) (k : TokenKind) → character_kind bytes ≡ Some k → IsLongest true (length (39 ∷ bytes)) ((39 ∷ bytes) ++ more)
quote_longest [] more k e = absurd cc
quote_longest (c ∷ []) more k e = absurd cc
quote_longest (c ∷ d ∷ []) more k e = past_three c d more
quote_longest (c ∷ d ∷ b ∷ bytes) more k e = absurd cc

longest : (wide : Bool) (bytes more : List ℕ) (b : ℕ) (k : TokenKind) → kind_of wide bytes ≡ Some k → IsSpace b → IsLongest wide (length bytes) (bytes ++ b ∷ more)
longest wide [] more b kind e space = λ k lt le. absurd (kind_nil wide kind e)
longest wide (c ∷ bytes) more b kind e space = by ((c == 39) && wide) refl
  where
    after : (k : ℕ) → length (c ∷ bytes) < k → ((c == 39) && wide) ≡ false → kind_of wide (take k ((c ∷ bytes) ++ b ∷ more)) ≡ None
    after zero lt q = absurd (omega arith)
    after (suc k) lt q = no_kind wide c (take k (bytes ++ b ∷ more)) q (fails bytes more b k space (omega arith))

    quote : (d : ℕ) (w : Bool) → d ≡ 39 → w ≡ true → kind_of w (d ∷ bytes) ≡ Some kind → IsLongest w (length (d ∷ bytes)) ((d ∷ bytes) ++ b ∷ more)
    quote d w f g h =
        let h' = subst (λ (x : ℕ). kind_of w (x ∷ bytes) ≡ Some kind) f h in
        let h'' = subst (λ (x : Bool). kind_of x (39 ∷ bytes) ≡ Some kind) g h' in
        subst (λ (x : ℕ). IsLongest w (length (x ∷ bytes)) ((x ∷ bytes) ++ b ∷ more)) (sym f)
        (subst (λ (x : Bool). IsLongest x (length (39 ∷ bytes)) ((39 ∷ bytes) ++ b ∷ more)) (sym g) (quote_longest bytes (b ∷ more) kind (sym (at_quote bytes) ∙ h'')))

    by : (q : Bool) → ((c == 39) && wide) ≡ q → IsLongest wide (length (c ∷ bytes)) ((c ∷ bytes) ++ b ∷ more)
    by true h = quote c wide (eqb-true c 39 (left_true (c == 39) wide h)) (right_true (c == 39) wide h) e
    by false h = λ k lt le. after k lt h

-- ---- the tokens are read

space_gap : (b : ℕ) → IsSpace b → IsGap (b ∷ [])
space_gap b h = blank b [] (is_space b h) none
  where
    is_space : (b : ℕ) → IsSpace b → is_blank b ≡ true
    is_space b (inl e) = ap is_blank e
    is_space b (inr e) = ap is_blank e

scans_words : (wide : Bool) (ws : List Word) (place : ℕ) (gap : List ℕ) → IsGap gap → Each (IsFine wide) ws → (end : ℕ) × Scans wide place (gap ++ text_of ws) (tokens_at (place + length gap) ws) end []
scans_words wide [] place gap g h = (place + length gap, record { gap = gap; parts = refl; is_gap = g; at = refl })
scans_words wide (w ∷ ws) place gap g h =
    let start = place + length gap in
    let later = scans_words wide ws (start + length w.bytes) (w.blank ∷ []) (space_gap w.blank h.0.space) h.1 in (
      later.0,
      record {
        gap = gap;
        word = w.bytes;
        more = w.blank ∷ text_of ws;
        parts = ap (λ (z : List ℕ). gap ++ z) (append_assoc w.bytes (w.blank ∷ []) (text_of ws));
        is_gap = g;
        is_token = record { kind = h.0.kind; longest = longest wide w.bytes (text_of ws) w.blank w.kind h.0.kind h.0.space; fits = h.0.fits; from = refl; to = refl };
        next = later.1;
      },
    )

-- words that don't begin as the Header does
pub words_lex : (ws : List Word) → Each (IsFine false) ws → has_header (text_of ws) ≡ false → Lexes (text_of ws) (tokens_at 0 ws)
words_lex ws h n =
    let s = scans_words false ws 0 [] none h in
    (s.0, subst (λ (x : Bool). ScansText x (text_of ws) (tokens_at 0 ws) s.0 []) (sym n) s.1)

-- words behind the Header and its LF
pub words_lex_wide : (ws : List Word) → Each (IsFine true) ws → Lexes (header_text true ++ text_of ws) (header ∷ tokens_at 9 ws)
unfolding has_header
words_lex_wide ws h =
    let s = scans_words true ws 8 (10 ∷ []) (space_gap 10 (inr refl)) h in
    (s.0, (refl, s.1))

pub words_seen : (text pre : List ℕ) (place : ℕ) (ws : List Word) → text ≡ pre ++ text_of ws → place ≡ length pre → tokens_seen text (tokens_at place ws) ≡ toks_at place ws
words_seen text pre place [] e f = refl
words_seen text pre place (w ∷ ws) e f =
    let parts : text ≡ pre ++ (w.bytes ++ (w.blank ∷ text_of ws)) = e ∙ ap (λ (z : List ℕ). pre ++ z) (append_assoc w.bytes (w.blank ∷ []) (text_of ws)) in
    let bytes : between text place (place + length w.bytes) ≡ w.bytes = between_is text pre w.bytes (w.blank ∷ text_of ws) place (place + length w.bytes) parts f refl in
    let first : token_seen false text (token_at place w) ≡ tok_at place w = ap (λ (z : List ℕ). tok_of false w.kind z place) bytes in
    let word : List ℕ = w.bytes ++ w.blank ∷ [] in
    let later : tokens_seen text (tokens_at (next place w) ws) ≡ toks_at (next place w) ws =
    words_seen text (pre ++ word) (next place w) ws (e ∙ sym (append_assoc pre word (text_of ws))) (omega (arith, length-append pre word, length-append w.bytes (w.blank ∷ []))) in
    ap (λ (t : Tok). t ∷ tokens_seen text (tokens_at (next place w) ws)) first ∙ ap (λ (l : List Tok). tok_at place w ∷ l) later
