-- The tokens of a text as the grammar sees them: their words are spelled as their sorts say, and their places rise.
use Rattle.std.proofs.Common.{◌≡◌, ℕ, suc, ◌+◌, ◌<◌, ◌≤◌, Bool, true, false, cond, List, [], ◌∷◌, length, drop, map, Option, Some, None, refl, sym, ap, subst, ◌∙◌, arith}
use Rattle.std.specs.Prelude.{◌&&◌, ◌||◌, ◌==◌, not}
use Rattle.std.specs.Int.Signed.{mag}
use Rattle.std.specs.List.{list_all, AllByRecursion as Each}
use Rattle.std.specs.Str.{bytes_eq}
use Rattle.std.proofs.lemmas.Bool.{eqb-true}
use Rattle.dactl_model.specs.Names as model
use Rattle.dactl_model.proofs.Unique.{left_true, right_true}
use Rattle.dactl_model.specs.Names.{is_word_byte, is_upper_name, keywords}
use Rattle.dactl_tokens.specs.declared.token.Token.{Token}
use Rattle.dactl_tokens.specs.declared.token.TokenKind.{TokenKind}
use Rattle.dactl_tokens.specs.declared.token.TokenKind.TheVariants as kinds
use Rattle.dactl_tokens.specs.Spelling.{is_upper, is_lower, is_digit, is_word, all, is_among, is_keyword, sign_kind, is_printable, character_kind, kind_of, is_sign_byte, is_long_sign, bound}
use Rattle.dactl_tokens.specs.Lexes.{Scans, ScansText, Lexes, has_header, header}
use Rattle.dactl_tokens.proofs.OneReading.{kind_nil}
use Rattle.dactl_terminals.specs.declared.token.Sort.{Sort}
use Rattle.dactl_terminals.specs.declared.token.Sort.TheVariants as s
use Rattle.dactl_terminals.specs.Sort.{same_sort}
use Rattle.dactl_terminals.specs.Parts.{Tok, is, value_at}
use Rattle.dactl_syntax.specs.Productions.{letter}
use Rattle.dactl_terminals.specs.Seen.{keyword_sort, sign_sort, sort_of, token_seen}
use Rattle.dactl_syntax.specs.Answer.{tokens_seen}
use Rattle.dactl_terminals.proofs.Values.{value_within}
use Rattle.dactl_terminals.proofs.Told.{pick, keyword_table, sign_table, keyword_picked, sign_picked, passes, picked, kind_told, seen_word, OfWords, tokens_hold}

words_same : (w : List ℕ) → all is_word w ≡ list_all is_word_byte w
words_same [] = refl
words_same (b ∷ w) = ap (λ r. is_word b && r) (words_same w)

keywords_same : (wide : Bool) (w : List ℕ) → is_keyword wide w ≡ model.is_keyword wide w
unfolding is_keyword model.is_keyword keywords
keywords_same wide w = refl

-- ---- which test leads to a kind

-- neither branch is the kind, so the test isn't
not_if : {k : TokenKind} (b : Bool) (x y : Option TokenKind) → (x ≡ Some k → ⊥) → (y ≡ Some k → ⊥) → cond b x y ≡ Some k → ⊥
not_if true x y f g e = f e
not_if false x y f g e = g e

-- a kind is another
abbrev Not : TokenKind → TokenKind → Type 0
Not k j = Some j ≡ Some k → ⊥

not_none : (k : TokenKind) → None ≡ Some k → ⊥
not_none k e = cc

-- the word and its kind, where a test of all bytes passes
not_all : (k j : TokenKind) (b : Bool) → Not k j → cond b (Some j) None ≡ Some k → ⊥
not_all k j b h = not_if b (Some j) None h (not_none k)

not_sign_kind : (k : TokenKind) → Not k kinds.Sign → Not k kinds.Integer → (w : List ℕ) → sign_kind w ≡ Some k → ⊥
not_sign_kind k s i [] = not_none k
not_sign_kind k s i (b ∷ []) = not_all k kinds.Sign (is_sign_byte b) s
not_sign_kind k s i (b ∷ c ∷ []) = not_if (is_long_sign b c) (Some kinds.Sign) _ s (not_all k kinds.Integer _ i)
not_sign_kind k s i (b ∷ c ∷ d ∷ w) = not_all k kinds.Integer _ i

not_character_kind : (k : TokenKind) → Not k kinds.Character → (w : List ℕ) → character_kind w ≡ Some k → ⊥
not_character_kind k h [] = not_none k
not_character_kind k h (c ∷ []) = not_none k
not_character_kind k h (c ∷ d ∷ []) = not_all k kinds.Character _ h
not_character_kind k h (c ∷ d ∷ e ∷ w) = not_none k

-- ---- an upper name

-- what the tests of an upper name found
upper_tests : (first rest key : Bool) (other : Option TokenKind) → (other ≡ Some kinds.Upper → ⊥) → cond first (cond rest (Some (cond key kinds.Keyword kinds.Upper)) None) other ≡ Some kinds.Upper → (first ≡ true) × (rest ≡ true) × (key ≡ false)
upper_tests true true true other not_other e = absurd cc
upper_tests true true false other not_other e = (refl, refl, refl)
upper_tests true false key other not_other e = absurd cc
upper_tests false rest key other not_other e = absurd (not_other e)

tests_of : (wide : Bool) (b : ℕ) (w : List ℕ) → kind_of wide (b ∷ w) ≡ Some kinds.Upper → (is_upper b ≡ true) × (all is_word w ≡ true) × (is_keyword wide (b ∷ w) ≡ false)
unfolding kind_of
tests_of wide b w = upper_tests (is_upper b) (all is_word w) (is_keyword wide (b ∷ w)) _
    (not_if (is_lower b) _ _ (not_all kinds.Upper kinds.Lower (all is_word w) (λ e. cc))
    (not_if (is_digit b) _ _ (not_all kinds.Upper kinds.Integer (all is_digit w) (λ e. cc))
    (not_if ((b == 39) && wide) _ _ (not_character_kind kinds.Upper (λ e. cc) w) (not_sign_kind kinds.Upper (λ e. cc) (λ e. cc) (b ∷ w)))))

-- the parts of the test of a name
named_by : (first word rest key : Bool) → first ≡ true → word ≡ true → rest ≡ true → key ≡ false → (first && (word && rest) && not key) ≡ true
named_by true true true false a b c d = refl
named_by false word rest key a b c d = absurd cc
named_by true false rest key a b c d = absurd cc
named_by true true false key a b c d = absurd cc
named_by true true true true a b c d = absurd cc

pub upper_named : (wide : Bool) (w : List ℕ) → kind_of wide w ≡ Some kinds.Upper → is_upper_name wide w ≡ true
upper_named wide [] e = absurd (kind_nil wide kinds.Upper e)
upper_named wide (b ∷ w) e =
    let t = tests_of wide b w e in
    named_by (is_upper b) (is_word_byte b) (list_all is_word_byte w) (model.is_keyword wide (b ∷ w)) t.0 (rw t.0 refl) (sym (words_same w) ∙ t.1) (sym (keywords_same wide (b ∷ w)) ∙ t.2)

-- ---- a character

-- the first branch is not the kind, so the second is taken
other_branch : (k : TokenKind) (b : Bool) (x y : Option TokenKind) → (x ≡ Some k → ⊥) → cond b x y ≡ Some k → y ≡ Some k
other_branch k true x y f e = absurd (f e)
other_branch k false x y f e = e

-- the second branch is not the kind, so the first is taken
this_branch : (k : TokenKind) (b : Bool) (x y : Option TokenKind) → (y ≡ Some k → ⊥) → cond b x y ≡ Some k → (b ≡ true) × (x ≡ Some k)
this_branch k true x y f e = (refl, e)
this_branch k false x y f e = absurd (f e)

not_name : (b key : Bool) → cond b (Some (cond key kinds.Keyword kinds.Upper)) None ≡ Some kinds.Character → ⊥
not_name true true e = cc
not_name true false e = cc
not_name false key e = cc

quoted : (wide : Bool) (b : ℕ) (w : List ℕ) → kind_of wide (b ∷ w) ≡ Some kinds.Character → (((b == 39) && wide) ≡ true) × (character_kind w ≡ Some kinds.Character)
unfolding kind_of
quoted wide b w e =
    let not_upper = other_branch kinds.Character (is_upper b) _ _ (not_name (all is_word w) (is_keyword wide (b ∷ w))) e in
    let not_lower = other_branch kinds.Character (is_lower b) _ _ (not_all kinds.Character kinds.Lower (all is_word w) (λ i. cc)) not_upper in
    let not_digit = other_branch kinds.Character (is_digit b) _ _ (not_all kinds.Character kinds.Integer (all is_digit w) (λ i. cc)) not_lower in
    this_branch kinds.Character ((b == 39) && wide) _ _ (not_sign_kind kinds.Character (λ i. cc) (λ i. cc) (b ∷ w)) not_digit

-- a character's bytes
abbrev pub character_bytes : ℕ → List ℕ
character_bytes byte = 39 ∷ byte ∷ 39 ∷ []

closed : (w : List ℕ) → character_kind w ≡ Some kinds.Character → w ≡ letter (39 ∷ w) ∷ 39 ∷ []
closed [] e = absurd (not_none kinds.Character e)
closed (c ∷ []) e = absurd (not_none kinds.Character e)
closed (c ∷ d ∷ []) e =
    let tests = this_branch kinds.Character (is_printable c && (d == 39)) (Some kinds.Character) None (not_none kinds.Character) e in
    ap (λ (x : ℕ). c ∷ x ∷ []) (eqb-true d 39 (right_true (is_printable c) (d == 39) tests.0))
closed (c ∷ d ∷ b ∷ w) e = absurd (not_none kinds.Character e)

-- a character is of language 2, and is the byte between two `'`
pub record IsCharacter (wide : Bool) (w : List ℕ) : Type 0 where
  pub is_wide : wide ≡ true
  pub bytes : w ≡ character_bytes (letter w)

pub character_is : (wide : Bool) (w : List ℕ) → kind_of wide w ≡ Some kinds.Character → IsCharacter wide w
character_is wide [] e = absurd (kind_nil wide kinds.Character e)
character_is wide (b ∷ w) e =
    let q = quoted wide b w e in
    let first : b ≡ 39 = eqb-true b 39 (left_true (b == 39) wide q.0) in
    let rest = closed w q.1 in
    let same : letter (39 ∷ w) ≡ letter (b ∷ w) = ap (λ (x : ℕ). letter (x ∷ w)) (sym first) in
    record { is_wide = right_true (b == 39) wide q.0; bytes = ap (λ (x : ℕ). x ∷ w) first ∙ ap (λ (v : List ℕ). 39 ∷ v) rest ∙ ap character_bytes same }

-- ---- the keyword of language 2

-- a word of the table has a sort of the table
among_picked : (p : Sort → Bool) (table : List (List ℕ × Sort)) (other : Sort) (w : List ℕ) → is_among w (map (λ row. row.0) table) ≡ true → passes p table ≡ true → p (pick table other w) ≡ true
among_picked p [] other w h k = absurd cc
among_picked p (row ∷ table) other w h k = by (bytes_eq w row.0) h (λ e. among_picked p table other w e (right_true (p row.1) (passes p table) k))
  where
    by : (b : Bool) → (b || is_among w (map (λ row. row.0) table)) ≡ true → (is_among w (map (λ row. row.0) table) ≡ true → p (pick table other w) ≡ true) → p (cond b row.1 (pick table other w)) ≡ true
    by true e later = left_true (p row.1) (passes p table) k
    by false e later = later e

-- the sort is another
abbrev is_other : Sort → Sort → Bool
is_other k other = not (same_sort k other)

is_not : (b : Bool) → not b ≡ true → b ≡ true → ⊥
is_not true h k = cc
is_not false h k = cc

not_char : (w : List ℕ) → is_keyword false w ≡ true → same_sort s.Char (keyword_sort w) ≡ true → ⊥
unfolding is_keyword same_sort
not_char w h k = is_not (same_sort s.Char (keyword_sort w)) (ap (is_other s.Char) (keyword_picked w) ∙ among_picked (is_other s.Char) keyword_table s.Char w (alone (is_among w (map (λ row. row.0) keyword_table)) h) refl) k
  where
    alone : (b : Bool) → (b || false) ≡ true → b ≡ true
    alone true e = refl
    alone false e = absurd cc

keyword_tests : (wide : Bool) (b : ℕ) (w : List ℕ) → kind_of wide (b ∷ w) ≡ Some kinds.Keyword → is_keyword wide (b ∷ w) ≡ true
unfolding kind_of
keyword_tests wide b w e =
    let named = this_branch kinds.Keyword (is_upper b) _ _ (not_if (is_lower b) _ _ (not_all kinds.Keyword kinds.Lower (all is_word w) (λ i. cc))
    (not_if (is_digit b) _ _ (not_all kinds.Keyword kinds.Integer (all is_digit w) (λ i. cc))
    (not_if ((b == 39) && wide) _ _ (not_character_kind kinds.Keyword (λ i. cc) w) (not_sign_kind kinds.Keyword (λ i. cc) (λ i. cc) (b ∷ w))))) e in
    key (all is_word w) (is_keyword wide (b ∷ w)) named.1
  where
    key : (c k : Bool) → cond c (Some (cond k kinds.Keyword kinds.Upper)) None ≡ Some kinds.Keyword → k ≡ true
    key true true h = refl
    key true false h = absurd cc
    key false k h = absurd cc

-- only language 2 has the keyword `CHAR`
keyword_wide : (wide : Bool) (w : List ℕ) → kind_of wide w ≡ Some kinds.Keyword → same_sort s.Char (keyword_sort w) ≡ true → wide ≡ true
keyword_wide true w e h = refl
keyword_wide false [] e h = absurd (kind_nil false kinds.Keyword e)
keyword_wide false (b ∷ w) e h = absurd (not_char (b ∷ w) (keyword_tests false b w e) h)

no_char_sign : (w : List ℕ) → same_sort s.Char (sign_sort w) ≡ true → ⊥
unfolding same_sort
no_char_sign w h = is_not (same_sort s.Char (sign_sort w)) (ap (is_other s.Char) (sign_picked w) ∙ picked (is_other s.Char) sign_table s.Minus w refl refl) h

char_wide : (wide : Bool) (k : TokenKind) (w : List ℕ) → kind_of wide w ≡ Some k → same_sort s.Char (sort_of false k w) ≡ true → wide ≡ true
unfolding sort_of same_sort
char_wide wide kinds.Keyword w e h = keyword_wide wide w e h
char_wide wide kinds.Sign w e h = absurd (no_char_sign w h)
char_wide wide _ w e h = absurd cc

-- ---- no bytes are a Header but the first

never_header : (wide : Bool) (w : List ℕ) → kind_of wide w ≡ Some kinds.Header → ⊥
unfolding kind_of
never_header wide [] e = not_none kinds.Header e
never_header wide (b ∷ w) e = not_if (is_upper b) _ _ (named (all is_word w) (is_keyword wide (b ∷ w)))
    (not_if (is_lower b) _ _ (not_all kinds.Header kinds.Lower (all is_word w) (λ i. cc))
    (not_if (is_digit b) _ _ (not_all kinds.Header kinds.Integer (all is_digit w) (λ i. cc))
    (not_if ((b == 39) && wide) _ _ (not_character_kind kinds.Header (λ i. cc) w) (not_sign_kind kinds.Header (λ i. cc) (λ i. cc) (b ∷ w))))) e
  where
    named : (c k : Bool) → cond c (Some (cond k kinds.Keyword kinds.Upper)) None ≡ Some kinds.Header → ⊥
    named true true h = cc
    named true false h = cc
    named false k h = cc

no_header : (wide : Bool) (k : TokenKind) (w : List ℕ) → kind_of wide w ≡ Some k → (b : Bool) → same_sort s.Header (sort_of false k w) ≡ b → b ≡ false
no_header wide k w e true h = absurd (never_header wide w (e ∙ ap Some (kind_told s.Header kinds.Header refl false k w h)))
no_header wide k w e false h = refl

-- ---- all tokens

-- names are spelled as names, integers are those of the language, and only language 2 has characters and `CHAR`
pub record IsTold (wide : Bool) (t : Tok) : Type 0 where
  pub upper : is s.Upper t ≡ true → kind_of wide t.word ≡ Some kinds.Upper
  pub lower : is s.Lower t ≡ true → kind_of wide t.word ≡ Some kinds.Lower
  pub value : is s.Integer t ≡ true → mag (value_at true t.word) < bound wide
  pub character : is s.Character t ≡ true → kind_of wide t.word ≡ Some kinds.Character
  pub char : is s.Char t ≡ true → wide ≡ true

-- places rise, from this one on
abbrev pub RisesFrom : ℕ → List Tok → Type 0
RisesFrom place [] = Unit {0}
RisesFrom place (t ∷ l) = (place ≤ t.place) × RisesFrom (suc t.place) l

pub rises_sooner : (a b : ℕ) (l : List Tok) → a ≤ b → RisesFrom b l → RisesFrom a l
rises_sooner a b [] le r = tt
rises_sooner a b (t ∷ l) le r = let first = r.0 in (omega arith, r.1)

-- the first token is the Header in language 2, and another in language 1
abbrev pub StartsAs : Bool → List Tok → Type 0
StartsAs wide [] = wide ≡ false
StartsAs wide (t ∷ l) = is s.Header t ≡ wide

pub record AreSeen (wide : Bool) (place : ℕ) (l : List Tok) : Type 0 where
  pub told : Each (IsTold wide) l
  pub rise : RisesFrom place l

told_of : (wide : Bool) → OfWords false wide (IsTold wide)
told_of wide k word place kind fits = record {
  upper = λ h. kind ∙ ap Some (kind_told s.Upper kinds.Upper refl false k word h);
  lower = λ h. kind ∙ ap Some (kind_told s.Lower kinds.Lower refl false k word h);
  value = λ h. value_within true wide word (fits (kind_told s.Integer kinds.Integer refl false k word h));
  character = λ h. kind ∙ ap Some (kind_told s.Character kinds.Character refl false k word h);
  char = λ h. char_wide wide k word kind h;
}

-- the Header tells nothing
header_told : (wide : Bool) (text : List ℕ) → wide ≡ true → IsTold wide (token_seen false text header)
unfolding sort_of same_sort
header_told wide text e = record { upper = λ h. absurd cc; lower = λ h. absurd cc; value = λ h. absurd cc; character = λ h. absurd cc; char = λ h. e }

word_there : (wide : Bool) (k : TokenKind) (w : List ℕ) → kind_of wide w ≡ Some k → 0 < length w
word_there wide k [] h = absurd (kind_nil wide k h)
word_there wide k (b ∷ w) h = omega arith

rises_from : (wide : Bool) (text bytes : List ℕ) (place : ℕ) (ts : List Token) (end : ℕ) → Scans wide place bytes ts end [] → RisesFrom place (tokens_seen text ts)
rises_from wide text bytes place [] end w = tt
rises_from wide text bytes place (t ∷ ts) end w =
    let from = w.is_token.from in
    let some : 0 < length w.word = word_there wide t.kind w.word w.is_token.kind in
    let later = rises_from wide text w.more (place + length w.gap + length w.word) ts end w.next in
    (omega arith, rises_sooner (suc t.from) (place + length w.gap + length w.word) (tokens_seen text ts) (omega arith) later)

text_rises : (wide : Bool) (text : List ℕ) (ts : List Token) (end : ℕ) → ScansText wide text ts end [] → RisesFrom 0 (tokens_seen text ts)
text_rises true text [] end w = absurd w
text_rises true text (t ∷ ts) end w =
    let from : t.from ≡ 0 = ap (λ (u : Token). u.from) w.0 in
    (omega arith, rises_sooner (suc t.from) 8 (tokens_seen text ts) (omega arith) (rises_from true text (drop 8 text) 8 ts end w.1))
text_rises false text ts end w = rises_from false text text 0 ts end w

pub tokens_are_seen : (text : List ℕ) (ts : List Token) → Lexes text ts → AreSeen (has_header text) 0 (tokens_seen text ts)
tokens_are_seen text ts w = record {
  told = tokens_hold false text (IsTold (has_header text)) (told_of (has_header text)) (header_told (has_header text) text) ts w;
  rise = text_rises (has_header text) text ts w.0 w.1;
}

starts : (wide : Bool) (text : List ℕ) (ts : List Token) (end : ℕ) → ScansText wide text ts end [] → StartsAs wide (tokens_seen text ts)
unfolding sort_of same_sort
starts true text [] end w = absurd w
starts true text (t ∷ ts) end w = subst (λ (u : Token). is s.Header (token_seen false text u) ≡ true) (sym w.0) refl
starts false text [] end w = refl
starts false text (t ∷ ts) end w =
    let from = w.is_token.from in
    let to = w.is_token.to in
    let seen = seen_word false text w.gap w.word w.more t w.parts (omega arith) (omega arith) in
    ap (is s.Header) seen ∙ no_header false t.kind w.word w.is_token.kind (same_sort s.Header (sort_of false t.kind w.word)) refl

pub tokens_start : (text : List ℕ) (ts : List Token) → Lexes text ts → StartsAs (has_header text) (tokens_seen text ts)
tokens_start text ts w = starts (has_header text) text ts w.0 w.1
