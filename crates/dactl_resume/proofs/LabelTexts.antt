-- Labels, and what follows them.
use Rattle.std.proofs.Common.{◌≡◌, ◌≢◌, ℕ, ℤ, suc, ◌<◌, ◌≤◌, ◌==◌, ◌||◌, Bool, true, false, List, [], ◌∷◌, ◌++◌, length, Option, None, MatchOption, IsTrue, Some, slice_get, refl, sym, ◌∙◌, ap, subst, arith, inl, inr, FitsSigned, pos, negsuc, nat_le}
use Rattle.std.specs.Char.{is_ascii_digit}
use Rattle.std.specs.Fmt.{decimal, signed_decimal}
use Rattle.std.specs.Int.{w128}
use Rattle.std.specs.List.{list_all}
use Rattle.std.specs.Option.{option_map}
use Rattle.std.proofs.lemmas.Bool.{cases_lt, ne_eqb}
use Rattle.std.proofs.lemmas.Option.{get_or_from_slice_get, slice_get_within, slice_get_cases, slice_get-map}
use Rattle.dactl_base.specs.Readers.{Stops}
use Rattle.dactl_base.proofs.Passing.{split_by, all_more, each_step, Begins, begins_apart, begins_front, begins_step}
use Rattle.dactl_base.proofs.Decimals.{decimal_digits, digit_range, Low, small_integer, integer_begins, integer_injective}
use Rattle.dactl_model.specs.declared.graph.Label.{Label}
use Rattle.dactl_model.specs.declared.graph.Label.TheVariants.{Symbol, Integer, Character}
use Rattle.dactl_model.specs.declared.program.Symbol.{Symbol as SymbolOf}
use Rattle.dactl_model.specs.declared.program.Program.{Program}
use Rattle.dactl_model.specs.Integers.{InRange, is_word}
use Rattle.dactl_model.specs.Names.{is_word_byte, is_upper_name, begins_capital}
use Rattle.dactl_model.specs.Programs.{IsValid}
use Rattle.dactl_model.proofs.InRange.{word_fits}
use Rattle.dactl_model.proofs.Pairs.{All-slice_get}
use Rattle.dactl_model.proofs.Unique.{left_true, right_true}
use Rattle.dactl_print.specs.Lines.{name_of, label_text}
use Rattle.dactl_resume.specs.Found.{IsPlace}
use Rattle.dactl_resume.specs.Restriction.{IsOfLanguage}
use Rattle.dactl_resume.specs.Parts.{names_of, is_sign, is_label_byte, IsLabelOf, IsWord, BeginsLabel}
use Rattle.dactl_resume.proofs.Marks.{no_sign}

-- an integer of a language has 128 bits at most
pub fits_wide : (wide : Bool) (z : ℤ) → InRange wide z → FitsSigned w128 z
fits_wide true z fits = fits
fits_wide false z word = word_fits z word

false_true : false ≡ true → ⊥
false_true e = cc

-- what the test says of an integer that was passed on
pub test_of : (wide : Bool) (value other : ℤ) (r b : Bool) → other ≡ value → r ≡ (wide || is_word other) → r ≡ b → (wide || is_word value) ≡ b
test_of wide value other r b same e is = ap (λ (z : ℤ). wide || is_word z) (sym same) ∙ sym e ∙ is

-- an integer that passes the test is one of the language
pub in_range_of : (wide : Bool) (value : ℤ) → (wide || is_word value) ≡ true → FitsSigned w128 value → InRange wide value
in_range_of true value test fits = fits
in_range_of false value test fits = test

-- and one that does not, is none of it
pub no_range : (wide : Bool) (word : List ℕ) (value z : ℤ) → (wide || is_word value) ≡ false → FitsSigned w128 value × (word ≡ signed_decimal value) → InRange wide z → word ≡ signed_decimal z → ⊥
no_range true word value z test found range is = absurd (false_true (sym test))
no_range false word value z test found range is =
    let same : value ≡ z = integer_injective value z found.0 (fits_wide false z range) (sym found.1 ∙ is) in
    false_true (sym test ∙ ap is_word same ∙ range)

-- ---- bytes

in_label : (c : ℕ) → (c ≡ 91 → ⊥) → (c ≡ 10 → ⊥) → is_label_byte c ≡ true
in_label c bracket feed = let one : (c == 91) ≡ false = ne_eqb c 91 bracket in let other : (c == 10) ≡ false = ne_eqb c 10 feed in rw (one, other) refl

word_in_label : (c : ℕ) → is_word_byte c ≡ true → is_label_byte c ≡ true
word_in_label c word = in_label c (λ at. false_true (subst (λ x. is_word_byte x ≡ true) at word)) (λ at. false_true (subst (λ x. is_word_byte x ≡ true) at word))

digit_in_label : (c : ℕ) → is_ascii_digit c ≡ true → is_label_byte c ≡ true
digit_in_label c digit = let range = digit_range c digit in in_label c (λ at. absurd (omega (arith, range.1, at))) (λ at. absurd (omega (arith, range.0, at)))

-- a capital letter, or a byte above
abbrev pub Capital : ℕ → Type 0
Capital c = 65 ≤ c

capital_is : (c : ℕ) → nat_le 65 c ≡ true → 65 ≤ c
capital_is c e = grind arith

begins_with_capital : (name : List ℕ) → begins_capital name ≡ true → Begins Capital name
begins_with_capital [] e = cc
begins_with_capital (c ∷ cs) e = capital_is c (left_true _ _ e)

first_part : (wide : Bool) (name : List ℕ) → is_upper_name wide name ≡ true → begins_capital name ≡ true
first_part wide name e = left_true _ _ (left_true _ _ e)

word_part : (wide : Bool) (name : List ℕ) → is_upper_name wide name ≡ true → list_all is_word_byte name ≡ true
word_part wide name e = right_true _ _ (left_true _ _ e)

integer_bytes : (z : ℤ) → FitsSigned w128 z → list_all is_label_byte (signed_decimal z) ≡ true
integer_bytes (pos n) fits = each_step is_ascii_digit is_label_byte digit_in_label (decimal n) (decimal_digits n (omega (arith, small_integer (pos n) fits)))
integer_bytes (negsuc n) fits =
    all_more is_label_byte 45 (decimal (suc n)) refl (each_step is_ascii_digit is_label_byte digit_in_label (decimal (suc n)) (decimal_digits (suc n) (omega (arith, small_integer (negsuc n) fits))))

-- what no quote begins
abbrev NoQuote : ℕ → Type 0
NoQuote c = 40 ≤ c

module _ (p : Program) (valid : IsValid p) where
  symbol_there : (f : ℕ) → f < length p.symbols → (s : SymbolOf) × (slice_get p.symbols f ≡ Some s)
  symbol_there f below =
      elim (slice_get_cases p.symbols f).1 [
        | inl (s, inside, at, same) ↦ (s, at)
        | inr (past, none) ↦ absurd (omega arith)
      ]

  upper_at : (f : ℕ) (s : SymbolOf) → slice_get p.symbols f ≡ Some s → is_upper_name p.wide s.name ≡ true
  upper_at f s at = All-slice_get (λ (t : SymbolOf). IsTrue (is_upper_name p.wide t.name)) p.symbols f s valid.names at

  names_differ : (f g : ℕ) (s t : SymbolOf) → slice_get p.symbols f ≡ Some s → slice_get p.symbols g ≡ Some t → f < g → s.name ≡ t.name → ⊥
  names_differ f g s t at also before same =
      valid.distinct f g s before (slice_get_within p.symbols g t also) (ap (λ x. x.name) (get_or_from_slice_get p.symbols f s s at) ∙ same ∙ sym (ap (λ x. x.name) (get_or_from_slice_get p.symbols g t s also)))

  same_symbol : (f g : ℕ) (s t : SymbolOf) → slice_get p.symbols f ≡ Some s → slice_get p.symbols g ≡ Some t → s.name ≡ t.name → f ≡ g
  same_symbol f g s t at also same =
      elim (cases_lt f g) [
        | inl before ↦ absurd (names_differ f g s t at also before same)
        | inr after ↦
            elim (cases_lt g f) [
              | inl before ↦ absurd (names_differ g f t s also at before (sym same))
              | inr too ↦ omega arith
            ]
      ]

  symbol_begins : (f : ℕ) → f < length p.symbols → Begins Capital (label_text p (Symbol f))
  symbol_begins f below =
      let there = symbol_there f below in
      subst (λ o. Begins Capital (name_of o)) (sym there.1) (begins_with_capital there.0.name (first_part p.wide there.0.name (upper_at f there.0 there.1)))

  symbol_bytes : (f : ℕ) → f < length p.symbols → list_all is_label_byte (label_text p (Symbol f)) ≡ true
  symbol_bytes f below =
      let there = symbol_there f below in
      subst (λ o. list_all is_label_byte (name_of o) ≡ true) (sym there.1) (each_step is_word_byte is_label_byte word_in_label there.0.name (word_part p.wide there.0.name (upper_at f there.0 there.1)))

  -- the text of a name or an integer has no `[` and no LF
  pub word_bytes : (l : Label) → IsLabelOf p l → IsWord l → list_all is_label_byte (label_text p l) ≡ true
  word_bytes (Symbol f) is word = symbol_bytes f is.0
  word_bytes (Integer z) is word = integer_bytes z (fits_wide p.wide z is.1)
  word_bytes (Character c) is word = absurd word

  word_begins : (l : Label) → IsLabelOf p l → IsWord l → Begins NoQuote (label_text p l)
  word_begins (Symbol f) is word = begins_step Capital NoQuote (λ c capital. omega arith) (label_text p (Symbol f)) (symbol_begins f is.0)
  word_begins (Integer z) is word = begins_step Low NoQuote (λ c low. omega (arith, low.0)) (signed_decimal z) (integer_begins z (fits_wide p.wide z is.1))
  word_begins (Character c) is word = absurd word

  -- no sign stands before a label
  pub label_begins : (l : Label) → IsLabelOf p l → Begins (λ c. is_sign c ≡ false) (label_text p l)
  label_begins (Symbol f) is = begins_step Capital (λ c. is_sign c ≡ false) (λ c capital. no_sign c (λ e. absurd (omega (arith, e, capital))) (λ e. absurd (omega (arith, e, capital)))) (label_text p (Symbol f)) (symbol_begins f is.0)
  label_begins (Integer z) is = begins_step Low (λ c. is_sign c ≡ false) (λ c low. no_sign c (λ e. absurd (omega (arith, e, low.0))) (λ e. absurd (omega (arith, e, low.0)))) (signed_decimal z) (integer_begins z (fits_wide p.wide z is.1))
  label_begins (Character c) is = refl

  symbol_no_integer : (f : ℕ) (z : ℤ) → IsLabelOf p (Symbol f) → IsLabelOf p (Integer z) → label_text p (Symbol f) ≡ signed_decimal z → ⊥
  symbol_no_integer f z one other e =
      begins_apart Capital Low (λ c capital low. absurd (omega (arith, capital, low.1))) (label_text p (Symbol f)) (signed_decimal z) (symbol_begins f one.0) (integer_begins z (fits_wide p.wide z other.1)) e

  pub same_word : (a b : Label) → IsLabelOf p a → IsLabelOf p b → IsWord a → IsWord b → label_text p a ≡ label_text p b → a ≡ b
  same_word (Symbol f) (Symbol g) one other word also e =
      let s = symbol_there f one.0 in
      let t = symbol_there g other.0 in
      ap Symbol (same_symbol f g s.0 t.0 s.1 t.1 (sym (ap name_of s.1) ∙ e ∙ ap name_of t.1))
  same_word (Symbol f) (Integer z) one other word also e = absurd (symbol_no_integer f z one other e)
  same_word (Integer z) (Symbol f) one other word also e = absurd (symbol_no_integer f z other one (sym e))
  same_word (Integer y) (Integer z) one other word also e = ap Integer (integer_injective y z (fits_wide p.wide y one.1) (fits_wide p.wide z other.1) e)
  same_word (Symbol f) (Character c) one other word also e = absurd also
  same_word (Integer z) (Character c) one other word also e = absurd also
  same_word (Character c) b one other word also e = absurd word

  -- a quote begins no name and no integer
  pub quoted_no_word : (l : Label) (rest more : List ℕ) → IsLabelOf p l → IsWord l → 39 ∷ more ≡ label_text p l ++ rest → ⊥
  quoted_no_word l rest more is word e =
      begins_apart (λ c. c ≡ 39) NoQuote (λ c at above. absurd (omega (arith, at, above))) (39 ∷ more) (label_text p l ++ rest) refl (begins_front NoQuote (label_text p l) rest (word_begins l is word)) e

  words_labelled : (a b : Label) (r s : List ℕ) → IsLabelOf p a → IsLabelOf p b → IsWord a → IsWord b → Stops is_label_byte r → Stops is_label_byte s
      → label_text p a ++ r ≡ label_text p b ++ s → (a ≡ b) × (r ≡ s)
  words_labelled a b r s one other word also stops ends e =
      let parts = split_by is_label_byte (label_text p a) (label_text p b) r s (word_bytes a one word) (word_bytes b other also) stops ends e in
      (same_word a b one other word also parts.0, parts.1)

  characters_labelled : (c d : ℕ) (r s : List ℕ) → label_text p (Character c) ++ r ≡ label_text p (Character d) ++ s → (Character c ≡ Character d) × (r ≡ s)
  characters_labelled c d r s e =
      let byte : c ≡ d = cc in
      let rest : r ≡ s = cc in
      (ap Character byte, rest)

  -- a label and what follows it are determined
  pub same_labelled : (a b : Label) (r s : List ℕ) → IsLabelOf p a → IsLabelOf p b → Stops is_label_byte r → Stops is_label_byte s → label_text p a ++ r ≡ label_text p b ++ s → (a ≡ b) × (r ≡ s)
  same_labelled (Character c) (Character d) r s one other stops ends e = characters_labelled c d r s e
  same_labelled (Character c) (Symbol g) r s one other stops ends e = absurd (quoted_no_word (Symbol g) s (c ∷ 39 ∷ r) other tt e)
  same_labelled (Character c) (Integer z) r s one other stops ends e = absurd (quoted_no_word (Integer z) s (c ∷ 39 ∷ r) other tt e)
  same_labelled (Symbol f) (Character d) r s one other stops ends e = absurd (quoted_no_word (Symbol f) r (d ∷ 39 ∷ s) one tt (sym e))
  same_labelled (Integer z) (Character d) r s one other stops ends e = absurd (quoted_no_word (Integer z) r (d ∷ 39 ∷ s) one tt (sym e))
  same_labelled (Symbol f) (Symbol g) r s one other stops ends e = words_labelled (Symbol f) (Symbol g) r s one other tt tt stops ends e
  same_labelled (Symbol f) (Integer z) r s one other stops ends e = words_labelled (Symbol f) (Integer z) r s one other tt tt stops ends e
  same_labelled (Integer z) (Symbol g) r s one other stops ends e = words_labelled (Integer z) (Symbol g) r s one other tt tt stops ends e
  same_labelled (Integer y) (Integer z) r s one other stops ends e = words_labelled (Integer y) (Integer z) r s one other tt tt stops ends e

  -- ---- what a line has behind its mark

  -- a character behind a quote is the label
  pub quoted_label : (bytes rest more : List ℕ) (byte : ℕ) (label : Label) → bytes ≡ 39 ∷ byte ∷ 39 ∷ rest → BeginsLabel p bytes label more → IsOfLanguage p.wide (Character byte) × Stops is_label_byte rest
  quoted_label bytes rest more byte (Character c) quoted is =
      let both : 39 ∷ byte ∷ 39 ∷ rest ≡ 39 ∷ c ∷ 39 ∷ more = sym quoted ∙ is.text in
      let same : byte ≡ c = cc in
      let behind : rest ≡ more = cc in
      (subst (λ (b : ℕ). IsOfLanguage p.wide (Character b)) (sym same) is.own.1, subst (Stops is_label_byte) (sym behind) is.ends)
  quoted_label bytes rest more byte (Symbol f) quoted is = absurd (quoted_no_word (Symbol f) more (byte ∷ 39 ∷ rest) is.own tt (sym quoted ∙ is.text))
  quoted_label bytes rest more byte (Integer z) quoted is = absurd (quoted_no_word (Integer z) more (byte ∷ 39 ∷ rest) is.own tt (sym quoted ∙ is.text))

  pub quoted_read : (bytes rest : List ℕ) (byte : ℕ) → bytes ≡ 39 ∷ byte ∷ 39 ∷ rest → IsOfLanguage p.wide (Character byte) → Stops is_label_byte rest → BeginsLabel p bytes (Character byte) rest
  quoted_read bytes rest byte quoted own stops = record { text = quoted; own = (tt, own); ends = stops }

  -- and otherwise the bytes up to its end are a word
  pub no_label : (bytes word behind more : List ℕ) (label : Label) → bytes ≡ word ++ behind → list_all is_label_byte word ≡ true → Stops is_label_byte behind
      → ((byte : ℕ) (rest : List ℕ) → bytes ≡ 39 ∷ byte ∷ 39 ∷ rest → ⊥) → ((l : Label) → IsLabelOf p l → IsWord l → word ≡ label_text p l → ⊥) → BeginsLabel p bytes label more → ⊥
  no_label bytes word behind more (Character c) joined all stops none unknown is = none c more is.text
  no_label bytes word behind more (Symbol f) joined all stops none unknown is =
      unknown (Symbol f) is.own tt (split_by is_label_byte word (label_text p (Symbol f)) behind more all (word_bytes (Symbol f) is.own tt) stops is.ends (sym joined ∙ is.text)).0
  no_label bytes word behind more (Integer z) joined all stops none unknown is =
      unknown (Integer z) is.own tt (split_by is_label_byte word (label_text p (Integer z)) behind more all (word_bytes (Integer z) is.own tt) stops is.ends (sym joined ∙ is.text)).0

  pub word_read : (bytes word behind : List ℕ) (label : Label) → bytes ≡ word ++ behind → Stops is_label_byte behind → IsLabelOf p label × IsWord label × (word ≡ label_text p label) → BeginsLabel p bytes label behind
  word_read bytes word behind label joined stops is = record { text = joined ∙ ap (λ (t : List ℕ). t ++ behind) is.2; own = is.0; ends = stops }

-- the word at a place among the names is the text of the symbol
pub place_symbol : (p : Program) (f : ℕ) (word : List ℕ) → slice_get (names_of p) f ≡ Some word → (f < length p.symbols) × (word ≡ label_text p (Symbol f))
place_symbol p f word at =
    elim (slice_get_cases p.symbols f).1 [
      | inl (s, inside, there, same) ↦
          let both : Some s.name ≡ Some word = sym (ap (option_map (λ (x : SymbolOf). x.name)) there) ∙ sym (slice_get-map (λ (x : SymbolOf). x.name) p.symbols f) ∙ at in
          let name : s.name ≡ word = cc in
          (inside, sym name ∙ sym (ap name_of there))
      | inr (past, none) ↦
          let clash : None ≡ Some word = sym (ap (option_map (λ (x : SymbolOf). x.name)) none) ∙ sym (slice_get-map (λ (x : SymbolOf). x.name) p.symbols f) ∙ at in
          absurd (cc clash)
    ]

-- and the text of a symbol stands at its place
pub symbol_place : (p : Program) (f : ℕ) (word : List ℕ) → f < length p.symbols → word ≡ label_text p (Symbol f) → slice_get (names_of p) f ≡ Some word
symbol_place p f word below is =
    elim (slice_get_cases p.symbols f).1 [
      | inl (s, inside, there, same) ↦ slice_get-map (λ (x : SymbolOf). x.name) p.symbols f ∙ ap (option_map (λ (x : SymbolOf). x.name)) there ∙ ap Some (sym (is ∙ ap name_of there))
      | inr (past, none) ↦ absurd (omega arith)
    ]

-- a word that is no name is an integer, or no label
pub integer_word : (p : Program) (word : List ℕ) (o : Option Label) → IsPlace (names_of p) word None
    → MatchOption o ((z : ℤ) → InRange p.wide z → word ≢ signed_decimal z) (λ label. (z : ℤ) × (label ≡ Integer z) × InRange p.wide z × (word ≡ signed_decimal z))
    → MatchOption o ((label : Label) → IsLabelOf p label → IsWord label → word ≢ label_text p label) (λ label. IsLabelOf p label × IsWord label × (word ≡ label_text p label))
integer_word p word None unnamed none = go
  where
    go : (label : Label) → IsLabelOf p label → IsWord label → word ≡ label_text p label → ⊥
    go (Symbol f) own isword is = unnamed f (symbol_place p f word own.0 is)
    go (Integer z) own isword is = none z own.1 is
    go (Character c) own isword is = isword
integer_word p word (Some label) unnamed (z, same, range, is) = subst (λ (l : Label). IsLabelOf p l × IsWord l × (word ≡ label_text p l)) (sym same) ((tt, range), tt, is)

-- and one that has a place is its symbol's
pub named_word : (p : Program) (word : List ℕ) (f : ℕ) → IsPlace (names_of p) word (Some f) → IsLabelOf p (Symbol f) × IsWord (Symbol f) × (word ≡ label_text p (Symbol f))
named_word p word f at = let is = place_symbol p f word at in ((is.0, tt), tt, is.1)
