-- Which front of the bytes is the longest token.
use Rattle.std.proofs.Common.{◌≡◌, ℕ, zero, suc, ◌+◌, ◌≤◌, ◌<◌, Bool, true, false, cond, eqb, inl, inr, List, [], ◌∷◌, length, take, drop, get_or, Option, Some, None, refl, sym, ap, subst, ◌∙◌, arith}
use Rattle.std.specs.Prelude.{◌&&◌, ◌||◌}
use Rattle.std.proofs.lemmas.Bool.{eqb-true, or_cases, and_parts, and_left, and_right}
use Rattle.dactl_tokens.specs.declared.token.TokenKind.{TokenKind}
use Rattle.dactl_tokens.specs.declared.token.TokenKind.TheVariants.{Upper, Lower, Integer, Keyword, Sign, Character}
use Rattle.dactl_tokens.specs.Spelling.{is_upper, is_lower, is_digit, is_word, all, is_keyword, is_sign_byte, is_long_sign, sign_kind, is_printable, character_kind, kind_of}
use Rattle.dactl_tokens.specs.Lexes.{IsLongest}
use Rattle.dactl_tokens.specs.Found.{IsRun, IsWord, NoWord}
use Rattle.dactl_tokens.proofs.Scanning.{cells, tail}

module _ (wide : Bool) where
  -- the front of n + 1 bytes, where kind says what a first byte and more spell
  abbrev Kinds : ℕ → (List ℕ → Option TokenKind) → Type 0
  Kinds b kind = (bs : List ℕ) → kind_of wide (b ∷ bs) ≡ kind bs

  if_all : (p : ℕ → Bool) (k : TokenKind) (bs : List ℕ) → all p bs ≡ false → cond (all p bs) (Some k) None ≡ None
  if_all p k bs h = rw h refl

  upper_kind : (b : ℕ) → is_upper b ≡ true → Kinds b (λ bs. cond (all is_word bs) (Some (cond (is_keyword wide (b ∷ bs)) Keyword Upper)) None)
  unfolding kind_of
  upper_kind b h bs = rw h refl

  lower_kind : (b : ℕ) → is_upper b ≡ false → is_lower b ≡ true → Kinds b (λ bs. cond (all is_word bs) (Some Lower) None)
  unfolding kind_of
  lower_kind b h k bs = rw (h, k) refl

  digit_kind : (b : ℕ) → is_upper b ≡ false → is_lower b ≡ false → is_digit b ≡ true → Kinds b (λ bs. cond (all is_digit bs) (Some Integer) None)
  unfolding kind_of
  digit_kind b h k d bs = rw (h, k, d) refl

  pub other_kind : (b : ℕ) → is_upper b ≡ false → is_lower b ≡ false → is_digit b ≡ false → (eqb b 39 && wide) ≡ false → Kinds b (λ bs. sign_kind (b ∷ bs))
  unfolding kind_of
  other_kind b h k d q bs = rw (h, k, d, q) refl

  none_at_nil : kind_of wide [] ≡ None
  unfolding kind_of
  none_at_nil = refl

  -- a run behind the first byte
  run_longest : (p : ℕ → Bool) (b : ℕ) (bs : List ℕ) (n : ℕ) (kind : List ℕ → TokenKind) → Kinds b (λ cs. cond (all p cs) (Some (kind cs)) None) → IsRun p n bs → IsLongest wide (suc n) (b ∷ bs)
  run_longest p b bs n kind h r zero lt le = absurd (omega arith)
  run_longest p b bs n kind h r (suc k) lt le =
      let stops : all p (take k bs) ≡ false = r.2 k (omega arith) (omega arith) in
      h (take k bs) ∙ if_all p (kind (take k bs)) (take k bs) stops

  run_word : (p : ℕ → Bool) (b : ℕ) (bs : List ℕ) (n : ℕ) (kind : List ℕ → TokenKind) → Kinds b (λ cs. cond (all p cs) (Some (kind cs)) None) → IsRun p n bs → IsWord wide (b ∷ bs) (kind (take n bs)) (suc n)
  run_word p b bs n kind h r = record {
    fits = let k = r.0 in omega arith;
    kind = h (take n bs) ∙ ap (λ (x : Bool). cond x (Some (kind (take n bs))) None) r.1;
    longest = run_longest p b bs n kind h r;
  }

  -- ---- signs

  and_no : (a b c : Bool) → (a && b) ≡ false → (a && (b && c)) ≡ false
  and_no true true c h = absurd cc
  and_no true false c h = refl
  and_no false b c h = refl

  three_none : (b c d : ℕ) (bs : List ℕ) → (eqb b 45 && is_digit c) ≡ false → sign_kind (b ∷ c ∷ d ∷ bs) ≡ None
  three_none b c d bs h = let k = and_no (eqb b 45) (is_digit c) (is_digit d && all is_digit bs) h in rw k refl

  -- no three bytes and more spell a sign or an integer
  pub past_two : (b c : ℕ) (bs : List ℕ) (k : ℕ) → Kinds b (λ cs. sign_kind (b ∷ cs)) → (eqb b 45 && is_digit c) ≡ false → 2 < k → k ≤ length (b ∷ c ∷ bs) → kind_of wide (take k (b ∷ c ∷ bs)) ≡ None
  past_two b c bs zero h n lt le = absurd (omega arith)
  past_two b c bs (suc zero) h n lt le = absurd (omega arith)
  past_two b c bs (suc (suc zero)) h n lt le = absurd (omega arith)
  past_two b c [] (suc (suc (suc k))) h n lt le = absurd (omega arith)
  past_two b c (d ∷ bs) (suc (suc (suc k))) h n lt le = h (c ∷ d ∷ take k bs) ∙ three_none b c d (take k bs) n

  pub long_sign : (b c : ℕ) (bs : List ℕ) → Kinds b (λ cs. sign_kind (b ∷ cs)) → is_long_sign b c ≡ true → (eqb b 45 && is_digit c) ≡ false → IsWord wide (b ∷ c ∷ bs) Sign 2
  long_sign b c bs h l n = record {
    fits = omega arith;
    kind = h (c ∷ []) ∙ ap (λ (x : Bool). cond x (Some Sign) (cond (eqb b 45 && is_digit c) (Some Integer) None)) l;
    longest = λ k lt le. past_two b c bs k h n lt le;
  }

  two_none : (b c : ℕ) → is_long_sign b c ≡ false → (eqb b 45 && is_digit c) ≡ false → sign_kind (b ∷ c ∷ []) ≡ None
  two_none b c l n = rw (l, n) refl

  pub one_sign : (b c : ℕ) (bs : List ℕ) → Kinds b (λ cs. sign_kind (b ∷ cs)) → is_sign_byte b ≡ true → is_long_sign b c ≡ false → (eqb b 45 && is_digit c) ≡ false → IsWord wide (b ∷ c ∷ bs) Sign 1
  one_sign b c bs h s l n = record { fits = omega arith; kind = h [] ∙ ap (λ (x : Bool). cond x (Some Sign) None) s; longest = longer }
    where
      longer : (k : ℕ) → 1 < k → k ≤ length (b ∷ c ∷ bs) → kind_of wide (take k (b ∷ c ∷ bs)) ≡ None
      longer zero lt le = absurd (omega arith)
      longer (suc zero) lt le = absurd (omega arith)
      longer (suc (suc zero)) lt le = h (c ∷ []) ∙ two_none b c l n
      longer (suc (suc (suc k))) lt le = past_two b c bs (suc (suc (suc k))) h n (omega arith) le

  -- ---- an integer with a sign

  minus_all : (b c : ℕ) (cs : List ℕ) → Kinds b (λ cs. sign_kind (b ∷ cs)) → eqb b 45 ≡ true → is_digit c ≡ true → is_long_sign b c ≡ false → kind_of wide (b ∷ c ∷ cs) ≡ cond (all is_digit cs) (Some Integer) None
  minus_all b c [] h m d l = h (c ∷ []) ∙ rw (l, m, d) refl
  minus_all b c (x ∷ cs) h m d l = h (c ∷ x ∷ cs) ∙ rw (m, d) refl

  pub minus_word : (b c : ℕ) (bs : List ℕ) (n : ℕ) → Kinds b (λ cs. sign_kind (b ∷ cs)) → eqb b 45 ≡ true → is_digit c ≡ true → is_long_sign b c ≡ false → IsRun is_digit n bs → IsWord wide (b ∷ c ∷ bs) Integer (suc (suc n))
  minus_word b c bs n h m d l r = record {
    fits = let k = r.0 in omega arith;
    kind = minus_all b c (take n bs) h m d l ∙ ap (λ (x : Bool). cond x (Some Integer) None) r.1;
    longest = longer;
  }
    where
      longer : (k : ℕ) → suc (suc n) < k → k ≤ length (b ∷ c ∷ bs) → kind_of wide (take k (b ∷ c ∷ bs)) ≡ None
      longer zero lt le = absurd (omega arith)
      longer (suc zero) lt le = absurd (omega arith)
      longer (suc (suc k)) lt le = minus_all b c (take k bs) h m d l ∙ if_all is_digit Integer (take k bs) (r.2 k (omega arith) (omega arith))

  -- a sign of two bytes is no sign before a digit
  pub long_no_digit : (b c : ℕ) → is_long_sign b c ≡ true → (eqb b 45 && is_digit c) ≡ false
  unfolding is_long_sign
  long_no_digit b c h = elim (or_cases ((eqb b 58 && eqb c 61) || (eqb b 61 && eqb c 62)) (eqb b 45 && eqb c 62) h) [
    | inr k ↦ (let p = and_parts (eqb b 45) (eqb c 62) k in let e = eqb-true c 62 p.1 in let q = ap (λ (x : ℕ). is_digit x) e in and_right (eqb b 45) (is_digit c) q)
    | inl k ↦ elim (or_cases (eqb b 58 && eqb c 61) (eqb b 61 && eqb c 62) k) [
      | inl j ↦ (let p = and_parts (eqb b 58) (eqb c 61) j in let e = eqb-true b 58 p.0 in let q = ap (λ (x : ℕ). eqb x 45) e in and_left (eqb b 45) (is_digit c) q)
      | inr j ↦ (let p = and_parts (eqb b 61) (eqb c 62) j in let e = eqb-true b 61 p.0 in let q = ap (λ (x : ℕ). eqb x 45) e in and_left (eqb b 45) (is_digit c) q)
    ]
  ]

  -- ---- nothing

  pub no_word_nil : NoWord wide []
  no_word_nil zero = none_at_nil
  no_word_nil (suc k) = none_at_nil

  pub no_word_one : (b : ℕ) → Kinds b (λ cs. sign_kind (b ∷ cs)) → is_sign_byte b ≡ false → NoWord wide (b ∷ [])
  no_word_one b h s zero = none_at_nil
  no_word_one b h s (suc zero) = h [] ∙ rw s refl
  no_word_one b h s (suc (suc k)) = h [] ∙ rw s refl

  pub one_sign_alone : (b : ℕ) → Kinds b (λ cs. sign_kind (b ∷ cs)) → is_sign_byte b ≡ true → IsWord wide (b ∷ []) Sign 1
  one_sign_alone b h s = record { fits = omega arith; kind = h [] ∙ rw s refl; longest = λ k lt le. absurd (omega arith) }

  pub no_word_two : (b c : ℕ) (bs : List ℕ) → Kinds b (λ cs. sign_kind (b ∷ cs)) → is_sign_byte b ≡ false → is_long_sign b c ≡ false → (eqb b 45 && is_digit c) ≡ false → NoWord wide (b ∷ c ∷ bs)
  no_word_two b c bs h s l n zero = none_at_nil
  no_word_two b c bs h s l n (suc zero) = h [] ∙ rw s refl
  no_word_two b c bs h s l n (suc (suc zero)) = h (c ∷ []) ∙ two_none b c l n
  no_word_two b c [] h s l n (suc (suc (suc k))) = h (c ∷ []) ∙ two_none b c l n
  no_word_two b c (d ∷ bs) h s l n (suc (suc (suc k))) = h (c ∷ d ∷ take k bs) ∙ three_none b c d (take k bs) n

  -- ---- as the code has them

  nil_of : (l : List ℕ) → length l < 1 → l ≡ []
  nil_of [] h = refl
  nil_of (b ∷ l) h = absurd (omega arith)

  plus_one : (bytes : List ℕ) (k : TokenKind) (n : ℕ) → IsWord wide bytes k (suc n) → IsWord wide bytes k (n + 1)
  plus_one bytes k n w = let e : suc n ≡ n + 1 = omega arith in subst (IsWord wide bytes k) e w

  pub alone_found : (b : ℕ) (rest : List ℕ) → length rest < 1 → Kinds b (λ cs. sign_kind (b ∷ cs)) → is_sign_byte b ≡ true → IsWord wide (b ∷ rest) Sign 1
  alone_found b rest len h s = subst (λ (r : List ℕ). IsWord wide (b ∷ r) Sign 1) (sym (nil_of rest len)) (one_sign_alone b h s)

  pub none_alone : (b : ℕ) (rest : List ℕ) → length rest < 1 → Kinds b (λ cs. sign_kind (b ∷ cs)) → is_sign_byte b ≡ false → NoWord wide (b ∷ rest)
  none_alone b rest len h s = subst (λ (r : List ℕ). NoWord wide (b ∷ r)) (sym (nil_of rest len)) (no_word_one b h s)

  module _ (b : ℕ) (rest : List ℕ) (len : 1 ≤ length rest) (h : Kinds b (λ cs. sign_kind (b ∷ cs))) where
    abbrev second : ℕ
    second = get_or rest 0 0

    pub long_found : is_long_sign b second ≡ true → IsWord wide (b ∷ rest) Sign 2
    long_found l = subst (λ (r : List ℕ). IsWord wide (b ∷ r) Sign 2) (sym (cells rest len)) (long_sign b second (tail rest) h l (long_no_digit b second l))

    pub minus_found : (n : ℕ) → is_long_sign b second ≡ false → (eqb b 45 && is_digit second) ≡ true → IsRun is_digit n (tail rest) → IsWord wide (b ∷ rest) Integer (n + 2)
    minus_found n l m r =
        let k = and_parts (eqb b 45) (is_digit second) m in
        let e : suc (suc n) ≡ n + 2 = omega arith in
        subst (λ (z : List ℕ). IsWord wide (b ∷ z) Integer (n + 2)) (sym (cells rest len)) (subst (IsWord wide (b ∷ second ∷ tail rest) Integer) e (minus_word b second (tail rest) n h k.0 k.1 l r))

    pub sign_found : is_long_sign b second ≡ false → (eqb b 45 && is_digit second) ≡ false → is_sign_byte b ≡ true → IsWord wide (b ∷ rest) Sign 1
    sign_found l m s = subst (λ (r : List ℕ). IsWord wide (b ∷ r) Sign 1) (sym (cells rest len)) (one_sign b second (tail rest) h s l m)

    pub none_found : is_long_sign b second ≡ false → (eqb b 45 && is_digit second) ≡ false → is_sign_byte b ≡ false → NoWord wide (b ∷ rest)
    none_found l m s = subst (λ (r : List ℕ). NoWord wide (b ∷ r)) (sym (cells rest len)) (no_word_two b second (tail rest) h s l m)

  pub name_found : (b : ℕ) (rest bytes front : List ℕ) (n : ℕ) (x : Bool) → bytes ≡ b ∷ rest → front ≡ take (n + 1) bytes → is_keyword wide front ≡ x → is_upper b ≡ true → IsRun is_word n rest → IsWord wide (b ∷ rest) (cond x Keyword Upper) (n + 1)
  name_found b rest bytes front n x e f k u r =
      let one : n + 1 ≡ suc n = omega arith in
      let front_is : front ≡ b ∷ take n rest = f ∙ ap (take (n + 1)) e ∙ ap (λ (m : ℕ). take m (b ∷ rest)) one in
      let key : is_keyword wide (b ∷ take n rest) ≡ x = ap (is_keyword wide) (sym front_is) ∙ k in
      subst (λ (y : Bool). IsWord wide (b ∷ rest) (cond y Keyword Upper) (n + 1)) key (plus_one (b ∷ rest) (cond (is_keyword wide (b ∷ take n rest)) Keyword Upper) n (run_word is_word b rest n (λ cs. cond (is_keyword wide (b ∷ cs)) Keyword Upper) (upper_kind b u) r))

  pub lower_found : (b : ℕ) (rest : List ℕ) (n : ℕ) → is_upper b ≡ false → is_lower b ≡ true → IsRun is_word n rest → IsWord wide (b ∷ rest) Lower (n + 1)
  lower_found b rest n u l r = plus_one (b ∷ rest) Lower n (run_word is_word b rest n (λ _. Lower) (lower_kind b u l) r)

  pub digit_found : (b : ℕ) (rest : List ℕ) (n : ℕ) → is_upper b ≡ false → is_lower b ≡ false → is_digit b ≡ true → IsRun is_digit n rest → IsWord wide (b ∷ rest) Integer (n + 1)
  digit_found b rest n u l d r = plus_one (b ∷ rest) Integer n (run_word is_digit b rest n (λ _. Integer) (digit_kind b u l d) r)

  pub no_word_empty : (bytes : List ℕ) → length bytes < 1 → NoWord wide bytes
  no_word_empty bytes len = subst (NoWord wide) (sym (nil_of bytes len)) no_word_nil

-- ---- characters

pub at_quote : (bs : List ℕ) → kind_of true (39 ∷ bs) ≡ character_kind bs
unfolding kind_of
at_quote bs = refl

-- only three bytes are a character
pub past_three : (c d : ℕ) (bs : List ℕ) (k : ℕ) → 3 < k → k ≤ length (39 ∷ c ∷ d ∷ bs) → kind_of true (take k (39 ∷ c ∷ d ∷ bs)) ≡ None
past_three c d bs zero lt le = absurd (omega arith)
past_three c d bs (suc zero) lt le = absurd (omega arith)
past_three c d bs (suc (suc zero)) lt le = absurd (omega arith)
past_three c d bs (suc (suc (suc zero))) lt le = absurd (omega arith)
past_three c d [] (suc (suc (suc (suc k)))) lt le = absurd (omega arith)
past_three c d (e ∷ bs) (suc (suc (suc (suc k)))) lt le = at_quote (c ∷ d ∷ e ∷ take k bs)

character_word : (c d : ℕ) (bs : List ℕ) → (is_printable c && eqb d 39) ≡ true → IsWord true (39 ∷ c ∷ d ∷ bs) Character 3
character_word c d bs h = record {
  fits = omega arith;
  kind = at_quote (c ∷ d ∷ []) ∙ rw h refl;
  longest = past_three c d bs;
}

no_character : (c d : ℕ) (bs : List ℕ) → (is_printable c && eqb d 39) ≡ false → NoWord true (39 ∷ c ∷ d ∷ bs)
no_character c d bs h zero = none_at_nil true
no_character c d bs h (suc zero) = at_quote []
no_character c d bs h (suc (suc zero)) = at_quote (c ∷ [])
no_character c d bs h (suc (suc (suc zero))) = at_quote (c ∷ d ∷ []) ∙ rw h refl
no_character c d [] h (suc (suc (suc (suc k)))) = at_quote (c ∷ d ∷ []) ∙ rw h refl
no_character c d (e ∷ bs) h (suc (suc (suc (suc k)))) = at_quote (c ∷ d ∷ e ∷ take k bs)

two_cells : (bytes : List ℕ) → 2 ≤ length bytes → bytes ≡ get_or bytes 0 0 ∷ get_or bytes 1 0 ∷ drop 2 bytes
two_cells [] h = absurd (omega arith)
two_cells (b ∷ []) h = absurd (omega arith)
two_cells (b ∷ c ∷ bs) h = refl

pub character_found : (rest : List ℕ) → 2 ≤ length rest → (is_printable (get_or rest 0 0) && eqb (get_or rest 1 0) 39) ≡ true → IsWord true (39 ∷ rest) Character 3
character_found rest len h = subst (λ (r : List ℕ). IsWord true (39 ∷ r) Character 3) (sym (two_cells rest len)) (character_word (get_or rest 0 0) (get_or rest 1 0) (drop 2 rest) h)

pub no_character_found : (rest : List ℕ) → 2 ≤ length rest → (is_printable (get_or rest 0 0) && eqb (get_or rest 1 0) 39) ≡ false → NoWord true (39 ∷ rest)
no_character_found rest len h = subst (λ (r : List ℕ). NoWord true (39 ∷ r)) (sym (two_cells rest len)) (no_character (get_or rest 0 0) (get_or rest 1 0) (drop 2 rest) h)

pub quote_cut : (rest : List ℕ) → length rest < 2 → NoWord true (39 ∷ rest)
quote_cut rest len zero = none_at_nil true
quote_cut [] len (suc zero) = at_quote []
quote_cut [] len (suc (suc k)) = at_quote []
quote_cut (c ∷ []) len (suc zero) = at_quote []
quote_cut (c ∷ []) len (suc (suc zero)) = at_quote (c ∷ [])
quote_cut (c ∷ []) len (suc (suc (suc k))) = at_quote (c ∷ [])
quote_cut (c ∷ d ∷ bs) len (suc k) = absurd (omega arith)
