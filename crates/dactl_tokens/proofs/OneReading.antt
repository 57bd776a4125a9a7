-- A text has one reading: the tokens, and the place where it stops.
use Rattle.std.proofs.Common.{◌≡◌, ℕ, ◌+◌, ◌≤◌, Bool, true, false, eqb, inl, inr, List, [], ◌∷◌, ◌++◌, length, take, Some, None, refl, sym, ap, subst, ◌∙◌, append_assoc, arith, length-append}
use Rattle.std.specs.Prelude.{◌||◌}
use Rattle.std.proofs.lemmas.Bool.{eqb-true, cases_lt, or_cases}
use Rattle.std.proofs.lemmas.List.{take_at}
use Rattle.dactl_tokens.specs.declared.token.TokenKind.{TokenKind}
use Rattle.dactl_tokens.specs.declared.token.TokenKind.TheVariants.{Integer}
use Rattle.dactl_tokens.specs.declared.token.Token.{Token}
use Rattle.dactl_tokens.specs.Spelling.{is_upper, is_lower, is_digit, is_blank, is_sign_byte, is_long_sign, kind_of, is_too_wide}
use Rattle.dactl_tokens.specs.Lexes.{Open, IsGap, none, blank, comment, IsLongest, IsTokenAt, Scans, IsBad, IsTooWide}
use Rattle.dactl_tokens.specs.Found.{Halts}

-- ---- a gap is the whole of what stands before

open_same : (a b x y : List ℕ) → Open a → Open b → a ++ (125 ∷ x) ≡ b ++ (125 ∷ y) → (a ≡ b) × (x ≡ y)
open_same [] [] x y o p e = (refl, cc)
open_same [] (c ∷ b) x y o p e = absurd (p.0 cc)
open_same (c ∷ a) [] x y o p e = absurd (o.0 cc)
open_same (c ∷ a) (d ∷ b) x y o p e =
    let head : c ≡ d = cc in
    let tail : a ++ (125 ∷ x) ≡ b ++ (125 ∷ y) = cc in
    let r = open_same a b x y o.1 p.1 tail in
    (ap (λ (k : List ℕ). c ∷ k) r.0 ∙ ap (λ (k : ℕ). k ∷ b) head, r.1)

never_open : (body x : List ℕ) → Open (body ++ (125 ∷ x)) → ⊥
never_open [] x o = o.0 refl
never_open (b ∷ body) x o = never_open body x o.1

blank_apart : (b : ℕ) (bs x y : List ℕ) → is_blank b ≡ true → Halts x → x ≡ (b ∷ bs) ++ y → ⊥
blank_apart b bs x y p h e = let k = subst Halts e h in let q = k.0 in cc

comment_apart : (body bs x y : List ℕ) → Halts x → x ≡ (123 ∷ (body ++ (125 ∷ bs))) ++ y → ⊥
comment_apart body bs x y h e =
    let k = subst Halts e h in
    let o = k.1 refl in
    never_open body (bs ++ y) (subst Open (append_assoc body (125 ∷ bs) y) o)

both_apart : (b : ℕ) (bs cs : List ℕ) → is_blank b ≡ true → b ∷ bs ≡ 123 ∷ cs → ⊥
both_apart b bs cs p e = let q : b ≡ 123 = cc in let r = subst (λ (k : ℕ). is_blank k ≡ true) q p in cc

gap_same : {g h : List ℕ} → IsGap g → IsGap h → (x y : List ℕ) → Halts x → Halts y → g ++ x ≡ h ++ y → (g ≡ h) × (x ≡ y)
gap_same none none x y p q e = (refl, e)
gap_same none (blank b bs k H) x y p q e = absurd (blank_apart b bs x y k p e)
gap_same none (comment body bs o H) x y p q e = absurd (comment_apart body bs x y p e)
gap_same (blank b bs k G) none x y p q e = absurd (blank_apart b bs y x k q (sym e))
gap_same (comment body bs o G) none x y p q e = absurd (comment_apart body bs y x q (sym e))
gap_same (blank b bs k G) (comment body cs o H) x y p q e = absurd (both_apart b (bs ++ x) ((body ++ (125 ∷ cs)) ++ y) k e)
gap_same (comment body cs o G) (blank b bs k H) x y p q e = absurd (both_apart b (bs ++ y) ((body ++ (125 ∷ cs)) ++ x) k (sym e))
gap_same (blank b bs k G) (blank c cs l H) x y p q e =
    let head : b ≡ c = cc in
    let tail : bs ++ x ≡ cs ++ y = cc in
    let r = gap_same G H x y p q tail in
    (ap (λ (z : List ℕ). b ∷ z) r.0 ∙ ap (λ (z : ℕ). z ∷ cs) head, r.1)
gap_same (comment body bs o G) (comment body' cs o' H) x y p q e =
    let tail : (body ++ (125 ∷ bs)) ++ x ≡ (body' ++ (125 ∷ cs)) ++ y = cc in
    let grouped : body ++ (125 ∷ (bs ++ x)) ≡ body' ++ (125 ∷ (cs ++ y)) = sym (append_assoc body (125 ∷ bs) x) ∙ tail ∙ append_assoc body' (125 ∷ cs) y in
    let inner = open_same body body' (bs ++ x) (cs ++ y) o o' grouped in
    let r = gap_same G H x y p q inner.1 in
    (ap (λ (z : List ℕ). 123 ∷ (z ++ (125 ∷ bs))) inner.0 ∙ ap (λ (z : List ℕ). 123 ∷ (body' ++ (125 ∷ z))) r.0, r.1)

-- ---- lists that go on after their fronts

fronts : (u v x y : List ℕ) → length u ≡ length x → u ++ v ≡ x ++ y → (u ≡ x) × (v ≡ y)
fronts [] v [] y len e = (refl, e)
fronts [] v (b ∷ x) y len e = absurd (omega arith)
fronts (b ∷ u) v [] y len e = absurd (omega arith)
fronts (b ∷ u) v (c ∷ x) y len e =
    let head : b ≡ c = cc in
    let tail : u ++ v ≡ x ++ y = cc in
    let r = fronts u v x y (omega arith) tail in
    (ap (λ (z : List ℕ). b ∷ z) r.0 ∙ ap (λ (z : ℕ). z ∷ x) head, r.1)

-- ---- where a text stops

pub data Stopped (wide : Bool) (rest : List ℕ) : Type 0 where
  ended : rest ≡ [] → Stopped wide rest
  bad : IsBad wide rest → Stopped wide rest
  too_wide : IsTooWide wide rest → Stopped wide rest

token_is : (t u : Token) → t.kind ≡ u.kind → t.from ≡ u.from → t.to ≡ u.to → t ≡ u
token_is t u a b c =
    ap (λ (k : TokenKind). record { kind = k; from = t.from; to = t.to }) a
    ∙ ap (λ (k : ℕ). record { kind = u.kind; from = k; to = t.to }) b
    ∙ ap (λ (k : ℕ). record { kind = u.kind; from = u.from; to = k }) c

pub record SameReading (ts us : List Token) (e f : ℕ) (r s : List ℕ) : Type 0 where
  pub tokens : ts ≡ us
  pub end : e ≡ f
  pub rest : r ≡ s

module _ (wide : Bool) where
  -- ---- no token begins as a gap does

  no_start : (b : ℕ) (bs : List ℕ) → is_upper b ≡ false → is_lower b ≡ false → is_digit b ≡ false → eqb b 39 ≡ false → eqb b 45 ≡ false → is_sign_byte b ≡ false → ((c : ℕ) → is_long_sign b c ≡ false) → kind_of wide (b ∷ bs) ≡ None
  unfolding kind_of
  no_start b [] u l d q m s long = rw (u, l, d, q, s) refl
  no_start b (c ∷ []) u l d q m s long = rw (u, l, d, q, m, long c) refl
  no_start b (c ∷ e ∷ bs) u l d q m s long = rw (u, l, d, q, m) refl

  no_123 : (bs : List ℕ) → kind_of wide (123 ∷ bs) ≡ None
  unfolding is_sign_byte is_long_sign
  no_123 bs = no_start 123 bs refl refl refl refl refl refl (λ c. refl)

  at_value : (b n : ℕ) (bs : List ℕ) → eqb b n ≡ true → kind_of wide (n ∷ bs) ≡ None → kind_of wide (b ∷ bs) ≡ None
  at_value b n bs h e = subst (λ (k : ℕ). kind_of wide (k ∷ bs) ≡ None) (sym (eqb-true b n h)) e

  no_blank : (b : ℕ) (bs : List ℕ) → is_blank b ≡ true → kind_of wide (b ∷ bs) ≡ None
  unfolding is_sign_byte is_long_sign
  no_blank b bs h = elim (or_cases (eqb b 32 || eqb b 9 || eqb b 10) (eqb b 13) h) [
    | inr k ↦ at_value b 13 bs k (no_start 13 bs refl refl refl refl refl refl (λ c. refl))
    | inl k ↦ elim (or_cases (eqb b 32 || eqb b 9) (eqb b 10) k) [
      | inr k ↦ at_value b 10 bs k (no_start 10 bs refl refl refl refl refl refl (λ c. refl))
      | inl k ↦ elim (or_cases (eqb b 32) (eqb b 9) k) [
        | inr k ↦ at_value b 9 bs k (no_start 9 bs refl refl refl refl refl refl (λ c. refl))
        | inl k ↦ at_value b 32 bs k (no_start 32 bs refl refl refl refl refl refl (λ c. refl))
      ]
    ]
  ]

  blank_or : (b : ℕ) (bs : List ℕ) (k : TokenKind) (x : Bool) → is_blank b ≡ x → kind_of wide (b ∷ bs) ≡ Some k → x ≡ false
  blank_or b bs k true h e = let n = no_blank b bs h in absurd cc
  blank_or b bs k false h e = refl

  not_123 : (b : ℕ) (bs : List ℕ) (k : TokenKind) → kind_of wide (b ∷ bs) ≡ Some k → b ≡ 123 → ⊥
  not_123 b bs k e h = let n = no_123 bs in let m = ap (λ (x : ℕ). kind_of wide (x ∷ bs)) h in cc

  pub kind_nil : (k : TokenKind) → kind_of wide [] ≡ Some k → ⊥
  unfolding kind_of
  kind_nil k e = cc

  word_halts : (word more : List ℕ) (k : TokenKind) → kind_of wide word ≡ Some k → Halts (word ++ more)
  word_halts [] more k e = absurd (kind_nil k e)
  word_halts (b ∷ bs) more k e = (blank_or b bs k (is_blank b) refl e, λ h. absurd (not_123 b bs k e h))

  -- ---- the longest token is one

  not_longer : (w m v n : List ℕ) (k : TokenKind) → kind_of wide v ≡ Some k → IsLongest wide (length w) (w ++ m) → w ++ m ≡ v ++ n → length v ≤ length w
  not_longer w m v n k e longest same = elim (cases_lt (length w) (length v)) [
    | inr le ↦ le
    | inl lt ↦ (let fits : length v ≤ length (w ++ m) = rw same (omega (arith, length-append v n)) in
        let nothing = longest (length v) lt fits in
        let is_v : take (length v) (w ++ m) ≡ v = ap (take (length v)) same ∙ take_at v n (length v) refl in
        let none_v : kind_of wide v ≡ None = ap (kind_of wide) (sym is_v) ∙ nothing in
        absurd cc)
  ]

  word_same : (w m v n : List ℕ) (j k : TokenKind) → kind_of wide w ≡ Some j → kind_of wide v ≡ Some k → IsLongest wide (length w) (w ++ m) → IsLongest wide (length v) (v ++ n) → w ++ m ≡ v ++ n → (w ≡ v) × (m ≡ n)
  word_same w m v n j k ew ev lw lv same =
      fronts w m v n (omega (arith, not_longer w m v n k ev lw same, not_longer v n w m j ew lv (sym same))) same

  -- ---- where a text stops

  stopped_halts : (rest : List ℕ) → Stopped wide rest → Halts rest
  stopped_halts [] s = tt
  stopped_halts (b ∷ bs) (ended e) = absurd cc
  stopped_halts (b ∷ bs) (bad h) = (h.0, h.1)
  stopped_halts (b ∷ bs) (too_wide h) = subst Halts (sym h.parts) (word_halts h.word h.more Integer h.kind)

  -- no token stands where a text stops
  pub bad_no_word : (rest w m : List ℕ) (k : TokenKind) → IsBad wide rest → kind_of wide w ≡ Some k → rest ≡ w ++ m → ⊥
  bad_no_word [] w m k b e same = b
  bad_no_word (c ∷ cs) w m k b e same =
      let nothing = b.2 (length w) in
      let is_w : take (length w) (c ∷ cs) ≡ w = ap (take (length w)) same ∙ take_at w m (length w) refl in
      let none_w : kind_of wide w ≡ None = ap (kind_of wide) (sym is_w) ∙ nothing in
      cc

  wide_no_word : (rest w m : List ℕ) (place : ℕ) (t : Token) → IsTooWide wide rest → IsTokenAt wide place w m t → rest ≡ w ++ m → ⊥
  wide_no_word rest w m place t h token same =
      let one = word_same h.word h.more w m Integer t.kind h.kind token.kind h.longest token.longest (sym h.parts ∙ same) in
      let is_int : Some t.kind ≡ Some Integer = sym token.kind ∙ ap (kind_of wide) (sym one.0) ∙ h.kind in
      let int : t.kind ≡ Integer = cc in
      let fits = token.fits int in
      let not_fits : is_too_wide wide w ≡ true = ap (is_too_wide wide) (sym one.0) ∙ h.too_wide in
      cc

  stop_no_word : (rest w m : List ℕ) (place : ℕ) (t : Token) → Stopped wide rest → IsTokenAt wide place w m t → rest ≡ w ++ m → ⊥
  stop_no_word rest w m place t (bad h) token same = bad_no_word rest w m t.kind h token.kind same
  stop_no_word rest w m place t (too_wide h) token same = wide_no_word rest w m place t h token same
  stop_no_word rest [] m place t (ended h) token same = kind_nil t.kind token.kind
  stop_no_word rest (b ∷ w) m place t (ended h) token same = absurd cc

  -- however a text is read up to where it stops, the tokens are the same, and the place
  pub one_reading : (ts us : List Token) (place : ℕ) (bytes : List ℕ) (e f : ℕ) (r s : List ℕ) → Stopped wide r → Stopped wide s → Scans wide place bytes ts e r → Scans wide place bytes us f s → SameReading ts us e f r s
  one_reading [] [] place bytes e f r s p q a b =
      let k = gap_same a.is_gap b.is_gap r s (stopped_halts r p) (stopped_halts s q) (sym a.parts ∙ b.parts) in
      record { tokens = refl; end = a.at ∙ ap (λ (g : List ℕ). place + length g) k.0 ∙ sym b.at; rest = k.1 }
  one_reading [] (u ∷ us) place bytes e f r s p q a b =
      let k = gap_same a.is_gap b.is_gap r (b.word ++ b.more) (stopped_halts r p) (word_halts b.word b.more u.kind b.is_token.kind) (sym a.parts ∙ b.parts) in
      absurd (stop_no_word r b.word b.more (place + length b.gap) u p b.is_token k.1)
  one_reading (t ∷ ts) [] place bytes e f r s p q a b =
      let k = gap_same b.is_gap a.is_gap s (a.word ++ a.more) (stopped_halts s q) (word_halts a.word a.more t.kind a.is_token.kind) (sym b.parts ∙ a.parts) in
      absurd (stop_no_word s a.word a.more (place + length a.gap) t q a.is_token k.1)
  one_reading (t ∷ ts) (u ∷ us) place bytes e f r s p q a b =
      let k = gap_same a.is_gap b.is_gap (a.word ++ a.more) (b.word ++ b.more) (word_halts a.word a.more t.kind a.is_token.kind) (word_halts b.word b.more u.kind b.is_token.kind) (sym a.parts ∙ b.parts) in
      let w = word_same a.word a.more b.word b.more t.kind u.kind a.is_token.kind b.is_token.kind a.is_token.longest b.is_token.longest k.1 in
      let kinds : Some t.kind ≡ Some u.kind = sym a.is_token.kind ∙ ap (kind_of wide) w.0 ∙ b.is_token.kind in
      let kind : t.kind ≡ u.kind = cc in
      let from : t.from ≡ u.from = a.is_token.from ∙ ap (λ (g : List ℕ). place + length g) k.0 ∙ sym b.is_token.from in
      let len_g = ap length k.0 in
      let len_w = ap length w.0 in
      let a_to = a.is_token.to in
      let b_to = b.is_token.to in
      let to : t.to ≡ u.to = omega arith in
      let at : place + length b.gap + length b.word ≡ place + length a.gap + length a.word = omega arith in
      let next : Scans wide (place + length a.gap + length a.word) a.more us f s = subst (λ (m : List ℕ). Scans wide (place + length a.gap + length a.word) m us f s) (sym w.1) (subst (λ (n : ℕ). Scans wide n b.more us f s) at b.next) in
      let rest = one_reading ts us (place + length a.gap + length a.word) a.more e f r s p q a.next next in
      record { tokens = ap (λ (z : List Token). t ∷ z) rest.tokens ∙ ap (λ (z : Token). z ∷ us) (token_is t u kind from to); end = rest.end; rest = rest.rest }
