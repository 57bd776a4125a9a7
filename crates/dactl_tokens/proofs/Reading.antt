-- A text read so far, and one token more.
use Rattle.std.proofs.Common.{◌≡◌, ℕ, ◌+◌, ◌-◌, ◌≤◌, ◌<◌, Bool, true, false, inl, inr, List, [], ◌∷◌, ◌++◌, length, drop, Some, Err, refl, sym, ap, subst, ◌∙◌, arith, length-append}
use Rattle.dactl_base.specs.declared.refusal.Kind.{Kind}
use Rattle.dactl_base.specs.declared.refusal.Refusal.{Refusal}
use Rattle.dactl_base.specs.declared.refusal.TextFault.{TextFault}
use Rattle.dactl_base.specs.declared.refusal.TextFault.TheVariants.{Refused, Memory}
use Rattle.dactl_tokens.specs.declared.token.Token.{Token}
use Rattle.dactl_tokens.specs.declared.token.TokenKind.{TokenKind}
use Rattle.dactl_tokens.specs.declared.token.TokenKind.TheVariants.{Integer}
use Rattle.dactl_tokens.specs.Spelling.{kind_of}
use Rattle.dactl_tokens.specs.Lexes.{IsTokenAt, Scans, ScansText, Lexes, has_header, IsBad, IsTooWide}
use Rattle.dactl_tokens.specs.Found.{Halts, Skips, TokenThere, FaultThere}
use Rattle.dactl_tokens.specs.Answer.{IsFirstFault, OkOrMemory, RefusedOrMemory}
use Rattle.dactl_tokens.proofs.OneReading.{Stopped, ended, bad, too_wide, SameReading, one_reading, kind_nil, bad_no_word}

-- a token and a gap behind what was read
scans_more : (wide : Bool) (place : ℕ) (bytes : List ℕ) (ts : List Token) (end : ℕ) (rest : List ℕ) (t : Token) (after next : List ℕ) → Scans wide place bytes ts end rest → TokenThere wide end rest after t → (s : Skips after next) → Scans wide place bytes (ts ++ t ∷ []) (t.to + length s.gap) next
scans_more wide place bytes [] end rest t after next w k s = record {
  gap = w.gap;
  word = k.word;
  more = after;
  parts = w.parts ∙ ap (λ (z : List ℕ). w.gap ++ z) k.parts;
  is_gap = w.is_gap;
  is_token = subst (λ (n : ℕ). IsTokenAt wide n k.word after t) w.at k.is_token;
  next = record {
    gap = s.gap;
    parts = s.parts;
    is_gap = s.is_gap;
    at = let to = k.is_token.to in let at = w.at in omega arith;
  };
}
scans_more wide place bytes (u ∷ ts) end rest t after next w k s = record {
  gap = w.gap;
  word = w.word;
  more = w.more;
  parts = w.parts;
  is_gap = w.is_gap;
  is_token = w.is_token;
  next = scans_more wide (place + length w.gap + length w.word) w.more ts end rest t after next w.next k s;
}

text_more : (wide : Bool) (text : List ℕ) (ts : List Token) (end : ℕ) (rest : List ℕ) (t : Token) (after next : List ℕ) → ScansText wide text ts end rest → TokenThere wide end rest after t → (s : Skips after next) → ScansText wide text (ts ++ t ∷ []) (t.to + length s.gap) next
text_more true text [] end rest t after next w k s = absurd w
text_more true text (u ∷ ts) end rest t after next w k s = (w.0, scans_more true 8 (drop 8 text) ts end rest t after next w.1 k s)
text_more false text ts end rest t after next w k s = scans_more false 0 text ts end rest t after next w k s

-- the text is gaps and these tokens up to the rest, where no gap goes on
pub record Read (text : List ℕ) (ts : List Token) (rest : List ℕ) : Type 0 where
  pub within : length rest ≤ length text
  pub scans : ScansText (has_header text) text ts (length text - length rest) rest
  pub halts : Halts rest

pub read_more : (wide : Bool) (text : List ℕ) (ts : List Token) (rest after next : List ℕ) (t : Token) → wide ≡ has_header text → Read text ts rest → TokenThere wide (length text - length rest) rest after t → Skips after next → Halts next → Read text (ts ++ t ∷ []) next
read_more wide text ts rest after next t e r k s h =
    let there : TokenThere (has_header text) (length text - length rest) rest after t = subst (λ (w : Bool). TokenThere w (length text - length rest) rest after t) e k in
    let len : length rest ≡ length k.word + length after = ap length k.parts ∙ length-append k.word after in
    let len' : length after ≡ length s.gap + length next = ap length s.parts ∙ length-append s.gap next in
    let to = k.is_token.to in
    let inside = r.within in
    let at : t.to + length s.gap ≡ length text - length next = omega arith in
    record { within = omega arith; scans = subst (λ (n : ℕ). ScansText (has_header text) text (ts ++ t ∷ []) n next) at (text_more (has_header text) text ts (length text - length rest) rest t after next r.scans there s); halts = h }

word_there : (wide : Bool) (k : TokenKind) (word : List ℕ) → kind_of wide word ≡ Some k → 0 < length word
word_there wide k [] h = absurd (kind_nil wide k h)
word_there wide k (b ∷ word) h = omega arith

pub left_less : (wide : Bool) (rest after next : List ℕ) (place : ℕ) (t : Token) → TokenThere wide place rest after t → Skips after next → length next < length rest
left_less wide rest after next place t k s =
    let some = word_there wide t.kind k.word k.is_token.kind in
    let len : length rest ≡ length k.word + length after = ap length k.parts ∙ length-append k.word after in
    let len' : length after ≡ length s.gap + length next = ap length s.parts ∙ length-append s.gap next in
    omega arith

-- ---- the clauses

pub read_all : (text : List ℕ) (ts : List Token) (rest : List ℕ) → Read text ts rest → length rest ≤ 0 → Lexes text ts
read_all text ts [] r h = (length text - 0, r.scans)
read_all text ts (b ∷ rest) r h = absurd (omega arith)

-- a text of either language has one reading
text_reading : (wide : Bool) (ts us : List Token) (text : List ℕ) (e f : ℕ) (r s : List ℕ) → Stopped wide r → Stopped wide s → ScansText wide text ts e r → ScansText wide text us f s → SameReading ts us e f r s
text_reading true [] us text e f r s p q a b = absurd a
text_reading true (t ∷ ts) [] text e f r s p q a b = absurd b
text_reading true (t ∷ ts) (u ∷ us) text e f r s p q a b =
    let k = one_reading true ts us 8 (drop 8 text) e f r s p q a.1 b.1 in
    record { tokens = ap (λ (x : Token). x ∷ ts) (a.0 ∙ sym b.0) ∙ ap (λ (x : List Token). u ∷ x) k.tokens; end = k.end; rest = k.rest }
text_reading false ts us text e f r s p q a b = one_reading false ts us 0 text e f r s p q a b

pub lexes_once : (text : List ℕ) (ts us : List Token) → Lexes text ts → Lexes text us → ts ≡ us
lexes_once text ts us a b = (text_reading (has_header text) ts us text a.0 b.0 [] [] (ended refl) (ended refl) a.1 b.1).tokens

pub read_refused : (wide : Bool) (text : List ℕ) (ts : List Token) (rest : List ℕ) (r : Refusal) → wide ≡ has_header text → Read text ts rest → FaultThere wide (length text - length rest) rest r → IsFirstFault text r
read_refused wide text ts rest r e k f = elim f.fault as (λ _. IsFirstFault text r) [
  | inl w ↦ inl (w.0, record { tokens = ts; rest = rest; scans = scans; stops = subst (λ (x : Bool). IsBad x rest) e w.1 })
  | inr w ↦ inr (w.0, record { tokens = ts; rest = rest; scans = scans; stops = subst (λ (x : Bool). IsTooWide x rest) e w.1 })
]
  where
    scans : ScansText (has_header text) text ts r.place.byte rest
    scans = subst (λ (n : ℕ). ScansText (has_header text) text ts n rest) (sym f.at) k.scans

nil_word : (wide : Bool) {k : TokenKind} (word more : List ℕ) → kind_of wide word ≡ Some k → [] ≡ word ++ more → ⊥
nil_word wide {k} [] more h e = kind_nil wide k h
nil_word wide (b ∷ word) more h e = cc

record Stop (text : List ℕ) (place : ℕ) : Type 0 where
  pub tokens : List Token
  pub rest : List ℕ
  pub scans : ScansText (has_header text) text tokens place rest
  pub stopped : Stopped (has_header text) rest
  pub faulty : rest ≡ [] → ⊥

stop_of : (text : List ℕ) (r : Refusal) → IsFirstFault text r → Stop text r.place.byte
stop_of text r (inl w) = record { tokens = w.1.tokens; rest = w.1.rest; scans = w.1.scans; stopped = bad w.1.stops; faulty = λ e. subst (IsBad (has_header text)) e w.1.stops }
stop_of text r (inr w) = record { tokens = w.1.tokens; rest = w.1.rest; scans = w.1.scans; stopped = too_wide w.1.stops; faulty = λ e. not_nil w.1.rest w.1.stops e }
  where
    not_nil : (rest : List ℕ) → IsTooWide (has_header text) rest → rest ≡ [] → ⊥
    not_nil rest h e = nil_word (has_header text) h.word h.more h.kind (sym e ∙ h.parts)

-- a text with a fault doesn't lex
pub never_both : (text : List ℕ) (ts : List Token) (r : Refusal) → Lexes text ts → IsFirstFault text r → ⊥
never_both text ts r a f =
    let s = stop_of text r f in
    let k = text_reading (has_header text) ts s.tokens text a.0 r.place.byte [] s.rest (ended refl) s.stopped a.1 s.scans in
    s.faulty (sym k.rest)

place_same : (r s : Refusal) → r.kind ≡ s.kind → r.place.byte ≡ s.place.byte → r ≡ s
place_same r s k p = ap (λ (x : Kind). record { kind = x; place = r.place }) k ∙ ap (λ (n : ℕ). record { kind = s.kind; place = record { byte = n } }) p

-- a text has one first fault
pub one_fault : (text : List ℕ) (r s : Refusal) → IsFirstFault text r → IsFirstFault text s → r ≡ s
unfolding stop_of
one_fault text r s f g =
    let a = stop_of text r f in
    let b = stop_of text s g in
    let k = text_reading (has_header text) a.tokens b.tokens text r.place.byte s.place.byte a.rest b.rest a.stopped b.stopped a.scans b.scans in
    place_same r s (kinds f g k.rest) k.end
  where
    kinds : (f : IsFirstFault text r) (g : IsFirstFault text s) → (stop_of text r f).rest ≡ (stop_of text s g).rest → r.kind ≡ s.kind
    kinds (inl f) (inl g) e = f.0 ∙ sym g.0
    kinds (inl f) (inr g) e = absurd (bad_no_word (has_header text) f.1.rest g.1.stops.word g.1.stops.more Integer f.1.stops g.1.stops.kind (e ∙ g.1.stops.parts))
    kinds (inr f) (inl g) e = absurd (bad_no_word (has_header text) g.1.rest f.1.stops.word f.1.stops.more Integer g.1.stops f.1.stops.kind (sym e ∙ f.1.stops.parts))
    kinds (inr f) (inr g) e = f.0 ∙ sym g.0

-- ---- what the exits answer

pub fault_only : {X : Type 0} (view : X → List Token) (text : List ℕ) (e : TextFault) → ((r : Refusal) → e ≡ Refused r → IsFirstFault text r) → (ts : List Token) → Lexes text ts → OkOrMemory view ts (Err e)
fault_only view text (Refused r) h ts a = absurd (never_both text ts r a (h r refl))
fault_only view text Memory h ts a = tt

pub fault_only_refused : (X : Type 0) (text : List ℕ) (e : TextFault) → ((r : Refusal) → e ≡ Refused r → IsFirstFault text r) → (r : Refusal) → IsFirstFault text r → RefusedOrMemory {X = X} r (Err e)
fault_only_refused X text (Refused s) h r a = one_fault text s r (h s refl) a
fault_only_refused X text Memory h r a = tt
