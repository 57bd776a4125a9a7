-- Steps over gaps and runs.
use Rattle.std.proofs.Common.{◌≡◌, ◌≢◌, ℕ, zero, suc, ◌+◌, ◌-◌, ◌≤◌, ◌<◌, Bool, true, false, List, [], ◌∷◌, ◌++◌, length, take, drop, get_or, Option, Some, None, refl, sym, ap, subst, ◌∙◌, append_assoc, arith}
use Rattle.std.proofs.Math.Bool.{and-false}
use Rattle.std.proofs.lemmas.Bool.{and_from, and_parts}
use Rattle.std.specs.Prelude.{IfSome}
use Rattle.std.specs.Borrow.{Bor}
use Rattle.std.proofs.lemmas.List.{take_all}
use Rattle.dactl_tokens.specs.Spelling.{is_blank, all}
use Rattle.dactl_tokens.specs.Lexes.{Open, IsGap, none, blank, comment}
use Rattle.dactl_tokens.specs.Found.{Skips, Closes}

-- no `}` stands before the rest
pub record Passed (bytes rest : List ℕ) : Type 0 where
  pub body : List ℕ
  pub is_open : Open body
  pub parts : bytes ≡ body ++ rest

open_push : (body : List ℕ) (b : ℕ) → Open body → b ≢ 125 → Open (body ++ b ∷ [])
open_push [] b o h = (h, tt)
open_push (c ∷ body) b o h = (o.0, open_push body b o.1 h)

pub passed_more : (bytes rest after : List ℕ) (b : ℕ) → Passed bytes rest → rest ≡ b ∷ after → b ≢ 125 → Passed bytes after
passed_more bytes rest after b p e h = record {
  body = p.body ++ b ∷ [];
  is_open = open_push p.body b p.is_open h;
  parts = p.parts ∙ ap (λ (k : List ℕ). p.body ++ k) e ∙ sym (append_assoc p.body (b ∷ []) after);
}

pub skips_none : (bytes : List ℕ) → Skips bytes bytes
skips_none bytes = record { gap = []; is_gap = none; parts = refl }

pub skips_blank : (bytes after : List ℕ) (b : ℕ) → bytes ≡ b ∷ after → is_blank b ≡ true → Skips bytes after
skips_blank bytes after b e h = record { gap = b ∷ []; is_gap = blank b [] h none; parts = e }

pub skips_comment : (bytes after rest : List ℕ) (b : ℕ) → bytes ≡ b ∷ after → b ≡ 123 → Closes after rest → Skips bytes rest
skips_comment bytes after rest b e h c = record {
  gap = 123 ∷ (c.body ++ 125 ∷ []);
  is_gap = comment c.body [] c.is_open none;
  parts = e ∙ ap (λ (x : ℕ). x ∷ after) h ∙ ap (λ (k : List ℕ). 123 ∷ k) (c.parts ∙ sym (append_assoc c.body (125 ∷ []) rest));
}

gap_then : {g : List ℕ} (h : List ℕ) → IsGap g → IsGap h → IsGap (g ++ h)
gap_then h none k = k
gap_then h (blank b bs p g) k = blank b (bs ++ h) p (gap_then h g k)
gap_then h (comment body bs o g) k = subst (λ (z : List ℕ). IsGap (123 ∷ z)) (sym (append_assoc body (125 ∷ bs) h)) (comment body (bs ++ h) o (gap_then h g k))

pub skips_more : (bytes rest after : List ℕ) → Skips bytes rest → Skips rest after → Skips bytes after
skips_more bytes rest after p q = record {
  gap = p.gap ++ q.gap;
  is_gap = gap_then q.gap p.is_gap q.is_gap;
  parts = p.parts ∙ ap (λ (k : List ℕ). p.gap ++ k) q.parts ∙ sym (append_assoc p.gap q.gap after);
}

-- ---- runs

pub all_more : (p : ℕ → Bool) (bytes : List ℕ) (n : ℕ) → n < length bytes → all p (take n bytes) ≡ true → p (get_or bytes n 0) ≡ true → all p (take (n + 1) bytes) ≡ true
all_more p [] n lt h k = absurd (omega arith)
all_more p (b ∷ bs) zero lt h k = and_from (p b) true k refl
all_more p (b ∷ bs) (suc n) lt h k =
    let e : suc n + 1 ≡ suc (n + 1) = omega arith in
    let r = all_more p bs n (omega arith) (and_parts (p b) (all p (take n bs)) h).1 k in
    rw e (and_from (p b) (all p (take (n + 1) bs)) (and_parts (p b) (all p (take n bs)) h).0 r)

pub all_stops : (p : ℕ → Bool) (bytes : List ℕ) (n k : ℕ) → n < length bytes → p (get_or bytes n 0) ≡ false → n < k → all p (take k bytes) ≡ false
all_stops p [] n k lt h le = absurd (omega arith)
all_stops p (b ∷ bs) n zero lt h le = absurd (omega arith)
all_stops p (b ∷ bs) zero (suc k) lt h le = rw h refl
all_stops p (b ∷ bs) (suc n) (suc k) lt h le = rw (all_stops p bs n k (omega arith) h (omega arith)) (and-false (p b))

-- ---- as a slice's pattern cuts

abbrev pub tail : List ℕ → List ℕ
tail bytes = take (length bytes - 1) (drop 1 bytes)

pub cells : (bytes : List ℕ) → 1 ≤ length bytes → bytes ≡ get_or bytes 0 0 ∷ tail bytes
cells [] h = absurd (omega arith)
cells (b ∷ bs) h = ap (λ (k : List ℕ). b ∷ k) (sym (take_all (length (b ∷ bs) - 1) bs (omega arith)))

shorter_tail : (bytes : List ℕ) → 1 ≤ length bytes → length (tail bytes) < length bytes
shorter_tail bytes h = let e = ap length (cells bytes h) in omega arith

pub blank_step : (bytes : List ℕ) → 1 ≤ length bytes → is_blank (get_or bytes 0 0) ≡ true → Skips bytes (tail bytes) × (length (tail bytes) < length bytes)
blank_step bytes h b = (skips_blank bytes (tail bytes) (get_or bytes 0 0) (cells bytes h) b, shorter_tail bytes h)

pub comment_step : (bytes : List ℕ) → 1 ≤ length bytes → get_or bytes 0 0 ≡ 123 → (r : Option (Bor (List ℕ))) → IfSome r (λ rest. Closes (tail bytes) rest.now × (length rest.now < length (tail bytes))) → IfSome r (λ rest. Skips bytes rest.now × (length rest.now < length bytes))
comment_step bytes h b None k = tt
comment_step bytes h b (Some rest) k = (skips_comment bytes (tail bytes) rest.now (get_or bytes 0 0) (cells bytes h) b k.0, let s = shorter_tail bytes h in let t = k.1 in omega arith)
