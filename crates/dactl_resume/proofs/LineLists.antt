-- The lines of a text.
use Rattle.std.proofs.Common.{◌≡◌, ℕ, zero, suc, ◌+◌, ◌<◌, ◌≤◌, ◌==◌, Bool, true, false, not, if◌then◌else◌, cond, List, [], ◌∷◌, ◌++◌, length, take, drop, count_by, Option, Some, None, slice_get, get_or, inl, inr, take-append-drop, refl, sym, ◌∙◌, ap, subst, arith}
use Rattle.std.specs.List.{concat}
use Rattle.std.proofs.lemmas.Bool.{eqb-true}
use Rattle.std.proofs.lemmas.List.{take_more}
use Rattle.std.proofs.lemmas.Option.{get_or_from_slice_get, slice_get_within, slice_get_cases}
use Rattle.dactl_base.specs.Readers.{next_line}
use Rattle.dactl_model.proofs.Counting.{count_by-cons}
use Rattle.dactl_resume.specs.Answers.{prepend, lines_of, DiffersFirst}

-- ---- the first line

-- a text that is not empty begins with a line, and the other lines are those of the rest
pub lines_next : (bs rest : List ℕ) → 0 < length bs → bs ≡ next_line bs ++ rest → lines_of bs ≡ next_line bs ∷ lines_of rest
lines_next [] rest some e = absurd (omega arith)
lines_next (b ∷ bs) rest some e =
    (elim (b == 10) as (λ t. (b == 10) ≡ t → b ∷ bs ≡ (if t then b ∷ [] else b ∷ next_line bs) ++ rest → (if t then (10 ∷ []) ∷ lines_of bs else prepend b (lines_of bs)) ≡ (if t then b ∷ [] else b ∷ next_line bs) ∷ lines_of rest) [
      | true ↦ λ feed e.
          let same : bs ≡ rest = cc in
          let byte : b ≡ 10 = eqb-true b 10 feed in
          ap (λ (t : List ℕ). (10 ∷ []) ∷ lines_of t) same ∙ ap (λ (k : ℕ). (k ∷ []) ∷ lines_of rest) (sym byte)
      | false ↦ λ other e. let same : bs ≡ next_line bs ++ rest = cc in later b bs rest (λ more is. lines_next bs rest more is) same
    ]) refl e
  where
    later : (b : ℕ) (bs rest : List ℕ) → (0 < length bs → bs ≡ next_line bs ++ rest → lines_of bs ≡ next_line bs ∷ lines_of rest) → bs ≡ next_line bs ++ rest → prepend b (lines_of bs) ≡ (b ∷ next_line bs) ∷ lines_of rest
    later b [] rest next same = let none : [] ≡ rest = same in ap (λ (t : List ℕ). (b ∷ []) ∷ lines_of t) none
    later b (c ∷ cs) rest next same = ap (prepend b) (next (omega arith) same)

-- the lines together are the text
pub lines_join : (bs : List ℕ) → concat (lines_of bs) ≡ bs
lines_join [] = refl
lines_join (b ∷ bs) =
    (elim (b == 10) as (λ t. (b == 10) ≡ t → concat (if t then (10 ∷ []) ∷ lines_of bs else prepend b (lines_of bs)) ≡ b ∷ bs) [
      | true ↦ λ feed. ap (λ (t : List ℕ). 10 ∷ t) (lines_join bs) ∙ ap (λ (k : ℕ). k ∷ bs) (sym (eqb-true b 10 feed))
      | false ↦ λ other. joined b (lines_of bs) ∙ ap (λ (t : List ℕ). b ∷ t) (lines_join bs)
    ]) refl
  where
    joined : (b : ℕ) (lines : List (List ℕ)) → concat (prepend b lines) ≡ b ∷ concat lines
    joined b [] = refl
    joined b (line ∷ lines) = refl

-- and they are no more than its bytes
pub lines_few : (bs : List ℕ) → length (lines_of bs) ≤ length bs
lines_few [] = omega arith
lines_few (b ∷ bs) =
    let rest = lines_few bs in
    elim (b == 10) as (λ t. length (if t then (10 ∷ []) ∷ lines_of bs else prepend b (lines_of bs)) ≤ length (b ∷ bs)) [
      | true ↦ omega (arith, rest)
      | false ↦ omega (arith, rest, longer b (lines_of bs))
    ]
  where
    longer : (b : ℕ) (lines : List (List ℕ)) → length (prepend b lines) ≤ length lines + 1
    longer b [] = omega arith
    longer b (line ∷ lines) = omega arith

-- ---- where two texts differ first

-- the first byte of a line
abbrev begun : Option (List ℕ) → Option ℕ
begun None = None
begun (Some line) = slice_get line 0

first_begun : (bs : List ℕ) → begun (slice_get (lines_of bs) 0) ≡ slice_get bs 0
first_begun [] = refl
first_begun (b ∷ bs) =
    (elim (b == 10) as (λ t. (b == 10) ≡ t → begun (slice_get (if t then (10 ∷ []) ∷ lines_of bs else prepend b (lines_of bs)) 0) ≡ Some b) [
      | true ↦ λ feed. ap Some (sym (eqb-true b 10 feed))
      | false ↦ λ other. by (lines_of bs)
    ]) refl
  where
    by : (lines : List (List ℕ)) → begun (slice_get (prepend b lines) 0) ≡ Some b
    by [] = refl
    by (line ∷ lines) = refl

-- no line is empty
some_line : (bs : List ℕ) → slice_get (lines_of bs) 0 ≡ Some [] → ⊥
some_line [] e = absurd (cc e)
some_line (b ∷ bs) e = let none : None ≡ Some b = sym (ap begun e) ∙ first_begun (b ∷ bs) in absurd (cc none)

-- the line, or nothing
abbrev or_nil : Option (List ℕ) → List ℕ
or_nil None = []
or_nil (Some line) = line

prepend_first : (b : ℕ) (lines : List (List ℕ)) → slice_get (prepend b lines) 0 ≡ Some (b ∷ or_nil (slice_get lines 0))
prepend_first b [] = refl
prepend_first b (line ∷ lines) = refl

prepend_later : (b : ℕ) (lines : List (List ℕ)) (i : ℕ) → slice_get (prepend b lines) (suc i) ≡ slice_get lines (suc i)
prepend_later b [] i = refl
prepend_later b (line ∷ lines) i = refl

nil_apart : (o q : Option (List ℕ)) → (o ≡ Some [] → ⊥) → (q ≡ Some [] → ⊥) → or_nil o ≡ or_nil q → o ≡ q
nil_apart None None one other e = refl
nil_apart None (Some line) one other e = absurd (other (ap Some (sym e)))
nil_apart (Some line) None one other e = absurd (one (ap Some e))
nil_apart (Some line) (Some more) one other e = ap Some e

prepend_same : (b : ℕ) (one other : List (List ℕ)) (j : ℕ) → slice_get one j ≡ slice_get other j → slice_get (prepend b one) j ≡ slice_get (prepend b other) j
prepend_same b one other zero e = prepend_first b one ∙ ap (λ (o : Option (List ℕ)). Some (b ∷ or_nil o)) e ∙ sym (prepend_first b other)
prepend_same b one other (suc j) e = prepend_later b one j ∙ e ∙ sym (prepend_later b other j)

prepend_apart : (b : ℕ) (xs ys : List ℕ) (i : ℕ) → (slice_get (lines_of xs) i ≡ slice_get (lines_of ys) i → ⊥) → slice_get (prepend b (lines_of xs)) i ≡ slice_get (prepend b (lines_of ys)) i → ⊥
prepend_apart b xs ys zero apart e =
    let both : Some (b ∷ or_nil (slice_get (lines_of xs) 0)) ≡ Some (b ∷ or_nil (slice_get (lines_of ys) 0)) = sym (prepend_first b (lines_of xs)) ∙ e ∙ prepend_first b (lines_of ys) in
    let same : or_nil (slice_get (lines_of xs) 0) ≡ or_nil (slice_get (lines_of ys) 0) = cc in
    apart (nil_apart (slice_get (lines_of xs) 0) (slice_get (lines_of ys) 0) (some_line xs) (some_line ys) same)
prepend_apart b xs ys (suc i) apart e = apart (sym (prepend_later b (lines_of xs) i) ∙ e ∙ prepend_later b (lines_of ys) i)

-- an LF more in front moves the line, and another byte does not
feed_first : (xs ys : List ℕ) (i : ℕ) → DiffersFirst xs ys i → DiffersFirst (10 ∷ xs) (10 ∷ ys) (suc i)
feed_first xs ys i is = record { differs = is.differs; before = go }
  where
    go : (j : ℕ) → j < suc i → slice_get (lines_of (10 ∷ xs)) j ≡ slice_get (lines_of (10 ∷ ys)) j
    go zero below = refl
    go (suc j) below = is.before j (omega arith)

byte_first : (b : ℕ) (xs ys : List ℕ) (i : ℕ) → (b == 10) ≡ false → DiffersFirst xs ys i → DiffersFirst (b ∷ xs) (b ∷ ys) i
byte_first b xs ys i other is =
    let there : (zs : List ℕ) → lines_of (b ∷ zs) ≡ prepend b (lines_of zs) = λ zs. ap (λ (t : Bool). if t then (10 ∷ []) ∷ lines_of zs else prepend b (lines_of zs)) other in
    record {
      differs = λ e. prepend_apart b xs ys i is.differs (ap (λ (ls : List (List ℕ)). slice_get ls i) (sym (there xs)) ∙ e ∙ ap (λ (ls : List (List ℕ)). slice_get ls i) (there ys));
      before = λ j below. ap (λ (ls : List (List ℕ)). slice_get ls j) (there xs) ∙ prepend_same b (lines_of xs) (lines_of ys) j (is.before j below) ∙ ap (λ (ls : List (List ℕ)). slice_get ls j) (sym (there ys));
    }

-- how many LFs there are
abbrev pub feeds : List ℕ → ℕ
feeds bs = count_by (λ b. b == 10) bs

-- texts that go on differently behind what they share differ first in the line that has begun there
pub differs_first : (common xs ys : List ℕ) → (slice_get xs 0 ≡ slice_get ys 0 → ⊥) → DiffersFirst (common ++ xs) (common ++ ys) (feeds common)
differs_first [] xs ys apart = record {
  differs = λ e. apart (sym (first_begun xs) ∙ ap begun e ∙ first_begun ys);
  before = λ j below. absurd (omega arith);
}
differs_first (b ∷ common) xs ys apart =
    let rest = differs_first common xs ys apart in
    subst (DiffersFirst (b ∷ (common ++ xs)) (b ∷ (common ++ ys))) (sym (count_by-cons (λ c. c == 10) b common))
    ((elim (b == 10) as (λ t. (b == 10) ≡ t → DiffersFirst (b ∷ (common ++ xs)) (b ∷ (common ++ ys)) (cond t 1 0 + feeds common)) [
      | true ↦ λ feed.
          let one : suc (feeds common) ≡ 1 + feeds common = omega arith in
          subst (λ (k : ℕ). DiffersFirst (k ∷ (common ++ xs)) (k ∷ (common ++ ys)) (1 + feeds common)) (sym (eqb-true b 10 feed)) (subst (DiffersFirst (10 ∷ (common ++ xs)) (10 ∷ (common ++ ys))) one (feed_first (common ++ xs) (common ++ ys) (feeds common) rest))
      | false ↦ λ other.
          let same : feeds common ≡ 0 + feeds common = omega arith in
          subst (DiffersFirst (b ∷ (common ++ xs)) (b ∷ (common ++ ys))) same (byte_first b (common ++ xs) (common ++ ys) (feeds common) other rest)
    ]) refl)

-- ---- a front that two texts share

-- one byte more
pub front_more : (text other : List ℕ) (at : ℕ) → at < length text → slice_get text at ≡ slice_get other at → take at text ≡ take at other → (at < length other) × (take (at + 1) text ≡ take (at + 1) other)
front_more text other at below same fronts =
    elim (slice_get_cases text at).1 [
      | inl (x, inside, got, is) ↦
          let there : slice_get other at ≡ Some x = sym same ∙ got in
          let within = slice_get_within other at x there in (
            within,
            take_more text at x below ∙ ap (λ (t : List ℕ). t ++ get_or text at x ∷ []) fronts
                ∙ ap (λ (k : ℕ). take at other ++ k ∷ []) (get_or_from_slice_get text at x x got ∙ sym (get_or_from_slice_get other at x x there)) ∙ sym (take_more other at x within),
          )
      | inr (past, none) ↦ absurd (omega arith)
    ]

get_drop : (n : ℕ) (bs : List ℕ) → slice_get (drop n bs) 0 ≡ slice_get bs n
get_drop zero bs = refl
get_drop (suc n) [] = refl
get_drop (suc n) (b ∷ bs) = get_drop n bs

past_both : (text other : List ℕ) (at : ℕ) → ((at < length text) × (slice_get text at ≡ slice_get other at) → ⊥) → ((length text ≤ at) × (length other ≤ at) → ⊥) → slice_get text at ≡ slice_get other at → ⊥
past_both text other at apart open_end same =
    elim (slice_get_cases text at).1 [
      | inl (x, inside, got, is) ↦ apart (inside, same)
      | inr (past, none) ↦
          elim (slice_get_cases other at).1 [
            | inl (y, within, there, also) ↦ let clash : None ≡ Some y = sym none ∙ same ∙ there in absurd (cc clash)
            | inr (beyond, nothing) ↦ open_end (past, beyond)
          ]
    ]

-- behind it the texts differ
pub differs_here : (text other : List ℕ) (at line : ℕ) → take at text ≡ take at other → line ≡ feeds (take at text) + 1
    → ((at < length text) × (slice_get text at ≡ slice_get other at) → ⊥) → ((length text ≤ at) × (length other ≤ at) → ⊥) → (i : ℕ) × (line ≡ i + 1) × DiffersFirst text other i
differs_here text other at line fronts number apart open_end =
    let heads : slice_get (drop at text) 0 ≡ slice_get (drop at other) 0 → ⊥ = λ e. past_both text other at apart open_end (sym (get_drop at text) ∙ e ∙ get_drop at other) in
    let first = differs_first (take at text) (drop at text) (drop at other) heads in
    let other_is : take at text ++ drop at other ≡ other = ap (λ (t : List ℕ). t ++ drop at other) fronts ∙ take-append-drop at other in (
      feeds (take at text),
      number,
      subst (λ (t : List ℕ). DiffersFirst t other (feeds (take at text))) (take-append-drop at text)
          (subst (λ (t : List ℕ). DiffersFirst (take at text ++ drop at text) t (feeds (take at text))) other_is first),
    )

true_false : true ≡ false → ⊥
true_false e = cc

pub not_empty : (text : List ℕ) → (length text == 0) ≡ false → 0 < length text
not_empty [] e = absurd (true_false e)
not_empty (b ∷ bs) e = omega arith

-- a text that is not empty has a line
pub some_text : (text : List ℕ) → 0 < length text → lines_of text ≡ [] → ⊥
some_text text some none =
    let empty : length text ≡ 0 = ap length (sym (lines_join text) ∙ ap concat none) in
    absurd (omega arith)
