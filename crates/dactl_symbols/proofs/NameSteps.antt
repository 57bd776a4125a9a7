-- What names mean after one declaration more.
use Rattle.std.proofs.Common.{◌≡◌, ℕ, ◌+◌, ◌-◌, ◌^◌, ◌<◌, ◌≤◌, Bool, true, false, cond, not, ◌||◌, eqb, List, [], ◌∷◌, ◌++◌, min, take, Option, Some, None, length, is_some, inl, inr, refl, sym, ap, ◌∙◌, arith}
use Rattle.std.specs.Prelude.{find, count_by, option_map}
use Rattle.std.specs.List.{before_first, position_or_len, list_any}
use Rattle.std.specs.Option.{option_or}
use Rattle.std.specs.Str.{bytes_eq}
use Rattle.std.proofs.lemmas.List.{take-append-le, take_at, length-take}
use Rattle.std.proofs.lemmas.List.Sums.{sum_by_push}
use Rattle.std.proofs.lemmas.List.Folds.{find-append, find_at, length-prefix_len, position_or_len_push}
use Rattle.std.proofs.lemmas.Option.{slice_get_within, slice_get_cases}
use Rattle.std.proofs.lemmas.Slice.Eq.{bytes_eq-Decides}
use Rattle.std.proofs.lemmas.Bool.Decides.{same_from_decides, nat_tests}
use Rattle.dactl_base.specs.declared.refusal.Refusal.{Refusal}
use Rattle.dactl_meaning.specs.Declarations.{Declaration, is_called, is_symbol}
use Rattle.dactl_symbols.specs.Least.{sooner}
use Rattle.dactl_symbols.specs.Meanings.{First, meaning_in, symbol_count, twice_at, again_after, count_with, first_with, repeats, Adds, AreNames}
use Rattle.dactl_symbols.proofs.Again.{again_after-push}

-- ---- the first that passes, in a list and one more

position-within : {X : Type 0} (p : X → Bool) (xs : List X) → position_or_len p xs ≤ length xs
position-within p xs =
    let short : length (take (position_or_len p xs) xs) ≡ min (position_or_len p xs) (length xs) = length-take (position_or_len p xs) xs in
    let whole : length (take (position_or_len p xs) xs) ≡ position_or_len p xs = length-prefix_len (λ x. not (p x)) xs in
    omega arith

eqb-false : (m n : ℕ) → m < n → eqb m n ≡ false
eqb-false m n h = grind (arith, nat_tests)

eqb-true : (n : ℕ) → eqb n n ≡ true
eqb-true n = grind (arith, nat_tests)

before_first-found : {X : Type 0} (p : X → Bool) (xs : List X) (y x : X) → find p xs ≡ Some x → before_first p (xs ++ y ∷ []) ≡ before_first p xs
before_first-found p xs y x found =
    let below : position_or_len p xs < length xs = slice_get_within xs (position_or_len p xs) x (sym (find_at p xs) ∙ found) in
    let same : position_or_len p (xs ++ y ∷ []) ≡ position_or_len p xs = position_or_len_push p xs y ∙ ap (λ b. cond b (length xs + cond (p y) 0 1) (position_or_len p xs)) (eqb-false (position_or_len p xs) (length xs) below) in
    ap (λ n. take n (xs ++ y ∷ [])) same ∙ take-append-le (position_or_len p xs) xs (y ∷ []) (omega arith)

none-past : {X : Type 0} (p : X → Bool) (xs : List X) → find p xs ≡ None → position_or_len p xs ≡ length xs
none-past p xs none = elim (slice_get_cases xs (position_or_len p xs)).1 [
  | inl there ↦ let both : None ≡ Some there.0 = sym none ∙ find_at p xs ∙ there.2 in absurd (clash there.0 both)
  | inr past ↦ let within : position_or_len p xs ≤ length xs = position-within p xs in let beyond : length xs ≤ position_or_len p xs = past.0 in omega arith
]
  where
    clash : {X : Type 0} (x : X) → None ≡ Some x → ⊥
    clash x e = cc

before_first-new : {X : Type 0} (p : X → Bool) (xs : List X) (y : X) → find p xs ≡ None → p y ≡ true → before_first p (xs ++ y ∷ []) ≡ xs
before_first-new p xs y none passes =
    let at : position_or_len p (xs ++ y ∷ []) ≡ length xs + 0 =
    position_or_len_push p xs y ∙ (λ j. cond (eqb (none-past p xs none j) (length xs)) (length xs + cond (passes j) 0 1) (position_or_len p xs)) ∙ ap (λ b. cond b (length xs + 0) (position_or_len p xs)) (eqb-true (length xs)) in
    let whole : position_or_len p (xs ++ y ∷ []) ≡ length xs = omega arith in
    ap (λ n. take n (xs ++ y ∷ [])) whole ∙ take_at xs (y ∷ []) (length xs) refl

pub is_some-find : {X : Type 0} (p : X → Bool) (xs : List X) → is_some (find p xs) ≡ list_any p xs
is_some-find p [] = refl
is_some-find p (x ∷ xs) = by (p x) (is_some-find p xs)
  where
    by : (b : Bool) → is_some (find p xs) ≡ list_any p xs → is_some (cond b (Some x) (find p xs)) ≡ (b || list_any p xs)
    by true rest = refl
    by false rest = rest

-- ---- what a name means

-- what the declaration says of its name, after the others
abbrev pub first_at : List Declaration → Declaration → First
first_at ds d = record { home = d.home; entity = d.entity; number = symbol_count ds }

meaning-found : (ds : List Declaration) (d : Declaration) (word : List ℕ) (x : Declaration) → find (is_called word) ds ≡ Some x → meaning_in (ds ++ d ∷ []) word ≡ meaning_in ds word
meaning-found ds d word x found =
    let same : find (is_called word) (ds ++ d ∷ []) ≡ find (is_called word) ds = find-append (is_called word) ds (d ∷ []) ∙ ap (λ o. option_or o (find (is_called word) (d ∷ []))) found ∙ sym found in
    λ j. option_map (λ e. record { home = e.home; entity = e.entity; number = symbol_count (before_first-found (is_called word) ds d x found j) }) (same j)

meaning-new : (ds : List Declaration) (d : Declaration) (word : List ℕ) → find (is_called word) ds ≡ None → meaning_in (ds ++ d ∷ []) word ≡ cond (is_called word d) (Some (first_at ds d)) None
meaning-new ds d word none = by (is_called word d) refl
  where
    only : find (is_called word) (ds ++ d ∷ []) ≡ cond (is_called word d) (Some d) None
    only = find-append (is_called word) ds (d ∷ []) ∙ ap (λ o. option_or o (find (is_called word) (d ∷ []))) none

    by : (b : Bool) → is_called word d ≡ b → meaning_in (ds ++ d ∷ []) word ≡ cond b (Some (first_at ds d)) None
    by true e =
        let found : find (is_called word) (ds ++ d ∷ []) ≡ Some d = only ∙ ap (λ b. cond b (Some d) None) e in
        λ j. option_map (λ x. record { home = x.home; entity = x.entity; number = symbol_count (before_first-new (is_called word) ds d none e j) }) (found j)
    by false e =
        let missing : find (is_called word) (ds ++ d ∷ []) ≡ None = only ∙ ap (λ b. cond b (Some d) None) e in
        ap (option_map _) missing

-- a name means what it meant, or else what the new declaration says
meaning-push : (ds : List Declaration) (d : Declaration) (word : List ℕ) → meaning_in (ds ++ d ∷ []) word ≡ option_or (meaning_in ds word) (cond (is_called word d) (Some (first_at ds d)) None)
meaning-push ds d word = by (find (is_called word) ds) refl
  where
    by : (o : Option Declaration) → find (is_called word) ds ≡ o → meaning_in (ds ++ d ∷ []) word ≡ option_or (option_map (λ x. record { home = x.home; entity = x.entity; number = symbol_count (before_first (is_called word) ds) }) o) (cond (is_called word d) (Some (first_at ds d)) None)
    by None e = meaning-new ds d word e
    by (Some x) e = meaning-found ds d word x e ∙ ap (option_map _) e

is_some-meaning : (ds : List Declaration) (word : List ℕ) → is_some (meaning_in ds word) ≡ list_any (is_called word) ds
is_some-meaning ds word = kept (λ d. record { home = d.home; entity = d.entity; number = symbol_count (before_first (is_called word) ds) }) (find (is_called word) ds) ∙ is_some-find (is_called word) ds
  where
    kept : (f : Declaration → First) (o : Option Declaration) → is_some (option_map f o) ≡ is_some o
    kept f None = refl
    kept f (Some x) = refl

bytes_eq-sym : (a b : List ℕ) → bytes_eq a b ≡ bytes_eq b a
bytes_eq-sym a b = same_from_decides (bytes_eq a b) (bytes_eq b a) (bytes_eq-Decides a b) ((λ e. sym ((bytes_eq-Decides b a).0 e)), (λ e. (bytes_eq-Decides b a).1 (sym e)))

-- ---- the steps

-- how many symbols there are
pub symbols-more : (ds : List Declaration) (d : Declaration) → symbol_count (ds ++ d ∷ []) ≡ count_with (symbol_count ds) d.entity
symbols-more ds d = ap (λ n. min n (2 ^ 32 - 1)) (sum_by_push (λ e. cond (is_symbol e.entity) 1 0) ds d) ∙ by (is_symbol d.entity)
  where
    by : (b : Bool) → min (count_by (λ e. is_symbol e.entity) ds + cond b 1 0) (2 ^ 32 - 1) ≡ cond b (min (symbol_count ds + 1) (2 ^ 32 - 1)) (symbol_count ds)
    by true = omega arith
    by false = omega arith

-- one declaration more
pub names-more : (ds : List Declaration) (d : Declaration) (found next : List ℕ → Option First) (again fault : Option Refusal) → AreNames ds found again → fault ≡ repeats (found d.name.text) d.name → Adds found next d.name.text (first_with d (symbol_count ds)) → AreNames (ds ++ d ∷ []) next (sooner again fault)
names-more ds d found next again fault are told grown = record {
  each = λ word. grown word ∙ (λ j. option_or (are.each word j) (cond (bytes_eq-sym word d.name.text j) (Some (first_at ds d)) None)) ∙ sym (meaning-push ds d word);
  twice =
      (λ j. sooner (are.twice j) (told j)) ∙ ap (λ b. sooner (again_after [] ds) (cond b (Some (twice_at d.name)) None)) (ap is_some (are.each d.name.text) ∙ is_some-meaning ds d.name.text)
      ∙ sym (again_after-push ds d);
}
