-- A front of bytes that pass a test, and what follows it.
use Rattle.std.proofs.Common.{◌≡◌, ℕ, suc, ◌+◌, Bool, true, false, cond, List, [], ◌∷◌, ◌++◌, take, drop, refl, ap, sym, subst, ◌∙◌, arith}
use Rattle.std.specs.List.{list_all, prefix_len}
use Rattle.std.specs.Cmp.{first_so, second_so}
use Rattle.dactl_base.specs.Readers.{Stops}

false_true : false ≡ true → ⊥
false_true e = cc

-- two texts whose fronts pass, and what stops behind them, are the same in both parts
pub split_by : (test : ℕ → Bool) (xs ys r s : List ℕ) → list_all test xs ≡ true → list_all test ys ≡ true → Stops test r → Stops test s → xs ++ r ≡ ys ++ s → (xs ≡ ys) × (r ≡ s)
split_by test [] [] r s one other out end e = (refl, e)
split_by test [] (y ∷ ys) [] s one other out end e = absurd (cc)
split_by test [] (y ∷ ys) (c ∷ r) s one other out end e =
    let same : c ≡ y = cc in
    absurd (false_true (sym out ∙ ap test same ∙ first_so (test y) (list_all test ys) other))
split_by test (x ∷ xs) [] r [] one other out end e = absurd (cc)
split_by test (x ∷ xs) [] r (c ∷ s) one other out end e =
    let same : c ≡ x = cc in
    absurd (false_true (sym end ∙ ap test same ∙ first_so (test x) (list_all test xs) one))
split_by test (x ∷ xs) (y ∷ ys) r s one other out end e =
    let first : x ≡ y = cc in
    let more : xs ++ r ≡ ys ++ s = cc in
    let rest = split_by test xs ys r s (second_so (test x) (list_all test xs) one) (second_so (test y) (list_all test ys) other) out end more in
    (ap (λ z. z ∷ xs) first ∙ ap (λ zs. y ∷ zs) rest.0, rest.1)

-- one more that passes
pub all_more : (test : ℕ → Bool) (c : ℕ) (cs : List ℕ) → test c ≡ true → list_all test cs ≡ true → list_all test (c ∷ cs) ≡ true
all_more test c cs here rest = rw (here, rest) refl

-- what passes one test passes a weaker one
pub each_step : (one other : ℕ → Bool) → ((c : ℕ) → one c ≡ true → other c ≡ true) → (cs : List ℕ) → list_all one cs ≡ true → list_all other cs ≡ true
each_step one other step [] all = refl
each_step one other step (c ∷ cs) all =
    all_more other c cs (step c (first_so (one c) (list_all one cs) all)) (each_step one other step cs (second_so (one c) (list_all one cs) all))

-- the longest front that passes does, and what follows it stops
front_passes : (test : ℕ → Bool) (bs : List ℕ) → list_all test (take (prefix_len test bs) bs) ≡ true
front_passes test [] = refl
front_passes test (b ∷ bs) =
    let P : ℕ → Type 0 = λ n. list_all test (take n (b ∷ bs)) ≡ true in
    let step : suc (prefix_len test bs) ≡ 1 + prefix_len test bs = omega arith in
    (elim (test b) as (λ t. test b ≡ t → P (cond t (1 + prefix_len test bs) 0)) [
      | true ↦ λ is. subst P step (all_more test b (take (prefix_len test bs) bs) is (front_passes test bs))
      | false ↦ λ is. refl
    ]) refl

behind_stops : (test : ℕ → Bool) (bs : List ℕ) → Stops test (drop (prefix_len test bs) bs)
behind_stops test [] = tt
behind_stops test (b ∷ bs) =
    let P : ℕ → Type 0 = λ n. Stops test (drop n (b ∷ bs)) in
    let step : suc (prefix_len test bs) ≡ 1 + prefix_len test bs = omega arith in
    (elim (test b) as (λ t. test b ≡ t → P (cond t (1 + prefix_len test bs) 0)) [
      | true ↦ λ is. subst P step (behind_stops test bs)
      | false ↦ λ is. is
    ]) refl

-- the same of the two parts of a list that is split there
pub passing_front : (test : ℕ → Bool) (bs front : List ℕ) (len : ℕ) → front ≡ take len bs → len ≡ prefix_len test bs → list_all test front ≡ true
passing_front test bs front len is longest = subst (λ (l : List ℕ). list_all test l ≡ true) (sym (is ∙ ap (λ (n : ℕ). take n bs) longest)) (front_passes test bs)

pub stopping_back : (test : ℕ → Bool) (bs back : List ℕ) (len : ℕ) → back ≡ drop len bs → len ≡ prefix_len test bs → Stops test back
stopping_back test bs back len is longest = subst (Stops test) (sym (is ∙ ap (λ (n : ℕ). drop n bs) longest)) (behind_stops test bs)

-- ---- the first byte

-- the first byte is such a one
abbrev pub Begins : (ℕ → Type 0) → List ℕ → Type 0
Begins P [] = ⊥
Begins P (c ∷ cs) = P c

pub begins_apart : (P Q : ℕ → Type 0) → ((c : ℕ) → P c → Q c → ⊥) → (xs ys : List ℕ) → Begins P xs → Begins Q ys → xs ≡ ys → ⊥
begins_apart P Q apart [] ys one other e = one
begins_apart P Q apart (x ∷ xs) [] one other e = other
begins_apart P Q apart (x ∷ xs) (y ∷ ys) one other e = let same : x ≡ y = cc in apart y (subst P same one) other

pub begins_front : (P : ℕ → Type 0) (xs ys : List ℕ) → Begins P xs → Begins P (xs ++ ys)
begins_front P [] ys is = absurd is
begins_front P (x ∷ xs) ys is = is

pub begins_step : (P Q : ℕ → Type 0) → ((c : ℕ) → P c → Q c) → (cs : List ℕ) → Begins P cs → Begins Q cs
begins_step P Q step [] is = is
begins_step P Q step (c ∷ cs) is = step c is

pub begins_stops : (test : ℕ → Bool) (cs : List ℕ) → Begins (λ c. test c ≡ false) cs → Stops test cs
begins_stops test [] is = tt
begins_stops test (c ∷ cs) is = is
