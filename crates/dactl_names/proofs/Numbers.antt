-- Short names and their numbers.
use Rattle.std.proofs.Common.{◌≡◌, ℕ, zero, suc, ◌+◌, ◌*◌, ◌<◌, ◌≤◌, ◌&&◌, nat_le, nat_lt, Bool, true, List, [], ◌∷◌, length, drop, All, refl, sym, subst, ap, ◌∙◌, arith}
use Rattle.std.specs.List.{list_all}
use Rattle.std.proofs.lemmas.List.{length-drop}
use Rattle.std.proofs.lemmas.Bool.{and_parts, le-leb, lt-ltb, ltb-true}
use Rattle.dactl_names.specs.Found.{packed, is_short}

first_byte : (x : ℕ) (xs : List ℕ) → All (λ b. b < 256) (x ∷ xs) → x < 256
first_byte x xs small = small 0 0 (omega arith)

more_bytes : (x : ℕ) (xs : List ℕ) → All (λ b. b < 256) (x ∷ xs) → All (λ b. b < 256) xs
more_bytes x xs small = λ k d below. small (suc k) d (omega (arith, below))

-- names of bytes with one number are one
pub packed_once : (xs ys : List ℕ) → All (λ b. b < 256) xs → All (λ b. b < 256) ys → packed xs ≡ packed ys → xs ≡ ys
packed_once [] [] small also same = refl
packed_once [] (y ∷ ys) small also same = absurd (omega (arith, same))
packed_once (x ∷ xs) [] small also same = absurd (omega (arith, same))
packed_once (x ∷ xs) (y ∷ ys) small also same =
    let a : x < 256 = first_byte x xs small in
    let b : y < 256 = first_byte y ys also in
    let head : x ≡ y = omega (arith, same, a, b) in
    let tail : packed xs ≡ packed ys = omega (arith, same, a, b) in
    ap (λ z. z ∷ xs) head ∙ ap (λ zs. y ∷ zs) (packed_once xs ys (more_bytes x xs small) (more_bytes y ys also) tail)

-- the greatest number of so many bytes
most : ℕ → ℕ
most zero = 0
most (suc n) = 257 * most n + 256

below_most : (n : ℕ) (xs : List ℕ) → length xs ≤ n → All (λ b. b < 256) xs → packed xs ≤ most n
unfolding most
below_most n [] few small = omega arith
below_most zero (x ∷ xs) few small = absurd (omega (arith, few))
below_most (suc n) (x ∷ xs) few small =
    let a : x < 256 = first_byte x xs small in
    let rest : packed xs ≤ most n = below_most n xs (omega (arith, few)) (more_bytes x xs small) in
    omega (arith, a, rest)

-- one byte more has room in 64 bits
pub packed_small : (xs : List ℕ) → length xs ≤ 6 → All (λ b. b < 256) xs → packed xs ≤ 288136807515648
unfolding most
packed_small xs few small = below_most 6 xs few small

-- so a byte more has room before what is packed so far
pub room_before : (xs : List ℕ) (from n : ℕ) → length xs ≤ 7 → 0 < from → from ≤ length xs → All (λ b. b < 256) (drop from xs) → n ≡ packed (drop from xs) → n ≤ 288136807515648
room_before xs from n few some within small is =
    subst (λ z. z ≤ 288136807515648) (sym is) (packed_small (drop from xs) (let l = length-drop from xs in omega (arith, l, few, some, within)) small)

are_bytes : (xs : List ℕ) → All (λ b. b < 256) xs → list_all (λ b. nat_lt b 256) xs ≡ true
are_bytes [] small = refl
are_bytes (x ∷ xs) small =
    ap (λ (b : Bool). b && list_all (λ b. nat_lt b 256) xs) (lt-ltb x 256 (first_byte x xs small)) ∙ are_bytes xs (more_bytes x xs small)

-- few bytes are a short name
pub short_is : (xs : List ℕ) → length xs ≤ 7 → All (λ b. b < 256) xs → is_short xs ≡ true
short_is xs few small = ap (λ (b : Bool). b && list_all (λ b. nat_lt b 256) xs) (le-leb (length xs) 7 few) ∙ are_bytes xs small

bytes_in : (xs : List ℕ) → list_all (λ b. nat_lt b 256) xs ≡ true → All (λ b. b < 256) xs
bytes_in [] is = λ k d below. absurd (omega (arith, below))
bytes_in (x ∷ xs) is = let parts = and_parts (nat_lt x 256) (list_all (λ b. nat_lt b 256) xs) is in at (ltb-true x 256 parts.0) (bytes_in xs parts.1)
  where
    at : x < 256 → All (λ b. b < 256) xs → All (λ b. b < 256) (x ∷ xs)
    at first rest zero d below = first
    at first rest (suc k) d below = rest k d (omega (arith, below))

-- a short name has bytes
pub bytes_of : (xs : List ℕ) → is_short xs ≡ true → All (λ b. b < 256) xs
bytes_of xs short = bytes_in xs (and_parts (nat_le (length xs) 7) (list_all (λ b. nat_lt b 256) xs) short).1
