-- A number behind a prefix.
use Rattle.std.proofs.Common.{◌≡◌, ℕ, ◌^◌, ◌<◌, true, List, ◌++◌, ap, sym, ◌∙◌, arith}
use Rattle.std.specs.Char.{is_ascii_digit}
use Rattle.std.specs.Fmt.{decimal}
use Rattle.std.specs.List.{list_all}
use Rattle.std.proofs.lemmas.List.{append_cancel_left}
use Rattle.dactl_base.specs.Readers.{Stops, BeginsWith}
use Rattle.dactl_base.proofs.Passing.{split_by}
use Rattle.dactl_base.proofs.Decimals.{decimal_digits, decimal_injective}

pub read : {prefix bytes behind ds rest : List ℕ} {n : ℕ} → bytes ≡ prefix ++ behind → behind ≡ ds ++ rest → Stops is_ascii_digit rest → (n < 2 ^ 32) × (ds ≡ decimal n) → BeginsWith prefix bytes n rest
read {prefix} {rest = rest} stripped joined ends value =
    record {
      text = stripped ∙ ap (λ (t : List ℕ). prefix ++ t) (joined ∙ ap (λ (t : List ℕ). t ++ rest) value.1);
      word = value.0;
      ends = ends;
    }

-- what is no number's text begins no number either
pub unread : {prefix bytes behind more : List ℕ} {n : ℕ} (ds rest : List ℕ) → bytes ≡ prefix ++ behind → behind ≡ ds ++ rest → list_all is_ascii_digit ds ≡ true → Stops is_ascii_digit rest
    → ((m : ℕ) → m < 2 ^ 32 → ds ≡ decimal m → ⊥) → BeginsWith prefix bytes n more → ⊥
unread {prefix} {behind = behind} {more} {n} ds rest stripped joined all ends none is =
    let own : behind ≡ decimal n ++ more = append_cancel_left prefix behind (decimal n ++ more) (sym stripped ∙ is.text) in
    let small : n < 2 ^ 32 = is.word in
    let split = split_by is_ascii_digit ds (decimal n) rest more all (decimal_digits n (omega arith)) ends is.ends (sym joined ∙ own) in
    none n is.word split.0

-- a number, and what follows it, are determined
pub same_number : (m n : ℕ) (r s : List ℕ) → m < 10 ^ 64 → n < 10 ^ 64 → Stops is_ascii_digit r → Stops is_ascii_digit s → decimal m ++ r ≡ decimal n ++ s → (m ≡ n) × (r ≡ s)
same_number m n r s one other stops ends e =
    let parts = split_by is_ascii_digit (decimal m) (decimal n) r s (decimal_digits m one) (decimal_digits n other) stops ends e in
    (decimal_injective m n one other parts.0, parts.1)

-- also behind a prefix
pub number_behind : {prefix bytes rest more : List ℕ} {n m : ℕ} → BeginsWith prefix bytes n rest → BeginsWith prefix bytes m more → (n ≡ m) × (rest ≡ more)
number_behind {prefix} {bytes} {rest} {more} {n} {m} one other =
    let own : decimal n ++ rest ≡ decimal m ++ more = append_cancel_left prefix (decimal n ++ rest) (decimal m ++ more) (sym one.text ∙ other.text) in
    let small : n < 2 ^ 32 = one.word in
    let also : m < 2 ^ 32 = other.word in
    same_number n m rest more (omega arith) (omega arith) one.ends other.ends own
