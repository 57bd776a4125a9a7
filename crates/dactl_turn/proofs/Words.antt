-- What a change of one word leaves of the counts.
use Rattle.std.proofs.Common.{◌≡◌, ℕ, ◌+◌, ◌%◌, ◌≢◌, List, set, get_or, ap, ◌∙◌, arith, length-set, get_or-set_same, get_or-set_other}
use native.Mathlib.Nat.{mod-add-mod}
use Rattle.dactl_turn.specs.Views.{word_of}
use Rattle.dactl_turn.specs.Rule.{Counts}

up_by_one : (n : ℕ) → (word_of n + 1) % 18446744073709551616 ≡ word_of (n + 1)
up_by_one n = mod-add-mod n 18446744073709551616 1

pub one_drawn : (ws : List ℕ) (tickets gives : ℕ) → Counts ws tickets gives → Counts (set ws 0 ((get_or ws 0 0 + 1) % 18446744073709551616)) (tickets + 1) gives
one_drawn ws tickets gives c = let long = c.long in record {
  long = length-set ws 0 _ ∙ long;
  drawn = get_or-set_same ws 0 _ 0 (omega arith) ∙ (ap (λ (z : ℕ). (z + 1) % 18446744073709551616) c.drawn ∙ up_by_one tickets);
  given = get_or-set_other ws 0 16 _ 0 (λ e. omega arith) ∙ c.given;
}

pub one_given : (ws : List ℕ) (tickets gives : ℕ) → Counts ws tickets gives → Counts (set ws 16 ((get_or ws 16 0 + 1) % 18446744073709551616)) tickets (gives + 1)
one_given ws tickets gives c = let long = c.long in record {
  long = length-set ws 16 _ ∙ long;
  drawn = get_or-set_other ws 16 0 _ 0 (λ e. omega arith) ∙ c.drawn;
  given = get_or-set_same ws 16 _ 0 (omega arith) ∙ (ap (λ (z : ℕ). (z + 1) % 18446744073709551616) c.given ∙ up_by_one gives);
}

pub other_set : (ws : List ℕ) (i n tickets gives : ℕ) → i ≢ 0 → i ≢ 16 → Counts ws tickets gives → Counts (set ws i n) tickets gives
other_set ws i n tickets gives not_drawn not_given c = record {
  long = length-set ws i n ∙ c.long;
  drawn = get_or-set_other ws i 0 n 0 (λ e. not_drawn (omega arith)) ∙ c.drawn;
  given = get_or-set_other ws i 16 n 0 (λ e. not_given (omega arith)) ∙ c.given;
}
