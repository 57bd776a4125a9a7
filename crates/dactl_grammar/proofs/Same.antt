-- Two grammars of the same texts, with the same meanings.
use Rattle.std.proofs.Common.{List, ◌⊎◌, inl, inr}
use Rattle.dactl_grammar.specs.Grammar.{Grammar, BeginsSecond, row, choice}

pub record Same {T A : Type 0} (P Q : Grammar T A) : Type 0 where
  pub whole_to : (u : List T) (a : A) → P.whole u a → Q.whole u a
  pub whole_from : (u : List T) (a : A) → Q.whole u a → P.whole u a
  pub begins_to : (u : List T) → P.begins u → Q.begins u
  pub begins_from : (u : List T) → Q.begins u → P.begins u

-- a row whose second part is a choice is a choice of rows
module _ {T A B : Type 0} (P : Grammar T A) (Q1 Q2 : Grammar T B) where
  abbrev joined : Grammar T (A × B)
  joined = row P (λ _. choice Q1 Q2)

  abbrev apart_rows : Grammar T (A × B)
  apart_rows = choice (row P (λ _. Q1)) (row P (λ _. Q2))

  parted : (u : List T) (a : A × B) (w : joined.whole u a) → (Q1.whole w.back a.1 ⊎ Q2.whole w.back a.1) → apart_rows.whole u a
  parted u a w (inl k) = inl record { front = w.front; back = w.back; parts = w.parts; first = w.first; second = k }
  parted u a w (inr k) = inr record { front = w.front; back = w.back; parts = w.parts; first = w.first; second = k }

  unparted : (u : List T) (a : A × B) → apart_rows.whole u a → joined.whole u a
  unparted u a (inl w) = record { front = w.front; back = w.back; parts = w.parts; first = w.first; second = inl w.second }
  unparted u a (inr w) = record { front = w.front; back = w.back; parts = w.parts; first = w.first; second = inr w.second }

  parted_second : (u : List T) (b : BeginsSecond P (λ _. choice Q1 Q2) u) → (Q1.begins b.back ⊎ Q2.begins b.back) → apart_rows.begins u
  parted_second u b (inl k) = inl (inr record { front = b.front; back = b.back; value = b.value; parts = b.parts; first = b.first; second = k })
  parted_second u b (inr k) = inr (inr record { front = b.front; back = b.back; value = b.value; parts = b.parts; first = b.first; second = k })

  parted_begins : (u : List T) → joined.begins u → apart_rows.begins u
  parted_begins u (inl b) = inl (inl b)
  parted_begins u (inr b) = parted_second u b b.second

  unparted_begins : (u : List T) → apart_rows.begins u → joined.begins u
  unparted_begins u (inl (inl b)) = inl b
  unparted_begins u (inr (inl b)) = inl b
  unparted_begins u (inl (inr b)) = inr record { front = b.front; back = b.back; value = b.value; parts = b.parts; first = b.first; second = inl b.second }
  unparted_begins u (inr (inr b)) = inr record { front = b.front; back = b.back; value = b.value; parts = b.parts; first = b.first; second = inr b.second }

  pub same_parted : Same joined apart_rows
  same_parted = record { whole_to = λ u a w. parted u a w w.second; whole_from = unparted; begins_to = parted_begins; begins_from = unparted_begins }
