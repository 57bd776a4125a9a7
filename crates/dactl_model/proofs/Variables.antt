-- Which variables a pattern binds: those below a count, by a test of its binders.
use Rattle.std.proofs.Common.{◌≡◌, ℕ, ◌<◌, Bool, true, false, ◌&&◌, ◌||◌, List, [], ◌∷◌, map, sym, ◌∙◌, refl, ◌==◌, nat_lt, arith, inl, inr}
use Rattle.std.proofs.lemmas.Bool.{eqb-true, eq-eqb}
use Rattle.std.specs.List.{list_all}
use Rattle.dactl_model.specs.declared.program.Pat.{Pat}
use Rattle.dactl_model.specs.declared.program.Pat.TheOpen.{Pat-F}
use Rattle.dactl_model.specs.declared.program.Pat.TheViews.{roll-Pat}
use Rattle.dactl_model.specs.declared.program.Pat.TheFolds.{fold-roll-Pat, map-Pat}
use Rattle.dactl_model.specs.Binders.{binds, binds_level, any_true, variables_below, variables_level}
use Rattle.dactl_model.proofs.Induction.{Each, pat_induction}
use Rattle.dactl_model.proofs.Unique.{left_true, right_true}
use Rattle.dactl_model.proofs.Found.{binds_roll, or_cases}

-- the test gives that what is bound is below the count
abbrev pub Below : ℕ → ℕ → Pat → Type 0
Below count v p = variables_below count p ≡ true → binds v p ≡ true → v < count

-- and it passes where all that is bound is so
abbrev pub Passes : ℕ → Pat → Type 0
Passes count p = ((v : ℕ) → binds v p ≡ true → v < count) → variables_below count p ≡ true

pub variables_roll : (count : ℕ) (x : Pat-F Pat) → variables_below count (roll-Pat x) ≡ variables_level count (map-Pat Pat Bool (variables_below count) x)
variables_roll count x = fold-roll-Pat Bool (variables_level count) x

below_opened : (count v : ℕ) (x : Pat-F Pat) → (variables_level count (map-Pat Pat Bool (variables_below count) x) ≡ true → binds_level v (map-Pat Pat Bool (binds v) x) ≡ true → v < count) → Below count v (roll-Pat x)
below_opened count v x claim fine bound = claim (sym (variables_roll count x) ∙ fine) (sym (binds_roll v x) ∙ bound)

below_all : (count v : ℕ) (args : List Pat) → Each (Below count v) args → list_all (λ b. b) (map (variables_below count) args) ≡ true → any_true (map (binds v) args) ≡ true → v < count
below_all count v [] each fine bound = cc
below_all count v (p ∷ ps) each fine bound =
    elim (or_cases _ _ bound) [
      | inl here ↦ each.0 (left_true _ _ fine) here
      | inr later ↦ below_all count v ps each.1 (right_true _ _ fine) later
    ]

below_bind : (count v w : ℕ) (q : Pat) → Below count v q → (nat_lt w count && variables_below count q) ≡ true → ((w == v) || binds v q) ≡ true → v < count
below_bind count v w q ih fine bound =
    elim (or_cases _ _ bound) [
      | inl here ↦ (let is : w ≡ v = eqb-true w v here in let test : nat_lt w count ≡ true = left_true _ _ fine in grind arith)
      | inr inner ↦ ih (right_true _ _ fine) inner
    ]

below_two : (count v : ℕ) (q s : Pat) → Below count v q → Below count v s → (variables_below count q && variables_below count s) ≡ true → (binds v q || binds v s) ≡ true → v < count
below_two count v q s left right fine bound =
    elim (or_cases _ _ bound) [ inl in_left ↦ left (left_true _ _ fine) in_left | inr in_right ↦ right (right_true _ _ fine) in_right ]

pub bound_below : (count v : ℕ) (p : Pat) → Below count v p
bound_below count v = pat_induction (Below count v) (record {
  any = below_opened count v Pat-F.Any (λ fine bound. cc);
  int = below_opened count v Pat-F.Int (λ fine bound. cc);
  char = below_opened count v Pat-F.Char (λ fine bound. cc);
  literal = λ i. below_opened count v (Pat-F.Literal i) (λ fine bound. cc);
  letter = λ c. below_opened count v (Pat-F.Letter c) (λ fine bound. cc);
  symbol = λ f args each. below_opened count v (Pat-F.Sym f args) (below_all count v args each);
  bind = λ w q ih. below_opened count v (Pat-F.Bind w q) (below_bind count v w q ih);
  union = λ q s ih1 ih2. below_opened count v (Pat-F.Union q s) (below_two count v q s ih1 ih2);
  less = λ q s ih1 ih2. below_opened count v (Pat-F.Less q s) (below_two count v q s ih1 ih2);
})

both_true : (a b : Bool) → a ≡ true → b ≡ true → (a && b) ≡ true
both_true true b e f = f
both_true false b e f = e

or_left : (a b : Bool) → a ≡ true → (a || b) ≡ true
or_left true b e = refl
or_left false b e = cc

or_right : (a b : Bool) → b ≡ true → (a || b) ≡ true
or_right true b e = refl
or_right false b e = e

passes_opened : (count : ℕ) (x : Pat-F Pat) → (((v : ℕ) → binds_level v (map-Pat Pat Bool (binds v) x) ≡ true → v < count) → variables_level count (map-Pat Pat Bool (variables_below count) x) ≡ true) → Passes count (roll-Pat x)
passes_opened count x claim below = variables_roll count x ∙ claim (λ v bound. below v (binds_roll v x ∙ bound))

passes_all : (count : ℕ) (args : List Pat) → Each (Passes count) args → ((v : ℕ) → any_true (map (binds v) args) ≡ true → v < count) → list_all (λ b. b) (map (variables_below count) args) ≡ true
passes_all count [] each below = refl
passes_all count (p ∷ ps) each below =
    both_true _ _ (each.0 (λ v bound. below v (or_left _ _ bound))) (passes_all count ps each.1 (λ v bound. below v (or_right (binds v p) _ bound)))

test_passes : (w count : ℕ) → w < count → nat_lt w count ≡ true
test_passes w count below = grind arith

passes_two : (count : ℕ) (q s : Pat) → Passes count q → Passes count s → ((v : ℕ) → (binds v q || binds v s) ≡ true → v < count) → (variables_below count q && variables_below count s) ≡ true
passes_two count q s left right below = both_true _ _ (left (λ v bound. below v (or_left _ _ bound))) (right (λ v bound. below v (or_right (binds v q) _ bound)))

pub passes_below : (count : ℕ) (p : Pat) → Passes count p
passes_below count = pat_induction (Passes count) (record {
  any = passes_opened count Pat-F.Any (λ below. refl);
  int = passes_opened count Pat-F.Int (λ below. refl);
  char = passes_opened count Pat-F.Char (λ below. refl);
  literal = λ i. passes_opened count (Pat-F.Literal i) (λ below. refl);
  letter = λ c. passes_opened count (Pat-F.Letter c) (λ below. refl);
  symbol = λ f args each. passes_opened count (Pat-F.Sym f args) (passes_all count args each);
  bind = λ w q ih. passes_opened count (Pat-F.Bind w q) (λ below. both_true _ _ (test_passes w count (below w (or_left _ _ (eq-eqb w w refl)))) (ih (λ v bound. below v (or_right (w == v) _ bound))));
  union = λ q s ih1 ih2. passes_opened count (Pat-F.Union q s) (passes_two count q s ih1 ih2);
  less = λ q s ih1 ih2. passes_opened count (Pat-F.Less q s) (passes_two count q s ih1 ih2);
})
