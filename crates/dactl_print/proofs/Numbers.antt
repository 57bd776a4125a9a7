-- The numbers of nodes in an order, and the table of them.
use Rattle.std.proofs.Common.{◌≡◌, ℕ, suc, ◌+◌, ◌<◌, ◌==◌, cond, List, [], ◌∷◌, ◌++◌, length, get_or, refl, sym, ap, ◌∙◌, subst, inl, inr, slice_index, slice_set, count_by, arith, length-set, length-append}
use Rattle.std.specs.List.{Contains}
use Rattle.std.proofs.lemmas.Bool.{cond-true, cond-false, eq-eqb, ne_eqb, cases_eq}
use Rattle.std.proofs.lemmas.List.{get_or-set_same, get_or-set_other}
use Rattle.std.proofs.lemmas.List.Elements.{Contains-append_left, Contains-append_right, Contains-append_cases, Contains-push, Contains-push_cases}
use Rattle.std.proofs.lemmas.List.Sums.{sum_by-set, sum_by-cons}
use Rattle.dactl_model.specs.declared.graph.NodeId.{NodeId}
use Rattle.dactl_print.specs.Order.{number_from, number_in}
use Rattle.dactl_print.specs.Walks.{HasNumbers}

same_id : (m n : NodeId) → m.number ≡ n.number → m ≡ n
same_id m n e = let node : ℕ → NodeId = λ k. record { number = k } in ap node e

number_here : (first : ℕ) (m n : NodeId) (rest : List NodeId) → m.number ≡ n.number → number_from first (m ∷ rest) n ≡ first
number_here first m n rest e = cond-true (m.number == n.number) first (number_from (first + 1) rest n) (eq-eqb m.number n.number e)

number_later : (first : ℕ) (m n : NodeId) (rest : List NodeId) → (m.number ≡ n.number → ⊥) → number_from first (m ∷ rest) n ≡ number_from (first + 1) rest n
number_later first m n rest ne = cond-false (m.number == n.number) first (number_from (first + 1) rest n) (ne_eqb m.number n.number ne)

-- who has a number is in the order
pub number_found : (first : ℕ) (order : List NodeId) (n : NodeId) → 0 < number_from first order n → Contains order n
number_found first [] n pos = absurd (omega arith)
number_found first (m ∷ rest) n pos =
    elim (cases_eq m.number n.number) as (λ _. Contains (m ∷ rest) n) [
      | inl e ↦ Contains-append_left (m ∷ []) rest n (subst (λ x. Contains (m ∷ []) x) (same_id m n e) (Contains-push [] m))
      | inr ne ↦ Contains-append_right (m ∷ []) rest n (number_found (first + 1) rest n (subst (λ k. 0 < k) (number_later first m n rest ne) pos))
    ]

not_in_nil : (n : NodeId) → Contains [] n → ⊥
not_in_nil n p = absurd (omega (arith, p.1))

-- who has none isn't
pub number_zero : (first : ℕ) (order : List NodeId) (n : NodeId) → 0 < first → number_from first order n ≡ 0 → Contains order n → ⊥
number_zero first [] n pos zero p = not_in_nil n p
number_zero first (m ∷ rest) n pos zero p =
    elim (cases_eq m.number n.number) as (λ _. ⊥) [
      | inl e ↦ absurd (omega (arith, sym (number_here first m n rest e) ∙ zero))
      | inr ne ↦
          elim (Contains-append_cases (m ∷ []) rest n p) as (λ _. ⊥) [
            | inl q ↦ elim (Contains-push_cases [] m n q) as (λ _. ⊥) [ inl r ↦ not_in_nil n r | inr s ↦ ne (ap (λ x. x.number) s) ]
            | inr q ↦ number_zero (first + 1) rest n (omega arith) (sym (number_later first m n rest ne) ∙ zero) q
          ]
    ]

-- a further node changes no other number
pub number_same : (first : ℕ) (order : List NodeId) (m n : NodeId) → (m.number ≡ n.number → ⊥) → number_from first (order ++ m ∷ []) n ≡ number_from first order n
number_same first [] m n ne = number_later first m n [] ne
number_same first (x ∷ rest) m n ne = ap (λ k. cond (x.number == n.number) first k) (number_same (first + 1) rest m n ne)

-- and has the next one
pub number_new : (first : ℕ) (order : List NodeId) (n : NodeId) → 0 < first → number_from first order n ≡ 0 → number_from first (order ++ n ∷ []) n ≡ first + length order
number_new first [] n pos zero = number_here first n n [] refl ∙ omega arith
number_new first (x ∷ rest) n pos zero =
    elim (cases_eq x.number n.number) as (λ _. number_from first ((x ∷ rest) ++ n ∷ []) n ≡ first + length (x ∷ rest)) [
      | inl e ↦ absurd (omega (arith, sym (number_here first x n rest e) ∙ zero))
      | inr ne ↦
          let later = number_later first x n (rest ++ n ∷ []) ne in
          let next = number_new (first + 1) rest n (omega arith) (sym (number_later first x n rest ne) ∙ zero) in
          later ∙ next ∙ omega arith
    ]

pub HasNumbers-enter : (table : List ℕ) (order : List NodeId) (t : NodeId) → HasNumbers table order → t.number < length table → slice_index table t.number ≡ 0
    → HasNumbers (slice_set table t.number (length order + 1)) (order ++ t ∷ [])
HasNumbers-enter table order t has inside zero n below =
    let within : n.number < length table = omega (arith, length-set table t.number (length order + 1)) in
    elim (cases_eq t.number n.number) as (λ _. slice_index (slice_set table t.number (length order + 1)) n.number ≡ number_in (order ++ t ∷ []) n) [
      | inl e ↦
          let same = same_id t n e in
          let at : number_in order t ≡ 0 = sym (has t inside) ∙ zero in
          let there : slice_index (slice_set table t.number (length order + 1)) t.number ≡ number_in (order ++ t ∷ []) t =
          get_or-set_same table t.number (length order + 1) 0 inside ∙ omega arith ∙ sym (number_new 1 order t (omega arith) at) in
          subst (λ x. slice_index (slice_set table t.number (length order + 1)) x.number ≡ number_in (order ++ t ∷ []) x) same there
      | inr ne ↦ get_or-set_other table t.number n.number (length order + 1) 0 (λ e. ne (sym e)) ∙ has n within ∙ sym (number_same 1 order t n ne)
    ]

-- how many places of the table are free
abbrev pub free : List ℕ → ℕ
free table = count_by (λ x. x == 0) table

pub free-set : (table : List ℕ) (i y : ℕ) → i < length table → slice_index table i ≡ 0 → 0 < y → free (slice_set table i y) + 1 ≡ free table
free-set table i y inside zero pos =
    let f : ℕ → ℕ = λ x. cond (x == 0) 1 0 in
    let sums = sum_by-set f table i y 0 inside in
    let one : f (get_or table i 0) ≡ 1 = ap f zero in
    let none : f y ≡ 0 = cond-false (y == 0) 1 0 (ne_eqb y 0 (λ e. omega arith)) in
    omega (arith, sums, one, none)

zeros_free : (table : List ℕ) → ((k : ℕ) → k < length table → get_or table k 0 ≡ 0) → free table ≡ length table
zeros_free [] all = refl
zeros_free (x ∷ xs) all =
    let f : ℕ → ℕ = λ x. cond (x == 0) 1 0 in
    let head : f x ≡ 1 = ap f (all 0 (omega arith)) in
    let rest = zeros_free xs (λ k below. all (suc k) (omega arith)) in
    sum_by-cons f x xs ∙ omega (arith, head, rest)

-- a table without numbers is free
pub free_all : (table : List ℕ) → HasNumbers table [] → free table ≡ length table
free_all table none = zeros_free table (λ k below. none (record { number = k }) below)

-- ---- one node enters

pub numbers_entered : (table later : List ℕ) (before order : List NodeId) (size : ℕ) (t : NodeId) → later ≡ slice_set table t.number (size + 1) → order ≡ before ++ t ∷ [] → size ≡ length before
    → HasNumbers table before → t.number < length table → slice_index table t.number ≡ 0 → HasNumbers later order
numbers_entered table later before order size t told grown long has inside zero =
    let entered : HasNumbers (slice_set table t.number (size + 1)) (before ++ t ∷ []) = rw long (HasNumbers-enter table before t has inside zero) in
    subst (λ o. HasNumbers later o) (sym grown) (subst (λ l. HasNumbers l (before ++ t ∷ [])) (sym told) entered)

pub free_entered : (table later : List ℕ) (before order : List NodeId) (size : ℕ) (t : NodeId) → later ≡ slice_set table t.number (size + 1) → order ≡ before ++ t ∷ []
    → free table + length before ≡ length table → t.number < length table → slice_index table t.number ≡ 0 → free later + length order ≡ length later
free_entered table later before order size t told grown left inside zero =
    let less = free-set table t.number (size + 1) inside zero (omega arith) in
    rw (told, grown, length-set, length-append) (omega (arith, less))
