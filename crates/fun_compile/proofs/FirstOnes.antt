-- The first equation of each function, one equation after the other.
use Rattle.std.proofs.Common.{◌≡◌, ℕ, ◌+◌, ◌<◌, Bool, true, false, List, [], ◌∷◌, ◌++◌, length, drop, get_or, refl, sym, ap, ◌∙◌, subst, append_assoc}
use Rattle.std.specs.Prelude.{not, ◌&&◌, ◌||◌, if◌then◌else◌, filter}
use Rattle.std.specs.Borrow.{Bor}
use Rattle.std.specs.BTreeMap.{is_at}
use Rattle.std.specs.BTreeSet.{BTreeSet}
use Rattle.std.specs.Cmp.Lexicographic.{slice_cmp}
use Rattle.std.specs.List.{list_any}
use Rattle.std.specs.Ordering.{nat_cmp}
use Rattle.std.proofs.lemmas.List.{drop_more}
use Rattle.fun_meaning.specs.declared.tree.Equation.{Equation}
use Rattle.fun_meaning.specs.Functions.{is_other, first_ones}
use Rattle.fun_meaning.specs.Names.{Spelling, same_name}
use Rattle.fun_compile.specs.Knowing.{has_name}
use Rattle.fun_compile.proofs.NameSets.{Inserts, inserted}

-- the equation's function is not among these
abbrev pub is_new : BTreeSet (Bor Spelling) → Equation → Bool
is_new heads eq = not (has_name heads eq.head.text)

neither : (a b : Bool) → not (a || b) ≡ (not b && not a)
neither true true = refl
neither true false = refl
neither false true = refl
neither false false = refl

-- a filter of a filter is one filter
filtered_twice : {X : Type 0} (p q r : X → Bool) → ((v : X) → r v ≡ (q v && p v)) → (xs : List X) → filter p (filter q xs) ≡ filter r xs
filtered_twice p q r both [] = refl
filtered_twice {X} p q r both (v ∷ xs) = by (filtered_twice p q r both xs) (q v) refl (p v) refl
  where
    by : filter p (filter q xs) ≡ filter r xs → (a : Bool) → q v ≡ a → (b : Bool) → p v ≡ b → filter p (filter q (v ∷ xs)) ≡ filter r (v ∷ xs)
    by rest true e true f =
        let g : r v ≡ true = both v ∙ ap (λ k. k && p v) e ∙ f in
        rw (e, f, g) (ap (λ k. v ∷ k) rest)
    by rest true e false f =
        let g : r v ≡ false = both v ∙ ap (λ k. k && p v) e ∙ f in
        rw (e, f, g) rest
    by rest false e b f =
        let g : r v ≡ false = both v ∙ ap (λ k. k && p v) e in
        rw (e, g) rest

-- those that are new after this one, among those of other functions
new_after : (old new : BTreeSet (Bor Spelling)) (key : Bor Spelling) (x : Equation) → key.now ≡ x.head.text → Inserts old new key → (q : Equation) → is_new new q ≡ (is_other x q && is_new old q)
new_after old new key x same inserts q =
    ap not (inserted old new key inserts q.head.text)
    ∙ neither (has_name old q.head.text) (same_name key.now q.head.text)
    ∙ ap (λ k. not (same_name k q.head.text) && is_new old q) same

-- none is among no names
all_new : (heads : BTreeSet (Bor Spelling)) → heads.keys ≡ [] → (xs : List Equation) → filter (is_new heads) xs ≡ xs
all_new heads none [] = refl
all_new heads none (x ∷ xs) =
    let P : List (Bor Spelling) → Type 0 = λ keys. filter (λ q. not (list_any (is_at (λ k. slice_cmp nat_cmp q.head.text k.now)) keys)) (x ∷ xs) ≡ x ∷ xs in
    subst P (sym none) (ap (λ k. x ∷ k) (every xs))
  where
    every : (ys : List Equation) → filter (λ q. true) ys ≡ ys
    every [] = refl
    every (y ∷ ys) = ap (λ k. y ∷ k) (every ys)

-- before the first equation
pub first_begin : (heads : BTreeSet (Bor Spelling)) (firsts equations : List Equation) → firsts ≡ [] → heads.keys ≡ [] → firsts ++ filter (is_new heads) (first_ones equations) ≡ first_ones equations
first_begin heads firsts equations nothing none = ap (λ f. f ++ filter (is_new heads) (first_ones equations)) nothing ∙ all_new heads none (first_ones equations)

kept : {X : Type 0} (p : X → Bool) (x : X) (xs : List X) → p x ≡ true → filter p (x ∷ xs) ≡ x ∷ filter p xs
kept p x xs e = rw e refl

left_out : {X : Type 0} (p : X → Bool) (x : X) (xs : List X) → p x ≡ false → filter p (x ∷ xs) ≡ filter p xs
left_out p x xs e = rw e refl

module _ (equations : List Equation) (i : ℕ) (x : Equation) (old new : BTreeSet (Bor Spelling)) (key : Bor Spelling) (firsts whole : List Equation)
    (below : i < length equations) (is : x ≡ get_or equations i x) (same : key.now ≡ x.head.text) (inserts : Inserts old new key)
    (so_far : firsts ++ filter (is_new old) (first_ones (drop i equations)) ≡ whole) where
  here : firsts ++ filter (is_new old) (x ∷ filter (is_other x) (first_ones (drop (i + 1) equations))) ≡ whole
  here = ap (λ (y : Equation). firsts ++ filter (is_new old) (first_ones (y ∷ drop (i + 1) equations))) is ∙ ap (λ (l : List Equation). firsts ++ filter (is_new old) (first_ones l)) (sym (drop_more equations i x below)) ∙ so_far

  more : filter (is_new old) (filter (is_other x) (first_ones (drop (i + 1) equations))) ≡ filter (is_new new) (first_ones (drop (i + 1) equations))
  more = filtered_twice (is_new old) (is_other x) (is_new new) (new_after old new key x same inserts) (first_ones (drop (i + 1) equations))

  -- it is the first one of its function
  pub first_new : is_new old x ≡ true → (firsts ++ x ∷ []) ++ filter (is_new new) (first_ones (drop (i + 1) equations)) ≡ whole
  first_new first =
      append_assoc firsts (x ∷ []) (filter (is_new new) (first_ones (drop (i + 1) equations)))
      ∙ ap (λ k. firsts ++ x ∷ k) (sym more)
      ∙ ap (λ k. firsts ++ k) (sym (kept (is_new old) x (filter (is_other x) (first_ones (drop (i + 1) equations))) first))
      ∙ here

  -- it is a later one
  pub first_again : is_new old x ≡ false → firsts ++ filter (is_new new) (first_ones (drop (i + 1) equations)) ≡ whole
  first_again later =
      ap (λ k. firsts ++ k) (sym more)
      ∙ ap (λ k. firsts ++ k) (sym (left_out (is_new old) x (filter (is_other x) (first_ones (drop (i + 1) equations))) later))
      ∙ here
