-- Lists of pairs.
use Rattle.std.proofs.Common.{◌≡◌, ℕ, ◌+◌, ◌<◌, Bool, true, false, not, ◌||◌, List, [], ◌∷◌, ◌++◌, length, map, get_or, drop, refl, sym, ◌∙◌, ap, ◌==◌, if◌then◌else◌, Option, Some, None}
use Rattle.std.specs.List.{list_all}
use Rattle.std.proofs.lemmas.Bool.{eq-eqb, eqb-true}
use Rattle.std.proofs.lemmas.List.{drop_more}
use Rattle.dactl_model.specs.declared.graph.NodeId.{NodeId}
use Rattle.dactl_model.specs.declared.program.Pat.{Pat}
use Rattle.dactl_model.specs.Binders.{or_else}
use Rattle.dactl_model.specs.Patterns.{same_node, is_bound}
use Rattle.dactl_model.specs.Readings.{Told, told_all}
use Rattle.dactl_model.specs.RuleTold.{no_conflict, pair_node}
use Rattle.dactl_model.proofs.Unique.{left_true, right_true, same_node_is}
use Rattle.dactl_probe.specs.Bindings.{first_node, is_first}

first_append : (xs ys : List (ℕ × NodeId)) (v : ℕ) → first_node (xs ++ ys) v ≡ or_else (first_node xs v) (first_node ys v)
first_append [] ys v = refl
first_append (x ∷ xs) ys v = go (x.0 == v) (first_append xs ys v)
  where
    go : (b : Bool) → first_node (xs ++ ys) v ≡ or_else (first_node xs v) (first_node ys v) → (if b then Some x.1 else first_node (xs ++ ys) v) ≡ or_else (if b then Some x.1 else first_node xs v) (first_node ys v)
    go true rest = refl
    go false rest = rest

first_step : (f : Pat → NodeId → Told) (ps : List Pat) (ts : List NodeId) (i : ℕ) (p : Pat) (t : NodeId) (v : ℕ) → i < length ps → i < length ts → p ≡ get_or ps i p
    → first_node (told_all (map f (drop i ps)) (drop i ts)).pairs v ≡ or_else (first_node (f p (get_or ts i t)).pairs v) (first_node (told_all (map f (drop (i + 1) ps)) (drop (i + 1) ts)).pairs v)
first_step f ps ts i p t v below inside is = rw (drop_more ps i p below, drop_more ts i t inside, ← is) (first_append (f p (get_or ts i t)).pairs _ v)

pub first_found : (f : Pat → NodeId → Told) (ps : List Pat) (ts : List NodeId) (i : ℕ) (p : Pat) (t m : NodeId) (v : ℕ) → i < length ps → i < length ts → p ≡ get_or ps i p → first_node (f p (get_or ts i t)).pairs v ≡ Some m
    → first_node (told_all (map f (drop i ps)) (drop i ts)).pairs v ≡ Some m
first_found f ps ts i p t m v below inside is found = rw (first_step f ps ts i p t v below inside is, found) refl

pub first_goes_on : (f : Pat → NodeId → Told) (ps : List Pat) (ts : List NodeId) (i : ℕ) (p : Pat) (t : NodeId) (v : ℕ) → i < length ps → i < length ts → p ≡ get_or ps i p → first_node (f p (get_or ts i t)).pairs v ≡ None
    → first_node (told_all (map f (drop i ps)) (drop i ts)).pairs v ≡ first_node (told_all (map f (drop (i + 1) ps)) (drop (i + 1) ts)).pairs v
first_goes_on f ps ts i p t v below inside is found = rw (first_step f ps ts i p t v below inside is, found) refl

-- each pair has its variable's first node exactly where no two pairs conflict

abbrev agrees : ℕ × NodeId → ℕ × NodeId → Bool
agrees x y = not (x.0 == y.0) || same_node x.1 y.1

first_later : (x : ℕ × NodeId) (xs ys : List (ℕ × NodeId)) → list_all (agrees x) ys ≡ true → list_all (is_first xs) ys ≡ true → list_all (is_first (x ∷ xs)) ys ≡ true
first_later x xs [] agree first = refl
first_later x xs (y ∷ ys) agree first =
    let here : is_first (x ∷ xs) y ≡ true = go (x.0 == y.0) (left_true _ _ agree) in
    let rest : list_all (is_first (x ∷ xs)) ys ≡ true = first_later x xs ys (right_true _ _ agree) (right_true _ _ first) in
    rw (here, rest) refl
  where
    go : (b : Bool) → (not b || same_node x.1 y.1) ≡ true → is_bound (if b then Some x.1 else first_node xs y.0) y.1 ≡ true
    go true e = e
    go false e = left_true _ _ first

pub first_from_agreed : (pairs : List (ℕ × NodeId)) → no_conflict pairs ≡ true → list_all (is_first pairs) pairs ≡ true
first_from_agreed [] agreed = refl
first_from_agreed (x ∷ xs) agreed =
    let self : is_first (x ∷ xs) x ≡ true = ap (λ b. is_bound (if b then Some x.1 else first_node xs x.0) x.1) (eq-eqb x.0 x.0 refl) ∙ eq-eqb x.1.number x.1.number refl in
    let rest : list_all (is_first (x ∷ xs)) xs ≡ true = first_later x xs xs (left_true _ _ agreed) (first_from_agreed xs (right_true _ _ agreed)) in
    rw (self, rest) refl

pub agreed_from_first : (whole pairs : List (ℕ × NodeId)) → list_all (is_first whole) pairs ≡ true → no_conflict pairs ≡ true
agreed_from_first whole [] first = refl
agreed_from_first whole (x ∷ xs) first =
    let here : list_all (agrees x) xs ≡ true = each xs (right_true _ _ first) in
    let rest : no_conflict xs ≡ true = agreed_from_first whole xs (right_true _ _ first) in
    rw (here, rest) refl
  where
    one : (o p : Option NodeId) (a b : NodeId) → o ≡ p → is_bound o a ≡ true → is_bound p b ≡ true → same_node a b ≡ true
    one None p a b e left right = cc
    one (Some m) None a b e left right = cc
    one (Some m) (Some k) a b e left right =
        let left_is : m ≡ a = same_node_is m a left in
        let right_is : k ≡ b = same_node_is k b right in
        let same : m ≡ k = cc in
        eq-eqb a.number b.number (ap (λ n. n.number) (sym left_is ∙ (same ∙ right_is)))

    pair : (y : ℕ × NodeId) → is_first whole y ≡ true → agrees x y ≡ true
    pair y is = (elim (x.0 == y.0) as (λ b. (x.0 == y.0) ≡ b → (not b || same_node x.1 y.1) ≡ true) [
      | true ↦ λ e. one (first_node whole x.0) (first_node whole y.0) x.1 y.1 (ap (first_node whole) (eqb-true x.0 y.0 e)) (left_true _ _ first) is
      | false ↦ λ e. refl
    ]) refl

    each : (ys : List (ℕ × NodeId)) → list_all (is_first whole) ys ≡ true → list_all (agrees x) ys ≡ true
    each [] is = refl
    each (y ∷ ys) is =
        let here : agrees x y ≡ true = pair y (left_true _ _ is) in
        let rest : list_all (agrees x) ys ≡ true = each ys (right_true _ _ is) in
        rw (here, rest) refl

pub no_conflict-is_first : (pairs : List (ℕ × NodeId)) → no_conflict pairs ≡ list_all (is_first pairs) pairs
no_conflict-is_first pairs = both (no_conflict pairs) (list_all (is_first pairs) pairs) (first_from_agreed pairs) (agreed_from_first pairs pairs)
  where
    both : (a b : Bool) → (a ≡ true → b ≡ true) → (b ≡ true → a ≡ true) → a ≡ b
    both true b to from = sym (to refl)
    both false true to from = from refl
    both false false to from = refl

-- a variable's node by its first pair
pub pair_node_first : (pairs : List (ℕ × NodeId)) (v : ℕ) (m : NodeId) → first_node pairs v ≡ Some m → pair_node pairs v ≡ m
pair_node_first [] v m is = cc
pair_node_first (x ∷ xs) v m is = go (x.0 == v) (pair_node_first xs v m) is
  where
    go : (b : Bool) → (first_node xs v ≡ Some m → pair_node xs v ≡ m) → (if b then Some x.1 else first_node xs v) ≡ Some m → (if b then x.1 else pair_node xs v) ≡ m
    go true rest e = cc
    go false rest e = rest e

pub pair_node_none : (pairs : List (ℕ × NodeId)) (v : ℕ) → first_node pairs v ≡ None → pair_node pairs v ≡ record { number = 0 }
pair_node_none [] v is = refl
pair_node_none (x ∷ xs) v is = go (x.0 == v) (pair_node_none xs v) is
  where
    go : (b : Bool) → (first_node xs v ≡ None → pair_node xs v ≡ record { number = 0 }) → (if b then Some x.1 else first_node xs v) ≡ None → (if b then x.1 else pair_node xs v) ≡ record { number = 0 }
    go true rest e = cc
    go false rest e = rest e
