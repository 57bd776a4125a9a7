-- A list of named patterns that gains those it lacks.
use Rattle.std.proofs.Common.{◌≡◌, ◌<◌, Bool, true, false, inl, inr, List, [], ◌∷◌, ◌++◌, length, refl, sym, ap, ◌∙◌, subst, append_assoc, arith}
use Rattle.std.specs.Prelude.{Contains, ◌==◌, if◌then◌else◌}
use Rattle.std.specs.List.{list_any}
use Rattle.std.proofs.lemmas.Bool.{and_parts, eqb-true, eq-eqb}
use Rattle.std.proofs.lemmas.List.{append-nil}
use Rattle.std.proofs.lemmas.List.Elements.{Contains-append_left, Contains-append_right, Contains-append_cases, Contains-push_cases}
use Rattle.std.proofs.lemmas.List.Folds.{list_any_at}
use Rattle.indexmap.specs.IndexSet.{insert_key}
use Rattle.indexmap.proofs.CallerLemmas.{Contains-list_any}
use Rattle.dactl_meaning.specs.Meaning.{NamedPattern}
use Rattle.dactl_patterns.specs.Cycling.{Gains}
use Rattle.dactl_patterns.specs.Levels.{is_same}

pub none_in : {A : Type 0} (x : A) → Contains [] x → ⊥
none_in {A} x has = let empty : List A = [] in let below : has.0 < length empty = has.1 in omega arith

pub one_in : {A : Type 0} (x y : A) → Contains (x ∷ []) y → x ≡ y
one_in x y has = elim (Contains-push_cases [] x y has) [ inl none ↦ absurd (none_in y none) | inr same ↦ same ]

-- ---- the test of two named patterns by both of their numbers

pub same-true : (a b : NamedPattern) → is_same a b ≡ true → a ≡ b
same-true a b e =
    let both = and_parts (a.0 == b.0) (a.1 == b.1) e in
    λ j. (eqb-true a.0 b.0 both.0 j, eqb-true a.1 b.1 both.1 j)

true-same : (a : NamedPattern) → is_same a a ≡ true
true-same a = rw (eq-eqb a.0 a.0 refl, eq-eqb a.1 a.1 refl) refl

-- what a set finds is in its list, and it finds that
pub found_in : (a : NamedPattern) (keys : List NamedPattern) (r : Bool) → r ≡ list_any (is_same a) keys → r ≡ true → Contains keys a
found_in a keys r is found = Contains-list_any is_same same-true keys a (sym is ∙ found)

pub in_found : (a : NamedPattern) (keys : List NamedPattern) (r : Bool) → r ≡ list_any (is_same a) keys → Contains keys a → r ≡ true
in_found a keys r is has = is ∙ list_any_at (is_same a) keys has.0 a has.1 (ap (is_same a) has.2 ∙ true-same a)

-- ---- what a list gains

pub gains_none : (keys : List NamedPattern) → Gains keys [] keys
gains_none keys = record { grown = ([], sym (append-nil keys)); each = λ x has. absurd (none_in x has); only = λ x has. inl has }

gains_one : (keys : List NamedPattern) (x : NamedPattern) → Gains keys (x ∷ []) (insert_key is_same keys x)
gains_one keys x = by (list_any (is_same x) keys) refl
  where
    by : (b : Bool) → list_any (is_same x) keys ≡ b → Gains keys (x ∷ []) (if b then keys else keys ++ x ∷ [])
    by true there = record {
      grown = ([], sym (append-nil keys));
      each = λ y has. subst (λ (z : NamedPattern). Contains keys z) (one_in x y has) (Contains-list_any is_same same-true keys x there);
      only = λ y has. inl has;
    }
    by false there = record { grown = (x ∷ [], refl); each = Contains-append_right keys (x ∷ []); only = Contains-append_cases keys (x ∷ []) }

-- one more
pub gains_more : (old names keys new : List NamedPattern) (x : NamedPattern) → Gains old names keys → new ≡ insert_key is_same keys x → Gains old (names ++ x ∷ []) new
gains_more old names keys new x gains is = subst (λ (k : List NamedPattern). Gains old (names ++ x ∷ []) k) (sym is) (record {
  grown = (gains.grown.0 ++ one.grown.0, one.grown.1 ∙ ap (λ k. k ++ one.grown.0) gains.grown.1 ∙ append_assoc old gains.grown.0 one.grown.0);
  each = λ y has. elim (Contains-append_cases names (x ∷ []) y has) [ inl before ↦ stays y (gains.each y before) | inr here ↦ one.each y here ];
  only = λ y has. elim (one.only y has) [
    | inl before ↦ (elim (gains.only y before) [ inl there ↦ inl there | inr among ↦ inr (Contains-append_left names (x ∷ []) y among) ])
    | inr here ↦ inr (Contains-append_right names (x ∷ []) y here)
  ];
})
  where
    one : Gains keys (x ∷ []) (insert_key is_same keys x)
    one = gains_one keys x

    stays : (y : NamedPattern) → Contains keys y → Contains (insert_key is_same keys x) y
    stays y has = subst (λ (k : List NamedPattern). Contains k y) (sym one.grown.1) (Contains-append_left keys one.grown.0 y has)
