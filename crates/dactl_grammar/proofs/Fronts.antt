-- What begins a part, each front of it begins the part.
use Rattle.std.proofs.Common.{◌≡◌, Bool, ◌⊎◌, inl, inr, List, [], ◌∷◌, ◌++◌, refl, sym, ap, subst, ◌∙◌, append_assoc}
use Rattle.dactl_grammar.specs.Grammar.{Grammar, one, BeginsSecond, row, choice, WholeMany, BeginsMany, many, barred}
use Rattle.dactl_grammar.proofs.Same.{Same}

abbrev pub Fronts : {T A : Type 0} → Grammar T A → Type 0
Fronts {T} P = (u v : List T) → P.begins (u ++ v) → P.begins u

-- of two ways to cut a list one is inside the other
pub record Longer {T : Type 0} (u v f b : List T) : Type 0 where
  pub between : List T
  pub front : f ≡ u ++ between

pub record Shorter {T : Type 0} (u v f b : List T) : Type 0 where
  pub between : List T
  pub front : u ≡ f ++ between
  pub back : b ≡ between ++ v

pub cut : {T : Type 0} (u v f b : List T) → u ++ v ≡ f ++ b → Longer u v f b ⊎ Shorter u v f b
cut [] v f b e = inl record { between = f; front = refl }
cut (t ∷ u) v [] b e = inr record { between = t ∷ u; front = refl; back = sym e }
cut (t ∷ u) v (x ∷ f) b e =
    let head : t ≡ x = cc in
    let tail : u ++ v ≡ f ++ b = cc in
    elim (cut u v f b tail) [
      | inl k ↦ inl record { between = k.between; front = ap (λ y. y ∷ f) (sym head) ∙ ap (λ y. t ∷ y) k.front }
      | inr k ↦ inr record { between = k.between; front = ap (λ y. y ∷ u) head ∙ ap (λ y. x ∷ y) k.front; back = k.back }
    ]

pub fronts_one : {T : Type 0} (c : T → Bool) → Fronts (one c)
fronts_one c [] v b = tt
fronts_one c (t ∷ []) [] b = b
fronts_one c (t ∷ []) (x ∷ v) b = absurd b
fronts_one c (t ∷ x ∷ u) v b = absurd b

module _ {T A B : Type 0} (P : Grammar T A) (Q : A → Grammar T B) (whole_begins : (u : List T) (a : A) → P.whole u a → P.begins u) (p : Fronts P) (q : (a : A) → Fronts (Q a)) where
  second_fronts : (u v : List T) (k : BeginsSecond P Q (u ++ v)) → Longer u v k.front k.back ⊎ Shorter u v k.front k.back → (row P Q).begins u
  second_fronts u v k (inl w) = inl (p u w.between (subst P.begins w.front (whole_begins k.front k.value k.first)))
  second_fronts u v k (inr w) = inr record { front = k.front; back = w.between; value = k.value; parts = w.front; first = k.first; second = q k.value w.between v (subst (Q k.value).begins w.back k.second) }

  pub fronts_row : Fronts (row P Q)
  fronts_row u v b = elim b as (λ _. (row P Q).begins u) [ inl k ↦ inl (p u v k) | inr k ↦ second_fronts u v k (cut u v k.front k.back k.parts) ]

pub fronts_choice : {T A : Type 0} (P Q : Grammar T A) → Fronts P → Fronts Q → Fronts (choice P Q)
fronts_choice P Q p q u v b = elim b as (λ _. (choice P Q).begins u) [ inl k ↦ inl (p u v k) | inr k ↦ inr (q u v k) ]

module _ {T A : Type 0} (P : Grammar T A) (whole_begins : (u : List T) (a : A) → P.whole u a → P.begins u) (p : Fronts P) where
  many_cut : (vs : List A) (u v f b : List T) → WholeMany P f vs → P.begins b → u ++ v ≡ f ++ b → BeginsMany P u
  many_cut [] u v f b w k e = record { front = []; back = u; values = []; parts = refl; first = refl; second = p u v (subst P.begins (sym (e ∙ ap (λ (z : List T). z ++ b) w)) k) }
  many_cut (x ∷ vs) u v f b w k e =
      elim (cut u v w.0 (w.1 ++ b) (e ∙ ap (λ (z : List T). z ++ b) w.2 ∙ append_assoc w.0 w.1 b)) [
        | inl s ↦ record { front = []; back = u; values = []; parts = refl; first = refl; second = p u s.between (subst P.begins s.front (whole_begins w.0 x w.3)) }
        | inr s ↦ (let m = many_cut vs s.between v w.1 b w.4 k (sym s.back) in
            record {
              front = w.0 ++ m.front;
              back = m.back;
              values = x ∷ m.values;
              parts = s.front ∙ ap (λ (z : List T). w.0 ++ z) m.parts ∙ sym (append_assoc w.0 m.front m.back);
              first = (w.0, m.front, refl, w.3, m.first);
              second = m.second;
            })
      ]

  pub fronts_many : Fronts (many P)
  fronts_many u v b = many_cut b.values u v b.front b.back b.first b.second b.parts

pub fronts_barred : {T : Type 0} (A : Type 0) → Fronts (barred {T = T} {A = A})
fronts_barred A [] v b = refl
fronts_barred A (t ∷ u) v b = absurd cc

pub fronts_same : {T A : Type 0} (P Q : Grammar T A) → Same P Q → Fronts P → Fronts Q
fronts_same P Q s p u v b = s.begins_to u (p u v (s.begins_from (u ++ v) b))
