-- What holds of the meanings of the parts holds of the meaning of the whole.
use Rattle.std.proofs.Common.{◌≡◌, ℕ, Bool, true, inl, inr, List, [], ◌∷◌, ◌++◌, Option, Some, None, sym, subst}
use Rattle.std.specs.List.{AllByRecursion as Each}
use Rattle.dactl_grammar.specs.Grammar.{Grammar, one, row, choice, WholeMaybe, maybe, WholeMany, many, means, barred, placed}

-- where tokens are good, so are both parts of them
abbrev pub Splits : {T : Type 0} → (List T → Type 0) → Type 0
Splits {T} Good = (u v : List T) → Good (u ++ v) → Good u × Good v

-- the fact holds of what is there
abbrev pub IfThere : {A : Type 0} → (A → Type 0) → Option A → Type 0
IfThere X None = Unit {0}
IfThere X (Some a) = X a

-- the fact holds of each meaning that good tokens have
pub record Holds {T A : Type 0} (Good : List T → Type 0) (P : Grammar T A) (X : A → Type 0) : Type 0 where
  pub of : (l : List T) (a : A) → Good l → P.whole l a → X a

pub holds_weaker : {T A : Type 0} {Good : List T → Type 0} {P : Grammar T A} (X Y : A → Type 0) → ((a : A) → X a → Y a) → Holds Good P X → Holds Good P Y
holds_weaker X Y f p = record { of = λ l a g w. f a (p.of l a g w) }

pub holds_one : {T : Type 0} {Good : List T → Type 0} (c : T → Bool) → Holds Good (one c) (λ t. Good (t ∷ []) × (c t ≡ true))
holds_one {T} {Good} c = record { of = λ l t g w. (subst Good w.0 g, w.1) }

pub holds_row : {T A B : Type 0} {Good : List T → Type 0} {P : Grammar T A} {Q : A → Grammar T B} {X : A → Type 0} {Y : B → Type 0}
    → Splits Good → Holds Good P X → ((a : A) → Holds Good (Q a) Y) → Holds Good (row P Q) (λ v. X v.0 × Y v.1)
holds_row {T} {A} {B} {Good} {P} {Q} {X} {Y} split p q = record { of = λ l v g w. (let parts = split w.front w.back (subst Good w.parts g) in (p.of w.front v.0 parts.0 w.first, (q v.0).of w.back v.1 parts.1 w.second)) }

pub holds_choice : {T A : Type 0} {Good : List T → Type 0} {P Q : Grammar T A} {X : A → Type 0} → Holds Good P X → Holds Good Q X → Holds Good (choice P Q) X
holds_choice p q = record { of = λ l a g w. elim w [ inl k ↦ p.of l a g k | inr k ↦ q.of l a g k ] }

pub holds_maybe : {T A : Type 0} {Good : List T → Type 0} {P : Grammar T A} {X : A → Type 0} → Holds Good P X → Holds Good (maybe P) (IfThere X)
holds_maybe {T} {A} {Good} {P} {X} p = record { of = at }
  where
    at : (l : List T) (o : Option A) → Good l → WholeMaybe P l o → IfThere X o
    at l None g w = tt
    at l (Some a) g w = p.of l a g w

pub holds_many : {T A : Type 0} {Good : List T → Type 0} {P : Grammar T A} {X : A → Type 0} → Splits Good → Holds Good P X → Holds Good (many P) (Each X)
holds_many {T} {A} {Good} {P} {X} split p = record { of = at }
  where
    at : (l : List T) (vs : List A) → Good l → WholeMany P l vs → Each X vs
    at l [] g w = tt
    at l (a ∷ vs) g w = let parts = split w.0 w.1 (subst Good w.2 g) in (p.of w.0 a parts.0 w.3, at w.1 vs parts.1 w.4)

pub holds_means : {T A B : Type 0} {Good : List T → Type 0} {P : Grammar T A} {X : A → Type 0} (f : A → B) (Y : B → Type 0) → ((a : A) → X a → Y (f a)) → Holds Good P X → Holds Good (means f P) Y
holds_means f Y is p = record { of = λ l b g w. subst Y (sym w.is) (is w.value (p.of l w.value g w.inner)) }

pub holds_barred : {T A : Type 0} {Good : List T → Type 0} (X : A → Type 0) → Holds Good (barred {T = T} {A = A}) X
holds_barred X = record { of = λ l a g w. absurd w }

pub holds_placed : {T A : Type 0} {Good : List T → Type 0} {P : Grammar T A} {X : A → Type 0} (at : T → ℕ) → Holds Good P X → Holds Good (placed at P) (λ v. X v.1)
holds_placed at p = record { of = λ l v g w. p.of l v.1 g w.1 }
