-- What a grammar says: which lists of tokens are whole texts of a part, with which meaning, and which begin one.
use Rattle.std.specs.Prelude.{◌≡◌, ℕ, Bool, true, ◌⊎◌, List, [], ◌∷◌, ◌++◌, Option, Some, None}

-- a part of a grammar over tokens T, with meanings in A
pub record Grammar (T A : Type 0) : Type 1 where
  -- these tokens are a whole text of the part, with this meaning
  pub whole : List T → A → Type 0
  -- these tokens begin one
  pub begins : List T → Type 0

-- ---- one token that passes a test

-- nothing begins it, and the token does
abbrev pub StartsOne : {T : Type 0} → (T → Bool) → List T → Type 0
StartsOne c [] = Unit {0}
StartsOne c (t ∷ []) = c t ≡ true
StartsOne c (t ∷ u ∷ l) = ⊥

abbrev pub one : {T : Type 0} → (T → Bool) → Grammar T T
one c = record { whole = λ l v. (l ≡ v ∷ []) × (c v ≡ true); begins = StartsOne c }

-- ---- a row of two parts, the second of which may depend on what the first means

-- a whole text of the first part and then one of the second
pub record WholeRow {T A B : Type 0} (P : Grammar T A) (Q : A → Grammar T B) (l : List T) (v : A × B) : Type 0 where
  pub front : List T
  pub back : List T
  pub parts : l ≡ front ++ back
  pub first : P.whole front v.0
  pub second : (Q v.0).whole back v.1

-- a whole text of the first part, followed by a list that begins the second
pub record BeginsSecond {T A B : Type 0} (P : Grammar T A) (Q : A → Grammar T B) (l : List T) : Type 0 where
  pub front : List T
  pub back : List T
  pub value : A
  pub parts : l ≡ front ++ back
  pub first : P.whole front value
  pub second : (Q value).begins back

abbrev pub row : {T A B : Type 0} → Grammar T A → (A → Grammar T B) → Grammar T (A × B)
row P Q = record { whole = WholeRow P Q; begins = λ l. P.begins l ⊎ BeginsSecond P Q l }

-- ---- one part or another

abbrev pub choice : {T A : Type 0} → Grammar T A → Grammar T A → Grammar T A
choice P Q = record { whole = λ l v. P.whole l v ⊎ Q.whole l v; begins = λ l. P.begins l ⊎ Q.begins l }

-- ---- a part or nothing

abbrev pub WholeMaybe : {T A : Type 0} → Grammar T A → List T → Option A → Type 0
WholeMaybe P l None = l ≡ []
WholeMaybe P l (Some a) = P.whole l a

abbrev pub maybe : {T A : Type 0} → Grammar T A → Grammar T (Option A)
maybe P = record { whole = WholeMaybe P; begins = P.begins }

-- ---- a part any number of times

-- whole texts of the part, one after another
abbrev pub WholeMany : {T A : Type 0} → Grammar T A → List T → List A → Type 0
WholeMany P l [] = l ≡ []
WholeMany {T} P l (a ∷ more) = (front : List T) × (back : List T) × (l ≡ front ++ back) × P.whole front a × WholeMany P back more

-- whole texts of the part, followed by a list that begins it
pub record BeginsMany {T A : Type 0} (P : Grammar T A) (l : List T) : Type 0 where
  pub front : List T
  pub back : List T
  pub values : List A
  pub parts : l ≡ front ++ back
  pub first : WholeMany P front values
  pub second : P.begins back

abbrev pub many : {T A : Type 0} → Grammar T A → Grammar T (List A)
many P = record { whole = WholeMany P; begins = BeginsMany P }

-- ---- the same texts with another meaning

pub record WholeAs {T A B : Type 0} (f : A → B) (P : Grammar T A) (l : List T) (b : B) : Type 0 where
  pub value : A
  pub is : b ≡ f value
  pub inner : P.whole l value

abbrev pub means : {T A B : Type 0} → (A → B) → Grammar T A → Grammar T B
means f P = record { whole = WholeAs f P; begins = P.begins }

-- ---- a part that no text has

abbrev pub barred : {T A : Type 0} → Grammar T A
barred = record { whole = λ l v. ⊥; begins = λ l. l ≡ [] }

-- ---- a part with the place of its first token

-- the place of the first token, and 0 where there is none
abbrev pub place_of : {T : Type 0} → (T → ℕ) → List T → ℕ
place_of g [] = 0
place_of g (t ∷ l) = g t

abbrev pub placed : {T A : Type 0} → (T → ℕ) → Grammar T A → Grammar T (ℕ × A)
placed g P = record { whole = λ l v. (v.0 ≡ place_of g l) × P.whole l v.1; begins = P.begins }
