-- Bytes that are words which a part of the grammar derives, wherever they stand: for each form of grammar.
use Rattle.std.proofs.Common.{◌≡◌, ℕ, Bool, true, inl, inr, List, [], ◌∷◌, ◌++◌, map, Option, Some, None, refl, sym, ap, ◌∙◌}
use Rattle.std.specs.List.{AllByRecursion as Each, concat}
use Rattle.std.proofs.lemmas.List.{append-nil}
use Rattle.dactl_grammar.specs.Grammar.{one, choice, maybe, many, means, placed, place_of}
use Rattle.dactl_terminals.specs.declared.token.Sort.{Sort}
use Rattle.dactl_terminals.specs.Parts.{Tok, Part_of, is, sign, behind, before, pair, listed}
use Rattle.dactl_syntax.proofs.Holding.{each_append}
use Rattle.dactl_syntax.proofs.Words.{Word, IsFine, text_of, after, tok_at, toks_at, text_row, toks_row}

-- the tokens are a whole text of the part, with a meaning of which the fact holds
pub record Derived {A : Type 0} (P : Part_of A) (l : List Tok) (X : A → Type 0) : Type 0 where
  pub value : A
  pub whole : P.whole l value
  pub holds : X value

-- the bytes are words that the part derives, wherever they stand, with a meaning of which the fact holds
pub record Back (wide : Bool) {A : Type 0} (P : Part_of A) (bytes : List ℕ) (X : A → Type 0) : Type 0 where
  pub words : List Word
  pub are : bytes ≡ text_of words
  pub fine : Each (IsFine wide) words
  pub derives : (place : ℕ) → Derived P (toks_at place words) X

-- what is the same as another, seen through f
abbrev pub SameBy : {A B : Type 0} → (A → B) → A → A → Type 0
SameBy f a b = f b ≡ f a

pub back_weaker : {wide : Bool} {A : Type 0} {P : Part_of A} {w : List ℕ} (X Y : A → Type 0) → ((a : A) → X a → Y a) → Back wide P w X → Back wide P w Y
back_weaker X Y f b = record { words = b.words; are = b.are; fine = b.fine; derives = λ place. (let d = b.derives place in record { value = d.value; whole = d.whole; holds = f d.value d.holds }) }

pub back_bytes : {wide : Bool} {A : Type 0} {P : Part_of A} {X : A → Type 0} (u v : List ℕ) → u ≡ v → Back wide P v X → Back wide P u X
back_bytes u v e b = record { words = b.words; are = e ∙ b.are; fine = b.fine; derives = b.derives }

-- another part that derives what this one does
pub back_wider : {wide : Bool} {A : Type 0} (P Q : Part_of A) {w : List ℕ} {X : A → Type 0} → ((l : List Tok) (a : A) → P.whole l a → Q.whole l a) → Back wide P w X → Back wide Q w X
back_wider P Q f b = record { words = b.words; are = b.are; fine = b.fine; derives = λ place. (let d = b.derives place in record { value = d.value; whole = f (toks_at place b.words) d.value d.whole; holds = d.holds }) }

-- ---- one token

pub back_one : {wide : Bool} (c : Tok → Bool) (w : Word) (X : Tok → Type 0) → IsFine wide w → ((place : ℕ) → c (tok_at place w) ≡ true) → ((place : ℕ) → X (tok_at place w)) → Back wide (one c) (w.bytes ++ w.blank ∷ []) X
back_one c w X fine passes holds = record {
  words = w ∷ [];
  are = sym (append-nil (w.bytes ++ w.blank ∷ []));
  fine = (fine, tt);
  derives = λ place. record { value = tok_at place w; whole = (refl, passes place); holds = holds place };
}

-- ---- rows, choices and what may be left out

pub back_pair : {wide : Bool} {A B : Type 0} {P : Part_of A} {Q : Part_of B} {u v : List ℕ} {X : A → Type 0} {Y : B → Type 0} → Back wide P u X → Back wide Q v Y → Back wide (pair P Q) (u ++ v) (λ p. X p.0 × Y p.1)
back_pair {wide} {A} {B} {P} {Q} {u} {v} {X} {Y} a b = record {
  words = a.words ++ b.words;
  are = ap (λ (z : List ℕ). z ++ v) a.are ∙ ap (λ (z : List ℕ). text_of a.words ++ z) b.are ∙ sym (text_row a.words b.words);
  fine = each_append (IsFine wide) a.words b.words a.fine b.fine;
  derives = λ place. (let first = a.derives place in
      let second = b.derives (after place a.words) in
      record {
        value = (first.value, second.value);
        whole = record { front = toks_at place a.words; back = toks_at (after place a.words) b.words; parts = toks_row place a.words b.words; first = first.whole; second = second.whole };
        holds = (first.holds, second.holds);
      });
}

pub back_means : {wide : Bool} {A B : Type 0} {P : Part_of A} {w : List ℕ} {X : A → Type 0} (f : A → B) (Y : B → Type 0) → ((a : A) → X a → Y (f a)) → Back wide P w X → Back wide (means f P) w Y
back_means f Y is b = record {
  words = b.words;
  are = b.are;
  fine = b.fine;
  derives = λ place. (let d = b.derives place in record { value = f d.value; whole = record { value = d.value; is = refl; inner = d.whole }; holds = is d.value d.holds });
}

pub back_left : {wide : Bool} {A : Type 0} {P Q : Part_of A} {w : List ℕ} {X : A → Type 0} → Back wide P w X → Back wide (choice P Q) w X
back_left {wide} {A} {P} {Q} b = back_wider P (choice P Q) (λ l a k. inl k) b

pub back_right : {wide : Bool} {A : Type 0} {P Q : Part_of A} {w : List ℕ} {X : A → Type 0} → Back wide Q w X → Back wide (choice P Q) w X
back_right {wide} {A} {P} {Q} b = back_wider Q (choice P Q) (λ l a k. inr k) b

pub back_none : {wide : Bool} {A : Type 0} {P : Part_of A} (X : Option A → Type 0) → X None → Back wide (maybe P) [] X
back_none X x = record { words = []; are = refl; fine = tt; derives = λ place. record { value = None; whole = refl; holds = x } }

pub back_some : {wide : Bool} {A : Type 0} {P : Part_of A} {w : List ℕ} {X : A → Type 0} (Y : Option A → Type 0) → ((a : A) → X a → Y (Some a)) → Back wide P w X → Back wide (maybe P) w Y
back_some Y f b = record { words = b.words; are = b.are; fine = b.fine; derives = λ place. (let d = b.derives place in record { value = Some d.value; whole = d.whole; holds = f d.value d.holds }) }

pub back_placed : {wide : Bool} {A : Type 0} {P : Part_of A} {w : List ℕ} {X : A → Type 0} → Back wide P w X → Back wide (placed (λ t. t.place) P) w (λ v. X v.1)
back_placed b = record {
  words = b.words;
  are = b.are;
  fine = b.fine;
  derives = λ place. (let d = b.derives place in record { value = (place_of (λ t. t.place) (toks_at place b.words), d.value); whole = (refl, d.whole); holds = d.holds });
}

-- ---- a token before and behind a part

pub back_behind : {wide : Bool} {A : Type 0} {P : Part_of A} {u v : List ℕ} {Y : Tok → Type 0} {X : A → Type 0} (k : Sort) → Back wide (sign k) u Y → Back wide P v X → Back wide (behind k P) (u ++ v) X
back_behind {wide} {A} {P} {u} {v} {Y} {X} k t p = back_means (λ v. v.1) X (λ v h. h.1) (back_pair t p)

pub back_before : {wide : Bool} {A : Type 0} {P : Part_of A} {u v : List ℕ} {Y : Tok → Type 0} {X : A → Type 0} (k : Sort) → Back wide P u X → Back wide (sign k) v Y → Back wide (before P k) (u ++ v) X
back_before {wide} {A} {P} {u} {v} {Y} {X} k p t = back_means (λ v. v.0) X (λ v h. h.0) (back_pair p t)

-- ---- lists

pub back_nil : {wide : Bool} {A : Type 0} {P : Part_of A} (X : List A → Type 0) → X [] → Back wide (many P) [] X
back_nil X x = record { words = []; are = refl; fine = tt; derives = λ place. record { value = []; whole = refl; holds = x } }

pub back_cons : {wide : Bool} {A : Type 0} {P : Part_of A} {u v : List ℕ} {X : A → Type 0} {Y : List A → Type 0} (Z : List A → Type 0) → ((a : A) (more : List A) → X a → Y more → Z (a ∷ more)) → Back wide P u X → Back wide (many P) v Y → Back wide (many P) (u ++ v) Z
back_cons {wide} {A} {P} {u} {v} Z f a b = record {
  words = a.words ++ b.words;
  are = ap (λ (z : List ℕ). z ++ v) a.are ∙ ap (λ (z : List ℕ). text_of a.words ++ z) b.are ∙ sym (text_row a.words b.words);
  fine = each_append (IsFine wide) a.words b.words a.fine b.fine;
  derives = λ place. (let first = a.derives place in
      let later = b.derives (after place a.words) in
      record {
        value = first.value ∷ later.value;
        whole = (toks_at place a.words, toks_at (after place a.words) b.words, toks_row place a.words b.words, first.whole, later.whole);
        holds = f first.value later.value first.holds later.holds;
      });
}

module _ {A B : Type 0} (e : A → B) where
  -- the same list, each member seen through e
  abbrev pub SameList : List A → List A → Type 0
  SameList xs ys = map e ys ≡ map e xs

  cons_same : (x y : A) (xs ys : List A) → e y ≡ e x → SameList xs ys → SameList (x ∷ xs) (y ∷ ys)
  cons_same x y xs ys h k = ap (λ (z : B). z ∷ map e ys) h ∙ ap (λ (z : List B). e x ∷ z) k

  pub back_many : {wide : Bool} (P : Part_of A) (w : A → List ℕ) (xs : List A) → Each (λ x. Back wide P (w x) (SameBy e x)) xs → Back wide (many P) (concat (map w xs)) (SameList xs)
  back_many P w [] h = back_nil (SameList []) refl
  back_many P w (x ∷ xs) h = back_cons (SameList (x ∷ xs)) (λ y ys k l. cons_same x y xs ys k l) h.0 (back_many P w xs h.1)

  pub back_listed : {wide : Bool} (P Q : Part_of A) (w v : A → List ℕ) (x : A) (xs : List A) → Back wide P (w x) (SameBy e x) → Each (λ y. Back wide Q (v y) (SameBy e y)) xs → Back wide (listed P Q) (w x ++ concat (map v xs)) (SameList (x ∷ xs))
  back_listed P Q w v x xs a h = back_means (λ v. v.0 ∷ v.1) (SameList (x ∷ xs)) (λ p k. cons_same x p.0 xs p.1 k.0 k.1) (back_pair a (back_many Q v xs h))
