-- What is found in a map from names, and after one more.
use Rattle.std.proofs.Common.{◌≡◌, ℕ, ◌==◌, Bool, true, false, cond, List, refl, sym, ap, ◌∙◌, true≢false}
use Rattle.std.specs.Str.{bytes_eq}
use Rattle.std.proofs.lemmas.Bool.{eq-eqb, eqb-true}
use Rattle.std.proofs.lemmas.Slice.Eq.{bytes_eq-Decides}
use Rattle.dactl_names.specs.declared.map.NameMap.{NameMap}
use Rattle.dactl_names.specs.Found.{is_short, packed, found, found_short, found_long, or_given, Notes, NotesShort, NotesLong}
use Rattle.dactl_names.proofs.Numbers.{packed_once, bytes_of}
use Rattle.dactl_names.proofs.Options.{not_given}

-- two names of which one is short are not one
unlike : (name word : List ℕ) → is_short name ≡ true → is_short word ≡ false → bytes_eq name word ≡ false
unlike name word short long = by (bytes_eq name word) refl
  where
    by : (b : Bool) → bytes_eq name word ≡ b → bytes_eq name word ≡ false
    by false is = is
    by true is = absurd (true≢false (sym short ∙ ap is_short ((bytes_eq-Decides name word).0 is) ∙ long))

unlike_long : (name word : List ℕ) → is_short name ≡ false → is_short word ≡ true → bytes_eq name word ≡ false
unlike_long name word long short = by (bytes_eq name word) refl
  where
    by : (b : Bool) → bytes_eq name word ≡ b → bytes_eq name word ≡ false
    by false is = is
    by true is = absurd (true≢false (sym short ∙ ap is_short (sym ((bytes_eq-Decides name word).0 is)) ∙ long))

-- the numbers of short names tell whether they are one
number_tells : (name word : List ℕ) → is_short name ≡ true → is_short word ≡ true → (packed name == packed word) ≡ bytes_eq name word
number_tells name word short also = by (bytes_eq name word) (packed name == packed word) refl refl
  where
    by : (b c : Bool) → bytes_eq name word ≡ b → (packed name == packed word) ≡ c → (packed name == packed word) ≡ bytes_eq name word
    by true c is number = ap (λ z. packed name == packed z) (sym ((bytes_eq-Decides name word).0 is)) ∙ eq-eqb (packed name) (packed name) refl ∙ sym is
    by false false is number = number ∙ sym is
    by false true is number =
        absurd (true≢false (sym ((bytes_eq-Decides name word).1 (packed_once name word (bytes_of name short) (bytes_of word also) (eqb-true (packed name) (packed word) number))) ∙ is))

pub found-short : {V : Type 0} (m : NameMap V) (name : List ℕ) → is_short name ≡ true → found m name ≡ found_short m.short (packed name)
found-short m name short = ap (λ (b : Bool). cond b (found_short m.short (packed name)) (found_long m.long name)) short

pub found-long : {V : Type 0} (m : NameMap V) (name : List ℕ) → is_short name ≡ false → found m name ≡ found_long m.long name
found-long m name long = ap (λ (b : Bool). cond b (found_short m.short (packed name)) (found_long m.long name)) long

-- one short name more
pub notes-short : {V : Type 0} (m n : NameMap V) (name : List ℕ) (number : ℕ) (value : V) → is_short name ≡ true → number ≡ packed name → n.long ≡ m.long → NotesShort number value m.short n.short → Notes name value m n
notes-short m n name number value short is same notes = λ word. by word (is_short word) refl
  where
    by : (word : List ℕ) (b : Bool) → is_short word ≡ b → found n word ≡ or_given (found m word) (bytes_eq name word) value
    by word true also =
        found-short n word also ∙ notes (packed word) ∙ ap (λ z. or_given (found_short m.short (packed word)) (z == packed word) value) is
        ∙ ap (λ z. or_given (found_short m.short (packed word)) z value) (number_tells name word short also) ∙ sym (ap (λ z. or_given z (bytes_eq name word) value) (found-short m word also))
    by word false long =
        found-long n word long ∙ ap (λ z. found_long z word) same ∙ not_given (found_long m.long word) value
        ∙ ap (λ z. or_given (found_long m.long word) z value) (sym (unlike name word short long)) ∙ sym (ap (λ z. or_given z (bytes_eq name word) value) (found-long m word long))

-- one long name more
pub notes-long : {V : Type 0} (m n : NameMap V) (name : List ℕ) (value : V) → is_short name ≡ false → n.short ≡ m.short → NotesLong name value m.long n.long → Notes name value m n
notes-long m n name value long same notes = λ word. by word (is_short word) refl
  where
    by : (word : List ℕ) (b : Bool) → is_short word ≡ b → found n word ≡ or_given (found m word) (bytes_eq name word) value
    by word false also = found-long n word also ∙ notes word ∙ sym (ap (λ z. or_given z (bytes_eq name word) value) (found-long m word also))
    by word true short =
        found-short n word short ∙ ap (λ z. found_short z (packed word)) same ∙ not_given (found_short m.short (packed word)) value
        ∙ ap (λ z. or_given (found_short m.short (packed word)) z value) (sym (unlike_long name word long short)) ∙ sym (ap (λ z. or_given z (bytes_eq name word) value) (found-short m word short))
