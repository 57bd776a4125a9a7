-- What a map from words finds after one entry more.
use Rattle.std.proofs.Common.{◌≡◌, ℕ, Bool, true, false, cond, List, [], Option, Some, None, is_some, refl, sym, ap, ◌∙◌, true≢false}
use Rattle.std.specs.Prelude.{Vec}
use Rattle.std.specs.BTreeMap.{BTreeMap, is_at, Updates}
use Rattle.std.specs.Cmp.{eq_by_cmp_equiv}
use Rattle.std.specs.Cmp.Lexicographic.{slice_cmp, nat_list_cmp_total}
use Rattle.std.specs.Map.{KeepsOthers, lookup}
use Rattle.std.specs.Option.{option_or}
use Rattle.std.specs.Ordering.{nat_cmp}
use Rattle.std.specs.Str.{bytes_eq}
use Rattle.std.proofs.lemmas.Map.Text.{is_eq-slice_cmp}
use Rattle.std.proofs.lemmas.Slice.Eq.{bytes_eq-Decides}
use Rattle.fun_syntax.specs.Words.{Known, found_in, nothing, with_word}

absent : {A : Type 0} (o : Option A) → is_some o ≡ false → o ≡ None
absent None h = refl
absent (Some a) h = absurd (true≢false h)

or-none : {A : Type 0} (o : Option A) → o ≡ option_or o None
or-none None = refl
or-none (Some x) = refl

-- a key that is this word is no other word
apart : (key word ks : List ℕ) → bytes_eq word key ≡ false → is_at (slice_cmp nat_cmp key) ks ≡ true → is_at (slice_cmp nat_cmp word) ks ≡ false
apart key word ks differs same =
    let e : key ≡ ks = (bytes_eq-Decides key ks).0 (sym (is_eq-slice_cmp key ks) ∙ same) in
    is_eq-slice_cmp word ks ∙ ap (bytes_eq word) (sym e) ∙ differs

module _ {A V : Type 0} (m n : BTreeMap (Vec ℕ A) V) (k : Vec ℕ A) (v : V) (updates : Updates (λ x y. slice_cmp nat_cmp x.items y.items) m n k (Some v)) where
  -- another word has what it had
  found-other : (word : List ℕ) → bytes_eq word k.items ≡ false → found_in n word ≡ found_in m word
  unfolding KeepsOthers
  found-other word differs =
      updates.3 (λ y. is_at (slice_cmp nat_cmp word) y.items) (λ x y. (eq_by_cmp_equiv nat_list_cmp_total).congr word x.items y.items) (λ y. apart k.items word y.items differs)

  -- a new word is put in
  pub found-added : (name : List ℕ) → k.items ≡ name → is_some (found_in m name) ≡ false → found_in n ≡ with_word (found_in m) name v
  unfolding with_word
  found-added name key none = λ j word. by word (bytes_eq word name) refl j
    where
      by : (word : List ℕ) (b : Bool) → bytes_eq word name ≡ b → found_in n word ≡ option_or (found_in m word) (cond (bytes_eq word name) (Some v) None)
      by word true same =
          let e : word ≡ name = (bytes_eq-Decides word name).0 same in
          let missing : found_in m word ≡ None = ap (found_in m) e ∙ absent (found_in m name) none in
          ap (found_in n) (e ∙ sym key) ∙ updates.1 ∙ sym (λ j. option_or (missing j) (cond (same j) (Some v) None))
      by word false differs = found-other word (ap (bytes_eq word) key ∙ differs) ∙ or-none (found_in m word) ∙ sym (ap (λ b. option_or (found_in m word) (cond b (Some v) None)) differs)

-- a word that is there already
pub found-kept : {V : Type 0} (found : Known V) (word : List ℕ) (v : V) → is_some (found word) ≡ true → found ≡ with_word found word v
unfolding with_word
found-kept {V} found word v there = λ j w. by w (bytes_eq w word) refl j
  where
    keeps : (o : Option V) (p : Option V) → is_some o ≡ true → o ≡ option_or o p
    keeps None p h = absurd (true≢false (sym h))
    keeps (Some x) p h = refl

    by : (w : List ℕ) (b : Bool) → bytes_eq w word ≡ b → found w ≡ option_or (found w) (cond (bytes_eq w word) (Some v) None)
    by w false e = or-none (found w) ∙ sym (ap (λ b. option_or (found w) (cond b (Some v) None)) e)
    by w true e = keeps (found w) (cond (bytes_eq w word) (Some v) None) (ap (λ t. is_some (found t)) ((bytes_eq-Decides w word).0 e) ∙ there)

-- an empty map
pub empty : {A V : Type 0} (m : BTreeMap (Vec ℕ A) V) → m.entries ≡ [] → found_in m ≡ nothing
empty m none = λ j word. lookup (λ k. is_at (slice_cmp nat_cmp word) k.items) (none j)
