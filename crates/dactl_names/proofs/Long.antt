-- What is found of long names after one more.
use Rattle.std.proofs.Common.{◌≡◌, ℕ, Bool, true, false, List, Some, None, is_some, refl, sym, ap, ◌∙◌, true≢false}
use Rattle.std.specs.Prelude.{Vec}
use Rattle.std.specs.BTreeMap.{BTreeMap, Updates, is_at}
use Rattle.std.specs.Cmp.{eq_by_cmp_equiv}
use Rattle.std.specs.Cmp.Lexicographic.{slice_cmp, nat_list_cmp_total}
use Rattle.std.specs.Map.{KeepsOthers}
use Rattle.std.specs.Option.{option_or}
use Rattle.std.specs.Ordering.{nat_cmp}
use Rattle.std.specs.Str.{bytes_eq}
use Rattle.std.proofs.lemmas.Map.Text.{is_eq-slice_cmp}
use Rattle.std.proofs.lemmas.Slice.Eq.{bytes_eq-Decides}
use Rattle.dactl_names.specs.Found.{found_long, or_given, NotesLong}
use Rattle.dactl_names.proofs.Options.{none_is, not_given}

-- a key that is this name is no other word
apart : (name word key : List ℕ) → bytes_eq name word ≡ false → is_at (slice_cmp nat_cmp name) key ≡ true → is_at (slice_cmp nat_cmp word) key ≡ false
apart name word key differs same =
    let e : name ≡ key = (bytes_eq-Decides name key).0 (sym (is_eq-slice_cmp name key) ∙ same) in
    is_eq-slice_cmp word key ∙ by (bytes_eq word key) refl e
  where
    by : (b : Bool) → bytes_eq word key ≡ b → name ≡ key → bytes_eq word key ≡ false
    by false is e = is
    by true is e = absurd (true≢false (sym ((bytes_eq-Decides name word).1 (e ∙ sym ((bytes_eq-Decides word key).0 is))) ∙ differs))

module _ {V A : Type 0} (m n : BTreeMap (Vec ℕ A) V) (k : Vec ℕ A) (value : V) (updates : Updates (λ x y. slice_cmp nat_cmp x.items y.items) m n k (Some value)) where
  -- another word has the value that it had
  other : (word : List ℕ) → bytes_eq k.items word ≡ false → found_long n word ≡ found_long m word
  unfolding KeepsOthers
  other word differs =
      updates.3 (λ y. is_at (slice_cmp nat_cmp word) y.items) (λ x y. (eq_by_cmp_equiv nat_list_cmp_total).congr word x.items y.items) (λ y. apart k.items word y.items differs)

  -- a name that had none has the value
  pub noted : (name : List ℕ) → k.items ≡ name → is_some (found_long m name) ≡ false → NotesLong name value m n
  noted name key none = λ word. by word (bytes_eq name word) refl
    where
      by : (word : List ℕ) (b : Bool) → bytes_eq name word ≡ b → found_long n word ≡ or_given (found_long m word) b value
      by word true same =
          let e : name ≡ word = (bytes_eq-Decides name word).0 same in
          let missing : found_long m word ≡ None = ap (found_long m) (sym e) ∙ none_is (found_long m name) none in
          ap (found_long n) (sym (key ∙ e)) ∙ updates.1 ∙ sym (ap (λ o. option_or o (Some value)) missing)
      by word false differs = other word (ap (λ z. bytes_eq z word) key ∙ differs) ∙ not_given (found_long m word) value
