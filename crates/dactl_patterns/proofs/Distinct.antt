-- The names of a list each once, and a set of them, one after the other.
use Rattle.std.proofs.Common.{◌≡◌, ℕ, ◌+◌, ◌<◌, Bool, true, false, cond, List, [], ◌∷◌, ◌++◌, length, take, drop, get_or, refl, sym, ap, ◌∙◌}
use Rattle.std.specs.Prelude.{not, ◌||◌, if◌then◌else◌, filter}
use Rattle.std.specs.Borrow.{Bor}
use Rattle.std.specs.BTreeSet.{BTreeSet, Updates}
use Rattle.std.specs.Cmp.Lexicographic.{slice_cmp}
use Rattle.std.specs.Ordering.{nat_cmp}
use Rattle.std.specs.Str.{bytes_eq}
use Rattle.std.proofs.lemmas.List.{append-nil, at_drop_more}
use Rattle.std.proofs.lemmas.List.Folds.{list_any-append}
use Rattle.std.proofs.lemmas.List.Elements.{filter-append}
use Rattle.std.proofs.lemmas.Map.Text.{is_eq-slice_cmp}
use Rattle.dactl_meaning.specs.Expansion.{is_among, each_once, number_in}
use Rattle.dactl_symbols.proofs.Walks.{mapped-more}
use Rattle.dactl_patterns.specs.declared.occurrences.Occurrence.{Occurrence}
use Rattle.dactl_patterns.specs.Naming.{has_word, with_word, names_in}

or_false : (b : Bool) → (b || false) ≡ b
or_false true = refl
or_false false = refl

among-push : (names : List (List ℕ)) (w v : List ℕ) → is_among (names ++ w ∷ []) v ≡ (is_among names v || bytes_eq w v)
among-push names w v = list_any-append (λ u. bytes_eq u v) names (w ∷ []) ∙ ap (λ b. is_among names v || b) (or_false (bytes_eq w v))

each_once-push : (names : List (List ℕ)) (w : List ℕ) → each_once (names ++ w ∷ []) ≡ (if is_among names w then each_once names else each_once names ++ w ∷ [])
each_once-push [] w = refl
each_once-push (u ∷ names) w = by (bytes_eq u w) (is_among names w) refl (each_once-push names w)
  where
    is_other : List ℕ → Bool
    is_other v = not (bytes_eq u v)

    pushed : (same : Bool) → bytes_eq u w ≡ same → filter is_other (each_once names ++ w ∷ []) ≡ filter is_other (each_once names) ++ (if not same then w ∷ [] else [])
    pushed same e = filter-append is_other (each_once names) (w ∷ []) ∙ ap (λ b. filter is_other (each_once names) ++ (if not b then w ∷ [] else [])) e

    by : (same known : Bool) → bytes_eq u w ≡ same → each_once (names ++ w ∷ []) ≡ (if known then each_once names else each_once names ++ w ∷ [])
        → u ∷ filter is_other (each_once (names ++ w ∷ [])) ≡ (if same || known then u ∷ filter is_other (each_once names) else u ∷ (filter is_other (each_once names) ++ w ∷ []))
    by true true e rest = ap (λ k. u ∷ filter is_other k) rest
    by false true e rest = ap (λ k. u ∷ filter is_other k) rest
    by true false e rest = ap (λ k. u ∷ filter is_other k) rest ∙ ap (λ k. u ∷ k) (pushed true e ∙ append-nil (filter is_other (each_once names)))
    by false false e rest = ap (λ k. u ∷ filter is_other k) rest ∙ ap (λ k. u ∷ k) (pushed false e)

cond_or : (a b : Bool) → cond a true b ≡ (b || a)
cond_or true true = refl
cond_or true false = refl
cond_or false b = sym (or_false b)

-- what a set has after a name is put in
pub inserted_word : (old new : BTreeSet (Bor (List ℕ))) (name : Bor (List ℕ)) → Updates (λ x y. slice_cmp nat_cmp x.now y.now) old new name true → has_word new ≡ with_word (has_word old) name.now
inserted_word old new name updates = λ j w.
    (updates.0 (record { ref_ptr = (0, 0); now = w })
    ∙ ap (λ b. cond b true (has_word old w)) (is_eq-slice_cmp name.now w)
    ∙ cond_or (bytes_eq name.now w) (has_word old w)) j

-- ---- one place of a variable after the other

module _ (occurrences : List Occurrence) (i : ℕ) (x : Occurrence) (had : List ℕ → Bool) (below : i < length occurrences) (is : x ≡ get_or occurrences i x) (held : had ≡ is_among (names_in (take i occurrences))) where
  more : names_in (take (i + 1) occurrences) ≡ names_in (take i occurrences) ++ x.name.now.text ∷ []
  more = mapped-more (λ (o : Occurrence). o.name.now.text) occurrences i x below is

  pub held_more : (next : List ℕ → Bool) → next ≡ with_word had x.name.now.text → next ≡ is_among (names_in (take (i + 1) occurrences))
  held_more next with =
      with ∙ (λ j v. held j v || bytes_eq x.name.now.text v) ∙ (λ j v. sym (among-push (names_in (take i occurrences)) x.name.now.text v) j) ∙ ap is_among (sym more)

  pub names_more : (added : Bool) → added ≡ not (had x.name.now.text) → each_once (names_in (take (i + 1) occurrences)) ≡ (if added then each_once (names_in (take i occurrences)) ++ x.name.now.text ∷ [] else each_once (names_in (take i occurrences)))
  names_more added new = ap each_once more ∙ each_once-push (names_in (take i occurrences)) x.name.now.text ∙ turned _ _ (is_among (names_in (take i occurrences)) x.name.now.text) added (new ∙ (λ j. not (held j x.name.now.text)))
    where
      turned : {A : Type 0} (a b : A) (known added : Bool) → added ≡ not known → (if known then a else b) ≡ (if added then b else a)
      turned a b true true e = cc
      turned a b true false e = refl
      turned a b false true e = refl
      turned a b false false e = cc

-- ---- the number of a name, one other name after the other

pub number_step : (names : List (List ℕ)) (w : List ℕ) (i : ℕ) (x : List ℕ) (b : Bool) → i < length names → x ≡ get_or names i x → b ≡ bytes_eq x w → number_in names w ≡ number_in (drop i names) w + i → number_in names w ≡ (if b then 0 else number_in (drop (i + 1) names) w + 1) + i
number_step names w i x b below is test so =
    so ∙ ap (λ n. n + i) (at_drop_more (λ (l : List (List ℕ)). number_in l w) names i x below)
    ∙ (λ j. (if (ap (λ (y : List ℕ). bytes_eq y w) (sym is) ∙ sym test) j then 0 else number_in (drop (i + 1) names) w + 1) + i)
