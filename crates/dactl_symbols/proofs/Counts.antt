-- The faults in declarations, imports and counts are those of the text.
use Rattle.std.proofs.Common.{◌≡◌, ℕ, ◌+◌, ◌<◌, Bool, true, false, cond, ◌⊎◌, inl, inr, List, [], ◌∷◌, map, Option, Some, None, length, refl, sym, ap, ◌∙◌, subst, true≢false, arith}
use Rattle.std.specs.Prelude.{Any, Contains, IsNone, IsSomeAnd, is_none, is_some, option_map, slice_get, drop}
use Rattle.std.specs.List.{flat_map}
use Rattle.std.proofs.lemmas.List.Elements.{Contains-append_cases, Contains-append_left, Contains-append_right}
use Rattle.std.proofs.lemmas.Option.{slice_get-map}
use Rattle.dactl_base.specs.declared.refusal.Kind.TheVariants as kinds
use Rattle.dactl_base.specs.declared.refusal.Place.{Place}
use Rattle.dactl_base.specs.declared.refusal.Refusal.{Refusal}
use Rattle.dactl_model.specs.declared.program.Class.{Class}
use Rattle.dactl_meaning.specs.declared.tree.Item.{Item}
use Rattle.dactl_meaning.specs.declared.tree.Item.TheVariants as item
use Rattle.dactl_meaning.specs.declared.tree.Text.{Text}
use Rattle.dactl_meaning.specs.Declarations.{Placed, items, rules, own_names, all_names}
use Rattle.dactl_meaning.specs.Sight.{Import, imports, imported}
use Rattle.dactl_meaning.specs.ScopeFaults.{UnknownModule, PublicTooStrong, HasTooStrong, is_too_strong, NoInitial, TwoInitials, initials, most_names, most_rules}
use Rattle.dactl_symbols.specs.Least.{least_by, TellsLeast}
use Rattle.dactl_symbols.specs.Finds.{byte_of, item_strong, strong_bytes}
use Rattle.dactl_symbols.specs.Counting.{fault_at, import_fault, initial_fault, name_beyond, rule_beyond}
use Rattle.dactl_symbols.proofs.Sooner.{tells-same, Any-nil, Any-cons, Any-uncons}
use Rattle.dactl_symbols.proofs.Single.{Of, nothing-contained, only-contained, tells-single, tells-kind, tells-listed}
use Rattle.dactl_symbols.proofs.Found.{place_of}
use Rattle.dactl_symbols.proofs.Imported.{imported-all}

-- ---- imports

abbrev Fails : Text → Import → ℕ → Type 0
Fails text i p = (p ≡ i.name.place.byte) × IsNone (imported text i)

import_told : (text : Text) (i : Import) → TellsLeast (Of kinds.UnknownModule (Fails text i)) (import_fault (all_names text) i)
import_told text i = subst (λ o. TellsLeast (Of kinds.UnknownModule (Fails text i)) (cond (is_none o) (fault_at kinds.UnknownModule i.name.place) None)) (sym (imported-all text i)) (by (imported text i) refl)
  where
    by : (o : Option _) → imported text i ≡ o → TellsLeast (Of kinds.UnknownModule (Fails text i)) (cond (is_none o) (fault_at kinds.UnknownModule i.name.place) None)
    by None e = tells-single (Of kinds.UnknownModule (Fails text i)) (record { kind = kinds.UnknownModule; place = i.name.place }) (refl, (refl, ap is_some e)) (λ other h. (h.0, h.1.0))
    by (Some home) e = λ r h. true≢false (sym (ap is_some e) ∙ h.1.1)

pub tells-imports : (text : Text) → TellsLeast (Of kinds.UnknownModule (UnknownModule text)) (least_by (import_fault (all_names text)) (imports text))
tells-imports text = tells-kind kinds.UnknownModule (Fails text) (import_fault (all_names text)) (import_told text) (imports text)

-- ---- public classes

strong_if : (class : Class) (public : Class × Place) (p : ℕ) → Contains (strong_bytes class (Some public)) p → (p ≡ public.1.byte) × (is_too_strong class public.0 ≡ true)
strong_if class public p h = by (is_too_strong class public.0) refl h
  where
    by : (b : Bool) → is_too_strong class public.0 ≡ b → Contains (cond b (public.1.byte ∷ []) []) p → (p ≡ public.1.byte) × (b ≡ true)
    by true e h = (only-contained public.1.byte p h, refl)
    by false e h = absurd (nothing-contained p h)

has_strong : (i : Item) (p : ℕ) → Contains (item_strong i) p → HasTooStrong i p
has_strong (item.Imports names) p h = nothing-contained p h
has_strong (item.Symbols class None names) p h = nothing-contained p h
has_strong (item.Symbols class (Some public) names) p h = strong_if class public p h
has_strong (item.Named public name pattern) p h = nothing-contained p h
has_strong (item.Rules groups) p h = nothing-contained p h
has_strong (item.Initial place terms) p h = nothing-contained p h

strong_has : (i : Item) (p : ℕ) → HasTooStrong i p → Contains (item_strong i) p
strong_has (item.Imports names) p h = absurd h
strong_has (item.Symbols class None names) p h = absurd h
strong_has (item.Symbols class (Some public) names) p h = let low : 0 < length (public.1.byte ∷ []) = omega arith in rw h.1 (0, low, sym h.0)
strong_has (item.Named public name pattern) p h = absurd h
strong_has (item.Rules groups) p h = absurd h
strong_has (item.Initial place terms) p h = absurd h

strong_item : (is : List Placed) (p : ℕ) → Contains (flat_map (λ i. item_strong i.item) is) p → Any (λ i. HasTooStrong i.item p) is
strong_item [] p h = absurd (nothing-contained p h)
strong_item (i ∷ is) p h = elim (Contains-append_cases (item_strong i.item) (flat_map (λ j. item_strong j.item) is) p h) [
  | inl here ↦ Any-cons (λ j. HasTooStrong j.item p) i is (inl (has_strong i.item p here))
  | inr there ↦ Any-cons (λ j. HasTooStrong j.item p) i is (inr (strong_item is p there))
]

item_strong-listed : (is : List Placed) (p : ℕ) → Any (λ i. HasTooStrong i.item p) is → Contains (flat_map (λ i. item_strong i.item) is) p
item_strong-listed [] p h = absurd (Any-nil (λ i. HasTooStrong i.item p) h)
item_strong-listed (i ∷ is) p h = elim (Any-uncons (λ j. HasTooStrong j.item p) i is h) [
  | inl here ↦ Contains-append_left (item_strong i.item) (flat_map (λ j. item_strong j.item) is) p (strong_has i.item p here)
  | inr there ↦ Contains-append_right (item_strong i.item) (flat_map (λ j. item_strong j.item) is) p (item_strong-listed is p there)
]

pub tells-strong : (text : Text) (places : List Place) → map byte_of places ≡ flat_map (λ i. item_strong i.item) (items text) → TellsLeast (Of kinds.PublicTooStrong (PublicTooStrong text)) (least_by (λ q. fault_at kinds.PublicTooStrong q) places)
tells-strong text places same =
    tells-same (Of kinds.PublicTooStrong (Contains (map byte_of places))) (Of kinds.PublicTooStrong (PublicTooStrong text)) (least_by (λ q. fault_at kinds.PublicTooStrong q) places)
    (λ r h. (h.0, strong_item (items text) r.place.byte (subst (λ l. Contains l r.place.byte) same h.1)))
    (λ r h. (h.0, subst (λ l. Contains l r.place.byte) (sym same) (item_strong-listed (items text) r.place.byte h.1)))
    (tells-listed kinds.PublicTooStrong places)

-- ---- INITIAL

-- a text has no INITIAL, or more than one
abbrev pub InitialFault : Text → Refusal → Type 0
InitialFault text r = Of kinds.NoInitial (NoInitial text) r ⊎ Of kinds.TwoInitials (TwoInitials text) r

pub tells-initial : (text : Text) (places : List Place) → map byte_of places ≡ initials text → TellsLeast (InitialFault text) (initial_fault places text.length)
tells-initial text [] same =
    tells-single (InitialFault text) (record { kind = kinds.NoInitial; place = record { byte = text.length } }) (inl (refl, (refl, sym same)))
    (λ other h. elim h [
      | inl none ↦ (none.0, none.1.0)
      | inr two ↦ absurd (nothing-contained other.place.byte (subst (λ (l : List ℕ). Contains (drop 1 l) other.place.byte) (sym same) two.1))
    ])
tells-initial text (first ∷ later) same =
    tells-same (Of kinds.TwoInitials (Contains (map byte_of later))) (InitialFault text) (least_by (λ q. fault_at kinds.TwoInitials q) later)
    (λ r h. inr (h.0, subst (λ (l : List ℕ). Contains (drop 1 l) r.place.byte) same h.1))
    (λ r h. elim h [
      | inl none ↦ absurd (not_empty none.1.1)
      | inr two ↦ (two.0, subst (λ (l : List ℕ). Contains (drop 1 l) r.place.byte) (sym same) two.1)
    ])
    (tells-listed kinds.TwoInitials later)
  where
    not_empty : initials text ≡ [] → ⊥
    not_empty e = let both : map byte_of (first ∷ later) ≡ [] = same ∙ e in cc

-- ---- counts

abbrev pub NamesBeyond : Text → ℕ → Type 0
NamesBeyond text p = IsSomeAnd (slice_get (own_names text) most_names) (λ d. p ≡ d.name.place.byte)

abbrev pub RulesBeyond : Text → ℕ → Type 0
RulesBeyond text p = IsSomeAnd (slice_get (rules text) most_rules) (λ r. p ≡ r.rule.place.byte)

-- the place of what an option holds
beyond : {X : Type 0} (place : X → ℕ) (o : Option X) → TellsLeast (Of kinds.TooMany (λ p. IsSomeAnd o (λ x. p ≡ place x))) (option_map (λ x. record { kind = kinds.TooMany; place = record { byte = place x } }) o)
beyond place None = λ r h. h.1
beyond place (Some x) = tells-single (Of kinds.TooMany (λ p. p ≡ place x)) (record { kind = kinds.TooMany; place = record { byte = place x } }) (refl, refl) (λ other h. h)

pub tells-names : (text : Text) → TellsLeast (Of kinds.TooMany (NamesBeyond text)) (name_beyond (all_names text))
tells-names text =
    let skip : slice_get (all_names text) (8 + most_names) ≡ slice_get (own_names text) most_names = refl in
    subst (λ o. TellsLeast (Of kinds.TooMany (NamesBeyond text)) (option_map (λ d. record { kind = kinds.TooMany; place = d.name.place }) o)) (sym skip) (beyond (λ d. d.name.place.byte) (slice_get (own_names text) most_names))

pub tells-rules : (text : Text) (places : List Place) → map byte_of places ≡ map place_of (rules text) → TellsLeast (Of kinds.TooMany (RulesBeyond text)) (rule_beyond places)
tells-rules text places same =
    let at : option_map byte_of (slice_get places most_rules) ≡ option_map place_of (slice_get (rules text) most_rules) = sym (slice_get-map byte_of places most_rules) ∙ ap (λ l. slice_get l most_rules) same ∙ slice_get-map place_of (rules text) most_rules in
    by (slice_get places most_rules) (slice_get (rules text) most_rules) at
  where
    by : (o : Option Place) (q : Option _) → option_map byte_of o ≡ option_map place_of q → TellsLeast (Of kinds.TooMany (λ p. IsSomeAnd q (λ r. p ≡ place_of r))) (option_map (λ p. record { kind = kinds.TooMany; place = p }) o)
    by None None e = λ r h. h.1
    by None (Some x) e = absurd (none_some e)
      where
        none_some : None ≡ Some (place_of x) → ⊥
        none_some e = cc
    by (Some y) None e = absurd (some_none e)
      where
        some_none : Some (byte_of y) ≡ None → ⊥
        some_none e = cc
    by (Some y) (Some x) e = let same_place : byte_of y ≡ place_of x = cc in tells-single (Of kinds.TooMany (λ p. p ≡ place_of x)) (record { kind = kinds.TooMany; place = y }) (refl, same_place) (λ other h. (h.0, h.1 ∙ sym same_place))
