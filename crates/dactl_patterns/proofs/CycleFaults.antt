-- The faults of named patterns that reach themselves, as they are found.
use Rattle.std.proofs.Common.{◌≡◌, ℕ, ◌+◌, ◌<◌, ◌⊎◌, inl, inr, List, [], ◌∷◌, ◌++◌, length, take, get_or, Option, sym, ap, subst}
use Rattle.std.specs.Prelude.{Any}
use Rattle.std.proofs.lemmas.List.{take_more}
use Rattle.dactl_base.specs.declared.refusal.Place.{Place}
use Rattle.dactl_base.specs.declared.refusal.Kind.TheVariants as kinds
use Rattle.dactl_base.specs.declared.refusal.Refusal.{Refusal}
use Rattle.dactl_meaning.specs.declared.tree.Item.{Item}
use Rattle.dactl_meaning.specs.declared.tree.Item.TheVariants as item
use Rattle.dactl_meaning.specs.declared.tree.Text.{Text}
use Rattle.dactl_meaning.specs.Declarations.{items}
use Rattle.dactl_meaning.specs.Meaning.{NamedPattern, IsCycleAt, CycleFault}
use Rattle.dactl_symbols.specs.Least.{sooner, TellsLeast}
use Rattle.dactl_symbols.proofs.Sooner.{Any-nil, tells-same, tells-sooner}
use Rattle.dactl_patterns.specs.declared.declarations.Declared.{Declared}
use Rattle.dactl_patterns.specs.Cycles.{declared_at, declared, all_declared, DeclaredCycle, SomeCycle}
use Rattle.dactl_patterns.proofs.Somewhere.{any_split, any_join, any_one, one_any, any_given, given_any}

-- ---- one named pattern after the other

pub one_more : (text : Text) (patterns : List Declared) (i : ℕ) (d : Declared) (so_far here : Option Refusal) → i < length patterns → TellsLeast (SomeCycle text (take i patterns)) so_far → TellsLeast (DeclaredCycle text (get_or patterns i d)) here → TellsLeast (SomeCycle text (take (i + 1) patterns)) (sooner so_far here)
one_more text patterns i d so_far here below before now =
    let x = get_or patterns i d in
    let front = take i patterns in
    subst (λ (l : List Declared). TellsLeast (SomeCycle text l) (sooner so_far here)) (sym (take_more patterns i d below))
    (tells-same (λ r. SomeCycle text front r ⊎ DeclaredCycle text x r) (SomeCycle text (front ++ x ∷ [])) (sooner so_far here)
    (λ r h. any_join (of r) front (x ∷ []) (elim h [ inl before ↦ inl before | inr this ↦ inr (one_any (of r) x this) ]))
    (λ r h. elim (any_split (of r) front (x ∷ []) h) [ inl before ↦ inl before | inr this ↦ inr (any_one (of r) x this) ])
    (tells-sooner (SomeCycle text front) (DeclaredCycle text x) so_far here before now))
  where
    of : Refusal → Declared → Type 0
    of r p = DeclaredCycle text p r

-- ---- the faults of the text

module _ (text : Text) (r : Refusal) where
  abbrev Found : Declared → Type 0
  Found p = DeclaredCycle text p r

  -- a placed item has the fault
  abbrev Has : NamedPattern → Item → Type 0
  Has a i = (r.kind ≡ kinds.PatternCycle) × IsCycleAt text a i r.place.byte

  one_fault : (place : Place) → r.kind ≡ kinds.PatternCycle → r.place.byte ≡ place.byte → r ≡ record { kind = kinds.PatternCycle; place = place }
  one_fault place kind byte = λ j. record { kind = kind j; place = record { byte = byte j } }

  from_item : (a : NamedPattern) (i : Item) → Any Found (declared_at a i) → Has a i
  from_item a (item.Named public name pattern) any =
      let this = any_one Found (record { pattern = a; place = name.place }) any in
      (ap (λ (z : Refusal). z.kind) this.0, (ap (λ (z : Refusal). z.place.byte) this.0, this.1))
  from_item a _ any = absurd (Any-nil Found any)

  to_item : (a : NamedPattern) (i : Item) → Has a i → Any Found (declared_at a i)
  to_item a (item.Named public name pattern) has = one_any Found (record { pattern = a; place = name.place }) (one_fault name.place has.0 has.1.0, has.1.1)
  to_item a _ has = absurd has.1

  found_fault : SomeCycle text (all_declared text) r → CycleFault text r
  found_fault some =
      let any = any_given Found declared (items text) some in
      let has = from_item (any.1.owner, any.1.number) any.1.item any.4 in
      (has.0, (any.0, any.1, any.2, any.3, has.1))

  fault_found : CycleFault text r → SomeCycle text (all_declared text) r
  fault_found fault =
      let any = fault.1 in
      given_any Found declared (items text) (any.0, any.1, any.2, any.3, to_item (any.1.owner, any.1.number) any.1.item (fault.0, any.4))

-- what is told of the named patterns of a text is told of the text
pub text_told : (text : Text) (o : Option Refusal) → TellsLeast (SomeCycle text (all_declared text)) o → TellsLeast (CycleFault text) o
text_told text o told = tells-same (SomeCycle text (all_declared text)) (CycleFault text) o (found_fault text) (fault_found text) told
