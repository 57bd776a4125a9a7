-- The faults of the names that a text uses.
use Rattle.std.proofs.Common.{◌≡◌, ℕ, ◌<◌, Bool, true, false, cond, not, if◌then◌else◌, ◌⊎◌, inl, inr, List, map, Option, Some, None, refl, sym, ap, ◌∙◌, subst, true≢false, arith}
use Rattle.std.specs.Prelude.{Any, IsNone, is_none, is_some, option_map, option_and_then}
use Rattle.std.specs.List.{flat_map, enumerate_from}
use Rattle.dactl_base.specs.declared.refusal.Kind.TheVariants as kinds
use Rattle.dactl_base.specs.declared.refusal.Refusal.{Refusal}
use Rattle.dactl_meaning.specs.declared.tree.Item.{Item}
use Rattle.dactl_meaning.specs.declared.tree.Module.{Module}
use Rattle.dactl_meaning.specs.declared.tree.Text.{Text}
use Rattle.dactl_meaning.specs.Faults.{phase, rank, Precedes}
use Rattle.dactl_meaning.specs.Declarations.{Placed, Declaration, Entity, AsModule, AsSymbol, AsPattern, items, items_of, all_names, meaning}
use Rattle.dactl_meaning.specs.Sight.{sees}
use Rattle.dactl_meaning.specs.Uses.{Use, item_uses, uses}
use Rattle.dactl_meaning.specs.ScopeFaults.{IsUnknown, UnknownName, NotVisible, is_usable, is_pattern}
use Rattle.dactl_symbols.specs.Least.{least_by, TellsLeast}
use Rattle.dactl_symbols.specs.Sights.{Sights}
use Rattle.dactl_meaning.specs.Sight as sight
use Rattle.dactl_symbols.specs.declared.names.Meaning.{Meaning}
use Rattle.dactl_symbols.specs.declared.sight.Seen.{Seen}
use Rattle.dactl_symbols.specs.Declaring.{entity_of}
use Rattle.dactl_symbols.specs.Meanings.{First, meaning_of, meaning_in}
use Rattle.dactl_symbols.specs.Scoping.{told, first_seen, seen_in}
use Rattle.dactl_symbols.specs.UseFaults.{is_known, is_known_entity, is_known_first, use_fault}
use Rattle.dactl_symbols.proofs.Sooner.{tells-same, tells-least_by, least_by-flat_map, least_by-map}
use Rattle.dactl_symbols.proofs.Single.{Of, not_before}
use Rattle.dactl_symbols.proofs.Walks.{least_by-same, least_by-numbered}

-- ---- by modules

-- the uses of all modules are those of each, one after the other
pub uses-by_modules : (s : Sights) (text : Text) → least_by (λ (u : ℕ × Use). use_fault s u.0 u.1) (uses text) ≡ least_by (λ (m : ℕ × Module). least_by (use_fault s m.0) (flat_map item_uses m.1.items)) (enumerate_from 0 text.modules)
uses-by_modules s text =
    let fault : ℕ × Use → Option Refusal = λ u. use_fault s u.0 u.1 in
    least_by-flat_map fault (λ (i : Placed). map (λ u. (i.owner, u)) (item_uses i.item)) (items text)
    ∙ least_by-same (λ (i : Placed). least_by fault (map (λ u. (i.owner, u)) (item_uses i.item))) (λ (i : Placed). least_by (use_fault s i.owner) (item_uses i.item)) (λ i. least_by-map fault (λ u. (i.owner, u)) (item_uses i.item)) (items text)
    ∙ least_by-flat_map (λ (i : Placed). least_by (use_fault s i.owner) (item_uses i.item)) items_of (enumerate_from 0 text.modules)
    ∙ least_by-same (λ (m : ℕ × Module). least_by (λ (i : Placed). least_by (use_fault s i.owner) (item_uses i.item)) (items_of m)) (λ (m : ℕ × Module). least_by (use_fault s m.0) (flat_map item_uses m.1.items))
    (λ m.
    least_by-map (λ (i : Placed). least_by (use_fault s i.owner) (item_uses i.item)) (λ (i : ℕ × Item). record { owner = m.0; number = i.0; item = i.1 }) (enumerate_from 0 m.1.items)
    ∙ least_by-numbered (λ i. least_by (use_fault s m.0) (item_uses i)) 0 m.1.items
    ∙ sym (least_by-flat_map (use_fault s m.0) item_uses m.1.items))
    (enumerate_from 0 text.modules)

-- ---- one use

-- a use of a name has a fault
pub record UseHas (text : Text) (u : ℕ × Use) (r : Refusal) : Type 0 where
  pub at : r.place.byte ≡ u.1.name.place.byte
  pub why : ((r.kind ≡ kinds.UnknownName) × IsUnknown text u.1) ⊎ ((r.kind ≡ kinds.NotVisible) × (is_usable (meaning text u.1.name.text) ≡ true) × IsNone (sees text u.0 u.1.name.text))

-- what a name is, as a use has to know it
abbrev usable_entity : Entity → Bool
usable_entity e = elim e [ AsModule ↦ false | AsSymbol class public ↦ true | AsPattern public m i ↦ true ]

abbrev pattern_entity : Entity → Bool
pattern_entity e = elim e [ AsModule ↦ false | AsSymbol class public ↦ false | AsPattern public m i ↦ true ]

unknown_entity : (e : Entity) (given : Bool) → is_known_entity e given ≡ false → (usable_entity e ≡ false) ⊎ ((given ≡ true) × (pattern_entity e ≡ true))
unknown_entity AsModule given h = inl refl
unknown_entity (AsSymbol class public) given h = absurd (true≢false h)
unknown_entity (AsPattern public m i) true h = inr (refl, refl)
unknown_entity (AsPattern public m i) false h = absurd (true≢false h)

known_entity : (e : Entity) (given : Bool) → is_known_entity e given ≡ true → (usable_entity e ≡ true) × ((usable_entity e ≡ false) ⊎ ((given ≡ true) × (pattern_entity e ≡ true)) → ⊥)
known_entity AsModule given h = absurd (true≢false (sym h))
known_entity (AsSymbol class public) given h = (refl, λ w. elim w [ inl e ↦ true≢false e | inr e ↦ true≢false (sym e.1) ])
known_entity (AsPattern public m i) true h = absurd (true≢false (sym h))
known_entity (AsPattern public m i) false h = (refl, λ w. elim w [ inl e ↦ true≢false e | inr e ↦ true≢false (sym e.0) ])

unknown : (o : Option Declaration) (number : Declaration → ℕ) (given : Bool) → is_known_first (option_map (λ d. record { home = d.home; entity = d.entity; number = number d }) o) given ≡ false → (is_usable o ≡ false) ⊎ ((given ≡ true) × (is_pattern o ≡ true))
unknown None number given h = inl refl
unknown (Some d) number given h = unknown_entity d.entity given h

known : (o : Option Declaration) (number : Declaration → ℕ) (given : Bool) → is_known_first (option_map (λ d. record { home = d.home; entity = d.entity; number = number d }) o) given ≡ true → (is_usable o ≡ true) × ((is_usable o ≡ false) ⊎ ((given ≡ true) × (is_pattern o ≡ true)) → ⊥)
known None number given h = absurd (true≢false (sym h))
known (Some d) number given h = known_entity d.entity given h

-- the later of two kinds at one place
hidden_later : (a b : Refusal) → a.kind ≡ kinds.NotVisible → b.kind ≡ kinds.UnknownName → a.place.byte ≡ b.place.byte → ¬ Precedes a b
hidden_later a b is_a is_b place (inl less) = let x : phase a.kind ≡ 3 = ap phase is_a in let y : phase b.kind ≡ 3 = ap phase is_b in omega arith
hidden_later a b is_a is_b place (inr (e, inl less)) = omega arith
hidden_later a b is_a is_b place (inr (e, inr less)) = let x : rank a.kind ≡ 7 = ap rank is_a in let y : rank b.kind ≡ 6 = ap rank is_b in let low : rank a.kind < rank b.kind = less.1 in omega arith

told_use : (text : Text) (u : ℕ × Use) (k : Bool) → (k ≡ false → IsUnknown text u.1) → (k ≡ true → (is_usable (meaning text u.1.name.text) ≡ true) × (IsUnknown text u.1 → ⊥))
    → (o : Bool) → is_some (sees text u.0 u.1.name.text) ≡ o
    → TellsLeast (UseHas text u) (cond (not k) (Some (record { kind = kinds.UnknownName; place = u.1.name.place })) (cond (not o) (Some (record { kind = kinds.NotVisible; place = u.1.name.place })) None))
told_use text u false un kn o e = record {
  holds = record { at = refl; why = inl (refl, un refl) };
  least = λ other h. elim h.why [
    | inl x ↦ not_before other (record { kind = kinds.UnknownName; place = u.1.name.place }) x.0 h.at
    | inr y ↦ hidden_later other (record { kind = kinds.UnknownName; place = u.1.name.place }) y.0 refl h.at
  ];
}
told_use text u true un kn false e = record {
  holds = record { at = refl; why = inr (refl, (kn refl).0, e) };
  least = λ other h. elim h.why [
    | inl x ↦ absurd ((kn refl).1 x.1)
    | inr y ↦ not_before other (record { kind = kinds.NotVisible; place = u.1.name.place }) y.0 h.at
  ];
}
told_use text u true un kn true e = λ r h. elim h.why [ inl x ↦ (kn refl).1 x.1 | inr y ↦ true≢false (sym e ∙ y.2) ]

-- ---- all uses

-- the scopes hold the text's names, and see something where the text's modules do
pub record Sees (text : Text) (s : Sights) : Type 0 where
  pub names : s.names ≡ all_names text
  pub seen : (m : ℕ) (word : List ℕ) → is_some (seen_in s m word) ≡ is_some (sees text m word)

use_told : (text : Text) (s : Sights) → Sees text s → (u : ℕ × Use) → TellsLeast (UseHas text u) (use_fault s u.0 u.1)
use_told text s right u =
    let word : List ℕ = u.1.name.text in
    let k : Bool = is_known (all_names text) u.1 in
    let told = told_use text u k (unknown (meaning text word) _ u.1.given) (known (meaning text word) _ u.1.given) (is_some (sees text u.0 word)) refl in
    subst (λ o. TellsLeast (UseHas text u) o)
    (λ j. cond (not (is_known (sym right.names j) u.1)) (Some (record { kind = kinds.UnknownName; place = u.1.name.place })) (cond (not (sym (right.seen u.0 word) j)) (Some (record { kind = kinds.NotVisible; place = u.1.name.place })) None))
    told

-- a use is unknown, or not visible
abbrev pub UseFault : Text → Refusal → Type 0
UseFault text r = Of kinds.UnknownName (UnknownName text) r ⊎ Of kinds.NotVisible (NotVisible text) r

pub tells-uses : (text : Text) (s : Sights) → Sees text s → TellsLeast (UseFault text) (least_by (λ (u : ℕ × Use). use_fault s u.0 u.1) (uses text))
tells-uses text s right =
    tells-same (λ r. Any (λ u. UseHas text u r) (uses text)) (UseFault text) (least_by (λ (u : ℕ × Use). use_fault s u.0 u.1) (uses text))
    (λ r h. elim h.4.why [
      | inl x ↦ inl (x.0, (h.0, h.1, h.2, h.3, (h.4.at, x.1)))
      | inr y ↦ inr (y.0, (h.0, h.1, h.2, h.3, (h.4.at, y.1, y.2)))
    ])
    (λ r h. elim h [
      | inl x ↦ (x.1.0, x.1.1, x.1.2, x.1.3, record { at = x.1.4.0; why = inl (x.0, x.1.4.1) })
      | inr y ↦ (y.1.0, y.1.1, y.1.2, y.1.3, record { at = y.1.4.0; why = inr (y.0, y.1.4.1, y.1.4.2) })
    ])
    (tells-least_by (UseHas text) (λ (u : ℕ × Use). use_fault s u.0 u.1) (use_told text s right) (uses text))

-- ---- a name that means something

-- the fault of a use, by whether it is known and whether nothing is seen
abbrev told_by : Use → Bool → Bool → Option Refusal
told_by u known none = if not known then Some (record { kind = kinds.UnknownName; place = u.name.place }) else if none then Some (record { kind = kinds.NotVisible; place = u.name.place }) else None

-- the same, by what its name means
fault_by : Sights → ℕ → Use → Option First → Option Refusal
fault_by s m u o = told_by u (is_known_first o u.given) (is_none (option_and_then (first_seen s m) o))

use_fault-by : (s : Sights) (m : ℕ) (u : Use) (o : Option First) → o ≡ meaning_in s.names u.name.text → fault_by s m u o ≡ use_fault s m u
unfolding fault_by seen_in
use_fault-by s m u o is = ap (fault_by s m u) is

none_told : (o : Option Seen) (seen : Option sight.Seen) → option_map told o ≡ seen → is_none o ≡ is_none seen
none_told None seen e = ap (λ (z : Option sight.Seen). is_none z) e
none_told (Some x) seen e = ap (λ (z : Option sight.Seen). is_none z) e

-- the fault of a name that may be used, by whether it is seen
pub use_fault-known : (s : Sights) (m : ℕ) (u : Use) (f : Meaning) (o : Option Seen) → Some (meaning_of f) ≡ meaning_in s.names u.name.text → is_known_entity (entity_of f.entity) u.given ≡ true → option_map told o ≡ first_seen s m (meaning_of f)
    → told_by u true (is_none o) ≡ use_fault s m u
unfolding fault_by
use_fault-known s m u f o means known sees =
    (λ j. told_by u (sym known j) (none_told o (first_seen s m (meaning_of f)) sees j)) ∙ use_fault-by s m u (Some (meaning_of f)) means

pub hidden_or_none : (o : Option Seen) (u : Use) (is : Bool) → is_some o ≡ is → (if is then None else Some (record { kind = kinds.NotVisible; place = u.name.place })) ≡ told_by u true (is_none o)
hidden_or_none None u true e = absurd (true≢false (sym e))
hidden_or_none None u false e = refl
hidden_or_none (Some x) u true e = refl
hidden_or_none (Some x) u false e = absurd (true≢false e)
