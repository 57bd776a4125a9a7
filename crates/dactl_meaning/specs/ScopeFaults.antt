-- The faults of a text in its names, classes and counts: each kind, and the places where it holds.
use Rattle.std.specs.Prelude.{◌≡◌, ℕ, Bool, true, false, ◌⊎◌, List, [], ◌∷◌, ◌++◌, drop, Any, Contains, slice_get, Option, Some, None, IsNone, IsSomeAnd}
use Rattle.std.specs.List.{flat_map}
use Rattle.dactl_base.specs.declared.refusal.Kind.{Kind}
use Rattle.dactl_base.specs.declared.refusal.Kind.TheVariants as kinds
use Rattle.dactl_base.specs.declared.refusal.Refusal.{Refusal}
use Rattle.dactl_model.specs.declared.program.Class.{Class}
use Rattle.dactl_model.specs.declared.program.Class.TheVariants as classes
use Rattle.dactl_meaning.specs.declared.tree.Item.{Item}
use Rattle.dactl_meaning.specs.declared.tree.Item.TheVariants as item
use Rattle.dactl_meaning.specs.declared.tree.Text.{Text}
use Rattle.dactl_meaning.specs.Declarations.{AsModule, AsSymbol, AsPattern, Declaration, items, rules, own_names, all_names, meaning}
use Rattle.dactl_meaning.specs.Sight.{imports, imported, sees}
use Rattle.dactl_meaning.specs.Uses.{Use, uses}

-- how many names a text may declare, and how many rules it may have
abbrev pub most_names : ℕ
most_names = 16384

abbrev pub most_rules : ℕ
most_rules = 4096

-- a name is declared that is declared before, be it by the text or before it
pub record TwiceDeclared (text : Text) (place : ℕ) : Type 0 where
  pub earlier : List Declaration
  pub again : Declaration
  pub later : List Declaration
  pub order : all_names text ≡ earlier ++ again ∷ later
  pub at : place ≡ again.name.place.byte
  pub before : Any (λ d. d.name.text ≡ again.name.text) earlier

-- an import names neither an earlier module nor Arithmetic
abbrev pub UnknownModule : Text → ℕ → Type 0
UnknownModule text place = Any (λ i. (place ≡ i.name.place.byte) × IsNone (imported text i)) (imports text)

-- the meaning of a name is a symbol or a pattern
abbrev pub is_usable : Option Declaration → Bool
is_usable None = false
is_usable (Some d) = elim d.entity [ AsModule ↦ false | AsSymbol class public ↦ true | AsPattern public m i ↦ true ]

-- the meaning of a name is a pattern
abbrev pub is_pattern : Option Declaration → Bool
is_pattern None = false
is_pattern (Some d) = elim d.entity [ AsModule ↦ false | AsSymbol class public ↦ false | AsPattern public m i ↦ true ]

-- a name is used that is neither a symbol nor a pattern, or a named pattern is given arguments
abbrev pub IsUnknown : Text → Use → Type 0
IsUnknown text u = (is_usable (meaning text u.name.text) ≡ false) ⊎ ((u.given ≡ true) × (is_pattern (meaning text u.name.text) ≡ true))

abbrev pub UnknownName : Text → ℕ → Type 0
UnknownName text place = Any (λ u. (place ≡ u.1.name.place.byte) × IsUnknown text u.1) (uses text)

-- a symbol or pattern is used that the module doesn't see
abbrev pub NotVisible : Text → ℕ → Type 0
NotVisible text place = Any (λ u. (place ≡ u.1.name.place.byte) × (is_usable (meaning text u.1.name.text) ≡ true) × IsNone (sees text u.0 u.1.name.text)) (uses text)

-- a public class that a symbol of the first class may not have: rewritable, or overwritable where the symbol isn't
abbrev pub is_too_strong : Class → Class → Bool
is_too_strong class classes.Rewritable = true
is_too_strong classes.Rewritable classes.Overwritable = true
is_too_strong classes.Overwritable classes.Overwritable = false
is_too_strong classes.Creatable classes.Overwritable = true
is_too_strong class classes.Creatable = false

-- the item gives its symbols a public class that is too strong
abbrev pub HasTooStrong : Item → ℕ → Type 0
HasTooStrong (item.Symbols class (Some public) names) place = (place ≡ public.1.byte) × (is_too_strong class public.0 ≡ true)
HasTooStrong _ place = ⊥

abbrev pub PublicTooStrong : Text → ℕ → Type 0
PublicTooStrong text place = Any (λ i. HasTooStrong i.item place) (items text)

-- where an item's INITIAL stands
abbrev pub item_initials : Item → List ℕ
item_initials (item.Initial place terms) = place.byte ∷ []
item_initials _ = []

-- the places of all INITIAL, in text order
abbrev pub initials : Text → List ℕ
initials text = flat_map (λ i. item_initials i.item) (items text)

-- the text has no INITIAL
abbrev pub NoInitial : Text → ℕ → Type 0
NoInitial text place = (place ≡ text.length) × (initials text ≡ [])

-- an INITIAL follows an earlier one
abbrev pub TwoInitials : Text → ℕ → Type 0
TwoInitials text place = Contains (drop 1 (initials text)) place

-- the first name that is one too many, or the first rule
abbrev pub TooMany : Text → ℕ → Type 0
TooMany text place =
    IsSomeAnd (slice_get (own_names text) most_names) (λ d. place ≡ d.name.place.byte)
    ⊎ IsSomeAnd (slice_get (rules text) most_rules) (λ r. place ≡ r.rule.place.byte)

-- a fault of the kind holds at the place
abbrev pub HasScopeFault : Text → Kind → ℕ → Type 0
HasScopeFault text kinds.TwiceDeclared place = TwiceDeclared text place
HasScopeFault text kinds.UnknownModule place = UnknownModule text place
HasScopeFault text kinds.UnknownName place = UnknownName text place
HasScopeFault text kinds.NotVisible place = NotVisible text place
HasScopeFault text kinds.PublicTooStrong place = PublicTooStrong text place
HasScopeFault text kinds.NoInitial place = NoInitial text place
HasScopeFault text kinds.TwoInitials place = TwoInitials text place
HasScopeFault text kinds.TooMany place = TooMany text place
HasScopeFault text _ place = ⊥

-- the faults of a text that its scope tells
abbrev pub ScopeFault : Text → Refusal → Type 0
ScopeFault text r = HasScopeFault text r.kind r.place.byte
