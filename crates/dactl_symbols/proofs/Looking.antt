-- What scopes answer, from what they hold.
use Rattle.std.proofs.Common.{◌≡◌, ℕ, Bool, true, false, List, map, Option, Some, None, refl, sym, ap, ◌∙◌}
use Rattle.std.specs.Prelude.{option_map, option_and_then, slice_get}
use Rattle.std.specs.List.{filter_map}
use Rattle.std.proofs.lemmas.Option.{slice_get-map}
use Rattle.dactl_model.specs.declared.program.Class.{Class}
use Rattle.dactl_meaning.specs.Declarations.{Written, AsModule, AsSymbol, AsPattern, Entity, same_home}
use Rattle.dactl_meaning.specs.Sight as sight
use Rattle.dactl_meaning.specs.Sight.{entity_seen, class_seen}
use Rattle.dactl_symbols.specs.declared.names.Meaning.{Meaning}
use Rattle.dactl_symbols.specs.declared.sight.Owned.{Owned}
use Rattle.dactl_symbols.specs.Declaring.{home_of, entity_of}
use Rattle.dactl_symbols.specs.Meanings.{First, meaning_of, meaning_in}
use Rattle.dactl_symbols.specs.Sights.{Sights, Standing, has_link, owned_of, owned_in}
use Rattle.dactl_symbols.specs.Scoping.{first_seen, seen_in, class_in}

-- what is seen under a name, by what the name means
pub seen-by : (s : Sights) (m : ℕ) (word : List ℕ) (o : Option First) → o ≡ meaning_in s.names word → option_and_then (first_seen s m) o ≡ seen_in s m word
unfolding seen_in
seen-by s m word o is = ap (option_and_then (first_seen s m)) is

-- a module's own names are seen whatever it imports
own-alike : (imported : Bool) (number : ℕ) (e : Entity) → entity_seen true false number e ≡ entity_seen true imported number e
own-alike imported number AsModule = refl
own-alike imported number (AsSymbol class public) = refl
own-alike imported number (AsPattern public m i) = refl

pub seen-own : (s : Sights) (m : ℕ) (f : Meaning) → same_home (home_of f.home) (Written m) ≡ true → entity_seen true false f.number (entity_of f.entity) ≡ first_seen s m (meaning_of f)
seen-own s m f own = own-alike (has_link s.links m (home_of f.home)) f.number (entity_of f.entity) ∙ ap (λ b. entity_seen b (has_link s.links m (home_of f.home)) f.number (entity_of f.entity)) (sym own)

pub seen-other : (s : Sights) (m : ℕ) (f : Meaning) → same_home (home_of f.home) (Written m) ≡ false → (imported : Bool) → imported ≡ has_link s.links m (home_of f.home) → entity_seen false imported f.number (entity_of f.entity) ≡ first_seen s m (meaning_of f)
seen-other s m f own imported is = λ j. entity_seen (sym own j) (is j) f.number (entity_of f.entity)

standing-at : (s : Sights) (n : ℕ) (symbols : List Owned) → map owned_of symbols ≡ filter_map owned_in s.names → option_map owned_of (slice_get symbols n) ≡ slice_get (filter_map owned_in s.names) n
standing-at s n symbols are = sym (slice_get-map owned_of symbols n) ∙ ap (λ l. slice_get l n) are

-- the class that module m sees of what stands so
class_of : Sights → ℕ → Standing → Option Class
class_of s m o = class_seen (same_home o.home (Written m)) (has_link s.links m o.home) o.class o.public

class-by : (s : Sights) (m n : ℕ) (symbols : List Owned) (o : Option Owned) → map owned_of symbols ≡ filter_map owned_in s.names → o ≡ slice_get symbols n → option_and_then (class_of s m) (option_map owned_of o) ≡ class_in s m n
unfolding class_in class_of
class-by s m n symbols o are is = ap (option_and_then (class_of s m)) (ap (option_map owned_of) is ∙ standing-at s n symbols are)

-- a number beyond those of the symbols has no class
pub class-none : (s : Sights) (m n : ℕ) (symbols : List Owned) → map owned_of symbols ≡ filter_map owned_in s.names → None ≡ slice_get symbols n → None ≡ class_in s m n
class-none s m n symbols are none = class-by s m n symbols None are none

pub class-own : (s : Sights) (m n : ℕ) (symbols : List Owned) (o : Owned) → map owned_of symbols ≡ filter_map owned_in s.names → Some o ≡ slice_get symbols n → same_home (home_of o.home) (Written m) ≡ true → Some o.class ≡ class_in s m n
unfolding class_of
class-own s m n symbols o are some own = ap (λ b. class_seen b (has_link s.links m (home_of o.home)) o.class o.public) (sym own) ∙ class-by s m n symbols (Some o) are some

pub class-other : (s : Sights) (m n : ℕ) (symbols : List Owned) (o : Owned) → map owned_of symbols ≡ filter_map owned_in s.names → Some o ≡ slice_get symbols n → same_home (home_of o.home) (Written m) ≡ false → (imported : Bool) → imported ≡ has_link s.links m (home_of o.home) → class_seen false imported o.class o.public ≡ class_in s m n
unfolding class_of
class-other s m n symbols o are some own imported is = (λ j. class_seen (sym own j) (is j) o.class o.public) ∙ class-by s m n symbols (Some o) are some
