-- What scopes answer, and that they are those of a text.
use Rattle.std.specs.Prelude.{◌≡◌, ℕ, List, Option, option_and_then, slice_get}
use Rattle.std.specs.List.{filter_map}
use Rattle.dactl_model.specs.declared.program.Class.{Class}
use Rattle.dactl_model.specs.declared.program.Symbol.{Symbol}
use Rattle.dactl_meaning.specs.declared.tree.Text.{Text}
use Rattle.dactl_meaning.specs.Declarations.{Written, same_home, entity_symbol, symbols}
use Rattle.dactl_meaning.specs.Sight as sight
use Rattle.dactl_meaning.specs.Sight.{SeenSymbol, SeenPattern, entity_seen, class_seen, sees, class_for}
use Rattle.dactl_symbols.specs.declared.sight.Seen.{Seen}
use Rattle.dactl_symbols.specs.declared.sight.Seen.TheVariants as seen
use Rattle.dactl_symbols.specs.Meanings.{First, meaning_in}
use Rattle.dactl_symbols.specs.Sights.{Sights, owned_in, has_link}

-- what is seen, as the definitions of a text's names have it
abbrev pub told : Seen → sight.Seen
told (seen.Symbol id class) = SeenSymbol id class
told (seen.Pattern owner item) = SeenPattern owner item

-- what module m sees of a name that means this
abbrev pub first_seen : Sights → ℕ → First → Option sight.Seen
first_seen s m f = entity_seen (same_home f.home (Written m)) (has_link s.links m f.home) f.number f.entity

-- The next three say what scopes answer by what they hold. That it is right for a text is IsScopesOf.

unfoldable pub seen_in : Sights → ℕ → List ℕ → Option sight.Seen
seen_in s m word = option_and_then (first_seen s m) (meaning_in s.names word)

unfoldable pub class_in : Sights → ℕ → ℕ → Option Class
class_in s m n = option_and_then (λ o. class_seen (same_home o.home (Written m)) (has_link s.links m o.home) o.class o.public) (slice_get (filter_map owned_in s.names) n)

unfoldable pub symbols_in : Sights → List Symbol
symbols_in s = filter_map (λ d. entity_symbol d.name.text d.entity) s.names

-- they are the scopes of the text: they answer what its modules see
pub record IsScopesOf (text : Text) (s : Sights) : Type 0 where
  pub seen : (m : ℕ) (word : List ℕ) → seen_in s m word ≡ sees text m word
  pub class : (m n : ℕ) → class_in s m n ≡ class_for text m n
  pub symbols : symbols_in s ≡ symbols text
