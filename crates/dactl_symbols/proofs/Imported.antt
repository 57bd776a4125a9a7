-- What names mean and what imports give among a text's declarations.
use Rattle.std.proofs.Common.{◌≡◌, Bool, List, Option, Some, None, refl}
use Rattle.std.specs.Prelude.{option_and_then, option_map}
use Rattle.std.specs.List.{list_any}
use Rattle.dactl_meaning.specs.declared.tree.Text.{Text}
use Rattle.dactl_meaning.specs.Declarations.{all_names, meaning}
use Rattle.dactl_meaning.specs.Sight.{Import, home_given, imported}
use Rattle.dactl_symbols.specs.Meanings.{First}
use Rattle.dactl_symbols.specs.Sights.{imported_in}

-- the first part of what a name means
pub then-map : {A B C : Type 0} (f : B → Option C) (g : A → B) (o : Option A) → option_and_then f (option_map g o) ≡ option_and_then (λ a. f (g a)) o
then-map f g None = refl
then-map f g (Some a) = refl

pub imported-all : (text : Text) (i : Import) → imported_in (all_names text) i ≡ imported text i
imported-all text i = then-map (λ (f : First). home_given i.owner f.home f.entity) _ (meaning text i.name.text)

pub list_any-same : {X : Type 0} (p q : X → Bool) → ((x : X) → p x ≡ q x) → (xs : List X) → list_any p xs ≡ list_any q xs
list_any-same p q same xs = λ j. list_any (λ x. same x j) xs
