-- The items of a text, as the code keeps them.
use Rattle.std.specs.Prelude.{ℕ, List, map}
use Rattle.std.specs.List.{enumerate_from}
use Rattle.dactl_meaning.specs.declared.tree.Item.{Item}
use Rattle.dactl_meaning.specs.Declarations as text
use Rattle.dactl_contractum.specs.declared.listing.Placed.{Placed}

-- the item behind the reference, with its numbers
abbrev pub placed : Placed → text.Placed
placed p = record { owner = p.owner; number = p.number; item = p.item.now }

-- an item with its number, in the module of that number
abbrev pub numbered_in : ℕ → ℕ × Item → text.Placed
numbered_in owner i = record { owner = owner; number = i.0; item = i.1 }

-- the items of a module of that number
abbrev pub placed_in : ℕ → List Item → List text.Placed
placed_in owner items = map (numbered_in owner) (enumerate_from 0 items)
