-- The faults of uses of names, by what scopes hold.
use Rattle.std.specs.Prelude.{ℕ, Bool, true, false, not, List, is_none, if◌then◌else◌, Option, Some, None}
use Rattle.dactl_base.specs.declared.refusal.Refusal.{Refusal}
use Rattle.dactl_base.specs.declared.refusal.Kind.TheVariants as kinds
use Rattle.dactl_meaning.specs.declared.tree.Name.{Name}
use Rattle.dactl_meaning.specs.declared.tree.NodeTree.{NodeTree}
use Rattle.dactl_meaning.specs.declared.tree.ArgTree.{ArgTree}
use Rattle.dactl_meaning.specs.declared.tree.NodeTree.TheFolds.{fold-NodeTree, fold-ArgTree}
use Rattle.dactl_meaning.specs.Declarations.{Declaration, Entity, AsModule, AsSymbol, AsPattern}
use Rattle.dactl_meaning.specs.Uses.{Use, node_uses_level, arg_uses_level, term_uses_level}
use Rattle.dactl_symbols.specs.Meanings.{First, meaning_in}
use Rattle.dactl_symbols.specs.Sights.{Sights}
use Rattle.dactl_symbols.specs.Scoping.{seen_in}

-- the uses in a node, and in an argument
abbrev pub node_uses : NodeTree → List Use
node_uses = fold-NodeTree (List Use) (List Use) (List Use) node_uses_level arg_uses_level term_uses_level

abbrev pub arg_uses : ArgTree → List Use
arg_uses = fold-ArgTree (List Use) (List Use) (List Use) node_uses_level arg_uses_level term_uses_level

abbrev pub use_at : Name → Bool → Use
use_at name given = record { name = name; given = given }

abbrev pub is_known_entity : Entity → Bool → Bool
is_known_entity AsModule given = false
is_known_entity (AsSymbol class public) given = true
is_known_entity (AsPattern public m i) given = not given

abbrev pub is_known_first : Option First → Bool → Bool
is_known_first None given = false
is_known_first (Some f) given = is_known_entity f.entity given

-- the name is a symbol's or a pattern's, and no pattern's where it is given arguments
abbrev pub is_known : List Declaration → Use → Bool
is_known ds u = is_known_first (meaning_in ds u.name.text) u.given

-- the fault of a use in module m
abbrev pub use_fault : Sights → ℕ → Use → Option Refusal
use_fault s m u =
    if not (is_known s.names u) then Some (record { kind = kinds.UnknownName; place = u.name.place })
    else if is_none (seen_in s m u.name.text) then Some (record { kind = kinds.NotVisible; place = u.name.place })
    else None
