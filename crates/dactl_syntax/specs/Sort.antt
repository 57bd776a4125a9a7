-- Tests on the sorts of tokens.
use Rattle.std.specs.Prelude.{Bool, true, false}
use Rattle.dactl_terminals.specs.declared.token.Sort.{Sort}
use Rattle.dactl_terminals.specs.declared.token.Sort.TheVariants.{Upper, Lower, Integer, Character, Star, Hash, Wait, Left, Any, Int, Char, Plus, Minus, Rewritable, Overwritable, Creatable, Imports, Symbol, Pattern, Rule, Initial}

abbrev pub starts_mark : Sort → Bool
starts_mark Star = true
starts_mark Hash = true
starts_mark _ = false

abbrev pub starts_node : Sort → Bool
starts_node Integer = true
starts_node Character = true
starts_node Upper = true
starts_node _ = false

abbrev pub starts_body : Sort → Bool
starts_body Lower = true
starts_body Integer = true
starts_body Character = true
starts_body Upper = true
starts_body _ = false

abbrev pub starts_term : Sort → Bool
starts_term Star = true
starts_term Hash = true
starts_term Lower = true
starts_term Integer = true
starts_term Character = true
starts_term Upper = true
starts_term _ = false

abbrev pub starts_arg : Sort → Bool
starts_arg Wait = true
starts_arg Star = true
starts_arg Hash = true
starts_arg Lower = true
starts_arg Integer = true
starts_arg Character = true
starts_arg Upper = true
starts_arg _ = false

abbrev pub starts_base : Sort → Bool
starts_base Any = true
starts_base Int = true
starts_base Char = true
starts_base Integer = true
starts_base Character = true
starts_base Upper = true
starts_base Left = true
starts_base _ = false

abbrev pub starts_piece : Sort → Bool
starts_piece Lower = true
starts_piece Any = true
starts_piece Int = true
starts_piece Char = true
starts_piece Integer = true
starts_piece Character = true
starts_piece Upper = true
starts_piece Left = true
starts_piece _ = false

abbrev pub is_sign : Sort → Bool
is_sign Plus = true
is_sign Minus = true
is_sign _ = false

abbrev pub is_class : Sort → Bool
is_class Rewritable = true
is_class Overwritable = true
is_class Creatable = true
is_class _ = false

abbrev pub starts_item : Sort → Bool
starts_item Imports = true
starts_item Symbol = true
starts_item Pattern = true
starts_item Rule = true
starts_item Initial = true
starts_item _ = false
