-- The faults of equations in what their names are: at each place of the text, which kinds hold there.
use Rattle.std.specs.Prelude.{ℕ, ◌+◌, ◌-◌, ◌==◌, Bool, true, false, not, ◌&&◌, ◌||◌, nat_lt, nat_le, if◌then◌else◌, List, [], ◌∷◌, ◌++◌, length, Option, is_some, is_none}
use Rattle.std.specs.List.{flat_map}
use Rattle.dactl_base.specs.declared.refusal.Kind.TheVariants as kinds
use Rattle.dactl_base.specs.declared.refusal.Place.{Place}
use Rattle.dactl_base.specs.declared.refusal.Refusal.{Refusal}
use Rattle.dactl_meaning.specs.declared.tree.Name.{Name}
use Rattle.fun_meaning.specs.declared.tree.Equation.{Equation}
use Rattle.fun_meaning.specs.declared.tree.Fun.{Fun}
use Rattle.fun_syntax.specs.declared.pieces.Piece.{Piece}
use Rattle.fun_syntax.specs.declared.pieces.Piece.TheVariants as piece
use Rattle.fun_syntax.specs.declared.roles.Role.{Role}
use Rattle.fun_syntax.specs.Least.{when}
use Rattle.fun_syntax.specs.Pieces.{pieces_of, left_pieces}
use Rattle.fun_syntax.specs.Roles.{built_in, with_constructor, with_function, with_constructors, roles_of, is_reserved, is_given, is_called, has_other_count}
use Rattle.fun_syntax.specs.Words.{Known, nothing, with_word}

-- how many `DATA` names and functions there may be, and how many equations and functions
abbrev pub most_names : ℕ
most_names = 16382

abbrev pub most_rules : ℕ
most_rules = 4094

-- how many arguments a name may have, and how many names, integers and variables a left side
abbrev pub most_arguments : ℕ
most_arguments = 16

abbrev pub most_pieces : ℕ
most_pieces = 64

-- ---- declarations, by what is declared before

-- a `DATA` name that is declared before or reserved, and one that is too many, where there is room for so many names
abbrev pub constructor_faults : Known Role → ℕ → Name → List Refusal
constructor_faults roles names name =
    when (is_some (roles name.text) || is_reserved name.text) kinds.TwiceDeclared name
    ++ when (names == 0) kinds.TooMany name

abbrev pub data_faults : Known Role → ℕ → List Name → List Refusal
data_faults roles names [] = []
data_faults roles names (name ∷ more) = constructor_faults roles names name ++ data_faults (with_constructor roles name) (names - 1) more

-- how many functions a head makes: one where its word is declared nowhere before
abbrev pub new_functions : Known Role → Equation → ℕ
new_functions roles eq = if is_some (roles eq.head.text) then 0 else 1

-- a head that is reserved, and one that is too many, where there is room for so many names, and for so many equations and functions
abbrev pub declaring_faults : ℕ → ℕ → Name → ℕ → List Refusal
declaring_faults names rules head new =
    when (is_reserved head.text) kinds.TwiceDeclared head
    ++ when (nat_lt names new || nat_lt rules (1 + new)) kinds.TooMany head

abbrev pub head_faults : Known Role → ℕ → ℕ → List Equation → List Refusal
head_faults roles names rules [] = []
head_faults roles names rules (eq ∷ more) =
    declaring_faults names rules eq.head (new_functions roles eq)
    ++ head_faults (with_function roles eq) (names - new_functions roles eq) (rules - (1 + new_functions roles eq)) more

-- ---- uses, by what each word is

-- a head that is no function, has another number of arguments than in its first equation, or is too wide: its left side has so many pieces beside the head
abbrev pub left_faults : Option Role → Name → ℕ → ℕ → List Refusal
left_faults role head count pieces =
    when (is_given role) kinds.RootNotRewritable head
    ++ (when (has_other_count role count) kinds.WrongArity head
    ++ when (nat_lt most_arguments count || nat_le most_pieces pieces) kinds.TooWide head)

-- a name of a pattern or of an expression
abbrev pub name_faults : Option Role → Bool → Name → ℕ → List Refusal
name_faults role in_pattern name count =
    when (is_none role) kinds.UnknownName name
    ++ (when (in_pattern && is_called role) kinds.NotAConstructor name
    ++ (when (has_other_count role count) kinds.WrongArity name
    ++ when (nat_lt most_arguments count) kinds.TooWide name))

abbrev pub piece_faults : Known Role → Bool → Piece → List Refusal
piece_faults roles in_pattern (piece.Variable name) = []
piece_faults roles in_pattern piece.Integer = []
piece_faults roles in_pattern (piece.Made name count) = name_faults (roles name.text) in_pattern name count

-- the names of all pieces
abbrev pub use_faults : Known Role → Bool → List Piece → List Refusal
use_faults roles in_pattern pieces = flat_map (piece_faults roles in_pattern) pieces

-- ---- variables

-- the variables of pieces, each with its first place
abbrev pub with_piece : Known Place → Piece → Known Place
with_piece bound (piece.Variable name) = with_word bound name.text name.place
with_piece bound piece.Integer = bound
with_piece bound (piece.Made name count) = bound

abbrev pub with_pieces : Known Place → List Piece → Known Place
with_pieces bound [] = bound
with_pieces bound (p ∷ more) = with_pieces (with_piece bound p) more

-- a variable of a left side that stands there before
abbrev pub again_faults : Known Place → Piece → List Refusal
again_faults bound (piece.Variable name) = when (is_some (bound name.text)) kinds.NamedTwice name
again_faults bound piece.Integer = []
again_faults bound (piece.Made name count) = []

abbrev pub twice_faults : Known Place → List Piece → List Refusal
twice_faults bound [] = []
twice_faults bound (p ∷ more) = again_faults bound p ++ twice_faults (with_piece bound p) more

-- a variable of a right side that its left side doesn't have
abbrev pub free_faults : Known Place → Piece → List Refusal
free_faults bound (piece.Variable name) = when (not (is_some (bound name.text))) kinds.Unbound name
free_faults bound piece.Integer = []
free_faults bound (piece.Made name count) = []

abbrev pub unbound_faults : Known Place → List Piece → List Refusal
unbound_faults bound pieces = flat_map (free_faults bound) pieces

-- ---- equations

-- an expression over the variables that it may have
abbrev pub expression_faults : Known Role → Known Place → List Piece → List Refusal
expression_faults roles bound pieces = use_faults roles false pieces ++ unbound_faults bound pieces

-- a left side with its head, where these variables are before it
abbrev pub side_faults : Known Role → Known Place → Name → ℕ → List Piece → List Refusal
side_faults roles bound head count pieces =
    left_faults (roles head.text) head count (length pieces)
    ++ (use_faults roles true pieces ++ twice_faults bound pieces)

abbrev pub equation_faults : Known Role → Equation → List Refusal
equation_faults roles eq =
    side_faults roles nothing eq.head (length eq.patterns) (left_pieces eq)
    ++ expression_faults roles (with_pieces nothing (left_pieces eq)) (pieces_of eq.right)

-- the faults of declarations
abbrev pub declared_faults : Fun → List Refusal
declared_faults e =
    data_faults built_in most_names e.constructors
    ++ head_faults (with_constructors built_in e.constructors) (most_names - length e.constructors) most_rules e.equations

-- all faults of equations in what their names are
abbrev pub faults_of : Fun → List Refusal
faults_of e =
    declared_faults e
    ++ (flat_map (equation_faults (roles_of e)) e.equations
    ++ expression_faults (roles_of e) nothing (pieces_of e.main))
