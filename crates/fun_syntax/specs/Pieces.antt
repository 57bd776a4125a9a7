-- Expressions as flat lists, each name before its arguments.
use Rattle.std.specs.Prelude.{List, [], ◌∷◌, length}
use Rattle.std.specs.List.{flat_map}
use Rattle.fun_meaning.specs.declared.tree.Expr.{Expr}
use Rattle.fun_meaning.specs.declared.tree.Expr.TheOpen.{Expr-F}
use Rattle.fun_meaning.specs.declared.tree.Expr.TheFolds.{fold-Expr}
use Rattle.fun_meaning.specs.declared.tree.Equation.{Equation}
use Rattle.fun_syntax.specs.declared.pieces.Piece.{Piece}
use Rattle.fun_syntax.specs.declared.pieces.Piece.TheVariants as piece

-- One level of an expression, with the pieces of its arguments.
abbrev pub pieces_level : Expr-F (List Piece) → List Piece
pieces_level (Expr-F.Variable name) = piece.Variable name ∷ []
pieces_level (Expr-F.Integer value) = piece.Integer ∷ []
pieces_level (Expr-F.Made name args) = piece.Made name (length args) ∷ flat_map (λ u. u) args

-- the variables, integers and names of an expression
abbrev pub pieces_of : Expr → List Piece
pieces_of = fold-Expr (List Piece) pieces_level

-- those of a left side, without its head
abbrev pub left_pieces : Equation → List Piece
left_pieces eq = flat_map pieces_of eq.patterns
