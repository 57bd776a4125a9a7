-- The pieces of expressions, by one layer.
use Rattle.std.proofs.Common.{◌≡◌, ℤ, ℕ, ◌+◌, ◌<◌, List, [], ◌∷◌, ◌++◌, length, take, get_or, sym, ap, ◌∙◌, append_assoc}
use Rattle.std.specs.List.{flat_map}
use Rattle.std.proofs.lemmas.List.{take_more, append-nil, length-map}
use Rattle.std.proofs.lemmas.List.Concat.{flat_map-append}
use Rattle.std.proofs.lemmas.List.Folds.{flat_map-map}
use Rattle.dactl_meaning.specs.declared.tree.Name.{Name}
use Rattle.fun_meaning.specs.declared.tree.Expr.{Expr}
use Rattle.fun_meaning.specs.declared.tree.Expr.TheVariants.{rolls-Variable, rolls-Integer, rolls-Made}
use Rattle.fun_meaning.specs.declared.tree.Expr.TheVariants as x
use Rattle.fun_meaning.specs.declared.tree.Expr.TheOpen.{Expr-F}
use Rattle.fun_meaning.specs.declared.tree.Expr.TheFolds.{fold-roll-Expr}
use Rattle.fun_syntax.specs.declared.pieces.Piece.{Piece}
use Rattle.fun_syntax.specs.declared.pieces.Piece.TheVariants as piece
use Rattle.fun_syntax.specs.Pieces.{pieces_level, pieces_of}

pub pieces-Variable : (name : Name) → pieces_of (x.Variable name) ≡ piece.Variable name ∷ []
pieces-Variable name = ap pieces_of (sym (rolls-Variable name)) ∙ fold-roll-Expr (List Piece) pieces_level (Expr-F.Variable name)

pub pieces-Integer : (value : ℤ) → pieces_of (x.Integer value) ≡ piece.Integer ∷ []
pieces-Integer value = ap pieces_of (sym (rolls-Integer value)) ∙ fold-roll-Expr (List Piece) pieces_level (Expr-F.Integer value)

pub pieces-Made : (name : Name) (args : List Expr) → pieces_of (x.Made name args) ≡ piece.Made name (length args) ∷ flat_map pieces_of args
pieces-Made name args =
    ap pieces_of (sym (rolls-Made name args)) ∙ fold-roll-Expr (List Piece) pieces_level (Expr-F.Made name args)
    ∙ (λ j. piece.Made name (length-map args pieces_of j) ∷ flat_map-map (λ u. u) pieces_of args j)

-- the pieces of one expression more
pub pieces-more : (xs : List Expr) (i : ℕ) (tree : Expr) (start found next : List Piece) → i < length xs → tree ≡ get_or xs i tree → found ≡ start ++ flat_map pieces_of (take i xs) → next ≡ found ++ pieces_of tree → next ≡ start ++ flat_map pieces_of (take (i + 1) xs)
pieces-more xs i tree start found next lt at so grown =
    grown ∙ ap (λ l. l ++ pieces_of tree) so ∙ append_assoc start (flat_map pieces_of (take i xs)) (pieces_of tree)
    ∙ ap (λ l. start ++ (flat_map pieces_of (take i xs) ++ l)) (sym (append-nil (pieces_of tree)))
    ∙ ap (λ l. start ++ l) (sym (flat_map-append pieces_of (take i xs) (tree ∷ [])) ∙ ap (λ y. flat_map pieces_of (take i xs ++ y ∷ [])) at ∙ sym (ap (flat_map pieces_of) (take_more xs i tree lt)))

-- the pieces of a name over arguments: its own, and then theirs
pub pieces-last : (found pushed next : List Piece) (name copy : Name) (args slice : List Expr) (count : ℕ) (tree : Expr) → copy ≡ name → count ≡ length args → slice ≡ args → tree ≡ x.Made name args
    → pushed ≡ found ++ piece.Made copy count ∷ [] → next ≡ pushed ++ flat_map pieces_of slice → next ≡ found ++ pieces_of tree
pieces-last found pushed next name copy args slice count tree same counted all is own rest =
    rest ∙ (λ j. own j ++ flat_map pieces_of (all j)) ∙ append_assoc found (piece.Made copy count ∷ []) (flat_map pieces_of args)
    ∙ (λ j. found ++ piece.Made (same j) (counted j) ∷ flat_map pieces_of args)
    ∙ ap (λ l. found ++ l) (sym (pieces-Made name args) ∙ ap pieces_of (sym is))
