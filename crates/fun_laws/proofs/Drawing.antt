-- What the terms of a translation draw, level by level.
use Rattle.std.proofs.Common.{◌≡◌, ℕ, suc, ◌+◌, Bool, true, not, List, [], ◌∷◌, ◌++◌, map, length, Option, Some, None, slice_get, refl, ◌∙◌, ap, arith, ℤ}
use Rattle.dactl_meaning.specs.declared.tree.Name.{Name}
use Rattle.dactl_meaning.specs.declared.tree.Marks.{Marks}
use Rattle.dactl_meaning.specs.declared.tree.Marks.TheVariants as marks
use Rattle.dactl_meaning.specs.declared.tree.NodeTree.{NodeTree}
use Rattle.dactl_meaning.specs.declared.tree.ArgTree.{ArgTree}
use Rattle.dactl_meaning.specs.declared.tree.TermTree.{TermTree}
use Rattle.dactl_meaning.specs.declared.tree.NodeTree.TheOpen.{NodeTree-F}
use Rattle.dactl_meaning.specs.declared.tree.NodeTree.TheViews.{roll-NodeTree, roll-ArgTree}
use Rattle.dactl_meaning.specs.declared.tree.NodeTree.TheFolds.{fold-NodeTree, fold-ArgTree, fold-roll-NodeTree, fold-roll-ArgTree, fold-roll-TermTree}
use Rattle.dactl_meaning.specs.Contractum.{Named, Number, Of, Sketch, Drawn, DrawnArc, drawn_from, drawn_node, node_drawn, arg_drawn, term_drawn, term_draws}
use Rattle.fun_meaning.specs.Names.{Spelling, check_name}
use Rattle.fun_compile.specs.Translated.{Put, bare, marked, arg_put, node_over, checked}
use Rattle.dactl_meaning.specs.Unplaced.{nowhere}
use Rattle.fun_meaning.specs.Values.{word}
use Rattle.fun_laws.proofs.Lists.{get_in_left, get_in_right}

abbrev Node : Type 0
Node = ℕ → Option Name → Marks → Drawn

abbrev node_draws : NodeTree → Node
node_draws = fold-NodeTree Node (ℕ → DrawnArc) (ℕ → Drawn) node_drawn arg_drawn term_drawn

abbrev arg_draws : ArgTree → ℕ → DrawnArc
arg_draws = fold-ArgTree Node (ℕ → DrawnArc) (ℕ → Drawn) node_drawn arg_drawn term_drawn

-- what arguments draw, one after another
abbrev pub drawn_puts : ℕ → List Put → List DrawnArc
drawn_puts k [] = []
drawn_puts k (a ∷ args) = record { waits = not a.pure; drawn = term_draws a.term k } ∷ drawn_puts (k + length (term_draws a.term k).made) args

marked_draws : (m : Marks) (node : NodeTree) (k : ℕ) → term_draws (marked m node) k ≡ node_draws node k None m
marked_draws m node k = ap (λ (f : ℕ → Drawn). f k) (fold-roll-TermTree Node (ℕ → DrawnArc) (ℕ → Drawn) node_drawn arg_drawn term_drawn (record { marks = m; name = None; node = Some node }))

pub bare_draws : (m : Marks) (x : Spelling) (k : ℕ) → term_draws (bare m x) k ≡ record { target = Named x; made = [] }
bare_draws m x k = ap (λ (f : ℕ → Drawn). f k) (fold-roll-TermTree Node (ℕ → DrawnArc) (ℕ → Drawn) node_drawn arg_drawn term_drawn (record { marks = m; name = Some (word x); node = None }))

pub integer_draws : (m : Marks) (i : ℤ) (k : ℕ) → term_draws (marked m (roll-NodeTree (NodeTree-F.Integer i nowhere))) k ≡ drawn_node k None m (Number i) []
integer_draws m i k =
    marked_draws m (roll-NodeTree (NodeTree-F.Integer i nowhere)) k
    ∙ ap (λ (f : Node). f k None m) (fold-roll-NodeTree Node (ℕ → DrawnArc) (ℕ → Drawn) node_drawn arg_drawn term_drawn (NodeTree-F.Integer i nowhere))

arg_draws_is : (waits : Bool) (t : TermTree) (k : ℕ) → arg_draws (roll-ArgTree (record { waits = waits; term = t })) k ≡ record { waits = waits; drawn = term_draws t k }
arg_draws_is waits t k = ap (λ (f : ℕ → DrawnArc). f k) (fold-roll-ArgTree Node (ℕ → DrawnArc) (ℕ → Drawn) node_drawn arg_drawn term_drawn (record { waits = waits; term = t }))

puts_draw : (k : ℕ) (args : List Put) → drawn_from k (map arg_draws (map arg_put args)) ≡ drawn_puts k args
puts_draw k [] = refl
puts_draw k (a ∷ args) =
    let one : DrawnArc = record { waits = not a.pure; drawn = term_draws a.term k } in
    ap (λ (d : DrawnArc). d ∷ drawn_from (k + length d.drawn.made) (map arg_draws (map arg_put args))) (arg_draws_is (not a.pure) a.term k)
    ∙ ap (λ (ds : List DrawnArc). record { waits = not a.pure; drawn = term_draws a.term k } ∷ ds) (puts_draw (k + length (term_draws a.term k).made) args)

-- a node over arguments
pub over_draws : (m : Marks) (g : Spelling) (args : List Put) (k : ℕ) → term_draws (marked m (node_over g args)) k ≡ drawn_node k None m (Of (word g)) (drawn_puts (k + 1) args)
over_draws m g args k =
    marked_draws m (node_over g args) k
    ∙ ap (λ (f : Node). f k None m) (fold-roll-NodeTree Node (ℕ → DrawnArc) (ℕ → Drawn) node_drawn arg_drawn term_drawn (NodeTree-F.Sym (word g) (map arg_put args)))
    ∙ ap (drawn_node k None m (Of (word g))) (puts_draw (k + 1) args)

-- a term below Chk
pub checked_draws : (t : TermTree) (k : ℕ) → term_draws (checked t) k ≡ drawn_node k None (marks.Hashes nowhere 1) (Of (word check_name)) (record { waits = true; drawn = term_draws t (k + 1) } ∷ [])
checked_draws t k =
    marked_draws (marks.Hashes nowhere 1) (roll-NodeTree (NodeTree-F.Sym (word check_name) (roll-ArgTree (record { waits = true; term = t }) ∷ []))) k
    ∙ ap (λ (f : Node). f k None (marks.Hashes nowhere 1)) (fold-roll-NodeTree Node (ℕ → DrawnArc) (ℕ → Drawn) node_drawn arg_drawn term_drawn (NodeTree-F.Sym (word check_name) (roll-ArgTree (record { waits = true; term = t }) ∷ [])))
    ∙ ap (λ (d : DrawnArc). drawn_node k None (marks.Hashes nowhere 1) (Of (word check_name)) (d ∷ [])) (arg_draws_is true t (k + 1))

-- sketches stand in the list from a place on
abbrev pub IsAt : List Sketch → ℕ → List Sketch → Type 0
IsAt all k made = (j : ℕ) (s : Sketch) → slice_get made j ≡ Some s → slice_get all (k + j) ≡ Some s

pub at_head : (all : List Sketch) (k : ℕ) (s : Sketch) (made : List Sketch) → IsAt all k (s ∷ made) → slice_get all k ≡ Some s
at_head all k s made at = let same : k ≡ k + 0 = omega arith in ap (slice_get all) same ∙ at 0 s refl

pub at_tail : (all : List Sketch) (k : ℕ) (s : Sketch) (made : List Sketch) → IsAt all k (s ∷ made) → IsAt all (k + 1) made
at_tail all k s made at j one is = let same : (k + 1) + j ≡ k + suc j = omega arith in ap (slice_get all) same ∙ at (suc j) one is

pub at_left : (all : List Sketch) (k : ℕ) (one two : List Sketch) → IsAt all k (one ++ two) → IsAt all k one
at_left all k one two at j s is = at j s (get_in_left one two j s is)

pub at_right : (all : List Sketch) (k : ℕ) (one two : List Sketch) → IsAt all k (one ++ two) → IsAt all (k + length one) two
at_right all k one two at j s is = let same : (k + length one) + j ≡ k + (length one + j) = omega arith in ap (slice_get all) same ∙ at (length one + j) s (get_in_right one two j ∙ is)
