-- How a drawing grows.
use Rattle.std.proofs.Common.{◌≡◌, ℕ, zero, suc, ◌+◌, ◌<◌, List, [], ◌∷◌, ◌++◌, length, map, take, get_or, set, refl, sym, ap, ◌∙◌, append_assoc, length-append, arith, Bool, Option}
use Rattle.std.specs.List.{flat_map}
use Rattle.std.proofs.lemmas.List.{append-nil, take_more, map-append, length-map}
use Rattle.std.proofs.lemmas.Grind.{flat_map-append}
use Rattle.std.proofs.lemmas.List.Folds.{flat_map-map}
use Rattle.dactl_meaning.specs.declared.tree.Name.{Name}
use Rattle.dactl_meaning.specs.declared.tree.Marks.{Marks}
use Rattle.dactl_meaning.specs.declared.tree.NodeTree.{NodeTree}
use Rattle.dactl_meaning.specs.declared.tree.NodeTree.TheVariants as n
use Rattle.dactl_meaning.specs.declared.tree.NodeTree.TheVariants.{rolls-Sym}
use Rattle.dactl_meaning.specs.declared.tree.NodeTree.TheOpen.{NodeTree-F}
use Rattle.dactl_meaning.specs.declared.tree.NodeTree.TheFolds.{fold-roll-NodeTree}
use Rattle.dactl_meaning.specs.declared.tree.ArgTree.{ArgTree}
use Rattle.dactl_meaning.specs.Contractum as contractum
use Rattle.dactl_meaning.specs.Contractum.{Drawn, DrawnArc, MentionTree, drawn_from, drawn_node, node_drawn, arg_drawn, term_drawn, node_mentions, arg_mentions, term_mentions}
use Rattle.dactl_contractum.specs.declared.drawing.Target.TheVariants as target
use Rattle.dactl_contractum.specs.declared.drawing.Sketch.{Sketch}
use Rattle.dactl_contractum.specs.declared.drawing.SketchArc.{SketchArc}
use Rattle.dactl_contractum.specs.declared.drawing.Drawing.{Drawing}
use Rattle.dactl_meaning.specs.Contractum.{node_draws, arg_draws}
use Rattle.dactl_contractum.specs.Drawing.{arcs_in, args_draw, node_mentioned, arg_mentioned, args_mentioned, arc_of, sketch_of, mention_of, with_arcs, made_in, mentioned_in, next_number, Grows, Draws, DrawsArc, DrawsArcs}

-- ---- a new node's arcs

pub arcs_set : (xs : List Sketch) (number : ℕ) (s t : Sketch) → number < length xs → s ≡ get_or xs number s → sketch_of t ≡ record (sketch_of s) { arcs = map arc_of (arcs_in t.arcs) }
    → map sketch_of (set xs number t) ≡ with_arcs (map sketch_of xs) number (map arc_of (arcs_in t.arcs))
arcs_set [] number s t lt is same = absurd (omega arith)
arcs_set (x ∷ xs) zero s t lt is same = ap (λ (z : contractum.Sketch). z ∷ map sketch_of xs) (same ∙ ap (λ (z : Sketch). record (sketch_of z) { arcs = map arc_of (arcs_in t.arcs) }) is)
arcs_set (x ∷ xs) (suc number) s t lt is same = ap (λ (z : List contractum.Sketch). sketch_of x ∷ z) (arcs_set xs number s t (omega arith) is same)

pub with_arcs-append : (xs : List contractum.Sketch) (s : contractum.Sketch) (ys : List contractum.Sketch) (number : ℕ) (arcs : List (Bool × contractum.Target)) → number ≡ length xs
    → with_arcs (xs ++ s ∷ ys) number arcs ≡ xs ++ record s { arcs = arcs } ∷ ys
with_arcs-append [] s ys number arcs e = rw e refl
with_arcs-append (x ∷ xs) s ys zero arcs e = absurd (omega arith)
with_arcs-append (x ∷ xs) s ys (suc number) arcs e = ap (λ (z : List contractum.Sketch). x ∷ z) (with_arcs-append xs s ys number arcs (omega arith))

-- ---- growth

pub grows_more : (a b : List contractum.Sketch) (u v : List MentionTree) (old mid new : Drawing) → Grows a u old mid → Grows b v mid new → Grows (a ++ b) (u ++ v) old new
grows_more a b u v old mid new g h = record {
  made = h.made ∙ ap (λ (z : List contractum.Sketch). z ++ b) g.made ∙ append_assoc (made_in old) a b;
  mentions = h.mentions ∙ ap (λ (z : List MentionTree). z ++ v) g.mentions ∙ append_assoc (mentioned_in old) u v;
}

pub next_more : (a : List contractum.Sketch) (u : List MentionTree) (old new : Drawing) → Grows a u old new → next_number new ≡ next_number old + length a
next_more a u old new g =
    sym (length-map new.made.items sketch_of) ∙ ap length g.made ∙ length-append (made_in old) a ∙ ap (λ (z : ℕ). z + length a) (length-map old.made.items sketch_of)

-- ---- arguments

drawn_more : (k : ℕ) (xs : List (ℕ → DrawnArc)) (a : ℕ → DrawnArc) → drawn_from k (xs ++ a ∷ []) ≡ drawn_from k xs ++ a (k + length (flat_map (λ d. d.drawn.made) (drawn_from k xs))) ∷ []
drawn_more k [] a = let e : k + 0 ≡ k = omega arith in rw e refl
drawn_more k (x ∷ xs) a =
    let here = length (x k).drawn.made in
    let more = flat_map (λ (d : DrawnArc). d.drawn.made) (drawn_from (k + here) xs) in
    let e : k + here + length more ≡ k + length ((x k).drawn.made ++ more) = omega (arith, length-append (x k).drawn.made more) in
    ap (λ (z : List DrawnArc). x k ∷ z) (drawn_more (k + here) xs a ∙ ap (λ (z : ℕ). drawn_from (k + here) xs ++ a z ∷ []) e)

pub arcs_more : (xs : List ArgTree) (i : ℕ) (a : ArgTree) (old mid new : Drawing) (arcs next : List SketchArc) (arc : SketchArc) → i < length xs → a ≡ get_or xs i a
    → DrawsArcs (args_draw (take i xs) (next_number old)) (args_mentioned (take i xs)) old mid arcs
    → DrawsArc (arg_draws a (next_number mid)) (arg_mentioned a) mid new arc
    → next ≡ arcs ++ arc ∷ []
    → DrawsArcs (args_draw (take (i + 1) xs) (next_number old)) (args_mentioned (take (i + 1) xs)) old new next
arcs_more xs i a old mid new arcs next arc lt is so_far here step =
    let before = take i xs in
    let k = next_number old in
    let drawn = args_draw before k in
    let here_drawn = arg_draws a (next_number mid) in
    let e : take (i + 1) xs ≡ before ++ a ∷ [] = take_more xs i a lt ∙ ap (λ (z : ArgTree). before ++ z ∷ []) (sym is) in
    let at : next_number mid ≡ k + length (flat_map (λ (d : DrawnArc). d.drawn.made) drawn) = next_more (flat_map (λ (d : DrawnArc). d.drawn.made) drawn) (args_mentioned before) old mid so_far.grows in
    let more : args_draw (before ++ a ∷ []) k ≡ drawn ++ here_drawn ∷ [] =
    ap (drawn_from k) (map-append arg_draws before (a ∷ [])) ∙ drawn_more k (map arg_draws before) (arg_draws a) ∙ ap (λ (z : ℕ). drawn ++ arg_draws a z ∷ []) (sym at) in
    let all_made : flat_map (λ (d : DrawnArc). d.drawn.made) (args_draw (before ++ a ∷ []) k) ≡ flat_map (λ (d : DrawnArc). d.drawn.made) drawn ++ here_drawn.drawn.made =
    ap (flat_map (λ (d : DrawnArc). d.drawn.made)) more ∙ flat_map-append (λ (d : DrawnArc). d.drawn.made) drawn (here_drawn ∷ [])
    ∙ ap (λ (z : List contractum.Sketch). flat_map (λ (d : DrawnArc). d.drawn.made) drawn ++ z) (append-nil here_drawn.drawn.made) in
    let all_mentioned : args_mentioned (before ++ a ∷ []) ≡ args_mentioned before ++ arg_mentioned a =
    flat_map-append arg_mentioned before (a ∷ []) ∙ ap (λ (z : List MentionTree). args_mentioned before ++ z) (append-nil (arg_mentioned a)) in
    let grown = grows_more (flat_map (λ (d : DrawnArc). d.drawn.made) drawn) here_drawn.drawn.made (args_mentioned before) (arg_mentioned a) old mid new so_far.grows here.grows in
    let stands : map arc_of next ≡ map (λ (d : DrawnArc). (d.waits, d.drawn.target)) (args_draw (before ++ a ∷ []) k) =
    ap (map arc_of) step ∙ map-append arc_of arcs (arc ∷ [])
    ∙ ap (λ (z : List (Bool × contractum.Target)). z ++ arc_of arc ∷ []) so_far.stands
    ∙ ap (λ (z : Bool × contractum.Target). map (λ (d : DrawnArc). (d.waits, d.drawn.target)) drawn ++ z ∷ []) here.stands
    ∙ sym (map-append (λ (d : DrawnArc). (d.waits, d.drawn.target)) drawn (here_drawn ∷ []))
    ∙ ap (map (λ (d : DrawnArc). (d.waits, d.drawn.target))) (sym more) in
    rw e (record {
      grows = record {
        made = grown.made ∙ ap (λ (z : List contractum.Sketch). made_in old ++ z) (sym all_made);
        mentions = grown.mentions ∙ ap (λ (z : List MentionTree). mentioned_in old ++ z) (sym all_mentioned);
      };
      stands = stands;
    })

-- ---- a node

sym_draws : (symbol : Name) (args : List ArgTree) (k : ℕ) (name : Option Name) (m : Marks) → node_draws (n.Sym symbol args) k name m ≡ drawn_node k name m (contractum.Of symbol) (args_draw args (k + 1))
sym_draws symbol args k name m =
    ap (λ (t : NodeTree). node_draws t k name m) (sym (rolls-Sym symbol args))
    ∙ ap (λ (f : ℕ → Option Name → Marks → Drawn). f k name m)
    (fold-roll-NodeTree (ℕ → Option Name → Marks → Drawn) (ℕ → DrawnArc) (ℕ → Drawn) node_drawn arg_drawn term_drawn (NodeTree-F.Sym symbol args))

sym_mentions : (symbol : Name) (args : List ArgTree) → node_mentioned (n.Sym symbol args) ≡ args_mentioned args
sym_mentions symbol args =
    ap node_mentioned (sym (rolls-Sym symbol args))
    ∙ fold-roll-NodeTree (List MentionTree) (List MentionTree) (List MentionTree) node_mentions arg_mentions term_mentions (NodeTree-F.Sym symbol args)
    ∙ flat_map-map (λ (z : List MentionTree). z) arg_mentioned args

-- the nodes of a drawing where a node was begun, its arguments were drawn, and it got its arcs
node_grows : (s : contractum.Sketch) (below : List contractum.Sketch) (arcs : List (Bool × contractum.Target)) (u v w : List contractum.Sketch) (number : ℕ) → number ≡ length u
    → v ≡ (u ++ s ∷ []) ++ below → w ≡ with_arcs v number arcs → w ≡ u ++ record s { arcs = arcs } ∷ below
node_grows s below arcs u v w number at e f =
    f ∙ ap (λ (z : List contractum.Sketch). with_arcs z number arcs) (e ∙ append_assoc u (s ∷ []) below) ∙ with_arcs-append u s below number arcs at

pub node_drawn_at : (tree : NodeTree) (symbol : Name) (args : List ArgTree) (name : Option Name) (m : Marks) (old opened drawn new : Drawing) (number : ℕ) (arcs : List SketchArc)
    → tree ≡ n.Sym symbol args
    → Grows (record { name = name; marks = m; core = contractum.Of symbol; arcs = [] } ∷ []) [] old opened
    → number ≡ next_number old
    → DrawsArcs (args_draw args (next_number opened)) (args_mentioned args) opened drawn arcs
    → made_in new ≡ with_arcs (made_in drawn) number (map arc_of arcs)
    → new.mentions ≡ drawn.mentions
    → Draws (node_draws tree (next_number old) name m) (node_mentioned tree) old new (target.Made number)
node_drawn_at tree symbol args name m old opened drawn new number arcs is begins at below made mentions =
    let k = next_number old in
    let s : contractum.Sketch = record { name = name; marks = m; core = contractum.Of symbol; arcs = [] } in
    let next : next_number opened ≡ k + 1 = next_more (s ∷ []) [] old opened begins in
    let ds = args_draw args (k + 1) in
    let made_below : List DrawnArc → List contractum.Sketch = flat_map (λ (d : DrawnArc). d.drawn.made) in
    let here : node_draws tree k name m ≡ drawn_node k name m (contractum.Of symbol) ds =
    ap (λ (t : NodeTree). node_draws t k name m) is ∙ sym_draws symbol args k name m in
    let said : node_mentioned tree ≡ args_mentioned args = ap node_mentioned is ∙ sym_mentions symbol args in
    let stands : map arc_of arcs ≡ map (λ (d : DrawnArc). (d.waits, d.drawn.target)) ds =
    below.stands ∙ ap (λ (z : ℕ). map (λ (d : DrawnArc). (d.waits, d.drawn.target)) (args_draw args z)) next in
    let in_drawn : made_in drawn ≡ (made_in old ++ s ∷ []) ++ made_below ds =
    below.grows.made ∙ ap (λ (z : List contractum.Sketch). z ++ made_below (args_draw args (next_number opened))) begins.made
    ∙ ap (λ (z : ℕ). (made_in old ++ s ∷ []) ++ made_below (args_draw args z)) next in
    let grown = node_grows s (made_below ds) (map arc_of arcs) (made_in old) (made_in drawn) (made_in new) number (at ∙ sym (length-map old.made.items sketch_of)) in_drawn made in
    let names : mentioned_in new ≡ mentioned_in old ++ node_mentioned tree =
    ap (λ (z : _). map mention_of z.items) mentions ∙ below.grows.mentions ∙ ap (λ (z : List MentionTree). z ++ args_mentioned args) (begins.mentions ∙ append-nil (mentioned_in old))
    ∙ ap (λ (z : List MentionTree). mentioned_in old ++ z) (sym said) in
    record {
      grows = record {
        made = grown ∙ ap (λ (z : List (Bool × contractum.Target)). made_in old ++ record s { arcs = z } ∷ made_below ds) stands ∙ ap (λ (z : Drawn). made_in old ++ z.made) (sym here);
        mentions = names;
      };
      stands = ap contractum.Made at ∙ ap (λ (z : Drawn). z.target) (sym here);
    }
