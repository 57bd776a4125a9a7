-- Nodes that an event leaves as they are.
use Rattle.std.proofs.Common.{◌≡◌, ℕ, ◌+◌, Bool, true, false, not, ◌&&◌, cond, List, [], ◌∷◌, map, count_by, ◌==◌, refl, ap, arith}
use Rattle.std.specs.List.{list_all}
use Rattle.std.proofs.lemmas.Bool.{ne_eqb}
use Rattle.dactl_model.specs.declared.graph.NodeId.{NodeId}
use Rattle.dactl_model.specs.declared.graph.Arc.{Arc}
use Rattle.dactl_model.specs.declared.graph.Mark.{Mark}
use Rattle.dactl_model.specs.declared.graph.Mark.TheVariants.{Idle, Active, Waiting}
use Rattle.dactl_model.specs.declared.graph.Node.{Node}
use Rattle.dactl_model.specs.Patterns.{same_node}
use Rattle.dactl_model.specs.Graphs.{flags}
use Rattle.dactl_model.specs.Firing.{redirected_arc, is_woken, mark_after, old_node}
use Rattle.dactl_model.specs.Noting.{waits_for, cleared, noted_mark, noted_node}
use Rattle.dactl_model.proofs.Counting.{count_by-cons}
use Rattle.dactl_model.proofs.Unique.{same_node_is, left_true, right_true}
use Rattle.dactl_plain.specs.Sites.{stays}

both : {X : Type 0} (x y : X) (xs ys : List X) → x ≡ y → xs ≡ ys → x ∷ xs ≡ y ∷ ys
both x y xs ys e es = cc

pub kept_arcs : (f : NodeId → NodeId) (arcs : List Arc) → list_all (stays f) arcs ≡ true → map (redirected_arc f) arcs ≡ arcs
kept_arcs f [] all = refl
kept_arcs f (a ∷ arcs) all =
    let here : f a.target ≡ a.target = same_node_is _ _ (left_true _ _ all) in
    both _ _ _ _ (ap (λ (t : NodeId). record { target = t; waits = a.waits }) here) (kept_arcs f arcs (right_true _ _ all))

-- a node that isn't the root, nor woken, nor redirected
pub kept_old : (f : NodeId → NodeId) (n : NodeId) (h : List NodeId) (wakes : List ℕ) (suspend k : ℕ) (node : Node) → (k ≡ n.number → ⊥) → is_woken h wakes k ≡ false
    → list_all (stays f) node.arcs ≡ true → old_node f n h wakes suspend k node ≡ node
kept_old f n h wakes suspend k node other asleep all =
    let mark : mark_after (k == n.number) suspend (flags node.arcs) (is_woken h wakes k) node.mark ≡ node.mark = rw (ne_eqb k n.number other, asleep) refl in
    rw (mark, kept_arcs f node.arcs all) refl

keeps_flag : (w s : Bool) → (w && s) ≡ false → (w && not s) ≡ w
keeps_flag true true e = cc
keeps_flag true false e = refl
keeps_flag false s e = refl

none_more : (b : Bool) (m : ℕ) → cond b 1 0 + m ≡ 0 → (b ≡ false) × (m ≡ 0)
none_more true m e = absurd (omega arith)
none_more false m e = (refl, omega arith)

kept_flags : (n : NodeId) (arcs : List Arc) → count_by (waits_for n) arcs ≡ 0 → map (cleared n) arcs ≡ arcs
kept_flags n [] none = refl
kept_flags n (a ∷ arcs) none =
    let parts = none_more (waits_for n a) (count_by (waits_for n) arcs) (rw (count_by-cons (waits_for n) a arcs) at none) in
    both _ _ _ _ (ap (λ (w : Bool). record { target = a.target; waits = w }) (keeps_flag a.waits (same_node a.target n) parts.0)) (kept_flags n arcs parts.1)

not_notified : (mark : Mark) → noted_mark 0 mark ≡ mark
not_notified Idle = refl
not_notified Active = refl
not_notified (Waiting k) = refl

-- a node that isn't the one that notifies, and doesn't wait for it
pub kept_noted : (n : NodeId) (k : ℕ) (node : Node) → (k ≡ n.number → ⊥) → count_by (waits_for n) node.arcs ≡ 0 → noted_node n k node ≡ node
kept_noted n k node other none = rw (ne_eqb k n.number other, none, not_notified node.mark, kept_flags n node.arcs none) refl
