-- A firing keeps the invariant.
use Rattle.std.proofs.Common.{◌≡◌, ℕ, zero, suc, ◌+◌, ◌-◌, ◌<◌, ◌≤◌, Bool, true, false, ◌||◌, List, [], ◌∷◌, ◌++◌, map, length, Option, Some, slice_get, refl, sym, ◌∙◌, ap, subst, arith, ◌==◌, ◌⊎◌, inl, inr}
use Rattle.std.specs.List.{AllByRecursion}
use Rattle.std.proofs.lemmas.List.{length-map}
use Rattle.std.proofs.lemmas.Option.{slice_get_cases}
use Rattle.dactl_model.specs.declared.graph.NodeId.{NodeId}
use Rattle.dactl_model.specs.declared.graph.Mark.{Mark}
use Rattle.dactl_model.specs.declared.graph.Mark.TheVariants.{Idle, Active, Waiting}
use Rattle.dactl_model.specs.declared.graph.Node.{Node}
use Rattle.dactl_model.specs.declared.graph.Graph.{Graph}
use Rattle.dactl_model.specs.declared.program.FreshNode.{FreshNode}
use Rattle.dactl_model.specs.declared.program.Move.{Move}
use Rattle.dactl_model.specs.declared.program.Program.{Program}
use Rattle.dactl_model.specs.Graphs.{node_at, HasNode, flags, IsWellFormed}
use Rattle.dactl_model.specs.Matching.{bound_node}
use Rattle.dactl_model.specs.Firing.{redirection, redirected_arc, fresh_node, is_woken, woken_mark, mark_after, old_node, old_nodes}
use Rattle.dactl_model.proofs.Counting.{count_by-map}
use Rattle.dactl_model.proofs.KeptFire.{length-old_nodes}
use Rattle.dactl_model.proofs.Unique.{same_node_is}
use Rattle.fun_meaning.specs.declared.tree.Fun.{Fun}
use Rattle.fun_meaning.specs.Meaning.{symbol_names}
use Rattle.fun_meaning.specs.Translation.{is_arithmetic, FitsSymbol, awaited, IsProgramOf}
use Rattle.fun_meaning.specs.Invariant.{FinishedAt, Finished, IsStuck, IsTidyNode, IsTidy}
use Rattle.fun_meaning.proofs.After.{after_firing, get_append_right, old_after, carried_fired, targets_in}
use Rattle.fun_meaning.proofs.Settled.{finished_label, settled_plain}
use Rattle.fun_meaning.proofs.StillNone.{stuck_none}
use Rattle.fun_meaning.proofs.KeptTidy.{IsPlainAt, arcs_kept}

pub one_of : {A : Type 0} (o : Option A) (x y : A) → o ≡ Some x → o ≡ Some y → x ≡ y
one_of o x y one two = let both : Some x ≡ Some y = sym one ∙ two in cc

-- what a map has at a place
pub get_unmap : {A B : Type 0} (v : A → B) (xs : List A) (i : ℕ) (y : B) → slice_get (map v xs) i ≡ Some y → (x : A) × (slice_get xs i ≡ Some x) × (y ≡ v x)
get_unmap v [] i y at = absurd (cc at)
get_unmap v (x ∷ xs) zero y at = let same : v x ≡ y = cc in (x, refl, sym same)
get_unmap v (x ∷ xs) (suc i) y at = get_unmap v xs i y at

-- a node after a firing is an old one or a new one
pub record IsOldAfter (g : Graph) (n : NodeId) (h : List NodeId) (moves : List Move) (wakes : List ℕ) (x : NodeId) (after : Node) : Type 0 where
  pub node : Node
  pub at : node_at g x ≡ Some node
  pub is : after ≡ old_node (redirection (length g.nodes) n h moves) n h wakes 0 x.number node

pub record IsNewAfter (g : Graph) (n : NodeId) (h : List NodeId) (fresh : List FreshNode) (moves : List Move) (after : Node) : Type 0 where
  pub place : ℕ
  pub node : FreshNode
  pub at : slice_get fresh place ≡ Some node
  pub is : after ≡ fresh_node (length g.nodes) h (redirection (length g.nodes) n h moves) node

new_case : (g : Graph) (n : NodeId) (h : List NodeId) (fresh : List FreshNode) (moves : List Move) (wakes : List ℕ) (x : NodeId) (after : Node) → length g.nodes ≤ x.number → node_at (after_firing g n h fresh moves wakes) x ≡ Some after
    → IsNewAfter g n h fresh moves after
new_case g n h fresh moves wakes x after past at =
    let f = redirection (length g.nodes) n h moves in
    let parts : length g.nodes + (x.number - length g.nodes) ≡ x.number = omega arith in
    let there : slice_get (map (fresh_node (length g.nodes) h (redirection (length g.nodes) n h moves)) fresh) (x.number - length g.nodes) ≡ Some after =
    sym (get_append_right (old_nodes f n h wakes 0 0 g.nodes) (map (fresh_node (length g.nodes) h f) fresh) (length g.nodes) (x.number - length g.nodes) (length-old_nodes f n h wakes 0 0 g.nodes))
    ∙ ap (slice_get (old_nodes f n h wakes 0 0 g.nodes ++ map (fresh_node (length g.nodes) h f) fresh)) parts ∙ at in
    let from = get_unmap (fresh_node (length g.nodes) h f) fresh (x.number - length g.nodes) after there in
    record { place = x.number - length g.nodes; node = from.0; at = from.1; is = from.2 }

pub after_cases : (g : Graph) (n : NodeId) (h : List NodeId) (fresh : List FreshNode) (moves : List Move) (wakes : List ℕ) (x : NodeId) (after : Node) → node_at (after_firing g n h fresh moves wakes) x ≡ Some after
    → IsOldAfter g n h moves wakes x after ⊎ IsNewAfter g n h fresh moves after
after_cases g n h fresh moves wakes x after at =
    elim (slice_get_cases g.nodes x.number).1 [
      | inl (node, below, is, same) ↦ inl (record { node = node; at = is; is = one_of (node_at (after_firing g n h fresh moves wakes) x) after (old_node (redirection (length g.nodes) n h moves) n h wakes 0 x.number node) at (old_after g n h fresh moves wakes x node is) })
      | inr (past, none) ↦ inr (new_case g n h fresh moves wakes x after (omega arith) at)
    ]

woken_awaits : (b : Bool) (mark : Mark) → awaited (woken_mark b mark) ≡ awaited mark
woken_awaits true Idle = refl
woken_awaits true Active = refl
woken_awaits true (Waiting k) = refl
woken_awaits false mark = refl

-- the node at which the rule fires has no flag, and each other awaits what it did
after_awaits : (b : Bool) (waits : ℕ) (w : Bool) (mark : Mark) → (b ≡ true → mark ≡ Active) → awaited (mark_after b 0 waits w mark) ≡ awaited mark
after_awaits true waits w mark active = woken_awaits w Idle ∙ sym (ap awaited (active refl))
after_awaits false waits w mark active = woken_awaits w mark

-- a node that is none of those woken
or_false : (a b : Bool) → a ≡ false → b ≡ false → (a || b) ≡ false
or_false true b one two = one
or_false false b one two = two

numbers_differ : (g : Graph) (x y : NodeId) (b : Bool) → (y.number == x.number) ≡ b → (y ≡ x → ⊥) → b ≡ false
numbers_differ g x y true same differ = absurd (differ (same_node_is y x same))
numbers_differ g x y false same differ = refl

pub not_woken : (g : Graph) (h : List NodeId) (count : ℕ) (wakes : List ℕ) (x : NodeId) → ((v : ℕ) → v < count → bound_node h v ≡ x → ⊥) → AllByRecursion (λ v. v < count) wakes → is_woken h wakes x.number ≡ false
not_woken g h count [] x differ all = refl
not_woken g h count (v ∷ wakes) x differ all = or_false ((bound_node h v).number == x.number) (is_woken h wakes x.number) (numbers_differ g x (bound_node h v) _ refl (differ v all.0)) (not_woken g h count wakes x differ all.1)

idle_after : (b : Bool) (waits : ℕ) (w : Bool) → b ≡ false → w ≡ false → mark_after b 0 waits w Idle ≡ Idle
idle_after true waits w one two = cc
idle_after false waits true one two = cc
idle_after false waits false one two = refl

module _ (e : Fun) (p : Program) (g : Graph) (n : NodeId) (h : List NodeId) (fresh : List FreshNode) (moves : List Move) (wakes : List ℕ) (count : ℕ) (is : IsProgramOf e p) (fine : IsWellFormed g) (tidy : IsTidy e p g)
    (node : Node) (at : node_at g n ≡ Some node) (active : node.mark ≡ Active) (olds : (v : ℕ) → v < count → Finished e (symbol_names p) g (bound_node h v)) (woken : AllByRecursion (λ v. v < count) wakes)
    (send_others : (x : NodeId) → (n ≡ x) ⊎ (redirection (length g.nodes) n h moves x ≡ x))
    (stays : (x : NodeId) → Finished e (symbol_names p) g x → redirection (length g.nodes) n h moves x ≡ x)
    (moved : (x : NodeId) → HasNode g x → (redirection (length g.nodes) n h moves x ≡ x) ⊎ IsPlainAt (symbol_names p) (after_firing g n h fresh moves wakes) (redirection (length g.nodes) n h moves x))
    (news : (one : FreshNode) (i : ℕ) → slice_get fresh i ≡ Some one → IsTidyNode e p (after_firing g n h fresh moves wakes) (fresh_node (length g.nodes) h (redirection (length g.nodes) n h moves) one)) where
  abbrev send : NodeId → NodeId
  send = redirection (length g.nodes) n h moves

  abbrev after : Graph
  after = after_firing g n h fresh moves wakes

  marks_clash : (x : NodeId) (other : Node) → node_at g x ≡ Some other → other.mark ≡ Idle → n ≡ x → ⊥
  marks_clash x other other_at idle same =
      let one : node ≡ other = one_of (node_at g x) node other (subst (λ y. node_at g y ≡ Some node) same at) other_at in
      let clash : Active ≡ Idle = sym active ∙ ap (λ y. y.mark) one ∙ idle in
      cc

  stuck_old : (x : NodeId) (was : IsStuck p g x) → (v : ℕ) → v < count → bound_node h v ≡ x → ⊥
  stuck_old x was v below same =
      let finished = olds v below in
      let no : is_arithmetic (symbol_names p) was.node.label ≡ false =
      settled_plain e (symbol_names p) was.node.label is.constructors (finished_label finished.0 e (symbol_names p) g x was.node (subst (FinishedAt finished.0 e (symbol_names p) g) same finished.1) was.at) in
      let clash : true ≡ false = sym was.arithmetic ∙ no in
      cc

  sent_stuck : (x : NodeId) (was : IsStuck p g x) → send x ≡ x
  sent_stuck x was = elim (send_others x) [ inl same ↦ absurd (marks_clash x was.node was.at was.idle same) | inr other ↦ other ]

  kept_stuck : (x : NodeId) (was : IsStuck p g x) → IsStuck p after x
  kept_stuck x was = record {
    node = old_node send n h wakes 0 x.number was.node;
    at = old_after g n h fresh moves wakes x was.node was.at;
    arithmetic = was.arithmetic;
    idle = ap (mark_after (x.number == n.number) 0 (flags was.node.arcs) (is_woken h wakes x.number)) was.idle
        ∙ idle_after (x.number == n.number) (flags was.node.arcs) (is_woken h wakes x.number) (numbers_differ g n x (x.number == n.number) refl (λ same. marks_clash x was.node was.at was.idle (sym same))) (not_woken g h count wakes x (stuck_old x was) woken);
    none = stuck_none e p g after send is fine (carried_fired g n h fresh moves wakes) tidy stays x was;
  }

  stuck : (x : NodeId) → IsStuck p g x → IsStuck p after (send x)
  stuck x was = subst (IsStuck p after) (sym (sent_stuck x was)) (kept_stuck x was)

  old_tidy : (x : NodeId) (other : Node) → node_at g x ≡ Some other → IsTidyNode e p after (old_node send n h wakes 0 x.number other)
  old_tidy x other other_at =
      let was = tidy x other other_at in
      record {
        symbol = subst (FitsSymbol e (symbol_names p) other.label) (sym (length-map other.arcs (redirected_arc send))) was.symbol;
        mark = count_by-map (λ a. a.waits) (λ a. a.waits) (redirected_arc send) (λ a. refl) other.arcs ∙ was.mark
            ∙ sym (after_awaits (x.number == n.number) (flags other.arcs) (is_woken h wakes x.number) other.mark (λ same. ap (λ y. y.mark) (one_of (node_at g n) other node (subst (λ y. node_at g y ≡ Some other) (same_node_is x n same) other_at) at) ∙ active));
        arcs_tidy = arcs_kept e p g after send (carried_fired g n h fresh moves wakes) stays moved stuck other.label (redirected_arc send) (λ a. refl) (λ a was free. inl free) other.arcs (targets_in g x other fine other_at) was.arcs_tidy;
      }

  pub fired_tidy : IsTidy e p after
  fired_tidy x found found_at =
      elim (after_cases g n h fresh moves wakes x found found_at) [
        | inl old ↦ subst (IsTidyNode e p after) (sym old.is) (old_tidy x old.node old.at)
        | inr new ↦ subst (IsTidyNode e p after) (sym new.is) (news new.node new.place new.at)
      ]

-- a firing that only makes its root idle
pub rest_tidy : (e : Fun) (p : Program) (g : Graph) (n : NodeId) (h : List NodeId) → IsProgramOf e p → IsWellFormed g → IsTidy e p g → (node : Node) → node_at g n ≡ Some node → node.mark ≡ Active → IsTidy e p (after_firing g n h [] [] [])
rest_tidy e p g n h is fine tidy node at active =
    fired_tidy e p g n h [] [] [] 0 is fine tidy node at active (λ v below. absurd (omega arith)) tt (λ x. inr refl) (λ x finished. refl) (λ x has. inl refl) (λ one i one_at. absurd (cc one_at))
