-- A firing at a node and one at its image lead to graphs that are renumbered alike.
use Rattle.std.proofs.Common.{◌≡◌, ℕ, ◌+◌, ◌-◌, ◌<◌, ◌≤◌, Bool, true, false, ◌||◌, List, [], ◌∷◌, map, length, All, Some, slice_get, refl, sym, ◌∙◌, ap, arith, if◌then◌else◌, ◌⊎◌, inl, inr}
use Rattle.std.specs.List.{AllByRecursion}
use Rattle.std.proofs.lemmas.Bool.{cases_lt}
use Rattle.std.proofs.lemmas.Option.{slice_get_cases}
use Rattle.dactl_model.specs.declared.graph.NodeId.{NodeId}
use Rattle.dactl_model.specs.declared.graph.Label.{Label}
use Rattle.dactl_model.specs.declared.graph.Arc.{Arc}
use Rattle.dactl_model.specs.declared.graph.Mark.{Mark}
use Rattle.dactl_model.specs.declared.graph.Node.{Node}
use Rattle.dactl_model.specs.declared.graph.Graph.{Graph}
use Rattle.dactl_model.specs.declared.program.Mention.{Mention}
use Rattle.dactl_model.specs.declared.program.Mention.TheVariants.{Old, Fresh}
use Rattle.dactl_model.specs.declared.program.FreshArc.{FreshArc}
use Rattle.dactl_model.specs.declared.program.FreshNode.{FreshNode}
use Rattle.dactl_model.specs.declared.program.Left.{Left}
use Rattle.dactl_model.specs.declared.program.Left.TheVariants.{Root, Variable}
use Rattle.dactl_model.specs.declared.program.Move.{Move}
use Rattle.dactl_model.specs.Patterns.{same_node}
use Rattle.dactl_model.specs.Graphs.{node_at, HasNode, flags, IsWellFormed}
use Rattle.dactl_model.specs.Programs.{IsMention, IsLeft}
use Rattle.dactl_model.specs.Matching.{bound_node}
use Rattle.dactl_model.specs.Firing.{mentioned, left_node, redirection, redirected_arc, fresh_arc, fresh_node, mark_after, is_woken, old_node, rewritten}
use Rattle.dactl_model.proofs.Counting.{count_by-map}
use Rattle.dactl_model.proofs.Pairs.{has_node}
use Rattle.dactl_within.specs.Renumbering.{renumbered, Renumbers}
use Rattle.dactl_within.proofs.Places.{each_at, NodeThere, node_there, targets_in, bound_has, bound-map, image_has, same_kept}
use Rattle.dactl_within.proofs.After.{old_after, new_after, length-rewritten}

abbrev pub numbered : ℕ → NodeId
numbered k = record { number = k }

abbrev pub node_with : Label → List Arc → Mark → Node
node_with label arcs mark = record { label = label; arcs = arcs; mark = mark }

if_kept : (f : NodeId → NodeId) (c d : Bool) (p q r s : NodeId) → c ≡ d → p ≡ f q → r ≡ f s → (if c then p else r) ≡ f (if d then q else s)
if_kept f true true p q r s same first second = first
if_kept f true false p q r s same first second = absurd (cc same)
if_kept f false true p q r s same first second = absurd (cc same)
if_kept f false false p q r s same first second = second

pub if_in : (limit : ℕ) (c : Bool) (p q : NodeId) → p.number < limit → q.number < limit → (if c then p else q).number < limit
if_in limit true p q first second = first
if_in limit false p q first second = second

-- renumbering keeps flags
flags_kept : (f : NodeId → NodeId) (arcs : List Arc) → flags (map (redirected_arc f) arcs) ≡ flags arcs
flags_kept f = count_by-map (λ a. a.waits) (λ a. a.waits) (redirected_arc f) (λ a. refl)

-- the new nodes have the numbers that follow, in both graphs
abbrev pub SendsNew : (NodeId → NodeId) → Graph → Graph → ℕ → Type 0
SendsNew f h g count = (i : ℕ) → i < count → f (numbered (length h.nodes + i)) ≡ numbered (length g.nodes + i)

module _ (f : NodeId → NodeId) (h g : Graph) (fine : IsWellFormed h) (is : Renumbers f h g) (count : ℕ) (news : SendsNew f h g count) where
  abbrev pub OldOrNew : NodeId → Type 0
  OldOrNew x = HasNode h x ⊎ ((i : ℕ) × (i < count) × (x ≡ numbered (length h.nodes + i)))

  old_or_new_by : (x : NodeId) → x.number < length h.nodes + count → (x.number < length h.nodes) ⊎ (length h.nodes ≤ x.number) → OldOrNew x
  old_or_new_by x below (inl old) = inl old
  old_or_new_by x below (inr new) =
      let number : x.number ≡ length h.nodes + (x.number - length h.nodes) = omega arith in
      inr (x.number - length h.nodes, omega arith, ap numbered number)

  pub old_or_new : (x : NodeId) → x.number < length h.nodes + count → OldOrNew x
  old_or_new x below = old_or_new_by x below (cases_lt x.number (length h.nodes))

  new_is_no_old : (x : NodeId) (i : ℕ) → HasNode h x → i < count → f x ≡ f (numbered (length h.nodes + i)) → ⊥
  new_is_no_old x i has below e =
      let sent : f x ≡ numbered (length g.nodes + i) = e ∙ news i below in
      let number : (f x).number ≡ length g.nodes + i = ap (λ y. y.number) sent in
      let within : (f x).number < length g.nodes = image_has f h g is x has in
      omega arith

  apart_by : (x y : NodeId) → OldOrNew x → OldOrNew y → f x ≡ f y → x ≡ y
  apart_by x y (inl has) (inl also) e = is.once x y has also e
  apart_by x y (inl has) (inr (i, below, at)) e = absurd (new_is_no_old x i has below (e ∙ ap f at))
  apart_by x y (inr (i, below, at)) (inl has) e = absurd (new_is_no_old y i has below (sym e ∙ ap f at))
  apart_by x y (inr (i, below, at)) (inr (j, within, also)) e =
      let sent : numbered (length g.nodes + i) ≡ numbered (length g.nodes + j) = sym (news i below) ∙ sym (ap f at) ∙ e ∙ ap f also ∙ news j within in
      let number : length g.nodes + i ≡ length g.nodes + j = ap (λ z. z.number) sent in
      let same : i ≡ j = omega arith in
      at ∙ ap (λ k. numbered (length h.nodes + k)) same ∙ sym also

  -- the map keeps old and new nodes apart
  pub apart : (x y : NodeId) → x.number < length h.nodes + count → y.number < length h.nodes + count → f x ≡ f y → x ≡ y
  apart x y below also e = apart_by x y (old_or_new x below) (old_or_new y also) e

  module _ (n : NodeId) (has : HasNode h n) (b : List NodeId) (all : All (HasNode h) b) where
    mention_kept : (t : Mention) → IsMention (length b) count t → mentioned (length g.nodes) (map f b) t ≡ f (mentioned (length h.nodes) b t)
    mention_kept (Old v) below = bound-map f b v below
    mention_kept (Fresh i) below = sym (news i below)

    mention_in : (t : Mention) → IsMention (length b) count t → (mentioned (length h.nodes) b t).number < length h.nodes + count
    mention_in (Old v) below = let old : HasNode h (bound_node b v) = bound_has h b v all below in omega arith
    mention_in (Fresh i) below = omega arith

    left_kept : (l : Left) → IsLeft (length b) l → left_node (f n) (map f b) l ≡ f (left_node n b l)
    left_kept Root below = refl
    left_kept (Variable v) below = bound-map f b v below

    left_in : (l : Left) → IsLeft (length b) l → (left_node n b l).number < length h.nodes + count
    left_in Root below = let old : n.number < length h.nodes = has in omega arith
    left_in (Variable v) below = let old : HasNode h (bound_node b v) = bound_has h b v all below in omega arith

    abbrev pub AreMoves : List Move → Type 0
    AreMoves moves = AllByRecursion (λ t. IsLeft (length b) t.from × IsMention (length b) count t.to) moves

    pub redirect_kept : (moves : List Move) → AreMoves moves → (x : NodeId) → x.number < length h.nodes + count
        → redirection (length g.nodes) (f n) (map f b) moves (f x) ≡ f (redirection (length h.nodes) n b moves x)
    redirect_kept [] ends x below = refl
    redirect_kept (t ∷ moves) ends x below =
        let left : left_node (f n) (map f b) t.from ≡ f (left_node n b t.from) = left_kept t.from ends.0.0 in
        let same : same_node (left_node (f n) (map f b) t.from) (f x) ≡ same_node (left_node n b t.from) x =
        ap (λ y. same_node y (f x)) left ∙ same_kept f (left_node n b t.from) x (apart (left_node n b t.from) x (left_in t.from ends.0.0) below) in
        if_kept f (same_node (left_node (f n) (map f b) t.from) (f x)) (same_node (left_node n b t.from) x)
        (mentioned (length g.nodes) (map f b) t.to) (mentioned (length h.nodes) b t.to)
        (redirection (length g.nodes) (f n) (map f b) moves (f x)) (redirection (length h.nodes) n b moves x)
        same (mention_kept t.to ends.0.1) (redirect_kept moves ends.1 x below)

    woken_kept : (wakes : List ℕ) → AllByRecursion (λ v. v < length b) wakes → (x : NodeId) → HasNode h x → is_woken (map f b) wakes (f x).number ≡ is_woken b wakes x.number
    woken_kept [] below x old = refl
    woken_kept (v ∷ wakes) below x old =
        let here : same_node (bound_node (map f b) v) (f x) ≡ same_node (bound_node b v) x =
        ap (λ y. same_node y (f x)) (bound-map f b v below.0) ∙ same_kept f (bound_node b v) x (is.once (bound_node b v) x (bound_has h b v all below.0) old) in
        ap (λ c. c || is_woken (map f b) wakes (f x).number) here ∙ ap (λ c. same_node (bound_node b v) x || c) (woken_kept wakes below.1 x old)

    module _ (moves : List Move) (ends : AreMoves moves) where
      old_arcs : (arcs : List Arc) → AllByRecursion (λ a. HasNode h a.target) arcs
          → map (redirected_arc (redirection (length g.nodes) (f n) (map f b) moves)) (map (redirected_arc f) arcs) ≡ map (redirected_arc f) (map (redirected_arc (redirection (length h.nodes) n b moves)) arcs)
      old_arcs [] have = refl
      old_arcs (a ∷ arcs) have =
          let old : a.target.number < length h.nodes = have.0 in
          rw (redirect_kept moves ends a.target (omega arith), old_arcs arcs have.1) refl

      new_arcs : (arcs : List FreshArc) → AllByRecursion (λ a. IsMention (length b) count a.to) arcs
          → map (fresh_arc (length g.nodes) (map f b) (redirection (length g.nodes) (f n) (map f b) moves)) arcs ≡ map (redirected_arc f) (map (fresh_arc (length h.nodes) b (redirection (length h.nodes) n b moves)) arcs)
      new_arcs [] mentions = refl
      new_arcs (a ∷ arcs) mentions =
          rw (mention_kept a.to mentions.0, redirect_kept moves ends (mentioned (length h.nodes) b a.to) (mention_in a.to mentions.0), new_arcs arcs mentions.1) refl

      module _ (suspend : ℕ) (wakes : List ℕ) (woken : AllByRecursion (λ v. v < length b) wakes) where
        old_kept : (x : NodeId) (node : Node) → HasNode h x → AllByRecursion (λ a. HasNode h a.target) node.arcs
            → old_node (redirection (length g.nodes) (f n) (map f b) moves) (f n) (map f b) wakes suspend (f x).number (renumbered f node) ≡ renumbered f (old_node (redirection (length h.nodes) n b moves) n b wakes suspend x.number node)
        old_kept x node old have =
            let root : same_node (f x) (f n) ≡ same_node x n = same_kept f x n (is.once x n old has) in
            let arcs_after = map (redirected_arc f) (map (redirected_arc (redirection (length h.nodes) n b moves)) node.arcs) in
            ap (λ arcs. node_with node.label arcs (mark_after (same_node (f x) (f n)) suspend (flags (map (redirected_arc f) node.arcs)) (is_woken (map f b) wakes (f x).number) node.mark)) (old_arcs node.arcs have)
            ∙ ap (λ c. node_with node.label arcs_after (mark_after c suspend (flags (map (redirected_arc f) node.arcs)) (is_woken (map f b) wakes (f x).number) node.mark)) root
            ∙ ap (λ k. node_with node.label arcs_after (mark_after (same_node x n) suspend k (is_woken (map f b) wakes (f x).number) node.mark)) (flags_kept f node.arcs)
            ∙ ap (λ c. node_with node.label arcs_after (mark_after (same_node x n) suspend (flags node.arcs) c node.mark)) (woken_kept wakes woken x old)

        module _ (fresh : List FreshNode) (long : length fresh ≡ count) (mentions : AllByRecursion (λ node. AllByRecursion (λ a. IsMention (length b) count a.to) node.arcs) fresh) where
          node_old : (x : NodeId) (node : Node) → HasNode h x → node_at (rewritten h n b fresh moves wakes suspend) x ≡ Some node → node_at (rewritten g (f n) (map f b) fresh moves wakes suspend) (f x) ≡ Some (renumbered f node)
          node_old x node old at =
              let there : NodeThere h x = node_there h x old in
              let was : Some (old_node (redirection (length h.nodes) n b moves) n b wakes suspend x.number there.0) ≡ Some node = sym (old_after h n b fresh moves wakes suspend x there.0 there.1) ∙ at in
              let same : old_node (redirection (length h.nodes) n b moves) n b wakes suspend x.number there.0 ≡ node = cc in
              old_after g (f n) (map f b) fresh moves wakes suspend (f x) (renumbered f there.0) (is.nodes x there.0 there.1)
              ∙ ap Some (old_kept x there.0 old (targets_in h x there.0 fine there.1) ∙ ap (renumbered f) same)

          node_new_at : (i : ℕ) (node : Node) (made : FreshNode) → i < count → slice_get fresh i ≡ Some made → AllByRecursion (λ a. IsMention (length b) count a.to) made.arcs
              → node_at (rewritten h n b fresh moves wakes suspend) (numbered (length h.nodes + i)) ≡ Some node → node_at (rewritten g (f n) (map f b) fresh moves wakes suspend) (f (numbered (length h.nodes + i))) ≡ Some (renumbered f node)
          node_new_at i node made below from in_range at =
              let was : Some (fresh_node (length h.nodes) b (redirection (length h.nodes) n b moves) made) ≡ Some node = sym (new_after h n b fresh moves wakes suspend i made from) ∙ at in
              let same : fresh_node (length h.nodes) b (redirection (length h.nodes) n b moves) made ≡ node = cc in
              ap (node_at (rewritten g (f n) (map f b) fresh moves wakes suspend)) (news i below)
              ∙ new_after g (f n) (map f b) fresh moves wakes suspend i made from
              ∙ ap (λ arcs. Some (node_with made.label arcs made.mark)) (new_arcs made.arcs in_range)
              ∙ ap (λ z. Some (renumbered f z)) same

          node_new : (i : ℕ) (node : Node) → i < count
              → node_at (rewritten h n b fresh moves wakes suspend) (numbered (length h.nodes + i)) ≡ Some node → node_at (rewritten g (f n) (map f b) fresh moves wakes suspend) (f (numbered (length h.nodes + i))) ≡ Some (renumbered f node)
          node_new i node below at =
              elim (slice_get_cases fresh i).1 [
                | inl (made, within, from, same) ↦ node_new_at i node made below from (each_at (λ z. AllByRecursion (λ a. IsMention (length b) count a.to) z.arcs) fresh i made mentions from) at
                | inr (past, none) ↦ absurd (omega (arith, long))
              ]

          node_by : (x : NodeId) (node : Node) → OldOrNew x → node_at (rewritten h n b fresh moves wakes suspend) x ≡ Some node → node_at (rewritten g (f n) (map f b) fresh moves wakes suspend) (f x) ≡ Some (renumbered f node)
          node_by x node (inl old) at = node_old x node old at
          node_by x node (inr (i, below, new)) at =
              ap (λ y. node_at (rewritten g (f n) (map f b) fresh moves wakes suspend) (f y)) new
              ∙ node_new i node below (sym (ap (node_at (rewritten h n b fresh moves wakes suspend)) new) ∙ at)

          size : length (rewritten h n b fresh moves wakes suspend).nodes ≡ length h.nodes + count
          size = length-rewritten h n b fresh moves wakes suspend ∙ ap (λ c. length h.nodes + c) long

          pub rewritten_kept : Renumbers f (rewritten h n b fresh moves wakes suspend) (rewritten g (f n) (map f b) fresh moves wakes suspend)
          rewritten_kept = record {
            once = λ x y one other e. apart x y (omega (arith, size, one)) (omega (arith, size, other)) e;
            nodes = λ x node at. node_by x node (old_or_new x (let within = has_node (rewritten h n b fresh moves wakes suspend) x node at in omega (arith, size, within))) at;
            root = ap (redirection (length g.nodes) (f n) (map f b) moves) is.root ∙ redirect_kept moves ends h.root (let root : h.root.number < length h.nodes = fine.root in omega arith);
          }
