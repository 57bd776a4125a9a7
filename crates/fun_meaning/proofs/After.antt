-- What stands at a node after a step.
use Rattle.std.proofs.Common.{◌≡◌, ℕ, zero, suc, ◌+◌, List, [], ◌∷◌, ◌++◌, map, length, Option, Some, None, slice_get, refl, sym, ◌∙◌, ap, subst, arith, inl, inr}
use Rattle.std.specs.List.{AllByRecursion}
use Rattle.std.proofs.lemmas.List.Elements.{recursion_from_All, All-map}
use Rattle.std.proofs.lemmas.Simd.{map-map}
use Rattle.std.proofs.lemmas.Option.{slice_get_cases}
use Rattle.dactl_model.specs.declared.graph.NodeId.{NodeId}
use Rattle.dactl_model.specs.declared.graph.Node.{Node}
use Rattle.dactl_model.specs.declared.graph.Graph.{Graph}
use Rattle.dactl_model.specs.declared.program.FreshNode.{FreshNode}
use Rattle.dactl_model.specs.declared.program.Move.{Move}
use Rattle.dactl_model.specs.Graphs.{node_at, HasNode, IsFineNode, IsWellFormed}
use Rattle.dactl_model.specs.Firing.{redirection, redirected_arc, fresh_arc, fresh_node, old_node, old_nodes, rewritten}
use Rattle.dactl_model.specs.Noting.{cleared, noted_node, noted_nodes, noted}
use Rattle.dactl_model.specs.Versions.{Content, content_of}
use Rattle.dactl_model.proofs.KeptFire.{length-old_nodes}
use Rattle.dactl_model.proofs.Pairs.{All-slice_get}
use Rattle.fun_meaning.proofs.Zips.{each_weaken}
use Rattle.fun_meaning.proofs.Backwards.{IsCarried, IsThere, IsClosed}
use Rattle.fun_meaning.proofs.Contractum.{AreNew}

get_append_left : {A : Type 0} (xs ys : List A) (i : ℕ) (x : A) → slice_get xs i ≡ Some x → slice_get (xs ++ ys) i ≡ Some x
get_append_left [] ys i x at = absurd (cc at)
get_append_left (z ∷ xs) ys zero x at = at
get_append_left (z ∷ xs) ys (suc i) x at = get_append_left xs ys i x at

pub get_append_right : {A : Type 0} (xs ys : List A) (n i : ℕ) → length xs ≡ n → slice_get (xs ++ ys) (n + i) ≡ slice_get ys i
get_append_right [] ys n i long = let same : n + i ≡ i = omega arith in ap (slice_get ys) same
get_append_right (z ∷ xs) ys zero i long = absurd (omega arith)
get_append_right (z ∷ xs) ys (suc n) i long =
    let same : suc n + i ≡ suc (n + i) = omega arith in
    ap (slice_get ((z ∷ xs) ++ ys)) same ∙ get_append_right xs ys n i (omega arith)

old_at : (f : NodeId → NodeId) (n : NodeId) (h : List NodeId) (wakes : List ℕ) (k : ℕ) (nodes : List Node) (i : ℕ) (node : Node) → slice_get nodes i ≡ Some node
    → slice_get (old_nodes f n h wakes 0 k nodes) i ≡ Some (old_node f n h wakes 0 (k + i) node)
old_at f n h wakes k [] i node at = absurd (cc at)
old_at f n h wakes k (x ∷ nodes) zero node at =
    let same : x ≡ node = cc in
    let number : k ≡ k + 0 = omega arith in
    ap (λ y. Some (old_node f n h wakes 0 k y)) same ∙ ap (λ j. Some (old_node f n h wakes 0 j node)) number
old_at f n h wakes k (x ∷ nodes) (suc i) node at =
    let number : (k + 1) + i ≡ k + suc i = omega arith in
    old_at f n h wakes (k + 1) nodes i node at ∙ ap (λ j. Some (old_node f n h wakes 0 j node)) number

-- the graph after a firing that does not make its root wait again
abbrev pub after_firing : Graph → NodeId → List NodeId → List FreshNode → List Move → List ℕ → Graph
after_firing g n h fresh moves wakes = rewritten g n h fresh moves wakes 0

-- an old node after a firing
pub old_after : (g : Graph) (n : NodeId) (h : List NodeId) (fresh : List FreshNode) (moves : List Move) (wakes : List ℕ) (x : NodeId) (node : Node) → node_at g x ≡ Some node
    → node_at (after_firing g n h fresh moves wakes) x ≡ Some (old_node (redirection (length g.nodes) n h moves) n h wakes 0 x.number node)
old_after g n h fresh moves wakes x node at =
    let f = redirection (length g.nodes) n h moves in
    let number : 0 + x.number ≡ x.number = omega arith in
    get_append_left (old_nodes f n h wakes 0 0 g.nodes) (map (fresh_node (length g.nodes) h f) fresh) x.number (old_node f n h wakes 0 x.number node)
    (old_at f n h wakes 0 g.nodes x.number node at ∙ ap (λ j. Some (old_node f n h wakes 0 j node)) number)

pub get_map : {A B : Type 0} (v : A → B) (xs : List A) (i : ℕ) (x : A) → slice_get xs i ≡ Some x → slice_get (map v xs) i ≡ Some (v x)
get_map v [] i x at = absurd (cc at)
get_map v (y ∷ xs) zero x at = let same : y ≡ x = cc in ap (λ z. Some (v z)) same
get_map v (y ∷ xs) (suc i) x at = get_map v xs i x at

-- a new node after a firing
pub new_after : (g : Graph) (n : NodeId) (h : List NodeId) (fresh : List FreshNode) (moves : List Move) (wakes : List ℕ) (i : ℕ) (node : FreshNode) → slice_get fresh i ≡ Some node
    → node_at (after_firing g n h fresh moves wakes) (record { number = length g.nodes + i }) ≡ Some (fresh_node (length g.nodes) h (redirection (length g.nodes) n h moves) node)
new_after g n h fresh moves wakes i node at =
    let f = redirection (length g.nodes) n h moves in
    get_append_right (old_nodes f n h wakes 0 0 g.nodes) (map (fresh_node (length g.nodes) h f) fresh) (length g.nodes) i (length-old_nodes f n h wakes 0 0 g.nodes)
    ∙ get_map (fresh_node (length g.nodes) h f) fresh i node at

carried_content : (f : NodeId → NodeId) (n : NodeId) (h : List NodeId) (wakes : List ℕ) (k : ℕ) (o : Option Node) (c : Content) (after : Option Node) → ((node : Node) → o ≡ Some node → after ≡ Some (old_node f n h wakes 0 k node)) → content_of o ≡ Some c
    → content_of after ≡ Some (record { label = c.label; targets = map f c.targets })
carried_content f n h wakes k None c after at is = absurd (cc is)
carried_content f n h wakes k (Some node) c after at is =
    let same : record { label = node.label; targets = map (λ a. a.target) node.arcs } ≡ c = cc in
    let targets : map (λ a. a.target) (map (redirected_arc f) node.arcs) ≡ map f (map (λ a. a.target) node.arcs) =
    map-map (λ a. a.target) (redirected_arc f) node.arcs ∙ sym (map-map f (λ a. a.target) node.arcs) in
    ap content_of (at node refl) ∙ ap (λ ts. Some (record { label = node.label; targets = ts })) targets ∙ ap (λ d. Some (record { label = d.label; targets = map f d.targets })) same

pub carried_fired : (g : Graph) (n : NodeId) (h : List NodeId) (fresh : List FreshNode) (moves : List Move) (wakes : List ℕ) → IsCarried (redirection (length g.nodes) n h moves) g (after_firing g n h fresh moves wakes)
carried_fired g n h fresh moves wakes x c is =
    carried_content (redirection (length g.nodes) n h moves) n h wakes x.number (node_at g x) c (node_at (after_firing g n h fresh moves wakes) x) (λ node at. old_after g n h fresh moves wakes x node at) is

pub new_fired : (g : Graph) (n : NodeId) (h : List NodeId) (fresh : List FreshNode) (moves : List Move) (wakes : List ℕ)
    → AreNew (after_firing g n h fresh moves wakes) (length g.nodes) h (redirection (length g.nodes) n h moves) fresh
new_fired g n h fresh moves wakes j node at =
    let f = redirection (length g.nodes) n h moves in
    ap content_of (new_after g n h fresh moves wakes j node at)
    ∙ ap (λ ts. Some (record { label = node.label; targets = ts })) (map-map (λ a. a.target) (fresh_arc (length g.nodes) h f) node.arcs)

noted_at : (n : NodeId) (k : ℕ) (nodes : List Node) (i : ℕ) (node : Node) → slice_get nodes i ≡ Some node → slice_get (noted_nodes n k nodes) i ≡ Some (noted_node n (k + i) node)
noted_at n k [] i node at = absurd (cc at)
noted_at n k (x ∷ nodes) zero node at =
    let same : x ≡ node = cc in
    let number : k ≡ k + 0 = omega arith in
    ap (λ y. Some (noted_node n k y)) same ∙ ap (λ j. Some (noted_node n j node)) number
noted_at n k (x ∷ nodes) (suc i) node at =
    let number : (k + 1) + i ≡ k + suc i = omega arith in
    noted_at n (k + 1) nodes i node at ∙ ap (λ j. Some (noted_node n j node)) number

-- a node after a notification
pub noted_after : (g : Graph) (n x : NodeId) (node : Node) → node_at g x ≡ Some node → node_at (noted g n) x ≡ Some (noted_node n x.number node)
noted_after g n x node at = let number : 0 + x.number ≡ x.number = omega arith in noted_at n 0 g.nodes x.number node at ∙ ap (λ j. Some (noted_node n j node)) number

noted_content : (n : NodeId) (k : ℕ) (o : Option Node) (c : Content) (after : Option Node) → ((node : Node) → o ≡ Some node → after ≡ Some (noted_node n k node)) → content_of o ≡ Some c
    → content_of after ≡ Some (record { label = c.label; targets = map (λ x. x) c.targets })
noted_content n k None c after at is = absurd (cc is)
noted_content n k (Some node) c after at is =
    let same : record { label = node.label; targets = map (λ a. a.target) node.arcs } ≡ c = cc in
    let targets : map (λ a. a.target) (map (cleared n) node.arcs) ≡ map (λ x. x) (map (λ a. a.target) node.arcs) =
    map-map (λ a. a.target) (cleared n) node.arcs ∙ sym (map-map (λ x. x) (λ a. a.target) node.arcs) in
    ap content_of (at node refl) ∙ ap (λ ts. Some (record { label = node.label; targets = ts })) targets ∙ ap (λ d. Some (record { label = d.label; targets = map (λ x. x) d.targets })) same

pub carried_noted : (g : Graph) (n : NodeId) → IsCarried (λ x. x) g (noted g n)
carried_noted g n x c is = noted_content n x.number (node_at g x) c (node_at (noted g n) x) (λ node at. noted_after g n x node at) is

-- the node with its number
abbrev pub NodeThere : Graph → NodeId → Type 0
NodeThere g n = (node : Node) × (node_at g n ≡ Some node)

pub node_there : (g : Graph) (n : NodeId) → HasNode g n → NodeThere g n
node_there g n has =
    elim (slice_get_cases g.nodes n.number).1 [
      | inl (node, below, at, same) ↦ (node, at)
      | inr (past, none) ↦ absurd (omega arith)
    ]

pub is_there : (g : Graph) (n : NodeId) → HasNode g n → IsThere g n
is_there g n has = let there = node_there g n has in (record { label = there.0.label; targets = map (λ a. a.target) there.0.arcs }, ap content_of there.1)

-- the targets of a node are nodes
pub targets_in : (g : Graph) (n : NodeId) (node : Node) → IsWellFormed g → node_at g n ≡ Some node → AllByRecursion (HasNode g) (map (λ a. a.target) node.arcs)
targets_in g n node fine at =
    let here : IsFineNode (length g.nodes) node = All-slice_get (IsFineNode (length g.nodes)) g.nodes n.number node fine.each at in
    recursion_from_All (HasNode g) (map (λ a. a.target) node.arcs) (All-map (HasNode g) (λ a. a.target) node.arcs here.targets)

closed_at : (g : Graph) (x : NodeId) (o : Option Node) (c : Content) → IsWellFormed g → node_at g x ≡ o → content_of o ≡ Some c → AllByRecursion (IsThere g) c.targets
closed_at g x None c fine at is = absurd (cc is)
closed_at g x (Some node) c fine at is =
    let same : record { label = node.label; targets = map (λ a. a.target) node.arcs } ≡ c = cc in
    subst (λ d. AllByRecursion (IsThere g) d.targets) same (each_weaken (HasNode g) (IsThere g) (is_there g) (map (λ a. a.target) node.arcs) (targets_in g x node fine at))

pub closed_graph : (g : Graph) → IsWellFormed g → IsClosed g
closed_graph g fine x c is = closed_at g x (node_at g x) c fine refl is
