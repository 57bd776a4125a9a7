-- What stands at a node after a step.
use Rattle.std.proofs.Common.{◌≡◌, ℕ, zero, suc, ◌+◌, List, [], ◌∷◌, ◌++◌, map, length, Some, slice_get, ◌∙◌, ap, arith, length-append}
use Rattle.std.proofs.lemmas.List.{length-map}
use Rattle.dactl_model.specs.declared.graph.NodeId.{NodeId}
use Rattle.dactl_model.specs.declared.graph.Node.{Node}
use Rattle.dactl_model.specs.declared.graph.Graph.{Graph}
use Rattle.dactl_model.specs.declared.program.FreshNode.{FreshNode}
use Rattle.dactl_model.specs.declared.program.Move.{Move}
use Rattle.dactl_model.specs.Graphs.{node_at}
use Rattle.dactl_model.specs.Firing.{redirection, fresh_node, old_node, old_nodes, rewritten}
use Rattle.dactl_model.specs.Noting.{noted_node, noted_nodes, noted}
use Rattle.dactl_model.proofs.KeptFire.{length-old_nodes}

pub get_append_left : {A : Type 0} (xs ys : List A) (i : ℕ) (x : A) → slice_get xs i ≡ Some x → slice_get (xs ++ ys) i ≡ Some x
get_append_left [] ys i x at = absurd (cc at)
get_append_left (z ∷ xs) ys zero x at = at
get_append_left (z ∷ xs) ys (suc i) x at = get_append_left xs ys i x at

pub get_append_right : {A : Type 0} (xs ys : List A) (n i : ℕ) → length xs ≡ n → slice_get (xs ++ ys) (n + i) ≡ slice_get ys i
get_append_right [] ys n i long = let same : n + i ≡ i = omega arith in ap (slice_get ys) same
get_append_right (z ∷ xs) ys zero i long = absurd (omega arith)
get_append_right (z ∷ xs) ys (suc n) i long =
    let same : suc n + i ≡ suc (n + i) = omega arith in
    ap (slice_get ((z ∷ xs) ++ ys)) same ∙ get_append_right xs ys n i (omega arith)

old_at : (f : NodeId → NodeId) (n : NodeId) (h : List NodeId) (wakes : List ℕ) (suspend : ℕ) (k : ℕ) (nodes : List Node) (i : ℕ) (node : Node) → slice_get nodes i ≡ Some node
    → slice_get (old_nodes f n h wakes suspend k nodes) i ≡ Some (old_node f n h wakes suspend (k + i) node)
old_at f n h wakes suspend k [] i node at = absurd (cc at)
old_at f n h wakes suspend k (x ∷ nodes) zero node at =
    let same : x ≡ node = cc in
    let number : k ≡ k + 0 = omega arith in
    ap (λ y. Some (old_node f n h wakes suspend k y)) same ∙ ap (λ j. Some (old_node f n h wakes suspend j node)) number
old_at f n h wakes suspend k (x ∷ nodes) (suc i) node at =
    let number : (k + 1) + i ≡ k + suc i = omega arith in
    old_at f n h wakes suspend (k + 1) nodes i node at ∙ ap (λ j. Some (old_node f n h wakes suspend j node)) number

-- an old node after a firing
pub old_after : (g : Graph) (n : NodeId) (h : List NodeId) (fresh : List FreshNode) (moves : List Move) (wakes : List ℕ) (suspend : ℕ) (x : NodeId) (node : Node) → node_at g x ≡ Some node
    → node_at (rewritten g n h fresh moves wakes suspend) x ≡ Some (old_node (redirection (length g.nodes) n h moves) n h wakes suspend x.number node)
old_after g n h fresh moves wakes suspend x node at =
    let f = redirection (length g.nodes) n h moves in
    let number : 0 + x.number ≡ x.number = omega arith in
    get_append_left (old_nodes f n h wakes suspend 0 g.nodes) (map (fresh_node (length g.nodes) h f) fresh) x.number (old_node f n h wakes suspend x.number node)
    (old_at f n h wakes suspend 0 g.nodes x.number node at ∙ ap (λ j. Some (old_node f n h wakes suspend j node)) number)

pub get_map : {A B : Type 0} (v : A → B) (xs : List A) (i : ℕ) (x : A) → slice_get xs i ≡ Some x → slice_get (map v xs) i ≡ Some (v x)
get_map v [] i x at = absurd (cc at)
get_map v (y ∷ xs) zero x at = let same : y ≡ x = cc in ap (λ z. Some (v z)) same
get_map v (y ∷ xs) (suc i) x at = get_map v xs i x at

-- a new node after a firing
pub new_after : (g : Graph) (n : NodeId) (h : List NodeId) (fresh : List FreshNode) (moves : List Move) (wakes : List ℕ) (suspend : ℕ) (i : ℕ) (node : FreshNode) → slice_get fresh i ≡ Some node
    → node_at (rewritten g n h fresh moves wakes suspend) (record { number = length g.nodes + i }) ≡ Some (fresh_node (length g.nodes) h (redirection (length g.nodes) n h moves) node)
new_after g n h fresh moves wakes suspend i node at =
    let f = redirection (length g.nodes) n h moves in
    get_append_right (old_nodes f n h wakes suspend 0 g.nodes) (map (fresh_node (length g.nodes) h f) fresh) (length g.nodes) i (length-old_nodes f n h wakes suspend 0 g.nodes)
    ∙ get_map (fresh_node (length g.nodes) h f) fresh i node at

-- how many nodes there are after a firing
pub length-rewritten : (g : Graph) (n : NodeId) (h : List NodeId) (fresh : List FreshNode) (moves : List Move) (wakes : List ℕ) (suspend : ℕ) → length (rewritten g n h fresh moves wakes suspend).nodes ≡ length g.nodes + length fresh
length-rewritten g n h fresh moves wakes suspend =
    let f = redirection (length g.nodes) n h moves in
    length-append (old_nodes f n h wakes suspend 0 g.nodes) (map (fresh_node (length g.nodes) h f) fresh) ∙ simp (length-old_nodes, length-map)

noted_at : (n : NodeId) (k : ℕ) (nodes : List Node) (i : ℕ) (node : Node) → slice_get nodes i ≡ Some node → slice_get (noted_nodes n k nodes) i ≡ Some (noted_node n (k + i) node)
noted_at n k [] i node at = absurd (cc at)
noted_at n k (x ∷ nodes) zero node at =
    let same : x ≡ node = cc in
    let number : k ≡ k + 0 = omega arith in
    ap (λ y. Some (noted_node n k y)) same ∙ ap (λ j. Some (noted_node n j node)) number
noted_at n k (x ∷ nodes) (suc i) node at =
    let number : (k + 1) + i ≡ k + suc i = omega arith in
    noted_at n (k + 1) nodes i node at ∙ ap (λ j. Some (noted_node n j node)) number

-- a node after a notification
pub noted_after : (g : Graph) (n x : NodeId) (node : Node) → node_at g x ≡ Some node → node_at (noted g n) x ≡ Some (noted_node n x.number node)
noted_after g n x node at = let number : 0 + x.number ≡ x.number = omega arith in noted_at n 0 g.nodes x.number node at ∙ ap (λ j. Some (noted_node n j node)) number
