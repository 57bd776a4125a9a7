-- The graph once new nodes are added and all arcs are redirected, its versions, and the nodes that are active anew.
use Rattle.std.proofs.Common.{◌≡◌, ℕ, ◌+◌, ◌≤◌, not, ◌&&◌, ◌||◌, cond, eqb, List, [], ◌∷◌, ◌++◌, length, map, sum_by, refl, sym, ap, ◌∙◌, arith, inl, inr}
use Rattle.std.proofs.lemmas.Bool.{cases_Bool}
use Rattle.std.proofs.Math.Bool.{and-true}
use Rattle.std.proofs.lemmas.Option.{slice_get_past}
use Rattle.std.proofs.lemmas.List.{map-append, length-map}
use Rattle.std.proofs.lemmas.List.Sums.{sum_by-cons}
use Rattle.dactl_model.specs.declared.graph.NodeId.{NodeId}
use Rattle.dactl_model.specs.declared.graph.Arc.{Arc}
use Rattle.dactl_model.specs.declared.graph.Node.{Node}
use Rattle.dactl_model.specs.declared.graph.Graph.{Graph}
use Rattle.dactl_model.specs.declared.program.FreshArc.{FreshArc}
use Rattle.dactl_model.specs.declared.program.FreshNode.{FreshNode}
use Rattle.dactl_model.specs.declared.program.Move.{Move}
use Rattle.dactl_model.specs.Acts.{marks_active, active_in, acts_from}
use Rattle.dactl_model.specs.Firing.{redirected_arc, fresh_arc, fresh_node, left_node, mentioned, redirection, old_node, old_nodes, rewritten}
use Rattle.dactl_model.specs.Patterns.{same_node}
use Rattle.dactl_model.proofs.KeptFire.{length-old_nodes}
use Rattle.dactl_store.specs.Redirecting.{sent, redirected_node, redirected}
use Rattle.dactl_store.proofs.Acting.{is_act}
use Rattle.dactl_firing.specs.Waking.{with_nodes, new_acts}
use Rattle.dactl_firing.specs.Site.{pairs_of}

-- the pairs send a node where the redirections do
pub pairs_send : (first : ℕ) (n : NodeId) (h : List NodeId) (moves : List Move) (x : NodeId) → sent (pairs_of first n h moves) x ≡ redirection first n h moves x
pairs_send first n h [] x = refl
pairs_send first n h (move ∷ moves) x = ap (cond (same_node (left_node n h move.from) x) (mentioned first h move.to)) (pairs_send first n h moves x)

-- two maps that are one
module _ (f f' : NodeId → NodeId) (same : (x : NodeId) → f x ≡ f' x) where
  arcs_redirected : (arcs : List Arc) → map (redirected_arc f) (map (redirected_arc (λ x. x)) arcs) ≡ map (redirected_arc f') arcs
  arcs_redirected [] = refl
  arcs_redirected (a ∷ arcs) = rw (same a.target, arcs_redirected arcs) refl

  old_redirected : (n : NodeId) (h : List NodeId) (wakes : List ℕ) (suspend k : ℕ) (nodes : List Node) → map (redirected_node f) (old_nodes (λ x. x) n h wakes suspend k nodes) ≡ old_nodes f' n h wakes suspend k nodes
  old_redirected n h wakes suspend k [] = refl
  old_redirected n h wakes suspend k (node ∷ nodes) = rw (arcs_redirected node.arcs, old_redirected n h wakes suspend (k + 1) nodes) refl

  fresh_arcs_redirected : (m : ℕ) (h : List NodeId) (arcs : List FreshArc) → map (redirected_arc f) (map (fresh_arc m h (λ x. x)) arcs) ≡ map (fresh_arc m h f') arcs
  fresh_arcs_redirected m h [] = refl
  fresh_arcs_redirected m h (a ∷ arcs) = rw (same (mentioned m h a.to), fresh_arcs_redirected m h arcs) refl

  fresh_redirected : (m : ℕ) (h : List NodeId) (fresh : List FreshNode) → map (redirected_node f) (map (fresh_node m h (λ x. x)) fresh) ≡ map (fresh_node m h f') fresh
  fresh_redirected m h [] = refl
  fresh_redirected m h (node ∷ fresh) = rw (fresh_arcs_redirected m h node.arcs, fresh_redirected m h fresh) refl

  -- old and new nodes together
  pub all_redirected : (n : NodeId) (h : List NodeId) (wakes : List ℕ) (suspend m : ℕ) (nodes : List Node) (fresh : List FreshNode)
      → map (redirected_node f) (old_nodes (λ x. x) n h wakes suspend 0 nodes ++ map (fresh_node m h (λ x. x)) fresh) ≡ old_nodes f' n h wakes suspend 0 nodes ++ map (fresh_node m h f') fresh
  all_redirected n h wakes suspend m nodes fresh =
      map-append (redirected_node f) (old_nodes (λ x. x) n h wakes suspend 0 nodes) (map (fresh_node m h (λ x. x)) fresh)
      ∙ ap (λ news. map (redirected_node f) (old_nodes (λ x. x) n h wakes suspend 0 nodes) ++ news) (fresh_redirected m h fresh)
      ∙ ap (λ olds. olds ++ map (fresh_node m h f') fresh) (old_redirected n h wakes suspend 0 nodes)

pub arcs_settled : (n : NodeId) (h : List NodeId) (wakes : List ℕ) (suspend k : ℕ) (nodes : List Node) → sum_by (λ node. length node.arcs) (old_nodes (λ x. x) n h wakes suspend k nodes) ≡ sum_by (λ node. length node.arcs) nodes
arcs_settled n h wakes suspend k [] = refl
arcs_settled n h wakes suspend k (node ∷ nodes) =
    sum_by-cons (λ x. length x.arcs) (old_node (λ x. x) n h wakes suspend k node) (old_nodes (λ x. x) n h wakes suspend (k + 1) nodes)
    ∙ omega (arith, length-map node.arcs (redirected_arc (λ x. x)), arcs_settled n h wakes suspend (k + 1) nodes, sum_by-cons (λ x. length x.arcs) node nodes)

-- at most as many are active anew as there are nodes
pub acts_few : (before : Graph) (n : NodeId) (k : ℕ) (nodes : List Node) → length (acts_from before n k nodes) ≤ length nodes
acts_few before n k [] = omega arith
acts_few before n k (node ∷ nodes) = elim (cases_Bool (is_act before n.number k (marks_active node.mark))) [
  | inl act ↦ rw act (omega (arith, acts_few before n (k + 1) nodes))
  | inr none ↦ rw none (omega (arith, acts_few before n (k + 1) nodes))
]

acts-append : (before : Graph) (n : NodeId) (k at : ℕ) (nodes others : List Node) → at ≡ k + length nodes → acts_from before n k (nodes ++ others) ≡ acts_from before n k nodes ++ acts_from before n at others
acts-append before n k at [] others is = ap (λ i. acts_from before n i others) (let e : k ≡ at = omega arith in e)
acts-append before n k at (node ∷ nodes) others is =
    let rest = acts-append before n (k + 1) at nodes others (omega arith) in
    elim (cases_Bool (is_act before n.number k (marks_active node.mark))) [
      | inl act ↦ rw act (ap (λ acts. record { number = k } ∷ acts) rest)
      | inr none ↦ rw none rest
    ]

-- a redirection changes nobody's activity
acts_old : (f f' : NodeId → NodeId) (before : Graph) (n : NodeId) (h : List NodeId) (wakes : List ℕ) (suspend k : ℕ) (nodes : List Node) → acts_from before n k (old_nodes f n h wakes suspend k nodes) ≡ acts_from before n k (old_nodes f' n h wakes suspend k nodes)
acts_old f f' before n h wakes suspend k [] = refl
acts_old f f' before n h wakes suspend k (node ∷ nodes) =
    ap (λ rest. cond (is_act before n.number k (marks_active (old_node f n h wakes suspend k node).mark)) (record { number = k } ∷ rest) rest) (acts_old f f' before n h wakes suspend (k + 1) nodes)

acts_fresh : (before : Graph) (n : NodeId) (m : ℕ) (h : List NodeId) (f : NodeId → NodeId) (k : ℕ) (fresh : List FreshNode) → length before.nodes ≤ k → acts_from before n k (map (fresh_node m h f) fresh) ≡ new_acts k fresh
acts_fresh before n m h f k [] new = refl
acts_fresh before n m h f k (node ∷ fresh) new =
    let rest = acts_fresh before n m h f (k + 1) fresh (omega arith) in
    let plain : is_act before n.number k (marks_active node.mark) ≡ marks_active node.mark =
    ap (λ o. marks_active node.mark && (not (active_in o) || eqb k n.number)) (slice_get_past before.nodes k new) ∙ and-true (marks_active node.mark) in
    rw plain (ap (λ acts. cond (marks_active node.mark) (record { number = k } ∷ acts) acts) rest)

-- old and new nodes together
pub acts_made : (f f' : NodeId → NodeId) (before : Graph) (n : NodeId) (h : List NodeId) (wakes : List ℕ) (suspend m : ℕ) (fresh : List FreshNode) → m ≡ length before.nodes → length (old_nodes f n h wakes suspend 0 before.nodes) ≡ m
    → acts_from before n 0 (old_nodes f' n h wakes suspend 0 before.nodes) ++ new_acts m fresh ≡ acts_from before n 0 (old_nodes f n h wakes suspend 0 before.nodes ++ map (fresh_node m h f) fresh)
acts_made f f' before n h wakes suspend m fresh count long =
    sym (acts-append before n 0 m (old_nodes f n h wakes suspend 0 before.nodes) (map (fresh_node m h f) fresh) (omega (arith, long))
    ∙ ap (λ acts. acts ++ acts_from before n m (map (fresh_node m h f) fresh)) (acts_old f f' before n h wakes suspend 0 before.nodes)
    ∙ ap (λ acts. acts_from before n 0 (old_nodes f' n h wakes suspend 0 before.nodes) ++ acts) (acts_fresh before n m h f m fresh (omega (arith, count))))

module _ (g : Graph) (n : NodeId) (h : List NodeId) (fresh : List FreshNode) (moves : List Move) (wakes : List ℕ) (suspend : ℕ) where
  -- the graph once its nodes are settled, new ones are added, and all arcs are redirected
  pub graph_made : (f : NodeId → NodeId) (second third : Graph) → ((x : NodeId) → f x ≡ redirection (length g.nodes) n h moves x)
      → second ≡ with_nodes g (old_nodes (λ x. x) n h wakes suspend 0 g.nodes ++ map (fresh_node (length g.nodes) h (λ x. x)) fresh) → third ≡ redirected f second → third ≡ rewritten g n h fresh moves wakes suspend
  graph_made f second third same added sent =
      let m = length g.nodes in
      let f' : NodeId → NodeId = redirection m n h moves in
      let nodes : map (redirected_node f) (old_nodes (λ x. x) n h wakes suspend 0 g.nodes ++ map (fresh_node m h (λ x. x)) fresh) ≡ old_nodes f' n h wakes suspend 0 g.nodes ++ map (fresh_node m h f') fresh = all_redirected f f' same n h wakes suspend m g.nodes fresh in
      let root : f g.root ≡ f' g.root = same g.root in
      sent ∙ ap (redirected f) added ∙ ap (λ ns. record { nodes = ns; root = f g.root }) nodes ∙ ap (λ r. record { nodes = old_nodes f' n h wakes suspend 0 g.nodes ++ map (fresh_node m h f') fresh; root = r }) root

  -- the list of those woken and the active ones among the new nodes
  pub list_made : (first : Graph) (settled list : List NodeId) → first ≡ with_nodes g (old_nodes (λ x. x) n h wakes suspend 0 g.nodes) → settled ≡ acts_from g n 0 first.nodes → list ≡ settled ++ new_acts (length g.nodes) fresh
      → list ≡ acts_from g n 0 (rewritten g n h fresh moves wakes suspend).nodes
  list_made first settled list is woken whole =
      let m = length g.nodes in
      let f' : NodeId → NodeId = redirection m n h moves in
      whole ∙ ap (λ acts. acts ++ new_acts m fresh) (woken ∙ ap (λ x. acts_from g n 0 x.nodes) is)
      ∙ acts_made f' (λ x. x) g n h wakes suspend m fresh refl (length-old_nodes f' n h wakes suspend 0 g.nodes)
