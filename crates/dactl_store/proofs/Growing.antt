-- A store that gets nodes and arcs at its end.
use Rattle.std.proofs.Common.{◌≡◌, ℕ, zero, suc, ◌+◌, ◌<◌, ◌≤◌, List, [], ◌∷◌, ◌++◌, length, sum_by, refl, sym, ap, ◌∙◌, arith, length-append}
use Rattle.std.specs.List.{slice_get}
use Rattle.std.specs.Option.{IsSomeAnd}
use Rattle.std.proofs.lemmas.List.{append-nil, append_assoc}
use Rattle.std.proofs.lemmas.List.Sums.{sum_by-cons}
use Rattle.dactl_model.specs.declared.graph.NodeId.{NodeId}
use Rattle.dactl_model.specs.declared.graph.Arc.{Arc}
use Rattle.dactl_model.specs.declared.graph.Node.{Node}
use Rattle.dactl_store.specs.Held.{Held, changed_at, with_arcs, IsLast, HasFreeArc}
use Rattle.dactl_store.specs.Contractum.{TakesArcs}

pub length-changed_at : (n : ℕ) (f : Node → Node) (nodes : List Node) → length (changed_at n f nodes) ≡ length nodes
length-changed_at n f [] = refl
length-changed_at zero f (node ∷ nodes) = refl
length-changed_at (suc n) f (node ∷ nodes) = ap suc (length-changed_at n f nodes)

pub no_more : (n : ℕ) (nodes : List Node) → changed_at n (λ node. record node { arcs = node.arcs ++ [] }) nodes ≡ nodes
no_more n [] = refl
no_more zero (node ∷ nodes) = ap (λ arcs. record node { arcs = arcs } ∷ nodes) (append-nil node.arcs)
no_more (suc n) (node ∷ nodes) = ap (λ rest. node ∷ rest) (no_more n nodes)

pub more_and_more : (n : ℕ) (arcs others : List Arc) (nodes : List Node)
    → changed_at n (λ node. record node { arcs = node.arcs ++ others }) (changed_at n (λ node. record node { arcs = node.arcs ++ arcs }) nodes) ≡ changed_at n (λ node. record node { arcs = node.arcs ++ (arcs ++ others) }) nodes
more_and_more n arcs others [] = refl
more_and_more zero arcs others (node ∷ nodes) = ap (λ all. record node { arcs = all } ∷ nodes) (append_assoc node.arcs arcs others)
more_and_more (suc n) arcs others (node ∷ nodes) = ap (λ rest. node ∷ rest) (more_and_more n arcs others nodes)

pub changed_last : (n : ℕ) (f : Node → Node) (nodes : List Node) (node : Node) → n ≡ length nodes → changed_at n f (nodes ++ node ∷ []) ≡ nodes ++ f node ∷ []
changed_last zero f [] node last = refl
changed_last (suc n) f [] node last = absurd (omega arith)
changed_last zero f (x ∷ nodes) node last = absurd (omega arith)
changed_last (suc n) f (x ∷ nodes) node last = ap (λ rest. x ∷ rest) (changed_last n f nodes node (omega arith))

pub changed_has : (P Q : Node → Type 0) (n : ℕ) (f : Node → Node) (nodes : List Node) → ((node : Node) → P node → Q (f node)) → IsSomeAnd (slice_get nodes n) P → IsSomeAnd (slice_get (changed_at n f nodes) n) Q
changed_has P Q n f [] all is = absurd is
changed_has P Q zero f (node ∷ nodes) all is = all node is
changed_has P Q (suc n) f (node ∷ nodes) all is = changed_has P Q n f nodes all is

pub arcs_more : (n : ℕ) (arcs : List Arc) (nodes : List Node) → n < length nodes
    → sum_by (λ node. length node.arcs) (changed_at n (λ node. record node { arcs = node.arcs ++ arcs }) nodes) ≡ sum_by (λ node. length node.arcs) nodes + length arcs
arcs_more n arcs [] below = absurd (omega arith)
arcs_more zero arcs (node ∷ nodes) below =
    sum_by-cons (λ x. length x.arcs) (record node { arcs = node.arcs ++ arcs }) nodes ∙ omega (arith, length-append node.arcs arcs, sum_by-cons (λ x. length x.arcs) node nodes)
arcs_more (suc n) arcs (node ∷ nodes) below =
    sum_by-cons (λ x. length x.arcs) node (changed_at n (λ x. record x { arcs = x.arcs ++ arcs }) nodes) ∙ omega (arith, arcs_more n arcs nodes (omega arith), sum_by-cons (λ x. length x.arcs) node nodes)

-- the store in which the last node has further arcs
abbrev pub grown : Held → NodeId → List Arc → Held
grown held n arcs = record held { graph = with_arcs held.graph n arcs }

pub grown_none : (held : Held) (n : NodeId) → held ≡ grown held n []
grown_none held n = ap (λ nodes. record held { graph = record { nodes = nodes; root = held.graph.root } }) (sym (no_more n.number held.graph.nodes))

pub grown_more : (held : Held) (n : NodeId) (arcs others : List Arc) → grown (grown held n arcs) n others ≡ grown held n (arcs ++ others)
grown_more held n arcs others = ap (λ nodes. record held { graph = record { nodes = nodes; root = held.graph.root } }) (more_and_more n.number arcs others held.graph.nodes)

pub grown_free : (held : Held) (n : NodeId) (count : ℕ) (arcs : List Arc) → TakesArcs held n count → length arcs < count → HasFreeArc (grown held n arcs)
grown_free held n count arcs takes less = omega (arith, arcs_more n.number arcs held.graph.nodes (omega (arith, takes.last)), takes.free)

pub grown_last : (held : Held) (n : NodeId) (count : ℕ) (arcs : List Arc) → TakesArcs held n count → length arcs < count → IsLast (grown held n arcs).graph n
grown_last held n count arcs takes less = record {
  last = takes.last ∙ sym (length-changed_at n.number (λ node. record node { arcs = node.arcs ++ arcs }) held.graph.nodes);
  few = changed_has (λ node. length node.arcs + count ≤ 16) (λ node. length node.arcs < 16) n.number (λ node. record node { arcs = node.arcs ++ arcs }) held.graph.nodes
      (λ node is. omega (arith, length-append node.arcs arcs)) takes.few;
}
