-- A firing that redirects its root keeps the invariant.
use Rattle.std.proofs.Common.{◌≡◌, ℕ, ◌+◌, ◌<◌, true, false, List, length, Some, sym, ◌∙◌, subst, ◌⊎◌, inl, inr}
use Rattle.std.specs.List.{AllByRecursion}
use Rattle.dactl_model.specs.declared.graph.NodeId.{NodeId}
use Rattle.dactl_model.specs.declared.graph.Mark.TheVariants.{Active}
use Rattle.dactl_model.specs.declared.graph.Node.{Node}
use Rattle.dactl_model.specs.declared.graph.Graph.{Graph}
use Rattle.dactl_model.specs.declared.program.Mention.{Mention}
use Rattle.dactl_model.specs.declared.program.FreshNode.{FreshNode}
use Rattle.dactl_model.specs.declared.program.Program.{Program}
use Rattle.dactl_model.specs.Graphs.{node_at, HasNode, IsWellFormed}
use Rattle.dactl_model.specs.Matching.{bound_node}
use Rattle.dactl_model.specs.Firing.{mentioned, redirection}
use Rattle.dactl_model.proofs.Pairs.{has_node}
use Rattle.fun_meaning.specs.declared.tree.Fun.{Fun}
use Rattle.fun_meaning.specs.Meaning.{symbol_names}
use Rattle.fun_meaning.specs.Translation.{is_settled, NoOperation, IsTidyFresh, IsProgramOf, root_to}
use Rattle.fun_meaning.specs.Invariant.{FinishedAt, Finished, IsTidy}
use Rattle.fun_meaning.proofs.Zips.{each_at}
use Rattle.fun_meaning.proofs.After.{after_firing, carried_fired, new_fired}
use Rattle.fun_meaning.proofs.Settled.{finished_label, finished_kept}
use Rattle.fun_meaning.proofs.KeptTidy.{IsPlainAt, plain_mention, fresh_tidy}
use Rattle.fun_meaning.proofs.RootNode.{sent_root, sent_cases, sent_new}
use Rattle.fun_meaning.proofs.FireTidy.{fired_tidy}

-- a firing with the one redirection of its root, where the root is neither an integer nor a constructor
module _ (e : Fun) (p : Program) (g : Graph) (n : NodeId) (h : List NodeId) (fresh : List FreshNode) (t : Mention) (wakes : List ℕ) (count : ℕ) (is : IsProgramOf e p) (fine : IsWellFormed g) (tidy : IsTidy e p g)
    (node : Node) (at : node_at g n ≡ Some node) (active : node.mark ≡ Active) (open_node : is_settled e (symbol_names p) node.label ≡ false) (olds : (v : ℕ) → v < count → Finished e (symbol_names p) g (bound_node h v)) (woken : AllByRecursion (λ v. v < count) wakes)
    (news : AllByRecursion (IsTidyFresh e (symbol_names p) count fresh) fresh) (first : NoOperation (symbol_names p) count fresh t) where
  abbrev send : NodeId → NodeId
  send = redirection (length g.nodes) n h (root_to t)

  abbrev after : Graph
  after = after_firing g n h fresh (root_to t) wakes

  not_root : (x : NodeId) → Finished e (symbol_names p) g x → n ≡ x → ⊥
  not_root x finished same =
      let clash : true ≡ false = sym (finished_label finished.0 e (symbol_names p) g n node (subst (FinishedAt finished.0 e (symbol_names p) g) (sym same) finished.1) at) ∙ open_node in
      cc

  stays : (x : NodeId) → Finished e (symbol_names p) g x → send x ≡ x
  stays x finished = elim (sent_cases (length g.nodes) n h t x) [ inl same ↦ absurd (not_root x finished same) | inr other ↦ other ]

  olds_after : (v : ℕ) → v < count → Finished e (symbol_names p) after (bound_node h v)
  olds_after v below = let finished = olds v below in (finished.0, finished_kept finished.0 e (symbol_names p) g after send (carried_fired g n h fresh (root_to t) wakes) stays (bound_node h v) finished.1)

  old_stay : (v : ℕ) → v < count → send (bound_node h v) ≡ bound_node h v
  old_stay v below = stays (bound_node h v) (olds v below)

  new_stay : (j : ℕ) → send (record { number = length g.nodes + j }) ≡ record { number = length g.nodes + j }
  new_stay = sent_new (length g.nodes) n h t (has_node g n node at)

  first_plain : IsPlainAt (symbol_names p) after (mentioned (length g.nodes) h t)
  first_plain = plain_mention e p after (length g.nodes) h send count fresh is.constructors (new_fired g n h fresh (root_to t) wakes) new_stay olds_after old_stay t first

  moved : (x : NodeId) → HasNode g x → (send x ≡ x) ⊎ IsPlainAt (symbol_names p) after (send x)
  moved x has =
      elim (sent_cases (length g.nodes) n h t x) [
        | inl same ↦ inr (subst (λ y. IsPlainAt (symbol_names p) after (send y)) same (subst (IsPlainAt (symbol_names p) after) (sym (sent_root (length g.nodes) n h t)) first_plain))
        | inr other ↦ inl other
      ]

  pub redirected_tidy : IsTidy e p after
  redirected_tidy =
      fired_tidy e p g n h fresh (root_to t) wakes count is fine tidy node at active olds woken (sent_cases (length g.nodes) n h t) stays moved
      (λ one i one_at. fresh_tidy e p after (length g.nodes) h send count fresh is.constructors (new_fired g n h fresh (root_to t) wakes) new_stay olds_after old_stay one (each_at (IsTidyFresh e (symbol_names p) count fresh) fresh i one news one_at))
