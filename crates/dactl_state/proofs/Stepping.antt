-- A step that is entered keeps that a store is where the journal leads, and its versions.
use Rattle.std.proofs.Common.{◌≡◌, ◌≢◌, ⊎_elim, ℕ, zero, suc, ◌+◌, ◌≤◌, pred, map, List, [], ◌∷◌, ◌++◌, take, refl, sym, ap, ◌∙◌, subst, length, length-append, Option, Some, slice_get, inl, inr, arith}
use Rattle.std.proofs.Math.Seq.{take-append_seam}
use Rattle.std.proofs.lemmas.List.{take_all}
use Rattle.std.proofs.lemmas.Option.{slice_get_cases}
use Rattle.dactl_model.specs.declared.graph.NodeId.{NodeId}
use Rattle.dactl_model.specs.declared.graph.Arc.{Arc}
use Rattle.dactl_model.specs.declared.graph.Node.{Node}
use Rattle.dactl_model.specs.declared.graph.Graph.{Graph}
use Rattle.dactl_model.specs.declared.graph.Entry.{Entry}
use Rattle.dactl_model.specs.declared.graph.Room.{Room}
use Rattle.dactl_model.specs.declared.program.Program.{Program}
use Rattle.dactl_model.specs.declared.program.FreshNode.{FreshNode}
use Rattle.dactl_model.specs.Graphs.{HasNode}
use Rattle.dactl_model.specs.Programs.{IsValid}
use Rattle.dactl_model.specs.Firing.{start_of}
use Rattle.dactl_model.specs.Noting.{noted, noted_nodes, cleared}
use Rattle.dactl_model.specs.Steps.{Step, Reduction}
use Rattle.dactl_model.specs.Acts.{HasActs, acts_of_step}
use Rattle.dactl_model.specs.Versions.{content, content_of, IsVersion}
use Rattle.dactl_model.proofs.Reductions.{Reduction-push}
use Rattle.dactl_model.proofs.VersionSteps.{version_stays, version_changes, versions_begin}
use Rattle.dactl_store.specs.Held.{Held}
use Rattle.dactl_store.specs.Redirecting.{IsVersioned}
use Rattle.dactl_store.specs.Start.{IsBegun}
use Rattle.dactl_state.specs.Histories.{IsHistory}
use Rattle.dactl_state.proofs.Contents.{content_or}

some_same : (a b : ℕ) → (let l : Option ℕ = Some a in l) ≡ Some b → a ≡ b
some_same a b e = cc

-- a node of the new graph that has its content from the old one is an old node
old_node : (g after : Graph) (n : NodeId) → HasNode after n → content after n ≡ content g n → HasNode g n
old_node g after n has same = elim (slice_get_cases g.nodes n.number).1 [
  | inl (node, below, at, is) ↦ below
  | inr (past, none) ↦ elim (slice_get_cases after.nodes n.number).1 [
    | inl (node, below, at, is) ↦ absurd (cc)
    | inr (past', none') ↦ absurd (omega arith)
  ]
]

-- a step with the versions that its entry gives
pub stepped : (p : Program) (journal : List Entry) (old new : Held) (e : Entry) → IsValid p → IsHistory p journal old → Step p old.graph e.event new.graph → IsVersioned (length journal + 1) old new → new.newest ≤ length journal + 1
    → IsHistory p (journal ++ e ∷ []) new
stepped p journal old new e valid run step versioned newest = let long = length-append journal (e ∷ []) in record {
  reduced = Reduction-push p (start_of p.start) old.graph new.graph journal e run.reduced step;
  versions = λ n v has at. ⊎_elim
      (λ (same : content new.graph n ≡ content old.graph n). version_stays p journal e old.graph new.graph n v valid run.reduced step same
      (run.versions n v (old_node old.graph new.graph n has same) (sym (versioned.kept n has same) ∙ at)))
      (λ (other : content new.graph n ≢ content old.graph n). subst (IsVersion p (journal ++ e ∷ []) n) (some_same (length journal + 1) v (sym (versioned.given n has other) ∙ at))
      (version_changes p journal e old.graph new.graph n valid run.reduced step has other))
      (content_or (content new.graph n) (content old.graph n));
  newest = omega arith;
}

last_item : (xs : List Entry) (e : Entry) → slice_get (xs ++ e ∷ []) (length xs) ≡ Some e
last_item [] e = refl
last_item (x ∷ xs) e = last_item xs e

-- what the last entry made active
pub acts_of_last : (p : Program) (journal : List Entry) (g after : Graph) (e : Entry) (woken : List NodeId) → Reduction p (start_of p.start) journal g → Reduction p (start_of p.start) (journal ++ e ∷ []) after → woken ≡ acts_of_step g e.event after
    → HasActs p (journal ++ e ∷ []) (length journal + 1) woken
acts_of_last p journal g after e woken run run_on acts = let l = length-append journal (e ∷ []) in
    let whole : take (length journal + 1) (journal ++ e ∷ []) ≡ journal ++ e ∷ [] = take_all (length journal + 1) (journal ++ e ∷ []) (omega arith) in
    let less : pred (length journal + 1) ≡ length journal = omega arith in
    let front : take (pred (length journal + 1)) (journal ++ e ∷ []) ≡ journal = ap (λ (k : ℕ). take k (journal ++ e ∷ [])) less ∙ take-append_seam journal (e ∷ []) in record {
      entry = e;
      before = g;
      after = after;
      is_entry = (λ i. slice_get (whole i) (less i)) ∙ last_item journal e;
      reduced = subst (λ (z : List Entry). Reduction p (start_of p.start) z g) (sym front) run;
      reduced_on = subst (λ (z : List Entry). Reduction p (start_of p.start) z after) (sym whole) run_on;
      acts = acts;
    }

cleared_targets : (n : NodeId) (arcs : List Arc) → map (λ (a : Arc). a.target) (map (cleared n) arcs) ≡ map (λ (a : Arc). a.target) arcs
cleared_targets n [] = refl
cleared_targets n (a ∷ arcs) = ap (λ (z : List NodeId). a.target ∷ z) (cleared_targets n arcs)

noted_at : (n : NodeId) (k : ℕ) (nodes : List Node) (i : ℕ) → content_of (slice_get (noted_nodes n k nodes) i) ≡ content_of (slice_get nodes i)
noted_at n k [] i = refl
noted_at n k (node ∷ nodes) zero = ap Some (λ i. record { label = node.label; targets = cleared_targets n node.arcs i })
noted_at n k (node ∷ nodes) (suc i) = noted_at n (k + 1) nodes i

-- a notification keeps contents, and so versions
pub noted_versions : (n : NodeId) (version : ℕ) (old new : Held) → new.graph ≡ noted old.graph n → new.versions ≡ old.versions → length new.versions ≡ length new.graph.nodes → IsVersioned version old new
noted_versions n version old new graph same long =
    let kept : (m : NodeId) → content new.graph m ≡ content old.graph m = λ m. ap (λ (g : Graph). content g m) graph ∙ noted_at n 0 old.graph.nodes m.number in record {
      long = long;
      kept = λ m has is. ap (λ (z : List ℕ). slice_get z m.number) same;
      given = λ m has other. absurd (other (kept m));
    }

zeros : (xs : List FreshNode) (i v : ℕ) → slice_get (map (λ (_ : FreshNode). 0) xs) i ≡ Some v → 0 ≡ v
zeros [] i v at = absurd (cc)
zeros (x ∷ xs) zero v at = some_same 0 v at
zeros (x ∷ xs) (suc i) v at = zeros xs i v at

-- a store with the first graph
pub begun_keeps : (p : Program) (limit : Room) (held : Held) → IsValid p → IsBegun p.start limit held → IsHistory p [] held
begun_keeps p limit held valid b = let first = b.newest in record {
  reduced = b.graph;
  versions = λ n v has at. subst (IsVersion p [] n) (zeros p.start.fresh n.number v (ap (λ (z : List ℕ). slice_get z n.number) (sym b.versions) ∙ at)) (versions_begin p n (subst (λ (g : Graph). HasNode g n) b.graph has));
  newest = omega arith;
}
