-- A graph and a part of it are visited alike.
use Rattle.std.proofs.Common.{◌≡◌, List, [], ◌∷◌, ◌++◌, map, refl, sym, ◌∙◌, ap, subst}
use Rattle.std.specs.List.{AllByRecursion, Contains}
use Rattle.dactl_model.specs.declared.graph.NodeId.{NodeId}
use Rattle.dactl_model.specs.declared.graph.Arc.{Arc}
use Rattle.dactl_model.specs.declared.graph.Graph.{Graph}
use Rattle.dactl_model.specs.Graphs.{HasNode, IsWellFormed}
use Rattle.dactl_model.specs.Firing.{redirected_arc}
use Rattle.dactl_print.specs.Order.{Visits, ended, passed, joined, targets_of, targets}
use Rattle.dactl_within.specs.Renumbering.{Renumbers}
use Rattle.dactl_within.proofs.Places.{NodeThere, node_there, targets_in}
use Rattle.dactl_resume.proofs.Among.{among, contains, among_map, among_unmap, each_append, map-append}

pub map_targets : (f : NodeId → NodeId) (arcs : List Arc) → map (λ a. a.target) (map (redirected_arc f) arcs) ≡ map f (map (λ a. a.target) arcs)
map_targets f [] = refl
map_targets f (a ∷ arcs) = ap (λ s. f a.target ∷ s) (map_targets f arcs)

pub each_target : (P : NodeId → Type 0) (arcs : List Arc) → AllByRecursion (λ a. P a.target) arcs → AllByRecursion P (map (λ a. a.target) arcs)
each_target P [] all = tt
each_target P (a ∷ arcs) all = (all.0, each_target P arcs all.1)

pub targets_each : (h : Graph) → IsWellFormed h → (n : NodeId) → HasNode h n → AllByRecursion (HasNode h) (targets h n)
targets_each h fine n has =
    let there : NodeThere h n = node_there h n has in
    subst (λ o. AllByRecursion (HasNode h) (targets_of o)) (sym there.1) (each_target (HasNode h) there.0.arcs (targets_in h n there.0 fine there.1))

module _ (f : NodeId → NodeId) (h g : Graph) (fine : IsWellFormed h) (is : Renumbers f h g) where
  targets_kept : (n : NodeId) → HasNode h n → targets g (f n) ≡ map f (targets h n)
  targets_kept n has =
      let there : NodeThere h n = node_there h n has in
      ap targets_of (is.nodes n there.0 there.1) ∙ map_targets f there.0.arcs ∙ sym (ap (λ o. map f (targets_of o)) there.1)

  abbrev pub AreIn : List NodeId → Type 0
  AreIn ns = AllByRecursion (HasNode h) ns

  pub visits_there : {ns before after : List NodeId} → Visits h ns before after → AreIn ns → AreIn before → Visits g (map f ns) (map f before) (map f after) × AreIn after
  visits_there ended have seen = (ended, seen)
  visits_there (passed {n} {rest} {before} {after} p v) have seen =
      let later = visits_there v have.1 seen in
      (passed (contains (map f before) (f n) (among_map f before n (among before n p))) later.0, later.1)
  visits_there (joined {n} {rest} {before} {between} {after} m v w) have seen =
      let first = visits_there v (targets_each h fine n have.0) (each_append (HasNode h) before (n ∷ []) seen (have.0, tt)) in
      let later = visits_there w have.1 first.1 in
      let below : Visits g (targets g (f n)) (map f (before ++ n ∷ [])) (map f between) = subst (λ ts. Visits g ts (map f (before ++ n ∷ [])) (map f between)) (sym (targets_kept n have.0)) first.0 in
      let here : Visits g (targets g (f n)) (map f before ++ f n ∷ []) (map f between) = subst (λ bs. Visits g (targets g (f n)) bs (map f between)) (map-append f before (n ∷ [])) below in
      (joined (λ c. m (contains before n (among_unmap f (HasNode h) is.once before seen n have.0 (among (map f before) (f n) c)))) here later.0, later.1)

  -- what a visit of images gives
  abbrev pub Back : List NodeId → List NodeId → List NodeId → Type 0
  Back ns before after' = (after : List NodeId) × (after' ≡ map f after) × Visits h ns before after × AreIn after

  pub visits_back : {ns' before' after' : List NodeId} → Visits g ns' before' after' → (ns before : List NodeId) → ns' ≡ map f ns → before' ≡ map f before → AreIn ns → AreIn before → Back ns before after'
  visits_back ended [] before e b have seen = (before, b, ended, seen)
  visits_back ended (n ∷ ns) before e b have seen = absurd (cc e)
  visits_back (passed p v) [] before e b have seen = absurd (cc e)
  visits_back (passed {n = n'} {rest = rest'} {before = before'} {after = after'} p v) (n ∷ ns) before e b have seen =
      let same : n' ≡ f n = cc in
      let more : rest' ≡ map f ns = cc in
      let later = visits_back v ns before more b have.1 seen in
      let at : Contains (map f before) (f n) = subst (λ x. Contains (map f before) x) same (subst (λ bs. Contains bs n') b p) in
      (later.0, later.1, passed (contains before n (among_unmap f (HasNode h) is.once before seen n have.0 (among (map f before) (f n) at))) later.2, later.3)
  visits_back (joined m v w) [] before e b have seen = absurd (cc e)
  visits_back (joined {n = n'} {rest = rest'} {before = before'} {between = between'} {after = after'} m v w) (n ∷ ns) before e b have seen =
      let same : n' ≡ f n = cc in
      let more : rest' ≡ map f ns = cc in
      let first = visits_back v (targets h n) (before ++ n ∷ []) (ap (targets g) same ∙ targets_kept n have.0)
      (ap (λ bs. bs ++ n' ∷ []) b ∙ ap (λ x. map f before ++ x ∷ []) same ∙ sym (map-append f before (n ∷ []))) (targets_each h fine n have.0) (each_append (HasNode h) before (n ∷ []) seen (have.0, tt)) in
      let later = visits_back w ns first.0 more first.1 have.1 first.3 in
      let new : Contains before n → ⊥ = λ c. m (subst (λ bs. Contains bs n') (sym b) (subst (λ x. Contains (map f before) x) (sym same) (contains (map f before) (f n) (among_map f before n (among before n c))))) in
      (later.0, later.1, joined new first.2 later.2, later.3)
