-- What stands beside the part: it stays idle, and nothing new stands there.
use Rattle.std.proofs.Common.{◌≡◌, ◌≢◌, ℕ, ◌+◌, ◌-◌, ◌<◌, ◌≤◌, Bool, true, false, List, [], ◌∷◌, ◌++◌, map, length, All, count_by, Some, slice_get, refl, sym, ◌∙◌, ap, subst, arith, if◌then◌else◌, ◌⊎◌, inl, inr}
use Rattle.std.specs.List.{AllByRecursion}
use Rattle.std.proofs.lemmas.Bool.{cases_lt}
use Rattle.std.proofs.lemmas.List.Elements.{recursion_from_All}
use Rattle.dactl_model.specs.declared.graph.NodeId.{NodeId}
use Rattle.dactl_model.specs.declared.graph.Mark.{Mark}
use Rattle.dactl_model.specs.declared.graph.Mark.TheVariants.{Idle}
use Rattle.dactl_model.specs.declared.graph.Node.{Node}
use Rattle.dactl_model.specs.declared.graph.Graph.{Graph}
use Rattle.dactl_model.specs.declared.program.FreshNode.{FreshNode}
use Rattle.dactl_model.specs.declared.program.Move.{Move}
use Rattle.dactl_model.specs.declared.program.Body.{Body}
use Rattle.dactl_model.specs.declared.program.Body.TheVariants.{Written, Delta}
use Rattle.dactl_model.specs.declared.program.Rule.{Rule}
use Rattle.dactl_model.specs.declared.program.Program.{Program}
use Rattle.dactl_model.specs.Patterns.{same_node}
use Rattle.dactl_model.specs.Graphs.{node_at, HasNode, flags}
use Rattle.dactl_model.specs.Programs.{IsValid, IsBody}
use Rattle.dactl_model.specs.Matching.{bound_node, RuleMatches}
use Rattle.dactl_model.specs.Firing.{new_nodes, redirections, redirection, woken_variables, suspension, mark_after, is_woken, old_node, rewritten, fired}
use Rattle.dactl_model.specs.Noting.{waits_for, noted_mark, noted_node, noted}
use Rattle.dactl_model.proofs.Unique.{same_node_is}
use Rattle.dactl_model.proofs.Found.{or_cases}
use Rattle.dactl_model.proofs.Pairs.{has_node}
use Rattle.dactl_within.specs.Renumbering.{image, IsWithin, IsImage, IsIdleBeside, AreAllImages, nodes_from, grown, IsGrown}
use Rattle.dactl_within.proofs.Places.{NodeThere, node_there, bound_has, bound-map}
use Rattle.dactl_within.proofs.After.{old_after, noted_after}
use Rattle.dactl_within.proofs.FireKept.{numbered}
use Rattle.dactl_within.proofs.NoteKept.{has_noted}
use Rattle.dactl_within.proofs.StepKept.{image_stays, image_new}

-- what a node that is not idle after a firing was before it
mark_cases : (root woken : Bool) (suspend waits : ℕ) (mark : Mark) → mark_after root suspend waits woken mark ≢ Idle → (root ≡ true) ⊎ ((woken ≡ true) ⊎ (mark ≢ Idle))
mark_cases true woken suspend waits mark busy = inl refl
mark_cases false true suspend waits mark busy = inr (inl refl)
mark_cases false false suspend waits mark busy = inr (inr busy)

idle_noted : (root : Bool) (j : ℕ) (mark : Mark) → mark ≡ Idle → (if root then Idle else noted_mark j mark) ≡ Idle
idle_noted true j mark idle = refl
idle_noted false j mark idle = ap (noted_mark j) idle

module _ (f : List NodeId) (h g : Graph) (is : IsWithin f h g) where
  image_by : (h' : Graph) (more : List NodeId) (y : NodeId) → length h.nodes ≤ length h'.nodes → IsImage f h y → IsImage (f ++ more) h' y
  image_by h' more y larger from = record {
    origin = from.origin;
    has = omega (arith, larger, from.has);
    is = from.is ∙ sym (image_stays f more from.origin (omega (arith, is.long, from.has)));
  }

  module _ (h' g' : Graph) (step : IsGrown f h g h' g') where
    pub image_wider : (y : NodeId) → IsImage f h y → IsImage (grown f h h' g) h' y
    image_wider y from = image_by h' (nodes_from (length g.nodes) (length h'.nodes - length h.nodes)) y step.more from

    pub new_image : (y : NodeId) → length g.nodes ≤ y.number → y.number < length g'.nodes → IsImage (grown f h h' g) h' y
    new_image y above below =
        let number : y.number ≡ length g.nodes + (y.number - length g.nodes) = omega (arith, above) in
        let within : y.number - length g.nodes < length h'.nodes - length h.nodes = omega (arith, above, below, step.alike) in
        record {
          origin = numbered (length h.nodes + (y.number - length g.nodes));
          has = omega (arith, within, step.more);
          is = ap numbered number ∙ sym (image_new f (length h.nodes) (length g.nodes) (length h'.nodes - length h.nodes) (y.number - length g.nodes) is.long within);
        }

    pub all_images : AreAllImages f h g → AreAllImages (grown f h h' g) h' g'
    all_images all y has =
        elim (cases_lt y.number (length g.nodes)) [
          | inl old ↦ image_wider y (all y old)
          | inr new ↦ new_image y new has
        ]

  woken_image : (b : List NodeId) → All (HasNode h) b → (wakes : List ℕ) → AllByRecursion (λ v. v < length b) wakes → (y : NodeId) → is_woken (map (image f) b) wakes y.number ≡ true → IsImage f h y
  woken_image b all [] below y woken = absurd (cc woken)
  woken_image b all (v ∷ wakes) below y woken =
      elim (or_cases (same_node (bound_node (map (image f) b) v) y) (is_woken (map (image f) b) wakes y.number) woken) [
        | inl here ↦ record { origin = bound_node b v; has = bound_has h b v all below.0; is = sym (same_node_is (bound_node (map (image f) b) v) y here) ∙ bound-map (image f) b v below.0 }
        | inr later ↦ woken_image b all wakes below.1 y later
      ]

  old_busy : (n : NodeId) → HasNode h n → (b : List NodeId) → All (HasNode h) b → (fresh : List FreshNode) (moves : List Move) (suspend : ℕ) (wakes : List ℕ) → AllByRecursion (λ v. v < length b) wakes
      → IsIdleBeside f h g → (y : NodeId) (node : Node) → HasNode g y → node_at (rewritten g (image f n) (map (image f) b) fresh moves wakes suspend) y ≡ Some node → node.mark ≢ Idle → IsImage f h y
  old_busy n has b all fresh moves suspend wakes below beside y node old at busy =
      let there : NodeThere g y = node_there g y old in
      let moved = redirection (length g.nodes) (image f n) (map (image f) b) moves in
      let is_now : Some (old_node (redirection (length g.nodes) (image f n) (map (image f) b) moves) (image f n) (map (image f) b) wakes suspend y.number there.0) ≡ Some node = sym (old_after g (image f n) (map (image f) b) fresh moves wakes suspend y there.0 there.1) ∙ at in
      let same : old_node (redirection (length g.nodes) (image f n) (map (image f) b) moves) (image f n) (map (image f) b) wakes suspend y.number there.0 ≡ node = cc in
      let mark : mark_after (same_node y (image f n)) suspend (flags there.0.arcs) (is_woken (map (image f) b) wakes y.number) there.0.mark ≡ node.mark = ap (λ z. z.mark) same in
      elim (mark_cases (same_node y (image f n)) (is_woken (map (image f) b) wakes y.number) suspend (flags there.0.arcs) there.0.mark (λ e. busy (sym mark ∙ e))) [
        | inl root ↦ record { origin = n; has = has; is = same_node_is y (image f n) root }
        | inr (inl woken) ↦ woken_image b all wakes below y woken
        | inr (inr was) ↦ beside y there.0 there.1 was
      ]

  wakes_below : (symbols count : ℕ) (body : Body) → IsBody symbols count body → AllByRecursion (λ v. v < count) (woken_variables body)
  wakes_below symbols count (Written fresh moves wakes suspend) sound = recursion_from_All _ _ sound.woken
  wakes_below symbols count (Delta o) sound = tt

  pub fire_beside : (p : Program) → IsValid p → (n : NodeId) (r : ℕ) (rule : Rule) (b : List NodeId) → HasNode h n → slice_get p.rules r ≡ Some rule → RuleMatches p.wide h n rule b
      → IsGrown f h g (fired h n b rule.body) (fired g (image f n) (map (image f) b) rule.body)
      → IsIdleBeside f h g → IsIdleBeside (grown f h (fired h n b rule.body) g) (fired h n b rule.body) (fired g (image f n) (map (image f) b) rule.body)
  fire_beside p valid n r rule b has rule_at m step beside y node at busy =
      let h' = fired h n b rule.body in
      let g' = fired g (image f n) (map (image f) b) rule.body in
      let sound : IsBody (length p.symbols) (length b) rule.body = subst (λ c. IsBody (length p.symbols) c rule.body) (sym m.long) (valid.rules r rule rule_at).body in
      elim (cases_lt y.number (length g.nodes)) [
        | inl old ↦ image_wider h' g' step y
            (old_busy n has b m.nodes (new_nodes rule.body g (map (image f) b)) (redirections rule.body) (suspension rule.body) (woken_variables rule.body) (wakes_below (length p.symbols) (length b) rule.body sound) beside y node old at busy)
        | inr new ↦ new_image h' g' step y new (has_node g' y node at)
      ]

  pub note_beside : (n : NodeId) → HasNode h n → IsGrown f h g (noted h n) (noted g (image f n)) → IsIdleBeside f h g → IsIdleBeside (grown f h (noted h n) g) (noted h n) (noted g (image f n))
  note_beside n has step beside y node at busy =
      let old : HasNode g y = has_noted g (image f n) y (has_node (noted g (image f n)) y node at) in
      let there : NodeThere g y = node_there g y old in
      let is_now : Some (noted_node (image f n) y.number there.0) ≡ Some node = sym (noted_after g (image f n) y there.0 there.1) ∙ at in
      let same : noted_node (image f n) y.number there.0 ≡ node = cc in
      let mark : (if same_node y (image f n) then Idle else noted_mark (count_by (waits_for (image f n)) there.0.arcs) there.0.mark) ≡ node.mark = ap (λ z. z.mark) same in
      image_wider (noted h n) (noted g (image f n)) step y
      (beside y there.0 there.1 (λ idle. busy (sym mark ∙ idle_noted (same_node y (image f n)) (count_by (waits_for (image f n)) there.0.arcs) there.0.mark idle)))
