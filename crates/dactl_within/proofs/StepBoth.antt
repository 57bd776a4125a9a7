-- A step of a part is one of the whole, and a step of the whole at a node of the part is one of the part.
use Rattle.std.proofs.Common.{◌≡◌, ℕ, List, map, length, Some, slice_get, refl, sym, ◌∙◌, ap, subst}
use Rattle.dactl_model.specs.declared.graph.NodeId.{NodeId}
use Rattle.dactl_model.specs.declared.graph.Graph.{Graph}
use Rattle.dactl_model.specs.declared.graph.Event.{Event}
use Rattle.dactl_model.specs.declared.graph.Event.TheVariants.{Fire, Note}
use Rattle.dactl_model.specs.declared.program.Rule.{Rule}
use Rattle.dactl_model.specs.declared.program.Program.{Program}
use Rattle.dactl_model.specs.Graphs.{HasNode, IsWellFormed}
use Rattle.dactl_model.specs.Programs.{IsValid}
use Rattle.dactl_model.specs.Matching.{RuleMatches}
use Rattle.dactl_model.specs.Firing.{fired}
use Rattle.dactl_model.specs.Noting.{noted}
use Rattle.dactl_model.specs.Steps.{Step}
use Rattle.dactl_within.specs.Renumbering.{image, IsWithin, renumbered_event, grown, IsGrown}
use Rattle.dactl_within.proofs.Allowing.{has_operands, rule_there, rule_back, allowed_there, allowed_back, quiet_there, quiet_back}
use Rattle.dactl_within.proofs.StepKept.{fire_pair, note_pair, node_of_active}
use Rattle.dactl_within.proofs.Beside.{fire_beside, note_beside}
use Rattle.dactl_within.specs.Renumbering.{IsIdleBeside}

-- one graph stays within the other, and what is beside stays idle
abbrev pub Follows : List NodeId → Graph → Graph → Graph → Graph → Type 0
Follows f h g h' g' = IsGrown f h g h' g' × (IsIdleBeside f h g → IsIdleBeside (grown f h h' g) h' g')

module _ (f : List NodeId) (h g : Graph) (fine : IsWellFormed h) (is : IsWithin f h g) (p : Program) (valid : IsValid p) where
  fire_both : (n : NodeId) (r : ℕ) (rule : Rule) (b : List NodeId) → HasNode h n → slice_get p.rules r ≡ Some rule → RuleMatches p.wide h n rule b
      → Follows f h g (fired h n b rule.body) (fired g (image f n) (map (image f) b) rule.body)
  fire_both n r rule b has at m =
      let pair = fire_pair f h g fine is p valid n r rule b has at m in
      (pair, fire_beside f h g is p valid n r rule b has at m pair)

  note_both : (n : NodeId) → HasNode h n → Follows f h g (noted h n) (noted g (image f n))
  note_both n has = let pair = note_pair f h g fine is p valid n has in (pair, note_beside f h g is n has pair)

  pub step_there : (e : Event) (h' : Graph) → Step p h e h' → (g' : Graph) × Step p g (renumbered_event f e) g' × Follows f h g h' g'
  step_there (Fire n r) h' step =
      let s = step.1 in
      let has : HasNode h n = node_of_active h n step.0.active in (
        fired g (image f n) (map (image f) s.bindings) s.rule.body,
        (
          allowed_there (image f) h g fine is.renumbers p valid n has r step.0,
          record {
            rule = s.rule;
            bindings = map (image f) s.bindings;
            is_rule = s.is_rule;
            is_match = rule_there (image f) h g fine is.renumbers p.wide n s.rule s.bindings has (has_operands p valid r s.rule s.is_rule) s.is_match;
            after = refl;
          },
        ),
        subst (λ x. Follows f h g x (fired g (image f n) (map (image f) s.bindings) s.rule.body)) (sym s.after) (fire_both n r s.rule s.bindings has s.is_rule s.is_match),
      )
  step_there (Note n) h' step =
      let has : HasNode h n = node_of_active h n step.0.active in
      (noted g (image f n), (quiet_there (image f) h g fine is.renumbers p valid n has step.0, refl), subst (λ x. Follows f h g x (noted g (image f n))) (sym step.1) (note_both n has))

  pub fire_back : (n : NodeId) (r : ℕ) (g' : Graph) → HasNode h n → Step p g (Fire (image f n) r) g' → (h' : Graph) × Step p h (Fire n r) h' × Follows f h g h' g'
  fire_back n r g' has step =
      let s = step.1 in
      let back = rule_back (image f) h g fine is.renumbers p.wide (length p.symbols) r n s.rule s.bindings has (valid.rules r s.rule s.is_rule) (has_operands p valid r s.rule s.is_rule) s.is_match in
      let after : fired g (image f n) (map (image f) back.0) s.rule.body ≡ g' = ap (λ k. fired g (image f n) k s.rule.body) back.1 ∙ sym s.after in (
        fired h n back.0 s.rule.body,
        (allowed_back (image f) h g fine is.renumbers p valid n has r step.0, record { rule = s.rule; bindings = back.0; is_rule = s.is_rule; is_match = back.2; after = refl }),
        subst (Follows f h g (fired h n back.0 s.rule.body)) after (fire_both n r s.rule back.0 has s.is_rule back.2),
      )

  pub note_back : (n : NodeId) (g' : Graph) → HasNode h n → Step p g (Note (image f n)) g' → (h' : Graph) × Step p h (Note n) h' × Follows f h g h' g'
  note_back n g' has step = (noted h n, (quiet_back (image f) h g fine is.renumbers p valid n has step.0, refl), subst (Follows f h g (noted h n)) (sym step.1) (note_both n has))
