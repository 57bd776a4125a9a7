-- Rules match at a node and at its image alike, and are allowed alike.
use Rattle.std.proofs.Common.{◌≡◌, ℕ, Bool, zero, suc, ◌<◌, ◌≤◌, List, [], ◌∷◌, map, length, All, Option, Some, None, IsSomeAnd, slice_get, refl, sym, ◌∙◌, ap, subst, arith}
use Rattle.std.specs.List.{AllByRecursion}
use Rattle.std.proofs.lemmas.List.{length-map}
use Rattle.std.proofs.lemmas.List.Elements.{All-from_recursion, All-map}
use Rattle.std.proofs.lemmas.Option.{slice_get_within}
use Rattle.dactl_model.specs.declared.graph.NodeId.{NodeId}
use Rattle.dactl_model.specs.declared.graph.Mark.TheVariants.{Active}
use Rattle.dactl_model.specs.declared.graph.Graph.{Graph}
use Rattle.dactl_model.specs.declared.program.Op.{Op}
use Rattle.dactl_model.specs.declared.program.Op.TheVariants as op
use Rattle.dactl_model.specs.declared.program.Body.{Body}
use Rattle.dactl_model.specs.declared.program.Body.TheVariants.{Written, Delta}
use Rattle.dactl_model.specs.declared.program.Rule.{Rule}
use Rattle.dactl_model.specs.declared.program.Program.{Program}
use Rattle.dactl_model.specs.Graphs.{node_at, HasNode, IsWellFormed}
use Rattle.dactl_model.specs.Programs.{IsValid, IsValidRule, IsDelta, arithmetic_rule}
use Rattle.dactl_model.specs.Matching.{bound_node, integer_in, operand, delta, delta_label, FitsRange, HasResult, RuleMatches, Matches, IsActive, IsAllowed, IsQuiet}
use Rattle.dactl_model.proofs.OneMatch.{binding_is}
use Rattle.dactl_within.specs.Renumbering.{renumbered, Renumbers}
use Rattle.dactl_within.proofs.Places.{NodeThere, node_there, bound_has, bound-map, image_has}
use Rattle.dactl_within.proofs.Matched.{sat_kept, IsSent, place_back}

pub some_and : {A : Type 0} (P : A → Type 0) (o : Option A) → IsSomeAnd o P → (x : A) × (o ≡ Some x) × P x
some_and P None is = absurd is
some_and P (Some x) is = (x, refl, is)

pub is_some_and : {A : Type 0} (P : A → Type 0) (o : Option A) (x : A) → o ≡ Some x → P x → IsSomeAnd o P
is_some_and P o x at holds = subst (λ z. IsSomeAnd z P) (sym at) holds

-- an arithmetic rule has two variables
pub two_variables : (p : Program) → IsValid p → (r : ℕ) (rule : Rule) → slice_get p.rules r ≡ Some rule → r < 5 → rule.variables ≡ 2
two_variables p valid zero rule at below = let same : Some (arithmetic_rule 0 op.Add) ≡ Some rule = sym valid.add ∙ at in let e : arithmetic_rule 0 op.Add ≡ rule = cc in sym (ap (λ x. x.variables) e)
two_variables p valid (suc zero) rule at below = let same : Some (arithmetic_rule 1 op.Sub) ≡ Some rule = sym valid.sub ∙ at in let e : arithmetic_rule 1 op.Sub ≡ rule = cc in sym (ap (λ x. x.variables) e)
two_variables p valid (suc (suc zero)) rule at below = let same : Some (arithmetic_rule 2 op.Mul) ≡ Some rule = sym valid.mul ∙ at in let e : arithmetic_rule 2 op.Mul ≡ rule = cc in sym (ap (λ x. x.variables) e)
two_variables p valid (suc (suc (suc zero))) rule at below = let same : Some (arithmetic_rule 3 op.Eq) ≡ Some rule = sym valid.eq ∙ at in let e : arithmetic_rule 3 op.Eq ≡ rule = cc in sym (ap (λ x. x.variables) e)
two_variables p valid (suc (suc (suc (suc zero)))) rule at below = let same : Some (arithmetic_rule 4 op.Lt) ≡ Some rule = sym valid.lt ∙ at in let e : arithmetic_rule 4 op.Lt ≡ rule = cc in sym (ap (λ x. x.variables) e)
two_variables p valid (suc (suc (suc (suc (suc r))))) rule at below = absurd (omega arith)

-- the body has the operands that it takes
abbrev pub HasOperands : Body → ℕ → Type 0
HasOperands body count = IsDelta body → 2 ≤ count

pub has_operands : (p : Program) → IsValid p → (r : ℕ) (rule : Rule) → slice_get p.rules r ≡ Some rule → HasOperands rule.body rule.variables
has_operands p valid r rule at is = let two : rule.variables ≡ 2 = two_variables p valid r rule at ((valid.rules r rule at).delta is) in omega arith

-- a list of images
pub unmap : (f : NodeId → NodeId) (h : Graph) (k : List NodeId) → ((v : ℕ) (x : NodeId) → slice_get k v ≡ Some x → IsSent f h x) → (b : List NodeId) × AllByRecursion (HasNode h) b × (map f b ≡ k)
unmap f h [] sent = ([], tt, refl)
unmap f h (x ∷ k) sent =
    let first : IsSent f h x = sent 0 x refl in
    let rest = unmap f h k (λ v y at. sent (suc v) y at) in
    (first.0 ∷ rest.0, (first.1, rest.1), ap (λ z. z ∷ map f rest.0) first.2 ∙ ap (λ zs. x ∷ zs) rest.2)

module _ (f : NodeId → NodeId) (h g : Graph) (fine : IsWellFormed h) (is : Renumbers f h g) where
  integer_kept : (x : NodeId) → HasNode h x → integer_in (node_at g (f x)) ≡ integer_in (node_at h x)
  integer_kept x has = let there : NodeThere h x = node_there h x has in ap integer_in (is.nodes x there.0 there.1) ∙ sym (ap integer_in there.1)

  operand_kept : (b : List NodeId) → All (HasNode h) b → (v : ℕ) → v < length b → operand g (map f b) v ≡ operand h b v
  operand_kept b all v below = ap (λ y. integer_in (node_at g y)) (bound-map f b v below) ∙ integer_kept (bound_node b v) (bound_has h b v all below)

  pub delta_kept : (o : Op) (b : List NodeId) → All (HasNode h) b → 2 ≤ length b → delta_label o g (map f b) ≡ delta_label o h b
  delta_kept o b all two =
      ap (λ z. delta o z (operand g (map f b) 1)) (operand_kept b all 0 (omega arith))
      ∙ ap (λ z. delta o (operand h b 0) z) (operand_kept b all 1 (omega arith))

  result_there : (wide : Bool) (body : Body) (b : List NodeId) → All (HasNode h) b → HasOperands body (length b) → HasResult wide body h b → HasResult wide body g (map f b)
  result_there wide (Written fresh moves wakes suspend) b all two has = tt
  result_there wide (Delta o) b all two has = subst (FitsRange wide) (sym (delta_kept o b all (two tt))) has

  result_back : (wide : Bool) (body : Body) (b : List NodeId) → All (HasNode h) b → HasOperands body (length b) → HasResult wide body g (map f b) → HasResult wide body h b
  result_back wide (Written fresh moves wakes suspend) b all two has = tt
  result_back wide (Delta o) b all two has = subst (FitsRange wide) (delta_kept o b all (two tt)) has

  pub rule_there : (wide : Bool) (n : NodeId) (rule : Rule) (b : List NodeId) → HasNode h n → HasOperands rule.body rule.variables → RuleMatches wide h n rule b → RuleMatches wide g (f n) rule (map f b)
  rule_there wide n rule b has two m = record {
    long = length-map b f ∙ m.long;
    nodes = All-map (HasNode g) f b (λ k d below. image_has f h g is _ (m.nodes k d below));
    holds = sat_kept f h g fine is b m.nodes rule.pattern n has ∙ m.holds;
    result = result_there wide rule.body b m.nodes (subst (HasOperands rule.body) (sym m.long) two) m.result;
  }

  rule_unmapped : (wide : Bool) (n : NodeId) (rule : Rule) (b k : List NodeId) → HasNode h n → HasOperands rule.body rule.variables → All (HasNode h) b → map f b ≡ k → RuleMatches wide g (f n) rule k → RuleMatches wide h n rule b
  rule_unmapped wide n rule b k has two all same m =
      let there : RuleMatches wide g (f n) rule (map f b) = subst (RuleMatches wide g (f n) rule) (sym same) m in
      let long : length b ≡ rule.variables = sym (length-map b f) ∙ there.long in
      record {
        long = long;
        nodes = all;
        holds = sym (sat_kept f h g fine is b all rule.pattern n has) ∙ there.holds;
        result = result_back wide rule.body b all (subst (HasOperands rule.body) (sym long) two) there.result;
      }

  pub rule_back : (wide : Bool) (symbols r : ℕ) (n : NodeId) (rule : Rule) (k : List NodeId) → HasNode h n → IsValidRule symbols r rule → HasOperands rule.body rule.variables → RuleMatches wide g (f n) rule k → (b : List NodeId) × (map f b ≡ k) × RuleMatches wide h n rule b
  rule_back wide symbols r n rule k has valid two m =
      let origins = unmap f h k (λ v x at.
      let within : v < length k = slice_get_within k v x at in
      let below : v < rule.variables = omega (arith, m.long) in
      place_back f h g fine is v rule.pattern n x has (binding_is wide symbols r g (f n) rule valid k m v below ∙ at)) in
      (origins.0, origins.2, rule_unmapped wide n rule origins.0 k has two (All-from_recursion (HasNode h) origins.0 origins.1) origins.2 m)

  module _ (p : Program) (valid : IsValid p) (n : NodeId) (has : HasNode h n) where
    pub match_there : (r : ℕ) (b : List NodeId) → Matches p h n r b → Matches p g (f n) r (map f b)
    match_there r b m =
        let there = some_and (λ rule. RuleMatches p.wide h n rule b) (slice_get p.rules r) m in
        is_some_and (λ rule. RuleMatches p.wide g (f n) rule (map f b)) (slice_get p.rules r) there.0 there.1 (rule_there p.wide n there.0 b has (has_operands p valid r there.0 there.1) there.2)

    pub match_back : (r : ℕ) (k : List NodeId) → Matches p g (f n) r k → (b : List NodeId) × Matches p h n r b
    match_back r k m =
        let there = some_and (λ rule. RuleMatches p.wide g (f n) rule k) (slice_get p.rules r) m in
        let back = rule_back p.wide (length p.symbols) r n there.0 k has (valid.rules r there.0 there.1) (has_operands p valid r there.0 there.1) there.2 in
        (back.0, is_some_and (λ rule. RuleMatches p.wide h n rule back.0) (slice_get p.rules r) there.0 there.1 back.2)

    pub active_there : IsActive h n → IsActive g (f n)
    active_there active =
        let there = some_and (λ node. node.mark ≡ Active) (node_at h n) active in
        is_some_and (λ node. node.mark ≡ Active) (node_at g (f n)) (renumbered f there.0) (is.nodes n there.0 there.1) there.2

    pub active_back : IsActive g (f n) → IsActive h n
    active_back active =
        let there : NodeThere h n = node_there h n has in
        let mark : there.0.mark ≡ Active = subst (λ o. IsSomeAnd o (λ node. node.mark ≡ Active)) (is.nodes n there.0 there.1) active in
        is_some_and (λ node. node.mark ≡ Active) (node_at h n) there.0 there.1 mark

    pub allowed_there : (r : ℕ) → IsAllowed p h n r → IsAllowed p g (f n) r
    allowed_there r allowed = record {
      active = active_there allowed.active;
      matching = (map f allowed.matching.0, match_there r allowed.matching.0 allowed.matching.1);
      first = λ s before k m. let back = match_back s k m in allowed.first s before back.0 back.1;
    }

    pub allowed_back : (r : ℕ) → IsAllowed p g (f n) r → IsAllowed p h n r
    allowed_back r allowed = record {
      active = active_back allowed.active;
      matching = match_back r allowed.matching.0 allowed.matching.1;
      first = λ s before b m. allowed.first s before (map f b) (match_there s b m);
    }

    pub quiet_there : IsQuiet p h n → IsQuiet p g (f n)
    quiet_there quiet = record { active = active_there quiet.active; none = λ r k m. let back = match_back r k m in quiet.none r back.0 back.1 }

    pub quiet_back : IsQuiet p g (f n) → IsQuiet p h n
    quiet_back quiet = record { active = active_back quiet.active; none = λ r b m. quiet.none r (map f b) (match_there r b m) }
