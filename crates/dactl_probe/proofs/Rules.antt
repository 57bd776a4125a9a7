-- What a look at a rule finds.
use Rattle.std.proofs.Common.{◌≡◌, ℕ, zero, suc, ◌+◌, ◌<◌, ◌≤◌, ◌++◌, take, Bool, true, false, List, [], ◌∷◌, length, refl, sym, ◌∙◌, ap, arith, slice_get, Some, inl, inr, unwrap_or}
use Rattle.std.proofs.lemmas.List.{take_more, take_all}
use Rattle.std.proofs.lemmas.Option.{unwrap_or-slice_get}
use Rattle.dactl_model.specs.declared.graph.NodeId.{NodeId}
use Rattle.dactl_model.specs.declared.reading.Reading.{Reading}
use Rattle.dactl_model.specs.declared.program.Rule.{Rule}
use Rattle.dactl_model.specs.declared.program.Program.{Program}
use Rattle.dactl_model.specs.Matching.{bound_node}
use Rattle.dactl_model.specs.Rooms.{Observed}
use Rattle.dactl_model.specs.Programs.{IsValid, IsDelta}
use Rattle.dactl_model.specs.Readings as value
use Rattle.dactl_model.specs.Readings.{told}
use Rattle.dactl_model.specs.RuleTold.{no_conflict, pair_node, pair_nodes, bindings_told, HasResultTold, IsRuleYes, IsRuleNo, IsRuleUnknown}
use Rattle.dactl_probe.specs.declared.finding.Finding.{Finding}
use Rattle.dactl_probe.specs.declared.finding.Finding.TheVariants.{No, Unknown, Yes}
use Rattle.dactl_probe.specs.Findings.{found}
use Rattle.dactl_probe.specs.Leading.{Needs}
use Rattle.dactl_probe.specs.Lost.{IsRuleLost}
use Rattle.dactl_probe.proofs.Founds.{founds, value_of}

-- a valid arithmetic rule has two variables
two_of : (p : Program) (a b : Rule) (r : ℕ) → slice_get p.rules r ≡ Some a → slice_get p.rules r ≡ Some b → b.variables ≡ 2 → a.variables ≡ 2
two_of p a b r is also two = let same : Some a ≡ Some b = sym is ∙ also in let e : a ≡ b = cc in ap (λ x. x.variables) e ∙ two

two_variables : (p : Program) (r : ℕ) (rule : Rule) → IsValid p → slice_get p.rules r ≡ Some rule → r < 5 → rule.variables ≡ 2
two_variables p zero rule v is below = two_of p rule _ 0 is v.add refl
two_variables p (suc zero) rule v is below = two_of p rule _ 1 is v.sub refl
two_variables p (suc (suc zero)) rule v is below = two_of p rule _ 2 is v.mul refl
two_variables p (suc (suc (suc zero))) rule v is below = two_of p rule _ 3 is v.eq refl
two_variables p (suc (suc (suc (suc zero)))) rule v is below = two_of p rule _ 4 is v.lt refl
two_variables p (suc (suc (suc (suc (suc r))))) rule v is below = absurd (omega arith)

pub operands : (p : Program) (r : ℕ) (rule : Rule) → IsValid p → slice_get p.rules r ≡ Some rule → IsDelta rule.body → rule.variables ≡ 2
operands p r rule v is delta = two_variables p r rule v is ((v.rules r rule is).delta delta)

-- the node of a variable
nodes_get : (pairs : List (ℕ × NodeId)) (w count v : ℕ) → v < count → slice_get (pair_nodes pairs w count) v ≡ Some (pair_node pairs (w + v))
nodes_get pairs w zero v below = absurd (omega arith)
nodes_get pairs w (suc count) zero below = ap (λ k. Some (pair_node pairs k)) (omega arith)
nodes_get pairs w (suc count) (suc v) below =
    let at : (w + 1) + v ≡ w + suc v = omega arith in
    nodes_get pairs (w + 1) count v (omega arith) ∙ ap (λ k. Some (pair_node pairs k)) at

pub bound_pair : (pairs : List (ℕ × NodeId)) (count v : ℕ) → v < count → bound_node (pair_nodes pairs 0 count) v ≡ pair_node pairs v
bound_pair pairs count v below =
    let at : 0 + v ≡ v = omega arith in
    ap (λ o. unwrap_or o (record { number = 0 })) (nodes_get pairs 0 count v below) ∙ ap (pair_node pairs) at

nodes_long : (pairs : List (ℕ × NodeId)) (w count : ℕ) → length (pair_nodes pairs w count) ≡ count
nodes_long pairs w zero = refl
nodes_long pairs w (suc count) = ap suc (nodes_long pairs (w + 1) count)

-- the nodes so far, with that of the next variable
pub bindings_more : (rs : List Reading) (n : NodeId) (rule : Rule) (v : ℕ) → v < rule.variables → take v (bindings_told rs n rule) ++ bound_node (bindings_told rs n rule) v ∷ [] ≡ take (v + 1) (bindings_told rs n rule)
bindings_more rs n rule v below =
    let nodes = bindings_told rs n rule in
    let inside : v < length nodes = omega (arith, nodes_long (told rs rule.pattern n).pairs 0 rule.variables, below) in
    sym (take_more nodes v (record { number = 0 }) inside ∙ ap (λ m. take v nodes ++ m ∷ []) (sym (unwrap_or-slice_get nodes v (record { number = 0 }))))

pub bindings_all : (rs : List Reading) (n : NodeId) (rule : Rule) (v : ℕ) → rule.variables ≤ v → take v (bindings_told rs n rule) ≡ bindings_told rs n rule
bindings_all rs n rule v past = take_all v (bindings_told rs n rule) (omega (arith, nodes_long (told rs rule.pattern n).pairs 0 rule.variables, past))

-- a footprint with one more binding
pub binding_pushed : (before now after : Observed) (rs : List Reading) (n : NodeId) (rule : Rule) (v : ℕ) (m : NodeId) → v < rule.variables → now ≡ record before { bindings = take v (bindings_told before.readings n rule) } → rs ≡ now.readings
    → m ≡ bound_node (bindings_told rs n rule) v → after ≡ record now { bindings = now.bindings ++ m ∷ [] } → after ≡ record before { bindings = take (v + 1) (bindings_told before.readings n rule) }
binding_pushed before now after rs n rule v m below is read at pushed =
    let nodes = bindings_told before.readings n rule in
    let node_is : m ≡ bound_node nodes v = at ∙ ap (λ xs. bound_node (bindings_told xs n rule) v) (read ∙ ap (λ o. o.readings) is) in
    pushed
    ∙ (ap {A = Observed} {B = Observed} (λ o. record o { bindings = o.bindings ++ m ∷ [] }) is
    ∙ (ap {A = NodeId} {B = Observed} (λ k. record before { bindings = take v nodes ++ k ∷ [] }) node_is
    ∙ ap {A = List NodeId} {B = Observed} (λ bs. record before { bindings = bs }) (bindings_more before.readings n rule v below)))

module _ (rs : List Reading) (n : NodeId) (rule : Rule) where
  value_is : (f : Finding) → f ≡ found rs rule.pattern n → (told rs rule.pattern n).value ≡ value_of f
  value_is f e = sym ((founds rs rule.pattern).value n) ∙ ap value_of (sym e)

  pub pattern_lost : No ≡ found rs rule.pattern n → IsRuleLost rs n rule
  pattern_lost e = inl (value_is No e)

  pub conflict_lost : false ≡ no_conflict (told rs rule.pattern n).pairs → IsRuleLost rs n rule
  conflict_lost e = inr (sym e)

  pub waits : (m : NodeId) → Unknown m ≡ found rs rule.pattern n → true ≡ no_conflict (told rs rule.pattern n).pairs → IsRuleUnknown rs n rule × Needs rs rule.pattern n m
  waits m e agreed = ((value_is (Unknown m) e, sym agreed), (founds rs rule.pattern).needs n m (sym e))

module _ (wide : Bool) (rs : List Reading) (n : NodeId) (rule : Rule) where
  pub matching : Yes ≡ found rs rule.pattern n → true ≡ no_conflict (told rs rule.pattern n).pairs → HasResultTold wide rule.body rs (bindings_told rs n rule) → IsRuleYes wide rs n rule
  matching e agreed result = record { pattern = value_is rs n rule Yes e; agreed = sym agreed; result = result }

  pub without_result : Yes ≡ found rs rule.pattern n → ¬ HasResultTold wide rule.body rs (bindings_told rs n rule) → IsRuleNo wide rs n rule
  without_result e none = inr (inr (value_is rs n rule Yes e, none))

  -- the three values exclude each other
  pub no_yes : IsRuleNo wide rs n rule → IsRuleYes wide rs n rule → ⊥
  no_yes (inl fails) holds = let e : value.No ≡ value.Yes = sym fails ∙ holds.pattern in cc
  no_yes (inr (inl differ)) holds = let e : false ≡ true = sym differ ∙ holds.agreed in cc
  no_yes (inr (inr without)) holds = without.1 holds.result

  pub unknown_yes : IsRuleUnknown rs n rule → IsRuleYes wide rs n rule → ⊥
  unknown_yes unknown holds = let e : value.Unknown ≡ value.Yes = sym unknown.0 ∙ holds.pattern in cc

  pub unknown_no : IsRuleUnknown rs n rule → IsRuleNo wide rs n rule → ⊥
  unknown_no unknown (inl fails) = let e : value.Unknown ≡ value.No = sym unknown.0 ∙ fails in cc
  unknown_no unknown (inr (inl differ)) = let e : false ≡ true = sym differ ∙ unknown.1 in cc
  unknown_no unknown (inr (inr without)) = let e : value.Unknown ≡ value.Yes = sym unknown.0 ∙ without.0 in cc
