-- What a start and a firing need, and what they leave.
use Rattle.std.proofs.Common.{◌≡◌, ℕ, ◌+◌, ◌-◌, ◌<◌, ◌≤◌, ◌↔◌, Bool, true, false, IsTrue, List, [], ◌∷◌, length, map, slice_get, Some, inl, inr, refl, sym, ap, ◌∙◌, subst, arith}
use Rattle.std.specs.Prelude.{sum_by}
use Rattle.std.proofs.lemmas.List.{length-map}
use Rattle.std.proofs.lemmas.List.Sums.{sum_by-cons}
use Rattle.dactl_model.specs.declared.graph.NodeId.{NodeId}
use Rattle.dactl_model.specs.declared.graph.Node.{Node}
use Rattle.dactl_model.specs.declared.graph.Graph.{Graph}
use Rattle.dactl_model.specs.declared.graph.Room.{Room}
use Rattle.dactl_model.specs.declared.program.FreshNode.{FreshNode}
use Rattle.dactl_model.specs.declared.program.Body.{Body}
use Rattle.dactl_model.specs.declared.program.Body.TheVariants.{Written, Delta}
use Rattle.dactl_model.specs.declared.program.Rule.{Rule}
use Rattle.dactl_model.specs.declared.program.Program.{Program}
use Rattle.dactl_model.specs.Programs.{IsValid, IsBody, fresh_arcs}
use Rattle.dactl_model.specs.Firing.{fresh_arc, fresh_node, fresh_count, start_of, IsFired}
use Rattle.dactl_model.specs.Ending.{arcs_of, needed_by, room_left}
use Rattle.dactl_model.proofs.Sizes.{nodes-fired, arcs-fired}
use Rattle.dactl_plain.specs.Denoting.{HasNumbers}
use Rattle.dactl_verify.specs.Rooms.{room_of, Exceeds, FitsRoom, limits_of, AreFew, MakesFew}

not_above : (a b : ℕ) → (b < a → ⊥) → a ≤ b
not_above a b h = omega (arith, h)

-- ---- the start

fresh_node_arcs : (m : ℕ) (h : List NodeId) (f : NodeId → NodeId) (fresh : List FreshNode) → sum_by (λ (node : Node). length node.arcs) (map (fresh_node m h f) fresh) ≡ fresh_arcs fresh
fresh_node_arcs m h f [] = refl
fresh_node_arcs m h f (node ∷ nodes) =
    let rest = fresh_node_arcs m h f nodes in
    let here : length (map (fresh_arc m h f) node.arcs) ≡ length node.arcs = length-map node.arcs (fresh_arc m h f) in
    omega (arith, sum_by-cons (λ (x : Node). length x.arcs) (fresh_node m h f node) (map (fresh_node m h f) nodes), sum_by-cons (λ (x : FreshNode). length x.arcs) node nodes)

start_nodes : (p : Program) → length (start_of p.start).nodes ≡ length p.start.fresh
start_nodes p = length-map p.start.fresh (fresh_node 0 [] (λ x. x))

pub start_arcs : (p : Program) → arcs_of (start_of p.start) ≡ fresh_arcs p.start.fresh
start_arcs p = fresh_node_arcs 0 [] (λ x. x) p.start.fresh

pub start_few : (p : Program) → IsValid p → AreFew p.start.fresh
start_few p valid = (valid.start.nodes, valid.start.arcs)

-- a start that needs no more than the room has fits it
pub start_fits : (p : Program) (room : Room) → (Exceeds (room_of p.start.fresh) room → ⊥) → FitsRoom room (start_of p.start)
start_fits p room within =
    let nodes = start_nodes p in
    let arcs = start_arcs p in
    record {
      nodes = not_above _ _ (λ above. within (inl (subst (λ n. room.nodes < n) nodes above)));
      arcs = not_above _ _ (λ above. within (inr (subst (λ n. room.arcs < n) arcs above)));
    }

-- and none that fits needs more
pub start_within : (p : Program) (room : Room) → FitsRoom room (start_of p.start) → Exceeds (room_of p.start.fresh) room → ⊥
start_within p room fits (inl above) =
    let nodes = start_nodes p in
    let most = fits.nodes in
    omega (arith, nodes, most, above)
start_within p room fits (inr above) =
    let arcs = start_arcs p in
    let most = fits.arcs in
    omega (arith, arcs, most, above)

-- where the test says so
pub within : (needed left a b : Room) (r : Bool) → needed ≡ a → left ≡ b → (IsTrue r ↔ Exceeds needed left) → r ≡ false → Exceeds a b → ⊥
within needed left a b r needs has told is above =
    let so = told.1 (subst (λ (x : Room). Exceeds x left) (sym needs) (subst (λ (x : Room). Exceeds a x) (sym has) above)) in
    let clash : true ≡ false = sym so ∙ is in
    cc

-- ---- the bodies

body_few : (symbols variables : ℕ) (body : Body) → IsBody symbols variables body → MakesFew body
body_few symbols variables (Written fresh moves wakes suspend) is = (is.news.nodes, is.news.arcs)
body_few symbols variables (Delta o) is = tt

pub rule_few : (p : Program) (r : ℕ) (rule : Rule) → IsValid p → slice_get p.rules r ≡ Some rule → MakesFew rule.body
rule_few p r rule valid is = body_few (length p.symbols) rule.variables rule.body (valid.rules r rule is).body

count_needed : (body : Body) → fresh_count body ≡ (needed_by body).nodes
count_needed (Written fresh moves wakes suspend) = refl
count_needed (Delta o) = refl

pub same_rule : (p : Program) (r : ℕ) (a b : Rule) → slice_get p.rules r ≡ Some a → slice_get p.rules r ≡ Some b → a ≡ b
same_rule p r a b one other = let both : Some a ≡ Some b = sym one ∙ other in cc

-- what there is room for
spare : (g : Graph) (needed room : Room) → FitsRoom room g → (Exceeds needed (room_left (limits_of room) g) → ⊥) → (length g.nodes + needed.nodes ≤ room.nodes) × (arcs_of g + needed.arcs ≤ room.arcs)
spare g needed room fits within =
    let nodes : needed.nodes ≤ room.nodes - length g.nodes = not_above _ _ (λ above. within (inl above)) in
    let arcs : needed.arcs ≤ room.arcs - arcs_of g = not_above _ _ (λ above. within (inr above)) in
    let some = fits.nodes in
    let more = fits.arcs in
    (omega arith, omega arith)

-- a firing for which there is room makes nodes with numbers of 32 bits
pub numbers : (p : Program) (g : Graph) (r : ℕ) (rule : Rule) (room : Room) → slice_get p.rules r ≡ Some rule → room.nodes ≤ 2000000 → FitsRoom room g
    → (Exceeds (needed_by rule.body) (room_left (limits_of room) g) → ⊥) → HasNumbers p g r
numbers p g r rule room is small fits within other there =
    let same : other ≡ rule = same_rule p r other rule there is in
    let count : fresh_count other.body ≡ (needed_by rule.body).nodes = ap (λ (x : Rule). fresh_count x.body) same ∙ count_needed rule.body in
    let few = (spare g (needed_by rule.body) room fits within).0 in
    omega arith

-- how many nodes and arcs there are after a firing
fired_sizes : (p : Program) (g after : Graph) (n : NodeId) (r : ℕ) (rule : Rule) → slice_get p.rules r ≡ Some rule → IsFired p g n r after
    → (length after.nodes ≡ length g.nodes + (needed_by rule.body).nodes) × (arcs_of after ≡ arcs_of g + (needed_by rule.body).arcs)
fired_sizes p g after n r rule is step =
    let same : step.rule ≡ rule = same_rule p r step.rule rule step.is_rule is in
    let need : needed_by step.rule.body ≡ needed_by rule.body = ap (λ (x : Rule). needed_by x.body) same in
    let nodes : length after.nodes ≡ length g.nodes + (needed_by step.rule.body).nodes = ap (λ (x : Graph). length x.nodes) step.after ∙ nodes-fired g n step.bindings step.rule.body in
    let arcs : arcs_of after ≡ arcs_of g + (needed_by step.rule.body).arcs = ap arcs_of step.after ∙ arcs-fired g n step.bindings step.rule.body in
    (nodes ∙ ap (λ (x : Room). length g.nodes + x.nodes) need, arcs ∙ ap (λ (x : Room). arcs_of g + x.arcs) need)

-- it leads to a graph that fits, with so many more arcs
pub fired_fits : (p : Program) (g after : Graph) (n : NodeId) (r : ℕ) (rule : Rule) (room : Room) → slice_get p.rules r ≡ Some rule → FitsRoom room g
    → (Exceeds (needed_by rule.body) (room_left (limits_of room) g) → ⊥) → IsFired p g n r after
    → FitsRoom room after × (arcs_of after ≡ arcs_of g + (needed_by rule.body).arcs)
fired_fits p g after n r rule room is fits within step =
    let sizes = fired_sizes p g after n r rule is step in
    let few = spare g (needed_by rule.body) room fits within in
    (record { nodes = omega (arith, sizes.0, few.0); arcs = omega (arith, sizes.1, few.1) }, sizes.1)

-- and where the graph fits, there was room
pub fired_within : (p : Program) (g after : Graph) (n : NodeId) (r : ℕ) (rule : Rule) (room : Room) → slice_get p.rules r ≡ Some rule → FitsRoom room after → IsFired p g n r after
    → Exceeds (needed_by rule.body) (room_left (limits_of room) g) → ⊥
fired_within p g after n r rule room is fits step (inl above) =
    let sizes = fired_sizes p g after n r rule is step in
    let most = fits.nodes in
    omega (arith, sizes.0, most, above)
fired_within p g after n r rule room is fits step (inr above) =
    let sizes = fired_sizes p g after n r rule is step in
    let most = fits.arcs in
    omega (arith, sizes.1, most, above)
