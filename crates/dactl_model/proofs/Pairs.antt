-- The pairs that readings tell: their variables are the rule's, and their nodes are nodes of the graph.
use Rattle.std.proofs.Common.{◌≡◌, ℕ, zero, suc, ◌+◌, ◌<◌, Bool, true, false, List, [], ◌∷◌, ◌++◌, map, length, All, nat_lt, sym, ◌∙◌, ap, subst, refl, arith, Option, Some, None, slice_get, ◌==◌, if◌then◌else◌}
use Rattle.std.specs.List.{AllByRecursion, list_all}
use Rattle.std.proofs.lemmas.List.Elements.{All-from_recursion, recursion_from_All, All-get_or, All-map}
use Rattle.std.proofs.lemmas.Option.{get_or_from_slice_get, slice_get_within}
use Rattle.dactl_model.specs.declared.graph.NodeId.{NodeId}
use Rattle.dactl_model.specs.declared.graph.Label.{Label}
use Rattle.dactl_model.specs.declared.graph.Node.{Node}
use Rattle.dactl_model.specs.declared.graph.Graph.{Graph}
use Rattle.dactl_model.specs.declared.reading.Reading.{Reading}
use Rattle.dactl_model.specs.declared.program.Pat.{Pat}
use Rattle.dactl_model.specs.declared.program.Pat.TheOpen.{Pat-F}
use Rattle.dactl_model.specs.declared.program.Pat.TheViews.{roll-Pat}
use Rattle.dactl_model.specs.declared.program.Pat.TheFolds.{map-Pat}
use Rattle.dactl_model.specs.Graphs.{node_at, HasNode, IsFineNode, IsWellFormed}
use Rattle.dactl_model.specs.Binders.{variables_below, variables_level}
use Rattle.dactl_model.specs.Readings.{Told, told, told_level, told_all, told_symbol, told_symbol_at, told_label, reading_of, Agrees, targets_of}
use Rattle.dactl_model.specs.RuleTold.{pair_node, pair_nodes}
use Rattle.dactl_model.proofs.Induction.{Each, pat_induction}
use Rattle.dactl_model.proofs.Unique.{left_true, right_true}
use Rattle.dactl_model.proofs.Variables.{variables_roll}
use Rattle.dactl_model.proofs.Told.{told_roll, seen}

-- a pair of a variable below the count and a node of the graph
pub record IsPair (count : ℕ) (g : Graph) (pair : ℕ × NodeId) : Type 0 where
  pub variable : pair.0 < count
  pub node : HasNode g pair.1

abbrev pub ArePairs : ℕ → Graph → List (ℕ × NodeId) → Type 0
ArePairs count g pairs = AllByRecursion (IsPair count g) pairs

ArePairs-append : (count : ℕ) (g : Graph) (xs ys : List (ℕ × NodeId)) → ArePairs count g xs → ArePairs count g ys → ArePairs count g (xs ++ ys)
ArePairs-append count g [] ys first second = second
ArePairs-append count g (x ∷ xs) ys first second = (first.0, ArePairs-append count g xs ys first.1 second)

pub All-slice_get : {X : Type 0} (P : X → Type 0) (xs : List X) (i : ℕ) (x : X) → All P xs → slice_get xs i ≡ Some x → P x
All-slice_get P xs i x all at = subst P (get_or_from_slice_get xs i x x at) (All-get_or P xs i x (slice_get_within xs i x at) all)

pub has_node : (g : Graph) (n : NodeId) (node : Node) → node_at g n ≡ Some node → HasNode g n
has_node g n node at = slice_get_within g.nodes n.number node at

-- the targets of a node are nodes
targets_in : (g : Graph) (n : NodeId) (node : Node) → IsWellFormed g → node_at g n ≡ Some node → AllByRecursion (HasNode g) (map (λ a. a.target) node.arcs)
targets_in g n node fine at =
    let here : IsFineNode (length g.nodes) node = All-slice_get (IsFineNode (length g.nodes)) g.nodes n.number node fine.each at in
    recursion_from_All (HasNode g) (map (λ a. a.target) node.arcs) (All-map (HasNode g) (λ a. a.target) node.arcs here.targets)

module _ (count : ℕ) (g : Graph) (rs : List Reading) (fine : IsWellFormed g) (agree : AllByRecursion (Agrees g) rs) where
  abbrev pub HasPairs : Pat → Type 0
  HasPairs p = variables_below count p ≡ true → (n : NodeId) → HasNode g n → ArePairs count g (told rs p n).pairs

  opened : (x : Pat-F Pat)
      → (variables_level count (map-Pat Pat Bool (variables_below count) x) ≡ true → (n : NodeId) → HasNode g n → ArePairs count g (told_level rs (map-Pat Pat (NodeId → Told) (told rs) x) n).pairs)
      → HasPairs (roll-Pat x)
  opened x claim below n has = subst (λ t. ArePairs count g t.pairs) (sym (told_roll rs x n)) (claim (sym (variables_roll count x) ∙ below) n has)

  label_pairs : (o : Option Reading) (test : Label → Bool) → ArePairs count g (told_label o test).pairs
  label_pairs None test = tt
  label_pairs (Some r) test = tt

  all_pairs : (args : List Pat) → Each HasPairs args → list_all (λ b. b) (map (variables_below count) args) ≡ true → (targets : List NodeId) → AllByRecursion (HasNode g) targets
      → ArePairs count g (told_all (map (told rs) args) targets).pairs
  all_pairs [] each below targets has = tt
  all_pairs (p ∷ ps) each below [] has = tt
  all_pairs (p ∷ ps) each below (n ∷ targets) has = ArePairs-append count g _ _ (each.0 (left_true _ _ below) n has.0) (all_pairs ps each.1 (right_true _ _ below) targets has.1)

  symbol_at_pairs : (args : List Pat) → Each HasPairs args → list_all (λ b. b) (map (variables_below count) args) ≡ true → (t : Bool) (targets : List NodeId) → AllByRecursion (HasNode g) targets
      → ArePairs count g (told_symbol_at t (map (told rs) args) targets).pairs
  symbol_at_pairs args each below false targets has = tt
  symbol_at_pairs args each below true targets has = all_pairs args each below targets has

  symbol_pairs : (f : ℕ) (args : List Pat) → Each HasPairs args → list_all (λ b. b) (map (variables_below count) args) ≡ true → (n : NodeId) (o : Option Reading) → reading_of rs n ≡ o
      → ArePairs count g (told_symbol o f (map (told rs) args)).pairs
  symbol_pairs f args each below n None found = tt
  symbol_pairs f args each below n (Some r) found =
      let s = seen g n rs r agree found in
      symbol_at_pairs args each below _ (targets_of r.targets) (subst (AllByRecursion (HasNode g)) s.targets (targets_in g n s.node fine s.at))

  below_of : (v : ℕ) → nat_lt v count ≡ true → v < count
  below_of v test = grind arith

  pub has_pairs : (p : Pat) → HasPairs p
  has_pairs = pat_induction HasPairs (record {
    any = opened Pat-F.Any (λ below n has. tt);
    int = opened Pat-F.Int (λ below n has. label_pairs (reading_of rs n) _);
    char = opened Pat-F.Char (λ below n has. label_pairs (reading_of rs n) _);
    literal = λ i. opened (Pat-F.Literal i) (λ below n has. label_pairs (reading_of rs n) _);
    letter = λ c. opened (Pat-F.Letter c) (λ below n has. label_pairs (reading_of rs n) _);
    symbol = λ f args each. opened (Pat-F.Sym f args) (λ below n has. symbol_pairs f args each below n (reading_of rs n) refl);
    bind = λ v q ih. opened (Pat-F.Bind v q) (λ below n has. (record { variable = below_of v (left_true _ _ below); node = has }, ih (right_true _ _ below) n has));
    union = λ q s left right. opened (Pat-F.Union q s) (λ below n has. tt);
    less = λ q s left right. opened (Pat-F.Less q s) (λ below n has. left (left_true _ _ below) n has);
  })

-- the node of a variable is a node of the graph, for want of a pair its first
pair_node_in : (count : ℕ) (g : Graph) → IsWellFormed g → (pairs : List (ℕ × NodeId)) → ArePairs count g pairs → (v : ℕ) → HasNode g (pair_node pairs v)
pair_node_in count g fine [] are v = fine.some
pair_node_in count g fine (x ∷ xs) are v =
    elim (x.0 == v) as (λ b. HasNode g (if b then x.1 else pair_node xs v)) [ true ↦ are.0.node | false ↦ pair_node_in count g fine xs are.1 v ]

pair_nodes_in : (count : ℕ) (g : Graph) → IsWellFormed g → (pairs : List (ℕ × NodeId)) → ArePairs count g pairs → (v size : ℕ) → AllByRecursion (HasNode g) (pair_nodes pairs v size)
pair_nodes_in count g fine pairs are v zero = tt
pair_nodes_in count g fine pairs are v (suc size) = (pair_node_in count g fine pairs are v, pair_nodes_in count g fine pairs are (v + 1) size)

pub pair_nodes_have : (count : ℕ) (g : Graph) → IsWellFormed g → (pairs : List (ℕ × NodeId)) → ArePairs count g pairs → (size : ℕ) → All (HasNode g) (pair_nodes pairs 0 size)
pair_nodes_have count g fine pairs are size = All-from_recursion (HasNode g) (pair_nodes pairs 0 size) (pair_nodes_in count g fine pairs are 0 size)

pub length-pair_nodes : (pairs : List (ℕ × NodeId)) (v size : ℕ) → length (pair_nodes pairs v size) ≡ size
length-pair_nodes pairs v zero = refl
length-pair_nodes pairs v (suc size) = ap suc (length-pair_nodes pairs (v + 1) size)
