-- The symbols of each graph of a run are those of the program.
use Rattle.std.proofs.Common.{ℕ, ◌+◌, ◌≤◌, Bool, true, false, List, [], ◌∷◌, length, map, sym, subst, arith}
use Rattle.std.proofs.lemmas.List.Elements.{All-map, All-append, All-from_recursion, recursion_from_All}
use Rattle.std.specs.List.{AllByRecursion}
use Rattle.std.specs.Prelude.{All}
use Rattle.dactl_model.specs.declared.graph.NodeId.{NodeId}
use Rattle.dactl_model.specs.declared.graph.Label.{Label}
use Rattle.dactl_model.specs.declared.graph.Label.TheVariants.{Symbol, Integer, Character}
use Rattle.dactl_model.specs.declared.graph.Node.{Node}
use Rattle.dactl_model.specs.declared.graph.Graph.{Graph}
use Rattle.dactl_model.specs.declared.graph.Event.{Event}
use Rattle.dactl_model.specs.declared.graph.Event.TheVariants.{Fire, Note}
use Rattle.dactl_model.specs.declared.program.FreshNode.{FreshNode}
use Rattle.dactl_model.specs.declared.program.Op.{Op}
use Rattle.dactl_model.specs.declared.program.Op.TheVariants.{Add, Sub, Mul, Eq, Lt}
use Rattle.dactl_model.specs.declared.program.Body.{Body}
use Rattle.dactl_model.specs.declared.program.Body.TheVariants.{Written, Delta}
use Rattle.dactl_model.specs.declared.program.Program.{Program}
use Rattle.dactl_model.specs.Matching.{truth, delta_label}
use Rattle.dactl_model.specs.Programs.{IsValid, IsLabel, IsFreshNode, IsBody}
use Rattle.dactl_model.specs.Firing.{old_nodes, fresh_node, new_nodes, redirection, redirections, woken_variables, suspension, fired, start_of}
use Rattle.dactl_model.specs.Noting.{noted_nodes}
use Rattle.dactl_model.specs.Steps.{Step, Reduction}
use Rattle.dactl_model.specs.declared.graph.Entry.{Entry}
use Rattle.dactl_print.specs.Lines.{IsLabelAmong, HasSymbolsOf}

abbrev IsAmong : ℕ → Node → Type 0
IsAmong count node = IsLabelAmong count node.label

among_of : (count arcs : ℕ) (label : Label) → IsLabel count label arcs → IsLabelAmong count label
among_of count arcs (Symbol f) is = is
among_of count arcs (Integer i) is = tt
among_of count arcs (Character c) is = tt

old_among : (count : ℕ) (f : NodeId → NodeId) (n : NodeId) (h : List NodeId) (wakes : List ℕ) (suspend k : ℕ) (nodes : List Node) → AllByRecursion (IsAmong count) nodes → AllByRecursion (IsAmong count) (old_nodes f n h wakes suspend k nodes)
old_among count f n h wakes suspend k [] all = tt
old_among count f n h wakes suspend k (node ∷ nodes) all = (all.0, old_among count f n h wakes suspend (k + 1) nodes all.1)

noted_among : (count : ℕ) (n : NodeId) (k : ℕ) (nodes : List Node) → AllByRecursion (IsAmong count) nodes → AllByRecursion (IsAmong count) (noted_nodes n k nodes)
noted_among count n k [] all = tt
noted_among count n k (node ∷ nodes) all = (all.0, noted_among count n (k + 1) nodes all.1)

fresh_among : (count variables fresh m : ℕ) (h : List NodeId) (f : NodeId → NodeId) (nodes : List FreshNode) → All (IsFreshNode count variables fresh) nodes → All (IsAmong count) (map (fresh_node m h f) nodes)
fresh_among count variables fresh m h f nodes all = All-map (IsAmong count) (fresh_node m h f) nodes (λ k d below. among_of count _ _ (all k d below).label)

truth_among : (count : ℕ) (b : Bool) → 7 ≤ count → IsLabelAmong count (truth b)
truth_among count true seven = omega arith
truth_among count false seven = omega arith

delta_among : (count : ℕ) (o : Op) (g : Graph) (h : List NodeId) → 7 ≤ count → IsLabelAmong count (delta_label o g h)
delta_among count Add g h seven = tt
delta_among count Sub g h seven = tt
delta_among count Mul g h seven = tt
delta_among count Eq g h seven = truth_among count _ seven
delta_among count Lt g h seven = truth_among count _ seven

new_among : (count variables m : ℕ) (h : List NodeId) (f : NodeId → NodeId) (g : Graph) (body : Body) → 7 ≤ count → IsBody count variables body → All (IsAmong count) (map (fresh_node m h f) (new_nodes body g h))
new_among count variables m h f g (Written fresh moves wakes suspend) seven is = fresh_among count variables (length fresh) m h f fresh is.news.each
new_among count variables m h f g (Delta o) seven is = All-from_recursion (IsAmong count) (map (fresh_node m h f) (new_nodes (Delta o) g h)) (delta_among count o g h seven, tt)

fired_among : (count variables : ℕ) (g : Graph) (n : NodeId) (h : List NodeId) (body : Body) → 7 ≤ count → IsBody count variables body → All (IsAmong count) g.nodes → All (IsAmong count) (fired g n h body).nodes
fired_among count variables g n h body seven is all =
    let f = redirection (length g.nodes) n h (redirections body) in
    All-append (IsAmong count) (old_nodes f n h (woken_variables body) (suspension body) 0 g.nodes) (map (fresh_node (length g.nodes) h f) (new_nodes body g h))
    (All-from_recursion _ _ (old_among count f n h (woken_variables body) (suspension body) 0 g.nodes (recursion_from_All _ _ all)))
    (new_among count variables (length g.nodes) h f g body seven is)

pub keeps_symbols : (p : Program) (g after : Graph) (e : Event) → IsValid p → HasSymbolsOf p g → Step p g e after → HasSymbolsOf p after
keeps_symbols p g after (Fire n r) valid all step =
    let is = step.1 in
    let rule = valid.rules r is.rule is.is_rule in
    subst (λ x. All (IsAmong (length p.symbols)) x.nodes) (sym is.after) (fired_among (length p.symbols) is.rule.variables g n is.bindings is.rule.body valid.truths rule.body all)
keeps_symbols p g after (Note n) valid all step =
    subst (λ x. All (IsAmong (length p.symbols)) x.nodes) (sym step.1) (All-from_recursion _ _ (noted_among (length p.symbols) n 0 g.nodes (recursion_from_All _ _ all)))

pub begins_symbols : (p : Program) → IsValid p → HasSymbolsOf p (start_of p.start)
begins_symbols p valid = fresh_among (length p.symbols) 0 (length p.start.fresh) 0 [] (λ x. x) p.start.fresh valid.start.each

-- and of the graph to which a journal leads
pub reduction_symbols : (p : Program) (g after : Graph) (journal : List Entry) → IsValid p → HasSymbolsOf p g → Reduction p g journal after → HasSymbolsOf p after
reduction_symbols p g after [] valid all run = subst (HasSymbolsOf p) (sym run) all
reduction_symbols p g after (entry ∷ journal) valid all run = reduction_symbols p run.0 after journal valid (keeps_symbols p g run.0 entry.event valid all run.1) run.2
