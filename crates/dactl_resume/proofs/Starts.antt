-- The contractum of a graph, and a program with it.
use Rattle.std.proofs.Common.{◌≡◌, ℕ, ◌+◌, ◌*◌, ◌<◌, ◌≤◌, Bool, true, false, List, [], ◌∷◌, map, take, length, All, IsTrue, refl, sym, ◌∙◌, ap, subst, arith, length-append}
use Rattle.std.specs.List.{AllByRecursion}
use Rattle.std.proofs.lemmas.List.{length-map, take_all}
use Rattle.std.proofs.lemmas.List.Sums.{sum_by-cons}
use Rattle.std.proofs.lemmas.List.Elements.{All-from_recursion, recursion_from_All}
use Rattle.dactl_model.specs.declared.graph.Label.{Label}
use Rattle.dactl_model.specs.declared.graph.Label.TheVariants.{Symbol, Integer, Character}
use Rattle.dactl_model.specs.declared.graph.Arc.{Arc}
use Rattle.dactl_model.specs.declared.graph.Mark.{Mark}
use Rattle.dactl_model.specs.declared.graph.Mark.TheVariants.{Idle, Active, Waiting}
use Rattle.dactl_model.specs.declared.graph.Node.{Node}
use Rattle.dactl_model.specs.declared.graph.Graph.{Graph}
use Rattle.dactl_model.specs.declared.program.FreshNode.{FreshNode}
use Rattle.dactl_model.specs.declared.program.Start.{Start}
use Rattle.dactl_model.specs.declared.program.Program.{Program}
use Rattle.dactl_model.specs.Graphs.{flags, FitsLabel, FitsMark, IsFineNode, IsWellFormed}
use Rattle.dactl_model.specs.Firing.{fresh_arc, fresh_node, start_of}
use Rattle.dactl_model.specs.Programs.{IsMention, IsLabel, fresh_flags, IsFreshMark, IsFreshNode, fresh_arcs, AreFreshNodes, is_narrow_label, IsValid}
use Rattle.dactl_model.proofs.Counting.{count_by-map}
use Rattle.dactl_print.specs.Lines.{IsLabelAmong}
use Rattle.dactl_within.proofs.FireKept.{numbered, node_with}
use Rattle.dactl_resume.specs.Answers.{IsRead}
use Rattle.dactl_resume.specs.Plain.{put_nodes, put_node}
use Rattle.dactl_resume.specs.Restriction.{IsOfLanguage, IsPrintable}
use Rattle.dactl_resume.specs.Resumed.{fresh_arc_of, fresh_of, as_start, with_start, IsResumed}
use Rattle.dactl_resume.proofs.Canonical.{graph_is}
use Rattle.dactl_resume.proofs.GraphOf.{node_append}
use Rattle.dactl_resume.proofs.Putting.{text_put}

-- ---- its graph is the graph

arcs_begin : (arcs : List Arc) → map (fresh_arc 0 [] (λ x. x)) (map fresh_arc_of arcs) ≡ arcs
arcs_begin [] = refl
arcs_begin (a ∷ arcs) =
    let number : 0 + a.target.number ≡ a.target.number = omega arith in
    ap (λ (k : ℕ). record { target = numbered k; waits = a.waits } ∷ map (fresh_arc 0 [] (λ x. x)) (map fresh_arc_of arcs)) number ∙ ap (λ (bs : List Arc). a ∷ bs) (arcs_begin arcs)

nodes_begin : (nodes : List Node) → map (fresh_node 0 [] (λ x. x)) (map fresh_of nodes) ≡ nodes
nodes_begin [] = refl
nodes_begin (node ∷ nodes) =
    ap (λ (bs : List Arc). node_with node.label bs node.mark ∷ map (fresh_node 0 [] (λ x. x)) (map fresh_of nodes)) (arcs_begin node.arcs) ∙ ap (λ (ns : List Node). node ∷ ns) (nodes_begin nodes)

pub start_begins : (g : Graph) → start_of (as_start g) ≡ g
start_begins g = graph_is (start_of (as_start g)) g (nodes_begin g.nodes) refl

-- the same of a list that was made node by node
pub start_whole : (g : Graph) (fresh : List FreshNode) (nodes : List Node) (k : ℕ) → fresh ≡ map fresh_of (take k nodes) → length nodes ≤ k → nodes ≡ g.nodes → start_of (record { fresh = fresh; root = g.root.number }) ≡ g
start_whole g fresh nodes k made all are =
    ap (λ (ns : List FreshNode). start_of (record { fresh = ns; root = g.root.number })) (made ∙ ap (map fresh_of) (take_all k nodes all ∙ are)) ∙ start_begins g

-- ---- a program with it is valid

label_is : (symbols : ℕ) (label : Label) (arcs : List Arc) → IsLabelAmong symbols label → FitsLabel label arcs → IsLabel symbols label (length (map fresh_arc_of arcs))
label_is symbols (Symbol f) arcs among fits = among
label_is symbols (Integer z) arcs among fits = ap (λ (bs : List Arc). length (map fresh_arc_of bs)) fits
label_is symbols (Character c) arcs among fits = ap (λ (bs : List Arc). length (map fresh_arc_of bs)) fits

flags_are : (arcs : List Arc) → fresh_flags (map fresh_arc_of arcs) ≡ flags arcs
flags_are = count_by-map (λ a. a.waits) (λ a. a.waits) fresh_arc_of (λ a. refl)

mark_is : (mark : Mark) (arcs : List Arc) → FitsMark mark arcs → IsFreshMark mark (flags arcs)
mark_is Idle arcs fits = tt
mark_is Active arcs fits = tt
mark_is (Waiting k) arcs fits = fits

mentions_are : (count : ℕ) (arcs : List Arc) → AllByRecursion (λ a. a.target.number < count) arcs → AllByRecursion (λ a. IsMention 0 count a.to) (map fresh_arc_of arcs)
mentions_are count [] all = tt
mentions_are count (a ∷ arcs) all = (all.0, mentions_are count arcs all.1)

node_is : (symbols count : ℕ) (node : Node) → IsLabelAmong symbols node.label → IsFineNode count node → IsFreshNode symbols 0 count (fresh_of node)
node_is symbols count node among fine = record {
  label = label_is symbols node.label node.arcs among fine.label;
  few = omega (arith, fine.few, length-map node.arcs fresh_arc_of);
  mentions = All-from_recursion (λ a. IsMention 0 count a.to) (map fresh_arc_of node.arcs) (mentions_are count node.arcs (recursion_from_All (λ a. a.target.number < count) node.arcs fine.targets));
  mark = subst (IsFreshMark node.mark) (sym (flags_are node.arcs)) (mark_is node.mark node.arcs fine.mark);
}

nodes_are : (symbols count : ℕ) (nodes : List Node) → AllByRecursion (λ node. IsLabelAmong symbols node.label) nodes → AllByRecursion (IsFineNode count) nodes → AllByRecursion (IsFreshNode symbols 0 count) (map fresh_of nodes)
nodes_are symbols count [] among fine = tt
nodes_are symbols count (node ∷ nodes) among fine = (node_is symbols count node among.0 fine.0, nodes_are symbols count nodes among.1 fine.1)

arcs_few : (count : ℕ) (nodes : List Node) → AllByRecursion (IsFineNode count) nodes → fresh_arcs (map fresh_of nodes) ≤ 16 * length nodes
arcs_few count [] fine = omega arith
arcs_few count (node ∷ nodes) fine = omega (arith, sum_by-cons (λ (x : FreshNode). length x.arcs) (fresh_of node) (map fresh_of nodes), fine.0.few, length-map node.arcs fresh_arc_of, arcs_few count nodes fine.1)

narrow_label : (label : Label) → IsOfLanguage false label → IsTrue (is_narrow_label label)
narrow_label (Symbol f) is = refl
narrow_label (Integer z) is = is
narrow_label (Character c) is = let no : false ≡ true = is.0 in absurd (cc no)

narrow_nodes : (nodes : List Node) → AllByRecursion (λ node. IsOfLanguage false node.label) nodes → AllByRecursion (λ node. IsTrue (is_narrow_label node.label)) (map fresh_of nodes)
narrow_nodes [] all = tt
narrow_nodes (node ∷ nodes) all = (narrow_label node.label all.0, narrow_nodes nodes all.1)

fresh_are : (p : Program) (g : Graph) → IsWellFormed g → IsPrintable p g → length g.nodes ≤ 1048576 → AreFreshNodes (length p.symbols) 0 (map fresh_of g.nodes)
fresh_are p g fine printable few =
    let each = recursion_from_All (IsFineNode (length g.nodes)) g.nodes fine.each in
    let long = length-map g.nodes fresh_of in
    record {
      each = subst (λ (c : ℕ). All (IsFreshNode (length p.symbols) 0 c) (map fresh_of g.nodes)) (sym long)
          (All-from_recursion (IsFreshNode (length p.symbols) 0 (length g.nodes)) (map fresh_of g.nodes)
          (nodes_are (length p.symbols) (length g.nodes) g.nodes (recursion_from_All (λ node. IsLabelAmong (length p.symbols) node.label) g.nodes printable.symbols) each));
      nodes = omega (arith, long, few);
      arcs = omega (arith, arcs_few (length g.nodes) g.nodes each, few);
    }

pub resumed_valid : (p : Program) (g : Graph) → IsValid p → IsWellFormed g → IsPrintable p g → length g.nodes ≤ 1048576 → IsValid (with_start p (as_start g))
resumed_valid p g valid fine printable few = record {
  truths = valid.truths;
  names = valid.names;
  distinct = valid.distinct;
  add = valid.add;
  sub = valid.sub;
  mul = valid.mul;
  eq = valid.eq;
  lt = valid.lt;
  rules = valid.rules;
  groups = valid.groups;
  start = fresh_are p g fine printable few;
  root = omega (arith, fine.root, length-map g.nodes fresh_of);
  few_symbols = valid.few_symbols;
  few_rules = valid.few_rules;
  narrow = λ width. record {
    rules = (valid.narrow width).rules;
    start = All-from_recursion (λ node. IsTrue (is_narrow_label node.label)) (map fresh_of g.nodes)
        (narrow_nodes g.nodes (recursion_from_All (λ node. IsOfLanguage false node.label) g.nodes (subst (λ (w : Bool). All (λ node. IsOfLanguage w node.label) g.nodes) width printable.language)));
  };
}

-- ---- a graph that is read has no more nodes than the text has bytes

nodes_few : (p : Program) (i : ℕ) (nodes : List Node) → length nodes ≤ length (put_nodes p i nodes)
nodes_few p i [] = omega arith
nodes_few p i (node ∷ nodes) =
    let rest = nodes_few p (i + 1) nodes in
    let whole = length-append (put_node p i node []) (put_nodes p (i + 1) nodes) in
    omega (arith, rest, whole, ap length (node_append p i node (put_nodes p (i + 1) nodes)))

pub read_few : (p : Program) (text : List ℕ) (g : Graph) → IsRead p text g → length g.nodes ≤ length text
read_few p text g read = omega (arith, nodes_few p 0 g.nodes, ap length (text_put p g read.fine read.canonical text read.print))

-- ---- the program that goes on

pub is_resumed : (p : Program) (text : List ℕ) (g : Graph) (start : Start) → IsValid p → length text ≤ 1048576 → IsRead p text g → start ≡ as_start g → IsResumed p text (with_start p start)
is_resumed p text g start valid small read is =
    let few : length g.nodes ≤ 1048576 = omega (arith, small, read_few p text g read) in
    record {
      start = start;
      graph = g;
      read = read;
      begins = ap start_of is ∙ start_begins g;
      is = refl;
      valid = subst (λ (s : Start). IsValid (with_start p s)) (sym is) (resumed_valid p g valid read.fine read.printable few);
    }
