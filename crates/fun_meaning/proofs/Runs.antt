-- The invariant holds at the start, and what the root unfolds to after a run is the value of the expression.
use Rattle.std.proofs.Common.{◌≡◌, ℕ, ◌+◌, List, [], ◌∷◌, map, Some, slice_get, refl, sym, ◌∙◌, ap, subst, arith}
use Rattle.std.proofs.lemmas.Simd.{map-map}
use Rattle.dactl_model.specs.declared.graph.NodeId.{NodeId}
use Rattle.dactl_model.specs.declared.graph.Graph.{Graph}
use Rattle.dactl_model.specs.declared.graph.Entry.{Entry}
use Rattle.dactl_model.specs.declared.program.Mention.TheVariants.{Fresh}
use Rattle.dactl_model.specs.declared.program.Program.{Program}
use Rattle.dactl_model.specs.Graphs.{IsWellFormed}
use Rattle.dactl_model.specs.Programs.{IsValid}
use Rattle.dactl_model.specs.Firing.{mentioned, fresh_arc, fresh_node, start_of}
use Rattle.dactl_model.specs.Steps.{Reduction}
use Rattle.dactl_model.specs.Versions.{content_of}
use Rattle.dactl_model.proofs.KeptFire.{keeps_well_formed, begins_well_formed}
use Rattle.fun_meaning.specs.declared.tree.Expr.{Expr}
use Rattle.fun_meaning.specs.declared.tree.Fun.{Fun}
use Rattle.fun_meaning.specs.Meaning.{symbol_names, MeansAt, Means}
use Rattle.fun_meaning.specs.Translation.{IsTidyFresh, IsProgramOf}
use Rattle.fun_meaning.specs.Invariant.{IsTidyNode, IsTidy}
use Rattle.fun_meaning.specs.Statements.{BeginsTidy, StartsAtTheValue, UnfoldsToTheValue, UnfoldsToOne}
use Rattle.fun_meaning.proofs.Zips.{each_at}
use Rattle.fun_meaning.proofs.Depths.{unfolds_means, means_one}
use Rattle.fun_meaning.proofs.Contractum.{AreNew, stands_value}
use Rattle.fun_meaning.proofs.After.{get_map}
use Rattle.fun_meaning.proofs.KeptTidy.{fresh_tidy}
use Rattle.fun_meaning.proofs.FireTidy.{get_unmap}
use Rattle.fun_meaning.proofs.StepBack.{keeps_meaning}
use Rattle.fun_meaning.proofs.StepTidy.{keeps_tidy}

new_start : (p : Program) → AreNew (start_of p.start) 0 [] (λ x. x) p.start.fresh
new_start p j node at =
    let number : 0 + j ≡ j = omega arith in
    ap (λ k. content_of (slice_get (map (fresh_node 0 [] (λ x. x)) p.start.fresh) k)) number
    ∙ ap content_of (get_map (fresh_node 0 [] (λ x. x)) p.start.fresh j node at)
    ∙ ap (λ ts. Some (record { label = node.label; targets = ts })) (map-map (λ a. a.target) (fresh_arc 0 [] (λ x. x)) node.arcs)

-- the first graph is as the invariant wants
pub begins_tidy : BeginsTidy
begins_tidy e p is n node at =
    let from = get_unmap (fresh_node 0 [] (λ x. x)) p.start.fresh n.number node at in
    subst (IsTidyNode e p (start_of p.start)) (sym from.2)
    (fresh_tidy e p (start_of p.start) 0 [] (λ x. x) 0 p.start.fresh is.constructors (new_start p) (λ j. refl) (λ v below. absurd (omega arith)) (λ v below. refl) from.0
    (each_at (IsTidyFresh e (symbol_names p) 0 p.start.fresh) p.start.fresh n.number from.0 is.start_tidy from.1))

abbrev numbered : ℕ → NodeId
numbered k = record { number = k }

-- a value that its root has is the expression's
pub start_value : StartsAtTheValue
start_value e p v is means =
    let number : 0 + p.start.root ≡ p.start.root = omega arith in
    let root : mentioned 0 [] (Fresh p.start.root) ≡ (start_of p.start).root = ap numbered number in (
      means.0,
      stands_value e (symbol_names p) (start_of p.start) 0 [] (λ x. x) [] [] p.start.fresh is.constructors (new_start p) (λ j. refl) (λ x below. absurd (omega arith)) is.start_height means.0 e.main (Fresh p.start.root) v is.start
          (subst (λ n. MeansAt means.0 e (symbol_names p) (start_of p.start) n v) (sym root) means.1),
    )

-- a value after a run is one before it
pub run_back : (e : Fun) (p : Program) (journal : List Entry) (g after : Graph) (v : Expr) → IsValid p → IsProgramOf e p → IsWellFormed g → IsTidy e p g → Reduction p g journal after → Means e (symbol_names p) after after.root v
    → Means e (symbol_names p) g g.root v
run_back e p [] g after v valid is fine tidy run means = subst (λ x. Means e (symbol_names p) x x.root v) run means
run_back e p (entry ∷ journal) g after v valid is fine tidy run means =
    let mid_fine = keeps_well_formed p g run.0 entry.event valid fine run.1 in
    let mid_tidy = keeps_tidy e p g run.0 entry.event valid is fine tidy run.1 in
    keeps_meaning e p g run.0 entry.event v valid is fine tidy run.1 (run_back e p journal run.0 after v valid is mid_fine mid_tidy run.2 means)

-- each graph of a run keeps the invariant
pub run_tidy : (e : Fun) (p : Program) (journal : List Entry) (g after : Graph) → IsValid p → IsProgramOf e p → IsWellFormed g → IsTidy e p g → Reduction p g journal after → IsTidy e p after
run_tidy e p [] g after valid is fine tidy run = subst (IsTidy e p) (sym run) tidy
run_tidy e p (entry ∷ journal) g after valid is fine tidy run =
    run_tidy e p journal run.0 after valid is (keeps_well_formed p g run.0 entry.event valid fine run.1) (keeps_tidy e p g run.0 entry.event valid is fine tidy run.1) run.2

pub unfolds_to_the_value : UnfoldsToTheValue
unfolds_to_the_value e p journal g v valid is run unfolds =
    start_value e p v is (run_back e p journal (start_of p.start) g v valid is (begins_well_formed p valid) (begins_tidy e p is) run (unfolds.0, unfolds_means unfolds.0 e (symbol_names p) g is.constructors g.root v unfolds.1))

pub unfolds_to_one : UnfoldsToOne
unfolds_to_one e p g n v w is one other = means_one one.0 other.0 e (symbol_names p) g is.constructors n v w (unfolds_means one.0 e (symbol_names p) g is.constructors n v one.1) other.1
