-- Nodes stay, and so does the node of a reading that the journal shows.
use Rattle.std.proofs.Common.{◌≡◌, ℕ, ◌+◌, ◌≤◌, List, [], ◌∷◌, map, take, sym, ap, ◌∙◌, subst, length, length-append, Some, inl, inr, arith}
use Rattle.std.proofs.Math.Seq.{take-length}
use Rattle.std.proofs.lemmas.Option.{slice_get_cases}
use Rattle.dactl_model.specs.declared.graph.NodeId.{NodeId}
use Rattle.dactl_model.specs.declared.graph.Graph.{Graph}
use Rattle.dactl_model.specs.declared.graph.Entry.{Entry}
use Rattle.dactl_model.specs.declared.graph.Event.{Event}
use Rattle.dactl_model.specs.declared.graph.Event.TheVariants.{Fire, Note}
use Rattle.dactl_model.specs.declared.program.Body.{Body}
use Rattle.dactl_model.specs.declared.program.FreshNode.{FreshNode}
use Rattle.dactl_model.specs.declared.program.Move.{Move}
use Rattle.dactl_model.specs.declared.program.Program.{Program}
use Rattle.dactl_model.specs.declared.reading.Reading.{Reading}
use Rattle.dactl_model.specs.Graphs.{HasNode}
use Rattle.dactl_model.specs.Programs.{IsValid}
use Rattle.dactl_model.specs.Firing.{start_of, fired, rewritten, old_nodes, fresh_node, redirection, new_nodes, redirections, woken_variables, suspension}
use Rattle.dactl_model.specs.Steps.{Step, Reduction}
use Rattle.dactl_model.specs.Versions.{content, content_read, IsShown}
use Rattle.dactl_model.proofs.KeptNote.{length-noted_nodes}
use Rattle.dactl_model.proofs.KeptFire.{length-old_nodes, begins_well_formed}
use Rattle.dactl_model.proofs.Reductions.{Reduction-split, same_reduction}

rewritten_long : (g : Graph) (n : NodeId) (h : List NodeId) (fresh : List FreshNode) (moves : List Move) (wakes : List ℕ) (suspend : ℕ) → length g.nodes ≤ length (rewritten g n h fresh moves wakes suspend).nodes
rewritten_long g n h fresh moves wakes suspend = let m = length g.nodes in let f = redirection m n h moves in
    let a : length (rewritten g n h fresh moves wakes suspend).nodes ≡ length (old_nodes f n h wakes suspend 0 g.nodes) + length (map (fresh_node m h f) fresh) = length-append (old_nodes f n h wakes suspend 0 g.nodes) (map (fresh_node m h f) fresh) in
    let b : length (old_nodes f n h wakes suspend 0 g.nodes) ≡ length g.nodes = length-old_nodes f n h wakes suspend 0 g.nodes in omega arith

fired_long : (g : Graph) (n : NodeId) (h : List NodeId) (body : Body) → length g.nodes ≤ length (fired g n h body).nodes
fired_long g n h body = rewritten_long g n h (new_nodes body g h) (redirections body) (woken_variables body) (suspension body)

-- a step, and so a journal, takes no node away
pub step_long : (p : Program) (g after : Graph) (e : Event) → Step p g e after → length g.nodes ≤ length after.nodes
step_long p g after (Fire n r) s = subst (λ (z : Graph). length g.nodes ≤ length z.nodes) (sym s.1.after) (fired_long g n s.1.bindings s.1.rule.body)
step_long p g after (Note n) s = let e : length after.nodes ≡ length g.nodes = ap (λ (z : Graph). length z.nodes) s.1 ∙ length-noted_nodes n 0 g.nodes in omega arith

pub run_long : (p : Program) (g after : Graph) (es : List Entry) → Reduction p g es after → length g.nodes ≤ length after.nodes
run_long p g after [] run = let e : length after.nodes ≡ length g.nodes = ap (λ (z : Graph). length z.nodes) run in omega arith
run_long p g after (e ∷ es) run = let a = step_long p g run.0 e.event run.1 in let b = run_long p run.0 after es run.2 in omega arith

-- the node of a reading that the journal shows is there
pub shown_has : (p : Program) (journal : List Entry) (g : Graph) (r : Reading) → IsValid p → Reduction p (start_of p.start) journal g → IsShown p journal r → HasNode g r.node
shown_has p journal g r valid run s = let parts = Reduction-split p (start_of p.start) g s.prefix s.rest (subst (λ (z : List Entry). Reduction p (start_of p.start) z g) s.parts run) in
    let whole : take (length s.prefix) s.prefix ≡ s.prefix = take-length s.prefix in
    let same = same_reduction p (start_of p.start) s.has.graph parts.0 s.prefix valid (begins_well_formed p valid) (subst (λ (z : List Entry). Reduction p (start_of p.start) z s.has.graph) whole s.has.reduced) parts.1 in
    let is : content parts.0 r.node ≡ Some (content_read r) = ap (λ (z : Graph). content z r.node) (sym same) ∙ s.has.is in
    let more = run_long p parts.0 g s.rest parts.2 in
    elim (slice_get_cases parts.0.nodes r.node.number).1 [
      | inl (node, below, at, eq) ↦ omega arith
      | inr (past, none) ↦ absurd (cc)
    ]
