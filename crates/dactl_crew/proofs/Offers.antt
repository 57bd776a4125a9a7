-- How many nodes the workers of a run can have offered.
use Rattle.std.proofs.Common.{◌≡◌, ℕ, ◌+◌, ◌*◌, ◌^◌, ◌<◌, ◌≤◌, List, [], ◌∷◌, ◌++◌, All, inl, inr, take, refl, length, length-append, append_assoc, sym, ap, subst, arith}
use Rattle.std.specs.List.{sum_by, AllByRecursion}
use Rattle.std.proofs.Math.Nat.{mul-suc}
use Rattle.std.proofs.lemmas.Nat.{mul-le}
use Rattle.std.proofs.lemmas.List.{take_all}
use Rattle.std.proofs.lemmas.List.Elements.{recursion_from_All}
use Rattle.std.proofs.lemmas.List.Sums.{sum_by-cons}
use Rattle.dactl_model.specs.declared.graph.NodeId.{NodeId}
use Rattle.dactl_model.specs.declared.graph.Node.{Node}
use Rattle.dactl_model.specs.declared.graph.Graph.{Graph}
use Rattle.dactl_model.specs.declared.graph.Entry.{Entry}
use Rattle.dactl_model.specs.declared.program.Program.{Program}
use Rattle.dactl_model.specs.Acts.{acts_from, node_of_event}
use Rattle.dactl_model.specs.Firing.{start_of}
use Rattle.dactl_model.specs.Programs.{IsValid}
use Rattle.dactl_model.specs.Steps.{Reduction}
use Rattle.dactl_model.proofs.KeptFire.{begins_well_formed}
use Rattle.dactl_model.proofs.Reductions.{Reduction-split, same_reduction}
use Rattle.dactl_state.proofs.Nodes.{run_long}
use Rattle.dactl_state.specs.Runs.{Run, IsCourse}
use Rattle.dactl_workers.specs.Accounts.{LastActs, OwnActs}
use Rattle.dactl_workers.specs.declared.report.WorkerReport.{WorkerReport}
use Rattle.dactl_workers.specs.Reports.{IsReport}
use Rattle.dactl_crew.specs.Running.{AreLimits}

-- no more nodes were made active than there are
acts_few : (before : Graph) (n : NodeId) (k : ℕ) (nodes : List Node) → length (acts_from before n k nodes) ≤ length nodes
acts_few before n k [] = omega arith
acts_few before n k (node ∷ nodes) = let h = acts_few before n (k + 1) nodes in grind arith

module _ (p : Program) (valid : IsValid p) (g : Graph) where
  -- an entry made no more nodes active than the last graph has
  last_few : (front rest : List Entry) (nodes : List NodeId) → Reduction p (start_of p.start) (front ++ rest) g → LastActs p front nodes → length nodes ≤ length g.nodes
  last_few front rest nodes run acts =
      let parts = Reduction-split p (start_of p.start) g front rest run in
      let whole : take (length front) front ≡ front = take_all (length front) front (omega arith) in
      let same : acts.after ≡ parts.0 = same_reduction p (start_of p.start) acts.after parts.0 front valid (begins_well_formed p valid) (subst (λ (z : List Entry). Reduction p (start_of p.start) z acts.after) whole acts.reduced_on) parts.1 in
      let few = acts_few acts.before (node_of_event acts.entry.event) 0 acts.after.nodes in
      let is : length nodes ≡ length (acts_from acts.before (node_of_event acts.entry.event) 0 acts.after.nodes) = ap length acts.acts in
      let long : length acts.after.nodes ≡ length parts.0.nodes = ap (λ (z : Graph). length z.nodes) same in
      let stay = run_long p parts.0 g rest parts.2 in
      omega arith

  -- so the entries of one worker made no more active than there are nodes for each entry
  own_few : (k : ℕ) (before es : List Entry) (nodes : List NodeId) → Reduction p (start_of p.start) (before ++ es) g → OwnActs p k before es nodes → length nodes ≤ length g.nodes * length es
  own_few k before [] nodes run acts = let none : length nodes ≡ 0 = ap length acts in omega arith
  own_few k before (e ∷ es) nodes run acts =
      let on : Reduction p (start_of p.start) ((before ++ e ∷ []) ++ es) g = subst (λ (z : List Entry). Reduction p (start_of p.start) z g) (sym (append_assoc before (e ∷ []) es)) run in
      let more : length g.nodes * length (e ∷ es) ≡ length g.nodes * length es + length g.nodes = mul-suc (length g.nodes) (length es) in
      elim acts as (λ _. length nodes ≤ length g.nodes * length (e ∷ es)) [
        | inl other ↦ let rest = own_few k (before ++ e ∷ []) es nodes on other.1 in omega arith
        | inr own ↦
            let first = last_few (before ++ e ∷ []) es own.1.0 on own.1.2 in
            let rest = own_few k (before ++ e ∷ []) es own.1.1 on own.1.4 in
            let all : length nodes ≡ length own.1.0 + length own.1.1 = (let a = ap length own.1.3 in let b = length-append own.1.0 own.1.1 in omega arith) in
            omega arith
      ]

-- a sum of numbers none of which is above the greatest
sum_few : (f : WorkerReport → ℕ) (most : ℕ) (rs : List WorkerReport) → AllByRecursion (λ (r : WorkerReport). f r ≤ most) rs → sum_by f rs ≤ most * length rs
sum_few f most [] all = let z : sum_by f [] ≡ 0 = refl in omega arith
sum_few f most (r ∷ rs) all =
    let rest = sum_few f most rs all.1 in
    let here = all.0 in
    let more : most * length (r ∷ rs) ≡ most * length rs + most = mul-suc most (length rs) in
    let s = sum_by-cons f r rs in
    omega arith

each_few : (state : Run) → IsCourse state → AreLimits state.limits → (rs : List WorkerReport) → AllByRecursion (IsReport state.program state.journal) rs → AllByRecursion (λ (r : WorkerReport). r.offered ≤ 8000000000000) rs
each_few state course limits [] told = tt
each_few state course limits (r ∷ rs) told =
    let few = own_few state.program course.valid state.held.graph r.worker [] state.journal told.0.offers course.run.reduced told.0.acts in
    let is = told.0.offered in
    let nodes = course.within.nodes in
    let entries = course.few in
    let most_nodes = limits.nodes.1 in
    let most_entries = limits.budget.1 in
    let most = mul-le (length state.held.graph.nodes) (length state.journal) 2000000 4000000 (omega arith) (omega arith) in
    (omega arith, each_few state course limits rs told.1)

-- up to 16 workers of a run within limits offered fewer nodes than a number of 64 bits can count
pub few_offered : (state : Run) → IsCourse state → AreLimits state.limits → (rs : List WorkerReport) → All (IsReport state.program state.journal) rs → length rs ≤ 16 → sum_by (λ (r : WorkerReport). r.offered) rs < 2 ^ 64
few_offered state course limits rs told many =
    let sum = sum_few (λ (r : WorkerReport). r.offered) 8000000000000 rs (each_few state course limits rs (recursion_from_All (IsReport state.program state.journal) rs told)) in
    omega arith
