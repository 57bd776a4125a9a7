-- What a turn that adds no entry tells the seat that took it.
use Rattle.std.proofs.Common.{◌≡◌, ◌⊎◌, ⊎_elim, ℕ, ◌<◌, ◌≤◌, List, [], refl, sym, ap, ◌∙◌, subst, length, All, Contains, MatchBool, Bool, true, false, nat_lt, arith}
use Rattle.std.proofs.lemmas.Bool.{ltb-true, ltb-false}
use Rattle.std.proofs.lemmas.List.Elements.{All-weaker, All-contains}
use Rattle.std.proofs.lemmas.Option.{slice_get_within}
use Rattle.dactl_model.specs.declared.graph.NodeId.{NodeId}
use Rattle.dactl_model.specs.declared.graph.Entry.{Entry}
use Rattle.dactl_model.specs.declared.program.Program.{Program}
use Rattle.dactl_model.specs.declared.reading.Reading.{Reading}
use Rattle.dactl_model.specs.Matching.{IsActive}
use Rattle.dactl_model.specs.Firing.{start_of}
use Rattle.dactl_model.specs.Steps.{Reduction}
use Rattle.dactl_model.specs.Readings.{targets_of}
use Rattle.dactl_model.specs.Versions.{IsVersion}
use Rattle.dactl_store.specs.Held.{IsReadingOf}
use Rattle.dactl_probe.specs.Probing.{Probing, IsNextNode, IsTargetRead}
use Rattle.dactl_turn.specs.Gives.{end_of, StartsWith}
use Rattle.dactl_state.specs.Runs.{Run}
use Rattle.dactl_shared.specs.declared.store.SharedStore.{SharedStore}
use Rattle.dactl_shared.specs.declared.store.WorkerSeat.{WorkerSeat}
use Rattle.dactl_shared.specs.Stores.{WorksFor, gives_of, seen_of, mine_of, program_of, limits_of, MayRead, Looks}
use Rattle.dactl_shared.proofs.Nodes.{node_found}
use Rattle.dactl_shared.proofs.Turns.{looked_entries}
use Rattle.dactl_shared.proofs.Later.{looks_later, looks_known}
use Rattle.dactl_workers.specs.Turns.{MayReadBelow, MayReadTargets, IsActiveAfter, IsReadSince, HasLooked}
use Rattle.dactl_workers.proofs.Fronts.{starts_trans, starts_same}

module _ (s : SharedStore) (old new : WorkerSeat) (Tells : Run → Type 0) where
  pub looked : Looks s old new Tells → WorksFor s new → new.number ≡ old.number → mine_of new ≡ mine_of old → HasLooked s old new
  looked l own number mine = record {
    own = own;
    number = number;
    later = looks_later s old new Tells l;
    mine = mine;
    nodes = λ n there. looks_known s old new Tells n l there;
  }

  -- the entries that the seat has then seen are the state's
  seen_journal : (l : Looks s old new Tells) → l.run.journal ≡ seen_of new
  seen_journal l = l.is.entries ∙ sym (looked_entries l.found (gives_of new) (end_of l.found) l.after)

  -- a node that is active in the state's graph is so after them
  pub active_after : (l : Looks s old new Tells) (n : NodeId) → IsActive l.run.held.graph n → IsActiveAfter (program_of s) (seen_of new) n
  active_after l n active = (l.run.held.graph, subst (λ (z : Program × List Entry). Reduction z.0 (start_of z.0.start) z.1 l.run.held.graph) (λ i. (l.is.program i, seen_journal l i)) l.is.course.run.reduced, active)

pub looked_on : (s : SharedStore) (a b c : WorkerSeat) → HasLooked s a b → HasLooked s b c → HasLooked s a c
looked_on s a b c p q = record {
  own = q.own;
  number = q.number ∙ p.number;
  later = starts_trans (seen_of c) (seen_of b) (seen_of a) q.later p.later;
  mine = q.mine ∙ p.mine;
  nodes = λ n there. q.nodes n (p.nodes n there);
}

pub looked_same : (s : SharedStore) (a : WorkerSeat) → WorksFor s a → HasLooked s a a
looked_same s a own = record { own = own; number = refl; later = starts_same (seen_of a); mine = refl; nodes = λ n there. there }

pub below_on : (s : SharedStore) (a b : WorkerSeat) (known : ℕ) → HasLooked s a b → MayReadBelow s a known → MayReadBelow s b known
below_on s a b known l all = λ n lt. l.nodes n (all n lt)

pub targets_on : (s : SharedStore) (a b : WorkerSeat) (rs : List Reading) → HasLooked s a b → All (MayReadTargets s a) rs → All (MayReadTargets s b) rs
targets_on s a b rs l all = All-weaker (MayReadTargets s a) (MayReadTargets s b) (λ r there. All-weaker (MayRead s a) (MayRead s b) l.nodes (targets_of r.targets) there) rs all

pub since_on : (p : Program) (start now later : List Entry) (rs : List Reading) → StartsWith later now → All (IsReadSince p start now) rs → All (IsReadSince p start later) rs
since_on p start now later rs on all = All-weaker (IsReadSince p start now) (IsReadSince p start later)
    (λ r i. record { at = i.at; after = i.after; until = starts_trans later now i.at on i.until; version = i.version }) rs all

-- the count tells of all nodes that the seat had seen
pub counted_all : (s : SharedStore) (old new : WorkerSeat) (count : ℕ) (n : NodeId) → Looks s old new (λ r. count ≡ length r.held.graph.nodes) → MayRead s old n → n.number < count
counted_all s old new count n l there = let has = node_found (program_of s) (limits_of s) l.found (gives_of old) l.run n l.is l.later there in let e = l.tells in omega arith

-- a reading was taken at what the seat has then seen
pub read_since : (s : SharedStore) (start : List Entry) (old new : WorkerSeat) (n : NodeId) (r : Reading) → StartsWith (seen_of new) start → Looks s old new (λ run. IsReadingOf run.held n r) → IsReadSince (program_of s) start (seen_of new) r
read_since s start old new n r on l = let read = l.tells in let course = l.is.course in let within = slice_get_within l.run.held.versions n.number r.version read.version in let long = course.store.versions in record {
  at = seen_of new;
  after = on;
  until = starts_same (seen_of new);
  version = subst (λ (z : Program × List Entry × NodeId). IsVersion z.0 z.1 z.2 r.version) (λ i. (l.is.program i, seen_journal s old new (λ run. IsReadingOf run.held n r) l i, sym read.node i)) (course.run.versions n r.version (omega arith) read.version);
}

-- the node that a probe needs may be read
pub need_there : (s : SharedStore) (seat : WorkerSeat) (p : Probing) (m : NodeId) → IsNextNode p m → MayRead s seat p.node → All (MayReadTargets s seat) p.readings → MayRead s seat m
need_there s seat p m next there targets = ⊎_elim
    (λ (first : (p.readings ≡ []) × (m ≡ p.node)). subst (MayRead s seat) (sym first.1) there)
    (λ (read : IsTargetRead p.readings m). All-contains (MayRead s seat) (targets_of read.0.targets) m (All-contains (MayReadTargets s seat) p.readings read.0 targets read.1) read.2)
    next.place

-- a test of two numbers
pub by_test : (a b : ℕ) (P Q : Type 0) → (a < b → P) → (b ≤ a → Q) → MatchBool (nat_lt a b) P Q
by_test a b P Q below above = by_bool (nat_lt a b) (λ is. below (ltb-true a b is)) (λ is. above (ltb-false a b is))
  where
    by_bool : (t : Bool) → (t ≡ true → P) → (t ≡ false → Q) → MatchBool t P Q
    by_bool true f g = f refl
    by_bool false f g = g refl
