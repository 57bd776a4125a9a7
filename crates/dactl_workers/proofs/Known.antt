-- Which nodes count as known: those with numbers below a count.
use Rattle.std.proofs.Common.{◌≡◌, ◌⊎◌, inl, inr, ⊎_elim, ℕ, ◌+◌, ◌<◌, ◌≤◌, List, All, Contains, Some, slice_get, max, lt_of_not-le, arith}
use mathlib.Core.Logic.{dite}
use native.Mathlib.Decide.{dec_le}
use Rattle.std.proofs.lemmas.List.Elements.{All-contains}
use Rattle.std.proofs.lemmas.Option.{slice_get_within, get_or_from_slice_get}
use Rattle.dactl_model.specs.declared.graph.NodeId.{NodeId}
use Rattle.dactl_shared.specs.declared.store.SharedStore.{SharedStore}
use Rattle.dactl_shared.specs.declared.store.WorkerSeat.{WorkerSeat}
use Rattle.dactl_shared.specs.Stores.{MayRead}
use Rattle.dactl_workers.specs.Turns.{IsKnownWith, MayReadBelow}

pub contained : {A : Type 0} (xs : List A) (i : ℕ) (x : A) → slice_get xs i ≡ Some x → Contains xs x
contained xs i x is = (i, slice_get_within xs i x is, get_or_from_slice_get xs i x x is)

max_below : (a b k : ℕ) → k < max a b → a ≤ k → k < b
max_below a b k lt le = grind arith

pub known_same : (known : ℕ) (nodes : List NodeId) → IsKnownWith known nodes known
known_same known nodes m lt = inl lt

-- a node more
pub known_step : (known : ℕ) (nodes : List NodeId) (now : ℕ) (n : NodeId) → IsKnownWith known nodes now → Contains nodes n → IsKnownWith known nodes (max now (n.number + 1))
known_step known nodes now n told among m lt = dite (dec_le now m)
    (λ le. inr (n, among, let most = max_below now (n.number + 1) m lt le in omega arith))
    (λ not. told m (lt_of_not-le not))

-- where a node may be read, those before it may be too
pub known_all : (s : SharedStore) (w : WorkerSeat) (known : ℕ) (nodes : List NodeId) (count : ℕ) → MayReadBelow s w known → All (MayRead s w) nodes → IsKnownWith known nodes count → MayReadBelow s w count
known_all s w known nodes count below there told m lt = ⊎_elim
    (λ (known : m.number < known). below m known)
    (λ (node : (n : NodeId) × Contains nodes n × (m.number ≤ n.number)). let it = All-contains (MayRead s w) nodes node.0 there node.1 in (it.0, it.1, let le = node.2 in let has = it.2 in omega arith))
    (told m.number lt)

pub known_more : (s : SharedStore) (w : WorkerSeat) (known : ℕ) (n : NodeId) → MayReadBelow s w known → MayRead s w n → MayReadBelow s w (max known (n.number + 1))
known_more s w known n below there m lt = dite (dec_le known m.number)
    (λ le. (there.0, there.1, let most = max_below known (n.number + 1) m.number lt le in omega arith))
    (λ not. below m (lt_of_not-le not))
