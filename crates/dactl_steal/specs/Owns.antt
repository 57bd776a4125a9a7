-- What a hand has of its own: its deque, and the nodes that it keeps in reserve.
use Rattle.std.specs.Prelude.{◌≡◌, ℕ, ◌+◌, ◌<◌, ◌≤◌, List, [], length}
use Rattle.std.specs.VecDeque.{deque_capacity}
use Rattle.crossbeam_deque.specs.Handles.{worker_deque, worker_flavor, worker_view}
use Rattle.dactl_model.specs.declared.graph.NodeId.{NodeId}
use Rattle.dactl_queue.specs.declared.rule.Account.{Account}
use Rattle.dactl_queue.specs.Accounts.{weigh}
use Rattle.dactl_steal.specs.declared.own.Own.{Own}

-- what the hand did on its own deque
abbrev pub account_of : Own → Account
account_of o = worker_view o.deque

-- the nodes that it keeps in reserve, first out first
abbrev pub reserve_of : Own → List NodeId
reserve_of o = o.reserve.items

-- how many nodes the reserve has memory for
abbrev pub room_of : Own → ℕ
room_of o = deque_capacity o.reserve

-- the weight of all that came in
abbrev pub weight_in : (NodeId → ℕ) → Own → ℕ
weight_in weight o = weigh weight (account_of o).put + weigh weight (reserve_of o)

-- the weight of what was taken from the deque
abbrev pub weight_out : (NodeId → ℕ) → Own → ℕ
weight_out weight o = weigh weight (account_of o).taken

-- the deque is first in first out, and the hand has a part of it
abbrev pub IsUsable : Own → Type 0
IsUsable o = (worker_flavor o.deque ≡ 0) × (0 < (account_of o).parts)

-- it has the same deque and the same parts of it, and as much room
abbrev pub SameOwn : Own → Own → Type 0
SameOwn old new = (worker_deque new.deque ≡ worker_deque old.deque) × (worker_flavor new.deque ≡ worker_flavor old.deque)
    × ((account_of new).parts ≡ (account_of old).parts) × (room_of new ≡ room_of old)
