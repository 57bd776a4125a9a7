-- The rule of the board: what all hands put is, as often, what they took and what the queue holds.
-- The right to know the whole is cut in 256 parts. A board for one hand lends it all of them, and there the order is known too.
use Rattle.std.specs.Prelude.{◌≡◌, ℕ, ◌+◌, ◌-◌, ◌<◌, Bool, true, false, List, [], ◌∷◌, ◌++◌, length}
use mathlib.Core.Option.{some}
use lib.ListN.{get_elem?}
use Rattle.dactl_model.specs.declared.graph.NodeId.{NodeId}
use Rattle.dactl_queue.specs.declared.rule.Account.{Account}

abbrev pub account : ℕ → Bool → List NodeId → List NodeId → Account
account parts solo put taken = record { parts = parts; solo = solo; put = put; taken = taken }

-- the weights of the nodes, added up: equal for all weights where both lists have each node as often
abbrev pub weigh : (NodeId → ℕ) → List NodeId → ℕ
weigh weight [] = 0
weigh weight (x ∷ xs) = weight x + weigh weight xs

-- the nodes put are, as often as they were put, the nodes taken and the nodes left
abbrev pub Balances : List NodeId → List NodeId → List NodeId → Type 0
Balances put taken left = (weight : NodeId → ℕ) → weigh weight put ≡ weigh weight taken + weigh weight left

abbrev pub total : (Account → ℕ) → List Account → ℕ
total f [] = 0
total f (v ∷ vs) = f v + total f vs

-- an account without a part has put and taken nothing; one that is alone has all parts, and what it put is what it took and then the queue
abbrev pub Fits : List NodeId → Account → Type 0
Fits items v = (v.parts ≡ 0 → (v.put ≡ []) × (v.taken ≡ [])) × (v.solo ≡ true → (v.parts ≡ 256) × (v.put ≡ v.taken ++ items))

pub record Balanced (items : List NodeId) (accounts : List Account) : Type 0 where
  pub whole : total (λ v. v.parts) accounts ≡ 256
  pub even : (weight : NodeId → ℕ) → total (λ v. weigh weight v.put) accounts ≡ total (λ v. weigh weight v.taken) accounts + weigh weight items
  pub each : (port : ℕ) (v : Account) → get_elem? accounts port ≡ some v → Fits items v

-- a moment at which the queue holds these nodes, and this account is one of the board's
pub record IsMoment (v : Account) (items : List NodeId) : Type 0 where
  pub accounts : List Account
  pub port : ℕ
  pub at : get_elem? accounts port ≡ some v
  pub balanced : Balanced items accounts

abbrev pub having_put : Account → NodeId → Account
having_put v x = account v.parts v.solo (v.put ++ x ∷ []) v.taken

abbrev pub having_taken : Account → NodeId → Account
having_taken v x = account v.parts v.solo v.put (v.taken ++ x ∷ [])

-- a node is put; one that is alone had put fewer than the room more than it had taken
abbrev pub Puts : ℕ → Account → NodeId → Account → Type 0
Puts room v x w = (w ≡ having_put v x) × (v.solo ≡ true → length v.put < length v.taken + room)

-- a node is taken; one that is alone takes the next of what it put
abbrev pub Takes : Account → NodeId → Account → Type 0
Takes v x w = (w ≡ having_taken v x) × (v.solo ≡ true → (rest : List NodeId) × (v.put ≡ v.taken ++ x ∷ rest))

-- a board's own account, of which one part was lent
abbrev pub having_lent : Account → Account
having_lent v = account (v.parts - 1) false v.put v.taken

abbrev pub joined : Account → Account → Account
joined v w = account (v.parts + w.parts) false (v.put ++ w.put) (v.taken ++ w.taken)

abbrev pub nothing : Account
nothing = account 0 false [] []
