-- What a step on a deque does to the account of the hand that makes it.
use Rattle.std.specs.Prelude.{◌≡◌, ℕ, ◌<◌, List, [], ◌++◌, length}
use Rattle.dactl_model.specs.declared.graph.NodeId.{NodeId}
use Rattle.dactl_queue.specs.declared.rule.Account.{Account}
use Rattle.dactl_queue.specs.Accounts.{account, IsMoment}

-- nodes are put
abbrev pub Puts : Account → List NodeId → Account → Type 0
Puts v xs w = w ≡ account v.parts v.solo (v.put ++ xs) v.taken

-- nodes are taken; one that has all parts had put more than it had taken
abbrev pub Takes : Account → List NodeId → Account → Type 0
Takes v xs w = (w ≡ account v.parts v.solo v.put (v.taken ++ xs)) × (v.parts ≡ 256 → length v.taken < length v.put)

-- the deque was empty at a moment at which this account was one of its
abbrev pub WasEmpty : Account → Type 0
WasEmpty v = IsMoment v []
