-- The rule of a roll: each number below 256 stands at one member.
use Rattle.std.specs.Prelude.{◌≡◌, ℕ, zero, suc, ◌+◌, List, [], ◌∷◌, ◌++◌, take, drop}
use Rattle.dactl_steal.specs.Sums.{added}
use Rattle.dactl_model.specs.declared.graph.NodeId.{NodeId}
use Rattle.dactl_steal.specs.declared.roll.Member.{Member}

abbrev pub member : List ℕ → List NodeId → List NodeId → Member
member numbers put taken = record { numbers = numbers; put = put; taken = taken }

-- so many numbers, from this one on
abbrev pub numbers_from : ℕ → ℕ → List ℕ
numbers_from number zero = []
numbers_from number (suc count) = number ∷ numbers_from (suc number) count

abbrev pub everyone : List ℕ
everyone = numbers_from 0 256

pub record IsRoll (items : List NodeId) (members : List Member) : Type 0 where
  pub even : (weight : ℕ → ℕ) → added (λ (m : Member). added weight m.numbers) members ≡ added weight everyone

-- a member and the rest stand for all numbers
abbrev pub Stands : Member → Type 0
Stands m = (rest : List ℕ) × ((weight : ℕ → ℕ) → added weight m.numbers + added weight rest ≡ added weight everyone)

abbrev pub nobody : Member
nobody = member [] [] []

-- the first number goes to a new member
abbrev pub having_enrolled : Member → Member
having_enrolled m = member (drop 1 m.numbers) m.put m.taken

abbrev pub enrolled : Member → Member
enrolled m = member (take 1 m.numbers) [] []

abbrev pub having_put : Member → NodeId → Member
having_put m x = member m.numbers (m.put ++ x ∷ []) m.taken

abbrev pub having_taken : Member → NodeId → Member
having_taken m x = member m.numbers m.put (m.taken ++ x ∷ [])

abbrev pub both : Member → Member → Member
both m n = member (m.numbers ++ n.numbers) (m.put ++ n.put) (m.taken ++ n.taken)
