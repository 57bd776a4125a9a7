-- Each step on a deque keeps its rule, and what the rule tells at a moment.
use Rattle.std.proofs.Common.{◌≡◌, ℕ, zero, suc, ◌+◌, ◌<◌, ◌≤◌, List, [], ◌∷◌, ◌++◌, length, refl, arith}
use mathlib.Core.Option.{some}
use lib.ListN.{get_elem?}
use Rattle.crossbeam_deque.specs.Tasks.{Pushes, Takes, Finds, FindsFew, Learns}
use Rattle.dactl_model.specs.declared.graph.NodeId.{NodeId}
use Rattle.dactl_queue.specs.declared.rule.Account.{Account}
use Rattle.dactl_queue.specs.Accounts.{weigh, Balanced, IsMoment}
use Rattle.dactl_queue.proofs.Accounts as queue
use Rattle.dactl_steal.specs.Deques as told

pub weigh_ones : (xs : List NodeId) → weigh (λ _. 1) xs ≡ length xs
weigh_ones [] = refl
weigh_ones (x ∷ xs) = omega (arith, weigh_ones xs)

pub weigh_snoc : (h : NodeId → ℕ) (xs : List NodeId) (y : NodeId) → weigh h (xs ++ y ∷ []) ≡ weigh h xs + h y
weigh_snoc h [] y = omega arith
weigh_snoc h (x ∷ xs) y = omega (arith, weigh_snoc h xs y)

pub puts : (port : ℕ) (v : Account) (x : NodeId) → 0 < v.parts → Pushes Balanced port v (x ∷ []) (told.Puts v (x ∷ []))
puts port v x some_part items views r at = let t = queue.puts (suc (length items)) port v x some_part items views (omega arith) r at in (t.0, t.1, t.2.0)

moment : (items : List NodeId) (views : List Account) (port : ℕ) (v : Account) → Balanced items views → get_elem? views port ≡ some v → IsMoment v items
moment items views port v r at = record { accounts = views; port = port; at = at; balanced = r }

-- one that has all parts has put what it has taken, and the nodes in the deque
pub counts : (v : Account) (items : List NodeId) → IsMoment v items → v.parts ≡ 256 → length v.put ≡ length v.taken + length items
counts v items now all = let b = queue.moment_whole v items now all (λ _. 1) in omega (arith, weigh_ones v.put, weigh_ones v.taken, weigh_ones items)

pub takes : (port : ℕ) (v : Account) → 0 < v.parts → Takes Balanced port v 1 (told.Takes v)
takes port v some_part [] items views many few r at = absurd (omega arith)
takes port v some_part (x ∷ []) items views many few r at = let t = queue.takes port v some_part x items views r at in
    (t.0, t.1, (t.2.0, λ all. let c = counts v (x ∷ items) (moment (x ∷ items) views port v r at) all in omega arith))
takes port v some_part (x ∷ y ∷ xs) items views many few r at = absurd (omega arith)

pub finds : (port : ℕ) (v : Account) → Finds Balanced port v (told.WasEmpty v)
finds port v views r at = moment [] views port v r at

pub finds_few : (port : ℕ) (v : Account) → FindsFew Balanced 0 port v (told.WasEmpty v)
finds_few port v [] views few r at = moment [] views port v r at
finds_few port v (x ∷ xs) views few r at = absurd (omega arith)

pub knows : (port : ℕ) (v : Account) → Learns Balanced port v (IsMoment v)
knows port v items views r at = moment items views port v r at
