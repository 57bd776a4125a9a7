-- Each step on a roll keeps its rule, and what the rule tells.
use Rattle.std.proofs.Common.{◌≡◌, ℕ, zero, suc, ◌+◌, List, [], ◌∷◌, ◌++◌, set, take, drop, sym, ap, refl, ⊎_elim, arith}
use mathlib.Core.Option.{some, some-injective, some-ne-none}
use lib.ListN.{get_elem?}
use Rattle.crossbeam_queue.specs.Fifo.{Forks, Merges, Learns}
use Rattle.crossbeam_queue.proofs.Lists.{at_set}
use Rattle.dactl_model.specs.declared.graph.NodeId.{NodeId}
use Rattle.dactl_steal.specs.Members.{IsRoll, Stands, member, everyone, nobody, both, having_enrolled, enrolled}
use Rattle.dactl_steal.specs.Sums.{added}
use Rattle.dactl_steal.specs.declared.roll.Member.{Member}
use Rattle.dactl_steal.proofs.Sums.{added-append, added_set, added_snoc}

abbrev of : (ℕ → ℕ) → Member → ℕ
of weight m = added weight m.numbers

pub begins : IsRoll [] (member everyone [] [] ∷ [])
begins = record { even = λ h. omega arith }

-- a member is cut in two, which stand for its numbers
pub forks : (port : ℕ) (v l r : Member) → ((weight : ℕ → ℕ) → added weight l.numbers + added weight r.numbers ≡ added weight v.numbers) → Forks IsRoll port v l r
forks port v l r same items views roll at = record {
  even = λ h. let t = added_set (of h) views port v l at in let s = added_snoc (of h) (set views port l) r in let e = roll.even h in let q = same h in omega arith;
}

-- what a member put or took makes no difference
pub notes : (port : ℕ) (v w : Member) → w.numbers ≡ v.numbers → Forks IsRoll port v w nobody
notes port v w same = forks port v w nobody (λ h. let q : added h w.numbers ≡ added h v.numbers = ap (added h) same in omega arith)

first_and_rest : (weight : ℕ → ℕ) (l : List ℕ) → added weight (drop 1 l) + added weight (take 1 l) ≡ added weight l
first_and_rest h [] = refl
first_and_rest h (x ∷ xs) = omega arith

pub enrols : (port : ℕ) (v : Member) → Forks IsRoll port v (having_enrolled v) (enrolled v)
enrols port v = forks port v (having_enrolled v) (enrolled v) (λ h. first_and_rest h v.numbers)

pub merges : (port : ℕ) (v : Member) (other : ℕ) (w : Member) → Merges IsRoll port v other w (both v w) nobody
merges port v other w items views roll at apart there = record {
  even = λ h. let t = added_set (of h) views port v (both v w) at in let s = added_set (of h) (set views port (both v w)) other w nobody there in
      let e = roll.even h in let a = added-append h v.numbers w.numbers in omega arith;
}

abbrev numbers_of : List Member → List ℕ
numbers_of [] = []
numbers_of (x ∷ xs) = x.numbers ++ numbers_of xs

numbers_added : (weight : ℕ → ℕ) (xs : List Member) → added weight (numbers_of xs) ≡ added (of weight) xs
numbers_added h [] = refl
numbers_added h (x ∷ xs) = omega (arith, added-append h x.numbers (numbers_of xs), numbers_added h xs)

-- the others of a list of members stand for the rest
others : (views : List Member) (port : ℕ) (v : Member) → get_elem? views port ≡ some v → (rest : List ℕ) × ((weight : ℕ → ℕ) → added weight v.numbers + added weight rest ≡ added (of weight) views)
others [] port v e = absurd (some-ne-none v (sym e))
others (x ∷ xs) zero v e = (numbers_of xs, λ h. let q : of h x ≡ of h v = ap (of h) (some-injective x v e) in omega (arith, numbers_added h xs))
others (x ∷ xs) (suc port) v e = let t = others xs port v e in (x.numbers ++ t.0, λ h. let q = t.1 h in omega (arith, added-append h x.numbers t.0))

pub stands : (port : ℕ) (v : Member) → Learns IsRoll port v (λ _. Stands v)
stands port v items views roll at = let t = others views port v at in (t.0, λ h. let e = roll.even h in let q = t.1 h in omega arith)
