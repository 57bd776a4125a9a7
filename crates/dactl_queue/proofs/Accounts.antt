-- Each step on the queue keeps the rule of the board, and what the rule tells at a moment.
use Rattle.std.proofs.Common.{◌≡◌, ◌≢◌, ℕ, zero, suc, ◌+◌, ◌<◌, ◌≤◌, true, false, true≢false, List, [], ◌∷◌, ◌++◌, length, set, sym, refl, ap, ◌∙◌, subst, ⊎_elim, append_assoc, append-nil, length-append, arith, nat_eq, if◌then◌else◌, Option, Some, None, Result, Ok, Err, MatchOption, MatchResult}
use Rattle.std.proofs.lemmas.List.{nil_from_length}
use mathlib.Core.Option.{some, some-injective, some-ne-none}
use lib.ListN.{get_elem?}
use Rattle.crossbeam_queue.specs.Fifo.{Pushes, Pops, Forks, Merges, Learns, Held}
use Rattle.crossbeam_queue.proofs.Lists.{at_set, at_snoc}
use Rattle.dactl_model.specs.declared.graph.NodeId.{NodeId}
use Rattle.dactl_queue.specs.declared.rule.Account.{Account}
use Rattle.dactl_queue.specs.Accounts.{account, weigh, total, Balances, Fits, Balanced, IsMoment, having_put, having_taken, Puts, Takes, having_lent, joined, nothing}

weigh-append : (h : NodeId → ℕ) (xs ys : List NodeId) → weigh h (xs ++ ys) ≡ weigh h xs + weigh h ys
weigh-append h [] ys = omega arith
weigh-append h (x ∷ xs) ys = omega (arith, weigh-append h xs ys)

total_set : (f : Account → ℕ) (vs : List Account) (i : ℕ) (v w : Account) → get_elem? vs i ≡ some v → total f (set vs i w) + f v ≡ total f vs + f w
total_set f [] i v w e = absurd (some-ne-none v (sym e))
total_set f (x ∷ xs) zero v w e = let q : f x ≡ f v = ap f (some-injective x v e) in omega arith
total_set f (x ∷ xs) (suc i) v w e = omega (arith, total_set f xs i v w e)

total_snoc : (f : Account → ℕ) (vs : List Account) (w : Account) → total f (vs ++ w ∷ []) ≡ total f vs + f w
total_snoc f [] w = omega arith
total_snoc f (x ∷ xs) w = omega (arith, total_snoc f xs w)

total_at : (f : Account → ℕ) (vs : List Account) (i : ℕ) (v : Account) → get_elem? vs i ≡ some v → f v ≤ total f vs
total_at f [] i v e = absurd (some-ne-none v (sym e))
total_at f (x ∷ xs) zero v e = let q : f x ≡ f v = ap f (some-injective x v e) in omega arith
total_at f (x ∷ xs) (suc i) v e = omega (arith, total_at f xs i v e)

abbrev parts : Account → ℕ
parts v = v.parts

-- two accounts have no more parts than all
two_at : (vs : List Account) (i j : ℕ) (v w : Account) → get_elem? vs i ≡ some v → get_elem? vs j ≡ some w → j ≢ i → v.parts + w.parts ≤ total parts vs
two_at [] i j v w a b n = absurd (some-ne-none v (sym a))
two_at (x ∷ xs) zero zero v w a b n = absurd (n refl)
two_at (x ∷ xs) zero (suc j) v w a b n = let q : x.parts ≡ v.parts = ap parts (some-injective x v a) in omega (arith, total_at parts xs j w b)
two_at (x ∷ xs) (suc i) zero v w a b n = let q : x.parts ≡ w.parts = ap parts (some-injective x w b) in omega (arith, total_at parts xs i v a)
two_at (x ∷ xs) (suc i) (suc j) v w a b n = omega (arith, two_at xs i j v w a b (λ e. n (ap suc e)))

over_set : (K : ℕ → Account → Type 0) (vs : List Account) (me : ℕ) (w : Account) → K me w → ((j : ℕ) (d : Account) → j ≢ me → get_elem? vs j ≡ some d → K j d)
    → (j : ℕ) (d : Account) → get_elem? (set vs me w) j ≡ some d → K j d
over_set K vs me w mine others j d e = ⊎_elim (λ (t : (j ≡ me) × (w ≡ d)). subst (λ (x : ℕ × Account). K x.0 x.1) (λ i. (sym t.0 i, t.1 i)) mine)
    (λ (t : (j ≢ me) × (get_elem? vs j ≡ some d)). others j d t.0 t.1) (at_set vs me j w d e)

-- beside an account with a part none is alone
not_alone : (items : List NodeId) (vs : List Account) (r : Balanced items vs) (i j : ℕ) (v w : Account) → 0 < v.parts → get_elem? vs i ≡ some v → get_elem? vs j ≡ some w → j ≢ i → w.solo ≡ true → ⊥
not_alone items vs r i j v w some_part a b n alone = let t = two_at vs i j v w a b n in let e = ((r.each j w b).1 alone).0 in let all = r.whole in omega arith

pub puts : (room port : ℕ) (v : Account) (x : NodeId) → 0 < v.parts → Pushes Balanced room port v x (Puts room v x)
puts room port v x some_part items accounts short r at = let w : Account = having_put v x in let mine = r.each port v at in (
  w,
  record {
    whole = let t = total_set parts accounts port v w at in let b = r.whole in omega arith;
    even = λ h. let s = total_set (λ (u : Account). weigh h u.put) accounts port v w at in let t = total_set (λ (u : Account). weigh h u.taken) accounts port v w at in let b = r.even h in
        let a = weigh-append h v.put (x ∷ []) in let c = weigh-append h items (x ∷ []) in omega arith;
    each = over_set (λ _ (u : Account). Fits (items ++ x ∷ []) u) accounts port w
        ((λ z. absurd (omega arith)), λ alone. let m = mine.1 alone in (m.0, ap (λ (l : List NodeId). l ++ x ∷ []) m.1 ∙ append_assoc v.taken items (x ∷ [])))
        (λ j u other e. ((r.each j u e).0, λ alone. absurd (not_alone items accounts r port j v u some_part at e other alone)));
  },
  (refl, λ alone. let m = mine.1 alone in let l : length v.put ≡ length (v.taken ++ items) = ap length m.1 in omega (arith, length-append v.taken items)),
)

pub takes : (port : ℕ) (v : Account) → 0 < v.parts → Pops Balanced port v (λ x w. Takes v x w)
takes port v some_part x items accounts r at = let w : Account = having_taken v x in let mine = r.each port v at in (
  w,
  record {
    whole = let t = total_set parts accounts port v w at in let b = r.whole in omega arith;
    even = λ h. let s = total_set (λ (u : Account). weigh h u.put) accounts port v w at in let t = total_set (λ (u : Account). weigh h u.taken) accounts port v w at in let b = r.even h in
        let a = weigh-append h v.taken (x ∷ []) in omega arith;
    each = over_set (λ _ (u : Account). Fits items u) accounts port w
        ((λ z. absurd (omega arith)), λ alone. let m = mine.1 alone in (m.0, m.1 ∙ sym (append_assoc v.taken (x ∷ []) items)))
        (λ j u other e. ((r.each j u e).0, λ alone. absurd (not_alone (x ∷ items) accounts r port j v u some_part at e other alone)));
  },
  (refl, λ alone. (items, (mine.1 alone).1)),
)

-- what the rule says is so at that moment
pub knows : (port : ℕ) (v : Account) → Learns Balanced port v (IsMoment v)
knows port v items accounts r at = record { accounts = accounts; port = port; at = at; balanced = r }

moment_alone : (v : Account) (items : List NodeId) → IsMoment v items → v.solo ≡ true → v.put ≡ v.taken ++ items
moment_alone v items now alone = ((now.balanced.each now.port v now.at).1 alone).1

-- of one that is alone, what an answer of a take says
pub take_alone : (answer : Option NodeId) (v w : Account) → v.solo ≡ true → MatchOption answer ((w ≡ v) × Held 0 (IsMoment v)) (λ x. Takes v x w)
    → MatchOption answer (v.put ≡ v.taken) (λ x. (rest : List NodeId) × (v.put ≡ v.taken ++ x ∷ rest))
take_alone None v w alone told = let held = told.1 in moment_alone v held.0 held.2 alone ∙ (ap (λ (l : List NodeId). v.taken ++ l) (nil_from_length held.0 held.1) ∙ append-nil v.taken)
take_alone (Some x) v w alone told = told.1 alone

-- of one that is alone, what an answer of an offer says
pub put_alone : {A : Type 0} (answer : Result A NodeId) (room : ℕ) (node : NodeId) (v w : Account) → v.solo ≡ true
    → MatchResult answer (λ _. Puts room v node w) (λ x. (x ≡ node) × (w ≡ v) × Held room (IsMoment v))
    → MatchResult answer (λ _. length v.put < length v.taken + room) (λ _. length v.put ≡ length v.taken + room)
put_alone (Ok a) room node v w alone told = told.1 alone
put_alone (Err x) room node v w alone told = let held = told.2 in ap length (moment_alone v held.0 held.2 alone) ∙ (length-append v.taken held.0 ∙ ap (λ (n : ℕ). length v.taken + n) held.1)

total_none : (f : Account → ℕ) (vs : List Account) → ((j : ℕ) (u : Account) → get_elem? vs j ≡ some u → f u ≡ 0) → total f vs ≡ 0
total_none f [] zero_each = refl
total_none f (x ∷ xs) zero_each = let z = zero_each 0 x refl in omega (arith, total_none f xs (λ j u b. zero_each (suc j) u b))

total_alone : (f : Account → ℕ) (vs : List Account) (i : ℕ) (v : Account) → get_elem? vs i ≡ some v → ((j : ℕ) (u : Account) → j ≢ i → get_elem? vs j ≡ some u → f u ≡ 0) → total f vs ≡ f v
total_alone f [] i v e none_other = absurd (some-ne-none v (sym e))
total_alone f (x ∷ xs) zero v e none_other = let q : f x ≡ f v = ap f (some-injective x v e) in let z = total_none f xs (λ j u b. none_other (suc j) u (λ h. omega arith) b) in omega arith
total_alone f (x ∷ xs) (suc i) v e none_other = let z = none_other 0 x (λ h. omega arith) refl in omega (arith, total_alone f xs i v e (λ j u n b. none_other (suc j) u (λ h. n (omega arith)) b))

all_parts : (items : List NodeId) (vs : List Account) (r : Balanced items vs) (i j : ℕ) (v w : Account) → v.parts ≡ 256 → get_elem? vs i ≡ some v → get_elem? vs j ≡ some w → j ≢ i → (w.put ≡ []) × (w.taken ≡ [])
all_parts items vs r i j v w all a b n = let t = two_at vs i j v w a b n in let e = r.whole in (r.each j w b).0 (omega arith)

-- an account with all parts knows the whole
pub moment_whole : (v : Account) (items : List NodeId) → IsMoment v items → v.parts ≡ 256 → Balances v.put v.taken items
moment_whole v items now all h = let r = now.balanced in let others = all_parts items now.accounts r now.port in let b = r.even h in
    let s = total_alone (λ (u : Account). weigh h u.put) now.accounts now.port v now.at (λ j u n e. ap (weigh h) (others j v u all now.at e n).0) in
    let t = total_alone (λ (u : Account). weigh h u.taken) now.accounts now.port v now.at (λ j u n e. ap (weigh h) (others j v u all now.at e n).1) in omega arith

module _ (items : List NodeId) (accounts : List Account) (r : Balanced items accounts) (port : ℕ) (v : Account) (at : get_elem? accounts port ≡ some v) where
  -- an account is cut in two, which have its parts and what it put and took
  cut : (left right : Account) → left.parts + right.parts ≡ v.parts → ((h : NodeId → ℕ) → weigh h left.put + weigh h right.put ≡ weigh h v.put) → ((h : NodeId → ℕ) → weigh h left.taken + weigh h right.taken ≡ weigh h v.taken)
      → Fits items left → Fits items right → Balanced items (set accounts port left ++ right ∷ [])
  cut left right same put taken a b = record {
    whole = let t = total_set parts accounts port v left at in let s = total_snoc parts (set accounts port left) right in let w = r.whole in omega arith;
    even = λ h. let t = total_set (λ (u : Account). weigh h u.put) accounts port v left at in let s = total_snoc (λ (u : Account). weigh h u.put) (set accounts port left) right in
        let t2 = total_set (λ (u : Account). weigh h u.taken) accounts port v left at in let s2 = total_snoc (λ (u : Account). weigh h u.taken) (set accounts port left) right in
        let w = r.even h in let p = put h in let q = taken h in omega arith;
    each = λ j u e. ⊎_elim (λ x. over_set (λ _ (u : Account). Fits items u) accounts port left a (λ j u _ e. r.each j u e) j u x) (λ (is : right ≡ u). subst (Fits items) is b) (at_snoc (set accounts port left) right u j e);
  }

pub lends_one : (port : ℕ) (v : Account) → 0 < v.parts → v.put ≡ [] → v.taken ≡ [] → Forks Balanced port v (having_lent v) (account 1 false [] [])
lends_one port v some_part put taken items accounts r at = cut items accounts r port v at (having_lent v) (account 1 false [] []) (omega arith) (λ h. omega arith) (λ h. omega arith)
    ((λ _. (put, taken)), λ h. absurd (true≢false (sym h))) ((λ z. absurd (omega arith)), λ h. absurd (true≢false (sym h)))

pub lends_all : (port : ℕ) (v : Account) → Forks Balanced port v nothing v
lends_all port v items accounts r at = cut items accounts r port v at nothing v (omega arith) (λ h. omega arith) (λ h. omega arith) ((λ _. (refl, refl)), λ h. absurd (true≢false (sym h))) (r.each port v at)

pub merges : (port : ℕ) (v : Account) (other : ℕ) (w : Account) → Merges Balanced port v other w (joined v w) nothing
merges port v other w items accounts r at apart there = let both : Account = joined v w in let vs : List Account = set accounts port both in
    let was : get_elem? accounts other ≡ some w = ⊎_elim (λ x. absurd (apart x.0)) (λ x. x.1) (at_set accounts port other both w there) in
    let mine = r.each port v at in let its = r.each other w was in record {
      whole = let t = total_set parts accounts port v both at in let s = total_set parts vs other w nothing there in let b = r.whole in omega arith;
      even = λ h. let t = total_set (λ (u : Account). weigh h u.put) accounts port v both at in let s = total_set (λ (u : Account). weigh h u.put) vs other w nothing there in
          let t2 = total_set (λ (u : Account). weigh h u.taken) accounts port v both at in let s2 = total_set (λ (u : Account). weigh h u.taken) vs other w nothing there in
          let b = r.even h in let a = weigh-append h v.put w.put in let c = weigh-append h v.taken w.taken in omega arith;
      each = over_set (λ _ (u : Account). Fits items u) vs other nothing ((λ _. (refl, refl)), λ h. absurd (true≢false (sym h)))
          (λ j u _ e. over_set (λ _ (u : Account). Fits items u) accounts port both
          ((λ z. let a = mine.0 (omega arith) in let b = its.0 (omega arith) in ((λ i. a.0 i ++ b.0 i), λ i. a.1 i ++ b.1 i)), λ h. absurd (true≢false (sym h)))
          (λ j u _ e. r.each j u e) j u e);
    }

pub share_some : (n : ℕ) → 0 < (if nat_eq n 1 then 256 else 1)
share_some n = elim (nat_eq n 1) as (λ b. 0 < (if b then 256 else 1)) [ true ↦ omega arith | false ↦ omega arith ]
