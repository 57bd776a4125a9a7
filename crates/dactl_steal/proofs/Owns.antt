-- What a hand has of its own, after a node went in or out.
use Rattle.std.proofs.Common.{◌≡◌, ℕ, ◌+◌, ◌<◌, ◌≤◌, List, [], ◌∷◌, ◌++◌, length, map, sym, ap, ◌∙◌, subst, inr, ⊎_elim, ◌⊎◌, Option, Some, None, MatchOption, option_to_list, arith}
use mathlib.Core.Option.{some}
use Rattle.dactl_model.specs.declared.graph.NodeId.{NodeId}
use Rattle.std.proofs.lemmas.List.{length-map}
use Rattle.crossbeam_deque.specs.Handles.{stealer_deque}
use Rattle.crossbeam_queue.specs.Passes.{Pass, view, IsPassOf}
use Rattle.dactl_queue.specs.declared.rule.Account.{Account}
use Rattle.dactl_queue.specs.Accounts.{weigh}
use Rattle.dactl_steal.specs.Deques.{WasEmpty}
use Rattle.dactl_steal.specs.Members.{having_taken}
use Rattle.dactl_steal.specs.Others.{OthersFit, WereEmpty, stolen}
use Rattle.dactl_steal.specs.Owns.{account_of, reserve_of, room_of, weight_in, weight_out, IsUsable, SameOwn}
use Rattle.dactl_steal.specs.Boards.{OwnFits, HandFits, SameHand, FoundNone, hands_of, deques_of, put_of, taken_of, kept_of}
use Rattle.dactl_steal.specs.declared.board.StealBoard.{StealBoard}
use Rattle.dactl_steal.specs.declared.board.StealHand.{StealHand}
use Rattle.dactl_steal.specs.declared.other.Other.{Other}
use Rattle.dactl_steal.specs.declared.own.Own.{Own}
use Rattle.dactl_steal.specs.declared.roll.Member.{Member}
use Rattle.dactl_steal.proofs.Deques.{weigh_snoc, weigh_ones}
use Rattle.dactl_steal.proofs.Others.{nothing_stolen}

abbrev Badge : Type 0
Badge = Pass NodeId Member

-- where the deque holds nothing, what an answer of the reserve says of the numbers
pub kept_alone : (answer : Option NodeId) (old new : List NodeId) (put taken : ℕ) → put ≡ taken → old ≡ option_to_list answer ++ new → MatchOption answer (taken ≡ put) (λ _. taken < put + length old)
kept_alone None old new put taken even items = sym even
kept_alone (Some x) old new put taken even items = let l : length old ≡ length (x ∷ new) = ap length items in omega arith

pub usable_kept : (o p : Own) → IsUsable o → SameOwn o p → IsUsable p
usable_kept o p usable same = (same.1 ∙ usable.0, subst (λ (n : ℕ). 0 < n) (sym same.2) usable.1)

pub own_kept : (b : StealBoard) (number : ℕ) (o p : Own) → OwnFits b number o → SameOwn o p → length (reserve_of p) ≤ room_of p → OwnFits b number p
own_kept b number o p fits same few = record {
  deque = fits.deque ∙ ap some (sym same.0);
  usable = usable_kept o p fits.usable same;
  parts = ap (λ (n : ℕ). n + hands_of b) same.2 ∙ fits.parts;
  room = same.3 ∙ fits.room;
  few = subst (λ (n : ℕ). length (reserve_of p) ≤ n) (same.3 ∙ fits.room) few;
}

-- a hand after a node was found, or none, and not noted yet
pub hand_kept : (b : StealBoard) (h k : StealHand) → HandFits b h → SameHand h k → OwnFits b k.number k.own × OthersFit k.number (deques_of b) k.others.items
hand_kept b h k fits same = (
  subst (λ (n : ℕ). OwnFits b n k.own) (sym same.number) (own_kept b h.number h.own k.own fits.own same.own (let a = same.kept in let f = fits.own.few in let r = fits.own.room in let s = same.own.3 in omega arith)),
  subst (λ (n : ℕ). OthersFit n (deques_of b) k.others.items) (sym same.number) (same.others h.number (deques_of b) fits.others),
)

-- a hand that found a node, once it is noted
pub found_fits : (b : StealBoard) (h k : StealHand) (badge : Badge) (x : NodeId) → HandFits b h → SameHand h k → IsPassOf b.roll badge → view badge ≡ having_taken (view k.badge) x
    → ((w : NodeId → ℕ) → weight_in w h.own + weight_out w k.own + stolen w k.others.items ≡ weight_in w k.own + weight_out w h.own + stolen w h.others.items + w x)
    → HandFits b (record k { badge = badge })
found_fits b h k badge x fits same pass now found = let noted : view badge ≡ having_taken (view h.badge) x = now ∙ ap (λ (p : Badge). having_taken (view p) x) same.badge in let rest = hand_kept b h k fits same in record {
  badge = pass;
  stands = ap (λ (m : Member). m.numbers) noted ∙ (fits.stands ∙ ap (λ (n : ℕ). n ∷ []) (sym same.number));
  number = subst (λ (n : ℕ). n < hands_of b) (sym same.number) fits.number;
  own = rest.0;
  others = rest.1;
  few = let p = ap (λ (m : Member). length m.put) noted in let f = fits.few in let s = same.kept in omega arith;
  even = λ w. let p = ap (λ (m : Member). weigh w m.put) noted in let t = ap (λ (m : Member). weigh w m.taken) noted in
      let e = fits.even w in let f = found w in omega (arith, weigh_snoc w (taken_of h) x);
}

-- a hand that found none
pub none_fits : (b : StealBoard) (h k : StealHand) → HandFits b h → SameHand h k → FoundNone k → kept_of h ≡ [] → account_of k.own ≡ account_of h.own
    → ((w : NodeId → ℕ) → stolen w k.others.items ≡ stolen w h.others.items) → HandFits b k
none_fits b h k fits same none kept account stole = let rest = hand_kept b h k fits same in let badge = same.badge in record {
  badge = subst (IsPassOf b.roll) (sym badge) fits.badge;
  stands = ap (λ (p : Badge). (view p).numbers) badge ∙ (fits.stands ∙ ap (λ (n : ℕ). n ∷ []) (sym same.number));
  number = subst (λ (n : ℕ). n < hands_of b) (sym same.number) fits.number;
  own = rest.0;
  others = rest.1;
  few = let p = ap (λ (q : Badge). length (view q).put) badge in let f = fits.few in let s = same.kept in omega arith;
  even = λ w. let p = ap (λ (q : Badge). weigh w (view q).put) badge in let t = ap (λ (q : Badge). weigh w (view q).taken) badge in
      let a = ap (λ (v : Account). weigh w v.put) account in let c = ap (λ (v : Account). weigh w v.taken) account in let r = ap (weigh w) (none.2 ∙ sym kept) in
      let e = fits.even w in let f = stole w in omega arith;
}

all_parts : (b : StealBoard) (h : StealHand) → HandFits b h → hands_of b ≡ 1 → (account_of h.own).parts ≡ 256
all_parts b h fits one = let p = fits.own.parts in omega arith

nothing_of : (b : StealBoard) (h : StealHand) → hands_of b ≡ 1 → h.number < hands_of b → (w : NodeId → ℕ) (others : List (Option Other)) → OthersFit h.number (deques_of b) others → stolen w others ≡ 0
nothing_of b h one below w others fits = nothing_stolen (deques_of b) others w (length-map b.thieves.items stealer_deque ∙ one)
    (subst (λ (n : ℕ). OthersFit n (deques_of b) others) (let z : h.number ≡ 0 = omega arith in z) fits)

alone_even : (b : StealBoard) (h : StealHand) → HandFits b h → hands_of b ≡ 1
    → length (put_of h) + length (account_of h.own).taken ≡ length (taken_of h) + (length (account_of h.own).put + length (kept_of h))
alone_even b h fits one = let e = fits.even (λ _. 1) in let n = nothing_of b h one fits.number (λ _. 1) h.others.items fits.others in
    omega (arith, weigh_ones (put_of h), weigh_ones (taken_of h), weigh_ones (account_of h.own).taken, weigh_ones (account_of h.own).put, weigh_ones (kept_of h))

abbrev pub kept_when_none : Option NodeId → StealHand → Type 0
kept_when_none None h = kept_of h ≡ []
kept_when_none (Some x) h = Unit {0}

-- of the only hand, what an answer says of the numbers
pub found_alone : (answer : Option NodeId) (b : StealBoard) (h k : StealHand) → HandFits b h → SameHand h k → kept_when_none answer h
    → ((account_of h.own).parts ≡ 256 → MatchOption answer (length (account_of h.own).taken ≡ length (account_of h.own).put)
    (λ _. (length (account_of h.own).taken < length (account_of h.own).put + length (kept_of h)) ⊎ (stolen (λ _. 1) k.others.items ≡ stolen (λ _. 1) h.others.items + 1)))
    → hands_of b ≡ 1 → MatchOption answer (length (put_of h) ≡ length (taken_of h)) (λ _. length (taken_of h) < length (put_of h))
found_alone None b h k fits same kept alone one = let a = alone (all_parts b h fits one) in let e = alone_even b h fits one in let l = ap length kept in omega arith
found_alone (Some x) b h k fits same kept alone one = let e = alone_even b h fits one in
    ⊎_elim (λ (less : length (account_of h.own).taken < length (account_of h.own).put + length (kept_of h)). let l = less in omega arith)
    (λ (more : stolen (λ _. 1) k.others.items ≡ stolen (λ _. 1) h.others.items + 1). absurd (let m = more in let o = nothing_of b h one fits.number (λ _. 1) h.others.items fits.others in
    let n = nothing_of b h one fits.number (λ _. 1) k.others.items (same.others h.number (deques_of b) fits.others) in omega arith))
    (alone (all_parts b h fits one))

module _ (h k : StealHand) (olds news : List (Option Other)) (old : olds ≡ h.others.items) (new : k.others.items ≡ news) where
  -- where a hand had nothing of its own, what the others' deques say
  pub found_there : (answer : Option NodeId) → (account_of k.own ≡ account_of h.own) × WasEmpty (account_of h.own) × (kept_of h ≡ []) × (kept_of k ≡ [])
      → MatchOption answer (WereEmpty news × ((w : NodeId → ℕ) → stolen w news ≡ stolen w olds)) (λ x. (w : NodeId → ℕ) → stolen w news ≡ stolen w olds + w x)
      → MatchOption answer (FoundNone k × (kept_of h ≡ []) × (account_of k.own ≡ account_of h.own) × ((w : NodeId → ℕ) → stolen w k.others.items ≡ stolen w h.others.items))
      (λ x. (w : NodeId → ℕ) → weight_in w h.own + weight_out w k.own + stolen w k.others.items ≡ weight_in w k.own + weight_out w h.own + stolen w h.others.items + w x)
  found_there None t s = ((subst WasEmpty (sym t.0) t.1, subst WereEmpty (sym new) s.0, t.3), t.2, t.0, λ w. ap (stolen w) new ∙ (s.1 w ∙ ap (stolen w) old))
  found_there (Some x) t s = λ w. let e = s w in let p = ap (stolen w) new in let q = ap (stolen w) old in let i = ap (λ (v : Account). weigh w v.put) t.0 in let o = ap (λ (v : Account). weigh w v.taken) t.0 in
      let a = ap (weigh w) t.2 in let b = ap (weigh w) t.3 in omega arith

  pub alone_there : (answer : Option NodeId) (put taken kept : ℕ) → taken ≡ put → MatchOption answer (WereEmpty news × ((w : NodeId → ℕ) → stolen w news ≡ stolen w olds)) (λ x. (w : NodeId → ℕ) → stolen w news ≡ stolen w olds + w x)
      → MatchOption answer (taken ≡ put) (λ _. (taken < put + kept) ⊎ (stolen (λ _. 1) k.others.items ≡ stolen (λ _. 1) h.others.items + 1))
  alone_there None put taken kept e s = e
  alone_there (Some x) put taken kept e s = inr (let t = s (λ _. 1) in let p = ap (stolen (λ _. 1)) new in let q = ap (stolen (λ _. 1)) old in omega arith)
