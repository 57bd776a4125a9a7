-- A step takes one active node and leaves as many more as it made active.
use Rattle.std.proofs.Common.{◌≡◌, ℕ, zero, suc, pred, ◌+◌, ◌<◌, ◌≤◌, Bool, true, false, not, ◌&&◌, ◌||◌, cond, List, [], ◌∷◌, ◌++◌, length, take, count_by, sum_by, get_or, slice_get, add-one, Option, Some, None, IsSomeAnd, ◌==◌, if◌then◌else◌, refl, sym, ◌∙◌, ap, subst, arith}
use Rattle.std.proofs.lemmas.Bool.{eq-eqb}
use Rattle.std.proofs.lemmas.List.{take_more, take_all, get_or-take}
use Rattle.std.proofs.lemmas.List.Sums.{sum_by_more}
use Rattle.std.proofs.lemmas.Option.{get_or_from_slice_get, slice_get-get_or}
use Rattle.dactl_model.specs.declared.graph.NodeId.{NodeId}
use Rattle.dactl_model.specs.declared.graph.Mark.{Mark}
use Rattle.dactl_model.specs.declared.graph.Mark.TheVariants.{Idle, Active, Waiting}
use Rattle.dactl_model.specs.declared.graph.Node.{Node}
use Rattle.dactl_model.specs.declared.graph.Graph.{Graph}
use Rattle.dactl_model.specs.declared.graph.Event.{Event}
use Rattle.dactl_model.specs.declared.graph.Event.TheVariants.{Fire, Note}
use Rattle.dactl_model.specs.declared.graph.Entry.{Entry}
use Rattle.dactl_model.specs.declared.program.Program.{Program}
use Rattle.dactl_model.specs.Graphs.{node_at, flags}
use Rattle.dactl_model.specs.Programs.{IsValid}
use Rattle.dactl_model.specs.Matching.{IsActive}
use Rattle.dactl_model.specs.Firing.{is_woken, mark_after, woken_mark, old_nodes, start_of}
use Rattle.dactl_model.specs.Noting.{noted_mark, noted_nodes, waits_for}
use Rattle.dactl_model.specs.Steps.{Step, Reduction}
use Rattle.dactl_model.specs.Acts.{marks_active, count_active, active_in, node_of_event, acts_from, acts_of_step, HasActs}
use Rattle.dactl_model.specs.Laws.{CountsActive}
use Rattle.dactl_model.proofs.Counting.{count_by-cons}
use Rattle.dactl_model.proofs.KeptFire.{begins_well_formed}
use Rattle.dactl_model.proofs.Reductions.{Reduction-last, same_reduction}

abbrev one : Bool → ℕ
one b = cond b 1 0

-- how many of the nodes are active
abbrev actives : List Node → ℕ
actives [] = 0
actives (node ∷ nodes) = one (marks_active node.mark) + actives nodes

actives_are : (nodes : List Node) → count_by (λ node. marks_active node.mark) nodes ≡ actives nodes
actives_are [] = refl
actives_are (node ∷ nodes) = count_by-cons (λ x. marks_active x.mark) node nodes ∙ ap (λ m. one (marks_active node.mark) + m) (actives_are nodes)

-- 1 where the node of number n is among those from k on and is active
abbrev here : List Node → ℕ → ℕ → ℕ
here [] n k = 0
here (node ∷ nodes) n k = one ((k == n) && marks_active node.mark) + here nodes n (k + 1)

-- how many nodes from number k on became active, or are n and active, where those before it were the nodes from k on
abbrev made : List Node → ℕ → ℕ → List Node → ℕ
made before n k [] = 0
made [] n k (node ∷ nodes) = one (marks_active node.mark) + made [] n (k + 1) nodes
made (was ∷ before) n k (node ∷ nodes) = one (marks_active node.mark && (not (marks_active was.mark) || (k == n))) + made before n (k + 1) nodes

-- the nodes after are those before, one by one, of which all but n stay active, and then others
abbrev KeepsActive : List Node → ℕ → ℕ → List Node → Type 0
KeepsActive [] n k nodes = Unit {0}
KeepsActive (was ∷ before) n k [] = ⊥
KeepsActive (was ∷ before) n k (node ∷ nodes) = (marks_active was.mark ≡ true → (k == n) ≡ false → marks_active node.mark ≡ true) × KeepsActive before n (k + 1) nodes

at_one : (at was now : Bool) → (was ≡ true → at ≡ false → now ≡ true) → one now + one (at && was) ≡ one was + one (now && (not was || at))
at_one true true true keeps = refl
at_one true true false keeps = refl
at_one true false true keeps = refl
at_one true false false keeps = refl
at_one false true true keeps = refl
at_one false true false keeps = let e : false ≡ true = keeps refl refl in cc
at_one false false true keeps = refl
at_one false false false keeps = refl

counted_new : (n k : ℕ) (nodes : List Node) → actives nodes ≡ made [] n k nodes
counted_new n k [] = refl
counted_new n k (node ∷ nodes) = ap (λ m. one (marks_active node.mark) + m) (counted_new n (k + 1) nodes)

counted : (before : List Node) (n k : ℕ) (nodes : List Node) → KeepsActive before n k nodes → actives nodes + here before n k ≡ actives before + made before n k nodes
counted [] n k nodes keeps = let e = counted_new n k nodes in omega (arith, e)
counted (was ∷ before) n k [] keeps = absurd keeps
counted (was ∷ before) n k (node ∷ nodes) keeps =
    let first = at_one (k == n) (marks_active was.mark) (marks_active node.mark) keeps.0 in
    let rest = counted before n (k + 1) nodes keeps.1 in
    omega (arith, first, rest)

-- the list is the graph's nodes from number k on
abbrev IsFrom : Graph → ℕ → List Node → Type 0
IsFrom g k nodes = (j : ℕ) → slice_get nodes j ≡ slice_get g.nodes (k + j)

from_next : (g : Graph) (k : ℕ) (node : Node) (nodes : List Node) → IsFrom g k (node ∷ nodes) → IsFrom g (k + 1) nodes
from_next g k node nodes is j = let at : k + suc j ≡ (k + 1) + j = omega arith in is (suc j) ∙ ap (slice_get g.nodes) at

from_end : (g : Graph) (k : ℕ) → IsFrom g k [] → IsFrom g (k + 1) []
from_end g k is j = let at : k + suc j ≡ (k + 1) + j = omega arith in is (suc j) ∙ ap (slice_get g.nodes) at

first_from : (g : Graph) (k : ℕ) (nodes : List Node) → IsFrom g k nodes → slice_get g.nodes k ≡ slice_get nodes 0
first_from g k nodes is = let at : k + 0 ≡ k = omega arith in sym (is 0 ∙ ap (slice_get g.nodes) at)

length-choice : {X : Type 0} (b : Bool) (x : X) (xs : List X) → length (if b then x ∷ xs else xs) ≡ one b + length xs
length-choice true x xs = omega arith
length-choice false x xs = omega arith

and_true : (b : Bool) → (b && true) ≡ b
and_true true = refl
and_true false = refl

acts_made : (g : Graph) (n : NodeId) (k : ℕ) (before nodes : List Node) → IsFrom g k before → length (acts_from g n k nodes) ≡ made before n.number k nodes
acts_made g n k before [] is = refl
acts_made g n k [] (node ∷ nodes) is =
    length-choice _ _ _
    ∙ ap (λ o. one (marks_active node.mark && (not (active_in o) || (k == n.number))) + length (acts_from g n (k + 1) nodes)) (first_from g k [] is)
    ∙ ap (λ b. one b + length (acts_from g n (k + 1) nodes)) (and_true (marks_active node.mark))
    ∙ ap (λ m. one (marks_active node.mark) + m) (acts_made g n (k + 1) [] nodes (from_end g k is))
acts_made g n k (was ∷ before) (node ∷ nodes) is =
    length-choice _ _ _
    ∙ ap (λ o. one (marks_active node.mark && (not (active_in o) || (k == n.number))) + length (acts_from g n (k + 1) nodes)) (first_from g k (was ∷ before) is)
    ∙ ap (λ m. one (marks_active node.mark && (not (marks_active was.mark) || (k == n.number))) + m) (acts_made g n (k + 1) before nodes (from_next g k was before is))

differ : (k n : ℕ) → n < k → (k == n) ≡ false
differ k n below = grind arith

here_past : (nodes : List Node) (n k : ℕ) → n < k → here nodes n k ≡ 0
here_past [] n k below = refl
here_past (node ∷ nodes) n k below = rw (differ k n below, here_past nodes n (k + 1) (omega arith)) refl

here_is : (nodes : List Node) (n k j : ℕ) → n ≡ k + j → here nodes n k ≡ one (active_in (slice_get nodes j))
here_is [] n k j at = refl
here_is (node ∷ nodes) n k zero at =
    let same : (k == n) ≡ true = eq-eqb k n (omega arith) in
    rw (same, here_past nodes n (k + 1) (omega arith)) (omega arith)
here_is (node ∷ nodes) n k (suc j) at =
    let other : (k == n) ≡ false = grind arith in
    rw (other, here_is nodes n (k + 1) j (omega arith)) (omega arith)

marked_active : (mark : Mark) → mark ≡ Active → marks_active mark ≡ true
marked_active mark is = rw is refl

active_here : (o : Option Node) → IsSomeAnd o (λ node. node.mark ≡ Active) → active_in o ≡ true
active_here None is = absurd is
active_here (Some node) is = marked_active node.mark is

here_one : (g : Graph) (n : NodeId) → IsActive g n → here g.nodes n.number 0 ≡ 1
here_one g n active = here_is g.nodes n.number 0 n.number (omega arith) ∙ ap one (active_here (node_at g n) active)

woken_stays : (woken : Bool) (mark : Mark) → marks_active mark ≡ true → marks_active (woken_mark woken mark) ≡ true
woken_stays true Idle is = refl
woken_stays true Active is = refl
woken_stays true (Waiting k) is = is
woken_stays false mark is = is

after_stays : (at : Bool) (suspend waits : ℕ) (woken : Bool) (mark : Mark) → marks_active mark ≡ true → at ≡ false → marks_active (mark_after at suspend waits woken mark) ≡ true
after_stays true suspend waits woken mark is other = cc
after_stays false suspend waits woken mark is other = woken_stays woken mark is

fired_keeps : (f : NodeId → NodeId) (n : NodeId) (h : List NodeId) (wakes : List ℕ) (suspend k : ℕ) (nodes more : List Node) → KeepsActive nodes n.number k (old_nodes f n h wakes suspend k nodes ++ more)
fired_keeps f n h wakes suspend k [] more = tt
fired_keeps f n h wakes suspend k (node ∷ nodes) more =
    (after_stays (k == n.number) suspend (flags node.arcs) (is_woken h wakes k) node.mark, fired_keeps f n h wakes suspend (k + 1) nodes more)

noted_stays : (at : Bool) (j : ℕ) (mark : Mark) → marks_active mark ≡ true → at ≡ false → marks_active (if at then Idle else noted_mark j mark) ≡ true
noted_stays true j mark is other = cc
noted_stays false j Idle is other = cc
noted_stays false j Active is other = refl
noted_stays false j (Waiting k) is other = cc

noted_keeps : (n : NodeId) (k : ℕ) (nodes : List Node) → KeepsActive nodes n.number k (noted_nodes n k nodes)
noted_keeps n k [] = tt
noted_keeps n k (node ∷ nodes) = (noted_stays (k == n.number) (count_by (waits_for n) node.arcs) node.mark, noted_keeps n (k + 1) nodes)

step_active : (p : Program) (g after : Graph) (e : Event) → Step p g e after → IsActive g (node_of_event e)
step_active p g after (Fire n r) step = step.0.active
step_active p g after (Note n) step = step.0.active

step_keeps : (p : Program) (g after : Graph) (e : Event) → Step p g e after → KeepsActive g.nodes (node_of_event e).number 0 after.nodes
step_keeps p g after (Fire n r) step = subst (λ x. KeepsActive g.nodes n.number 0 x.nodes) (sym step.1.after) (fired_keeps _ n _ _ _ 0 g.nodes _)
step_keeps p g after (Note n) step = subst (λ x. KeepsActive g.nodes n.number 0 x.nodes) (sym step.1) (noted_keeps n 0 g.nodes)

-- one step
step_counts : (p : Program) (g after : Graph) (e : Event) → Step p g e after → count_active after + 1 ≡ count_active g + length (acts_of_step g e after)
step_counts p g after e step =
    let n = node_of_event e in
    let all = counted g.nodes n.number 0 after.nodes (step_keeps p g after e step) in
    let own = here_one g n (step_active p g after e step) in
    let acts = acts_made g n 0 g.nodes after.nodes (λ j. let at : j ≡ 0 + j = omega arith in ap (slice_get g.nodes) at) in
    let was = actives_are g.nodes in
    let now = actives_are after.nodes in
    omega (arith, all, own, acts, was, now)

-- the last of so many entries
take_last : (journal : List Entry) (i : ℕ) (entry : Entry) → i < length journal → slice_get (take (i + 1) journal) i ≡ Some entry → take (i + 1) journal ≡ take i journal ++ entry ∷ []
take_last journal i entry below is =
    let at = get_or_from_slice_get (take (i + 1) journal) i entry entry is in
    let same : get_or journal i entry ≡ entry = sym (get_or-take (i + 1) journal i entry (omega arith)) ∙ at in
    take_more journal i entry below ∙ ap (λ e. take i journal ++ e ∷ []) same

module _ (p : Program) (journal : List Entry) (acts : List (List NodeId)) (valid : IsValid p) (long : length acts ≡ length journal)
    (each : (i : ℕ) (nodes : List NodeId) → slice_get acts i ≡ Some nodes → HasActs p journal (i + 1) nodes) where
  abbrev first : Graph
  first = start_of p.start

  abbrev Counts : ℕ → Graph → Type 0
  Counts i g = count_active g + i ≡ count_active first + sum_by length (take i acts)

  one_graph : (g other : Graph) (entries : List Entry) → Reduction p first entries g → Reduction p first entries other → g ≡ other
  one_graph g other entries run also = same_reduction p first g other entries valid (begins_well_formed p valid) run also

  more : (i : ℕ) (g : Graph) → i < length journal → ((before : Graph) → Reduction p first (take i journal) before → Counts i before) → Reduction p first (take (i + 1) journal) g → Counts (i + 1) g
  more i g below earlier run =
      let has = each i (get_or acts i []) (slice_get-get_or acts i [] (omega arith)) in
      let at : pred (i + 1) ≡ i = ap pred (add-one i) in
      let reduced : Reduction p first (take i journal) has.before = subst (λ k. Reduction p first (take k journal) has.before) at has.reduced in
      let entries = take_last journal i has.entry below (subst (λ k. slice_get (take (i + 1) journal) k ≡ Some has.entry) {x = pred (i + 1)} {y = i} at has.is_entry) in
      let last = Reduction-last p first has.after (take i journal) has.entry (subst (λ es. Reduction p first es has.after) entries has.reduced_on) in
      let same : last.0 ≡ has.before = one_graph last.0 has.before (take i journal) last.1 reduced in
      let step : Step p has.before has.entry.event has.after = subst (λ x. Step p x has.entry.event has.after) same last.2 in
      let grown = step_counts p has.before has.after has.entry.event step in
      let ends : has.after ≡ g = one_graph has.after g (take (i + 1) journal) has.reduced_on run in
      let count : count_active has.after ≡ count_active g = ap count_active ends in
      let so_far = earlier has.before reduced in
      let sum = sum_by_more length acts i [] (omega arith) in
      let own : length (get_or acts i []) ≡ length (acts_of_step has.before has.entry.event has.after) = ap length has.acts in
      omega (arith, grown, count, so_far, sum, own)

  pub counts : (i : ℕ) (g : Graph) → i ≤ length journal → Reduction p first (take i journal) g → Counts i g
  counts zero g within run = let same : count_active g ≡ count_active first = ap count_active run in omega (arith, same)
  counts (suc i) g within run =
      let next : suc i ≡ i + 1 = omega arith in
      subst (λ k. Counts k g) (sym next) (more i g (omega arith) (λ before earlier. counts i before (omega arith) earlier) (subst (λ k. Reduction p first (take k journal) g) next run))

pub counts_active : CountsActive
counts_active p journal g acts valid run long each =
    let whole : take (length journal) journal ≡ journal = take_all (length journal) journal (omega arith) in
    let all : take (length journal) acts ≡ acts = take_all (length journal) acts (omega arith) in
    counts p journal acts valid long each (length journal) g (omega arith) (subst (λ es. Reduction p (start_of p.start) es g) (sym whole) run)
    ∙ ap (λ xs. count_active (start_of p.start) + sum_by length xs) all
