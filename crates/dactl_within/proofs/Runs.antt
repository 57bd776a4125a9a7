-- Runs of a part and runs of the whole.
use Rattle.std.proofs.Common.{◌≡◌, ℕ, zero, suc, ◌+◌, ◌-◌, ◌≤◌, List, [], ◌∷◌, ◌++◌, map, length, IsSomeAnd, refl, sym, ◌∙◌, ap, subst, arith}
use Rattle.dactl_model.specs.declared.graph.NodeId.{NodeId}
use Rattle.dactl_model.specs.declared.graph.Mark.TheVariants.{Idle, Active}
use Rattle.dactl_model.specs.declared.graph.Graph.{Graph}
use Rattle.dactl_model.specs.declared.graph.Event.{Event}
use Rattle.dactl_model.specs.declared.graph.Event.TheVariants.{Fire, Note}
use Rattle.dactl_model.specs.declared.graph.Entry.{Entry}
use Rattle.dactl_model.specs.declared.program.Program.{Program}
use Rattle.dactl_model.specs.Acts.{node_of_event}
use Rattle.dactl_model.specs.Graphs.{node_at, HasNode, IsWellFormed}
use Rattle.dactl_model.specs.Matching.{IsActive}
use Rattle.dactl_model.specs.Programs.{IsValid}
use Rattle.dactl_model.specs.Steps.{Step, Reduction}
use Rattle.dactl_model.proofs.KeptFire.{keeps_well_formed}
use Rattle.dactl_model.proofs.OneMatch.{has_one_step}
use Rattle.dactl_model.proofs.Pairs.{has_node}
use Rattle.dactl_within.specs.Renumbering.{renumbered, Renumbers, image, IsImage, IsWithin, IsIdleBeside, AreAllImages, renumbered_event, renumbered_entry, nodes_from, grown, IsGrown}
use Rattle.dactl_within.specs.Statements.{StepIsRenumbered, StepComesBack, EventIsInside, StaysIdleBeside, SameStays, SameComesBack, RunIsRenumbered, RunComesBack, EndsAlike, SameRuns, SameRunsBack}
use Rattle.dactl_within.proofs.Places.{agrees, NodeThere, node_there}
use Rattle.dactl_within.proofs.Allowing.{some_and, is_some_and}
use Rattle.dactl_within.proofs.FireKept.{numbered}
use Rattle.dactl_within.proofs.StepKept.{node_of_active, stays, grown_by}
use Rattle.dactl_within.proofs.Beside.{image_wider, all_images}
use Rattle.dactl_within.proofs.StepBoth.{Follows, step_there, fire_back, note_back}

event_has : (p : Program) (g g' : Graph) (e : Event) → Step p g e g' → HasNode g (node_of_event e)
event_has p g g' (Fire n r) step = node_of_active g n step.0.active
event_has p g g' (Note n) step = node_of_active g n step.0.active

both_back : (f : List NodeId) (h g : Graph) → IsWellFormed h → IsWithin f h g → (p : Program) → IsValid p → (e : Event) (g' : Graph) → HasNode h (node_of_event e) → Step p g (renumbered_event f e) g' → (h' : Graph) × Step p h e h' × Follows f h g h' g'
both_back f h g fine is p valid (Fire n r) g' has step = fire_back f h g fine is p valid n r g' has step
both_back f h g fine is p valid (Note n) g' has step = note_back f h g fine is p valid n g' has step

pub step_is_renumbered : StepIsRenumbered
step_is_renumbered p f h g h' e valid fine is step = let there = step_there f h g fine is p valid e h' step in (there.0, there.1, there.2.0)

pub step_comes_back : StepComesBack
step_comes_back p f h g g' e valid fine is has step = let back = both_back f h g fine is p valid e g' has step in (back.0, back.1, back.2.0)

active_inside : (f : List NodeId) (h g : Graph) (n : NodeId) → IsIdleBeside f h g → IsActive g n → IsImage f h n
active_inside f h g n beside active =
    let there = some_and (λ node. node.mark ≡ Active) (node_at g n) active in
    beside n there.0 there.1 (λ idle. let e : Active ≡ Idle = sym there.2 ∙ idle in cc)

pub event_is_inside : EventIsInside
event_is_inside p f h g g' (Fire n r) beside step = let from = active_inside f h g n beside step.0.active in (Fire from.origin r, ap (λ y. Fire y r) from.is, from.has)
event_is_inside p f h g g' (Note n) beside step = let from = active_inside f h g n beside step.0.active in (Note from.origin, ap Note from.is, from.has)

pub stays_idle_beside : StaysIdleBeside
stays_idle_beside p f h g h' g' e valid fine fine_g is beside step other =
    let there = step_there f h g fine is p valid e h' step in
    let same : there.0 ≡ g' = has_one_step p g there.0 g' (renumbered_event f e) valid fine_g there.1 other in
    subst (λ x. IsIdleBeside (grown f h h' g) h' x) same (there.2.1 beside)

-- a graph that is the same has nothing beside
pub same_beside : (f : List NodeId) (h g : Graph) → AreAllImages f h g → IsIdleBeside f h g
same_beside f h g all y node at busy = all y (has_node g y node at)

pub same_stays : SameStays
same_stays p f h g h' e valid fine is step =
    let there = step_there f h g fine is.within p valid e h' step in
    (there.0, there.1, record { within = there.2.0.within; all = all_images f h g is.within h' there.0 there.2.0 is.all })

pub same_comes_back : SameComesBack
same_comes_back p f h g g' e valid fine is step =
    let inside = event_is_inside p f h g g' e (same_beside f h g is.all) step in
    let back = both_back f h g fine is.within p valid inside.0 g' inside.2 (subst (λ x. Step p g x g') inside.1 step) in
    (back.0, inside.0, inside.1, back.1, record { within = back.2.0.within; all = all_images f h g is.within back.0 g' back.2.0 is.all })

-- nothing new after no step
grown_none : (f : List NodeId) (h g : Graph) → IsWellFormed h → IsWithin f h g → IsGrown f h g h g
grown_none f h g fine is =
    let wider : Renumbers (image (f ++ nodes_from (length g.nodes) 0)) h g = agrees (image f) (image (f ++ [])) h g fine (stays f h g fine is []) is.renumbers in
    grown_by f h g fine is 0 h g (omega arith) (omega arith) wider

pub append-assoc : {A : Type 0} (xs ys zs : List A) → (xs ++ ys) ++ zs ≡ xs ++ (ys ++ zs)
append-assoc [] ys zs = refl
append-assoc (x ∷ xs) ys zs = ap (λ s. x ∷ s) (append-assoc xs ys zs)

nodes_from-append : (m a b : ℕ) → nodes_from m a ++ nodes_from (m + a) b ≡ nodes_from m (a + b)
nodes_from-append m zero b =
    let number : m + 0 ≡ m = omega arith in
    let count : b ≡ 0 + b = omega arith in
    ap (λ k. nodes_from k b) number ∙ ap (nodes_from m) count
nodes_from-append m (suc a) b =
    let number : m + suc a ≡ (m + 1) + a = omega arith in
    let count : suc (a + b) ≡ suc a + b = omega arith in
    ap (λ k. numbered m ∷ (nodes_from (m + 1) a ++ nodes_from k b)) number ∙ ap (λ s. numbered m ∷ s) (nodes_from-append (m + 1) a b) ∙ ap (nodes_from m) count

-- the list grown twice
grown_twice : (f : List NodeId) (h g mid gm h' : Graph) → IsGrown f h g mid gm → length mid.nodes ≤ length h'.nodes → grown (grown f h mid g) mid h' gm ≡ grown f h h' g
grown_twice f h g mid gm h' first more =
    let a = length mid.nodes - length h.nodes in
    let b = length h'.nodes - length mid.nodes in
    let sum : (length mid.nodes - length h.nodes) + (length h'.nodes - length mid.nodes) ≡ length h'.nodes - length h.nodes = omega (arith, more, first.more) in
    append-assoc f (nodes_from (length g.nodes) a) (nodes_from (length gm.nodes) b)
    ∙ ap (λ k. f ++ (nodes_from (length g.nodes) a ++ nodes_from k b)) first.alike
    ∙ ap (λ s. f ++ s) (nodes_from-append (length g.nodes) a b)
    ∙ ap (λ c. f ++ nodes_from (length g.nodes) c) sum

joined : (f : List NodeId) (h g mid gm h' g' : Graph) → IsGrown f h g mid gm → IsGrown (grown f h mid g) mid gm h' g' → IsGrown f h g h' g'
joined f h g mid gm h' g' first second = record {
  more = omega (arith, first.more, second.more);
  alike = omega (arith, first.more, second.more, first.alike, second.alike);
  within = subst (λ s. IsWithin s h' g') (grown_twice f h g mid gm h' first second.more) second.within;
}

event_stays : (f more : List NodeId) (h g : Graph) → IsWellFormed h → IsWithin f h g → (e : Event) → HasNode h (node_of_event e) → renumbered_event (f ++ more) e ≡ renumbered_event f e
event_stays f more h g fine is (Fire n r) has = ap (λ y. Fire y r) (stays f h g fine is more n has)
event_stays f more h g fine is (Note n) has = ap Note (stays f h g fine is more n has)

-- a run of the part is one of the whole, and what is beside stays idle
pub run_both : (p : Program) (f : List NodeId) (h g h' : Graph) (journal : List Entry) → IsValid p → IsWellFormed h → IsWithin f h g → Reduction p h journal h'
    → (g' : Graph) × Reduction p g (map (renumbered_entry (grown f h h' g)) journal) g' × Follows f h g h' g'
run_both p f h g h' [] valid fine is run =
    let none = grown_none f h g fine is in
    (g, refl, subst (λ x. Follows f h g x g) (sym run) (none, λ beside y node at busy. image_wider f h g is h g none y (beside y node at busy)))
run_both p f h g h' (entry ∷ journal) valid fine is run =
    let mid = run.0 in
    let there = step_there f h g fine is p valid entry.event run.0 run.1 in
    let rest = run_both p (grown f h run.0 g) run.0 there.0 h' journal valid (keeps_well_formed p h run.0 entry.event valid fine run.1) there.2.0.within run.2 in
    let list : grown (grown f h run.0 g) run.0 h' there.0 ≡ grown f h h' g = grown_twice f h g run.0 there.0 h' there.2.0 rest.2.0.more in
    let event : renumbered_event (grown f h h' g) entry.event ≡ renumbered_event f entry.event =
    event_stays f (nodes_from (length g.nodes) (length h'.nodes - length h.nodes)) h g fine is entry.event (event_has p h run.0 entry.event run.1) in (
      rest.0,
      (there.0, subst (λ x. Step p g x there.0) (sym event) there.1, subst (λ s. Reduction p there.0 (map (renumbered_entry s) journal) rest.0) list rest.1),
      (joined f h g run.0 there.0 h' rest.0 there.2.0 rest.2.0, λ beside. subst (λ s. IsIdleBeside s h' rest.0) list (rest.2.1 (there.2.1 beside))),
    )

pub run_is_renumbered : RunIsRenumbered
run_is_renumbered p f h g h' journal valid fine is run = let both = run_both p f h g h' journal valid fine is run in (both.0, both.1, both.2.0)

abbrev entry_with : Entry → Event → Entry
entry_with entry event = record { worker = entry.worker; event = event }

pub run_comes_back : RunComesBack
run_comes_back p f h g g' [] valid fine is beside run =
    let none = grown_none f h g fine is in
    (h, [], refl, refl, subst (λ x. IsGrown f h g h x) (sym run) none, subst (λ x. IsIdleBeside (grown f h h g) h x) (sym run) (λ y node at busy. image_wider f h g is h g none y (beside y node at busy)))
run_comes_back p f h g g' (entry ∷ journal) valid fine is beside run =
    let inside = event_is_inside p f h g run.0 entry.event beside run.1 in
    let back = both_back f h g fine is p valid inside.0 run.0 inside.2 (subst (λ x. Step p g x run.0) inside.1 run.1) in
    let rest = run_comes_back p (grown f h back.0 g) back.0 run.0 g' journal valid (keeps_well_formed p h back.0 inside.0 valid fine back.1) back.2.0.within (back.2.1 beside) run.2 in
    let list : grown (grown f h back.0 g) back.0 rest.0 run.0 ≡ grown f h rest.0 g = grown_twice f h g back.0 run.0 rest.0 back.2.0 rest.4.more in
    let event : renumbered_event (grown f h rest.0 g) inside.0 ≡ entry.event =
    event_stays f (nodes_from (length g.nodes) (length rest.0.nodes - length h.nodes)) h g fine is inside.0 inside.2 ∙ sym inside.1 in (
      rest.0,
      entry_with entry inside.0 ∷ rest.1,
      ap (λ v. entry_with entry v ∷ journal) (sym event) ∙ ap (λ js. renumbered_entry (grown f h rest.0 g) (entry_with entry inside.0) ∷ js) (rest.2 ∙ ap (λ s. map (renumbered_entry s) rest.1) list),
      (back.0, back.1, rest.3),
      joined f h g back.0 run.0 rest.0 g' back.2.0 rest.4,
      subst (λ s. IsIdleBeside s rest.0 g') list rest.5,
    )

active_to : (f : List NodeId) (h g : Graph) → IsWithin f h g → (n : NodeId) → IsActive h n → IsActive g (image f n)
active_to f h g is n active =
    let there = some_and (λ node. node.mark ≡ Active) (node_at h n) active in
    is_some_and (λ node. node.mark ≡ Active) (node_at g (image f n)) (renumbered (image f) there.0) (is.renumbers.nodes n there.0 there.1) there.2

active_from : (f : List NodeId) (h g : Graph) → IsWithin f h g → (n : NodeId) → HasNode h n → IsActive g (image f n) → IsActive h n
active_from f h g is n has active =
    let there : NodeThere h n = node_there h n has in
    let mark : there.0.mark ≡ Active = subst (λ o. IsSomeAnd o (λ node. node.mark ≡ Active)) (is.renumbers.nodes n there.0 there.1) active in
    is_some_and (λ node. node.mark ≡ Active) (node_at h n) there.0 there.1 mark

pub ends_alike : EndsAlike
ends_alike f h g is beside = (
  λ passive n active.
      let from = active_inside f h g n beside active in
      passive from.origin (active_from f h g is from.origin from.has (subst (IsActive g) from.is active)),
  λ passive n active. passive (image f n) (active_to f h g is n active),
)

pub same_runs : SameRuns
same_runs p f h g h' journal valid fine is run =
    let there = run_is_renumbered p f h g h' journal valid fine is.within run in
    (there.0, there.1, record { within = there.2.within; all = all_images f h g is.within h' there.0 there.2 is.all })

pub same_runs_back : SameRunsBack
same_runs_back p f h g g' journal valid fine is run =
    let back = run_comes_back p f h g g' journal valid fine is.within (same_beside f h g is.all) run in
    (back.0, back.1, back.2, back.3, record { within = back.4.within; all = all_images f h g is.within back.0 g' back.4 is.all })
