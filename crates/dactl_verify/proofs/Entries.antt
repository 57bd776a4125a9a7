-- Entries and their lines determine each other.
use Rattle.std.proofs.Common.{◌≡◌, ℕ, ◌^◌, ◌<◌, ◌≤◌, List, length, slice_get, Option, IsSomeAnd, inl, inr, codes, ◌++◌, ap, ap₂, refl, subst, arith}
use Rattle.std.proofs.lemmas.Option.{slice_get_cases}
use Rattle.dactl_base.specs.Readers.{BeginsWith}
use Rattle.dactl_base.proofs.NumberParts.{number_behind}
use Rattle.dactl_model.specs.declared.graph.NodeId.{NodeId}
use Rattle.dactl_model.specs.declared.graph.Graph.{Graph}
use Rattle.dactl_model.specs.declared.graph.Event.{Event}
use Rattle.dactl_model.specs.declared.graph.Event.TheVariants.{Fire, Note}
use Rattle.dactl_model.specs.declared.graph.Entry.{Entry}
use Rattle.dactl_model.specs.declared.graph.Room.{Room}
use Rattle.dactl_model.specs.declared.program.Program.{Program}
use Rattle.dactl_model.specs.Programs.{IsValid}
use Rattle.dactl_model.specs.Steps.{Step}
use Rattle.dactl_print.specs.Texts.{event_text, line_feed}
use Rattle.dactl_verify.specs.Lines.{IsLineOf, HasWords}
use Rattle.dactl_verify.specs.Rooms.{FitsRoom}
use Rattle.dactl_verify.proofs.LineParts.{fire_node, note_node, rule_text, line_number, line_worker}

there : {X : Type 0} (P : X → Type 0) (xs : List X) (i : ℕ) → IsSomeAnd (slice_get xs i) P → i < length xs
there {X} P xs i is = elim (slice_get_cases xs i).1 [
  | inl (x, below, at, has) ↦ below
  | inr (past, none) ↦ absurd (subst (λ (o : Option X). IsSomeAnd o P) none is)
]

-- the numbers of an event that happens in a graph that fits have 32 bits
pub step_words : (p : Program) (room : Room) (g after : Graph) (event : Event) → IsValid p → room.nodes ≤ 2000000 → FitsRoom room g → Step p g event after → HasWords event
step_words p room g after (Fire n r) valid small fits step =
    let node : n.number < length g.nodes = there _ g.nodes n.number step.0.active in
    let rule : r < length p.rules = there _ p.rules r step.0.matching.1 in
    let nodes = fits.nodes in
    let rules = valid.few_rules in
    (omega arith, omega arith)
step_words p room g after (Note n) valid small fits step =
    let node : n.number < length g.nodes = there _ g.nodes n.number step.0.active in
    let nodes = fits.nodes in
    omega arith

same_id : (m n : NodeId) → m.number ≡ n.number → m ≡ n
same_id m n e = let node : ℕ → NodeId = λ k. record { number = k } in ap node e

same_event : (e f : Event) → HasWords e → HasWords f → event_text e ++ line_feed ≡ event_text f ++ line_feed → e ≡ f
same_event (Fire n r) (Fire m s) small also is =
    let node = number_behind (fire_node n r small refl) (fire_node m s also is) in
    let one : BeginsWith (codes " ") (rule_text r) r line_feed = record { text = refl; word = small.1; ends = refl } in
    let other : BeginsWith (codes " ") (rule_text r) s line_feed = record { text = node.1; word = also.1; ends = refl } in
    ap₂ Fire (same_id n m node.0) (number_behind one other).0
same_event (Fire n r) (Note m) small also is = let byte : ◌≡◌ {A = ℕ} 102 110 = cc in absurd (omega arith)
same_event (Note n) (Fire m s) small also is = let byte : ◌≡◌ {A = ℕ} 110 102 = cc in absurd (omega arith)
same_event (Note n) (Note m) small also is = ap Note (same_id n m (number_behind (note_node n small refl) (note_node m also is)).0)

-- a line is that of one entry
pub same_entry : {line : List ℕ} {number : ℕ} (e f : Entry) → number < 2 ^ 32 → HasWords e.event → HasWords f.event → IsLineOf number e line → IsLineOf number f line → e ≡ f
same_entry e f small own also one other =
    let worker = number_behind (line_worker e small (line_number e small one) one) (line_worker f small (line_number e small one) other) in
    let event = same_event e.event f.event own also worker.1 in
    let entry : ℕ → Event → Entry = λ w v. record { worker = w; event = v } in
    ap₂ entry worker.0 event
