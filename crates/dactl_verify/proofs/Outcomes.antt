-- What an event comes to, and what its line does.
use Rattle.std.proofs.Common.{◌≡◌, ℕ, ◌+◌, ◌^◌, ◌<◌, ◌≤◌, List, length, slice_get, Some, refl, sym, ap, ◌∙◌, subst, arith}
use Rattle.dactl_model.specs.declared.graph.NodeId.{NodeId}
use Rattle.dactl_model.specs.declared.graph.Graph.{Graph}
use Rattle.dactl_model.specs.declared.graph.Event.{Event}
use Rattle.dactl_model.specs.declared.graph.Event.TheVariants.{Fire, Note}
use Rattle.dactl_model.specs.declared.graph.Entry.{Entry}
use Rattle.dactl_model.specs.declared.graph.Room.{Room}
use Rattle.dactl_model.specs.declared.program.Rule.{Rule}
use Rattle.dactl_model.specs.declared.program.Program.{Program}
use Rattle.dactl_model.specs.Programs.{IsValid, fresh_arcs}
use Rattle.dactl_model.specs.Matching.{IsAllowed}
use Rattle.dactl_model.specs.Firing.{start_of, fired, IsFired}
use Rattle.dactl_model.specs.Steps.{Step}
use Rattle.dactl_model.specs.Ending.{IsFull, arcs_of, needed_by, room_left}
use Rattle.dactl_model.proofs.KeptFire.{keeps_well_formed, begins_well_formed}
use Rattle.dactl_model.proofs.Sizes.{nodes-noted, arcs-noted}
use Rattle.dactl_plain.proofs.Ready.{is_fired}
use Rattle.dactl_verify.specs.Lines.{IsLineOf, HasWords}
use Rattle.dactl_verify.specs.Rooms.{FitsRoom, Exceeds, limits_of, room_of}
use Rattle.dactl_verify.specs.Verdicts.{IsWrong, IsOverfull}
use Rattle.dactl_verify.specs.Steps.{IsReached}
use Rattle.dactl_verify.proofs.Rooms.{start_arcs, start_fits, fired_fits}
use Rattle.dactl_verify.proofs.Entries.{step_words, same_entry}

-- the start
pub start_reached : (p : Program) (room : Room) (g : Graph) (arcs : ℕ) → IsValid p → g ≡ start_of p.start → arcs ≡ fresh_arcs p.start.fresh → (Exceeds (room_of p.start.fresh) room → ⊥)
    → IsReached room (record { graph = g; arcs = arcs })
start_reached p room g arcs valid is count within = record {
  formed = rw is (begins_well_formed p valid);
  fits = rw is (start_fits p room within);
  arcs = count ∙ sym (start_arcs p) ∙ ap arcs_of (sym is);
}

-- a firing
pub fire_reached : (p : Program) (room : Room) (g after : Graph) (arcs needed : ℕ) (n : NodeId) (r : ℕ) (rule : Rule) → IsValid p → slice_get p.rules r ≡ Some rule
    → IsReached room (record { graph = g; arcs = arcs }) → (Exceeds (needed_by rule.body) (room_left (limits_of room) g) → ⊥) → needed ≡ (needed_by rule.body).arcs
    → IsAllowed p g n r → IsFired p g n r after → IsReached room (record { graph = after; arcs = arcs + needed })
fire_reached p room g after arcs needed n r rule valid is reached within needs allowed step =
    let grown = fired_fits p g after n r rule room is reached.fits within step in
    let count : arcs ≡ arcs_of g = reached.arcs in
    record {
      formed = keeps_well_formed p g after (Fire n r) valid reached.formed (allowed, step);
      fits = grown.0;
      arcs = omega (arith, grown.1);
    }

-- a notification
pub note_reached : (p : Program) (room : Room) (g after : Graph) (arcs : ℕ) (n : NodeId) → IsValid p → IsReached room (record { graph = g; arcs = arcs }) → Step p g (Note n) after
    → IsReached room (record { graph = after; arcs = arcs })
note_reached p room g after arcs n valid reached step =
    let nodes : length after.nodes ≡ length g.nodes = ap (λ (x : Graph). length x.nodes) step.1 ∙ nodes-noted g n in
    let same : arcs_of after ≡ arcs_of g = ap arcs_of step.1 ∙ arcs-noted g n in
    let count : arcs ≡ arcs_of g = reached.arcs in
    let some = reached.fits.nodes in
    let more = reached.fits.arcs in
    record {
      formed = keeps_well_formed p g after (Note n) valid reached.formed step;
      fits = record { nodes = omega arith; arcs = omega arith };
      arcs = omega arith;
    }

-- a line that no entry with numbers of 32 bits has
pub no_entry : (p : Program) (room : Room) (g : Graph) (number : ℕ) (line : List ℕ) → IsValid p → room.nodes ≤ 2000000 → FitsRoom room g
    → ((entry : Entry) → HasWords entry.event → IsLineOf number entry line → ⊥) → IsWrong p g number line
no_entry p room g number line valid small fits none entry after right = none entry (step_words p room g after entry.event valid small fits right.step) right.told

-- the line of an event that may not happen
pub no_step : (p : Program) (room : Room) (g : Graph) (number : ℕ) (line : List ℕ) (entry : Entry) → IsValid p → room.nodes ≤ 2000000 → FitsRoom room g → number < 2 ^ 32
    → HasWords entry.event → IsLineOf number entry line → ((after : Graph) → Step p g entry.event after → ⊥) → IsWrong p g number line
no_step p room g number line entry valid small fits word words told none other after right =
    let same : other ≡ entry = same_entry other entry word (step_words p room g after other.event valid small fits right.step) words right.told told in
    none after (subst (λ (e : Entry). Step p g e.event after) same right.step)

-- an allowed rule can fire
can_step : (p : Program) (g : Graph) (n : NodeId) (r : ℕ) (rule : Rule) → slice_get p.rules r ≡ Some rule → IsAllowed p g n r → (after : Graph) × Step p g (Fire n r) after
can_step p g n r rule is allowed =
    let match = allowed.matching in
    (fired g n match.0 rule.body, (allowed, is_fired p g (fired g n match.0 rule.body) n r rule match.0 is match.1 refl))

-- the line of a firing for which there is no room
pub no_room : (p : Program) (room : Room) (g : Graph) (number : ℕ) (line : List ℕ) (entry : Entry) (n : NodeId) (r : ℕ) (needed left : Room) → IsLineOf number entry line
    → entry.event ≡ Fire n r → IsFull p (limits_of room) g n r needed left → IsOverfull p room g number line n r needed left
no_room p room g number line entry n r needed left told fires full =
    let next = can_step p g n r full.rule full.is_rule full.allowed in
    record {
      entry = entry;
      after = next.0;
      right = record { told = told; step = subst (λ (e : Event). Step p g e next.0) (sym fires) next.1 };
      fires = fires;
      full = full;
    }
