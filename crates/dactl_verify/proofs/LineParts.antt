-- The parts of a line, one after another.
use Rattle.std.proofs.Common.{◌≡◌, ℕ, ◌^◌, ◌<◌, List, [], ◌++◌, codes, refl, ap, sym, ◌∙◌, arith, append_assoc}
use Rattle.std.specs.Char.{is_ascii_digit}
use Rattle.std.specs.Fmt.{decimal}
use Rattle.dactl_base.specs.Readers.{Stops, BeginsWith}
use Rattle.dactl_base.proofs.NumberParts.{number_behind}
use Rattle.dactl_model.specs.declared.graph.NodeId.{NodeId}
use Rattle.dactl_model.specs.declared.graph.Event.{Event}
use Rattle.dactl_model.specs.declared.graph.Event.TheVariants.{Fire, Note}
use Rattle.dactl_model.specs.declared.graph.Entry.{Entry}
use Rattle.dactl_print.specs.Texts.{event_text, line_feed}
use Rattle.dactl_verify.specs.Lines.{IsWorker, IsLineOf, HasWords}

-- ---- a firing

-- what follows the node
abbrev pub rule_text : ℕ → List ℕ
rule_text rule = codes " " ++ (decimal rule ++ line_feed)

fire_text : (n : NodeId) (r : ℕ) → event_text (Fire n r) ++ line_feed ≡ codes " fire " ++ (decimal n.number ++ rule_text r)
fire_text n r = ap (λ (t : List ℕ). codes " fire " ++ t) (append_assoc (decimal n.number) (codes " " ++ decimal r) line_feed)

pub fire_node : {text : List ℕ} (n : NodeId) (r : ℕ) → HasWords (Fire n r) → text ≡ event_text (Fire n r) ++ line_feed → BeginsWith (codes " fire ") text n.number (rule_text r)
fire_node n r small is = record { text = is ∙ fire_text n r; word = small.0; ends = refl }

pub fire_rule : {text rest : List ℕ} {node : ℕ} (n : NodeId) (r : ℕ) → BeginsWith (codes " fire ") text node rest → HasWords (Fire n r) → text ≡ event_text (Fire n r) ++ line_feed
    → BeginsWith (codes " ") rest r line_feed
fire_rule n r found small is = record { text = (number_behind found (fire_node n r small is)).1; word = small.1; ends = refl }

pub fire_end : {text rest end : List ℕ} {node rule : ℕ} (n : NodeId) (r : ℕ) → BeginsWith (codes " fire ") text node rest → BeginsWith (codes " ") rest rule end → HasWords (Fire n r)
    → text ≡ event_text (Fire n r) ++ line_feed → end ≡ line_feed
fire_end n r found then small is = (number_behind then (fire_rule n r found small is)).1

pub fire_read : {text rest end : List ℕ} {node rule : ℕ} → BeginsWith (codes " fire ") text node rest → BeginsWith (codes " ") rest rule end → end ≡ line_feed
    → text ≡ event_text (Fire (record { number = node }) rule) ++ line_feed
fire_read {node = node} {rule} found then end =
    found.text ∙ ap (λ (t : List ℕ). codes " fire " ++ (decimal node ++ t)) (then.text ∙ ap (λ (t : List ℕ). codes " " ++ (decimal rule ++ t)) end) ∙ sym (fire_text (record { number = node }) rule)

-- ---- a notification

pub note_node : {text : List ℕ} (n : NodeId) → HasWords (Note n) → text ≡ event_text (Note n) ++ line_feed → BeginsWith (codes " note ") text n.number line_feed
note_node n small is = record { text = is; word = small; ends = refl }

pub note_end : {text end : List ℕ} {node : ℕ} (n : NodeId) → BeginsWith (codes " note ") text node end → HasWords (Note n) → text ≡ event_text (Note n) ++ line_feed → end ≡ line_feed
note_end n found small is = (number_behind found (note_node n small is)).1

pub note_read : {text end : List ℕ} {node : ℕ} → BeginsWith (codes " note ") text node end → end ≡ line_feed → text ≡ event_text (Note (record { number = node })) ++ line_feed
note_read {node = node} found end = found.text ∙ ap (λ (t : List ℕ). codes " note " ++ (decimal node ++ t)) end

-- ---- an event

pub no_event : {text : List ℕ} → ((n : NodeId) (r : ℕ) → HasWords (Fire n r) → text ≡ event_text (Fire n r) ++ line_feed → ⊥)
    → ((n : NodeId) → HasWords (Note n) → text ≡ event_text (Note n) ++ line_feed → ⊥) → (e : Event) → HasWords e → text ≡ event_text e ++ line_feed → ⊥
no_event fires notes (Fire n r) small is = fires n r small is
no_event fires notes (Note n) small is = notes n small is

-- ---- a line

-- what follows the worker
abbrev pub event_part : Entry → List ℕ
event_part entry = event_text entry.event ++ line_feed

-- what follows the number
abbrev pub worker_part : Entry → List ℕ
worker_part entry = codes " w" ++ (decimal entry.worker ++ event_part entry)

event_begins : (e : Event) → Stops is_ascii_digit (event_text e ++ line_feed)
event_begins (Fire n r) = refl
event_begins (Note n) = refl

pub line_number : {line : List ℕ} {number : ℕ} (entry : Entry) → number < 2 ^ 32 → IsLineOf number entry line → BeginsWith [] line number (worker_part entry)
line_number entry small is = record { text = is.text; word = small; ends = refl }

pub line_worker : {line behind : List ℕ} {number own : ℕ} (entry : Entry) → number < 2 ^ 32 → BeginsWith [] line own behind → IsLineOf number entry line
    → BeginsWith (codes " w") behind entry.worker (event_part entry)
line_worker entry small found is =
    let few = is.worker in
    record {
      text = (number_behind found (line_number entry small is)).1;
      word = omega arith;
      ends = event_begins entry.event;
    }

pub line_event : {line behind rest : List ℕ} {number own worker : ℕ} (entry : Entry) → number < 2 ^ 32 → BeginsWith [] line own behind → BeginsWith (codes " w") behind worker rest
    → IsLineOf number entry line → rest ≡ event_part entry
line_event entry small found then is = (number_behind then (line_worker entry small found is)).1

pub line_read : {line behind rest : List ℕ} {number worker : ℕ} (event : Event) → BeginsWith [] line number behind → IsWorker worker → BeginsWith (codes " w") behind worker rest
    → rest ≡ event_text event ++ line_feed → IsLineOf number (record { worker = worker; event = event }) line
line_read {number = number} {worker} event found few then is =
    record {
      text = found.text ∙ ap (λ (t : List ℕ). decimal number ++ t) (then.text ∙ ap (λ (t : List ℕ). codes " w" ++ (decimal worker ++ t)) is);
      worker = few;
    }
