-- Versions, entry by entry, and what an unchanged version says of a reading.
use Rattle.std.proofs.Common.{◌≡◌, ◌≢◌, ℕ, ◌+◌, ◌≤◌, List, [], ◌∷◌, ◌++◌, length, map, take, Option, Some, None, IsSomeAnd, refl, sym, ◌∙◌, ap, subst, arith, length-append, inl, inr}
use Rattle.std.proofs.lemmas.List.{take-append-le, take_all}
use Rattle.std.proofs.lemmas.Bool.{cases_lt}
use Rattle.std.proofs.lemmas.Option.{slice_get_cases}
use Rattle.dactl_model.specs.declared.graph.NodeId.{NodeId}
use Rattle.dactl_model.specs.declared.graph.Node.{Node}
use Rattle.dactl_model.specs.declared.graph.Graph.{Graph}
use Rattle.dactl_model.specs.declared.graph.Entry.{Entry}
use Rattle.dactl_model.specs.declared.reading.Reading.{Reading}
use Rattle.dactl_model.specs.declared.program.Program.{Program}
use Rattle.dactl_model.specs.Graphs.{node_at, HasNode}
use Rattle.dactl_model.specs.Programs.{IsValid}
use Rattle.dactl_model.specs.Firing.{start_of}
use Rattle.dactl_model.specs.Readings.{targets_of}
use Rattle.dactl_model.specs.Steps.{Step, Reduction}
use Rattle.dactl_model.specs.Versions.{Content, content, content_of, content_read, HasContent, IsVersion}
use Rattle.dactl_model.specs.Laws.{ShownAgrees, VersionsBegin, VersionStays, VersionChanges}
use Rattle.dactl_model.proofs.KeptFire.{begins_well_formed}
use Rattle.dactl_model.proofs.Reductions.{same_reduction, Reduction-push}
use Rattle.dactl_model.proofs.VersionsRise.{carried, same_version_same_content}

-- a node of the graph has some content
has_content : (g : Graph) (n : NodeId) → HasNode g n → (c : Content) × (content g n ≡ Some c)
has_content g n has =
    elim (slice_get_cases g.nodes n.number).1 [
      | inl (node, below, at, same) ↦ (record { label = node.label; targets = map (λ a. a.target) node.arcs }, ap content_of at)
      | inr (past, none) ↦ absurd (omega arith)
    ]

-- the content after the whole journal is that of the graph after it
content_now : (p : Program) (journal : List Entry) (g : Graph) (n : NodeId) (c : Content) → IsValid p → Reduction p (start_of p.start) journal g → HasContent p journal (length journal) n c → content g n ≡ Some c
content_now p journal g n c valid run has =
    let whole : take (length journal) journal ≡ journal = take_all (length journal) journal (omega arith) in
    let same : has.graph ≡ g =
    same_reduction p (start_of p.start) has.graph g journal valid (begins_well_formed p valid) (subst (λ es. Reduction p (start_of p.start) es has.graph) whole has.reduced) run in
    sym (ap (λ x. content x n) same) ∙ has.is

has_now : (p : Program) (journal : List Entry) (i : ℕ) (g : Graph) (n : NodeId) (c : Content) → length journal ≤ i → Reduction p (start_of p.start) journal g → content g n ≡ Some c → HasContent p journal i n c
has_now p journal i g n c all run is = record {
  graph = g;
  reduced = subst (λ es. Reduction p (start_of p.start) es g) (sym (take_all i journal all)) run;
  is = is;
}

-- what holds after the first entries holds after them in a longer journal
still : (p : Program) (journal more : List Entry) (i : ℕ) (n : NodeId) (c : Content) → i ≤ length journal → HasContent p journal i n c → HasContent p (journal ++ more) i n c
still p journal more i n c within has = record {
  graph = has.graph;
  reduced = subst (λ es. Reduction p (start_of p.start) es has.graph) (sym (take-append-le i journal more within)) has.reduced;
  is = has.is;
}

content_agrees : (r : Reading) (o : Option Node) → content_of o ≡ Some (content_read r) → IsSomeAnd o (λ node. (node.label ≡ r.label) × (map (λ a. a.target) node.arcs ≡ targets_of r.targets))
content_agrees r None is = cc
content_agrees r (Some node) is =
    let same : record { label = node.label; targets = map (λ a. a.target) node.arcs } ≡ content_read r = cc in
    (ap (λ c. c.label) same, ap (λ c. c.targets) same)

pub shown_agrees : ShownAgrees
shown_agrees p journal g r valid run shown version =
    let whole : Reduction p (start_of p.start) (shown.prefix ++ shown.rest) g = subst (λ es. Reduction p (start_of p.start) es g) shown.parts run in
    let now : IsVersion p (shown.prefix ++ shown.rest) r.node r.version = subst (λ es. IsVersion p es r.node r.version) shown.parts version in
    let last = now.kept (length (shown.prefix ++ shown.rest)) now.within (omega arith) in
    let same = same_version_same_content p shown.prefix shown.rest r.node r.version (content_read r) now.latest valid shown.version now shown.has last in
    content_agrees r (node_at g r.node) (content_now p (shown.prefix ++ shown.rest) g r.node now.latest valid whole last ∙ ap Some (sym same))

pub versions_begin : VersionsBegin
versions_begin p n has =
    let some = has_content (start_of p.start) n has in
    record {
      within = omega arith;
      latest = some.0;
      kept = λ i from to. has_now p [] i (start_of p.start) n some.0 (omega arith) refl some.1;
      least = λ j c below kept. omega arith;
    }

module _ (p : Program) (journal : List Entry) (entry : Entry) (g after : Graph) (n : NodeId) (valid : IsValid p) (run : Reduction p (start_of p.start) journal g) (step : Step p g entry.event after) where
  abbrev grown : List Entry
  grown = journal ++ entry ∷ []

  long : length grown ≡ length journal + 1
  long = length-append journal (entry ∷ [])

  run_on : Reduction p (start_of p.start) (journal ++ entry ∷ []) after
  run_on = Reduction-push p (start_of p.start) g after journal entry run step

  stays : (k : ℕ) → content after n ≡ content g n → IsVersion p journal n k → IsVersion p (journal ++ entry ∷ []) n k
  stays k same version =
      let last = version.kept (length journal) version.within (omega arith) in
      let now : content after n ≡ Some version.latest = same ∙ content_now p journal g n version.latest valid run last in
      record {
        within = omega (arith, long, version.within);
        latest = version.latest;
        kept = λ i from to. elim (cases_lt (length journal) i) [
          | inl past ↦ has_now p (journal ++ entry ∷ []) i after n version.latest (omega (arith, long)) run_on now
          | inr before ↦ still p journal (entry ∷ []) i n version.latest before (version.kept i from before)
        ];
        least = λ j c below kept. version.least j c below (λ i from to. carried p journal (entry ∷ []) i n c to (kept i from (omega (arith, long))));
      }

  changes : HasNode after n → content after n ≢ content g n → IsVersion p (journal ++ entry ∷ []) n (length journal + 1)
  changes has other =
      let some = has_content after n has in
      record {
        within = omega (arith, long);
        latest = some.0;
        kept = λ i from to. has_now p (journal ++ entry ∷ []) i after n some.0 (omega (arith, long)) run_on some.1;
        least = λ j c below kept. (let was = content_now p journal g n c valid run (carried p journal (entry ∷ []) (length journal) n c (omega arith) (kept (length journal) (omega arith) (omega (arith, long)))) in
            let now = content_now p (journal ++ entry ∷ []) after n c valid run_on (kept (length (journal ++ entry ∷ [])) (omega (arith, long)) (omega arith)) in
            other (now ∙ sym was));
      }

pub version_stays : VersionStays
version_stays p journal entry g after n k valid run step same version = stays p journal entry g after n valid run step k same version

pub version_changes : VersionChanges
version_changes p journal entry g after n valid run step has other = changes p journal entry g after n valid run step has other
