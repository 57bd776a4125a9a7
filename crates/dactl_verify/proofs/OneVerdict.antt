-- A trace has one verdict in a room.
use Rattle.std.proofs.Common.{◌≡◌, ℕ, suc, ◌+◌, ◌^◌, ◌<◌, ◌≤◌, ◌⊎◌, inl, inr, List, [], ◌∷◌, ◌++◌, length, take, All, slice_get, Some, refl, sym, ap, ap₂, ◌∙◌, subst, arith, append_assoc, length-append}
use Rattle.std.proofs.lemmas.List.{append_cancel_left}
use Rattle.dactl_base.specs.Readers.{next_line}
use Rattle.dactl_model.specs.declared.graph.NodeId.{NodeId}
use Rattle.dactl_model.specs.declared.graph.Graph.{Graph}
use Rattle.dactl_model.specs.declared.graph.Event.{Event}
use Rattle.dactl_model.specs.declared.graph.Event.TheVariants.{Fire}
use Rattle.dactl_model.specs.declared.graph.Entry.{Entry}
use Rattle.dactl_model.specs.declared.graph.Room.{Room}
use Rattle.dactl_model.specs.declared.program.Rule.{Rule}
use Rattle.dactl_model.specs.declared.program.Program.{Program}
use Rattle.dactl_model.specs.Graphs.{IsWellFormed}
use Rattle.dactl_model.specs.Programs.{IsValid}
use Rattle.dactl_model.specs.Firing.{start_of}
use Rattle.dactl_model.specs.Steps.{Step, Reduction}
use Rattle.dactl_model.specs.Ending.{needed_by, room_left}
use Rattle.dactl_model.proofs.KeptFire.{begins_well_formed, keeps_well_formed}
use Rattle.dactl_model.proofs.OneMatch.{has_one_step}
use Rattle.dactl_print.specs.Texts.{entry_line, entry_lines}
use Rattle.dactl_verify.specs.declared.verdict.Verdict.{Verdict}
use Rattle.dactl_verify.specs.declared.verdict.Verdict.TheVariants.{Valid, Wrong, Full, Small}
use Rattle.dactl_verify.specs.Lines.{IsWorker, IsLineOf, HasWords}
use Rattle.dactl_verify.specs.Rooms.{FitsRoom, Exceeds, limits_of, room_of}
use Rattle.dactl_verify.specs.Verdicts.{IsOverfull, IsFound, IsEnded, IsSmall, IsVerdict}
use Rattle.dactl_verify.specs.Laws.{HasOneVerdict}
use Rattle.dactl_verify.proofs.Entries.{step_words, same_entry}
use Rattle.dactl_verify.proofs.NextLine.{line_first, line_some}
use Rattle.dactl_verify.proofs.Rooms.{start_within, fired_within, same_rule}

-- ---- what is found at one place

-- nothing is left, or there is a line
not_both : (number : ℕ) (entry : Entry) (rest : List ℕ) → rest ≡ [] → next_line rest ≡ entry_line number entry → ⊥
not_both number entry rest none is =
    let line : [] ≡ entry_line number entry = sym (ap next_line none) ∙ is in
    absurd (omega (arith, ap (length {A = ℕ}) line, line_some number entry))

same_full : (p : Program) (room : Room) (g : Graph) (number : ℕ) (line : List ℕ) (at by : ℕ) (n m : NodeId) (r s : ℕ) (needed left needs has : Room) → IsValid p → room.nodes ≤ 2000000
    → FitsRoom room g → number < 2 ^ 32 → at ≡ number → by ≡ number → IsOverfull p room g number line n r needed left → IsOverfull p room g number line m s needs has
    → Full at n r needed left ≡ Full by m s needs has
same_full p room g number line at by n m r s needed left needs has valid small fits word here there one other =
    let words = step_words p room g one.after one.entry.event valid small fits one.right.step in
    let also = step_words p room g other.after other.entry.event valid small fits other.right.step in
    let entry : one.entry ≡ other.entry = same_entry one.entry other.entry word words also one.right.told other.right.told in
    let event : Fire n r ≡ Fire m s = sym one.fires ∙ ap (λ (e : Entry). e.event) entry ∙ other.fires in
    let node : n ≡ m = cc in
    let rule : r ≡ s = cc in
    let place : at ≡ by = here ∙ sym there in
    let same : one.full.rule ≡ other.full.rule = same_rule p s _ _ (subst (λ (k : ℕ). slice_get p.rules k ≡ Some one.full.rule) rule one.full.is_rule) other.full.is_rule in
    let need : needed ≡ needs = one.full.needs ∙ ap (λ (x : Rule). needed_by x.body) same ∙ sym other.full.needs in
    let room : left ≡ has = one.full.has ∙ sym other.full.has in
    cc

same_found : (p : Program) (room : Room) (g : Graph) (number : ℕ) (rest : List ℕ) (verdict second : Verdict) → IsValid p → room.nodes ≤ 2000000 → FitsRoom room g → number < 2 ^ 32
    → IsFound p room g number rest verdict → IsFound p room g number rest second → verdict ≡ second
same_found p room g number rest Valid Valid valid small fits word one other = refl
same_found p room g number rest Valid (Wrong l) valid small fits word one other = absurd (other.1 one)
same_found p room g number rest Valid (Full l n r needed left) valid small fits word one other = absurd (not_both number other.1.entry rest one other.1.right.told.text)
same_found p room g number rest Valid (Small needed left) valid small fits word one other = absurd other
same_found p room g number rest (Wrong k) Valid valid small fits word one other = absurd (one.1 other)
same_found p room g number rest (Wrong k) (Wrong l) valid small fits word one other = ap Wrong (one.0 ∙ sym other.0)
same_found p room g number rest (Wrong k) (Full l n r needed left) valid small fits word one other = absurd (one.2 other.1.entry other.1.after other.1.right)
same_found p room g number rest (Wrong k) (Small needed left) valid small fits word one other = absurd other
same_found p room g number rest (Full k n r needed left) Valid valid small fits word one other = absurd (not_both number one.1.entry rest other one.1.right.told.text)
same_found p room g number rest (Full k n r needed left) (Wrong l) valid small fits word one other = absurd (other.2 one.1.entry one.1.after one.1.right)
same_found p room g number rest (Full k n r needed left) (Full l m s needs has) valid small fits word one other =
    same_full p room g number (next_line rest) k l n m r s needed left needs has valid small fits word one.0 other.0 one.1 other.1
same_found p room g number rest (Full k n r needed left) (Small needs has) valid small fits word one other = absurd other
same_found p room g number rest (Small needed left) second valid small fits word one other = absurd one

-- where a right line follows, whose graph fits, the check does not stop
goes_on : (p : Program) (room : Room) (g mid : Graph) (number : ℕ) (rest more : List ℕ) (verdict : Verdict) (entry : Entry) → IsValid p → room.nodes ≤ 2000000 → FitsRoom room g → number < 2 ^ 32
    → IsWorker entry.worker → Step p g entry.event mid → FitsRoom room mid → rest ≡ entry_line number entry ++ more → IsFound p room g number rest verdict → ⊥
goes_on p room g mid number rest more verdict entry valid small fits word worker step next is found = at verdict found
  where
    words : HasWords entry.event
    words = step_words p room g mid entry.event valid small fits step

    told : IsLineOf number entry (next_line rest)
    told =
        let most = worker.1 in
        record { text = ap next_line is ∙ line_first number entry more word (omega arith) words; worker = worker }

    at : (v : Verdict) → IsFound p room g number rest v → ⊥
    at Valid f = not_both number entry rest f told.text
    at (Wrong l) f = f.2 entry mid (record { told = told; step = step })
    at (Full l n r needed left) f =
        let over = f.1 in
        let also = step_words p room g over.after over.entry.event valid small fits over.right.step in
        let same : entry ≡ over.entry = same_entry entry over.entry word words also told over.right.told in
        let event : entry.event ≡ Fire n r = ap (λ (e : Entry). e.event) same ∙ over.fires in
        let fires : Step p g (Fire n r) mid = subst (λ (e : Event). Step p g e mid) event step in
        let above : Exceeds (needed_by over.full.rule.body) (room_left (limits_of room) g) = subst (λ (x : Room). Exceeds x (room_left (limits_of room) g)) over.full.needs (subst (λ (x : Room). Exceeds needed x) over.full.has over.full.above) in
        fired_within p g mid n r over.full.rule room over.full.is_rule next fires.1 above
    at (Small needed left) f = f

-- ---- two journals

-- both begin with the same line
same_head : (p : Program) (room : Room) (g one other : Graph) (number : ℕ) (text rest more : List ℕ) (e f : Entry) → IsValid p → room.nodes ≤ 2000000 → FitsRoom room g → number < 2 ^ 32
    → text ≡ entry_line number e ++ rest → text ≡ entry_line number f ++ more → IsWorker e.worker → IsWorker f.worker → Step p g e.event one → Step p g f.event other
    → (e ≡ f) × (rest ≡ more) × (length rest < length text)
same_head p room g one other number text rest more e f valid small fits word lines lines' worker worker' step step' =
    let words = step_words p room g one e.event valid small fits step in
    let words' = step_words p room g other f.event valid small fits step' in
    let most = worker.1 in
    let most' = worker'.1 in
    let first = line_first number e rest word (omega arith) words in
    let next = line_first number f more word (omega arith) words' in
    let line : entry_line number e ≡ entry_line number f = sym first ∙ ap next_line (sym lines ∙ lines') ∙ next in
    let told : IsLineOf number e (entry_line number e) = record { text = refl; worker = worker } in
    let told' : IsLineOf number f (entry_line number e) = record { text = line; worker = worker' } in
    let tails : entry_line number e ++ rest ≡ entry_line number e ++ more = sym lines ∙ lines' ∙ ap (λ (t : List ℕ). t ++ more) (sym line) in (
      same_entry e f word words words' told told',
      append_cancel_left (entry_line number e) rest more tails,
      omega (arith, ap (length {A = ℕ}) lines, length-append (entry_line number e) rest, line_some number e),
    )

-- from one graph on, along both journals
one_from : (p : Program) (room : Room) (g one other : Graph) (number at by : ℕ) (text rest more : List ℕ) (journal second : List Entry) (verdict found : Verdict) → IsValid p → room.nodes ≤ 2000000
    → IsWellFormed g → number + length text < 2 ^ 32 → at ≡ number + length journal → by ≡ number + length second
    → text ≡ entry_lines number journal ++ rest → All (λ entry. IsWorker entry.worker) journal → Reduction p g journal one → ((k : ℕ) (h : Graph) → Reduction p g (take k journal) h → FitsRoom room h)
    → text ≡ entry_lines number second ++ more → All (λ entry. IsWorker entry.worker) second → Reduction p g second other → ((k : ℕ) (h : Graph) → Reduction p g (take k second) h → FitsRoom room h)
    → IsFound p room one at rest verdict → IsFound p room other by more found → (journal ≡ second) × (verdict ≡ found)
one_from p room g one other number at by text rest more [] [] verdict found valid small formed short last end lines workers run fit lines' workers' run' fit' x y =
    let word : number < 2 ^ 32 = omega arith in
    let here : at ≡ number = omega arith in
    let there : by ≡ number = omega arith in
    let same : more ≡ rest = sym lines' ∙ lines in
    let first = subst (λ (k : ℕ). IsFound p room g k rest verdict) here (subst (λ (h : Graph). IsFound p room h at rest verdict) run x) in
    let next = subst (λ (k : ℕ). IsFound p room g k rest found) there (subst (λ (h : Graph). IsFound p room h by rest found) run' (subst (λ (t : List ℕ). IsFound p room other by t found) same y)) in
    (refl, same_found p room g number rest verdict found valid small (fit 0 g refl) word first next)
one_from p room g one other number at by text rest more [] (f ∷ second) verdict found valid small formed short last end lines workers run fit lines' workers' run' fit' x y =
    let word : number < 2 ^ 32 = omega arith in
    let here : at ≡ number = omega arith in
    let first = subst (λ (k : ℕ). IsFound p room g k rest verdict) here (subst (λ (h : Graph). IsFound p room h at rest verdict) run x) in
    let is = sym lines ∙ lines' ∙ append_assoc (entry_line number f) (entry_lines (number + 1) second) more in
    absurd (goes_on p room g run'.0 number rest (entry_lines (number + 1) second ++ more) verdict f valid small (fit 0 g refl) word (workers' 0 f (omega arith)) run'.1 (fit' 1 run'.0 (run'.0, run'.1, refl)) is first)
one_from p room g one other number at by text rest more (e ∷ journal) [] verdict found valid small formed short last end lines workers run fit lines' workers' run' fit' x y =
    let word : number < 2 ^ 32 = omega arith in
    let there : by ≡ number = omega arith in
    let first = subst (λ (k : ℕ). IsFound p room g k more found) there (subst (λ (h : Graph). IsFound p room h by more found) run' y) in
    let is = sym lines' ∙ lines ∙ append_assoc (entry_line number e) (entry_lines (number + 1) journal) rest in
    absurd (goes_on p room g run.0 number more (entry_lines (number + 1) journal ++ rest) found e valid small (fit' 0 g refl) word (workers 0 e (omega arith)) run.1 (fit 1 run.0 (run.0, run.1, refl)) is first)
one_from p room g one other number at by text rest more (e ∷ journal) (f ∷ second) verdict found valid small formed short last end lines workers run fit lines' workers' run' fit' x y =
    let word : number < 2 ^ 32 = omega arith in
    let fits = fit 0 g refl in
    let head = same_head p room g run.0 run'.0 number text (entry_lines (number + 1) journal ++ rest) (entry_lines (number + 1) second ++ more) e f valid small fits word
    (lines ∙ append_assoc (entry_line number e) (entry_lines (number + 1) journal) rest) (lines' ∙ append_assoc (entry_line number f) (entry_lines (number + 1) second) more)
    (workers 0 e (omega arith)) (workers' 0 f (omega arith)) run.1 run'.1 in
    let mid : run'.0 ≡ run.0 = has_one_step p g run'.0 run.0 e.event valid formed (subst (λ (d : Entry). Step p g d.event run'.0) (sym head.0) run'.1) run.1 in
    let shorter = head.2 in
    let later =
    one_from p room run.0 one other (number + 1) at by (entry_lines (number + 1) journal ++ rest) rest more journal second verdict found valid small
    (keeps_well_formed p g run.0 e.event valid formed run.1) (omega arith) (omega arith) (omega arith)
    refl (λ k d below. workers (suc k) d (omega arith)) run.2 (λ k h go. fit (suc k) h (run.0, run.1, go))
    head.1 (λ k d below. workers' (suc k) d (omega arith)) (subst (λ (h : Graph). Reduction p h second other) mid run'.2)
    (λ k h go. fit' (suc k) h (run'.0, run'.1, subst (λ (m : Graph). Reduction p m (take k second) h) (sym mid) go)) x y in
    let entry : e ≡ f = head.0 in
    let entries : journal ≡ second = later.0 in
    let all : e ∷ journal ≡ f ∷ second = cc in
    (all, later.1)

-- ---- the start

start_small : (p : Program) (room : Room) (needed left : Room) (journal other : List Entry) (trace : List ℕ) (verdict : Verdict) → IsSmall p room journal needed left → IsEnded p trace room other verdict → ⊥
start_small p room needed left journal other trace verdict small ended =
    let above : Exceeds (room_of p.start.fresh) room = subst (λ (x : Room). Exceeds x room) small.needs (subst (λ (x : Room). Exceeds needed x) small.has small.above) in
    start_within p room (ended.checked.fit 0 (start_of p.start) refl) above

-- the start is too large, or the check ended at a line
abbrev Cases : Program → List ℕ → Room → List Entry → Verdict → Type 0
Cases p trace room journal verdict = IsEnded p trace room journal verdict ⊎ ((needed : Room) × (left : Room) × (verdict ≡ Small needed left) × IsSmall p room journal needed left)

cases : (p : Program) (trace : List ℕ) (room : Room) (journal : List Entry) (verdict : Verdict) → IsVerdict p trace room journal verdict → Cases p trace room journal verdict
cases p trace room journal Valid is = inl is
cases p trace room journal (Wrong l) is = inl is
cases p trace room journal (Full l n r needed left) is = inl is
cases p trace room journal (Small needed left) is = inr (needed, left, refl, is)

one_of : (p : Program) (trace : List ℕ) (room : Room) (journal other : List Entry) (verdict second : Verdict) → IsValid p → length trace ≤ 1048576 → room.nodes ≤ 2000000
    → Cases p trace room journal verdict → Cases p trace room other second → (journal ≡ other) × (verdict ≡ second)
one_of p trace room journal other verdict second valid few small (inl one) (inl two) =
    one_from p room (start_of p.start) one.graph two.graph 1 (length journal + 1) (length other + 1) trace one.rest two.rest journal other verdict second valid small (begins_well_formed p valid)
    (omega arith) (omega arith) (omega arith) one.checked.lines one.checked.workers one.checked.run one.checked.fit two.checked.lines two.checked.workers two.checked.run two.checked.fit one.found two.found
one_of p trace room journal other verdict second valid few small (inl one) (inr (needed, left, is, two)) = absurd (start_small p room needed left other journal trace verdict two one)
one_of p trace room journal other verdict second valid few small (inr (needed, left, is, one)) (inl two) = absurd (start_small p room needed left journal other trace second one two)
one_of p trace room journal other verdict second valid few small (inr (needed, left, is, one)) (inr (needs, has, also, two)) =
    (one.unread ∙ sym two.unread, is ∙ ap₂ Small (one.needs ∙ sym two.needs) (one.has ∙ sym two.has) ∙ sym also)

pub one_verdict : HasOneVerdict
one_verdict p trace room journal other verdict second valid few small one two =
    one_of p trace room journal other verdict second valid few small (cases p trace room journal verdict one) (cases p trace room other second two)
