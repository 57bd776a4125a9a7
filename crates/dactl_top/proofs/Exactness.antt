-- Each answer to an input that is there whole comes wherever its cause holds.
use Rattle.std.proofs.Common.{◌≡◌, ◌<◌, ◌⊎◌, Bool, List, [], ℕ, length, true, false, refl, sym, ap, ◌∙◌, subst, inl, inr, arith}
use Rattle.std.proofs.lemmas.List.{length-map}
use Rattle.dactl_base.specs.declared.refusal.Refusal.{Refusal}
use Rattle.dactl_model.specs.declared.graph.Entry.{Entry}
use Rattle.dactl_model.specs.declared.graph.End.{End}
use Rattle.dactl_model.specs.declared.graph.End.TheVariants as end
use Rattle.dactl_model.specs.declared.program.Program.{Program}
use Rattle.dactl_model.specs.declared.graph.Graph.{Graph}
use Rattle.dactl_model.specs.declared.graph.Room.{Room}
use Rattle.dactl_model.specs.Firing.{start_of, fresh_node}
use Rattle.dactl_model.specs.Programs.{IsValid, fresh_arcs}
use Rattle.dactl_model.specs.Ending.{arcs_of}
use Rattle.dactl_resume.specs.Answers.{IsBadAt}
use Rattle.dactl_resume.specs.Resumed.{IsResumed}
use Rattle.dactl_resume.proofs.Exact.{has_one_graph, is_not_both}
use Rattle.dactl_settings.specs.declared.settings.Settings.{Settings}
use Rattle.dactl_verify.specs.declared.verdict.Verdict.{Verdict}
use Rattle.dactl_verify.specs.declared.verdict.Verdict.TheVariants as verdicts
use Rattle.dactl_verify.specs.Verdicts.{IsVerdict}
use Rattle.dactl_verify.proofs.OneVerdict.{one_verdict}
use Rattle.dactl_verify.proofs.Rooms.{start_arcs}
use Rattle.dactl_top.specs.declared.status.Status.{Status}
use Rattle.dactl_top.specs.declared.status.Status.TheVariants as status
use Rattle.dactl_top.specs.declared.outcome.Outcome.{Outcome}
use Rattle.dactl_top.specs.declared.outcome.Outcome.TheVariants.{Usage, ReadFault, TooLong, Memory, NoPart, Refused, Checked, BadGraph, Small, Judged, Ran}
use Rattle.dactl_top.specs.Compiling.{IsProgramBy, MeansBy}
use Rattle.dactl_top.specs.Devices.{SinkChange}
use Rattle.dactl_top.specs.Given.{HasSettings}
use Rattle.dactl_top.specs.Parts.{marker_of, HasPart, IsStarted, Runs}
use Rattle.dactl_top.specs.Running.{limits_of, start_room, IsFitting, IsTooSmall}
use Rattle.dactl_top.specs.Outcomes.{HasCause, HasChecked, HasBadGraph, HasSmall, HasVerdict, IsRefused, IsToRun, IsTold, Gives, room_for, status_of_end, status_of_verdict}
use Rattle.dactl_top.specs.Calls.{Call, IsAnswered, given_of}
use Rattle.dactl_top.specs.Headline.{IsOfRun}
use Rattle.dactl_top.specs.Exact.{IsOfText, IsExactUnder, IsExact}
use Rattle.dactl_top.proofs.Parts.{lacks_none, same_part, same_program, no_fault, no_program}
use Rattle.dactl_top.proofs.Taking.{one_settings}

-- an answer to an input tells its outcome
text_answer : (sink : SinkChange) (due : List ℕ) (wanted answer : Status) → Gives sink due wanted answer → IsOfText answer → answer ≡ wanted
text_answer sink due wanted answer gives is = elim gives [ inl told ↦ told.0 | inr cut ↦ absurd (subst IsOfText cut.0 is) ]

not_text : (sink : SinkChange) (due : List ℕ) (wanted answer : Status) → Gives sink due wanted answer → (IsOfText wanted → ⊥) → IsOfText answer → ⊥
not_text sink due wanted answer gives other is = elim gives [ inl told ↦ other (subst IsOfText told.0 is) | inr cut ↦ subst IsOfText cut.0 is ]

differ : (b : Bool) → b ≡ true → b ≡ false → ⊥
differ b on off = let e : true ≡ false = sym on ∙ off in cc

-- the first graph of a program does not both fit and exceed the limits
fits_or_not : (s : Settings) (p : Program) → IsFitting (limits_of s) p → IsTooSmall (limits_of s) p → ⊥
fits_or_not s p fits small = let nodes = fits.nodes in let arcs = fits.arcs in elim small [ inl above ↦ omega arith | inr above ↦ omega arith ]

of_end : (ended : End) → IsOfRun (status_of_end ended)
of_end end.Normal = tt
of_end end.Budget = tt
of_end (end.Full n r needed left) = tt

-- ---- the programs that an input may be to run have one first graph

started_same : (b : Bool) (meant other : Program) (rest more : List ℕ) (p q : Program) → IsValid meant → meant ≡ other → rest ≡ more → IsStarted b meant rest p → IsStarted b other more q → start_of p.start ≡ start_of q.start
started_same false meant other rest more p q valid same also one two = ap (λ (x : Program). start_of x.start) (one ∙ same ∙ sym two)
started_same true meant other rest more p q valid same also one two =
    let second : IsResumed meant rest q = subst (λ (z : Program × List ℕ). IsResumed z.0 z.1 q) (λ i. (sym same i, sym also i)) two in
    ap (λ (x : Program). start_of x.start) one.is ∙ one.begins ∙ has_one_graph meant rest one.graph second.graph valid one.read second.read ∙ sym second.begins ∙ sym (ap (λ (x : Program). start_of x.start) second.is)

-- what the first graph takes, by the graph
room_by_graph : (p q : Program) → start_of p.start ≡ start_of q.start → start_room p ≡ start_room q
room_by_graph p q same =
    let nodes : length p.start.fresh ≡ length q.start.fresh =
    sym (length-map p.start.fresh (fresh_node 0 [] (λ x. x))) ∙ ap (λ (g : Graph). length g.nodes) same ∙ length-map q.start.fresh (fresh_node 0 [] (λ x. x)) in
    let arcs : fresh_arcs p.start.fresh ≡ fresh_arcs q.start.fresh = sym (start_arcs p) ∙ ap arcs_of same ∙ start_arcs q in
    λ i. record { nodes = nodes i; arcs = arcs i }

same_room : (s : Settings) (input : List ℕ) (p q : Program) (one : Runs (MeansBy s.fun) s input p) → IsValid one.meant → Runs (IsProgramBy s.fun) s input q → start_room p ≡ start_room q
same_room s input p q one valid two =
    let same = same_part s input one.rest two.rest (λ text. MeansBy s.fun text one.meant) (λ text. IsProgramBy s.fun text two.meant) one.part two.part in
    room_by_graph p q (started_same s.resume one.meant two.meant one.rest two.rest p q valid (same_program s input one.rest two.rest one.meant two.meant one.part two.part) same.1 one.started two.started)

-- so they all fit, or none does
not_fit : (s : Settings) (p q : Program) → start_room p ≡ start_room q → IsFitting (limits_of s) p → IsTooSmall (limits_of s) q → ⊥
not_fit s p q same fits above =
    fits_or_not s p fits (subst (λ (r : Room). ((limits_of s).nodes < r.nodes) ⊎ ((limits_of s).arcs < r.arcs)) (sym same) above)

not_small : (s : Settings) (p q : Program) → start_room p ≡ start_room q → IsTooSmall (limits_of s) p → IsFitting (limits_of s) q → ⊥
not_small s p q same above fits = not_fit s q p (sym same) fits above

-- where no graph is asked for, the program that is run is the one that the text part means
fresh_part : (s : Settings) (input : List ℕ) (q : Program) → s.resume ≡ false → (also : Runs (IsProgramBy s.fun) s input q) → HasPart s input also.rest (λ text. IsProgramBy s.fun text q)
fresh_part s input q fresh also =
    let same : q ≡ also.meant = subst (λ b. IsStarted b also.meant also.rest q) fresh also.started in
    subst (λ z. HasPart s input also.rest (λ text. IsProgramBy s.fun text z)) (sym same) also.part

-- a graph that was read has no bad line
read_not_bad : (s : Settings) (input more : List ℕ) (p q : Program) (line : ℕ) (own : Runs (MeansBy s.fun) s input p) → IsValid own.meant → s.resume ≡ true → HasPart s input more (λ text. IsProgramBy s.fun text q) → IsBadAt q more line → ⊥
read_not_bad s input more p q line own valid asked also bad =
    let same = same_part s input own.rest more (λ text. MeansBy s.fun text own.meant) (λ text. IsProgramBy s.fun text q) own.part also in
    let program : own.meant ≡ q = same_program s input own.rest more own.meant q own.part also in
    let started : IsResumed own.meant own.rest p = subst (λ b. IsStarted b own.meant own.rest p) asked own.started in
    let own_bad : IsBadAt own.meant own.rest line = subst (λ (z : Program × List ℕ). IsBadAt z.0 z.1 line) (λ i. (sym program i, sym same.1 i)) bad in
    is_not_both own.meant own.rest started.graph line valid started.read own_bad

-- and where a line is bad, no graph was read
bad_not_read : (s : Settings) (input rest : List ℕ) (p q : Program) (line : ℕ) → HasPart s input rest (λ text. MeansBy s.fun text p) → IsValid p → s.resume ≡ true → IsBadAt p rest line → Runs (IsProgramBy s.fun) s input q → ⊥
bad_not_read s input rest p q line part valid asked bad also =
    let same = same_part s input rest also.rest (λ text. MeansBy s.fun text p) (λ text. IsProgramBy s.fun text also.meant) part also.part in
    let program : p ≡ also.meant = same_program s input rest also.rest p also.meant part also.part in
    let started : IsResumed also.meant also.rest q = subst (λ b. IsStarted b also.meant also.rest q) asked also.started in
    let own : IsResumed p rest q = subst (λ (z : Program × List ℕ). IsResumed z.0 z.1 q) (λ i. (sym program i, sym same.1 i)) started in
    is_not_both p rest own.graph line valid own.read bad

-- ---- the verdict on a trace is one

-- the start does not fit
small_verdict : (s : Settings) (p : Program) (rest : List ℕ) → IsTooSmall (limits_of s) p → IsVerdict p rest (room_for s) [] (verdicts.Small (start_room p) (room_for s))
small_verdict s p rest above = record { needs = refl; has = refl; above = above; unread = refl }

same_verdict : (s : Settings) (input more : List ℕ) (p q : Program) (verdict other : Verdict) (journal second : List Entry) → HasVerdict s input p verdict journal → HasPart s input more (λ text. IsProgramBy s.fun text q)
    → IsVerdict q more (room_for s) second other → verdict ≡ other
same_verdict s input more p q verdict other journal second is part found =
    let program : p ≡ q = same_program s input is.rest more p q is.meant.means part in
    let same = same_part s input is.rest more (λ text. MeansBy s.fun text p) (λ text. IsProgramBy s.fun text q) is.meant.means part in
    let also : IsVerdict p is.rest (room_for s) second other = subst (λ (z : Program × List ℕ). IsVerdict z.0 z.1 (room_for s) second other) (λ i. (sym program i, sym same.1 i)) found in
    (one_verdict p is.rest (room_for s) journal second verdict other is.meant.valid is.short is.few is.found also).1

-- ---- so each answer is due alone

refused_exact : (call : Call) (s : Settings) (r : Refusal) → IsRefused s call.kept.text.items r → call.answer ≡ status.Refused → IsExactUnder s call
refused_exact call s r (rest, part) is =
    let input = call.kept.text.items in record {
      no_part = λ lacks. absurd (lacks_none (marker_of s) input part.text rest part.parted lacks);
      refused = λ more also fault. is;
      checked = λ more p check also. absurd (no_program s input rest more r p part also);
      judged = λ more p verdict journal check asked also found. absurd (no_program s input rest more r p part also);
      bad_graph = λ more p line check asked also bad. absurd (no_program s input rest more r p part also);
      small = λ p check also above. absurd (no_program s input rest also.rest r also.meant part also.part);
      runs = λ p check unasked also fits. absurd (no_program s input rest also.rest r also.meant part also.part);
    }

checked_exact : (call : Call) (s : Settings) (p : Program) → HasChecked s call.kept.text.items p → call.answer ≡ status.Checked → IsExactUnder s call
checked_exact call s p has is =
    let input = call.kept.text.items in
    let part = has.meant.means in record {
      no_part = λ lacks. absurd (lacks_none (marker_of s) input part.text has.rest part.parted lacks);
      refused = λ more r fault. absurd (no_fault s input has.rest more p r part fault);
      checked = λ more q check also. is;
      judged = λ more q verdict journal check asked also found. absurd (differ s.check has.check check);
      bad_graph = λ more q line check asked also bad. absurd (differ s.check has.check check);
      small = λ q check also above. absurd (differ s.check has.check check);
      runs = λ q check unasked also fits. absurd (differ s.check has.check check);
    }

judged_exact : (call : Call) (s : Settings) (p : Program) (verdict : Verdict) (journal : List Entry) → HasVerdict s call.kept.text.items p verdict journal → call.answer ≡ status_of_verdict verdict → IsExactUnder s call
judged_exact call s p verdict journal has is =
    let input = call.kept.text.items in
    let part = has.meant.means in record {
      no_part = λ lacks. absurd (lacks_none (marker_of s) input part.text has.rest part.parted lacks);
      refused = λ more r fault. absurd (no_fault s input has.rest more p r part fault);
      checked = λ more q check also. absurd (differ s.check check has.check);
      judged = λ more q other second check asked also found. is ∙ ap status_of_verdict (same_verdict s input more p q verdict other journal second has also found);
      bad_graph = λ more q line check asked also bad. absurd (differ s.resume asked has.fresh);
      small = λ q check also above.
          is ∙ ap status_of_verdict (same_verdict s input also.rest p q verdict (verdicts.Small (start_room q) (room_for s)) journal [] has (fresh_part s input q has.fresh also) (small_verdict s q also.rest above));
      runs = λ q check unasked also fits. absurd (differ s.verify has.asked unasked);
    }

small_exact : (call : Call) (s : Settings) (p : Program) → HasSmall s call.kept.text.items p → call.answer ≡ status.Small → IsExactUnder s call
small_exact call s p has is =
    let input = call.kept.text.items in
    let own = has.meant.runs in record {
      no_part = λ lacks. absurd (lacks_none (marker_of s) input own.part.text own.rest own.part.parted lacks);
      refused = λ more r fault. absurd (no_fault s input own.rest more own.meant r own.part fault);
      checked = λ more q check also. absurd (differ s.check check has.check);
      judged = λ more q verdict journal check asked also found. absurd (differ s.verify asked has.unasked);
      bad_graph = λ more q line check asked also bad. absurd (read_not_bad s input more p q line own has.meant.sound asked also bad);
      small = λ q check also above. is;
      runs = λ q check unasked also fits. absurd (not_small s p q (same_room s input p q own has.meant.sound also) has.above fits);
    }

ran_exact : (call : Call) (s : Settings) (p : Program) → s.check ≡ false → s.verify ≡ false → IsToRun s call.kept.text.items p → IsFitting (limits_of s) p → IsOfRun call.answer → IsExactUnder s call
ran_exact call s p unchecked unjudged meant fit is =
    let input = call.kept.text.items in
    let own = meant.runs in record {
      no_part = λ lacks. absurd (lacks_none (marker_of s) input own.part.text own.rest own.part.parted lacks);
      refused = λ more r fault. absurd (no_fault s input own.rest more own.meant r own.part fault);
      checked = λ more q check also. absurd (differ s.check check unchecked);
      judged = λ more q verdict journal check asked also found. absurd (differ s.verify asked unjudged);
      bad_graph = λ more q line check asked also bad. absurd (read_not_bad s input more p q line own meant.sound asked also bad);
      small = λ q check also above. absurd (not_fit s p q (same_room s input p q own meant.sound also) fit above);
      runs = λ q check unasked also fits. is;
    }

bad_exact : (call : Call) (s : Settings) (p : Program) (line : ℕ) → HasBadGraph s call.kept.text.items p line → call.answer ≡ status.BadGraph → IsExactUnder s call
bad_exact call s p line has is =
    let input = call.kept.text.items in
    let part = has.meant.means in record {
      no_part = λ lacks. absurd (lacks_none (marker_of s) input part.text has.rest part.parted lacks);
      refused = λ more r fault. absurd (no_fault s input has.rest more p r part fault);
      checked = λ more q check also. absurd (differ s.check check has.check);
      judged = λ more q verdict journal check asked also found. absurd (differ s.verify asked has.unasked);
      bad_graph = λ more q other check asked also bad. is;
      small = λ q check also above. absurd (bad_not_read s input has.rest p q line part has.meant.valid has.asked has.is_bad also);
      runs = λ q check unasked also fits. absurd (bad_not_read s input has.rest p q line part has.meant.valid has.asked has.is_bad also);
    }

-- under the settings of the words
of_words : (call : Call) (s : Settings) → HasSettings (given_of call) s → IsExactUnder s call → IsExact call
of_words call s has is = λ t words. subst (λ x. IsExactUnder x call) (one_settings call.words s t has.words words) is

told_exact : (call : Call) (outcome : Outcome) → HasCause (given_of call) outcome → IsTold outcome call.sink call.answer → IsOfText call.answer → IsExact call
told_exact call NoPart cause told is =
    let s = cause.settings in
    let input = call.kept.text.items in
    of_words call s cause.has (record {
      no_part = λ lacks. text_answer call.sink told.due _ _ told.gives is;
      refused = λ more r fault. absurd (lacks_none (marker_of s) input fault.text more fault.parted cause.says);
      checked = λ more q check also. absurd (lacks_none (marker_of s) input also.text more also.parted cause.says);
      judged = λ more q verdict journal check asked also found. absurd (lacks_none (marker_of s) input also.text more also.parted cause.says);
      bad_graph = λ more q line check asked also bad. absurd (lacks_none (marker_of s) input also.text more also.parted cause.says);
      small = λ q check also above. absurd (lacks_none (marker_of s) input also.part.text also.rest also.part.parted cause.says);
      runs = λ q check unasked also fits. absurd (lacks_none (marker_of s) input also.part.text also.rest also.part.parted cause.says);
    })
told_exact call (Refused refusal line) cause told is = of_words call cause.settings cause.has (refused_exact call cause.settings refusal cause.says (text_answer call.sink told.due _ _ told.gives is))
told_exact call (Checked p) cause told is = of_words call cause.settings cause.has (checked_exact call cause.settings p cause.says (text_answer call.sink told.due _ _ told.gives is))
told_exact call (BadGraph p bad line) cause told is = of_words call cause.settings cause.has (bad_exact call cause.settings p bad cause.says (text_answer call.sink told.due _ _ told.gives is))
told_exact call (Judged p verdict journal line) cause told is = of_words call cause.settings cause.has (judged_exact call cause.settings p verdict journal.items cause.says (text_answer call.sink told.due _ _ told.gives is))
told_exact call (Small p line) cause told is = of_words call cause.settings cause.has (small_exact call cause.settings p cause.says (text_answer call.sink told.due _ _ told.gives is))
told_exact call (Ran run trace numbering) cause told is =
    let says = cause.says in
    of_words call cause.settings cause.has
    (ran_exact call cause.settings run.program says.check says.unasked says.meant says.run.fits (subst IsOfRun (sym (text_answer call.sink told.due _ _ told.gives is)) (of_end run.ended)))
told_exact call Usage cause told is = absurd (not_text call.sink told.due _ _ told.gives (λ x. x) is)
told_exact call ReadFault cause told is = absurd (not_text call.sink told.due _ _ told.gives (λ x. x) is)
told_exact call TooLong cause told is = absurd (not_text call.sink told.due _ _ told.gives (λ x. x) is)
told_exact call Memory cause told is = absurd (not_text call.sink told.due _ _ told.gives (λ x. x) is)

pub exact : (call : Call) → IsAnswered call → IsOfText call.answer → IsExact call
exact call answered is = told_exact call answered.outcome answered.cause answered.told is
