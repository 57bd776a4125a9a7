use Rattle.std.proofs.Common.{◌≡◌, ◌+◌, ◌∷◌, [], ℕ, List, length, Result, Ok, Err, IfErr, refl, sym, ap, ◌∙◌, subst, arith, length-append}
use Rattle.dactl_model.specs.declared.graph.Entry.{Entry}
use Rattle.dactl_model.specs.declared.graph.Room.{Room}
use Rattle.dactl_verify.specs.Lines.{IsLineOf}
use Rattle.dactl_verify.specs.Rooms.{room_of}
use Rattle.dactl_verify.specs.Verdicts.{IsChecked}
use Rattle.dactl_verify.proofs.Rooms.{start_fits, within}
use Rattle.dactl_verify.proofs.Journals.{begun_at, front_begun, checked_more}
use Rattle.dactl_verify.proofs.Outcomes.{start_reached}
use Rattle.dactl_verify.proofs.checking.verify.Goals as goal

says : {T E : Type 0} (r : Result T E) (X : Type 0) → X → IfErr r (λ _. X)
says (Ok v) X x = tt
says (Err e) X x = x

pub returns-in_err-graph-clause-front : goal.returns-in_err-graph-clause-front
returns-in_err-graph-clause-front c =
    let fits = within _ _ _ _ _ (c.room_of-needed.ensures ∙ ap room_of c.as_slice.ensures) refl c.exceeds.ensures c.if-exceeds.false in
    says _ _ (front_begun c.args.program.now c.args.trace.now c.args.room c.args.journal.now.items c.requires.journal (start_fits c.args.program.now c.args.room fits))

pub lines-init : goal.lines-init
lines-init c =
    let fits = within _ _ _ _ _ (c.room_of-needed.ensures ∙ ap room_of c.as_slice.ensures) refl c.exceeds.ensures c.if-exceeds.false in
    let arcs = ap (λ (x : Room). x.arcs) (c.room_of-needed.ensures ∙ ap room_of c.as_slice.ensures) in
    let none = ap (length {A = Entry}) c.requires.journal in
    record {
      checked = begun_at c.args.program.now c.args.trace.now c.args.room c.args.journal.now.items c.in_ok-graph.graph c.requires.journal c.in_ok-graph.ensures (start_fits c.args.program.now c.args.room fits);
      reached = start_reached c.args.program.now c.args.room c.in_ok-graph.graph c.room_of-needed.result.arcs c.requires.program c.in_ok-graph.ensures arcs fits;
      few = omega (arith, none, c.requires.trace);
    }

pub lines-preserved : goal.lines-preserved
lines-preserved c =
    let found = rw c.in-Leads.is at c.in_ok-verdict.ensures in
    let so = c.lines.invariant in
    let long : c.len.result ≡ length c.lines.journal.items = c.len.ensures ∙ c.lines.journal.ok.0 in
    let told = subst (λ (n : ℕ). IsLineOf (n + 1) c.in-Leads.entry c.split_line.result.0.now) long found.0 in
    let grown = c.in_ok-push-in-Leads.ensures.items in
    let more =
    checked_more c.args.program.now c.args.trace.now c.args.room c.lines.journal.items c.lines.reached.graph c.lines.rest.now c.split_line.result.0.now c.split_line.result.1.now
    c.in-Leads.entry c.in-Leads.after.graph c.requires.program so.checked c.split_line.ensures.joined told found.1 found.2.fits in
    record {
      checked = subst (λ (js : List Entry). IsChecked c.args.program.now c.args.trace.now c.args.room js c.in-Leads.after.graph c.split_line.result.1.now) (sym grown) more;
      reached = found.2;
      few = omega (arith, ap (length {A = Entry}) grown, length-append c.lines.journal.items (c.in-Leads.entry ∷ []), so.few, c.split_line.ensures.shorter);
    }
