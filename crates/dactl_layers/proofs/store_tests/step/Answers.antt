use Rattle.std.proofs.Common.{◌≡◌, ℕ, ◌+◌, ◌≤◌, All, sym, subst, arith}
use Rattle.std.proofs.lemmas.List.Elements.{All-weaker}
use Rattle.dactl_store.proofs.Latest.{latest_next}
use Rattle.dactl_store.specs.Held.{Held}
use Rattle.dactl_store.specs.Redirecting.{IsLatest}
use Rattle.dactl_model.specs.declared.graph.Event.TheVariants.{Fire, Note}
use Rattle.dactl_model.specs.Firing.{IsFired}
use Rattle.dactl_model.proofs.KeptFire.{keeps_well_formed}
use Rattle.dactl_model.proofs.OneMatch.{has_one_step}
use Rattle.dactl_layers.proofs.store_tests.step.Goals as goal

-- where nothing is redirected, the next version is greater still
latest_more : (version : ℕ) (old new : Held) → IsLatest version old → new.versions ≡ old.versions → new.newest ≡ old.newest → IsLatest (version + 1) new
latest_more version old new latest versions newest = record {
  newer = let newer = latest.newer in omega arith;
  most = subst (All (λ v. v ≤ version + 1)) (sym versions) (All-weaker (λ v. v ≤ version) (λ v. v ≤ version + 1) (λ v below. omega arith) old.versions latest.most);
}

pub returns-in-Ok-clause-formed : goal.returns-in-Ok-clause-formed
returns-in-Ok-clause-formed c =
    let chosen = (rw c.in-Fire.is at c.in_ok-choose.ensures.fire) in
    keeps_well_formed c.args.program.now c.args.graph.now c.in_ok-after-in-Fire.after (Fire c.args.node c.in-Fire.rule) c.requires.program c.requires.formed (chosen.0, c.in_ok-after-in-Fire.ensures)

pub returns-in-Ok-clause-same : goal.returns-in-Ok-clause-same
returns-in-Ok-clause-same c =
    let chosen = (rw c.in-Fire.is at c.in_ok-choose.ensures.fire) in
    let fired : IsFired c.args.program.now c.args.graph.now c.args.node c.in-Fire.rule c.fire-in-Fire.new.store.graph = subst (λ g. IsFired c.args.program.now g c.args.node c.in-Fire.rule c.fire-in-Fire.new.store.graph) c.requires.same c.in-Ok.ensures.ok.graph in
    has_one_step c.args.program.now c.args.graph.now c.fire-in-Fire.new.store.graph c.in_ok-after-in-Fire.after (Fire c.args.node c.in-Fire.rule) c.requires.program c.requires.formed (chosen.0, fired) (chosen.0, c.in_ok-after-in-Fire.ensures)

pub returns-clause-formed : goal.returns-clause-formed
returns-clause-formed c =
    let quiet = (rw c.in-Note.is at c.in_ok-choose.ensures.fire) in
    keeps_well_formed c.args.program.now c.args.graph.now c.in_ok-after-in-Note.after (Note c.args.node) c.requires.program c.requires.formed (quiet, c.in_ok-after-in-Note.ensures)

pub returns-in-Ok-clause-latest : goal.returns-in-Ok-clause-latest
returns-in-Ok-clause-latest c = let fired = c.in-Ok.ensures.ok in latest_next c.args.entry _ _ fired.versions c.requires.latest fired.newest

pub returns-clause-latest : goal.returns-clause-latest
returns-clause-latest c = latest_more c.args.entry _ _ c.requires.latest c.note-in-Note.ensures.versions c.note-in-Note.ensures.newest
