use Rattle.std.proofs.Common.{◌≡◌, ℕ, ◌+◌, ◌-◌, ◌<◌, List, [], ◌∷◌, ◌++◌, All, length, length-append, ap, sym, ◌∙◌, subst, arith}
use Rattle.std.proofs.lemmas.List.Elements.{All-push}
use Rattle.dactl_model.specs.declared.reading.Reading.{Reading}
use Rattle.dactl_model.specs.Readings.{targets_of}
use Rattle.dactl_shared.specs.Stores.{seen_of, program_of, MayRead, WasShown}
use Rattle.dactl_shared.proofs.Later.{shown_later}
use Rattle.dactl_probe.specs.Probing.{Probing}
use Rattle.dactl_workers.specs.Turns.{IsReadSince, MayReadTargets}
use Rattle.dactl_workers.proofs.Fronts.{starts_trans}
use Rattle.dactl_workers.proofs.Known.{known_all}
use Rattle.dactl_workers.proofs.Looks.{looked, looked_on, below_on, targets_on, since_on, need_there, read_since}
use Rattle.dactl_workers.proofs.probing.gather.Goals as goal

pub read_node-reading-requires-clause-node : goal.read_node-reading-requires-clause-node
read_node-reading-requires-clause-node g c = let i = c.loop-node.invariant in let s = c.args.store.now in let seat = c.loop-node.seat in
    need_there s seat c.loop-node.probe c.in-Need.node (c.need.ensures.probing.need c.in-Need.node (sym c.need.ensures.next ∙ c.in-Need.is))
    (subst (MayRead s seat) (sym i.node) (i.looked.nodes c.args.probe.node c.requires.node)) i.targets

pub loop-node-smaller : goal.loop-node-smaller
loop-node-smaller g c = let old = c.loop-node.probe in let new = c.step.new.self in let rs : List Reading = old.readings ++ c.read_node-reading.result ∷ [] in
    let next = c.need.ensures.probing.need c.in-Need.node (sym c.need.ensures.next ∙ c.in-Need.is) in let within = next.within in
    let longer : length new.readings ≡ length rs = ap (λ (p : Probing). length p.readings) c.step.ensures.taken in let more = length-append old.readings (c.read_node-reading.result ∷ []) in
    let widest : new.decisions.widest ≡ old.decisions.widest = ap (λ (p : Probing). p.decisions.widest) c.step.ensures.taken in omega arith

pub loop-node-preserved : goal.loop-node-preserved
loop-node-preserved g c = let i = c.loop-node.invariant in let s = c.args.store.now in let p = program_of s in let first = c.args.seat.now in let mid = c.loop-node.seat in let new = c.read_node-reading.new.seat in let r = c.read_node-reading.result in let e = c.read_node-reading.ensures in
    let turn = looked s mid new _ e.read e.own.0 e.own.1 e.mine in let taken = c.step.ensures.taken in let rs = c.loop-node.probe.readings in
    let readings : c.step.new.self.readings ≡ rs ++ r ∷ [] = ap (λ (z : Probing). z.readings) taken in record {
      looked = looked_on s first mid new i.looked turn;
      counts = (e.counts.0 ∙ i.counts.0, e.counts.1 ∙ i.counts.1);
      known = known_all s new c.loop-node.known (targets_of r.targets) c.known_with_targets.result (below_on s mid new c.loop-node.known turn i.known) e.known c.known_with_targets.ensures;
      decisions = ap (λ (z : Probing). z.decisions) taken ∙ i.decisions;
      node = ap (λ (z : Probing). z.node) taken ∙ i.node;
      room = ap (λ (z : Probing). z.room) taken ∙ i.room;
      shown = subst (All (WasShown s new)) (sym readings) (All-push (WasShown s new) rs r (shown_later s mid new rs turn.later i.shown) e.shown);
      since = subst (All (IsReadSince p (seen_of first) (seen_of new))) (sym readings) (All-push (IsReadSince p (seen_of first) (seen_of new)) rs r (since_on p (seen_of first) (seen_of mid) (seen_of new) rs turn.later i.since)
          (read_since s (seen_of first) mid new c.in-Need.node r (starts_trans (seen_of new) (seen_of mid) (seen_of first) turn.later i.looked.later) e.read));
      targets = subst (All (MayReadTargets s new)) (sym readings) (All-push (MayReadTargets s new) rs r (targets_on s mid new rs turn i.targets) e.known);
      passed = subst (λ (n : ℕ). All (λ (z : Reading). g.G.Gate.passed_after_read c.args.gate.now n) c.step.new.self.readings) (sym e.own.1)
          (subst (All (λ (z : Reading). g.G.Gate.passed_after_read c.args.gate.now mid.number)) (sym readings) (All-push (λ (z : Reading). g.G.Gate.passed_after_read c.args.gate.now mid.number) rs r i.passed (subst (g.G.Gate.passed_after_read c.args.gate.now) e.own.1 e.passed)));
    }

pub returns-clause-passed : goal.returns-clause-passed
returns-clause-passed g c = subst (All (λ (z : Reading). g.G.Gate.passed_after_read c.args.gate.now c.loop-node.seat.number)) (sym c.attempt.ensures.readings) c.loop-node.invariant.passed
