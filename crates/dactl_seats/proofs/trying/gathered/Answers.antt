use Rattle.std.proofs.Common.{◌≡◌, List, [], ◌∷◌, ◌++◌, All, length, length-append, ap, sym, ◌∙◌, subst, arith}
use Rattle.std.proofs.lemmas.List.Elements.{All-push}
use Rattle.dactl_model.specs.declared.reading.Reading.{Reading}
use Rattle.dactl_shared.specs.Stores.{MayRead, WasShown}
use Rattle.dactl_shared.proofs.Later.{shown_later}
use Rattle.dactl_probe.specs.Probing.{Probing}
use Rattle.dactl_workers.specs.Turns.{MayReadTargets}
use Rattle.dactl_workers.proofs.Looks.{looked, targets_on, need_there}
use Rattle.dactl_seats.proofs.trying.gathered.Goals as goal

pub read-reading-requires-clause-node : goal.read-reading-requires-clause-node
read-reading-requires-clause-node g c = let i = c.loop-node.invariant in
    need_there c.args.store.now c.loop-node.seat c.loop-node.probe c.in-Need.node (c.need.ensures.probing.need c.in-Need.node (sym c.need.ensures.next ∙ c.in-Need.is)) i.node i.targets

pub loop-node-smaller : goal.loop-node-smaller
loop-node-smaller g c = let old = c.loop-node.probe in let new = c.step.new.self in let rs : List Reading = old.readings ++ c.read-reading.result ∷ [] in
    let next = c.need.ensures.probing.need c.in-Need.node (sym c.need.ensures.next ∙ c.in-Need.is) in let within = next.within in
    let longer : length new.readings ≡ length rs = ap (λ (p : Probing). length p.readings) c.step.ensures.taken in let more = length-append old.readings (c.read-reading.result ∷ []) in
    let widest : new.decisions.widest ≡ old.decisions.widest = ap (λ (p : Probing). p.decisions.widest) c.step.ensures.taken in omega arith

pub loop-node-preserved : goal.loop-node-preserved
loop-node-preserved g c = let i = c.loop-node.invariant in let s = c.args.store.now in let mid = c.loop-node.seat in let new = c.read-reading.new.seat in let r = c.read-reading.result in let e = c.read-reading.ensures in
    let turn = looked s mid new _ e.read e.own.0 e.own.1 e.mine in let taken = c.step.ensures.taken in let rs = c.loop-node.probe.readings in
    let readings : c.step.new.self.readings ≡ rs ++ r ∷ [] = ap (λ (z : Probing). z.readings) taken in record {
      own = e.own.0;
      decisions = ap (λ (z : Probing). z.decisions) taken ∙ i.decisions;
      node = subst (MayRead s new) (sym (ap (λ (z : Probing). z.node) taken)) (turn.nodes c.loop-node.probe.node i.node);
      shown = subst (All (WasShown s new)) (sym readings) (All-push (WasShown s new) rs r (shown_later s mid new rs turn.later i.shown) e.shown);
      targets = subst (All (MayReadTargets s new)) (sym readings) (All-push (MayReadTargets s new) rs r (targets_on s mid new rs turn i.targets) e.known);
    }
