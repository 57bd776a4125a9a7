use Rattle.std.proofs.Common.{◌++◌, [], take}
use Rattle.dactl_print.proofs.Pieces.{prints_gathered, prints_then, prints_no_more, all_sent}
use Rattle.dactl_print.proofs.page.Page.gather.Goals as goal

pub loop-rest-preserved : goal.loop-rest-preserved
loop-rest-preserved g c =
    let before = c.loop-rest.invariant in
    let count = c.take_front-count.result in
    let rest = c.loop-rest.rest.now in
    record {
      sent = (before.sent ++ take count rest) ++ [];
      split = all_sent _ before.sent rest count before.split;
      prints = prints_then (prints_gathered (take count rest) before.prints c.take_front-count.ensures.taken) c.in_ok-hand_on_full.ensures.prints;
    }

pub returns-in_err-hand_on_full : goal.returns-in_err-hand_on_full
returns-in_err-hand_on_full g c =
    let before = c.loop-rest.invariant in
    let count = c.take_front-count.result in
    let rest = c.loop-rest.rest.now in
    let failed = prints_then (prints_gathered (take count rest) before.prints c.take_front-count.ensures.taken) c.in_err-hand_on_full.ensures.prints in
    rw (all_sent _ before.sent rest count before.split) (prints_no_more _ failed c.from_residual.ensures.0)
