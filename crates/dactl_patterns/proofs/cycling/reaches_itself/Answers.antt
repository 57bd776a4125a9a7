use Rattle.std.proofs.Common.{◌∙◌, arith}
use Rattle.dactl_patterns.proofs.Gaining.{found_in, in_found}
use Rattle.dactl_patterns.proofs.Reaching.{walk_begins, walk_goes_on, walk_ends}
use Rattle.dactl_patterns.proofs.cycling.reaches_itself.Goals as goal

pub walk-init : goal.walk-init
walk-init c = walk_begins c.args.web.now.text.now c.args.pattern c.new-reached.result.keys c.gain.new.reached.keys c.new-reached.ensures.empty
    (rw (← (c.as_slice.ensures.value ∙ c.in_ok-first.ensures)) c.in_ok-gain.ensures)

pub walk-preserved : goal.walk-preserved
walk-preserved c = walk_goes_on c.args.web.now.text.now c.args.pattern c.walk.reached.keys c.gain-in-walk.new.reached.keys c.walk.at c.index.result.now c.walk.invariant c.index.ensures
    (rw (← (c.as_slice-in-walk.ensures.value ∙ c.in_ok-names.ensures)) c.in_ok-gain-2.ensures)

pub returns : goal.returns
returns c =
    let ends = walk_ends c.args.web.now.text.now c.args.pattern c.walk.reached.keys c.walk.at c.walk.invariant (omega (arith, c.len.ensures.len)) in
    let has = found_in c.args.pattern c.walk.reached.keys c.contains.result c.contains.ensures in
    (λ found. ends.0 (has found), λ way. in_found c.args.pattern c.walk.reached.keys c.contains.result c.contains.ensures (ends.1 way))
