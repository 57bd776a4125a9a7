use Rattle.fun_syntax.specs.Faults.{twice_faults, with_pieces}
use Rattle.fun_syntax.specs.Least.{least}
use Rattle.fun_syntax.specs.Words.{found_in}
use Rattle.fun_syntax.proofs.Declared.{tail, cells, twice_step, twice_bound}
use Rattle.fun_syntax.proofs.variables.twice_fault.Goals as goal

pub more-preserved : goal.more-preserved
more-preserved c =
    let bound = found_in c.more.bound in
    let next = found_in c.bind.new.bound in
    let rest = c.more.rest.now in
    let p = c.piece-item.result in
    let parts = cells rest p c.in-len1-up.len_at_least c.piece-item.is in
    record {
      fault = twice_step bound next p rest (tail rest) parts c.in_ok-fault.ensures.bound c.more.told c.in_ok-fault.fault c.lesser-told.result (least (twice_faults (found_in c.args.bound.now) c.args.pieces.now))
          c.in_ok-fault.ensures.fault c.lesser-told.ensures c.more.invariant.fault;
      bound = twice_bound bound next p rest (tail rest) parts c.in_ok-fault.ensures.bound (with_pieces (found_in c.args.bound.now) c.args.pieces.now) c.more.invariant.bound;
    }
