use Rattle.std.proofs.Common.{List, subst}
use Rattle.std.proofs.lemmas.List.{take_all}
use Rattle.dactl_symbols.specs.Least.{TellsLeast}
use Rattle.dactl_patterns.specs.declared.declarations.Declared.{Declared}
use Rattle.dactl_patterns.specs.Cycles.{SomeCycle}
use Rattle.dactl_patterns.proofs.CycleFaults.{one_more}
use Rattle.dactl_patterns.proofs.cycling.first_cycle.Goals as goal

pub loop-declared-preserved : goal.loop-declared-preserved
loop-declared-preserved c =
    let l = c.loop-declared in
    rw c.lesser-first.ensures (one_more c.args.web.now.text.now c.args.patterns.now l.declared-index _ l.first c.in_ok-here.here c.loop-declared-test.true l.invariant c.in_ok-here.ensures)

pub returns : goal.returns
returns c =
    let l = c.loop-declared in
    subst (λ (ps : List Declared). TellsLeast (SomeCycle c.args.web.now.text.now ps) l.first) (take_all l.declared-index c.args.patterns.now c.loop-declared-test.false) l.invariant
