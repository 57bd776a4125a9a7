use Rattle.fun_compile.proofs.NameSets.{names_more}
use Rattle.fun_compile.proofs.names.set_of.Goals as goal

pub loop-name-preserved : goal.loop-name-preserved
loop-name-preserved c =
    names_more c.args.names.now c.loop-name.name-index c.name-item.result c.loop-name.set c.insert.new.self c.as_slice.result c.loop-name-test.true c.name-item.is c.as_slice.ensures c.in_ok-insert.ensures.updates c.loop-name.invariant
