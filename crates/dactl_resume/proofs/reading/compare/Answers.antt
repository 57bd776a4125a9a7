use Rattle.std.proofs.Common.{◌∙◌, arith}
use Rattle.dactl_resume.proofs.GraphOf.{graph_formed, graph_symbols, print_read}
use Rattle.dactl_resume.proofs.LineLists.{lines_few}
use Rattle.dactl_resume.proofs.reading.compare.Goals as goal

pub print_of-requires-clause-formed : goal.print_of-requires-clause-formed
print_of-requires-clause-formed c = graph_formed c.args.program.now _ c.args.graph c.requires.graph c.requires.some

pub print_of-requires-clause-few : goal.print_of-requires-clause-few
print_of-requires-clause-few c = omega (arith, c.requires.graph.long, lines_few c.args.text.now, c.requires.few)

pub print_of-requires-clause-symbols : goal.print_of-requires-clause-symbols
print_of-requires-clause-symbols c = graph_symbols c.args.program.now _ c.args.graph c.requires.graph

pub returns-in-None-clause-read : goal.returns-in-None-clause-read
returns-in-None-clause-read c =
    print_read c.args.program.now c.args.text.now c.in-Ok.print.items c.args.graph c.requires.valid (omega (arith, c.requires.few)) c.requires.some c.requires.graph c.in-Ok.ensures (c.in-None.ensures ∙ c.as_slice.ensures.value)
