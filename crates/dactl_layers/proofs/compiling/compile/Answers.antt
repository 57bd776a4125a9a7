use Rattle.std.proofs.Common.{subst}
use Rattle.dactl_syntax.specs.Answer.{IsTree}
use Rattle.dactl_syntax.proofs.Spelled.{trees_are_spelled}
use Rattle.dactl_layers.proofs.compiling.compile.Goals as goal

pub returns : goal.returns
returns c =
    let tree : IsTree c.args.text.now c.in_ok-found.found.items c.in_ok-tree.tree = subst (λ x. IsTree c.args.text.now x c.in_ok-tree.tree) c.as_slice.ensures.value c.in_ok-tree.ensures.found in
    c.program.ensures.valid (trees_are_spelled c.args.text.now c.in_ok-tree.tree (record { tokens = c.in_ok-found.found.items; lexes = c.in_ok-found.ensures.found; is_tree = tree })) c.in_ok-scopes.ensures.faults
