use Rattle.std.proofs.Common.{◌≡◌, ◌++◌, map, take}
use Rattle.std.specs.List.{concat}
use Rattle.dactl_syntax.specs.Canonical.{arg_text}
use Rattle.dactl_syntax.proofs.write_terms.+write_terms.Given as goal

abbrev pub invariant-arg_list-loop-item : goal.invariant-arg_list-loop-item
invariant-arg_list-loop-item l = l.out.items ≡ l.initial.out.items ++ concat (map arg_text (take l.item-index l.args))
