-- When two sorts of tokens are the same.
use Rattle.std.specs.Prelude.{Bool}
use denote.Enum.Bare.{sameb}
use Rattle.dactl_terminals.specs.declared.token.Sort.{Sort}
use Rattle.dactl_terminals.specs.contracts.token.Sort.{the_type}

unfoldable pub same_sort : Sort → Sort → Bool
same_sort = sameb the_type
