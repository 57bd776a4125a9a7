use Rattle.std.proofs.Common.{◌≡◌, take}
use Rattle.std.specs.List.{enumerate_from}
use Rattle.dactl_symbols.specs.Finds.{finds_of, joined, joined_all, item_finds}
use Rattle.dactl_symbols.proofs.survey.Survey.add_items.Given as goal

abbrev pub invariant-loop-number : goal.invariant-loop-number
invariant-loop-number l = finds_of l.self ≡ joined (finds_of l.initial.self) (joined_all (item_finds l.owner) (take l.number (enumerate_from 0 l.items)))
