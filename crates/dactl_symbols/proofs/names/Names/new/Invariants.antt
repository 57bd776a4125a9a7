use Rattle.std.proofs.Common.{◌≡◌, map, take}
use Rattle.dactl_symbols.specs.Declaring.{declaration_of}
use Rattle.dactl_symbols.specs.Meanings.{AreNames, found_in, symbol_count}
use Rattle.dactl_symbols.proofs.names.Names.new.Given as goal

abbrev pub invariant-loop-one : goal.invariant-loop-one
invariant-loop-one l = record {
  names : AreNames (map declaration_of (take l.one-index l.one-items)) (found_in l.first) l.again;
  count : l.symbols ≡ symbol_count (map declaration_of (take l.one-index l.one-items));
}
