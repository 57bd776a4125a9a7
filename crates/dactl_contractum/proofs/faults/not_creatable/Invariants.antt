use Rattle.std.proofs.Common.{◌≡◌, ◌++◌, map, take}
use Rattle.std.specs.List.{flat_map}
use Rattle.dactl_symbols.specs.Scoping.{seen_in}
use Rattle.dactl_contractum.specs.Drawing.{sketch_of}
use Rattle.dactl_contractum.specs.Told as told
use Rattle.dactl_contractum.proofs.faults.not_creatable.Given as goal

abbrev pub invariant-loop-sketch : goal.invariant-loop-sketch
invariant-loop-sketch l = record {
  faults : l.faults.items ≡ l.initial.faults.items ++ flat_map (told.creatable_at (seen_in l.viewer.scopes.now l.viewer.owner)) (map sketch_of (take l.sketch-index l.made));
  symbols : l.symbols.items ≡ map (told.symbol_at (seen_in l.viewer.scopes.now l.viewer.owner)) (map sketch_of (take l.sketch-index l.made));
}
