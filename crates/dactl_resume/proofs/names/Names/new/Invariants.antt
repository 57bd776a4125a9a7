use Rattle.std.proofs.Common.{map, take}
use Rattle.dactl_resume.specs.Found.{found_in, ArePlaces}
use Rattle.dactl_resume.proofs.names.Names.new.Given as goal

-- the names so far have their places
abbrev pub invariant-loop-number : goal.invariant-loop-number
invariant-loop-number l = ArePlaces (map (λ s. s.name) (take l.number l.symbols)) (found_in l.places)
