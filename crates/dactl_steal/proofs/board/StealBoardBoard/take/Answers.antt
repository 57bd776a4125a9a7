use Rattle.std.proofs.Common.{None, Some}
use Rattle.dactl_steal.proofs.Others.{others_usable}
use Rattle.dactl_steal.proofs.Owns.{found_fits, none_fits, found_alone}
use Rattle.dactl_steal.proofs.board.StealBoardBoard.take.Goals as goal

pub find-requires-clause-others : goal.find-requires-clause-others
find-requires-clause-others g c = others_usable _ _ _ c.requires.others

pub returns-in_default-clause-hand : goal.returns-in_default-clause-hand
returns-in_default-clause-hand g c = let f = c.in_default.ensures.found in none_fits _ _ _ c.requires c.find.ensures.same f.0 f.1 f.2 f.3

pub returns-in_default-clause-alone : goal.returns-in_default-clause-alone
returns-in_default-clause-alone g c one = found_alone None _ _ _ c.requires c.find.ensures.same c.in_default.ensures.found.1 c.in_default.ensures.alone one

pub returns-clause-hand : goal.returns-clause-hand
returns-clause-hand g c = found_fits _ _ c.find.new.self c.note_taken.new.badge c.in-Some.node c.requires c.find.ensures.same c.note_taken.ensures.roll c.note_taken.ensures.taken c.in-Some.ensures.found

pub returns-clause-alone : goal.returns-clause-alone
returns-clause-alone g c one = found_alone (Some c.in-Some.node) _ _ _ c.requires c.find.ensures.same tt c.in-Some.ensures.alone one
