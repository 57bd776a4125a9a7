use Rattle.dactl_steal.proofs.board.StealBoardBoard.take.Given as goal

abbrev pub ghosts-note_taken : goal.ghosts-note_taken
ghosts-note_taken g a = record { node = a._node }
