use Rattle.dactl_steal.proofs.board.StealBoardBoard.offer.Given as goal

abbrev pub ghosts-note_put : goal.ghosts-note_put
ghosts-note_put g a = record { node = a._node }
