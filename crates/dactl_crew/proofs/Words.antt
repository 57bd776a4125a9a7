-- What a trait of boards says, put together.
use Rattle.dactl_queue.specs.declared.board.Board as Board
use Rattle.dactl_crew.specs.declared.board.CrewBoard as CrewBoard
use Rattle.dactl_crew.specs.Boards.{Words}

-- the words of a board and those of a crew's board
abbrev pub words_of : {B H : Type 0} → Board.Ghosts B H → CrewBoard.Ghosts B H → Words B H
words_of hands boards =
    record {
      fits = hands.fits;
      put = hands.put;
      taken = hands.taken;
      back = hands.back;
      is_sound = boards.is_sound;
      parts = boards.parts;
      share = boards.share;
      puts = boards.puts;
      takes = boards.takes;
    }
