use Rattle.std.proofs.Common.{◌≡◌, ◌+◌, ◌<◌, length, length-append, ap, arith}
use Rattle.dactl_steal.specs.Boards.{put_of, puts_of}
use Rattle.dactl_steal.proofs.tests.a_hand_steals_what_another_put.Goals as goal

pub close-requires-clause-few : goal.close-requires-clause-few
close-requires-clause-few g c =
    let start = ap length c.in_ok-board.ensures.none.0 in
    let first = ap length c.next_hand-first.ensures.hand.1 in
    let one = c.offers.ensures.put in
    let two = c.offers-2.ensures.put in
    let first_took = ap length c.takes-2.ensures.put in
    let first_waits = ap length c.takes-3.ensures.put in
    let second = ap length c.next_hand-second.ensures.hand.1 in
    let second_took = ap length c.takes.ensures.put in
    let second_waits = ap length c.takes-4.ensures.put in
    let back = ap length c.rejoin.ensures.puts in
    let all = ap length c.rejoin-2.ensures.puts in
    let a = length-append (puts_of c.in_ok-board.board) (put_of c.takes-3.new.hand) in
    let b = length-append (puts_of c.rejoin.new.self) (put_of c.takes-4.new.hand) in
    omega arith
