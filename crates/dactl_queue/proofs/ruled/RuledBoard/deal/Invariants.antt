use Rattle.std.proofs.Common.{◌≡◌, ◌+◌, [], All, vec_len}
use Rattle.crossbeam_queue.specs.Passes.{view, IsPassOf}
use Rattle.dactl_queue.specs.Boards.{IsOneOf}
use Rattle.dactl_queue.proofs.ruled.RuledBoard.deal.Given as goal

abbrev pub invariant-loop : goal.invariant-loop
invariant-loop l = record {
  of : IsPassOf l.queue l.maker;
  parts : (view l.maker).parts + l.counter ≡ 256;
  put : (view l.maker).put ≡ [];
  taken : (view l.maker).taken ≡ [];
  count : vec_len l.dealt ≡ l.counter;
  each : All (IsOneOf l.queue) l.dealt.items;
}
