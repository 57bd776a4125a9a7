use Rattle.std.proofs.Common.{◌≡◌, ◌-◌, [], length, vec_len}
use Rattle.crossbeam_queue.specs.Passes.{view, IsPassOf}
use Rattle.dactl_steal.specs.Making.{AreSeated}
use Rattle.dactl_steal.specs.Members.{member, numbers_from}
use Rattle.dactl_steal.proofs.making.deal.Given as goal

abbrev pub invariant-loop-number : goal.invariant-loop-number
invariant-loop-number l = record {
  keeper : IsPassOf l.roll l.keeper;
  numbers : view l.keeper ≡ member (numbers_from l.number (256 - l.number)) [] [];
  count : vec_len l.made ≡ l.number;
  seated : AreSeated l.roll l.room l.made.items;
}
