use Rattle.std.proofs.Common.{◌≡◌, ℕ, ◌+◌, ◌-◌, ◌<◌, ◌≤◌, length, map, sym, ap, ◌∙◌, arith}
use Rattle.std.proofs.lemmas.List.{with_items_is}
use Rattle.dactl_steal.specs.Making.{own_deque}
use Rattle.dactl_steal.specs.declared.roll.Member.{Member}
use Rattle.dactl_steal.proofs.Ends.{all_length}
use Rattle.dactl_steal.proofs.Starts.{seated_unshared, same_count, sound_start, all_fresh}
use Rattle.dactl_steal.proofs.board.StealBoard.new.Goals as goal

pub share_out-requires-clause-unshared : goal.share_out-requires-clause-unshared
share_out-requires-clause-unshared c = (c.args.room, seated_unshared _ _ _ _ c.in_ok-dealt.ensures.seated c.as_mut_slice.ensures.value)

pub returns-clause-sound : goal.returns-clause-sound
returns-clause-sound c = let places = c.in_ok-owns.ensures in
    sound_start _ c.args.hands c.deal.ensures.keeper c.in_ok-dealt.ensures.numbers
    (same_count _ _ _ _ c.in_ok-thieves.ensures c.as_slice.ensures.value ∙ (sym c.in_ok-dealt.dealt.ok.0 ∙ c.in_ok-dealt.ensures.count))
    (let f = c.ranges.hands.fits in let q : c.args.hands ≤ 255 = omega arith in q) places.owns.0 places.owns.1 places.rows.0 places.rows.1

pub returns-clause-parts : goal.returns-clause-parts
returns-clause-parts c = let l = ap (λ (m : Member). length m.numbers) c.in_ok-dealt.ensures.numbers in let n = all_length c.args.hands (256 - c.args.hands) in let f = c.ranges.hands.fits in omega arith

pub returns-clause-fresh : goal.returns-clause-fresh
returns-clause-fresh c = let dealt = c.in_ok-dealt.dealt in let seen = c.as_mut_slice.ensures.value in let seated = c.in_ok-dealt.ensures.seated in
    let count : length dealt.items ≡ c.args.hands = sym dealt.ok.0 ∙ c.in_ok-dealt.ensures.count in
    all_fresh (record { roll = c.in_ok-roll.roll; keeper = c.deal.new.keeper; thieves = c.in_ok-thieves.thieves; owns = c.in_ok-owns.owns; rows = c.in_ok-owns.rows; room = c.args.room }) dealt.items _ c.share_out.new.hands _
    (let h = c.requires.hands in omega arith) (let f = c.ranges.hands.fits in omega arith)
    (c.in_ok-thieves.ensures ∙ ap (λ hs. map own_deque hs) c.as_slice.ensures.value) seated
    (c.in_ok-share_out.ensures.shared c.args.room (seated_unshared _ _ _ _ seated seen)) seen (with_items_is dealt c.share_out.new.hands (c.share_out.ensures.long ∙ c.as_mut_slice.ensures.len))
