use Rattle.std.proofs.Common.{◌≡◌, ℕ, ◌+◌, ◌++◌, length, min, sym, ap, ◌∙◌, length-append, arith}
use Rattle.crossbeam_deque.specs.Handles.{worker_view}
use Rattle.dactl_queue.specs.Accounts.{weigh}
use Rattle.dactl_queue.proofs.Accounts.{moment_whole}
use Rattle.dactl_steal.proofs.Boards.{weigh-append}
use Rattle.dactl_steal.proofs.Deques.{knows}
use Rattle.dactl_steal.proofs.closing.count_left.Goals as goal

pub returns-clause-left : goal.returns-clause-left
returns-clause-left c = let r = c.requires.rows in let g = c.gather.ensures.gathered r.0 r.1 r.2 r.3 r.4 in let held = c.len_as-nodes.ensures.rule in let kept = c.args.own.reserve.items in
    let v = worker_view c.gather.new.deque in let whole : v.parts ≡ 256 = (let a = g.1 in let b = c.requires.parts in omega arith) in (
      held.0 ++ kept,
      ap (λ (n : ℕ). min n 18446744073709551615) (length-append held.0 kept ∙ (λ i. held.1 i + (sym c.args.own.reserve.ok.0 ∙ sym c.len.ensures) i)) ∙ sym c.saturating_add.ensures,
      λ deques count less fits at. let h = c.gather.ensures.gathered deques count less fits at in (
        h.0,
        λ w. let b = moment_whole v held.0 held.2 whole w in let p = ap (weigh w) c.gather.ensures.put in let s = h.2 w in omega (arith, weigh-append w held.0 kept),
      ),
    )
