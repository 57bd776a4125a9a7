use Rattle.std.proofs.Common.{◌≡◌, ℕ, ◌+◌, ◌++◌, length, min, sym, ap, ◌∙◌, length-append, arith}
use Rattle.std.proofs.lemmas.List.{with_items_is}
use Rattle.dactl_steal.proofs.Boards.{weigh-append}
use Rattle.dactl_steal.proofs.Pops.{min_of_sum, no_hole, last_rows, last_parts, counted, none_left}
use Rattle.dactl_steal.proofs.closing.all_left.Goals as goal

pub returns-in_default-slot : goal.returns-in_default-slot
returns-in_default-slot c = let all = c.loop-slot.invariant.2 c.requires.0 c.requires.1 in absurd (no_hole c.requires.0 _ _ c.in-Some.slot _ all.0 c.in-Some.ensures.items c.in_default-slot.is)

pub count_left-requires-clause-rows : goal.count_left-requires-clause-rows
count_left-requires-clause-rows c = let all = c.loop-slot.invariant.2 c.requires.0 c.requires.1 in last_rows c.requires.0 _ _ c.in-Some.slot c.in-Some-slot.own _ _ all.0 c.in-Some.ensures.items c.in-Some-slot.is c.as_mut_slice.ensures.value

pub count_left-requires-clause-parts : goal.count_left-requires-clause-parts
count_left-requires-clause-parts c = let all = c.loop-slot.invariant.2 c.requires.0 c.requires.1 in last_parts c.requires.0 _ _ c.in-Some.slot c.in-Some-slot.own _ _ all.0 c.in-Some.ensures.items c.in-Some-slot.is c.as_mut_slice.ensures.value

pub loop-slot-preserved : goal.loop-slot-preserved
loop-slot-preserved c = let i = c.loop-slot.invariant in let told = c.count_left.ensures.left in let written = with_items_is c.loop-slot.rows c.count_left.new.rows (c.count_left.ensures.long ∙ c.as_mut_slice.ensures.len) in (
  i.0 ++ told.0,
  ap (λ (n : ℕ). min n 18446744073709551615) (length-append i.0 told.0) ∙ (sym (min_of_sum (length i.0) (length told.0) 18446744073709551615)
      ∙ (ap (λ (n : ℕ). min n 18446744073709551615) (λ j. i.1 j + told.1 j) ∙ sym c.saturating_add-left.ensures)),
  λ deques start. let all = i.2 deques start in let k = counted deques _ _ c.in-Some.slot c.in-Some-slot.own _ _ all.0 c.in-Some.ensures.items c.in-Some-slot.is c.as_mut_slice.ensures.value
      c.count_left.new.rows _ told.0 c.count_left.ensures.long written told.2 in
      (k.0, λ w. let e = all.1 w in let q = k.1 w in omega (arith, weigh-append w i.0 told.0)),
)

pub returns : goal.returns
returns c = let i = c.loop-slot.invariant in let all = i.2 c.requires.0 c.requires.1 in
    (i.0, i.1, λ w. let e = all.1 w in let z = none_left c.requires.0 c.loop-slot.owns.items c.loop-slot.rows.items w all.0 (let n = c.in_default.ensures.cases.0 in omega (arith, c.loop-slot.owns.ok.0)) in omega arith)
