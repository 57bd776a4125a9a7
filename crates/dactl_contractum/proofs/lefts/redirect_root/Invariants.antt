use Rattle.std.proofs.Common.{◌≡◌, false, take}
use Rattle.std.specs.List.{list_any}
use Rattle.dactl_meaning.specs.Expansion.{is_among}
use Rattle.dactl_contractum.specs.Lefts.{words}
use Rattle.dactl_contractum.proofs.lefts.redirect_root.Given as goal

abbrev pub invariant-loop-left : goal.invariant-loop-left
invariant-loop-left l = list_any (λ n. is_among l.roots n.text) (words (take l.left-index l.lefts)) ≡ false
