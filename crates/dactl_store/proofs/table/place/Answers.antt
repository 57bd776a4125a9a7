use Rattle.std.proofs.Common.{◌≡◌, Bool, true, false, refl, sym, ◌∙◌}
use Rattle.std.proofs.Math.Bool.{beq}
use Rattle.dactl_store.proofs.Rings.{ring_with-same}
use Rattle.dactl_store.proofs.table.place.Goals as goal

same_bool : (a b : Bool) → beq a b ≡ true → a ≡ b
same_bool true true is = refl
same_bool true false is = sym is
same_bool false true is = is
same_bool false false is = refl

pub returns-then-is_active-clause-numbers : goal.returns-then-is_active-clause-numbers
returns-then-is_active-clause-numbers c =
    let activity = sym c.is_active.ensures ∙ same_bool c.is_active.result c.is_active-2.result c.if-is_active.true ∙ c.is_active-2.ensures in
    sym (ring_with-same c.args.after c.args.ring.now.numbers c.args.node (c.requires.before ∙ sym activity))
