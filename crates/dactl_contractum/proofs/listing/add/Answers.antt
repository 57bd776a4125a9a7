use Rattle.std.proofs.Common.{refl, ap, ◌∙◌, ◌++◌, map}
use Rattle.dactl_symbols.proofs.Joined.{all_numbered}
use Rattle.dactl_contractum.specs.Listing.{placed, numbered_in}
use Rattle.dactl_contractum.proofs.Listings.{map_numbered_more}
use Rattle.dactl_contractum.proofs.listing.add.Goals as goal

pub loop-number-preserved : goal.loop-number-preserved
loop-number-preserved c =
    map_numbered_more (numbered_in c.args.owner) placed c.args.items.now c.loop-number.number c.index-items-number.result c.args.found.now.items c.loop-number.found.items c.push.new.self.items _ c.loop-number-test.true c.index-items-number.is c.loop-number.invariant c.in_ok-push.ensures.items refl

pub returns : goal.returns
returns c = c.loop-number.invariant ∙ ap (λ l. map placed c.args.found.now.items ++ map (numbered_in c.args.owner) l) (all_numbered c.args.items.now c.loop-number.number c.loop-number-test.false)
