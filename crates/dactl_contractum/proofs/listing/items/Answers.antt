use Rattle.std.proofs.Common.{ap, ◌∙◌, ◌++◌, map}
use Rattle.std.specs.List.{enumerate_from, flat_map}
use Rattle.dactl_symbols.proofs.Joined.{all_numbered}
use Rattle.dactl_meaning.specs.Declarations.{items_of}
use Rattle.dactl_contractum.specs.Listing.{placed, placed_in}
use Rattle.dactl_contractum.proofs.Listings.{flat_numbered_more}
use Rattle.dactl_contractum.proofs.listing.items.Goals as goal

pub loop-owner-preserved : goal.loop-owner-preserved
loop-owner-preserved c =
    flat_numbered_more items_of placed c.as_slice-tree-items.result.now c.loop-owner.owner c.tree-item.result c.loop-owner.found.items c.add.new.found.items c.loop-owner-test.true c.tree-item.is c.loop-owner.invariant
    (c.in_ok-add.ensures ∙ ap (λ l. map placed c.loop-owner.found.items ++ placed_in c.loop-owner.owner l) c.as_slice.ensures)

pub returns : goal.returns
returns c =
    c.loop-owner.invariant ∙ ap (flat_map items_of) (all_numbered c.as_slice-tree-items.result.now c.loop-owner.owner c.loop-owner-test.false)
    ∙ ap (λ l. flat_map items_of (enumerate_from 0 l)) c.as_slice-tree-items.ensures
