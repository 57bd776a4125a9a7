use Rattle.std.proofs.Common.{map, subst}
use Rattle.std.specs.List.{flat_map}
use Rattle.std.proofs.lemmas.List.{take_all}
use Rattle.dactl_symbols.specs.Scoping.{seen_in}
use Rattle.dactl_contractum.specs.Initials.{initials_in, AreMeant}
use Rattle.dactl_contractum.specs.Listing.{placed}
use Rattle.dactl_contractum.proofs.FirstGraphs.{meant_more}
use Rattle.dactl_contractum.proofs.initials.read_initials.Goals as goal

pub loop-item-preserved : goal.loop-item-preserved
loop-item-preserved c =
    rw (c.lesser-least.ensures, c.or-kept.ensures) (meant_more (seen_in c.args.scopes.now) placed c.args.items.now c.loop-item.item-index c.item-item.result (record { fault = c.loop-item.least; start = c.loop-item.kept }) c.in_ok-fault.field-0 c.loop-item-test.true c.item-item.is c.loop-item.invariant c.in_ok-fault.ensures)

pub returns : goal.returns
returns c = subst (λ l. AreMeant (seen_in c.args.scopes.now) (flat_map initials_in (map placed l)) (record { fault = c.loop-item.least; start = c.loop-item.kept })) (take_all c.loop-item.item-index c.args.items.now c.loop-item-test.false) c.loop-item.invariant
