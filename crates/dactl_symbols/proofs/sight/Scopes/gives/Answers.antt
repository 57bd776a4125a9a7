use Rattle.std.proofs.Common.{ap, ◌∙◌}
use Rattle.dactl_symbols.specs.Declaring.{home_of}
use Rattle.dactl_symbols.specs.Sights.{has_link}
use Rattle.dactl_symbols.specs.contracts.sight.LinkOrd.TheImpl as link_order
use Rattle.dactl_symbols.proofs.LinkSteps.{link_cmp, contains-link}
use Rattle.dactl_symbols.proofs.sight.Scopes.gives.Goals as goal

pub returns : goal.returns
returns c =
    c.contains.ensures ∙ contains-link (link_order.cmp-value).it link_cmp c.self.inside.links.keys (record { owner = c.args.owner; home = c.args.home })
    ∙ ap (λ v. has_link v.links c.args.owner (home_of c.args.home)) c.self.view_is
