use Rattle.std.proofs.Common.{ap, sym, ◌∙◌, subst, [], ◌∷◌}
use Rattle.std.specs.Result.{IfOk}
use Rattle.dactl_meaning.specs.Meaning.{item_initial}
use Rattle.dactl_symbols.specs.Scoping.{seen_in}
use Rattle.dactl_contractum.specs.Initials.{AreMeant}
use Rattle.dactl_contractum.proofs.FirstGraphs.{meant_none, no_initial}
use Rattle.dactl_contractum.proofs.initials.read_item.Goals as goal

pub returns-in-Initial : goal.returns-in-Initial
returns-in-Initial c =
    subst (λ l. IfOk c.read_terms.result (AreMeant (seen_in c.args.scopes.now) l))
    (sym (ap (item_initial c.args.item.owner) c.in-Initial.is ∙ ap (λ ts. record { owner = c.args.item.owner; terms = ts } ∷ []) (sym c.as_slice.ensures)))
    c.read_terms.ensures

pub returns-in_default : goal.returns-in_default
returns-in_default c = rw (no_initial c.args.item.owner c.args.item.item.now c.in_default.not-Initial) (meant_none (seen_in c.args.scopes.now))
