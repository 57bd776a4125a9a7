use Rattle.std.proofs.Common.{ap, sym, ◌∙◌, map}
use Rattle.std.specs.List.{filter_map}
use Rattle.dactl_symbols.specs.Sights.{owned_of, owned_in}
use Rattle.dactl_symbols.proofs.Looking.{class-none, class-own, class-other}
use Rattle.dactl_symbols.proofs.sight.Scopes.class_for.Goals as goal

pub returns-in_err-owned : goal.returns-in_err-owned
returns-in_err-owned c =
    c.from_residual.ensures
    ∙ class-none c.args.self.now c.args.module c.args.symbol c.as_slice.result.now (ap (map owned_of) c.as_slice.ensures.value ∙ c.self.invariant ∙ ap (λ v. filter_map owned_in v.names) c.self.view_is) c.in_err-owned.ensures

pub returns-then-same : goal.returns-then-same
returns-then-same c =
    class-own c.args.self.now c.args.module c.args.symbol c.as_slice.result.now c.in_ok-owned.owned.now (ap (map owned_of) c.as_slice.ensures.value ∙ c.self.invariant ∙ ap (λ v. filter_map owned_in v.names) c.self.view_is) c.in_ok-owned.ensures (sym c.same.ensures ∙ c.if-same.true)

pub returns : goal.returns
returns c =
    c.class_seen.ensures
    ∙ class-other c.args.self.now c.args.module c.args.symbol c.as_slice.result.now c.in_ok-owned.owned.now (ap (map owned_of) c.as_slice.ensures.value ∙ c.self.invariant ∙ ap (λ v. filter_map owned_in v.names) c.self.view_is) c.in_ok-owned.ensures (sym c.same.ensures ∙ c.if-same.false) c.gives-imported.result c.gives-imported.ensures
