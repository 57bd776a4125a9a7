use Rattle.std.proofs.Common.{◌≡◌, Bool, true, false, not, Option, Some, None, is_some, refl, ap, ◌∙◌}
use Rattle.std.specs.Prelude.{◌++◌, ◌&&◌, nat_lt, is_none}
use Rattle.dactl_base.specs.declared.refusal.Kind.TheVariants as kinds
use Rattle.fun_syntax.specs.declared.roles.Role.{Role}
use Rattle.fun_syntax.specs.Faults.{most_arguments}
use Rattle.fun_syntax.specs.Least.{least, when}
use Rattle.fun_syntax.specs.Roles.{is_called, has_other_count}
use Rattle.fun_syntax.proofs.Sooner.{both}
use Rattle.fun_syntax.proofs.faults.name_fault.Goals as goal

unknown_is : (o : Option Role) (b : Bool) → is_some o ≡ not b → b ≡ is_none o
unknown_is None true e = refl
unknown_is None false e = absurd (cc e)
unknown_is (Some r) true e = absurd (cc e)
unknown_is (Some r) false e = refl

pub returns : goal.returns
returns c =
    let name = c.args.name.now in
    let unknown = when (is_none c.args.role) kinds.UnknownName name in
    let called = when (c.args.in_pattern && is_called c.args.role) kinds.NotAConstructor name in
    let other = when (has_other_count c.args.role c.args.count) kinds.WrongArity name in
    let wide = when (nat_lt most_arguments c.args.count) kinds.TooWide name in
    c.lesser-3.ensures ∙ both unknown (called ++ (other ++ wide)) c.when-unknown.result c.lesser-2.result (c.when-unknown.ensures ∙ ap (λ b. least (when b kinds.UnknownName name)) (unknown_is c.args.role c.is_none.result c.is_none.ensures))
    (c.lesser-2.ensures ∙ both called (other ++ wide) c.when-called.result c.lesser.result (c.when-called.ensures ∙ ap (λ b. least (when b kinds.NotAConstructor name)) c.is_misplaced.ensures)
    (c.lesser.ensures ∙ both other wide c.when-other.result c.when-wide.result (c.when-other.ensures ∙ ap (λ b. least (when b kinds.WrongArity name)) c.has_other_count.ensures) c.when-wide.ensures))
