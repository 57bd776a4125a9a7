use Rattle.std.proofs.Common.{◌∙◌, List, Contains, ap, refl, subst, sym}
use Rattle.std.specs.List.{flat_map}
use Rattle.dactl_meaning.specs.Declarations.{Placed}
use Rattle.dactl_meaning.specs.Meaning.{named_faults}
use Rattle.dactl_symbols.specs.Least.{sooner, TellsLeast}
use Rattle.dactl_symbols.specs.Scoping.{seen_in}
use Rattle.dactl_contractum.specs.Initials.{initials_in, AreRead}
use Rattle.dactl_rules.specs.RuleLists.{groups_in, HasRules}
use Rattle.dactl_contractum.proofs.Least.{both_none}
use Rattle.dactl_rules.proofs.WholePrograms.{draft_is}
use Rattle.dactl_rules.proofs.compiling.draft.Goals as goal

pub returns-clause-rules : goal.returns-clause-rules
returns-clause-rules c =
    let text = c.args.patterns.now.text.now in
    let s = c.args.patterns.now.scopes.now in
    draft_is text s c.requires.patterns.scopes c.in_ok-named.named c.in_ok-fault.field-0.fault c.in_ok-compiled.compiled _
    (subst (λ (l : List Placed). TellsLeast (Contains (flat_map (named_faults text) l)) c.in_ok-named.named) c.requires.items c.in_ok-named.ensures)
    (subst (λ (l : List Placed). HasRules text (flat_map groups_in l) c.in_ok-compiled.compiled) c.requires.items c.in_ok-compiled.ensures)
    (subst (λ (l : List Placed). AreRead (seen_in s) (flat_map initials_in l) c.in_ok-fault.field-0.fault) c.requires.items c.in_ok-fault.ensures.read)
    (c.lesser-compiled.ensures ∙ ap (λ o. sooner o c.in_ok-fault.field-0.fault) c.lesser.ensures) refl refl

pub returns-clause-start : goal.returns-clause-start
returns-clause-start c = λ e.
    let told = c.lesser-compiled.ensures ∙ ap (λ o. sooner o c.in_ok-fault.field-0.fault) c.lesser.ensures in
    c.in_ok-fault.ensures.start (both_none (sooner c.in_ok-named.named c.in_ok-compiled.compiled.fault) c.in_ok-fault.field-0.fault (sym told ∙ e)).1
