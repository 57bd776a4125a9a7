use Rattle.std.proofs.Common.{◌≤◌, ◌⊎◌, ap, sym, ◌∙◌, subst, length, List, Contains, false}
use Rattle.std.proofs.lemmas.Result.{IfOk-weaker, err_from_is_err_and}
use Rattle.std.specs.Borrow.{Bor}
use Rattle.dactl_base.specs.declared.refusal.Refusal.{Refusal}
use Rattle.dactl_meaning.specs.declared.tree.Name.{Name}
use Rattle.dactl_meaning.specs.Contractum.{Sketch}
use Rattle.dactl_meaning.specs.Expansion.{pattern_expansion}
use Rattle.dactl_meaning.specs.RuleFaults.{pattern_faults}
use Rattle.dactl_symbols.specs.Least.{TellsLeast}
use Rattle.dactl_symbols.proofs.Sooner.{tells-sooner}
use Rattle.dactl_patterns.specs.Expanded.{IsExpansion}
use Rattle.dactl_validity.specs.Counting.{AreCounted}
use Rattle.dactl_rules.specs.Rules.{meant_of, IsAnswerFor}
use Rattle.dactl_symbols.specs.Scoping.{seen_in}
use Rattle.dactl_contractum.proofs.Meanings.{symbols_many}
use Rattle.dactl_rules.proofs.WholeRules.{few_variables, whole_told, answer_due, meant_is}
use Rattle.dactl_rules.proofs.rule.rule.Goals as goal

pub returns-in_err-known-clause-faults : goal.returns-in_err-known-clause-faults
returns-in_err-known-clause-faults c =
    let p = err_from_is_err_and c.from_residual-in_err-known.result c.from_residual-in_err-known.ensures.1 in
    rw (p.1, p.2) tt

pub with_pattern-requires-clause-ready : goal.with_pattern-requires-clause-ready
with_pattern-requires-clause-ready c =
    let read = c.in_ok-parts.ensures in
    let tree = c.args.tree.now.pattern in
    let found = subst (IsExpansion c.args.patterns.now.text.now c.args.owner false tree) c.in-Some.is c.in_ok-variables.ensures.pat in
    record {
      few = subst (λ v. length v ≤ 64) (sym read.variables) (few_variables (pattern_expansion c.args.patterns.now.text.now c.args.owner tree) tree found.0);
      small = read.small;
      given = read.given;
    }

pub returns-in-Some-clause-faults : goal.returns-in-Some-clause-faults
returns-in-Some-clause-faults c =
    let text = c.args.patterns.now.text.now in
    let tree = c.args.tree.now in
    let found = subst (IsExpansion text c.args.owner false tree.pattern) c.in-Some.is c.in_ok-variables.ensures.pat in
    whole_told text c.args.patterns.now.scopes.now c.args.owner tree c.in_ok-parts.parts c.requires.scopes c.in_ok-parts.ensures c.in_ok-known.known.faults.items c.in-Some.pattern c.with_pattern.result c.in_ok-known.ensures.faults found.1
    (c.with_pattern.ensures.faults (pattern_faults text c.args.owner false tree.place.byte tree.pattern) (subst (TellsLeast (Contains (pattern_faults text c.args.owner false tree.place.byte tree.pattern))) (sym c.in_ok-known.ensures.of_pattern) c.in_ok-variables.ensures.fault))

pub returns-in-Some-clause-meaning : goal.returns-in-Some-clause-meaning
returns-in-Some-clause-meaning c =
    let text = c.args.patterns.now.text.now in
    let found = subst (IsExpansion text c.args.owner false c.args.tree.now.pattern) c.in-Some.is c.in_ok-variables.ensures.pat in
    let is = ap (meant_of c.in_ok-known.known.symbols.items c.args.group c.args.tree.now c.in_ok-parts.parts) found.1
    ∙ meant_is text c.args.patterns.now.scopes.now c.args.owner c.args.group c.args.tree.now c.in_ok-parts.parts c.requires.scopes c.in_ok-parts.ensures c.in_ok-known.known.symbols.items c.in_ok-known.ensures.symbols in
    IfOk-weaker c.with_pattern.result _ _ (λ r e. e ∙ is) c.with_pattern.ensures.meaning

pub returns-in-Some-clause-counts : goal.returns-in-Some-clause-counts
returns-in-Some-clause-counts c =
    let read = c.in_ok-parts.ensures in
    IfOk-weaker c.with_pattern.result _ _ (λ r e. subst (λ (made : List Sketch). AreCounted made) read.drawn.made read.counts) c.with_pattern.ensures.meaning

pub returns-clause-faults : goal.returns-clause-faults
returns-clause-faults c =
    let text = c.args.patterns.now.text.now in
    let tree = c.args.tree.now in
    let pattern = pattern_faults text c.args.owner false tree.place.byte tree.pattern in
    let wide = subst (IsExpansion text c.args.owner false tree.pattern) c.in-None.is c.in_ok-variables.ensures.pat in
    let first = subst (λ (l : List Refusal). TellsLeast (Contains l) c.first.result) c.as_slice.ensures.value c.first.ensures in
    answer_due text c.args.patterns.now.scopes.now c.args.owner tree c.in_ok-parts.parts c.requires.scopes c.in_ok-parts.ensures c.in_ok-known.known.faults.items c.lesser-least.result c.too_wide.result c.in_ok-known.ensures.faults wide
    (subst (TellsLeast (λ x. Contains c.in_ok-known.known.faults.items x ⊎ Contains pattern x)) (sym c.lesser-least.ensures) (tells-sooner (Contains c.in_ok-known.known.faults.items) (Contains pattern) c.first.result c.in_ok-known.known.of_pattern first
    (subst (TellsLeast (Contains pattern)) (sym c.in_ok-known.ensures.of_pattern) c.in_ok-variables.ensures.fault)))
    (subst (λ (l : List (Bor Name)). IsAnswerFor c.lesser-least.result l tree.place c.too_wide.result) c.as_slice-in-None.ensures.value c.too_wide.ensures)

pub with_pattern-requires-clause-symbols : goal.with_pattern-requires-clause-symbols
with_pattern-requires-clause-symbols c = symbols_many (seen_in c.args.patterns.now.scopes.now c.args.owner) c.in_ok-parts.parts.contractum.drawing.made.items c.in_ok-known.known.symbols.items c.in_ok-known.ensures.symbols
