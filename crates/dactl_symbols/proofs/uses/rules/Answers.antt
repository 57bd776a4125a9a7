use Rattle.std.proofs.Common.{sym, ap, ◌∙◌}
use Rattle.std.specs.List.{flat_map}
use Rattle.dactl_meaning.specs.Uses.{pattern_uses, part_uses, rule_uses}
use Rattle.dactl_symbols.specs.Least.{sooner, least_by}
use Rattle.dactl_symbols.specs.UseFaults.{use_fault}
use Rattle.dactl_symbols.proofs.Sooner.{least_by-append}
use Rattle.dactl_symbols.proofs.Walks.{least_parts-more}
use Rattle.dactl_symbols.proofs.uses.rules.Goals as goal

pub loop-rule-preserved : goal.loop-rule-preserved
loop-rule-preserved c =
    let right = c.parts-right.ensures ∙ ap (λ l. least_by (use_fault c.args.scopes.now c.args.owner) (flat_map part_uses l)) c.as_slice.ensures in
    let one = c.lesser.ensures ∙ (λ j. sooner (c.pattern-left.ensures j) (right j)) ∙ sym (least_by-append (use_fault c.args.scopes.now c.args.owner) (pattern_uses c.rule-item.result.pattern) (flat_map part_uses c.rule-item.result.parts)) in
    c.lesser-least.ensures ∙ least_parts-more (use_fault c.args.scopes.now c.args.owner) rule_uses c.args.rules.now c.loop-rule.rule-index c.rule-item.result c.loop-rule.least c.lesser.result c.loop-rule-test.true c.rule-item.is c.loop-rule.invariant one
