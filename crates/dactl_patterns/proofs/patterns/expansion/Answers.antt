use Rattle.std.proofs.Common.{◌≡◌, ◌≤◌, Option, Some, sym, ap, ◌∙◌, subst, arith}
use Rattle.std.specs.Prelude.{IfSome}
use Rattle.std.specs.Option.{option_copied}
use Rattle.dactl_meaning.specs.Sight.{sees}
use Rattle.dactl_meaning.specs.Expansion.{named_count, named_expansion, expansion_by, pattern_nodes}
use Rattle.dactl_patterns.specs.declared.expanding.Small.{Small}
use Rattle.dactl_patterns.specs.Table.{IsWithin}
use Rattle.dactl_patterns.proofs.Faultless.{counted_is, counted_few, many_wide, large_wide, small_narrow}
use Rattle.dactl_patterns.proofs.patterns.expansion.Goals as goal

pub returns-then-has_many : goal.returns-then-has_many
returns-then-has_many c = many_wide c.args.patterns.now.text.now c.args.owner c.args.named c.args.tree.now c.args.variables.now c.requires.variables (sym c.has_many.ensures ∙ c.if-has_many.true)

pub expand-requires-clause-ready : goal.expand-requires-clause-ready
expand-requires-clause-ready c = record {
  scopes = c.requires.patterns.scopes;
  few = counted_few c.args.named c.args.variables.now (option_copied c.counted.result) c.counted.ensures (sym c.has_many.ensures ∙ c.if-has_many.false);
}

pub returns-in-Some : goal.returns-in-Some
returns-in-Some c =
    let text = c.args.patterns.now.text.now in
    let named = named_expansion text (named_count text) in
    let whole = expansion_by (sees text c.args.owner) named (option_copied c.counted.result) c.args.tree.now in
    let within : IsWithin 64 whole (Some c.in-Some.small) = subst (IsWithin 64 whole) c.in-Some.is (c.in_ok-small.ensures.is named c.requires.patterns.right) in
    let fits : c.in-Some.small.nodes ≤ 64 = subst (λ (o : Option Small). IfSome o (λ s. s.nodes ≤ 64)) c.in-Some.is c.in_ok-small.ensures.within in
    let is = within.0 ∙ counted_is text c.args.owner c.args.named c.args.tree.now c.args.variables.now (option_copied c.counted.result) c.counted.ensures c.requires.variables in
    let nodes : pattern_nodes c.in-Some.small.pat ≡ c.in-Some.small.nodes = ap pattern_nodes within.0 ∙ sym within.1 in
    (small_narrow text c.args.owner c.args.named c.args.tree.now c.args.variables.now c.in-Some.small.pat c.requires.variables (sym c.has_many.ensures ∙ c.if-has_many.false) is (omega arith), is)

pub returns-in-None : goal.returns-in-None
returns-in-None c =
    let text = c.args.patterns.now.text.now in
    let named = named_expansion text (named_count text) in
    let whole = expansion_by (sees text c.args.owner) named (option_copied c.counted.result) c.args.tree.now in
    large_wide text c.args.owner c.args.named c.args.tree.now whole (counted_is text c.args.owner c.args.named c.args.tree.now c.args.variables.now (option_copied c.counted.result) c.counted.ensures c.requires.variables)
    (subst (IsWithin 64 whole) c.in-None.is (c.in_ok-small.ensures.is named c.requires.patterns.right))
