use Rattle.std.proofs.Common.{List, Some, map, ap, ◌∙◌, subst}
use Rattle.dactl_meaning.specs.declared.tree.TermTree.{TermTree}
use Rattle.dactl_meaning.specs.Contractum.{term_of_part}
use Rattle.dactl_meaning.specs.Expansion.{named_count, named_expansion, variables_of}
use Rattle.dactl_meaning.specs.RuleFaults.{lefts_of}
use Rattle.dactl_contractum.specs.Terms.{seen, AreDrawn}
use Rattle.dactl_rules.proofs.reading.read.Goals as goal

pub returns : goal.returns
returns c =
    let text = c.args.patterns.now.text.now in
    let contractum = c.in_ok-contractum.contractum in
    let drawn = c.in_ok-contractum.ensures in
    record {
      head = c.in_ok-head.ensures (named_expansion text (named_count text)) (Some (variables_of c.args.tree.now.pattern)) c.requires.patterns.right;
      variables = c.in_ok-variables.ensures ∙ c.requires.variables;
      roots = c.in_ok-roots.ensures;
      suspendable = c.in_ok-suspendable.ensures;
      lefts = c.in_ok-lefts.ensures ∙ ap lefts_of c.as_slice.ensures;
      drawn = subst (λ (l : List TermTree). AreDrawn l contractum.drawing contractum.targets.items) (ap seen c.as_slice-4.ensures.value ∙ c.in_ok-terms.ensures ∙ ap (map term_of_part) c.as_slice-3.ensures) drawn.drawn;
      small = drawn.small;
      counts = drawn.counts;
      given = drawn.given;
    }
