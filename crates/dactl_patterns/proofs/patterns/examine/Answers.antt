use Rattle.std.proofs.Common.{List, ◌∙◌, subst}
use Rattle.std.specs.Prelude.{Contains}
use Rattle.dactl_base.specs.declared.refusal.Refusal.{Refusal}
use Rattle.dactl_symbols.specs.Least.{TellsLeast}
use Rattle.dactl_patterns.proofs.Faultless.{variables_found, faults_found, none_wide}
use Rattle.dactl_patterns.proofs.patterns.examine.Goals as goal

pub expansion-requires-clause-variables : goal.expansion-requires-clause-variables
expansion-requires-clause-variables c = c.as_slice-2.ensures ∙ c.in_ok-variables.ensures ∙ variables_found c.in_ok-found.found c.args.tree.now c.as_slice.result.now c.as_slice.ensures.value c.in_ok-found.ensures

pub returns : goal.returns
returns c =
    let text = c.args.patterns.now.text.now in
    let found = c.in_ok-found.found in
    let wide = none_wide text c.args.owner c.args.named c.args.tree.now c.in_ok-pat.pat c.is_none.result c.is_none.ensures c.in_ok-pat.ensures in
    let same = faults_found text c.args.owner c.args.named c.is_none.result c.args.place c.args.tree.now found c.in_ok-found.ensures wide in
    record {
      variables = c.in_ok-variables.ensures ∙ variables_found found c.args.tree.now c.as_slice.result.now c.as_slice.ensures.value c.in_ok-found.ensures;
      fault = subst (λ (fs : List Refusal). TellsLeast (Contains fs) c.in_ok-fault.fault) same c.in_ok-fault.ensures;
      pat = c.in_ok-pat.ensures;
    }
