use Rattle.std.proofs.Common.{◌≡◌, ℕ, List, slice_get, get_or, Some, subst, ◌∙◌, refl, arith, below_more}
use Rattle.std.proofs.lemmas.Option.{get_or_from_slice_get, slice_get_within}
use Rattle.dactl_model.specs.declared.program.Rule.{Rule}
use Rattle.dactl_model.specs.Programs.{IsValidRule}
use Rattle.dactl_model.proofs.validity.are_valid_rules.Goals as goal

-- the rule of this number, if there is one, is valid
abbrev ValidAt : ℕ → List Rule → ℕ → Type 0
ValidAt symbols rules r = (rule : Rule) → slice_get rules r ≡ Some rule → IsValidRule symbols r rule

valid_here : (symbols : ℕ) (rules : List Rule) (i : ℕ) (x : Rule) → x ≡ get_or rules i x → IsValidRule symbols i x → ValidAt symbols rules i
valid_here symbols rules i x is valid rule at = subst (λ y. IsValidRule symbols i y) (is ∙ get_or_from_slice_get rules i rule x at) valid

pub loop-number-preserved : goal.loop-number-preserved
loop-number-preserved c r rule below =
    below_more (ValidAt c.args.symbols c.args.rules.now) c.loop-number.number (λ k before it at. c.loop-number.invariant k it before at)
    (valid_here c.args.symbols c.args.rules.now c.loop-number.number _ c.index-rules-number.is (c.is_valid_rule.ensures.0 c.if-not-is_valid_rule.false)) r below rule

pub returns : goal.returns
returns c = (λ e r rule at. c.loop-number.invariant r rule (let within = slice_get_within c.args.rules.now r rule at in omega arith) at, λ valid. refl)
