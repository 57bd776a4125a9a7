-- What is known of a text before its program is put together.
use Rattle.std.specs.Prelude.{◌≡◌, ◌<◌, ◌^◌, None}
use Rattle.dactl_meaning.specs.declared.tree.Text.{Text}
use Rattle.dactl_meaning.specs.Declarations.{groups}
use Rattle.dactl_meaning.specs.Meaning.{rules_from, RuleFault}
use Rattle.dactl_symbols.specs.Least.{TellsLeast}
use Rattle.dactl_rules.specs.declared.compiled.CompiledRules.{CompiledRules}
use Rattle.dactl_validity.specs.Counting.{IsCountable}

-- this is the first fault of the text's rules; and where there is none, these are its rules, and it can be counted where its groups can
pub record IsDraft (text : Text) (r : CompiledRules) : Type 0 where
  pub tells : TellsLeast (RuleFault text) r.fault
  pub rules : r.fault ≡ None → r.rules.items ≡ rules_from text 5 (groups text)
  pub counted : r.fault ≡ None → r.group < 2 ^ 31 → IsCountable text
