-- What is read of a rule.
use Rattle.std.specs.Prelude.{◌≡◌, ℕ, ◌<◌, ◌^◌, List, map, length}
use Rattle.dactl_model.specs.Binders.{head}
use Rattle.dactl_meaning.specs.declared.tree.RuleTree.{RuleTree}
use Rattle.dactl_meaning.specs.declared.tree.Text.{Text}
use Rattle.dactl_meaning.specs.Expansion.{variables_of, root_names, rule_expansion}
use Rattle.dactl_meaning.specs.Contractum.{term_of_part}
use Rattle.dactl_meaning.specs.RuleFaults.{lefts_of, suspendable}
use Rattle.dactl_rules.specs.declared.reading.RuleParts.{RuleParts}
use Rattle.dactl_contractum.specs.Drawing.{made_in}
use Rattle.dactl_contractum.specs.Lefts.{words}
use Rattle.dactl_names.specs.Found.{found}
use Rattle.dactl_contractum.specs.Numbers.{node_number}
use Rattle.dactl_contractum.specs.Terms.{AreDrawn}
use Rattle.dactl_validity.specs.Counting.{AreCounted}

-- this is what the rule's tree says
pub record IsRead (text : Text) (m : ℕ) (tree : RuleTree) (r : RuleParts) : Type 0 where
  pub head : r.head ≡ head (rule_expansion text m tree.pattern)
  pub variables : r.variables ≡ variables_of tree.pattern
  pub roots : r.roots ≡ root_names tree.pattern
  pub suspendable : r.suspendable ≡ suspendable tree
  pub lefts : words r.lefts.items ≡ lefts_of tree.parts
  pub drawn : AreDrawn (map term_of_part tree.parts) r.contractum.drawing r.contractum.targets.items
  pub small : length r.contractum.drawing.made.items < 2 ^ 31
  pub counts : AreCounted (made_in r.contractum.drawing)
  pub given : (w : List ℕ) → found r.contractum.given w ≡ node_number (made_in r.contractum.drawing) w
