-- Induction over the trees of terms.
use Rattle.std.proofs.Common.{ℕ, Bool, List, map, ℤ, Option, Some, None, subst}
use Rattle.dactl_base.specs.declared.refusal.Place.{Place}
use Rattle.dactl_meaning.specs.declared.tree.Name.{Name}
use Rattle.dactl_meaning.specs.declared.tree.Marks.{Marks}
use Rattle.dactl_meaning.specs.declared.tree.NodeTree.{NodeTree}
use Rattle.dactl_meaning.specs.declared.tree.ArgTree.{ArgTree}
use Rattle.dactl_meaning.specs.declared.tree.TermTree.{TermTree}
use Rattle.dactl_meaning.specs.declared.tree.NodeTree.TheOpen.{NodeTree-F, ArgTree-F, TermTree-F}
use Rattle.dactl_meaning.specs.declared.tree.NodeTree.TheViews.{roll-NodeTree, roll-ArgTree, roll-TermTree}
use Rattle.dactl_meaning.specs.declared.tree.NodeTree.TheFolds.{ind-TermTree, map-NodeTree, map-ArgTree, map-TermTree}
use Rattle.dactl_meaning.proofs.Induction.{Each, each_of}

-- what an induction over nodes, arguments and terms owes
pub record TermCases (N : NodeTree → Type 0) (A : ArgTree → Type 0) (T : TermTree → Type 0) : Type 0 where
  pub integer : (value : ℤ) (place : Place) → N (roll-NodeTree (NodeTree-F.Integer value place))
  pub letter : (value : ℕ) (place : Place) → N (roll-NodeTree (NodeTree-F.Letter value place))
  pub symbol : (name : Name) (args : List ArgTree) → Each A args → N (roll-NodeTree (NodeTree-F.Sym name args))
  pub arg : (waits : Bool) (term : TermTree) → T term → A (roll-ArgTree (record { waits = waits; term = term }))
  pub bare : (marks : Marks) (name : Option Name) → T (roll-TermTree (record { marks = marks; name = name; node = None }))
  pub made : (marks : Marks) (name : Option Name) (node : NodeTree) → N node → T (roll-TermTree (record { marks = marks; name = name; node = Some node }))

module _ (N : NodeTree → Type 0) (A : ArgTree → Type 0) (T : TermTree → Type 0) (cases : TermCases N A T) where
  abbrev SomeNode : Type 0
  SomeNode = (t : NodeTree) × N t

  abbrev SomeArg : Type 0
  SomeArg = (t : ArgTree) × A t

  abbrev SomeTerm : Type 0
  SomeTerm = (t : TermTree) × T t

  node_level : (y : NodeTree-F SomeNode SomeArg SomeTerm) → N (roll-NodeTree (map-NodeTree SomeNode SomeArg SomeTerm NodeTree ArgTree TermTree (λ e. e.0) (λ e. e.0) (λ e. e.0) y))
  node_level (NodeTree-F.Integer value place) = cases.integer value place
  node_level (NodeTree-F.Letter value place) = cases.letter value place
  node_level (NodeTree-F.Sym name args) = cases.symbol name (map (λ e. e.0) args) (each_of A args)

  arg_level : (y : ArgTree-F SomeNode SomeArg SomeTerm) → A (roll-ArgTree (map-ArgTree SomeNode SomeArg SomeTerm NodeTree ArgTree TermTree (λ e. e.0) (λ e. e.0) (λ e. e.0) y))
  arg_level y = cases.arg y.waits y.term.0 y.term.1

  term_by : (marks : Marks) (name : Option Name) (node : Option SomeNode)
      → T (roll-TermTree (map-TermTree SomeNode SomeArg SomeTerm NodeTree ArgTree TermTree (λ e. e.0) (λ e. e.0) (λ e. e.0) (record { marks = marks; name = name; node = node })))
  term_by marks name None = cases.bare marks name
  term_by marks name (Some node) = cases.made marks name node.0 node.1

  term_level : (y : TermTree-F SomeNode SomeArg SomeTerm) → T (roll-TermTree (map-TermTree SomeNode SomeArg SomeTerm NodeTree ArgTree TermTree (λ e. e.0) (λ e. e.0) (λ e. e.0) y))
  term_level y = term_by y.marks y.name y.node

  pub term_induction : (t : TermTree) → T t
  term_induction =
      ind-TermTree N A T
      (λ x y is. subst (λ z. N (roll-NodeTree z)) is (node_level y))
      (λ x y is. subst (λ z. A (roll-ArgTree z)) is (arg_level y))
      (λ x y is. subst (λ z. T (roll-TermTree z)) is (term_level y))
