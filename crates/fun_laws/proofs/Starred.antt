-- Terms with `*` before them.
use Rattle.std.proofs.Common.{◌≡◌, Some, None, ap}
use Rattle.dactl_meaning.specs.declared.tree.Marks.TheVariants as marks
use Rattle.dactl_meaning.specs.declared.tree.TermTree.{TermTree}
use Rattle.dactl_meaning.specs.declared.tree.NodeTree.{NodeTree}
use Rattle.dactl_meaning.specs.declared.tree.ArgTree.{ArgTree}
use Rattle.dactl_meaning.specs.declared.tree.NodeTree.TheOpen.{TermTree-F}
use Rattle.dactl_meaning.specs.declared.tree.NodeTree.TheViews.{roll-TermTree, out-roll-TermTree}
use Rattle.dactl_meaning.specs.Unplaced.{nowhere}
use Rattle.fun_meaning.specs.Names.{Spelling}
use Rattle.fun_meaning.specs.Values.{word}
use Rattle.fun_compile.specs.Translated.{bare, marked, starred}

pub starred_marked : (node : NodeTree) → starred (marked marks.Plain node) ≡ marked (marks.Star nowhere) node
starred_marked node = ap (λ (f : TermTree-F NodeTree ArgTree TermTree). roll-TermTree (record { marks = marks.Star nowhere; name = f.name; node = f.node })) (out-roll-TermTree (record { marks = marks.Plain; name = None; node = Some node }))

pub starred_bare : (x : Spelling) → starred (bare marks.Plain x) ≡ bare (marks.Star nowhere) x
starred_bare x = ap (λ (f : TermTree-F NodeTree ArgTree TermTree). roll-TermTree (record { marks = marks.Star nowhere; name = f.name; node = f.node })) (out-roll-TermTree (record { marks = marks.Plain; name = Some (word x); node = None }))
