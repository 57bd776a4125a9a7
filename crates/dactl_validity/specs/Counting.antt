-- How much of a text can be counted: groups of rules, and what each contractum makes, have numbers of 31 bits.
use Rattle.std.specs.Prelude.{ℕ, ◌+◌, ◌^◌, ◌<◌, List, length, sum_by, All}
use Rattle.dactl_meaning.specs.declared.tree.TermTree.{TermTree}
use Rattle.dactl_meaning.specs.declared.tree.Text.{Text}
use Rattle.dactl_meaning.specs.Declarations.{groups}
use Rattle.dactl_meaning.specs.Contractum.{Sketch, made_by}
use Rattle.dactl_meaning.specs.Spelling.{contracta}

-- how many arcs new nodes have together
abbrev pub arcs_of : List Sketch → ℕ
arcs_of made = sum_by (λ s. length s.arcs) made

-- new nodes and their arcs have numbers of 31 bits
pub record AreCounted (made : List Sketch) : Type 0 where
  pub nodes : length made < 2 ^ 31
  pub arcs : arcs_of made < 2 ^ 31

-- so have those of a contractum
abbrev pub AreCountable : List TermTree → Type 0
AreCountable terms = AreCounted (made_by terms)

-- the groups of a text, behind the five of the arithmetic rules, and what each contractum makes
pub record IsCountable (text : Text) : Type 0 where
  pub groups : length (groups text) + 5 < 2 ^ 31
  pub contracta : All AreCountable (contracta text)
