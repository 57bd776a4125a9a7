-- What an expansion is, by what is known of named patterns.
use Rattle.std.specs.Prelude.{◌≡◌, ℕ, ◌<◌, List, map, length, Option, IfSome}
use Rattle.std.specs.Option.{option_copied}
use Rattle.dactl_model.specs.declared.program.Pat.{Pat}
use Rattle.dactl_model.specs.declared.program.Pat.TheOpen.{Pat-F}
use Rattle.dactl_model.specs.declared.program.Pat.TheViews.{roll-Pat}
use Rattle.dactl_meaning.specs.declared.tree.PatternTree.{PatternTree}
use Rattle.dactl_meaning.specs.declared.tree.Sign.{Sign}
use Rattle.dactl_meaning.specs.Sight.{sees}
use Rattle.dactl_meaning.specs.Expansion.{expansion_by, pattern_nodes, at_name, chain}
use Rattle.dactl_symbols.specs.Scoping.{IsScopesOf}
use Rattle.dactl_patterns.specs.declared.expanding.Expander.{Expander}
use Rattle.dactl_patterns.specs.declared.expanding.Small.{Small}
use Rattle.dactl_patterns.specs.Table.{IsWithin, IsRight}

-- the scopes are those of the text, and the variables have numbers
pub record IsReady (e : Expander) : Type 0 where
  pub scopes : IsScopesOf e.patterns.now.text.now e.patterns.now.scopes.now
  pub few : IfSome (option_copied e.variables) (λ v. length v < 256)

-- the expansion of a tree, where these are those of named patterns
abbrev pub of_tree : Expander → (ℕ → ℕ → Pat) → PatternTree → Pat
of_tree e named tree = expansion_by (sees e.patterns.now.text.now e.owner) named (option_copied e.variables) tree

-- and of the pattern of a link, with its sign
abbrev pub of_link : Expander → (ℕ → ℕ → Pat) → Sign × PatternTree → Sign × Pat
of_link e named link = (link.0, of_tree e named link.1)

-- the answer is right wherever what is known of named patterns is right for their expansions
abbrev pub Answers : Expander → ℕ → ((ℕ → ℕ → Pat) → Pat) → Option Small → Type 0
Answers e most expansion r = (named : ℕ → ℕ → Pat) → IsRight named e.patterns.now → IsWithin most (expansion named) r

-- for a tree, for a name with arguments, and for a symbol with arguments
abbrev pub Expands : Expander → ℕ → PatternTree → Option Small → Type 0
Expands e most tree = Answers e most (λ named. of_tree e named tree)

abbrev pub ExpandsName : Expander → ℕ → List ℕ → List PatternTree → Option Small → Type 0
ExpandsName e most word args = Answers e most (λ named. at_name named (sees e.patterns.now.text.now e.owner word) (map (of_tree e named) args))

abbrev pub ExpandsSymbol : Expander → ℕ → ℕ → List PatternTree → Option Small → Type 0
ExpandsSymbol e most symbol args = Answers e most (λ named. roll-Pat (Pat-F.Sym symbol (map (of_tree e named) args)))

-- for the links behind a first pattern
abbrev pub ExpandsChain : Expander → ℕ → Small → List (Sign × PatternTree) → Option Small → Type 0
ExpandsChain e most first rest r = (named : ℕ → ℕ → Pat) → IsRight named e.patterns.now → first.nodes ≡ pattern_nodes first.pat → IsWithin most (chain first.pat (map (of_link e named) rest)) r
