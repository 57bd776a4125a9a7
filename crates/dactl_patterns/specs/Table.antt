-- What is known of a text's named patterns, and that it is right.
use Rattle.std.specs.Prelude.{◌≡◌, ℕ, suc, ◌<◌, ◌≤◌, List, Option, Some, None, if◌then◌else◌}
use Rattle.indexmap.specs.IndexMap.{get}
use Rattle.dactl_model.specs.declared.program.Pat.{Pat}
use Rattle.dactl_model.specs.Binders.{head}
use Rattle.dactl_meaning.specs.declared.tree.Name.{Name}
use Rattle.dactl_meaning.specs.declared.tree.PatternTree.{PatternTree}
use Rattle.dactl_meaning.specs.declared.tree.PatternTree.TheOpen.{PatternTree-F}
use Rattle.dactl_meaning.specs.declared.tree.PatternTree.TheFolds.{fold-PatternTree}
use Rattle.dactl_meaning.specs.Expansion.{pattern_nodes, expansion_by, named_expansion, named_count, has_plus}
use Rattle.dactl_meaning.specs.Meaning.{NamedPattern}
use Rattle.dactl_meaning.specs.Sight.{Seen, SeenSymbol, SeenPattern, sees}
use Rattle.dactl_symbols.specs.Scoping.{IsScopesOf}
use Rattle.dactl_patterns.specs.declared.expanding.Small.{Small}
use Rattle.dactl_patterns.specs.declared.named.Known.{Known}
use Rattle.dactl_patterns.specs.declared.named.NamedPatterns.{NamedPatterns}
use Rattle.dactl_patterns.specs.Levels.{is_same}

-- the pattern with its number of nodes, if it has at most so many
abbrev pub IsWithin : ℕ → Pat → Option Small → Type 0
IsWithin most p None = most < pattern_nodes p
IsWithin most p (Some s) = (s.pat ≡ p) × (s.nodes ≡ pattern_nodes p)

-- what is known of a named pattern is right where this is its expansion
pub record IsKnown (p : Pat) (k : Known) : Type 0 where
  pub head : k.head ≡ head p
  pub small : IsWithin 64 p k.small

-- what is known is right where these are the expansions of named patterns
abbrev pub IsRight : (ℕ → ℕ → Pat) → NamedPatterns → Type 0
IsRight named patterns = (a : NamedPattern) (k : Known) → get is_same patterns.known a ≡ Some k → IsKnown (named a.0 a.1) k

-- the expansion of a named pattern's tree, where these are those of the named patterns that it names
abbrev pub expansion_at : NamedPatterns → (ℕ → ℕ → Pat) → ℕ → PatternTree → Pat
expansion_at patterns named owner tree = expansion_by (sees patterns.text.now owner) named None tree

-- this is the head of the pattern's expansion, whether variables count or not
abbrev pub IsHead : NamedPatterns → ℕ → PatternTree → Option ℕ → Type 0
IsHead patterns owner tree h = (named : ℕ → ℕ → Pat) (variables : Option (List (List ℕ))) → IsRight named patterns → h ≡ head (expansion_by (sees patterns.text.now owner) named variables tree)

-- the head of what a name stands for
abbrev pub head_seen : (ℕ → ℕ → Pat) → Option Seen → Option ℕ
head_seen named None = None
head_seen named (Some (SeenSymbol f class)) = Some f
head_seen named (Some (SeenPattern m i)) = head (named m i)

-- this is the head of what the module sees under the name
abbrev pub IsHeadSeen : NamedPatterns → ℕ → List ℕ → Option ℕ → Type 0
IsHeadSeen patterns owner word h = (named : ℕ → ℕ → Pat) → IsRight named patterns → h ≡ head_seen named (sees patterns.text.now owner word)

-- One level: the name at the head of a pattern, through binders and left sides of differences.
abbrev pub head_name_level : PatternTree-F (Option Name) → Option Name
head_name_level (PatternTree-F.Sym name args) = Some name
head_name_level (PatternTree-F.Binder name inner) = inner
head_name_level (PatternTree-F.Chain first rest) = if has_plus rest then None else first
head_name_level _ = None

abbrev pub head_name : PatternTree → Option Name
head_name = fold-PatternTree (Option Name) head_name_level

-- this is known of a named pattern of the module with this tree
abbrev pub IsKnownOf : NamedPatterns → ℕ → PatternTree → Known → Type 0
IsKnownOf patterns owner tree k = (named : ℕ → ℕ → Pat) → IsRight named patterns → IsKnown (expansion_at patterns named owner tree) k

-- the text and its scopes are the same
pub record IsSameText (old new : NamedPatterns) : Type 0 where
  pub text : new.text ≡ old.text
  pub scopes : new.scopes ≡ old.scopes

-- what is right for a depth and for the next one stays right for the next
abbrev pub Deepens : NamedPatterns → NamedPatterns → Type 0
Deepens old new =
    (d : ℕ) → IsRight (named_expansion old.text.now d) old → IsRight (named_expansion old.text.now (suc d)) old → IsRight (named_expansion old.text.now (suc d)) new

-- what was right for each depth from this one on is so from the next one on
abbrev pub IsRightFrom : ℕ → NamedPatterns → Type 0
IsRightFrom depth patterns = (d : ℕ) → depth ≤ d → IsRight (named_expansion patterns.text.now d) patterns

-- what is known is right for the text
pub record AreNamed (patterns : NamedPatterns) : Type 0 where
  pub scopes : IsScopesOf patterns.text.now patterns.scopes.now
  pub right : IsRight (named_expansion patterns.text.now (named_count patterns.text.now)) patterns
