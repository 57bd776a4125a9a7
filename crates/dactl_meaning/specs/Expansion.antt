-- The pattern that a tree stands for: named patterns are replaced by their expansion, chains fold to the left, variables are numbered by first place.
use Rattle.std.specs.Prelude.{ℕ, zero, suc, ◌+◌, Bool, true, false, not, ◌&&◌, ◌||◌, List, [], ◌∷◌, ◌++◌, map, length, Option, Some, None, ◌==◌, if◌then◌else◌}
use Rattle.std.specs.List.{filter, filter_map, flat_map, list_any, sum}
use Rattle.std.specs.Str.{bytes_eq}
use Rattle.dactl_model.specs.declared.program.Pat.{Pat}
use Rattle.dactl_model.specs.declared.program.Pat.TheOpen.{Pat-F}
use Rattle.dactl_model.specs.declared.program.Pat.TheViews.{roll-Pat}
use Rattle.dactl_model.specs.declared.program.Pat.TheFolds.{fold-Pat}
use Rattle.dactl_meaning.specs.declared.tree.Name.{Name}
use Rattle.dactl_meaning.specs.declared.tree.PatternTree.{PatternTree}
use Rattle.dactl_meaning.specs.declared.tree.PatternTree.TheOpen.{PatternTree-F}
use Rattle.dactl_meaning.specs.declared.tree.PatternTree.TheFolds.{fold-PatternTree}
use Rattle.dactl_meaning.specs.declared.tree.Sign.{Sign}
use Rattle.dactl_meaning.specs.declared.tree.Sign.TheVariants as signs
use Rattle.dactl_meaning.specs.declared.tree.Text.{Text}
use Rattle.dactl_meaning.specs.Declarations.{items, named_pattern, item_pattern}
use Rattle.dactl_meaning.specs.Sight.{Seen, SeenSymbol, SeenPattern, sees}

-- ---- names by their first place

-- the name is one of these
abbrev pub is_among : List (List ℕ) → List ℕ → Bool
is_among names w = list_any (λ v. bytes_eq v w) names

-- each name once, in the order of first places
abbrev pub each_once : List (List ℕ) → List (List ℕ)
each_once [] = []
each_once (w ∷ names) = w ∷ filter (λ v. not (bytes_eq w v)) (each_once names)

-- how many other names stand before this one
abbrev pub number_in : List (List ℕ) → List ℕ → ℕ
number_in [] w = 0
number_in (v ∷ names) w = if bytes_eq v w then 0 else number_in names w + 1

-- ---- the variables of a pattern

-- a place of a variable in a pattern: whether `:` stands behind it, and whether it stands below `+` or to the right of `-`
pub record Occurrence : Type 0 where
  pub name : Name
  pub given : Bool
  pub in_choice : Bool

abbrev pub is_plus : Sign → Bool
is_plus signs.Plus = true
is_plus signs.Minus = false

-- a `+` stands in the chain
abbrev pub has_plus : {A : Type 0} → List (Sign × A) → Bool
has_plus rest = list_any (λ link. is_plus link.0) rest

-- One level: the places of variables, told whether the pattern itself stands in a choice. The first pattern of a chain does where a `+` follows, the others always do.
abbrev pub occurrences_level : PatternTree-F (Bool → List Occurrence) → Bool → List Occurrence
occurrences_level PatternTree-F.Any choice = []
occurrences_level PatternTree-F.Int choice = []
occurrences_level PatternTree-F.Char choice = []
occurrences_level (PatternTree-F.Integer value) choice = []
occurrences_level (PatternTree-F.Letter value) choice = []
occurrences_level (PatternTree-F.Sym name args) choice = flat_map (λ a. a choice) args
occurrences_level (PatternTree-F.Variable name) choice = record { name = name; given = false; in_choice = choice } ∷ []
occurrences_level (PatternTree-F.Binder name inner) choice = record { name = name; given = true; in_choice = choice } ∷ inner choice
occurrences_level (PatternTree-F.Chain first rest) choice = first (choice || has_plus rest) ++ flat_map (λ link. link.1 true) rest

-- the places of variables in the pattern, in the order of its tokens; `choice` says whether the pattern stands in a choice
abbrev pub occurrences_in : PatternTree → Bool → List Occurrence
occurrences_in = fold-PatternTree (Bool → List Occurrence) occurrences_level

abbrev pub occurrences : PatternTree → List Occurrence
occurrences tree = occurrences_in tree false

-- the variables of a pattern, in the order of first places
abbrev pub variables_of : PatternTree → List (List ℕ)
variables_of tree = each_once (map (λ o. o.name.text) (occurrences tree))

-- ---- the expansion

-- what a name stands for with these arguments: its symbol over them, or the expansion of the named pattern. (In a text without faults each name of a pattern is seen.)
abbrev pub at_name : (ℕ → ℕ → Pat) → Option Seen → List Pat → Pat
at_name expansion None args = roll-Pat Pat-F.Any
at_name expansion (Some (SeenSymbol f class)) args = roll-Pat (Pat-F.Sym f args)
at_name expansion (Some (SeenPattern m i)) args = expansion m i

-- a pattern with a variable's name before it. In a named pattern variables are left out
abbrev pub at_variable : Option (List (List ℕ)) → List ℕ → Pat → Pat
at_variable None x p = p
at_variable (Some variables) x p = roll-Pat (Pat-F.Bind (number_in variables x) p)

-- two patterns with a sign between them
abbrev pub join : Sign → Pat → Pat → Pat
join signs.Plus p q = roll-Pat (Pat-F.Union p q)
join signs.Minus p q = roll-Pat (Pat-F.Less p q)

-- a chain folds to the left
abbrev pub chain : Pat → List (Sign × Pat) → Pat
chain p [] = p
chain p (link ∷ rest) = chain (join link.0 p link.1) rest

-- One level of the expansion, by what the module sees, the expansions of named patterns, and the variables, if they count.
abbrev pub expansion_level : (List ℕ → Option Seen) → (ℕ → ℕ → Pat) → Option (List (List ℕ)) → PatternTree-F Pat → Pat
expansion_level look expansion variables PatternTree-F.Any = roll-Pat Pat-F.Any
expansion_level look expansion variables PatternTree-F.Int = roll-Pat Pat-F.Int
expansion_level look expansion variables PatternTree-F.Char = roll-Pat Pat-F.Char
expansion_level look expansion variables (PatternTree-F.Integer value) = roll-Pat (Pat-F.Literal value)
expansion_level look expansion variables (PatternTree-F.Letter value) = roll-Pat (Pat-F.Letter value)
expansion_level look expansion variables (PatternTree-F.Sym name args) = at_name expansion (look name.text) args
expansion_level look expansion variables (PatternTree-F.Variable name) = at_variable variables name.text (roll-Pat Pat-F.Any)
expansion_level look expansion variables (PatternTree-F.Binder name inner) = at_variable variables name.text inner
expansion_level look expansion variables (PatternTree-F.Chain first rest) = chain first rest

abbrev pub expansion_by : (List ℕ → Option Seen) → (ℕ → ℕ → Pat) → Option (List (List ℕ)) → PatternTree → Pat
expansion_by look expansion variables = fold-PatternTree Pat (expansion_level look expansion variables)

-- ---- named patterns

-- how many named patterns the text declares
abbrev pub named_count : Text → ℕ
named_count text = length (filter_map (λ i. item_pattern i.item) (items text))

-- the expansion of a named pattern's tree, in which variables are left out
abbrev pub expansion_of : (ℕ → ℕ → Pat) → (List ℕ → Option Seen) → Option PatternTree → Pat
expansion_of expansion look None = roll-Pat Pat-F.Any
expansion_of expansion look (Some tree) = expansion_by look expansion None tree

-- the expansion of a named pattern, with at most so many named patterns one inside another
abbrev pub named_expansion : Text → ℕ → ℕ → ℕ → Pat
named_expansion text zero m i = roll-Pat Pat-F.Any
named_expansion text (suc depth) m i = expansion_of (named_expansion text depth) (sees text m) (named_pattern text m i)

-- the expansion of a rule's pattern in a module. Where no named pattern reaches itself, no more of them stand one inside another than there are
abbrev pub rule_expansion : Text → ℕ → PatternTree → Pat
rule_expansion text m tree = expansion_by (sees text m) (named_expansion text (named_count text)) (Some (variables_of tree)) tree

-- the expansion of the tree of a named pattern, in which variables are left out
abbrev pub pattern_expansion : Text → ℕ → PatternTree → Pat
pattern_expansion text m tree = expansion_by (sees text m) (named_expansion text (named_count text)) None tree

-- ---- what is asked of an expansion

-- One level: how many nodes the pattern has; binders are not counted.
abbrev pub pattern_nodes_level : Pat-F ℕ → ℕ
pattern_nodes_level Pat-F.Any = 1
pattern_nodes_level Pat-F.Int = 1
pattern_nodes_level Pat-F.Char = 1
pattern_nodes_level (Pat-F.Literal i) = 1
pattern_nodes_level (Pat-F.Letter c) = 1
pattern_nodes_level (Pat-F.Sym f args) = 1 + sum args
pattern_nodes_level (Pat-F.Bind v q) = q
pattern_nodes_level (Pat-F.Union q s) = 1 + (q + s)
pattern_nodes_level (Pat-F.Less q s) = 1 + (q + s)

abbrev pub pattern_nodes : Pat → ℕ
pattern_nodes = fold-Pat ℕ pattern_nodes_level

-- whether a pattern holds at over-writable nodes alone, and whether it gives a variable such a pattern
pub record Overwriting : Type 0 where
  pub is_so : Bool
  pub gives : Bool

abbrev pub some_gives : List Overwriting → Bool
some_gives all = list_any (λ o. o.gives) all

-- One level, for a variable and by which symbols are over-writable: a symbol pattern whose symbol is; a binder whose inner pattern is; a union of which both sides are; a difference whose left side is.
abbrev pub overwriting_level : (ℕ → Bool) → ℕ → Pat-F Overwriting → Overwriting
overwriting_level writable v Pat-F.Any = record { is_so = false; gives = false }
overwriting_level writable v Pat-F.Int = record { is_so = false; gives = false }
overwriting_level writable v Pat-F.Char = record { is_so = false; gives = false }
overwriting_level writable v (Pat-F.Literal i) = record { is_so = false; gives = false }
overwriting_level writable v (Pat-F.Letter c) = record { is_so = false; gives = false }
overwriting_level writable v (Pat-F.Sym f args) = record { is_so = writable f; gives = some_gives args }
overwriting_level writable v (Pat-F.Bind w q) = record { is_so = q.is_so; gives = ((w == v) && q.is_so) || q.gives }
overwriting_level writable v (Pat-F.Union q s) = record { is_so = q.is_so && s.is_so; gives = q.gives || s.gives }
overwriting_level writable v (Pat-F.Less q s) = record { is_so = q.is_so; gives = q.gives || s.gives }

-- the variable of that number has an over-writable pattern behind its `:`. (A variable without one stands for any node, which is not so.)
abbrev pub is_overwritable : (ℕ → Bool) → ℕ → Pat → Bool
is_overwritable writable v p = (fold-Pat Overwriting (overwriting_level writable v) p).gives

-- One level: the names at the head's path, through binders and left sides of differences.
abbrev pub root_names_level : PatternTree-F (List (List ℕ)) → List (List ℕ)
root_names_level PatternTree-F.Any = []
root_names_level PatternTree-F.Int = []
root_names_level PatternTree-F.Char = []
root_names_level (PatternTree-F.Integer value) = []
root_names_level (PatternTree-F.Letter value) = []
root_names_level (PatternTree-F.Sym name args) = []
root_names_level (PatternTree-F.Variable name) = name.text ∷ []
root_names_level (PatternTree-F.Binder name inner) = name.text ∷ inner
root_names_level (PatternTree-F.Chain first rest) = if has_plus rest then [] else first

-- the names of the root of a rule with this pattern
abbrev pub root_names : PatternTree → List (List ℕ)
root_names = fold-PatternTree (List (List ℕ)) root_names_level
