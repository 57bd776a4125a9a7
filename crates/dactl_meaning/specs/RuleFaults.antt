-- The faults of patterns and rules: for each kind the list of places where it holds.
use Rattle.std.specs.Prelude.{ℕ, Bool, true, false, not, ◌&&◌, ◌||◌, List, [], ◌∷◌, ◌++◌, map, length, drop, count_by, Option, Some, None, if◌then◌else◌, nat_lt}
use Rattle.std.specs.List.{filter, flat_map, list_any}
use Rattle.dactl_base.specs.declared.refusal.Kind.{Kind}
use Rattle.dactl_base.specs.declared.refusal.Kind.TheVariants as kinds
use Rattle.dactl_base.specs.declared.refusal.Refusal.{Refusal}
use Rattle.dactl_model.specs.declared.program.Class.{Class}
use Rattle.dactl_model.specs.declared.program.Class.TheVariants as classes
use Rattle.dactl_model.specs.declared.program.Pat.{Pat}
use Rattle.dactl_model.specs.Binders.{head}
use Rattle.dactl_meaning.specs.declared.tree.Name.{Name}
use Rattle.dactl_meaning.specs.declared.tree.Marks.{Marks}
use Rattle.dactl_meaning.specs.declared.tree.Marks.TheVariants as marks
use Rattle.dactl_meaning.specs.declared.tree.PatternTree.{PatternTree}
use Rattle.dactl_meaning.specs.declared.tree.PatternTree.TheOpen.{PatternTree-F}
use Rattle.dactl_meaning.specs.declared.tree.PatternTree.TheFolds.{fold-PatternTree}
use Rattle.dactl_meaning.specs.declared.tree.TermTree.{TermTree}
use Rattle.dactl_meaning.specs.declared.tree.Part.{Part}
use Rattle.dactl_meaning.specs.declared.tree.RuleTree.{RuleTree}
use Rattle.dactl_meaning.specs.Sight.{Seen, SeenSymbol, SeenPattern, sees, class_for}
use Rattle.dactl_meaning.specs.declared.tree.Text.{Text}
use Rattle.dactl_meaning.specs.Expansion.{is_among, number_in, occurrences, variables_of, root_names, is_overwritable, pattern_nodes, rule_expansion, pattern_expansion}
use Rattle.dactl_meaning.specs.Contractum.{Core, Number, Character, Of, Sketch, made_by, mentions_of, suspensions, term_of_part, left_of_part, name_list, given_names}

-- ---- names that come again

-- those of the names that are among some or stand here before
abbrev pub again : List (List ℕ) → List Name → List Name
again seen [] = []
again seen (n ∷ names) = if is_among seen n.text then n ∷ again seen names else again (n.text ∷ seen) names

abbrev pub place_of : Name → ℕ
place_of n = n.place.byte

-- ---- a pattern of its own

-- BinderInChoice: a variable stands below `+`, to the right of `-`, or in a named pattern
abbrev pub binders_in_choice : Bool → PatternTree → List ℕ
binders_in_choice named tree = map (λ o. place_of o.name) (filter (λ o. named || o.in_choice) (occurrences tree))

-- NamedTwice in a pattern: a name has `:` a second time
abbrev pub named_twice_in_pattern : PatternTree → List ℕ
named_twice_in_pattern tree = map place_of (again [] (map (λ o. o.name) (filter (λ o. o.given) (occurrences tree))))

-- One level: each symbol or named pattern with the number of its arguments.
abbrev pub widths_level : PatternTree-F (List (Name × ℕ)) → List (Name × ℕ)
widths_level PatternTree-F.Any = []
widths_level PatternTree-F.Int = []
widths_level PatternTree-F.Char = []
widths_level (PatternTree-F.Integer value) = []
widths_level (PatternTree-F.Letter value) = []
widths_level (PatternTree-F.Sym name args) = (name, length args) ∷ flat_map (λ a. a) args
widths_level (PatternTree-F.Variable name) = []
widths_level (PatternTree-F.Binder name inner) = inner
widths_level (PatternTree-F.Chain first rest) = first ++ flat_map (λ link. link.1) rest

abbrev pub widths : PatternTree → List (Name × ℕ)
widths = fold-PatternTree (List (Name × ℕ)) widths_level

-- TooWide at a symbol of a pattern: more than 16 arguments
abbrev pub wide_in_pattern : PatternTree → List ℕ
wide_in_pattern tree = map (λ w. place_of w.0) (filter (λ w. nat_lt 16 w.1) (widths tree))

-- a place, where something holds
abbrev pub at_if : Bool → ℕ → List ℕ
at_if true place = place ∷ []
at_if false place = []

-- TooWide of a whole pattern: more than 64 nodes, or in a rule more than 64 variables
abbrev pub is_too_wide : Bool → Pat → PatternTree → Bool
is_too_wide named expansion tree = nat_lt 64 (pattern_nodes expansion) || (not named && nat_lt 64 (length (variables_of tree)))

-- ---- a contractum

-- the names of its terms
abbrev pub core_names : Core → List Name
core_names (Number value) = []
core_names (Character value) = []
core_names (Of symbol) = symbol ∷ []

-- TooWide at a symbol of a contractum: more than 16 arguments
abbrev pub wide_in_contractum : List TermTree → List ℕ
wide_in_contractum terms = map place_of (flat_map (λ s. core_names s.core) (filter (λ s. nat_lt 16 (length s.arcs)) (made_by terms)))

abbrev pub is_pattern : Option Seen → Bool
is_pattern None = false
is_pattern (Some (SeenSymbol f class)) = false
is_pattern (Some (SeenPattern m i)) = true

-- NotCreatable: a term names a named pattern
abbrev pub not_creatable : (List ℕ → Option Seen) → List TermTree → List ℕ
not_creatable look terms = map place_of (filter (λ n. is_pattern (look n.text)) (flat_map (λ s. core_names s.core) (made_by terms)))

-- the names that a contractum may mention: the variables and the names that it gives
abbrev pub bound_names : List (List ℕ) → List TermTree → List (List ℕ)
bound_names variables terms = variables ++ map (λ n. n.text) (given_names (made_by terms))

-- Unbound: a mentioned name is neither
abbrev pub unbound_mentions : List (List ℕ) → List TermTree → List ℕ
unbound_mentions variables terms = map (λ m. place_of m.name) (filter (λ m. not (is_among (bound_names variables terms) m.name.text)) (mentions_of terms))

-- NamedTwice in a contractum: a name has `:` a second time, or is a variable of the pattern
abbrev pub named_twice_in_contractum : List (List ℕ) → List TermTree → List ℕ
named_twice_in_contractum variables terms = map place_of (again variables (given_names (made_by terms)))

-- the place of the first mark of a mention that may not have it: `#` where the name is no name of the root that may wait again, or `*` where it is no variable
abbrev pub mark_on_bound : Bool → Bool → Marks → List ℕ
mark_on_bound is_variable is_root marks.Plain = []
mark_on_bound is_variable is_root (marks.Star p) = at_if (not is_variable) p.byte
mark_on_bound is_variable is_root (marks.Hashes p count) = at_if (not is_root) p.byte

-- the place of the first mark
abbrev pub mark_place : Marks → List ℕ
mark_place marks.Plain = []
mark_place (marks.Star p) = p.byte ∷ []
mark_place (marks.Hashes p count) = p.byte ∷ []

-- MarkOnBound: a mention of a bound name has such a mark, or mentions the root with `#` again
abbrev pub marks_on_bound : List (List ℕ) → List (List ℕ) → List TermTree → List ℕ
marks_on_bound variables roots terms =
    flat_map
    (λ m. mark_on_bound (is_among variables m.name.text) (is_among roots m.name.text) m.marks)
    (filter (λ m. is_among (bound_names variables terms) m.name.text) (mentions_of terms))

abbrev pub suspended_again : List (List ℕ) → List TermTree → List ℕ
suspended_again roots terms = flat_map (λ m. mark_place m.marks) (drop 1 (suspensions roots terms))

-- the place of the first `#`, where more are written than arcs with `^`
abbrev pub too_many_waits_at : Sketch → Marks → List ℕ
too_many_waits_at s marks.Plain = []
too_many_waits_at s (marks.Star p) = []
too_many_waits_at s (marks.Hashes p count) = at_if (nat_lt (count_by (λ a. a.0) s.arcs) count) p.byte

-- TooManyWaits: a new node has more `#` than written `^` arcs
abbrev pub too_many_waits : List TermTree → List ℕ
too_many_waits terms = flat_map (λ s. too_many_waits_at s s.marks) (made_by terms)

-- ---- a rule

-- the left sides of its redirections
abbrev pub lefts_of : List Part → List Name
lefts_of ps = flat_map (λ part. name_list (left_of_part part)) ps

-- the left sides that are variables
abbrev pub variable_lefts : RuleTree → List Name
variable_lefts r = filter (λ n. is_among (variables_of r.pattern) n.text) (lefts_of r.parts)

-- Unbound: a left side is no variable of the pattern
abbrev pub unbound_lefts : RuleTree → List ℕ
unbound_lefts r = map place_of (filter (λ n. not (is_among (variables_of r.pattern) n.text)) (lefts_of r.parts))

-- a rule redirects its root by `=>`, or by a left side that is a name of the root
abbrev pub redirects_root : RuleTree → Bool
redirects_root r = r.redirects || list_any (λ n. is_among (root_names r.pattern) n.text) (lefts_of r.parts)

-- the names of the root that may have `#`: all, where the rule does not redirect its root
abbrev pub suspendable : RuleTree → List (List ℕ)
suspendable r = if redirects_root r then [] else root_names r.pattern

-- RedirectedTwice: a variable is a left side again, or is a name of the root where `=>` redirects it
abbrev pub redirected_twice : RuleTree → List ℕ
redirected_twice r = map place_of (again (if r.redirects then root_names r.pattern else []) (variable_lefts r))

-- NotOverwritable: a left side is no name of the root, and its node is not over-writable
abbrev pub not_overwritable : (ℕ → Bool) → Pat → RuleTree → List ℕ
not_overwritable writable expansion r =
    map place_of
    (filter
    (λ n. not (is_among (root_names r.pattern) n.text) && not (is_overwritable writable (number_in (variables_of r.pattern) n.text) expansion))
    (variable_lefts r))

abbrev pub head_is : (ℕ → Bool) → Option ℕ → Bool
head_is rewritable None = false
head_is rewritable (Some f) = rewritable f

-- RootNotRewritable: the head is no rewritable symbol of the module
abbrev pub root_not_rewritable : (ℕ → Bool) → Pat → RuleTree → List ℕ
root_not_rewritable rewritable expansion r = at_if (not (head_is rewritable (head expansion))) r.place.byte

-- ---- all of them

abbrev pub is_class : Class → Option Class → Bool
is_class classes.Rewritable (Some classes.Rewritable) = true
is_class classes.Overwritable (Some classes.Overwritable) = true
is_class classes.Creatable (Some classes.Creatable) = true
is_class a b = false

-- a kind at each of these places
abbrev pub each_at : Kind → List ℕ → List Refusal
each_at kind places = map (λ place. record { kind = kind; place = record { byte = place } }) places

-- the faults of a contractum, by its variables and the names of its root that may have `#`
abbrev pub contractum_faults : (List ℕ → Option Seen) → List (List ℕ) → List (List ℕ) → List TermTree → List Refusal
contractum_faults look variables roots terms =
    each_at kinds.TooWide (wide_in_contractum terms)
    ++ each_at kinds.Unbound (unbound_mentions variables terms)
    ++ each_at kinds.NamedTwice (named_twice_in_contractum variables terms)
    ++ each_at kinds.NotCreatable (not_creatable look terms)
    ++ each_at kinds.MarkOnBound (marks_on_bound variables roots terms)
    ++ each_at kinds.MarkOnBound (suspended_again roots terms)
    ++ each_at kinds.TooManyWaits (too_many_waits terms)

-- the faults of a pattern of its own: a named pattern's, at the place of its name, or a rule's, at that of its first token
abbrev pub pattern_faults : Text → ℕ → Bool → ℕ → PatternTree → List Refusal
pattern_faults text m named place tree =
    each_at kinds.BinderInChoice (binders_in_choice named tree)
    ++ each_at kinds.TooWide (wide_in_pattern tree)
    ++ each_at kinds.TooWide (at_if (is_too_wide named (pattern_expansion text m tree) tree) place)
    ++ each_at kinds.NamedTwice (named_twice_in_pattern tree)

-- the faults of a rule's left sides
abbrev pub left_faults : Text → ℕ → RuleTree → List Refusal
left_faults text m r =
    each_at kinds.Unbound (unbound_lefts r)
    ++ each_at kinds.RedirectedTwice (redirected_twice r)
    ++ each_at kinds.NotOverwritable (not_overwritable (λ f. is_class classes.Overwritable (class_for text m f)) (rule_expansion text m r.pattern) r)

-- the faults of a rule
abbrev pub rule_faults : Text → ℕ → RuleTree → List Refusal
rule_faults text m r =
    each_at kinds.RootNotRewritable (root_not_rewritable (λ f. is_class classes.Rewritable (class_for text m f)) (rule_expansion text m r.pattern) r)
    ++ pattern_faults text m false r.place.byte r.pattern
    ++ contractum_faults (sees text m) (variables_of r.pattern) (suspendable r) (map term_of_part r.parts)
    ++ left_faults text m r
