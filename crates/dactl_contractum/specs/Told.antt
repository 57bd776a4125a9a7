-- The faults of a contractum, new node by new node and mention by mention.
use Rattle.std.specs.Prelude.{ℕ, Bool, false, not, ◌&&◌, List, [], ◌∷◌, ◌++◌, map, length, drop, count_by, Option, Some, None, if◌then◌else◌, nat_lt}
use Rattle.dactl_base.specs.declared.refusal.Kind.{Kind}
use Rattle.dactl_base.specs.declared.refusal.Kind.TheVariants as kinds
use Rattle.dactl_base.specs.declared.refusal.Place.{Place}
use Rattle.dactl_base.specs.declared.refusal.Refusal.{Refusal}
use Rattle.dactl_meaning.specs.declared.tree.Marks.{Marks}
use Rattle.dactl_meaning.specs.declared.tree.Marks.TheVariants as marks
use Rattle.dactl_meaning.specs.Sight.{Seen, SeenSymbol, SeenPattern}
use Rattle.dactl_meaning.specs.Contractum.{Core, Number, Character, Of, Sketch, MentionTree, given_names, has_hashes}
use Rattle.dactl_meaning.specs.Expansion.{is_among}
use Rattle.dactl_meaning.specs.RuleFaults.{is_pattern, each_at, again, place_of, core_names, mark_on_bound, mark_place, too_many_waits_at}
use Rattle.std.specs.List.{filter, flat_map}

-- the fault of the kind at the place, where it holds
abbrev pub fault_at : Bool → Kind → Place → List Refusal
fault_at holds kind place = if holds then record { kind = kind; place = place } ∷ [] else []

-- the same at the name of a symbol
abbrev pub core_fault : Bool → Kind → Core → List Refusal
core_fault holds kind (Number value) = []
core_fault holds kind (Character value) = []
core_fault holds kind (Of name) = fault_at holds kind name.place

-- too many arguments
abbrev pub wide_at : Sketch → List Refusal
wide_at s = core_fault (nat_lt 16 (length s.arcs)) kinds.TooWide s.core

-- the name is that of a named pattern
abbrev pub names_pattern : (List ℕ → Option Seen) → Core → Bool
names_pattern look (Number value) = false
names_pattern look (Character value) = false
names_pattern look (Of name) = is_pattern (look name.text)

-- the number of the symbol that is seen, if one is
abbrev pub seen_symbol : Option Seen → ℕ
seen_symbol None = 0
seen_symbol (Some (SeenSymbol id class)) = id
seen_symbol (Some (SeenPattern m i)) = 0

-- the same under the name of a symbol
abbrev pub core_symbol : (List ℕ → Option Seen) → Core → ℕ
core_symbol look (Number value) = 0
core_symbol look (Character value) = 0
core_symbol look (Of name) = seen_symbol (look name.text)

abbrev pub symbol_at : (List ℕ → Option Seen) → Sketch → ℕ
symbol_at look s = core_symbol look s.core

abbrev pub creatable_at : (List ℕ → Option Seen) → Sketch → List Refusal
creatable_at look s = core_fault (names_pattern look s.core) kinds.NotCreatable s.core

-- more `#` than arcs that wait
abbrev pub waits_fault : ℕ → Marks → List Refusal
waits_fault flags marks.Plain = []
waits_fault flags (marks.Star p) = []
waits_fault flags (marks.Hashes p count) = fault_at (nat_lt flags count) kinds.TooManyWaits p

abbrev pub waits_at : Sketch → List Refusal
waits_at s = waits_fault (count_by (λ a. a.0) s.arcs) s.marks

-- a name that is not bound
abbrev pub unbound_at : (List ℕ → Bool) → MentionTree → List Refusal
unbound_at is_bound m = fault_at (not (is_bound m.name.text)) kinds.Unbound m.name.place

-- a mark before a bound name that may not have it
abbrev pub mark_fault : Bool → Bool → Bool → Marks → List Refusal
mark_fault bound variable root marks.Plain = []
mark_fault bound variable root (marks.Star p) = fault_at (bound && not variable) kinds.MarkOnBound p
mark_fault bound variable root (marks.Hashes p count) = fault_at (bound && not root) kinds.MarkOnBound p

abbrev pub mark_at : (List ℕ → Bool) → (List ℕ → Bool) → (List ℕ → Bool) → MentionTree → List Refusal
mark_at is_bound is_variable is_root m = mark_fault (is_bound m.name.text) (is_variable m.name.text) (is_root m.name.text) m.marks

-- a mention of one of these names, which are the root's, with `#`
abbrev pub is_suspension : List (List ℕ) → MentionTree → Bool
is_suspension roots m = has_hashes m.marks && is_among roots m.name.text

-- the mentions that are so
abbrev pub suspensions_in : List (List ℕ) → List MentionTree → List MentionTree
suspensions_in roots mentions = filter (is_suspension roots) mentions

-- the fault at the first mark, where it holds
abbrev pub fault_at_mark : Bool → Marks → List Refusal
fault_at_mark holds marks.Plain = []
fault_at_mark holds (marks.Star p) = fault_at holds kinds.MarkOnBound p
fault_at_mark holds (marks.Hashes p count) = fault_at holds kinds.MarkOnBound p

-- a fault at each of these mentions but the first
abbrev pub faults_again : List MentionTree → List Refusal
faults_again mentions = each_at kinds.MarkOnBound (flat_map (λ m. mark_place m.marks) (drop 1 mentions))

-- the faults of a contractum with these new nodes and mentions, kind by kind, by its variables and the names of its root that may have `#`
abbrev pub drawn_faults : (List ℕ → Option Seen) → List (List ℕ) → List (List ℕ) → List Sketch → List MentionTree → List Refusal
drawn_faults look variables roots made mentions =
    let bound = variables ++ map (λ n. n.text) (given_names made) in
    each_at kinds.TooWide (map place_of (flat_map (λ s. core_names s.core) (filter (λ s. nat_lt 16 (length s.arcs)) made)))
    ++ each_at kinds.Unbound (map (λ m. place_of m.name) (filter (λ m. not (is_among bound m.name.text)) mentions))
    ++ each_at kinds.NamedTwice (map place_of (again variables (given_names made)))
    ++ each_at kinds.NotCreatable (map place_of (filter (λ n. is_pattern (look n.text)) (flat_map (λ s. core_names s.core) made)))
    ++ each_at kinds.MarkOnBound (flat_map (λ m. mark_on_bound (is_among variables m.name.text) (is_among roots m.name.text) m.marks) (filter (λ m. is_among bound m.name.text) mentions))
    ++ faults_again (suspensions_in roots mentions)
    ++ each_at kinds.TooManyWaits (flat_map (λ s. too_many_waits_at s s.marks) made)
