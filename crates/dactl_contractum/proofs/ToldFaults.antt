-- The faults of a contractum, kind by kind, as the definitions list them.
use Rattle.std.proofs.Common.{◌≡◌, ℕ, ◌+◌, ◌<◌, Bool, true, false, not, ◌||◌, cond, List, [], ◌∷◌, ◌++◌, length, map, take, get_or, count_by, Option, is_some, refl, sym, ap, ◌∙◌, append_assoc, if◌then◌else◌, nat_lt}
use Rattle.std.specs.List.{filter, flat_map, list_any}
use Rattle.std.specs.Str.{bytes_eq}
use Rattle.std.proofs.lemmas.List.{take_more, map-append}
use Rattle.dactl_base.specs.declared.refusal.Kind.{Kind}
use Rattle.dactl_base.specs.declared.refusal.Kind.TheVariants as kinds
use Rattle.dactl_base.specs.declared.refusal.Place.{Place}
use Rattle.dactl_base.specs.declared.refusal.Refusal.{Refusal}
use Rattle.dactl_meaning.specs.declared.tree.Name.{Name}
use Rattle.dactl_meaning.specs.declared.tree.Marks.{Marks}
use Rattle.dactl_meaning.specs.declared.tree.Marks.TheVariants as marks
use Rattle.dactl_meaning.specs.Sight.{Seen}
use Rattle.dactl_meaning.specs.Expansion.{is_among}
use Rattle.dactl_meaning.specs.Contractum.{Core, Number, Character, Of, Sketch, MentionTree, has_name, name_list, given_names}
use Rattle.dactl_meaning.specs.RuleFaults.{each_at, again, place_of, core_names, is_pattern, mark_on_bound, too_many_waits_at, at_if}
use Rattle.dactl_contractum.specs.Numbers.{node_number, variable_number}
use Rattle.dactl_contractum.specs.Told.{fault_at, core_fault, wide_at, names_pattern, creatable_at, waits_at, waits_fault, unbound_at, mark_fault, mark_at, suspensions_in, faults_again, drawn_faults}
use Rattle.dactl_contractum.proofs.Tables.{is_some-first}
use Rattle.dactl_validity.proofs.ValidTests.{or_assoc}

-- ---- lists

pub each_flat : {X : Type 0} (kind : Kind) (f : X → List Refusal) (h : X → List ℕ) → ((x : X) → f x ≡ each_at kind (h x)) → (xs : List X) → flat_map f xs ≡ each_at kind (flat_map h xs)
each_flat kind f h same [] = refl
each_flat kind f h same (x ∷ xs) =
    ap (λ (z : List Refusal). z ++ flat_map f xs) (same x) ∙ ap (λ (z : List Refusal). each_at kind (h x) ++ z) (each_flat kind f h same xs)
    ∙ sym (map-append (λ (place : ℕ). let r : Refusal = record { kind = kind; place = record { byte = place } } in r) (h x) (flat_map h xs))

kept_by : {X Y : Type 0} (b : Bool) (g : X → List Y) (x : X) (xs : List X) → (if b then g x else []) ++ flat_map g xs ≡ flat_map g (cond b (x ∷ xs) xs)
kept_by true g x xs = refl
kept_by false g x xs = refl

flat_kept : {X Y : Type 0} (p : X → Bool) (g : X → List Y) (xs : List X) → flat_map (λ x. if p x then g x else []) xs ≡ flat_map g (filter p xs)
flat_kept p g [] = refl
flat_kept p g (x ∷ xs) = ap (λ (z : List _). (if p x then g x else []) ++ z) (flat_kept p g xs) ∙ kept_by (p x) g x (filter p xs)

map_by : {X Y : Type 0} (b : Bool) (h : X → Y) (x : X) (xs : List X) → (if b then h x ∷ [] else []) ++ map h xs ≡ map h (cond b (x ∷ xs) xs)
map_by true h x xs = refl
map_by false h x xs = refl

pub map_kept : {X Y : Type 0} (p : X → Bool) (h : X → Y) (xs : List X) → flat_map (λ x. if p x then h x ∷ [] else []) xs ≡ map h (filter p xs)
map_kept p h [] = refl
map_kept p h (x ∷ xs) = ap (λ (z : List _). (if p x then h x ∷ [] else []) ++ z) (map_kept p h xs) ∙ map_by (p x) h x (filter p xs)

map_flat : {X Y Z : Type 0} (h : Y → Z) (g : X → List Y) (xs : List X) → flat_map (λ x. map h (g x)) xs ≡ map h (flat_map g xs)
map_flat h g [] = refl
map_flat h g (x ∷ xs) = ap (λ (z : List _). map h (g x) ++ z) (map_flat h g xs) ∙ sym (map-append h (g x) (flat_map g xs))

kept-append_by : {X : Type 0} (b : Bool) (x : X) (xs ys zs : List X) → zs ≡ xs ++ ys → cond b (x ∷ zs) zs ≡ cond b (x ∷ xs) xs ++ ys
kept-append_by true x xs ys zs e = ap (λ (z : List _). x ∷ z) e
kept-append_by false x xs ys zs e = e

pub kept-append : {X : Type 0} (p : X → Bool) (xs ys : List X) → filter p (xs ++ ys) ≡ filter p xs ++ filter p ys
kept-append p [] ys = refl
kept-append p (x ∷ xs) ys = kept-append_by (p x) x (filter p xs) (filter p ys) (filter p (xs ++ ys)) (kept-append p xs ys)

one_kept : {X : Type 0} (b : Bool) (x : X) → cond b (x ∷ []) [] ≡ (if b then x ∷ [] else [])
one_kept true x = refl
one_kept false x = refl

-- what passes a test, one element more
pub kept_more : {X Y : Type 0} (p : Y → Bool) (f : X → Y) (xs : List X) (i : ℕ) (x : X) → i < length xs → x ≡ get_or xs i x
    → filter p (map f (take (i + 1) xs)) ≡ filter p (map f (take i xs)) ++ (if p (f x) then f x ∷ [] else [])
kept_more p f xs i x lt is =
    ap (λ (z : List _). filter p (map f z)) (take_more xs i x lt ∙ ap (λ (z : _). take i xs ++ z ∷ []) (sym is))
    ∙ ap (filter p) (map-append f (take i xs) (x ∷ [])) ∙ kept-append p (map f (take i xs)) (f x ∷ []) ∙ ap (λ (z : List _). filter p (map f (take i xs)) ++ z) (one_kept (p (f x)) (f x))

kept_flat : {X Y : Type 0} (p : Y → Bool) (g : X → List Y) (xs : List X) → flat_map (λ x. filter p (g x)) xs ≡ filter p (flat_map g xs)
kept_flat p g [] = refl
kept_flat p g (x ∷ xs) = ap (λ (z : List _). filter p (g x) ++ z) (kept_flat p g xs) ∙ sym (kept-append p (g x) (flat_map g xs))

-- ---- what is told of new nodes

pub core_told : (b : Bool) (kind : Kind) (c : Core) → core_fault b kind c ≡ each_at kind (if b then map place_of (core_names c) else [])
core_told true kind (Number value) = refl
core_told true kind (Character value) = refl
core_told true kind (Of name) = refl
core_told false kind (Number value) = refl
core_told false kind (Character value) = refl
core_told false kind (Of name) = refl

pub wide_told : (made : List Sketch) → flat_map wide_at made ≡ each_at kinds.TooWide (map place_of (flat_map (λ s. core_names s.core) (filter (λ s. nat_lt 16 (length s.arcs)) made)))
wide_told made =
    each_flat kinds.TooWide wide_at (λ s. if nat_lt 16 (length s.arcs) then map place_of (core_names s.core) else []) (λ s. core_told (nat_lt 16 (length s.arcs)) kinds.TooWide s.core) made
    ∙ ap (each_at kinds.TooWide)
    (flat_kept (λ (s : Sketch). nat_lt 16 (length s.arcs)) (λ (s : Sketch). map place_of (core_names s.core)) made
    ∙ map_flat place_of (λ (s : Sketch). core_names s.core) (filter (λ (s : Sketch). nat_lt 16 (length s.arcs)) made))

pattern_by : (b : Bool) (name : Name) → fault_at b kinds.NotCreatable name.place ≡ each_at kinds.NotCreatable (map place_of (cond b (name ∷ []) []))
pattern_by true name = refl
pattern_by false name = refl

pattern_told : (look : List ℕ → Option Seen) (c : Core) → core_fault (names_pattern look c) kinds.NotCreatable c ≡ each_at kinds.NotCreatable (map place_of (filter (λ n. is_pattern (look n.text)) (core_names c)))
pattern_told look (Number value) = refl
pattern_told look (Character value) = refl
pattern_told look (Of name) = pattern_by (is_pattern (look name.text)) name

pub creatable_told : (look : List ℕ → Option Seen) (made : List Sketch) → flat_map (creatable_at look) made ≡ each_at kinds.NotCreatable (map place_of (filter (λ n. is_pattern (look n.text)) (flat_map (λ s. core_names s.core) made)))
creatable_told look made =
    each_flat kinds.NotCreatable (creatable_at look) (λ s. map place_of (filter (λ n. is_pattern (look n.text)) (core_names s.core))) (λ s. pattern_told look s.core) made
    ∙ ap (each_at kinds.NotCreatable)
    (map_flat place_of (λ (s : Sketch). filter (λ n. is_pattern (look n.text)) (core_names s.core)) made
    ∙ ap (map place_of) (kept_flat (λ (n : Name). is_pattern (look n.text)) (λ (s : Sketch). core_names s.core) made))

pub place_by : (b : Bool) (kind : Kind) (p : Place) → fault_at b kind p ≡ each_at kind (if b then p.byte ∷ [] else [])
place_by true kind p = refl
place_by false kind p = refl

waits_by : (b : Bool) (p : Place) → fault_at b kinds.TooManyWaits p ≡ each_at kinds.TooManyWaits (at_if b p.byte)
waits_by true p = refl
waits_by false p = refl

waits_one : (s : Sketch) (m : Marks) → waits_fault (count_by (λ a. a.0) s.arcs) m ≡ each_at kinds.TooManyWaits (too_many_waits_at s m)
waits_one s marks.Plain = refl
waits_one s (marks.Star p) = refl
waits_one s (marks.Hashes p count) = waits_by (nat_lt (count_by (λ a. a.0) s.arcs) count) p

pub waits_told : (made : List Sketch) → flat_map waits_at made ≡ each_at kinds.TooManyWaits (flat_map (λ s. too_many_waits_at s s.marks) made)
waits_told made = each_flat kinds.TooManyWaits waits_at (λ s. too_many_waits_at s s.marks) (λ s. waits_one s s.marks) made

-- ---- what is told of mentions

pub unbound_told : (bound among : List ℕ → Bool) → ((w : List ℕ) → bound w ≡ among w) → (mentions : List MentionTree)
    → flat_map (unbound_at bound) mentions ≡ each_at kinds.Unbound (map (λ m. place_of m.name) (filter (λ m. not (among m.name.text)) mentions))
unbound_told bound among same mentions =
    each_flat kinds.Unbound (unbound_at bound) (λ m. if not (among m.name.text) then place_of m.name ∷ [] else [])
    (λ m. place_by (not (bound m.name.text)) kinds.Unbound m.name.place ∙ ap (λ (b : Bool). each_at kinds.Unbound (if not b then place_of m.name ∷ [] else [])) (same m.name.text)) mentions
    ∙ ap (each_at kinds.Unbound) (map_kept (λ (m : MentionTree). not (among m.name.text)) (λ (m : MentionTree). place_of m.name) mentions)

mark_one : (b v r : Bool) (m : Marks) → mark_fault b v r m ≡ each_at kinds.MarkOnBound (if b then mark_on_bound v r m else [])
mark_one true v r marks.Plain = refl
mark_one false v r marks.Plain = refl
mark_one true true r (marks.Star p) = refl
mark_one true false r (marks.Star p) = refl
mark_one false v r (marks.Star p) = refl
mark_one true v true (marks.Hashes p count) = refl
mark_one true v false (marks.Hashes p count) = refl
mark_one false v r (marks.Hashes p count) = refl

pub marks_told : (bound among is_variable is_root : List ℕ → Bool) → ((w : List ℕ) → bound w ≡ among w) → (mentions : List MentionTree)
    → flat_map (mark_at bound is_variable is_root) mentions ≡ each_at kinds.MarkOnBound (flat_map (λ m. mark_on_bound (is_variable m.name.text) (is_root m.name.text) m.marks) (filter (λ m. among m.name.text) mentions))
marks_told bound among is_variable is_root same mentions =
    each_flat kinds.MarkOnBound (mark_at bound is_variable is_root) (λ m. if among m.name.text then mark_on_bound (is_variable m.name.text) (is_root m.name.text) m.marks else [])
    (λ m. mark_one (bound m.name.text) (is_variable m.name.text) (is_root m.name.text) m.marks
    ∙ ap (λ (b : Bool). each_at kinds.MarkOnBound (if b then mark_on_bound (is_variable m.name.text) (is_root m.name.text) m.marks else [])) (same m.name.text)) mentions
    ∙ ap (each_at kinds.MarkOnBound) (flat_kept (λ (m : MentionTree). among m.name.text) (λ (m : MentionTree). mark_on_bound (is_variable m.name.text) (is_root m.name.text) m.marks) mentions)

-- ---- which names are bound

among-append : (xs ys : List (List ℕ)) (w : List ℕ) → is_among (xs ++ ys) w ≡ (is_among xs w || is_among ys w)
among-append [] ys w = refl
among-append (x ∷ xs) ys w = ap (λ (z : Bool). bytes_eq x w || z) (among-append xs ys w) ∙ sym (or_assoc (bytes_eq x w) (is_among xs w) (is_among ys w))

among_given : (made : List Sketch) (w : List ℕ) → is_among (map (λ n. n.text) (given_names made)) w ≡ list_any (λ s. has_name s w) made
among_given [] w = refl
among_given (s ∷ made) w =
    ap (λ (z : List (List ℕ)). is_among z w) (map-append (λ (n : Name). n.text) (name_list s.name) (given_names made))
    ∙ among-append (map (λ (n : Name). n.text) (name_list s.name)) (map (λ (n : Name). n.text) (given_names made)) w
    ∙ ap (λ (z : Bool). has_name s w || z) (among_given made w)

pub variable_told : (variables : List (List ℕ)) (w : List ℕ) → is_some (variable_number variables w) ≡ is_among variables w
variable_told variables w = is_some-first (λ v. bytes_eq v w) 0 variables

pub bound_told : (variables : List (List ℕ)) (made : List Sketch) (given : Option ℕ) (w : List ℕ) → given ≡ node_number made w
    → (is_some (variable_number variables w) || is_some given) ≡ is_among (variables ++ map (λ n. n.text) (given_names made)) w
bound_told variables made given w e =
    ap (λ (z : Bool). z || is_some given) (variable_told variables w) ∙ ap (λ (z : Option ℕ). is_among variables w || is_some z) e
    ∙ ap (λ (z : Bool). is_among variables w || z) (is_some-first (λ s. has_name s w) 0 made ∙ sym (among_given made w))
    ∙ sym (among-append variables (map (λ (n : Name). n.text) (given_names made)) w)

-- ---- all of them

both : {A : Type 0} (a b x y z : List A) → y ≡ x ++ a → z ≡ y ++ b → z ≡ x ++ (a ++ b)
both a b x y z e f = f ∙ ap (λ (k : List _). k ++ b) e ∙ append_assoc x a b

pub all_told : (look : List ℕ → Option Seen) (variables roots : List (List ℕ)) (made made_here : List Sketch) (mentions mentions_here : List MentionTree) (given : List ℕ → Option ℕ) (f0 f1 f2 f3 f4 f5 f6 f7 : List Refusal)
    → made_here ≡ made → mentions_here ≡ mentions → ((w : List ℕ) → given w ≡ node_number made w)
    → f1 ≡ f0 ++ flat_map wide_at made_here
    → f2 ≡ f1 ++ flat_map (unbound_at (λ w. is_some (variable_number variables w) || is_some (given w))) mentions_here
    → f3 ≡ f2 ++ each_at kinds.NamedTwice (map place_of (again variables (given_names made_here)))
    → f4 ≡ f3 ++ flat_map (creatable_at look) made_here
    → f5 ≡ f4 ++ flat_map (mark_at (λ w. is_some (variable_number variables w) || is_some (given w)) (is_among variables) (is_among roots)) mentions_here
    → f6 ≡ f5 ++ faults_again (suspensions_in roots mentions_here)
    → f7 ≡ f6 ++ flat_map waits_at made_here
    → f7 ≡ f0 ++ drawn_faults look variables roots made mentions
all_told look variables roots made made_here mentions mentions_here given f0 f1 f2 f3 f4 f5 f6 f7 is_made is_mentioned is_given e1 e2 e3 e4 e5 e6 e7 =
    let bound : List ℕ → Bool = λ w. is_some (variable_number variables w) || is_some (given w) in
    let among : List ℕ → Bool = λ w. is_among (variables ++ map (λ n. n.text) (given_names made)) w in
    let same : (w : List ℕ) → bound w ≡ among w = λ w. bound_told variables made (given w) w (is_given w) in
    let d1 = e1 ∙ ap (λ (z : List Sketch). f0 ++ flat_map wide_at z) is_made ∙ ap (λ (z : List Refusal). f0 ++ z) (wide_told made) in
    let d2 = e2 ∙ ap (λ (z : List MentionTree). f1 ++ flat_map (unbound_at bound) z) is_mentioned ∙ ap (λ (z : List Refusal). f1 ++ z) (unbound_told bound among same mentions) in
    let d3 = e3 ∙ ap (λ (z : List Sketch). f2 ++ each_at kinds.NamedTwice (map place_of (again variables (given_names z)))) is_made in
    let d4 = e4 ∙ ap (λ (z : List Sketch). f3 ++ flat_map (creatable_at look) z) is_made ∙ ap (λ (z : List Refusal). f3 ++ z) (creatable_told look made) in
    let d5 = e5 ∙ ap (λ (z : List MentionTree). f4 ++ flat_map (mark_at bound (is_among variables) (is_among roots)) z) is_mentioned
    ∙ ap (λ (z : List Refusal). f4 ++ z) (marks_told bound among (is_among variables) (is_among roots) same mentions) in
    let d6 = e6 ∙ ap (λ (z : List MentionTree). f5 ++ faults_again (suspensions_in roots z)) is_mentioned in
    let d7 = e7 ∙ ap (λ (z : List Sketch). f6 ++ flat_map waits_at z) is_made ∙ ap (λ (z : List Refusal). f6 ++ z) (waits_told made) in
    both _ _ f0 f6 f7 (both _ _ f0 f5 f6 (both _ _ f0 f4 f5 (both _ _ f0 f3 f4 (both _ _ f0 f2 f3 (both _ _ f0 f1 f2 d1 d2) d3) d4) d5) d6) d7
