-- The version of a node: as its arcs are looked at in turn, and as redirections change them.
use Rattle.std.proofs.Common.{◌≡◌, ℕ, zero, suc, ◌+◌, ◌-◌, ◌<◌, ◌≤◌, Bool, not, min, max, cond, eqb, List, [], ◌∷◌, ◌++◌, length, get_or, take, drop, All, Some, zip, refl, sym, ap, ◌∙◌, arith, inl, inr, length-drop}
use Rattle.std.specs.List.{list_any, slice_get}
use Rattle.std.proofs.lemmas.Bool.{cases_Bool}
use Rattle.std.proofs.lemmas.List.{length-map, length-take, take_more, get_or-drop}
use Rattle.std.proofs.lemmas.List.Elements.{All-nil, All-cons, All-head, All-tail}
use Rattle.std.proofs.lemmas.Option.{slice_get_within, get_or_from_slice_get}
use Rattle.std.proofs.lemmas.Slice.Zip.{length-zip}
use Rattle.dactl_arcs.specs.declared.lists.ArcRecord.{ArcRecord}
use Rattle.dactl_arcs.specs.Moves.{moved_to}
use Rattle.dactl_arcs.specs.Stamps.{changed_by}
use Rattle.dactl_store.specs.declared.table.Span.{Span}
use Rattle.dactl_store.specs.Layout.{own_part, greatest}

-- whether the pairs send one of the arcs elsewhere
abbrev pub any_moved : List (ℕ × ℕ) → List ArcRecord → Bool
any_moved moves arcs = list_any (λ a. not (eqb (moved_to moves a.target) a.target)) arcs

greatest_push : (version change : ℕ) (changes : List ℕ) → greatest version (changes ++ change ∷ []) ≡ max (greatest version changes) change
greatest_push version change [] = refl
greatest_push version change (c ∷ changes) = greatest_push (max version c) change changes

-- a change of 0 counts for nothing
pub greatest_zero : (version : ℕ) (changes : List ℕ) → greatest version (changes ++ 0 ∷ []) ≡ greatest version changes
greatest_zero version changes = greatest_push version 0 changes ∙ omega arith

-- one more of a node's changes
pub greatest_more : (version first place change latest : ℕ) (changed : List ℕ) → slice_get changed (first + place) ≡ Some change → latest ≡ greatest version (take place (drop first changed))
    → max latest change ≡ greatest version (take (place + 1) (drop first changed))
greatest_more version first place change latest changed at so_far =
    let within : first + place < length changed = slice_get_within changed (first + place) change at in
    let here : get_or (drop first changed) place change ≡ change = get_or-drop first changed place change ∙ get_or_from_slice_get changed (first + place) change change at in
    ap (λ v. max v change) so_far
    ∙ sym (ap (greatest version) (take_more (drop first changed) place change (omega (arith, length-drop first changed)) ∙ ap (λ c. take place (drop first changed) ++ c ∷ []) here) ∙ greatest_push version change (take place (drop first changed)))

-- what the greatest of them is at most, each of them is at most
greatest_bounds : (version bound : ℕ) (changes : List ℕ) → greatest version changes ≤ bound → (version ≤ bound) × All (λ c. c ≤ bound) changes
greatest_bounds version bound [] is = (is, All-nil (λ c. c ≤ bound))
greatest_bounds version bound (c ∷ changes) is =
    let rest = greatest_bounds (max version c) bound changes is in
    (omega (arith, rest.0), All-cons (λ x. x ≤ bound) c changes (omega (arith, rest.0)) rest.1)

-- where the version is the stamp already, nothing that is at most the stamp changes it
top_stays : (moves : List (ℕ × ℕ)) (stamp : ℕ) (arcs : List ArcRecord) (changed : List ℕ) → All (λ c. c ≤ stamp) changed → greatest stamp (changed_by moves stamp arcs changed) ≡ stamp
top_stays moves stamp [] changed before = refl
top_stays moves stamp (a ∷ arcs) [] before = refl
top_stays moves stamp (a ∷ arcs) (c ∷ changed) before =
    let here : c ≤ stamp = All-head (λ c. c ≤ stamp) c changed before in
    let rest = top_stays moves stamp arcs changed (All-tail (λ c. c ≤ stamp) c changed before) in
    elim (cases_Bool (eqb (moved_to moves a.target) a.target)) [
      | inl stays ↦ (let same : max stamp c ≡ stamp = omega arith in rw (stays, same) rest)
      | inr goes ↦ (let same : max stamp stamp ≡ stamp = omega arith in rw (goes, same) rest)
    ]

-- the version is the stamp where an arc is sent elsewhere, and what it was where none is
greatest_moved : (moves : List (ℕ × ℕ)) (stamp version : ℕ) (arcs : List ArcRecord) (changed : List ℕ) → length changed ≡ length arcs → version ≤ stamp → All (λ c. c ≤ stamp) changed
    → greatest version (changed_by moves stamp arcs changed) ≡ cond (any_moved moves arcs) stamp (greatest version changed)
greatest_moved moves stamp version [] [] long most before = refl
greatest_moved moves stamp version [] (c ∷ changed) long most before = absurd (omega arith)
greatest_moved moves stamp version (a ∷ arcs) [] long most before = absurd (omega arith)
greatest_moved moves stamp version (a ∷ arcs) (c ∷ changed) long most before =
    let here : c ≤ stamp = All-head (λ c. c ≤ stamp) c changed before in
    let others = All-tail (λ c. c ≤ stamp) c changed before in
    elim (cases_Bool (eqb (moved_to moves a.target) a.target)) [
      | inl stays ↦ rw stays (greatest_moved moves stamp (max version c) arcs changed (omega arith) (omega arith) others)
      | inr goes ↦ (let same : max version stamp ≡ stamp = omega arith in rw (goes, same) (top_stays moves stamp arcs changed others))
    ]

-- the changes of a node's arcs are made of its arcs and their changes alone
take_changed : (moves : List (ℕ × ℕ)) (stamp count : ℕ) (arcs : List ArcRecord) (changed : List ℕ) → take count (changed_by moves stamp arcs changed) ≡ changed_by moves stamp (take count arcs) (take count changed)
take_changed moves stamp zero arcs changed = refl
take_changed moves stamp (suc count) [] changed = refl
take_changed moves stamp (suc count) (a ∷ arcs) [] = refl
take_changed moves stamp (suc count) (a ∷ arcs) (c ∷ changed) = ap (λ cs. cond (eqb (moved_to moves a.target) a.target) c stamp ∷ cs) (take_changed moves stamp count arcs changed)

drop_changed : (moves : List (ℕ × ℕ)) (stamp first : ℕ) (arcs : List ArcRecord) (changed : List ℕ) → length changed ≡ length arcs → drop first (changed_by moves stamp arcs changed) ≡ changed_by moves stamp (drop first arcs) (drop first changed)
drop_changed moves stamp zero arcs changed long = refl
drop_changed moves stamp (suc first) [] [] long = refl
drop_changed moves stamp (suc first) [] (c ∷ changed) long = absurd (omega arith)
drop_changed moves stamp (suc first) (a ∷ arcs) [] long = absurd (omega arith)
drop_changed moves stamp (suc first) (a ∷ arcs) (c ∷ changed) long = drop_changed moves stamp first arcs changed (omega arith)

parts_long : (span : Span) (arcs : List ArcRecord) (changed : List ℕ) → length changed ≡ length arcs → length (own_part changed span) ≡ length (own_part arcs span)
parts_long span arcs changed long =
    length-take span.count (drop span.first changed) ∙ ap (min span.count) (length-drop span.first changed ∙ ap (λ n. n - span.first) long ∙ sym (length-drop span.first arcs)) ∙ sym (length-take span.count (drop span.first arcs))

-- the whole: a node's version after a redirection that gives the greatest one
pub version_moved : (moves : List (ℕ × ℕ)) (stamp version : ℕ) (span : Span) (arcs : List ArcRecord) (changed : List ℕ) → length changed ≡ length arcs → greatest version (own_part changed span) ≤ stamp
    → greatest version (own_part (changed_by moves stamp arcs changed) span) ≡ cond (any_moved moves (own_part arcs span)) stamp (greatest version (own_part changed span))
version_moved moves stamp version span arcs changed long most =
    let bounds = greatest_bounds version stamp (own_part changed span) most in
    ap (λ cs. greatest version (take span.count cs)) (drop_changed moves stamp span.first arcs changed long)
    ∙ ap (greatest version) (take_changed moves stamp span.count (drop span.first arcs) (drop span.first changed))
    ∙ greatest_moved moves stamp version (own_part arcs span) (own_part changed span) (parts_long span arcs changed long) bounds.0 bounds.1

pub length-changed_by : (moves : List (ℕ × ℕ)) (stamp : ℕ) (arcs : List ArcRecord) (changed : List ℕ) → length changed ≡ length arcs → length (changed_by moves stamp arcs changed) ≡ length arcs
length-changed_by moves stamp arcs changed long =
    length-map (zip arcs changed) (λ p. cond (eqb (moved_to moves p.0.target) p.0.target) p.1 stamp) ∙ omega (arith, length-zip arcs changed)
