-- The arcs of the nodes, one node after another.
use Rattle.std.proofs.Common.{◌≡◌, ℕ, zero, suc, ◌+◌, ◌<◌, ◌≤◌, List, [], ◌∷◌, ◌++◌, length, get_or, set, take, drop, All, sum_by, Some, sym, ap, ◌∙◌, arith, subst, length-drop}
use Rattle.std.proofs.lemmas.List.{take_all, drop_all, take-append-le, drop-append-le, drop-drop, get_or-take, get_or-drop, length-take-le, length_push}
use Rattle.std.specs.List.{slice_get}
use Rattle.std.proofs.lemmas.Option.{slice_get-get_or, get_or_from_slice_get}
use Rattle.std.proofs.lemmas.List.Elements.{All-push, All-from_recursion}
use Rattle.std.proofs.lemmas.List.Sums.{sum_by-cons}
use Rattle.dactl_arcs.specs.declared.lists.ArcRecord.{ArcRecord}
use Rattle.dactl_store.specs.declared.table.Span.{Span}
use Rattle.dactl_store.specs.Layout.{own_part, AreLaid}

abbrev pub no_span : Span
no_span = record { first = 0; count = 0 }

-- the span of the node at place i
pub record IsLaidSpan (at : ℕ) (arcs : List ArcRecord) (span : Span) : Type 0 where
  pub from : at ≤ span.first
  pub within : span.first + span.count ≤ at + length arcs
  pub few : span.count ≤ 16

pub laid_span : (k at : ℕ) (spans : List Span) (arcs : List ArcRecord) → AreLaid k at spans arcs → (i : ℕ) → i < length spans → IsLaidSpan at arcs (get_or spans i no_span)
laid_span k at [] arcs laid i below = absurd (omega arith)
laid_span k at (span ∷ spans) arcs laid zero below = record { from = omega arith; within = omega arith; few = laid.1 }
laid_span k at (span ∷ spans) arcs laid (suc i) below =
    let rest = laid_span (k + 1) (at + span.count) spans (drop span.count arcs) laid.4 i (omega arith) in
    record { from = omega (arith, rest.from); within = omega (arith, rest.within, length-drop span.count arcs, laid.2); few = rest.few }

-- the last one ends with the arcs
pub last_ends : (k at : ℕ) (spans : List Span) (arcs : List ArcRecord) → AreLaid k at spans arcs → (i : ℕ) → i + 1 ≡ length spans
    → (get_or spans i no_span).first + (get_or spans i no_span).count ≡ at + length arcs
last_ends k at [] arcs laid i last = absurd (omega arith)
last_ends k at (span ∷ []) arcs laid zero last = let none = ap length laid.4 in omega (arith, none, length-drop span.count arcs, laid.2, laid.0)
last_ends k at (span ∷ []) arcs laid (suc i) last = absurd (omega arith)
last_ends k at (span ∷ next ∷ spans) arcs laid zero last = absurd (omega arith)
last_ends k at (span ∷ next ∷ spans) arcs laid (suc i) last =
    omega (arith, last_ends (k + 1) (at + span.count) (next ∷ spans) (drop span.count arcs) laid.4 i (omega arith), length-drop span.count arcs, laid.2)

-- together the nodes have all arcs
pub arcs_together : (k at : ℕ) (spans : List Span) (arcs all : List ArcRecord) → AreLaid k at spans arcs → drop at all ≡ arcs → sum_by (λ span. length (own_part all span)) spans ≡ length arcs
arcs_together k at [] arcs all laid rest = sym (ap length laid)
arcs_together k at (span ∷ spans) arcs all laid rest =
    let own : own_part all span ≡ take span.count arcs = ap (take span.count) (ap (λ n. drop n all) laid.0 ∙ rest) in
    let left : drop (at + span.count) all ≡ drop span.count arcs = sym (drop-drop span.count at all) ∙ ap (drop span.count) rest in
    let others = arcs_together (k + 1) (at + span.count) spans (drop span.count arcs) all laid.4 left in
    sum_by-cons (λ s. length (own_part all s)) span spans ∙ omega (arith, ap length own, length-take-le span.count arcs laid.2, others, length-drop span.count arcs, laid.2)

-- a node without arcs comes at the end
pub AreLaid-push : (k at : ℕ) (spans : List Span) (arcs : List ArcRecord) (added : Span) → AreLaid k at spans arcs → added.first ≡ at + length arcs → added.count ≡ 0 → AreLaid k at (spans ++ added ∷ []) arcs
AreLaid-push k at [] arcs added laid first none =
    let bare : length arcs ≡ 0 = ap length laid in
    (omega arith, omega arith, omega arith, rw none (All-from_recursion (λ (a : ArcRecord). a.owner ≡ k) [] tt), rw none laid)
AreLaid-push k at (span ∷ spans) arcs added laid first none =
    (laid.0, laid.1, laid.2, laid.3, AreLaid-push (k + 1) (at + span.count) spans (drop span.count arcs) added laid.4 (omega (arith, length-drop span.count arcs, laid.2)) none)

-- an arc is added at the end, to the last node
pub AreLaid-more : (k at : ℕ) (spans : List Span) (arcs : List ArcRecord) (i : ℕ) (longer : Span) (added : ArcRecord) → AreLaid k at spans arcs → i + 1 ≡ length spans → added.owner ≡ k + i
    → longer.first ≡ (get_or spans i no_span).first → longer.count ≡ (get_or spans i no_span).count + 1 → longer.count ≤ 16 → AreLaid k at (set spans i longer) (arcs ++ added ∷ [])
AreLaid-more k at [] arcs i longer added laid last owner first more few = absurd (omega arith)
AreLaid-more k at (span ∷ []) arcs zero longer added laid last owner first more few =
    let none : length arcs ≤ span.count = omega (arith, ap length laid.4, length-drop span.count arcs) in
    let size = length_push arcs added in
    let whole : take longer.count (arcs ++ added ∷ []) ≡ arcs ++ added ∷ [] = take_all longer.count (arcs ++ added ∷ []) (omega (arith, size)) in
    let own : All (λ a. a.owner ≡ k) arcs = subst (All (λ a. a.owner ≡ k)) (take_all span.count arcs none) laid.3 in
    (omega (arith, laid.0), few, omega (arith, size, laid.2), rw whole (All-push (λ a. a.owner ≡ k) arcs added own (omega arith)), drop_all longer.count (arcs ++ added ∷ []) (omega (arith, size)))
AreLaid-more k at (span ∷ []) arcs (suc i) longer added laid last owner first more few = absurd (omega arith)
AreLaid-more k at (span ∷ next ∷ spans) arcs zero longer added laid last owner first more few = absurd (omega arith)
AreLaid-more k at (span ∷ next ∷ spans) arcs (suc i) longer added laid last owner first more few =
    let behind = AreLaid-more (k + 1) (at + span.count) (next ∷ spans) (drop span.count arcs) i longer added laid.4 (omega arith) (omega arith) first more few in (
      laid.0,
      laid.1,
      omega (arith, length_push arcs added, laid.2),
      rw (take-append-le span.count arcs (added ∷ []) laid.2) laid.3,
      subst (AreLaid (k + 1) (at + span.count) (set (next ∷ spans) i longer)) (sym (drop-append-le span.count arcs (added ∷ []) laid.2)) behind,
    )

-- a node's own part stays where an item is added at the end
pub own_part-push : {X : Type 0} (xs : List X) (span : Span) (added : X) → span.first + span.count ≤ length xs → own_part (xs ++ added ∷ []) span ≡ own_part xs span
own_part-push xs span added within =
    ap (take span.count) (drop-append-le span.first xs (added ∷ []) (omega arith)) ∙ take-append-le span.count (drop span.first xs) (added ∷ []) (omega (arith, length-drop span.first xs))

-- the last node has the added item at the end of its part
pub own_part-more : {X : Type 0} (xs : List X) (span longer : Span) (added : X) → span.first + span.count ≡ length xs → longer.first ≡ span.first → longer.count ≡ span.count + 1
    → own_part (xs ++ added ∷ []) longer ≡ own_part xs span ++ added ∷ []
own_part-more xs span longer added ends first more =
    let own = drop span.first xs in
    let size : length own ≡ span.count = omega (arith, length-drop span.first xs) in
    ap (λ n. take longer.count (drop n (xs ++ added ∷ []))) first
    ∙ ap (take longer.count) (drop-append-le span.first xs (added ∷ []) (omega arith))
    ∙ take_all longer.count (own ++ added ∷ []) (omega (arith, length_push own added))
    ∙ ap (λ ys. ys ++ added ∷ []) (sym (take_all span.count own (omega arith)))

pub length-own_part : {X : Type 0} (xs : List X) (span : Span) → span.first + span.count ≤ length xs → length (own_part xs span) ≡ span.count
length-own_part xs span within = length-take-le span.count (drop span.first xs) (omega (arith, length-drop span.first xs))

-- an arc of the node by its place
pub own_part_at : (arcs : List ArcRecord) (span : Span) (place : ℕ) (a : ArcRecord) → place < span.count → span.first + span.count ≤ length arcs → slice_get arcs (span.first + place) ≡ Some a
    → slice_get (own_part arcs span) place ≡ Some a
own_part_at arcs span place a below within at =
    slice_get-get_or (own_part arcs span) place a (omega (arith, length-own_part arcs span within))
    ∙ ap Some (get_or-take span.count (drop span.first arcs) place a below ∙ get_or-drop span.first arcs place a ∙ get_or_from_slice_get arcs (span.first + place) a a at)
