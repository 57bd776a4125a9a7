-- Pairs whose nodes go into a footprint.
use Rattle.std.proofs.Common.{◌≡◌, ℕ, ◌+◌, ◌<◌, List, [], ◌++◌, length, map, get_or, drop, refl, sym, ◌∙◌, ap, subst, arith, append-nil, append_assoc, length-append}
use Rattle.std.proofs.lemmas.List.{drop_more, length-map}
use mathlib.Core.List.{map-append}
use Rattle.dactl_model.specs.declared.graph.NodeId.{NodeId}
use Rattle.dactl_model.specs.declared.reading.Reading.{Reading}
use Rattle.dactl_model.specs.declared.program.Pat.{Pat}
use Rattle.dactl_model.specs.Readings.{Told, told, told_all}
use Rattle.dactl_model.specs.Rooms.{Observed}
use Rattle.dactl_probe.specs.Bindings.{nodes_of, with_nodes, HasRoomFor}

pub with_none : (f : Observed) → with_nodes f [] ≡ f
with_none f = ap {A = List NodeId} {B = Observed} (λ bs. record f { bindings = bs }) (append-nil f.bindings)

pub with_both : (f : Observed) (xs ys : List (ℕ × NodeId)) → with_nodes (with_nodes f xs) ys ≡ with_nodes f (xs ++ ys)
with_both f xs ys = ap {A = List NodeId} {B = Observed} (λ bs. record f { bindings = bs }) (append_assoc f.bindings (nodes_of xs) (nodes_of ys) ∙ ap (λ bs. f.bindings ++ bs) (sym (map-append (λ x. x.1) xs ys)))

-- the pairs of the patterns from a place on
abbrev pub pairs_from : List Reading → List Pat → List NodeId → ℕ → List (ℕ × NodeId)
pairs_from rs ps ts i = (told_all (map (told rs) (drop i ps)) (drop i ts)).pairs

told_step : (f : Pat → NodeId → Told) (ps : List Pat) (ts : List NodeId) (i : ℕ) (p : Pat) (t : NodeId) → i < length ps → i < length ts → p ≡ get_or ps i p
    → (told_all (map f (drop i ps)) (drop i ts)).pairs ≡ (f p (get_or ts i t)).pairs ++ (told_all (map f (drop (i + 1) ps)) (drop (i + 1) ts)).pairs
told_step f ps ts i p t below inside is = rw (drop_more ps i p below, drop_more ts i t inside, ← is) refl

pairs_more : (rs : List Reading) (ps : List Pat) (ts : List NodeId) (i : ℕ) (p : Pat) (t : NodeId) → i < length ps → i < length ts → p ≡ get_or ps i p → pairs_from rs ps ts i ≡ (told rs p (get_or ts i t)).pairs ++ pairs_from rs ps ts (i + 1)
pairs_more rs ps ts i p t below inside is = told_step (told rs) ps ts i p t below inside is

-- one more pattern
pub pushed_more : (start now after : Observed) (whole : List (ℕ × NodeId)) (ps : List Pat) (ts : List NodeId) (i : ℕ) (p : Pat) (t : NodeId) → with_nodes start whole ≡ with_nodes now (pairs_from start.readings ps ts i)
    → i < length ps → i < length ts → p ≡ get_or ps i p → after ≡ with_nodes now (told now.readings p (get_or ts i t)).pairs → with_nodes start whole ≡ with_nodes after (pairs_from start.readings ps ts (i + 1))
pushed_more start now after whole ps ts i p t so below inside is pushed =
    let same : start.readings ≡ now.readings = ap (λ f. f.readings) so in
    let here = (told start.readings p (get_or ts i t)).pairs in
    let rest = pairs_from start.readings ps ts (i + 1) in
    so
    ∙ (ap (with_nodes now) (pairs_more start.readings ps ts i p t below inside is)
    ∙ (sym (with_both now here rest)
    ∙ ap (λ f. with_nodes f rest) (ap (λ rs. with_nodes now (told rs p (get_or ts i t)).pairs) same ∙ sym pushed)))

pub pushed_room : (start now : Observed) (whole : List (ℕ × NodeId)) (ps : List Pat) (ts : List NodeId) (i : ℕ) (p : Pat) (t : NodeId) → HasRoomFor start whole → with_nodes start whole ≡ with_nodes now (pairs_from start.readings ps ts i)
    → i < length ps → i < length ts → p ≡ get_or ps i p → HasRoomFor now (told now.readings p (get_or ts i t)).pairs
pushed_room start now whole ps ts i p t room so below inside is =
    let same : start.readings ≡ now.readings = ap (λ f. f.readings) so in
    let here = (told start.readings p (get_or ts i t)).pairs in
    let rest = pairs_from start.readings ps ts (i + 1) in
    let long = ap (λ f. length f.bindings) (so ∙ ap (with_nodes now) (pairs_more start.readings ps ts i p t below inside is)) in
    let first = length-append start.bindings (nodes_of whole) in
    let second = length-append now.bindings (nodes_of (here ++ rest)) in
    subst (λ rs. HasRoomFor now (told rs p (get_or ts i t)).pairs) same (omega (arith, room, long, first, second, length-map whole (λ x. x.1), length-map (here ++ rest) (λ x. x.1), length-append here rest))
