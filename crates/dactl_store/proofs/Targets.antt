-- The targets of a node, one after another.
use Rattle.std.proofs.Common.{◌≡◌, ℕ, ◌+◌, ◌<◌, List, [], ◌∷◌, ◌++◌, length, get_or, set, map, take, drop, Some, sym, ap, ◌∙◌, arith, length-drop}
use Rattle.std.specs.List.{slice_get}
use Rattle.std.proofs.lemmas.List.{take_more, take_more_set, get_or-drop, map-append}
use Rattle.std.proofs.lemmas.Option.{get_or_from_slice_get}
use Rattle.dactl_arcs.specs.declared.lists.ArcRecord.{ArcRecord}
use Rattle.dactl_model.specs.declared.graph.NodeId.{NodeId}
use Rattle.dactl_store.specs.Layout.{arc_of}

pub targets_more : (arcs : List ArcRecord) (first place : ℕ) (nodes : List NodeId) (found : ArcRecord) → place < length nodes → first + place < length arcs → slice_get arcs (first + place) ≡ Some found
    → take place nodes ≡ map (λ a. (arc_of a).target) (take place (drop first arcs))
    → take (place + 1) (set nodes place (record { number = found.target })) ≡ map (λ a. (arc_of a).target) (take (place + 1) (drop first arcs))
targets_more arcs first place nodes found below within at so_far =
    let here : get_or (drop first arcs) place found ≡ found = get_or-drop first arcs place found ∙ get_or_from_slice_get arcs (first + place) found found at in
    take_more_set nodes place (record { number = found.target }) below
    ∙ ap (λ ts. ts ++ record { number = found.target } ∷ []) so_far
    ∙ sym (ap (map (λ a. (arc_of a).target)) (take_more (drop first arcs) place found (omega (arith, length-drop first arcs)) ∙ ap (λ a. take place (drop first arcs) ++ a ∷ []) here)
    ∙ map-append (λ a. (arc_of a).target) (take place (drop first arcs)) (found ∷ []))
