-- The path of a visit, and where it leads.
use Rattle.std.proofs.Common.{◌≡◌, ℕ, zero, suc, List, [], ◌∷◌, ◌++◌, refl, sym, ap, ◌∙◌, subst, drop, Some, None, slice_get, All, ◌+◌, ◌≤◌, length, length-append, arith}
use Rattle.std.proofs.lemmas.List.{drop_more, drop_all}
use Rattle.std.proofs.lemmas.Option.{slice_get_within, get_or_from_slice_get}
use Rattle.std.proofs.lemmas.List.Elements.{All-pop, All-push, All-same}
use Rattle.std.specs.List.{Contains}
use Rattle.dactl_model.specs.declared.graph.NodeId.{NodeId}
use Rattle.dactl_model.specs.declared.graph.Graph.{Graph}
use Rattle.dactl_model.specs.Graphs.{HasNode}
use Rattle.dactl_print.specs.Walks.{AreNodesOf}
use Rattle.dactl_print.specs.declared.walk.Frame.{Frame}
use Rattle.dactl_print.specs.Order.{Visits, ended, passed, joined, IsOrder, targets}

-- what the frame has still to visit
abbrev pub rest_of : Graph → Frame → List NodeId
rest_of g f = drop f.done (targets g f.node)

-- the path from its top down
abbrev pub top_first : List Frame → List Frame
top_first [] = []
top_first (f ∷ fs) = top_first fs ++ f ∷ []

pub top_first-push : (path : List Frame) (f : Frame) → top_first (path ++ f ∷ []) ≡ f ∷ top_first path
top_first-push [] f = refl
top_first-push (x ∷ path) f = ap (λ l. l ++ x ∷ []) (top_first-push path f)

-- to visit what the frames have still to visit, in turn
pub data Finishes (g : Graph) : List Frame → List NodeId → List NodeId → Type 0 where
  finished : {before : List NodeId} → Finishes g [] before before
  framed : {f : Frame} {below : List Frame} {before between after : List NodeId} → Visits g (rest_of g f) before between → Finishes g below between after → Finishes g (f ∷ below) before after

-- where this path is finished the visit of the root is
abbrev pub Leads : Graph → List Frame → List NodeId → Type 0
Leads g path order = (after : List NodeId) → Finishes g (top_first path) order after → IsOrder g after

not_in_nil : (n : NodeId) → Contains [] n → ⊥
not_in_nil n p = absurd (omega (arith, p.1))

begun : (g : Graph) (after : List NodeId) → Finishes g (record { node = g.root; done = 0 } ∷ []) (g.root ∷ []) after → IsOrder g after
begun g after (framed v finished) = joined (not_in_nil g.root) v ended

pub leads_begin : (g : Graph) → Leads g (record { node = g.root; done = 0 } ∷ []) (g.root ∷ [])
leads_begin g after p = begun g after p

pub leads_end : (g : Graph) (order : List NodeId) → Leads g [] order → IsOrder g order
leads_end g order leads = leads order finished

pub leads_pop : (g : Graph) (below : List Frame) (f : Frame) (order : List NodeId) → Leads g (below ++ f ∷ []) order → rest_of g f ≡ [] → Leads g below order
leads_pop g below f order leads none after p =
    let top : Finishes g (f ∷ top_first below) order after = framed (subst (λ l. Visits g l order order) (sym none) ended) p in
    leads after (subst (λ l. Finishes g l order after) (sym (top_first-push below f)) top)

turned : {g : Graph} {f h : Frame} {below : List Frame} {before after : List NodeId}
    → ((between : List NodeId) → Visits g (rest_of g h) before between → Visits g (rest_of g f) before between) → Finishes g (h ∷ below) before after → Finishes g (f ∷ below) before after
turned turn (framed v p) = framed (turn _ v) p

-- a target that was visited is passed over
pub leads_pass : (g : Graph) (below : List Frame) (f h : Frame) (t : NodeId) (order : List NodeId)
    → Leads g (below ++ f ∷ []) order → rest_of g f ≡ t ∷ rest_of g h → Contains order t → Leads g (below ++ h ∷ []) order
leads_pass g below f h t order leads next seen after p =
    let top : Finishes g (h ∷ top_first below) order after = subst (λ l. Finishes g l order after) (top_first-push below h) p in
    let turn : (between : List NodeId) → Visits g (rest_of g h) order between → Visits g (rest_of g f) order between = λ between v. subst (λ l. Visits g l order between) (sym next) (passed seen v) in
    leads after (subst (λ l. Finishes g l order after) (sym (top_first-push below f)) (turned turn top))

entered : {g : Graph} {f h : Frame} {t : NodeId} {below : List Frame} {before after : List NodeId}
    → rest_of g f ≡ t ∷ rest_of g h → (Contains before t → ⊥) → Finishes g (record { node = t; done = 0 } ∷ h ∷ below) (before ++ t ∷ []) after → Finishes g (f ∷ below) before after
entered {g} {before} next fresh (framed v (framed {between = b} w p)) = framed (subst (λ l. Visits g l before b) (sym next) (joined fresh v w)) p

-- a target that was not visited is entered
pub leads_enter : (g : Graph) (below : List Frame) (f h : Frame) (t : NodeId) (order : List NodeId)
    → Leads g (below ++ f ∷ []) order → rest_of g f ≡ t ∷ rest_of g h → (Contains order t → ⊥) → Leads g ((below ++ h ∷ []) ++ record { node = t; done = 0 } ∷ []) (order ++ t ∷ [])
leads_enter g below f h t order leads next fresh after p =
    let n : Frame = record { node = t; done = 0 } in
    let path : top_first ((below ++ h ∷ []) ++ n ∷ []) ≡ n ∷ h ∷ top_first below = top_first-push (below ++ h ∷ []) n ∙ ap (λ l. n ∷ l) (top_first-push below h) in
    let top : Finishes g (n ∷ h ∷ top_first below) (order ++ t ∷ []) after = subst (λ l. Finishes g l (order ++ t ∷ []) after) path p in
    leads after (subst (λ l. Finishes g l order after) (sym (top_first-push below f)) (entered next fresh top))

-- ---- the list of what is left to visit

pub rest_more : (xs : List NodeId) (i : ℕ) (x : NodeId) → Some x ≡ slice_get xs i → drop i xs ≡ x ∷ drop (i + 1) xs
rest_more xs i x e = drop_more xs i x (slice_get_within xs i x (sym e)) ∙ ap (λ y. y ∷ drop (i + 1) xs) (get_or_from_slice_get xs i x x (sym e))

pub rest_none : (xs : List NodeId) (i : ℕ) → None ≡ slice_get xs i → drop i xs ≡ []
rest_none [] i e = drop_all i [] (omega arith)
rest_none (x ∷ xs) zero e = cc
rest_none (x ∷ xs) (suc i) e = rest_none xs i e

-- ---- one step of the visit

pub leads_same : (g : Graph) (path other : List Frame) (order nodes : List NodeId) → path ≡ other → order ≡ nodes → Leads g other nodes → Leads g path order
leads_same g path other order nodes p o leads = subst (λ l. Leads g path l) (sym o) (subst (λ l. Leads g l nodes) (sym p) leads)

pub leads_begun : (g : Graph) (path : List Frame) (order : List NodeId) (root : NodeId) → root ≡ g.root → path ≡ record { node = root; done = 0 } ∷ [] → order ≡ root ∷ [] → Leads g path order
leads_begun g path order root e p o =
    let frames : NodeId → List Frame = λ n. record { node = n; done = 0 } ∷ [] in
    leads_same g path (frames g.root) order (g.root ∷ []) (p ∙ ap frames e) (o ∙ ap (λ n. n ∷ []) e) (leads_begin g)

length_push : {X : Type 0} (xs ys : List X) (x : X) → xs ≡ ys ++ x ∷ [] → length xs ≡ length ys + 1
length_push xs ys x e = ap length e ∙ length-append ys (x ∷ []) ∙ omega arith

pub short_popped : (path below : List Frame) (f : Frame) (order : List NodeId) → path ≡ below ++ f ∷ [] → length path ≤ length order → length below ≤ length order
short_popped path below f order e short = omega (arith, length_push path below f e)

pub short_put : (path below put : List Frame) (f h : Frame) (order : List NodeId) → path ≡ below ++ f ∷ [] → put ≡ below ++ h ∷ [] → length path ≤ length order → length put ≤ length order
short_put path below put f h order e p short = omega (arith, length_push path below f e, length_push put below h p)

pub short_entered : (put path : List Frame) (n : Frame) (before order : List NodeId) (t : NodeId) → path ≡ put ++ n ∷ [] → order ≡ before ++ t ∷ [] → length put ≤ length before → length path ≤ length order
short_entered put path n before order t p o short = omega (arith, length_push path put n p, length_push order before t o)

pub frames_popped : (g : Graph) (path below : List Frame) (f : Frame) → path ≡ below ++ f ∷ [] → All (λ h. HasNode g h.node) path → All (λ h. HasNode g h.node) below × HasNode g f.node
frames_popped g path below f e all = let parts = All-pop (λ h. HasNode g h.node) path below (Some f) e all in (parts.0, parts.1)

pub frames_put : (g : Graph) (below path : List Frame) (f : Frame) → path ≡ below ++ f ∷ [] → All (λ h. HasNode g h.node) below → HasNode g f.node → All (λ h. HasNode g h.node) path
frames_put g below path f e all has = All-same (λ h. HasNode g h.node) path (below ++ f ∷ []) e (All-push (λ h. HasNode g h.node) below f all has)

pub nodes_put : (g : Graph) (before order : List NodeId) (t : NodeId) → order ≡ before ++ t ∷ [] → AreNodesOf g before → HasNode g t → AreNodesOf g order
nodes_put g before order t e all has = All-same (HasNode g) order (before ++ t ∷ []) e (All-push (HasNode g) before t all has)

-- nothing is left of the path
pub leads_over : (g : Graph) (path : List Frame) (order : List NodeId) → length path ≡ 0 → Leads g path order → IsOrder g order
leads_over g [] order none leads = leads_end g order leads
leads_over g (f ∷ path) order none leads = absurd (omega (arith, none))
