-- Steps of a part and steps of the whole.
use Rattle.std.proofs.Common.{◌≡◌, ℕ, zero, suc, ◌+◌, ◌-◌, ◌<◌, List, [], ◌∷◌, ◌++◌, map, length, All, Some, slice_get, refl, sym, ◌∙◌, ap, subst, arith, inl, inr, length-append}
use Rattle.std.specs.List.{AllByRecursion}
use Rattle.std.proofs.lemmas.List.Elements.{recursion_from_All}
use Rattle.std.proofs.lemmas.Option.{slice_get_cases}
use Rattle.dactl_model.specs.declared.graph.NodeId.{NodeId}
use Rattle.dactl_model.specs.declared.graph.Mark.TheVariants.{Active}
use Rattle.dactl_model.specs.declared.graph.Graph.{Graph}
use Rattle.dactl_model.specs.declared.program.Body.{Body}
use Rattle.dactl_model.specs.declared.program.Body.TheVariants.{Written, Delta}
use Rattle.dactl_model.specs.declared.program.Rule.{Rule}
use Rattle.dactl_model.specs.declared.program.Program.{Program}
use Rattle.dactl_model.specs.Graphs.{node_at, HasNode, IsWellFormed}
use Rattle.dactl_model.specs.Programs.{IsValid, IsBody}
use Rattle.dactl_model.specs.Matching.{bound_node, RuleMatches, IsActive}
use Rattle.dactl_model.specs.Firing.{new_nodes, redirections, woken_variables, suspension, rewritten, fired, fresh_count}
use Rattle.dactl_model.specs.Noting.{noted}
use Rattle.dactl_model.proofs.KeptNote.{length-noted_nodes}
use Rattle.dactl_model.proofs.Pairs.{has_node}
use Rattle.dactl_within.specs.Renumbering.{Renumbers, image, IsWithin, nodes_from, IsGrown}
use Rattle.dactl_within.proofs.Places.{agrees}
use Rattle.dactl_within.proofs.Allowing.{some_and, HasOperands, has_operands, delta_kept}
use Rattle.dactl_within.proofs.After.{get_append_left, get_append_right, length-rewritten}
use Rattle.dactl_within.proofs.FireKept.{numbered, SendsNew, rewritten_kept}
use Rattle.dactl_within.proofs.NoteKept.{noted_kept}

pub length-nodes_from : (m count : ℕ) → length (nodes_from m count) ≡ count
length-nodes_from m zero = refl
length-nodes_from m (suc count) = ap suc (length-nodes_from (m + 1) count)

get-nodes_from : (m count i : ℕ) → i < count → slice_get (nodes_from m count) i ≡ Some (numbered (m + i))
get-nodes_from m zero i below = absurd (omega arith)
get-nodes_from m (suc count) zero below = let number : m ≡ m + 0 = omega arith in ap (λ k. Some (numbered k)) number
get-nodes_from m (suc count) (suc i) below =
    let number : (m + 1) + i ≡ m + suc i = omega arith in
    get-nodes_from (m + 1) count i (omega arith) ∙ ap (λ k. Some (numbered k)) number

bound_at : (f : List NodeId) (v : ℕ) (x : NodeId) → slice_get f v ≡ Some x → bound_node f v ≡ x
bound_at f v x at = rw at refl

-- a longer list has the same images
pub image_stays : (f more : List NodeId) (x : NodeId) → x.number < length f → image (f ++ more) x ≡ image f x
image_stays f more x below =
    elim (slice_get_cases f x.number).1 [
      | inl (y, within, at, same) ↦ bound_at (f ++ more) x.number y (get_append_left f more x.number y at) ∙ sym (bound_at f x.number y at)
      | inr (past, none) ↦ absurd (omega arith)
    ]

-- and the new nodes have the next numbers
pub image_new : (f : List NodeId) (m n count i : ℕ) → length f ≡ m → i < count → image (f ++ nodes_from n count) (numbered (m + i)) ≡ numbered (n + i)
image_new f m n count i long below =
    bound_at (f ++ nodes_from n count) (m + i) (numbered (n + i)) (get_append_right f (nodes_from n count) m i long ∙ get-nodes_from n count i below)

-- one firing, by a map that sends the new nodes too
pub fired_kept : (f : NodeId → NodeId) (h g : Graph) (fine : IsWellFormed h) (is : Renumbers f h g) (symbols : ℕ) (body : Body) → SendsNew f h g (fresh_count body)
    → (n : NodeId) → HasNode h n → (b : List NodeId) → All (HasNode h) b → IsBody symbols (length b) body → HasOperands body (length b)
    → Renumbers f (fired h n b body) (fired g (f n) (map f b) body)
fired_kept f h g fine is symbols (Written fresh moves wakes suspend) news n has b all sound two =
    rewritten_kept f h g fine is (length fresh) news n has b all moves (recursion_from_All _ _ sound.move_ends) suspend wakes (recursion_from_All _ _ sound.woken) fresh refl
    (recursion_from_All _ _ (λ k d below. recursion_from_All _ _ (sound.news.each k d below).mentions))
fired_kept f h g fine is symbols (Delta o) news n has b all sound two =
    subst (λ l. Renumbers f (fired h n b (Delta o)) (rewritten g (f n) (map f b) (record { label = l; arcs = []; mark = Active } ∷ []) (redirections (Delta o)) [] 0)) (sym (delta_kept f h g fine is o b all (two tt)))
    (rewritten_kept f h g fine is 1 news n has b all (redirections (Delta o)) ((tt, omega arith), tt) 0 [] tt (new_nodes (Delta o) h b) refl (tt, tt))

fresh_is : (body : Body) (g : Graph) (b : List NodeId) → length (new_nodes body g b) ≡ fresh_count body
fresh_is (Written fresh moves wakes suspend) g b = refl
fresh_is (Delta o) g b = refl

pub length-fired : (g : Graph) (n : NodeId) (b : List NodeId) (body : Body) → length (fired g n b body).nodes ≡ length g.nodes + fresh_count body
length-fired g n b body = length-rewritten g n b (new_nodes body g b) (redirections body) (woken_variables body) (suspension body) ∙ ap (λ c. length g.nodes + c) (fresh_is body g b)

map_same : (f f' : NodeId → NodeId) (h : Graph) → ((x : NodeId) → HasNode h x → f' x ≡ f x) → (b : List NodeId) → AllByRecursion (HasNode h) b → map f' b ≡ map f b
map_same f f' h same [] all = refl
map_same f f' h same (x ∷ b) all = ap (λ y. y ∷ map f' b) (same x all.0) ∙ ap (λ ys. f x ∷ ys) (map_same f f' h same b all.1)

pub node_of_active : (g : Graph) (n : NodeId) → IsActive g n → HasNode g n
node_of_active g n active = let there = some_and (λ node. node.mark ≡ Active) (node_at g n) active in has_node g n there.0 there.1

module _ (f : List NodeId) (h g : Graph) (fine : IsWellFormed h) (is : IsWithin f h g) where
  pub stays : (more : List NodeId) (x : NodeId) → HasNode h x → image (f ++ more) x ≡ image f x
  stays more x has = image_stays f more x (omega (arith, is.long, has))

  pub grown_by : (count : ℕ) (h' g' : Graph) → length h'.nodes ≡ length h.nodes + count → length g'.nodes ≡ length g.nodes + count → Renumbers (image (f ++ nodes_from (length g.nodes) count)) h' g' → IsGrown f h g h' g'
  grown_by count h' g' one other renumbers =
      let size : count ≡ length h'.nodes - length h.nodes = omega (arith, one) in
      record {
        more = omega (arith, one);
        alike = omega (arith, one, other);
        within = record {
          long = length-append f (nodes_from (length g.nodes) (length h'.nodes - length h.nodes)) ∙ ap (λ c. length f + c) (length-nodes_from (length g.nodes) (length h'.nodes - length h.nodes)) ∙ omega (arith, one, is.long);
          renumbers = subst (λ c. Renumbers (image (f ++ nodes_from (length g.nodes) c)) h' g') size renumbers;
        };
      }

  module _ (p : Program) (valid : IsValid p) where
    -- one firing
    pub fire_pair : (n : NodeId) (r : ℕ) (rule : Rule) (b : List NodeId) → HasNode h n → slice_get p.rules r ≡ Some rule → RuleMatches p.wide h n rule b
        → IsGrown f h g (fired h n b rule.body) (fired g (image f n) (map (image f) b) rule.body)
    fire_pair n r rule b has at m =
        let count = fresh_count rule.body in
        let more = nodes_from (length g.nodes) (fresh_count rule.body) in
        let f' = image (f ++ nodes_from (length g.nodes) (fresh_count rule.body)) in
        let wider : Renumbers (image (f ++ nodes_from (length g.nodes) (fresh_count rule.body))) h g = agrees (image f) f' h g fine (stays more) is.renumbers in
        let sound : IsBody (length p.symbols) (length b) rule.body = subst (λ c. IsBody (length p.symbols) c rule.body) (sym m.long) (valid.rules r rule at).body in
        let two : HasOperands rule.body (length b) = subst (HasOperands rule.body) (sym m.long) (has_operands p valid r rule at) in
        let after : Renumbers (image (f ++ nodes_from (length g.nodes) (fresh_count rule.body))) (fired h n b rule.body) (fired g (f' n) (map f' b) rule.body) =
        fired_kept f' h g fine wider (length p.symbols) rule.body (λ i below. image_new f (length h.nodes) (length g.nodes) count i is.long below) n has b m.nodes sound two in
        let root : Renumbers (image (f ++ nodes_from (length g.nodes) (fresh_count rule.body))) (fired h n b rule.body) (fired g (image f n) (map f' b) rule.body) =
        subst (λ y. Renumbers f' (fired h n b rule.body) (fired g y (map f' b) rule.body)) (stays more n has) after in
        grown_by count (fired h n b rule.body) (fired g (image f n) (map (image f) b) rule.body) (length-fired h n b rule.body) (length-fired g (image f n) (map (image f) b) rule.body)
        (subst (λ k. Renumbers f' (fired h n b rule.body) (fired g (image f n) k rule.body)) (map_same (image f) f' h (stays more) b (recursion_from_All (HasNode h) b m.nodes)) root)

    -- one notification
    pub note_pair : (n : NodeId) → HasNode h n → IsGrown f h g (noted h n) (noted g (image f n))
    note_pair n has =
        let wider : Renumbers (image (f ++ nodes_from (length g.nodes) 0)) h g = agrees (image f) (image (f ++ [])) h g fine (stays []) is.renumbers in
        let after : Renumbers (image (f ++ nodes_from (length g.nodes) 0)) (noted h n) (noted g (image (f ++ []) n)) = noted_kept (image (f ++ [])) h g fine wider n has in
        grown_by 0 (noted h n) (noted g (image f n)) (length-noted_nodes n 0 h.nodes ∙ omega arith) (length-noted_nodes (image f n) 0 g.nodes ∙ omega arith)
        (subst (λ y. Renumbers (image (f ++ nodes_from (length g.nodes) 0)) (noted h n) (noted g y)) (stays [] n has) after)
