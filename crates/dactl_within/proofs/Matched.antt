-- Patterns hold at a node and at its image alike.
use Rattle.std.proofs.Common.{◌≡◌, ℕ, Bool, true, false, ◌&&◌, List, [], ◌∷◌, map, All, Option, Some, None, slice_get, refl, sym, ◌∙◌, ap, ◌==◌}
use Rattle.std.specs.List.{AllByRecursion}
use Rattle.std.specs.Option.{option_map}
use Rattle.std.proofs.lemmas.Option.{slice_get-map}
use Rattle.dactl_model.specs.declared.graph.NodeId.{NodeId}
use Rattle.dactl_model.specs.declared.graph.Label.{Label}
use Rattle.dactl_model.specs.declared.graph.Arc.{Arc}
use Rattle.dactl_model.specs.declared.graph.Node.{Node}
use Rattle.dactl_model.specs.declared.graph.Graph.{Graph}
use Rattle.dactl_model.specs.declared.program.Pat.{Pat}
use Rattle.dactl_model.specs.declared.program.Pat.TheOpen.{Pat-F}
use Rattle.dactl_model.specs.declared.program.Pat.TheViews.{roll-Pat}
use Rattle.dactl_model.specs.declared.program.Pat.TheFolds.{map-Pat}
use Rattle.dactl_model.specs.Patterns.{is_bound, sat, sat_level, all_hold, symbol_holds, label_holds, is_integer, is_character, has_integer, has_character, has_symbol}
use Rattle.dactl_model.specs.Binders.{place, place_level, first_place, symbol_place, bound_place, or_else}
use Rattle.dactl_model.specs.Graphs.{node_at, HasNode, IsWellFormed}
use Rattle.dactl_model.specs.Firing.{redirected_arc}
use Rattle.dactl_model.proofs.Induction.{Each, pat_induction}
use Rattle.dactl_model.proofs.Unique.{sat_roll, place_roll}
use Rattle.dactl_model.proofs.Pairs.{All-slice_get}
use Rattle.dactl_within.specs.Renumbering.{renumbered, Renumbers}
use Rattle.dactl_within.proofs.Places.{same_kept, node_there, targets_in, NodeThere}

module _ (f : NodeId → NodeId) (h g : Graph) (fine : IsWellFormed h) (is : Renumbers f h g) (b : List NodeId) (all : All (HasNode h) b) where
  abbrev pub Kept : Pat → Type 0
  Kept p = (n : NodeId) → HasNode h n → sat g (map f b) p (f n) ≡ sat h b p n

  kept_opened : (x : Pat-F Pat)
      → ((n : NodeId) → HasNode h n → sat_level g (map f b) (map-Pat Pat (NodeId → Bool) (sat g (map f b)) x) (f n) ≡ sat_level h b (map-Pat Pat (NodeId → Bool) (sat h b) x) n)
      → Kept (roll-Pat x)
  kept_opened x claim n has = sat_roll g (map f b) x (f n) ∙ claim n has ∙ sym (sat_roll h b x n)

  -- a test of a node that sees label and arcs
  at_node : (t u : Option Node → Bool) → ((node : Node) → AllByRecursion (λ a. HasNode h a.target) node.arcs → t (Some (renumbered f node)) ≡ u (Some node)) → (n : NodeId) → HasNode h n → t (node_at g (f n)) ≡ u (node_at h n)
  at_node t u step n has =
      let there : NodeThere h n = node_there h n has in
      ap t (is.nodes n there.0 there.1) ∙ step there.0 (targets_in h n there.0 fine there.1) ∙ sym (ap u there.1)

  label_kept : (test : Label → Bool) (n : NodeId) → HasNode h n → label_holds (node_at g (f n)) test ≡ label_holds (node_at h n) test
  label_kept test = at_node (λ o. label_holds o test) (λ o. label_holds o test) (λ node have. refl)

  all_kept : (args : List Pat) → Each Kept args → (arcs : List Arc) → AllByRecursion (λ a. HasNode h a.target) arcs → all_hold (map (sat g (map f b)) args) (map (redirected_arc f) arcs) ≡ all_hold (map (sat h b) args) arcs
  all_kept [] each [] have = refl
  all_kept [] each (a ∷ arcs) have = refl
  all_kept (p ∷ ps) each [] have = refl
  all_kept (p ∷ ps) each (a ∷ arcs) have = rw (each.0 a.target have.0, all_kept ps each.1 arcs have.1) refl

  bound_kept : (o : Option NodeId) (n : NodeId) → ((m : NodeId) → o ≡ Some m → HasNode h m) → HasNode h n → is_bound (option_map f o) (f n) ≡ is_bound o n
  bound_kept None n there has = refl
  bound_kept (Some m) n there has = same_kept f m n (is.once m n (there m refl) has)

  binder_kept : (v : ℕ) (n : NodeId) → HasNode h n → is_bound (slice_get (map f b) v) (f n) ≡ is_bound (slice_get b v) n
  binder_kept v n has = ap (λ o. is_bound o (f n)) (slice_get-map f b v) ∙ bound_kept (slice_get b v) n (λ m at. All-slice_get (HasNode h) b v m all at) has

  pub sat_kept : (p : Pat) → Kept p
  sat_kept = pat_induction Kept (record {
    any = kept_opened Pat-F.Any (λ n has. refl);
    int = kept_opened Pat-F.Int (label_kept is_integer);
    char = kept_opened Pat-F.Char (label_kept is_character);
    literal = λ i. kept_opened (Pat-F.Literal i) (label_kept (λ l. has_integer l i));
    letter = λ c. kept_opened (Pat-F.Letter c) (label_kept (λ l. has_character l c));
    symbol = λ s args each. kept_opened (Pat-F.Sym s args) (at_node (λ o. symbol_holds o s (map (sat g (map f b)) args)) (λ o. symbol_holds o s (map (sat h b) args))
        (λ node have. ap (λ c. has_symbol node.label s && c) (all_kept args each node.arcs have)));
    bind = λ v q ih. kept_opened (Pat-F.Bind v q) (λ n has. rw (binder_kept v n has, ih n has) refl);
    union = λ q s ih1 ih2. kept_opened (Pat-F.Union q s) (λ n has. rw (ih1 n has, ih2 n has) refl);
    less = λ q s ih1 ih2. kept_opened (Pat-F.Less q s) (λ n has. rw (ih1 n has, ih2 n has) refl);
  })

-- a node of g at which a binder stands is the image of one of h
abbrev pub IsSent : (NodeId → NodeId) → Graph → NodeId → Type 0
IsSent f h x = (y : NodeId) × HasNode h y × (f y ≡ x)

module _ (f : NodeId → NodeId) (h g : Graph) (fine : IsWellFormed h) (is : Renumbers f h g) (v : ℕ) where
  abbrev pub Back : Pat → Type 0
  Back p = (n x : NodeId) → HasNode h n → place g v p (f n) ≡ Some x → IsSent f h x

  back_opened : (y : Pat-F Pat)
      → ((n x : NodeId) → HasNode h n → place_level g v (map-Pat Pat (NodeId → Option NodeId) (place g v) y) (f n) ≡ Some x → IsSent f h x)
      → Back (roll-Pat y)
  back_opened y claim n x has at = claim n x has (sym (place_roll g v y (f n)) ∙ at)

  first_back : (args : List Pat) → Each Back args → (arcs : List Arc) → AllByRecursion (λ a. HasNode h a.target) arcs → (x : NodeId) → first_place (map (place g v) args) (map (redirected_arc f) arcs) ≡ Some x → IsSent f h x
  first_back [] each arcs have x at = cc
  first_back (p ∷ ps) each [] have x at = cc
  first_back (p ∷ ps) each (a ∷ arcs) have x at =
      (elim (place g v p (f a.target)) as (λ o. place g v p (f a.target) ≡ o → or_else o (first_place (map (place g v) ps) (map (redirected_arc f) arcs)) ≡ Some x → IsSent f h x) [
        | None ↦ λ e t. first_back ps each.1 arcs have.1 x t
        | Some k ↦ λ e t. each.0 a.target x have.0 (e ∙ t)
      ]) refl at

  symbol_back : (s : ℕ) (args : List Pat) → Each Back args → (n x : NodeId) → HasNode h n → symbol_place (node_at g (f n)) (map (place g v) args) ≡ Some x → IsSent f h x
  symbol_back s args each n x has at =
      let there : NodeThere h n = node_there h n has in
      first_back args each there.0.arcs (targets_in h n there.0 fine there.1) x (sym (ap (λ o. symbol_place o (map (place g v) args)) (is.nodes n there.0 there.1)) ∙ at)

  bind_back : (q : Pat) → Back q → (n x : NodeId) → HasNode h n → (c : Bool) → bound_place c (f n) (place g v q (f n)) ≡ Some x → IsSent f h x
  bind_back q ih n x has true at = let same : f n ≡ x = cc in (n, has, same)
  bind_back q ih n x has false at = ih n x has at

  pub place_back : (p : Pat) → Back p
  place_back = pat_induction Back (record {
    any = back_opened Pat-F.Any (λ n x has at. cc);
    int = back_opened Pat-F.Int (λ n x has at. cc);
    char = back_opened Pat-F.Char (λ n x has at. cc);
    literal = λ i. back_opened (Pat-F.Literal i) (λ n x has at. cc);
    letter = λ c. back_opened (Pat-F.Letter c) (λ n x has at. cc);
    symbol = λ s args each. back_opened (Pat-F.Sym s args) (symbol_back s args each);
    bind = λ w q ih. back_opened (Pat-F.Bind w q) (λ n x has at. bind_back q ih n x has (w == v) at);
    union = λ q s ih1 ih2. back_opened (Pat-F.Union q s) (λ n x has at. cc);
    less = λ q s ih1 ih2. back_opened (Pat-F.Less q s) (λ n x has at. ih1 n x has at);
  })
