-- Arcs and new nodes after a step are as the invariant wants.
use Rattle.std.proofs.Common.{◌≡◌, ℕ, zero, suc, ◌+◌, ◌<◌, true, false, List, [], ◌∷◌, map, Option, Some, None, slice_get, refl, sym, ◌∙◌, ap, subst, ◌⊎◌, inl, inr}
use Rattle.std.specs.List.{AllByRecursion}
use Rattle.std.proofs.lemmas.List.{length-map}
use Rattle.dactl_model.specs.declared.graph.NodeId.{NodeId}
use Rattle.dactl_model.specs.declared.graph.Label.{Label}
use Rattle.dactl_model.specs.declared.graph.Arc.{Arc}
use Rattle.dactl_model.specs.declared.graph.Node.{Node}
use Rattle.dactl_model.specs.declared.graph.Graph.{Graph}
use Rattle.dactl_model.specs.declared.program.Mention.{Mention}
use Rattle.dactl_model.specs.declared.program.Mention.TheVariants.{Old, Fresh}
use Rattle.dactl_model.specs.declared.program.FreshArc.{FreshArc}
use Rattle.dactl_model.specs.declared.program.FreshNode.{FreshNode}
use Rattle.dactl_model.specs.declared.program.Program.{Program}
use Rattle.dactl_model.specs.Graphs.{node_at, HasNode}
use Rattle.dactl_model.specs.Matching.{bound_node}
use Rattle.dactl_model.specs.Firing.{mentioned, fresh_arc, fresh_node}
use Rattle.dactl_model.specs.Versions.{Content, content, content_of}
use Rattle.dactl_model.proofs.Counting.{count_by-map}
use Rattle.fun_meaning.specs.declared.tree.Fun.{Fun}
use Rattle.fun_meaning.specs.Names.{Spelling}
use Rattle.fun_meaning.specs.Meaning.{symbol_names}
use Rattle.fun_meaning.specs.Translation.{is_arithmetic, is_check, FitsSymbol, SettledNode, SettledMention, SettledAt, NoOperationNode, NoOperation, IsTidyFreshArc, IsTidyFresh}
use Rattle.fun_meaning.specs.Invariant.{Finished, IsStuck, IsTidyArc, IsTidyNode}
use Rattle.fun_meaning.proofs.Zips.{each_map}
use Rattle.fun_meaning.proofs.Depths.{AreConstructors}
use Rattle.fun_meaning.proofs.Backwards.{IsCarried}
use Rattle.fun_meaning.proofs.Contractum.{AreNew}
use Rattle.fun_meaning.proofs.After.{node_there}
use Rattle.fun_meaning.proofs.Settled.{finished_over, finished_label, settled_plain, finished_kept}

-- the node there is no operation
abbrev pub IsPlainAt : List Spelling → Graph → NodeId → Type 0
IsPlainAt symbols g x = (node : Node) → node_at g x ≡ Some node → is_arithmetic symbols node.label ≡ false

-- an arc without a flag may lead there
abbrev pub Settles : Fun → Program → Graph → Label → NodeId → Type 0
Settles e p g label x = Finished e (symbol_names p) g x ⊎ ((is_check (symbol_names p) label ≡ true) × IsStuck p g x)

content_label : (node : Node) (label : Label) (targets : List NodeId) → content_of (Some node) ≡ Some (record { label = label; targets = targets }) → node.label ≡ label
content_label node label targets is =
    let inner : ◌≡◌ {A = Content} (record { label = node.label; targets = map (λ a. a.target) node.arcs }) (record { label = label; targets = targets }) = cc in
    ap (λ c. c.label) inner

pub label_at : (g : Graph) (x : NodeId) (node : Node) (label : Label) (targets : List NodeId) → node_at g x ≡ Some node → content g x ≡ Some (record { label = label; targets = targets }) → node.label ≡ label
label_at g x node label targets at is = content_label node label targets (sym (ap content_of at) ∙ is)

module _ (e : Fun) (p : Program) (g after : Graph) (send : NodeId → NodeId) (carried : IsCarried send g after) (stays : (x : NodeId) → Finished e (symbol_names p) g x → send x ≡ x)
    (moved : (x : NodeId) → HasNode g x → (send x ≡ x) ⊎ IsPlainAt (symbol_names p) after (send x)) (stuck : (x : NodeId) → IsStuck p g x → IsStuck p after (send x)) where
  plain_same : (x : NodeId) → HasNode g x → IsPlainAt (symbol_names p) g x → IsPlainAt (symbol_names p) after x
  plain_same x has plain node at =
      let there = node_there g x has in
      ap (is_arithmetic (symbol_names p)) (label_at after x node there.0.label (map send (map (λ a. a.target) there.0.arcs)) at (carried x (record { label = there.0.label; targets = map (λ a. a.target) there.0.arcs }) (ap content_of there.1)))
      ∙ plain there.0 there.1

  plain_sent : (x : NodeId) → HasNode g x → IsPlainAt (symbol_names p) g x → IsPlainAt (symbol_names p) after (send x)
  plain_sent x has plain =
      elim (moved x has) [
        | inl same ↦ subst (IsPlainAt (symbol_names p) after) (sym same) (plain_same x has plain)
        | inr other ↦ other
      ]

  settles_sent : (label : Label) (x : NodeId) → Settles e p g label x → Settles e p after label (send x)
  settles_sent label x (inl finished) = inl (subst (Finished e (symbol_names p) after) (sym (stays x finished)) (finished.0, finished_kept finished.0 e (symbol_names p) g after send carried stays x finished.1))
  settles_sent label x (inr is) = inr (is.0, stuck x is.1)

  settles_or : (label : Label) (a : Arc) → IsTidyArc e p g label a → (a.waits ≡ false) ⊎ Settles e p after label (send a.target) → Settles e p after label (send a.target)
  settles_or label a tidy (inl before) = settles_sent label a.target (tidy.settled before)
  settles_or label a tidy (inr now) = now

  -- an arc that still waits, or leads where it may
  pub arc_kept : (label : Label) (a b : Arc) → HasNode g a.target → b.target ≡ send a.target → (b.waits ≡ false → (a.waits ≡ false) ⊎ Settles e p after label (send a.target)) → IsTidyArc e p g label a → IsTidyArc e p after label b
  arc_kept label a b has target waits tidy = record {
    settled = λ free. subst (Settles e p after label) (sym target) (settles_or label a tidy (waits free));
    checked = λ no_check. subst (IsPlainAt (symbol_names p) after) (sym target) (plain_sent a.target has (tidy.checked no_check));
  }

  pub arcs_kept : (label : Label) (change : Arc → Arc) → ((a : Arc) → (change a).target ≡ send a.target) → ((a : Arc) → IsTidyArc e p g label a → (change a).waits ≡ false → (a.waits ≡ false) ⊎ Settles e p after label (send a.target))
      → (arcs : List Arc) → AllByRecursion (HasNode g) (map (λ a. a.target) arcs) → AllByRecursion (IsTidyArc e p g label) arcs → AllByRecursion (IsTidyArc e p after label) (map change arcs)
  arcs_kept label change targets waits [] has all = tt
  arcs_kept label change targets waits (a ∷ arcs) has all = (arc_kept label a (change a) has.0 (targets a) (waits a all.0) all.0, arcs_kept label change targets waits arcs has.1 all.1)

module _ (e : Fun) (p : Program) (after : Graph) (m : ℕ) (h : List NodeId) (send : NodeId → NodeId) (count : ℕ) (fresh : List FreshNode) (plain : AreConstructors e) (new : AreNew after m h send fresh)
    (new_stay : (j : ℕ) → send (record { number = m + j }) ≡ record { number = m + j })
    (olds : (v : ℕ) → v < count → Finished e (symbol_names p) after (bound_node h v)) (old_stay : (v : ℕ) → v < count → send (bound_node h v) ≡ bound_node h v) where
  -- the mention's node is finished, and stays
  abbrev IsSettledTo : Mention → Type 0
  IsSettledTo t = Finished e (symbol_names p) after (mentioned m h t) × (send (mentioned m h t) ≡ mentioned m h t)

  settled_new : (settled : Mention → Type 0) → ((t : Mention) → settled t → IsSettledTo t) → (i : ℕ) (o : Option FreshNode) → slice_get fresh i ≡ o → SettledNode e (symbol_names p) settled o → IsSettledTo (Fresh i)
  settled_new settled step i None at is = absurd is
  settled_new settled step i (Some node) at is = (
    finished_over e (symbol_names p) after (record { number = m + i }) (record { label = node.label; targets = map (λ a. send (mentioned m h a.to)) node.arcs }) (new i node at) is.0
        (each_map (λ a. send (mentioned m h a.to)) (λ a. settled a.to) (Finished e (symbol_names p) after) (λ a was. let to = step a.to was in subst (Finished e (symbol_names p) after) (sym to.1) to.0) node.arcs is.1),
    new_stay i,
  )

  settled_one : (settled : Mention → Type 0) → ((t : Mention) → settled t → IsSettledTo t) → (t : Mention) → SettledMention e (symbol_names p) count fresh settled t → IsSettledTo t
  settled_one settled step (Old v) is = (olds v is, old_stay v is)
  settled_one settled step (Fresh i) is = settled_new settled step i (slice_get fresh i) refl is

  settled_to : (d : ℕ) (t : Mention) → SettledAt d e (symbol_names p) count fresh t → IsSettledTo t
  settled_to zero t is = absurd is
  settled_to (suc d) t is = settled_one (SettledAt d e (symbol_names p) count fresh) (settled_to d) t is

  plain_new : (i : ℕ) (o : Option FreshNode) → slice_get fresh i ≡ o → NoOperationNode (symbol_names p) o → IsPlainAt (symbol_names p) after (record { number = m + i })
  plain_new i None at is = absurd is
  plain_new i (Some fresh_one) at is = λ node node_is.
      ap (is_arithmetic (symbol_names p)) (label_at after (record { number = m + i }) node fresh_one.label (map (λ a. send (mentioned m h a.to)) fresh_one.arcs) node_is (new i fresh_one at)) ∙ is

  -- a mention of no operation
  pub plain_mention : (t : Mention) → NoOperation (symbol_names p) count fresh t → IsPlainAt (symbol_names p) after (mentioned m h t)
  plain_mention (Old v) is = λ node node_is. settled_plain e (symbol_names p) node.label plain (finished_label (olds v is).0 e (symbol_names p) after (bound_node h v) node (olds v is).1 node_is)
  plain_mention (Fresh i) is = plain_new i (slice_get fresh i) refl is

  mention_stays : (t : Mention) → NoOperation (symbol_names p) count fresh t → send (mentioned m h t) ≡ mentioned m h t
  mention_stays (Old v) is = old_stay v is
  mention_stays (Fresh i) is = new_stay i

  fresh_arc_tidy : (label : Label) (a : FreshArc) → IsTidyFreshArc e (symbol_names p) count fresh label a → IsTidyArc e p after label (fresh_arc m h send a)
  fresh_arc_tidy label a tidy = record {
    settled = λ free. let deep = tidy.settled free in let to = settled_to deep.0 a.to deep.1 in inl (subst (Finished e (symbol_names p) after) (sym to.1) to.0);
    checked = λ no_check. subst (IsPlainAt (symbol_names p) after) (sym (mention_stays a.to (tidy.checked no_check))) (plain_mention a.to (tidy.checked no_check));
  }

  -- a new node
  pub fresh_tidy : (node : FreshNode) → IsTidyFresh e (symbol_names p) count fresh node → IsTidyNode e p after (fresh_node m h send node)
  fresh_tidy node tidy = record {
    symbol = subst (FitsSymbol e (symbol_names p) node.label) (sym (length-map node.arcs (fresh_arc m h send))) tidy.symbol;
    mark = count_by-map (λ a. a.waits) (λ a. a.waits) (fresh_arc m h send) (λ a. refl) node.arcs ∙ tidy.mark;
    arcs_tidy = each_map (fresh_arc m h send) (IsTidyFreshArc e (symbol_names p) count fresh node.label) (IsTidyArc e p after node.label) (fresh_arc_tidy node.label) node.arcs tidy.arcs_tidy;
  }
