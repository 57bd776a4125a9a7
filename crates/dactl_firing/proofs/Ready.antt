-- What the store has once its nodes are settled and new ones are added: room, and versions.
use Rattle.std.proofs.Common.{◌≡◌, ◌≢◌, ℕ, zero, suc, ◌+◌, ◌-◌, ◌<◌, ◌≤◌, ◌⊎◌, Bool, true, false, eqb, ltb, List, [], ◌∷◌, ◌++◌, length, get_or, map, All, Some, None, refl, sym, ap, ◌∙◌, arith, subst, inl, inr}
use Rattle.std.specs.List.{slice_get}
use Rattle.std.proofs.lemmas.Bool.{eqb-true, eqb-false, ltb-true, cases_Bool}
use Rattle.std.proofs.lemmas.Bool.Decides.{nat_tests}
use Rattle.std.proofs.lemmas.Option.{slice_get_past, slice_get-get_or, none-some, same_Some}
use Rattle.std.proofs.lemmas.List.{length-append}
use Rattle.std.proofs.lemmas.List.Elements.{All-append, All-map}
use Rattle.dactl_model.specs.declared.graph.NodeId.{NodeId}
use Rattle.dactl_model.specs.declared.graph.Label.{Label}
use Rattle.dactl_model.specs.declared.graph.Label.TheVariants.{Symbol, Integer, Character}
use Rattle.dactl_model.specs.declared.graph.Node.{Node}
use Rattle.dactl_model.specs.declared.graph.Graph.{Graph}
use Rattle.dactl_model.specs.declared.program.FreshNode.{FreshNode}
use Rattle.dactl_model.specs.Graphs.{HasNode}
use Rattle.dactl_model.specs.Firing.{old_nodes}
use Rattle.dactl_model.specs.Programs.{IsMention, AreFreshNodes, fresh_arcs, IsWritten, IsBody, IsDelta, IsValidRule, IsValid as IsValidProgram}
use Rattle.dactl_model.specs.Matching.{RuleMatches, Matches, HasResult, FitsRange, delta_label}
use Rattle.dactl_model.specs.declared.program.Body.{Body}
use Rattle.dactl_model.specs.declared.program.Body.TheVariants.{Written, Delta}
use Rattle.dactl_model.specs.declared.program.Rule.{Rule}
use Rattle.dactl_model.specs.declared.program.Program.{Program}
use Rattle.dactl_model.specs.Ending.{arcs_of}
use Rattle.dactl_model.specs.Versions.{content, content_of}
use Rattle.dactl_model.proofs.InRange.{word_fits}
use Rattle.dactl_model.proofs.KeptFire.{length-old_nodes}
use Rattle.dactl_store.specs.Held.{Held, IsValid}
use Rattle.dactl_store.specs.Contractum.{CanAppend}
use Rattle.dactl_store.specs.Redirecting.{IsLatest, IsVersioned}
use Rattle.dactl_firing.specs.Waking.{with_nodes}
use Rattle.dactl_firing.specs.Body.{CanMake}
use Rattle.dactl_firing.proofs.Settled.{same_arcs}
use Rattle.dactl_firing.proofs.Made.{arcs_settled}

-- the contents before the redirections are those of the graph
content_settled : (n : NodeId) (h : List NodeId) (wakes : List ℕ) (suspend k : ℕ) (nodes : List Node) (i : ℕ) → content_of (slice_get (old_nodes (λ x. x) n h wakes suspend k nodes) i) ≡ content_of (slice_get nodes i)
content_settled n h wakes suspend k [] i = refl
content_settled n h wakes suspend k (node ∷ nodes) zero = ap (λ arcs. Some (record { label = node.label; targets = map (λ a. a.target) arcs })) (same_arcs node.arcs)
content_settled n h wakes suspend k (node ∷ nodes) (suc i) = content_settled n h wakes suspend (k + 1) nodes i

in_first : {X : Type 0} (xs ys : List X) (i : ℕ) → i < length xs → slice_get (xs ++ ys) i ≡ slice_get xs i
in_first [] ys i below = absurd (omega arith)
in_first (x ∷ xs) ys zero below = refl
in_first (x ∷ xs) ys (suc i) below = in_first xs ys i (omega arith)

in_new : (version : ℕ) (xs : List ℕ) (fresh : List FreshNode) (i : ℕ) → length xs ≤ i → i < length xs + length fresh → slice_get (xs ++ map (λ _. version) fresh) i ≡ Some version
in_new version [] [] i new below = absurd (omega arith)
in_new version [] (node ∷ fresh) zero new below = refl
in_new version [] (node ∷ fresh) (suc i) new below = in_new version [] fresh i (omega arith) (omega arith)
in_new version (x ∷ xs) fresh zero new below = absurd (omega arith)
in_new version (x ∷ xs) fresh (suc i) new below = in_new version xs fresh i (omega arith) (omega arith)

nat_cases : (i n : ℕ) → (i < n) ⊎ (n ≤ i)
nat_cases i n = elim (cases_Bool (ltb i n)) [
  | inl less ↦ inl (ltb-true i n less)
  | inr more ↦ inr (grind (arith, nat_tests))
]

has_content : (nodes : List Node) (i : ℕ) → i < length nodes → content_of (slice_get nodes i) ≢ None
has_content [] i below same = absurd (omega arith)
has_content (node ∷ nodes) zero below same = none-some _ (sym same)
has_content (node ∷ nodes) (suc i) below same = has_content nodes i (omega arith) same

pub settled_count : (g first : Graph) (n : NodeId) (h : List NodeId) (wakes : List ℕ) (suspend : ℕ) → first ≡ with_nodes g (old_nodes (λ x. x) n h wakes suspend 0 g.nodes) → length first.nodes ≡ length g.nodes
settled_count g first n h wakes suspend settled = ap (λ x. length x.nodes) settled ∙ length-old_nodes (λ x. x) n h wakes suspend 0 g.nodes

pub settled_arcs : (g first : Graph) (n : NodeId) (h : List NodeId) (wakes : List ℕ) (suspend : ℕ) → first ≡ with_nodes g (old_nodes (λ x. x) n h wakes suspend 0 g.nodes) → arcs_of first ≡ arcs_of g
settled_arcs g first n h wakes suspend settled = ap arcs_of settled ∙ arcs_settled n h wakes suspend 0 g.nodes

module _ (old first second third : Held) (n : NodeId) (h : List NodeId) (wakes : List ℕ) (suspend : ℕ) (fresh : List FreshNode) (news : List Node) (version : ℕ) (valid : IsValid old)
    (settled : first.graph ≡ with_nodes old.graph (old_nodes (λ x. x) n h wakes suspend 0 old.graph.nodes)) (same_versions : first.versions ≡ old.versions) where
  count_first : length first.graph.nodes ≡ length old.graph.nodes
  count_first = settled_count old.graph first.graph n h wakes suspend settled

  module _ (long : length news ≡ length fresh) (added : second.graph.nodes ≡ first.graph.nodes ++ news) (new_versions : second.versions ≡ first.versions ++ map (λ _. version) fresh)
      (moved : IsVersioned version second third) (count : length third.graph.nodes ≡ length second.graph.nodes) where
    old_content : (x : NodeId) → x.number < length old.graph.nodes → content second.graph x ≡ content old.graph x
    old_content x below =
        ap (λ nodes. content_of (slice_get nodes x.number)) added
        ∙ ap content_of (in_first first.graph.nodes news x.number (omega (arith, count_first)))
        ∙ ap (λ g. content_of (slice_get g.nodes x.number)) settled
        ∙ content_settled n h wakes suspend 0 old.graph.nodes x.number

    old_version : (x : NodeId) → x.number < length old.graph.nodes → slice_get second.versions x.number ≡ slice_get old.versions x.number
    old_version x below =
        ap (λ vs. slice_get vs x.number) (new_versions ∙ ap (λ vs. vs ++ map (λ _. version) fresh) same_versions)
        ∙ in_first old.versions (map (λ _. version) fresh) x.number (omega (arith, valid.versions))

    all_counted : length third.graph.nodes ≡ length old.graph.nodes + length fresh
    all_counted = omega (arith, count, ap length added, length-append first.graph.nodes news, long, count_first)

    new_version : (x : NodeId) → length old.graph.nodes ≤ x.number → HasNode third.graph x → slice_get second.versions x.number ≡ Some version
    new_version x new there =
        ap (λ vs. slice_get vs x.number) (new_versions ∙ ap (λ vs. vs ++ map (λ _. version) fresh) same_versions)
        ∙ in_new version old.versions fresh x.number (omega (arith, valid.versions)) (omega (arith, valid.versions, all_counted))

    -- a new node has the version, whether the redirections changed its targets or not
    given_new : (x : NodeId) → length old.graph.nodes ≤ x.number → HasNode third.graph x → slice_get third.versions x.number ≡ Some version
    given_new x new there =
        let at = slice_get-get_or third.versions x.number 0 (omega (arith, moved.long)) in
        elim (cases_Bool (eqb (get_or third.versions x.number 0) version)) [
          | inl same ↦ at ∙ ap Some (eqb-true (get_or third.versions x.number 0) version same)
          | inr other ↦
              let unlike : slice_get third.versions x.number ≢ Some version = λ e. eqb-false (get_or third.versions x.number 0) version other (same_Some _ _ (sym at ∙ e)) in
              absurd (unlike (moved.given x there (λ e. unlike (moved.kept x there e ∙ new_version x new there))))
        ]

    pub versions_made : IsVersioned version old third
    versions_made = record {
      long = moved.long;
      kept = λ x there same. elim (nat_cases x.number (length old.graph.nodes)) [
        | inl below ↦ moved.kept x there (same ∙ sym (old_content x below)) ∙ old_version x below
        | inr new ↦
            let lacks : content old.graph x ≡ None = ap content_of (slice_get_past old.graph.nodes x.number new) in
            absurd (has_content third.graph.nodes x.number there (same ∙ lacks))
      ];
      given = λ x there other. elim (nat_cases x.number (length old.graph.nodes)) [
        | inl below ↦ moved.given x there (λ e. other (e ∙ old_content x below))
        | inr new ↦ given_new x new there
      ];
    }

-- a store that got new nodes of the version has none of a greater one
pub latest_grown : (old new : Held) (version : ℕ) (fresh : List FreshNode) → IsLatest version old → new.newest ≡ old.newest → new.versions ≡ old.versions ++ map (λ _. version) fresh → IsLatest version new
latest_grown old new version fresh latest same grown = record {
  newer = omega (arith, latest.newer);
  most = subst (All (λ v. v ≤ version)) (sym grown) (All-append (λ v. v ≤ version) old.versions (map (λ _. version) fresh) latest.most (All-map (λ v. v ≤ version) (λ _. version) fresh (λ k d below. omega arith)));
}

-- a version after it is as good
pub latest_after : (version after : ℕ) (held : Held) → version ≤ after → IsLatest version held → IsLatest after held
latest_after version after held later latest = record {
  newer = omega (arith, latest.newer);
  most = λ k d below. let most = latest.most k d below in omega arith;
}

-- a settled store has room for what the old one has
pub can_append : (old first : Held) (symbols variables : ℕ) (h : List NodeId) (fresh : List FreshNode) → length h ≡ variables → IsValid old → All (HasNode old.graph) h → AreFreshNodes symbols variables fresh
    → length fresh ≤ old.room.nodes - length old.graph.nodes → fresh_arcs fresh ≤ old.room.arcs - arcs_of old.graph
    → length first.graph.nodes ≡ length old.graph.nodes → arcs_of first.graph ≡ arcs_of old.graph → first.room ≡ old.room → CanAppend first h fresh
can_append old first symbols variables h fresh long valid nodes fine room_nodes room_arcs count arcs same = record {
  bound = λ k d below. let there = nodes k d below in omega (arith, there, valid.nodes, ap (λ r. r.nodes) same);
  few = λ k d below. (fine.each k d below).few;
  mentions = λ k d below. subst (λ v. All (λ a. IsMention v (length fresh) a.to) (get_or fresh k d).arcs) (sym long) (fine.each k d below).mentions;
  nodes = omega (arith, valid.nodes, ap (λ r. r.nodes) same, count);
  arcs = omega (arith, valid.arcs, ap (λ r. r.arcs) same, arcs);
}

-- the rule of an arithmetic symbol has two operands
two_of : (p : Program) (a b : Rule) (r : ℕ) → slice_get p.rules r ≡ Some a → slice_get p.rules r ≡ Some b → a.variables ≡ 2 → b.variables ≡ 2
two_of p a b r is also two = subst (λ rule. rule.variables ≡ 2) (same_Some a b (sym is ∙ also)) two

two_operands : (p : Program) (r : ℕ) (rule : Rule) → IsValidProgram p → slice_get p.rules r ≡ Some rule → r < 5 → rule.variables ≡ 2
two_operands p zero rule v is below = two_of p _ rule 0 v.add is refl
two_operands p (suc zero) rule v is below = two_of p _ rule 1 v.sub is refl
two_operands p (suc (suc zero)) rule v is below = two_of p _ rule 2 v.mul is refl
two_operands p (suc (suc (suc zero))) rule v is below = two_of p _ rule 3 v.eq is refl
two_operands p (suc (suc (suc (suc zero)))) rule v is below = two_of p _ rule 4 v.lt is refl
two_operands p (suc (suc (suc (suc (suc r))))) rule v is below = absurd (omega arith)

-- what is in the range of a program has 128 bits
fits_wide : (wide : Bool) (label : Label) → FitsRange wide label → FitsRange true label
fits_wide wide (Symbol f) fits = tt
fits_wide true (Integer i) fits = fits
fits_wide false (Integer i) fits = word_fits i fits
fits_wide wide (Character c) fits = tt

can_make_body : (wide : Bool) (symbols : ℕ) (g : Graph) (rule : Rule) (body : Body) (h : List NodeId) → length h ≡ rule.variables → HasResult wide body g h → IsBody symbols rule.variables body → (IsDelta body → rule.variables ≡ 2) → CanMake g h body
can_make_body wide symbols g rule (Written fresh moves wakes suspend) h long result fine operands = (symbols, subst (λ v. IsWritten symbols v fresh moves wakes) (sym long) fine)
can_make_body wide symbols g rule (Delta o) h long result fine operands = (long ∙ operands tt, fits_wide wide (delta_label o g h) result)

pub match_of : (p : Program) (g : Graph) (n : NodeId) (r : ℕ) (rule : Rule) (h : List NodeId) → slice_get p.rules r ≡ Some rule → Matches p g n r h → RuleMatches p.wide g n rule h
match_of p g n r rule h is match = rw is at match

-- the body of a valid program's rule can be made where the rule matches
pub can_make : (p : Program) (g : Graph) (n : NodeId) (r : ℕ) (rule : Rule) (h : List NodeId) → IsValidProgram p → slice_get p.rules r ≡ Some rule → Matches p g n r h → CanMake g h rule.body
can_make p g n r rule h valid is match =
    let fine : IsValidRule (length p.symbols) r rule = valid.rules r rule is in
    let matches : RuleMatches p.wide g n rule h = match_of p g n r rule h is match in
    can_make_body p.wide (length p.symbols) g rule rule.body h matches.long matches.result fine.body (λ delta. two_operands p r rule valid is (fine.delta delta))
