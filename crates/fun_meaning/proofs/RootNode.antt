-- The node at which a rule fires, and where its one redirection leads.
use Rattle.std.proofs.Common.{◌≡◌, ℕ, zero, suc, ◌+◌, ◌<◌, Bool, true, false, List, map, Option, Some, None, IsSomeAnd, slice_get, refl, sym, ◌∙◌, ap, subst, arith, if◌then◌else◌, ◌⊎◌, inl, inr, ◌==◌}
use Rattle.std.proofs.lemmas.Bool.{eqb-true, eq-eqb}
use Rattle.dactl_model.specs.declared.graph.NodeId.{NodeId}
use Rattle.dactl_model.specs.declared.graph.Label.{Label}
use Rattle.dactl_model.specs.declared.graph.Label.TheVariants.{Symbol, Integer, Character}
use Rattle.dactl_model.specs.declared.graph.Mark.TheVariants.{Active}
use Rattle.dactl_model.specs.declared.graph.Node.{Node}
use Rattle.dactl_model.specs.declared.graph.Graph.{Graph}
use Rattle.dactl_model.specs.declared.program.Pat.{Pat}
use Rattle.dactl_model.specs.declared.program.Pat.TheOpen.{Pat-F}
use Rattle.dactl_model.specs.declared.program.Pat.TheViews.{roll-Pat}
use Rattle.dactl_model.specs.declared.program.Mention.{Mention}
use Rattle.dactl_model.specs.Graphs.{node_at}
use Rattle.dactl_model.specs.Patterns.{sat, all_hold, symbol_holds, has_symbol, same_node}
use Rattle.dactl_model.specs.Matching.{IsActive}
use Rattle.dactl_model.specs.Firing.{mentioned, redirection}
use Rattle.dactl_model.specs.Versions.{content_of}
use Rattle.dactl_model.proofs.Unique.{left_true, right_true, sat_roll, same_node_is}
use Rattle.fun_meaning.specs.declared.tree.Expr.{Expr}
use Rattle.fun_meaning.specs.declared.tree.Fun.{Fun}
use Rattle.fun_meaning.specs.Names.{Spelling}
use Rattle.fun_meaning.specs.Values.{is_constructor}
use Rattle.fun_meaning.specs.Meaning.{UnfoldsNamed, UnfoldsLabel, UnfoldsContent, UnfoldsAt, MeansAt, Means}
use Rattle.fun_meaning.specs.Translation.{root_to}
use Rattle.fun_meaning.proofs.Depths.{deeper}
use Rattle.fun_meaning.proofs.Backwards.{IsCarried, IsThere, IsClosed, means_back}

-- the node where a symbol pattern holds
pub record IsRoot (g : Graph) (h : List NodeId) (n : NodeId) (f : ℕ) (args : List Pat) : Type 0 where
  pub node : Node
  pub at : node_at g n ≡ Some node
  pub label : node.label ≡ Symbol f
  pub hold : all_hold (map (sat g h) args) node.arcs ≡ true

pub label_is : (label : Label) (f : ℕ) → has_symbol label f ≡ true → label ≡ Symbol f
label_is (Integer i) f is = cc
label_is (Character c) f is = cc
label_is (Symbol s) f is = ap Symbol (eqb-true s f is)

root_from : (g : Graph) (h : List NodeId) (n : NodeId) (f : ℕ) (args : List Pat) (o : Option Node) → node_at g n ≡ o → symbol_holds o f (map (sat g h) args) ≡ true → IsRoot g h n f args
root_from g h n f args None at holds = cc
root_from g h n f args (Some node) at holds =
    let label : has_symbol node.label f ≡ true = left_true _ _ holds in
    let hold : all_hold (map (sat g h) args) node.arcs ≡ true = right_true _ _ holds in
    record { node = node; at = at; label = label_is node.label f label; hold = hold }

pub root_node : (g : Graph) (h : List NodeId) (n : NodeId) (f : ℕ) (args : List Pat) (p : Pat) → p ≡ roll-Pat (Pat-F.Sym f args) → sat g h p n ≡ true → IsRoot g h n f args
root_node g h n f args p is holds = root_from g h n f args (node_at g n) refl (sym (sat_roll g h (Pat-F.Sym f args) n) ∙ subst (λ q. sat g h q n ≡ true) is holds)

pub root_active : (g : Graph) (n : NodeId) (node : Node) → node_at g n ≡ Some node → IsActive g n → node.mark ≡ Active
root_active g n node at active = subst (λ o. IsSomeAnd o (λ x. x.mark ≡ Active)) at active

-- the one redirection, at its left side and elsewhere
pub sent_root : (m : ℕ) (n : NodeId) (h : List NodeId) (t : Mention) → redirection m n h (root_to t) n ≡ mentioned m h t
sent_root m n h t = ap (λ b. if b then mentioned m h t else n) (eq-eqb n.number n.number refl)

pub sent_other : (m : ℕ) (n : NodeId) (h : List NodeId) (t : Mention) (x : NodeId) → same_node n x ≡ false → redirection m n h (root_to t) x ≡ x
sent_other m n h t x other = ap (λ b. if b then mentioned m h t else x) other

same_or_other : (b : Bool) (m : ℕ) (n : NodeId) (h : List NodeId) (t : Mention) (x : NodeId) → same_node n x ≡ b → (n ≡ x) ⊎ (redirection m n h (root_to t) x ≡ x)
same_or_other true m n h t x is = inl (same_node_is n x is)
same_or_other false m n h t x is = inr (sent_other m n h t x is)

pub sent_cases : (m : ℕ) (n : NodeId) (h : List NodeId) (t : Mention) (x : NodeId) → (n ≡ x) ⊎ (redirection m n h (root_to t) x ≡ x)
sent_cases m n h t x = same_or_other (same_node n x) m n h t x refl

differ : (n : NodeId) (k : ℕ) (b : Bool) → n.number < k → (n.number == k) ≡ b → b ≡ false
differ n k true below is = absurd (let same : n.number ≡ k = eqb-true n.number k is in omega arith)
differ n k false below is = refl

pub sent_new : (m : ℕ) (n : NodeId) (h : List NodeId) (t : Mention) → n.number < m → (j : ℕ) → redirection m n h (root_to t) (record { number = m + j }) ≡ record { number = m + j }
sent_new m n h t below j = sent_other m n h t (record { number = m + j }) (differ n (m + j) (n.number == m + j) (omega arith) refl)

named_not_unfolds : (e : Fun) (symbols : List Spelling) (g : Graph) (k : ℕ) (targets : List NodeId) (name : Spelling) (v : Expr) (o : Option Spelling) → o ≡ Some name → is_constructor e name ≡ false → UnfoldsNamed e (UnfoldsAt k e symbols g) targets v o → ⊥
named_not_unfolds e symbols g k targets name v None is no_constructor unfolds = unfolds
named_not_unfolds e symbols g k targets name v (Some other) is no_constructor unfolds =
    let same : other ≡ name = cc in
    let clash : true ≡ false = sym unfolds.0 ∙ ap (is_constructor e) same ∙ no_constructor in
    cc

-- a node whose symbol is no constructor does not unfold
pub not_unfolds : (e : Fun) (symbols : List Spelling) (g : Graph) (n : NodeId) (node : Node) (f : ℕ) (name : Spelling) → node_at g n ≡ Some node → node.label ≡ Symbol f → slice_get symbols f ≡ Some name → is_constructor e name ≡ false
    → (k : ℕ) (v : Expr) → UnfoldsAt k e symbols g n v → ⊥
not_unfolds e symbols g n node f name at label named no_constructor zero v unfolds = unfolds
not_unfolds e symbols g n node f name at label named no_constructor (suc k) v unfolds =
    let here : UnfoldsLabel e symbols (UnfoldsAt k e symbols g) node.label (map (λ a. a.target) node.arcs) v = subst (λ o. UnfoldsContent e symbols (UnfoldsAt k e symbols g) (content_of o) v) at unfolds in
    let symbol : UnfoldsNamed e (UnfoldsAt k e symbols g) (map (λ a. a.target) node.arcs) v (slice_get symbols f) = subst (λ l. UnfoldsLabel e symbols (UnfoldsAt k e symbols g) l (map (λ a. a.target) node.arcs) v) label here in
    named_not_unfolds e symbols g k (map (λ a. a.target) node.arcs) name v (slice_get symbols f) named no_constructor symbol

-- what a step does to values: each node is carried along the map, or its place's new values are old ones
pub record GoesBack (e : Fun) (symbols : List Spelling) (g after : Graph) : Type 0 where
  pub send : NodeId → NodeId
  pub more : ℕ
  pub carried : IsCarried send g after
  pub moved : (x : NodeId) → IsThere g x → (send x ≡ x) ⊎ ((d : ℕ) (v : Expr) → MeansAt d e symbols after (send x) v → MeansAt (deeper more d) e symbols g x v)
  pub root : after.root ≡ send g.root

pub root_back : (e : Fun) (symbols : List Spelling) (g after : Graph) (v : Expr) → IsClosed g → IsThere g g.root → GoesBack e symbols g after → Means e symbols after after.root v → Means e symbols g g.root v
root_back e symbols g after v closed there back means =
    (deeper back.more means.0, means_back e symbols g after back.send back.more back.carried closed back.moved means.0 g.root v there (subst (λ n. MeansAt means.0 e symbols after n v) back.root means.1))
