-- A value that a place has after a step is one that it had before.
use Rattle.std.proofs.Common.{◌≡◌, ℕ, zero, suc, List, [], ◌∷◌, map, Option, Some, None, slice_get, refl, sym, subst, ◌⊎◌, inl, inr}
use Rattle.std.specs.List.{AllZip, AllByRecursion}
use Rattle.dactl_model.specs.declared.graph.NodeId.{NodeId}
use Rattle.dactl_model.specs.declared.graph.Label.{Label}
use Rattle.dactl_model.specs.declared.graph.Label.TheVariants.{Symbol, Integer, Character}
use Rattle.dactl_model.specs.declared.graph.Graph.{Graph}
use Rattle.dactl_model.specs.Versions.{Content, content}
use Rattle.fun_meaning.specs.declared.tree.Expr.{Expr}
use Rattle.fun_meaning.specs.declared.tree.Fun.{Fun}
use Rattle.fun_meaning.specs.Names.{Spelling, same_name, check_name}
use Rattle.fun_meaning.specs.Values.{Valuing, ValueAt}
use Rattle.fun_meaning.specs.Meaning.{Reading, UnfoldsNamed, UnfoldsLabel, UnfoldsContent, UnfoldsAt, MeansNamed, MeansLabel, MeansContent, MeansAt}
use Rattle.fun_meaning.proofs.Zips.{zip_map_left}
use Rattle.fun_meaning.proofs.Depths.{IsWithin, deeper, values_deeper, checked_more}

-- each node of the graph has after the step its label, and its targets sent through the map
abbrev pub IsCarried : (NodeId → NodeId) → Graph → Graph → Type 0
IsCarried f g after = (x : NodeId) (c : Content) → content g x ≡ Some c → content after x ≡ Some (record { label = c.label; targets = map f c.targets })

-- the node is in the graph
abbrev pub IsThere : Graph → NodeId → Type 0
IsThere g n = (c : Content) × (content g n ≡ Some c)

-- the targets of the graph's nodes are nodes
abbrev pub IsClosed : Graph → Type 0
IsClosed g = (x : NodeId) (c : Content) → content g x ≡ Some c → AllByRecursion (IsThere g) c.targets

zip_sent : {C : Type 0} (f : NodeId → NodeId) (P : NodeId → Type 0) (R S : NodeId → C → Type 0) → ((n : NodeId) (v : C) → P n → R (f n) v → S n v) → (ns : List NodeId) (vs : List C) → AllByRecursion P ns → AllZip R (map f ns) vs → AllZip S ns vs
zip_sent f P R S step [] [] each all = tt
zip_sent f P R S step [] (v ∷ vs) each all = absurd all
zip_sent f P R S step (n ∷ ns) [] each all = absurd all
zip_sent f P R S step (n ∷ ns) (v ∷ vs) each all = (step n v each.0 all.0, zip_sent f P R S step ns vs each.1 all.1)

back_named : (e : Fun) (V W : Valuing) (g : Graph) (f : NodeId → NodeId) (R S : Reading) → IsWithin V W → ((n : NodeId) (v : Expr) → IsThere g n → R (f n) v → S n v) → (targets : List NodeId) (v : Expr) (o : Option Spelling)
    → AllByRecursion (IsThere g) targets → MeansNamed e V R (map f targets) v o → MeansNamed e W S targets v o
back_named e V W g f R S more step targets v None each is = is
back_named e V W g f R S more step targets v (Some name) each is =
    (is.0, zip_sent f (IsThere g) R S step targets is.0 each is.1, checked_more e V W more name is.0 v (same_name name check_name) is.2)

back_label : (e : Fun) (symbols : List Spelling) (V W : Valuing) (g : Graph) (f : NodeId → NodeId) (R S : Reading) → IsWithin V W → ((n : NodeId) (v : Expr) → IsThere g n → R (f n) v → S n v) → (label : Label) (targets : List NodeId) (v : Expr)
    → AllByRecursion (IsThere g) targets → MeansLabel e symbols V R label (map f targets) v → MeansLabel e symbols W S label targets v
back_label e symbols V W g f R S more step (Integer i) targets v each is = is
back_label e symbols V W g f R S more step (Symbol s) targets v each is = back_named e V W g f R S more step targets v (slice_get symbols s) each is
back_label e symbols V W g f R S more step (Character c) targets v each is = absurd is

module _ (e : Fun) (symbols : List Spelling) (g after : Graph) (f : NodeId → NodeId) (more : ℕ) (carried : IsCarried f g after) (closed : IsClosed g)
    (moved : (x : NodeId) → IsThere g x → (f x ≡ x) ⊎ ((d : ℕ) (v : Expr) → MeansAt d e symbols after (f x) v → MeansAt (deeper more d) e symbols g x v)) where
  back_here : (d : ℕ) → ((n : NodeId) (v : Expr) → IsThere g n → MeansAt d e symbols after (f n) v → MeansAt (deeper more d) e symbols g n v)
      → (x : NodeId) (v : Expr) → IsThere g x → MeansAt (suc d) e symbols after x v → MeansAt (suc (deeper more d)) e symbols g x v
  back_here d ih x v there means =
      let c = there.0 in
      let then : MeansLabel e symbols (ValueAt d e) (MeansAt d e symbols after) c.label (map f c.targets) v =
      subst (λ o. MeansContent e symbols (ValueAt d e) (MeansAt d e symbols after) o v) (carried x c there.1) means in
      let now : MeansLabel e symbols (ValueAt (deeper more d) e) (MeansAt (deeper more d) e symbols g) c.label c.targets v =
      back_label e symbols (ValueAt d e) (ValueAt (deeper more d) e) g f (MeansAt d e symbols after) (MeansAt (deeper more d) e symbols g) (values_deeper more d e) ih c.label c.targets v (closed x c there.1) then in
      subst (λ o. MeansContent e symbols (ValueAt (deeper more d) e) (MeansAt (deeper more d) e symbols g) o v) (sym there.1) now

  back_either : (d : ℕ) → ((n : NodeId) (v : Expr) → IsThere g n → MeansAt d e symbols after (f n) v → MeansAt (deeper more d) e symbols g n v)
      → (x : NodeId) (v : Expr) → IsThere g x → MeansAt (suc d) e symbols after (f x) v
      → (f x ≡ x) ⊎ ((d : ℕ) (v : Expr) → MeansAt d e symbols after (f x) v → MeansAt (deeper more d) e symbols g x v) → MeansAt (suc (deeper more d)) e symbols g x v
  back_either d ih x v there means (inl same) = back_here d ih x v there (subst (λ n. MeansAt (suc d) e symbols after n v) same means)
  back_either d ih x v there means (inr direct) = direct (suc d) v means

  -- what the place of a node means after, the node means before
  pub means_back : (d : ℕ) (x : NodeId) (v : Expr) → IsThere g x → MeansAt d e symbols after (f x) v → MeansAt (deeper more d) e symbols g x v
  means_back zero x v there means = absurd means
  means_back (suc d) x v there means = back_either d (means_back d) x v there means (moved x there)

sent_named : (e : Fun) (f : NodeId → NodeId) (R S : Reading) → ((n : NodeId) (v : Expr) → R n v → S (f n) v) → (targets : List NodeId) (v : Expr) (o : Option Spelling) → UnfoldsNamed e R targets v o → UnfoldsNamed e S (map f targets) v o
sent_named e f R S step targets v None is = is
sent_named e f R S step targets v (Some name) is = (is.0, (is.1.0, zip_map_left f R S step targets is.1.0 is.1.1, is.1.2))

sent_label : (e : Fun) (symbols : List Spelling) (f : NodeId → NodeId) (R S : Reading) → ((n : NodeId) (v : Expr) → R n v → S (f n) v) → (label : Label) (targets : List NodeId) (v : Expr) → UnfoldsLabel e symbols R label targets v
    → UnfoldsLabel e symbols S label (map f targets) v
sent_label e symbols f R S step (Integer i) targets v is = is
sent_label e symbols f R S step (Symbol s) targets v is = sent_named e f R S step targets v (slice_get symbols s) is
sent_label e symbols f R S step (Character c) targets v is = absurd is

sent_content : (e : Fun) (symbols : List Spelling) (f : NodeId → NodeId) (R S : Reading) (g after : Graph) (x : NodeId) → IsCarried f g after → ((n : NodeId) (v : Expr) → R n v → S (f n) v) → (o : Option Content) (v : Expr) → content g x ≡ o
    → UnfoldsContent e symbols R o v → UnfoldsContent e symbols S (content after x) v
sent_content e symbols f R S g after x carried step None v at is = absurd is
sent_content e symbols f R S g after x carried step (Some c) v at is = subst (λ o. UnfoldsContent e symbols S o v) (sym (carried x c at)) (sent_label e symbols f R S step c.label c.targets v is)

-- a node that unfolds still does, and to the same
pub unfolds_after : (d : ℕ) (e : Fun) (symbols : List Spelling) (g after : Graph) (f : NodeId → NodeId) → IsCarried f g after → ((n : NodeId) (k : ℕ) (v : Expr) → UnfoldsAt k e symbols g n v → f n ≡ n)
    → (n : NodeId) (v : Expr) → UnfoldsAt d e symbols g n v → UnfoldsAt d e symbols after n v
unfolds_after zero e symbols g after f carried stays n v is = absurd is
unfolds_after (suc d) e symbols g after f carried stays n v is =
    sent_content e symbols f (UnfoldsAt d e symbols g) (UnfoldsAt d e symbols after) g after n carried
    (λ m w unfolds. subst (λ y. UnfoldsAt d e symbols after y w) (sym (stays m d w unfolds)) (unfolds_after d e symbols g after f carried stays m w unfolds)) (content g n) v refl is
