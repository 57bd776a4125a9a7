-- What is finished: its label, its depth, and that it stays so.
use Rattle.std.proofs.Common.{◌≡◌, ℕ, zero, suc, true, false, List, [], ◌∷◌, map, length, Option, Some, None, slice_get, refl, sym, ap, subst}
use Rattle.std.specs.List.{AllZip, AllByRecursion}
use Rattle.dactl_model.specs.declared.graph.NodeId.{NodeId}
use Rattle.dactl_model.specs.declared.graph.Label.{Label}
use Rattle.dactl_model.specs.declared.graph.Label.TheVariants.{Symbol, Integer, Character}
use Rattle.dactl_model.specs.declared.graph.Arc.{Arc}
use Rattle.dactl_model.specs.declared.graph.Node.{Node}
use Rattle.dactl_model.specs.declared.graph.Graph.{Graph}
use Rattle.dactl_model.specs.Graphs.{node_at, FitsLabel, IsFineNode, IsWellFormed}
use Rattle.dactl_model.specs.Versions.{Content, content, content_of}
use Rattle.dactl_model.proofs.Pairs.{All-slice_get}
use Rattle.fun_meaning.specs.declared.tree.Expr.{Expr}
use Rattle.fun_meaning.specs.declared.tree.Fun.{Fun}
use Rattle.fun_meaning.specs.Names.{Spelling}
use Rattle.fun_meaning.specs.Meaning.{Reading, UnfoldsNamed, UnfoldsLabel, UnfoldsContent, UnfoldsAt}
use Rattle.fun_meaning.specs.Translation.{is_operation, names_operation, is_arithmetic, names_constructor, is_settled}
use Rattle.fun_meaning.specs.Invariant.{FinishedContent, FinishedAt, Finished}
use Rattle.fun_meaning.proofs.Zips.{each_weaken, each_map}
use Rattle.fun_meaning.proofs.Depths.{AreConstructors, deeper}
use Rattle.fun_meaning.proofs.Backwards.{IsCarried}

content_more : (e : Fun) (symbols : List Spelling) (P Q : NodeId → Type 0) → ((n : NodeId) → P n → Q n) → (o : Option Content) → FinishedContent e symbols P o → FinishedContent e symbols Q o
content_more e symbols P Q more None is = is
content_more e symbols P Q more (Some c) is = (is.0, each_weaken P Q more c.targets is.1)

finished_more : (d : ℕ) (e : Fun) (symbols : List Spelling) (g : Graph) (n : NodeId) → FinishedAt d e symbols g n → FinishedAt (suc d) e symbols g n
finished_more zero e symbols g n is = absurd is
finished_more (suc d) e symbols g n is = content_more e symbols (FinishedAt d e symbols g) (FinishedAt (suc d) e symbols g) (finished_more d e symbols g) (content g n) is

finished_up : (k d : ℕ) (e : Fun) (symbols : List Spelling) (g : Graph) (n : NodeId) → FinishedAt k e symbols g n → FinishedAt (deeper k d) e symbols g n
finished_up k zero e symbols g n is = is
finished_up k (suc d) e symbols g n is = finished_more (deeper k d) e symbols g n (finished_up k d e symbols g n is)

finished_deeper : (k d : ℕ) (e : Fun) (symbols : List Spelling) (g : Graph) (n : NodeId) → FinishedAt d e symbols g n → FinishedAt (deeper k d) e symbols g n
finished_deeper k zero e symbols g n is = absurd is
finished_deeper k (suc d) e symbols g n is = content_more e symbols (FinishedAt d e symbols g) (FinishedAt (deeper k d) e symbols g) (finished_deeper k d e symbols g) (content g n) is

-- nodes that are finished, each to its depth, are so to one
finished_depth : (e : Fun) (symbols : List Spelling) (g : Graph) (ns : List NodeId) → AllByRecursion (Finished e symbols g) ns → (d : ℕ) × AllByRecursion (FinishedAt d e symbols g) ns
finished_depth e symbols g [] all = (0, tt)
finished_depth e symbols g (n ∷ ns) all =
    let rest = finished_depth e symbols g ns all.1 in
    (deeper all.0.0 rest.0, (finished_up all.0.0 rest.0 e symbols g n all.0.1, each_weaken (FinishedAt rest.0 e symbols g) (FinishedAt (deeper all.0.0 rest.0) e symbols g) (finished_deeper all.0.0 rest.0 e symbols g) ns rest.1))

-- a node over finished ones
pub finished_over : (e : Fun) (symbols : List Spelling) (g : Graph) (n : NodeId) (c : Content) → content g n ≡ Some c → is_settled e symbols c.label ≡ true → AllByRecursion (Finished e symbols g) c.targets → Finished e symbols g n
finished_over e symbols g n c at settled all =
    let deep = finished_depth e symbols g c.targets all in
    (suc deep.0, subst (FinishedContent e symbols (FinishedAt deep.0 e symbols g)) (sym at) (settled, deep.1))

-- its label is an integer or a constructor
pub finished_label : (d : ℕ) (e : Fun) (symbols : List Spelling) (g : Graph) (n : NodeId) (node : Node) → FinishedAt d e symbols g n → node_at g n ≡ Some node → is_settled e symbols node.label ≡ true
finished_label zero e symbols g n node is at = absurd is
finished_label (suc d) e symbols g n node is at =
    let here : FinishedContent e symbols (FinishedAt d e symbols g) (content_of (Some node)) = subst (λ o. FinishedContent e symbols (FinishedAt d e symbols g) (content_of o)) at is in
    here.0

plain_name : (e : Fun) (o : Option Spelling) → AreConstructors e → names_constructor e o ≡ true → names_operation o ≡ false
plain_name e None plain is = refl
plain_name e (Some name) plain is = ap is_operation (plain name is).0

-- so it is no operation
pub settled_plain : (e : Fun) (symbols : List Spelling) (label : Label) → AreConstructors e → is_settled e symbols label ≡ true → is_arithmetic symbols label ≡ false
settled_plain e symbols (Integer i) plain is = refl
settled_plain e symbols (Symbol f) plain is = plain_name e (slice_get symbols f) plain is
settled_plain e symbols (Character c) plain is = refl

zip_each : {A B : Type 0} (R : A → B → Type 0) (P : A → Type 0) → ((a : A) (b : B) → R a b → P a) → (xs : List A) (ys : List B) → AllZip R xs ys → AllByRecursion P xs
zip_each R P step [] ys all = tt
zip_each R P step (x ∷ xs) [] all = absurd all
zip_each R P step (x ∷ xs) (y ∷ ys) all = (step x y all.0, zip_each R P step xs ys all.1)

named_finished : (e : Fun) (R : Reading) (P : NodeId → Type 0) → ((n : NodeId) (v : Expr) → R n v → P n) → (targets : List NodeId) (v : Expr) (o : Option Spelling) → UnfoldsNamed e R targets v o → (names_constructor e o ≡ true) × AllByRecursion P targets
named_finished e R P step targets v None is = absurd is
named_finished e R P step targets v (Some name) is = (is.0, zip_each R P step targets is.1.0 is.1.1)

label_finished : (e : Fun) (symbols : List Spelling) (R : Reading) (P : NodeId → Type 0) → ((n : NodeId) (v : Expr) → R n v → P n) → (label : Label) (arcs : List Arc) (v : Expr) → FitsLabel label arcs → UnfoldsLabel e symbols R label (map (λ a. a.target) arcs) v
    → (is_settled e symbols label ≡ true) × AllByRecursion P (map (λ a. a.target) arcs)
label_finished e symbols R P step (Integer i) arcs v fits is = (refl, subst (λ xs. AllByRecursion P (map (λ a. a.target) xs)) (sym fits) tt)
label_finished e symbols R P step (Symbol f) arcs v fits is = named_finished e R P step (map (λ a. a.target) arcs) v (slice_get symbols f) is
label_finished e symbols R P step (Character c) arcs v fits is = absurd is

node_finished : (e : Fun) (symbols : List Spelling) (g : Graph) (R : Reading) (P : NodeId → Type 0) → IsWellFormed g → ((n : NodeId) (v : Expr) → R n v → P n) → (n : NodeId) (v : Expr) (o : Option Node) → node_at g n ≡ o → UnfoldsContent e symbols R (content_of o) v
    → FinishedContent e symbols P (content_of o)
node_finished e symbols g R P fine step n v None at is = absurd is
node_finished e symbols g R P fine step n v (Some node) at is =
    let here : IsFineNode (length g.nodes) node = All-slice_get (IsFineNode (length g.nodes)) g.nodes n.number node fine.each at in
    label_finished e symbols R P step node.label node.arcs v here.label is

-- what unfolds is finished
pub unfolds_finished : (d : ℕ) (e : Fun) (symbols : List Spelling) (g : Graph) → IsWellFormed g → (n : NodeId) (v : Expr) → UnfoldsAt d e symbols g n v → FinishedAt d e symbols g n
unfolds_finished zero e symbols g fine n v is = absurd is
unfolds_finished (suc d) e symbols g fine n v is = node_finished e symbols g (UnfoldsAt d e symbols g) (FinishedAt d e symbols g) fine (unfolds_finished d e symbols g fine) n v (node_at g n) refl is

kept_content : (e : Fun) (symbols : List Spelling) (g after : Graph) (send : NodeId → NodeId) (P Q : NodeId → Type 0) → IsCarried send g after → ((n : NodeId) → P n → Q (send n)) → (n : NodeId) (o : Option Content) → content g n ≡ o → FinishedContent e symbols P o
    → FinishedContent e symbols Q (content after n)
kept_content e symbols g after send P Q carried step n None at is = absurd is
kept_content e symbols g after send P Q carried step n (Some c) at is = subst (FinishedContent e symbols Q) (sym (carried n c at)) (is.0, each_map send P Q step c.targets is.1)

-- what is finished stays so, where a step leaves finished nodes in their places
pub finished_kept : (d : ℕ) (e : Fun) (symbols : List Spelling) (g after : Graph) (send : NodeId → NodeId) → IsCarried send g after → ((n : NodeId) → Finished e symbols g n → send n ≡ n) → (n : NodeId) → FinishedAt d e symbols g n → FinishedAt d e symbols after n
finished_kept zero e symbols g after send carried stays n is = absurd is
finished_kept (suc d) e symbols g after send carried stays n is =
    kept_content e symbols g after send (FinishedAt d e symbols g) (FinishedAt d e symbols after) carried
    (λ m finished. subst (FinishedAt d e symbols after) (sym (stays m (d, finished))) (finished_kept d e symbols g after send carried stays m finished)) n (content g n) refl is
