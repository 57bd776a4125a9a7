-- A finished node unfolds, and so do the arguments of an active one.
use Rattle.std.proofs.Common.{◌≡◌, ℕ, zero, suc, ◌+◌, Bool, true, false, cond, List, [], ◌∷◌, map, Option, Some, None, slice_get, refl, sym, ◌∙◌, ap, arith, inl, inr}
use Rattle.std.specs.List.{AllZip, AllByRecursion}
use Rattle.dactl_model.specs.declared.graph.NodeId.{NodeId}
use Rattle.dactl_model.specs.declared.graph.Label.{Label}
use Rattle.dactl_model.specs.declared.graph.Label.TheVariants.{Symbol, Integer, Character}
use Rattle.dactl_model.specs.declared.graph.Arc.{Arc}
use Rattle.dactl_model.specs.declared.graph.Mark.TheVariants.{Active}
use Rattle.dactl_model.specs.declared.graph.Node.{Node}
use Rattle.dactl_model.specs.declared.graph.Graph.{Graph}
use Rattle.dactl_model.specs.declared.program.Program.{Program}
use Rattle.dactl_model.specs.Graphs.{node_at, flags}
use Rattle.dactl_model.specs.Versions.{Content, content}
use Rattle.dactl_model.proofs.Counting.{count_by-cons}
use Rattle.fun_meaning.specs.declared.tree.Expr.{Expr}
use Rattle.fun_meaning.specs.declared.tree.Fun.{Fun}
use Rattle.fun_meaning.specs.Names.{Spelling}
use Rattle.fun_meaning.specs.Values.{integer, made}
use Rattle.fun_meaning.specs.Meaning.{symbol_names, UnfoldsNamed, UnfoldsLabel, UnfoldsContent, UnfoldsAt, Unfolds}
use Rattle.fun_meaning.specs.Translation.{names_constructor, is_settled, is_check, awaited}
use Rattle.fun_meaning.specs.Invariant.{FinishedContent, FinishedAt, Finished, IsTidyArc, IsTidy}

each_unfolds : (e : Fun) (symbols : List Spelling) (g : Graph) (d : ℕ) → ((n : NodeId) → FinishedAt d e symbols g n → (v : Expr) × UnfoldsAt d e symbols g n v) → (ns : List NodeId) → AllByRecursion (FinishedAt d e symbols g) ns
    → (vs : List Expr) × AllZip (UnfoldsAt d e symbols g) ns vs
each_unfolds e symbols g d ih [] all = ([], tt)
each_unfolds e symbols g d ih (n ∷ ns) all =
    let here = ih n all.0 in
    let rest = each_unfolds e symbols g d ih ns all.1 in
    (here.0 ∷ rest.0, (here.1, rest.1))

named_unfolds : (e : Fun) (symbols : List Spelling) (g : Graph) (d : ℕ) → ((n : NodeId) → FinishedAt d e symbols g n → (v : Expr) × UnfoldsAt d e symbols g n v) → (ns : List NodeId) (o : Option Spelling) → names_constructor e o ≡ true
    → AllByRecursion (FinishedAt d e symbols g) ns → (v : Expr) × UnfoldsNamed e (UnfoldsAt d e symbols g) ns v o
named_unfolds e symbols g d ih ns None is all = cc
named_unfolds e symbols g d ih ns (Some name) is all =
    let args = each_unfolds e symbols g d ih ns all in
    (made name args.0, (is, (args.0, args.1, refl)))

label_unfolds : (e : Fun) (symbols : List Spelling) (g : Graph) (d : ℕ) → ((n : NodeId) → FinishedAt d e symbols g n → (v : Expr) × UnfoldsAt d e symbols g n v) → (label : Label) (ns : List NodeId) → is_settled e symbols label ≡ true
    → AllByRecursion (FinishedAt d e symbols g) ns → (v : Expr) × UnfoldsLabel e symbols (UnfoldsAt d e symbols g) label ns v
label_unfolds e symbols g d ih (Integer i) ns is all = (integer i, refl)
label_unfolds e symbols g d ih (Symbol f) ns is all = named_unfolds e symbols g d ih ns (slice_get symbols f) is all
label_unfolds e symbols g d ih (Character c) ns is all = cc

content_unfolds : (e : Fun) (symbols : List Spelling) (g : Graph) (d : ℕ) → ((n : NodeId) → FinishedAt d e symbols g n → (v : Expr) × UnfoldsAt d e symbols g n v) → (o : Option Content) → FinishedContent e symbols (FinishedAt d e symbols g) o
    → (v : Expr) × UnfoldsContent e symbols (UnfoldsAt d e symbols g) o v
content_unfolds e symbols g d ih None is = absurd is
content_unfolds e symbols g d ih (Some c) is = label_unfolds e symbols g d ih c.label c.targets is.0 is.1

pub finished_unfolds : (d : ℕ) (e : Fun) (symbols : List Spelling) (g : Graph) (n : NodeId) → FinishedAt d e symbols g n → (v : Expr) × UnfoldsAt d e symbols g n v
finished_unfolds zero e symbols g n is = absurd is
finished_unfolds (suc d) e symbols g n is = content_unfolds e symbols g d (finished_unfolds d e symbols g) (content g n) is

no_flag : (b : Bool) (count : ℕ) → cond b 1 0 + count ≡ 0 → (b ≡ false) × (count ≡ 0)
no_flag true count none = absurd (omega arith)
no_flag false count none = (refl, omega arith)

pub no_flags : (arcs : List Arc) → flags arcs ≡ 0 → AllByRecursion (λ a. a.waits ≡ false) arcs
no_flags [] none = tt
no_flags (a ∷ arcs) none =
    let parts = no_flag a.waits (flags arcs) (sym (count_by-cons (λ b. b.waits) a arcs) ∙ none) in
    (parts.0, no_flags arcs parts.1)

args_unfold : (e : Fun) (p : Program) (g : Graph) (label : Label) (arcs : List Arc) → is_check (symbol_names p) label ≡ false → AllByRecursion (IsTidyArc e p g label) arcs → AllByRecursion (λ a. a.waits ≡ false) arcs
    → (vs : List Expr) × AllZip (Unfolds e (symbol_names p) g) (map (λ a. a.target) arcs) vs
args_unfold e p g label [] no_check tidy none = ([], tt)
args_unfold e p g label (a ∷ arcs) no_check tidy none =
    let here : Finished e (symbol_names p) g a.target = elim (tidy.0.settled none.0) [ inl finished ↦ finished | inr stuck ↦ absurd (let clash : true ≡ false = sym stuck.0 ∙ no_check in cc) ] in
    let value = finished_unfolds here.0 e (symbol_names p) g a.target here.1 in
    let rest = args_unfold e p g label arcs no_check tidy.1 none.1 in
    (value.0 ∷ rest.0, ((here.0, value.1), rest.1))

-- the arguments of an active node that is no Chk unfold
pub active_args : (e : Fun) (p : Program) (g : Graph) (n : NodeId) (node : Node) → IsTidy e p g → node_at g n ≡ Some node → node.mark ≡ Active → is_check (symbol_names p) node.label ≡ false
    → (vs : List Expr) × AllZip (Unfolds e (symbol_names p) g) (map (λ a. a.target) node.arcs) vs
active_args e p g n node tidy at active no_check =
    let here = tidy n node at in
    args_unfold e p g node.label node.arcs no_check here.arcs_tidy (no_flags node.arcs (here.mark ∙ ap awaited active))

-- the targets of a node without flags that is no Chk are finished
pub finished_args : (e : Fun) (p : Program) (g : Graph) (label : Label) (arcs : List Arc) → is_check (symbol_names p) label ≡ false → AllByRecursion (IsTidyArc e p g label) arcs → AllByRecursion (λ a. a.waits ≡ false) arcs
    → AllByRecursion (Finished e (symbol_names p) g) (map (λ a. a.target) arcs)
finished_args e p g label [] no_check tidy none = tt
finished_args e p g label (a ∷ arcs) no_check tidy none =
    (elim (tidy.0.settled none.0) [ inl finished ↦ finished | inr stuck ↦ absurd (let clash : true ≡ false = sym stuck.0 ∙ no_check in cc) ], finished_args e p g label arcs no_check tidy.1 none.1)
