-- What holds at a depth holds at each greater one; and what a finished node means.
use Rattle.std.proofs.Common.{◌≡◌, ℕ, zero, suc, Bool, true, false, List, [], ◌∷◌, Option, Some, None, slice_get, refl, sym, ◌∙◌, ap, subst}
use Rattle.std.specs.List.{AllZip}
use Rattle.dactl_model.specs.declared.graph.NodeId.{NodeId}
use Rattle.dactl_model.specs.declared.graph.Label.{Label}
use Rattle.dactl_model.specs.declared.graph.Label.TheVariants.{Symbol, Integer, Character}
use Rattle.dactl_model.specs.declared.graph.Graph.{Graph}
use Rattle.dactl_model.specs.declared.program.Op.{Op}
use Rattle.dactl_model.specs.Versions.{Content, content}
use Rattle.fun_meaning.specs.declared.tree.Expr.{Expr}
use Rattle.fun_meaning.specs.declared.tree.Expr.TheOpen.{Expr-F}
use Rattle.fun_meaning.specs.declared.tree.Expr.TheViews.{out-Expr}
use Rattle.fun_meaning.specs.declared.tree.Fun.{Fun}
use Rattle.fun_meaning.specs.Names.{Spelling, same_name, check_name, operation}
use Rattle.fun_meaning.specs.Values.{made, is_constructor, Valuing, MadeValue, NamedValue, Applied, ValueLevel, ValueAt}
use Rattle.fun_meaning.specs.Meaning.{Reading, UnfoldsNamed, UnfoldsLabel, UnfoldsContent, UnfoldsAt, CheckedOrApplied, MeansNamed, MeansLabel, MeansContent, MeansAt}
use Rattle.fun_meaning.proofs.Zips.{zip_weaken, zip_same}

abbrev pub IsWithin : Valuing → Valuing → Type 0
IsWithin V W = (names : List Spelling) (us : List Expr) (x v : Expr) → V names us x v → W names us x v

made_more : (e : Fun) (V W : Valuing) → IsWithin V W → (g : Spelling) (vs : List Expr) (v : Expr) (b : Bool) → MadeValue e V g vs v b → MadeValue e W g vs v b
made_more e V W more g vs v true is = is
made_more e V W more g vs v false is = (is.0, is.1, more _ _ _ _ is.2)

named_more : (e : Fun) (V W : Valuing) → IsWithin V W → (g : Spelling) (vs : List Expr) (v : Expr) (o : Option Op) → NamedValue e V g vs v o → NamedValue e W g vs v o
named_more e V W more g vs v (Some o) is = is
named_more e V W more g vs v None is = made_more e V W more g vs v (is_constructor e g) is

pub applied_more : (e : Fun) (V W : Valuing) → IsWithin V W → (g : Spelling) (vs : List Expr) (v : Expr) → Applied e V g vs v → Applied e W g vs v
applied_more e V W more g vs v is = named_more e V W more g vs v (operation g) is

level_more : (e : Fun) (V W : Valuing) → IsWithin V W → (names : List Spelling) (us : List Expr) (y : Expr-F Expr) (v : Expr) → ValueLevel e V names us y v → ValueLevel e W names us y v
level_more e V W more names us (Expr-F.Variable x) v is = is
level_more e V W more names us (Expr-F.Integer i) v is = is
level_more e V W more names us (Expr-F.Made g args) v is = (is.0, zip_weaken (V names us) (W names us) (more names us) args is.0 is.1, applied_more e V W more g.text is.0 v is.2)

pub value_more : (d : ℕ) (e : Fun) → IsWithin (ValueAt d e) (ValueAt (suc d) e)
value_more zero e names us x v is = absurd is
value_more (suc d) e names us x v is = level_more e (ValueAt d e) (ValueAt (suc d) e) (value_more d e) names us (out-Expr x) v is

abbrev pub IsInside : Reading → Reading → Type 0
IsInside R S = (n : NodeId) (v : Expr) → R n v → S n v

pub checked_more : (e : Fun) (V W : Valuing) → IsWithin V W → (g : Spelling) (vs : List Expr) (v : Expr) (b : Bool) → CheckedOrApplied e V g vs v b → CheckedOrApplied e W g vs v b
checked_more e V W more g vs v true is = is
checked_more e V W more g vs v false is = applied_more e V W more g vs v is

means_named_more : (e : Fun) (V W : Valuing) (R S : Reading) → IsWithin V W → IsInside R S → (targets : List NodeId) (v : Expr) (o : Option Spelling) → MeansNamed e V R targets v o → MeansNamed e W S targets v o
means_named_more e V W R S more in_more targets v None is = is
means_named_more e V W R S more in_more targets v (Some g) is = (is.0, zip_weaken R S in_more targets is.0 is.1, checked_more e V W more g is.0 v (same_name g check_name) is.2)

means_label_more : (e : Fun) (names : List Spelling) (V W : Valuing) (R S : Reading) → IsWithin V W → IsInside R S → (label : Label) (targets : List NodeId) (v : Expr) → MeansLabel e names V R label targets v → MeansLabel e names W S label targets v
means_label_more e names V W R S more in_more (Integer i) targets v is = is
means_label_more e names V W R S more in_more (Symbol f) targets v is = means_named_more e V W R S more in_more targets v (slice_get names f) is
means_label_more e names V W R S more in_more (Character c) targets v is = absurd is

means_content_more : (e : Fun) (names : List Spelling) (V W : Valuing) (R S : Reading) → IsWithin V W → IsInside R S → (o : Option Content) (v : Expr) → MeansContent e names V R o v → MeansContent e names W S o v
means_content_more e names V W R S more in_more None v is = is
means_content_more e names V W R S more in_more (Some c) v is = means_label_more e names V W R S more in_more c.label c.targets v is

pub means_more : (d : ℕ) (e : Fun) (names : List Spelling) (g : Graph) → IsInside (MeansAt d e names g) (MeansAt (suc d) e names g)
means_more zero e names g n v is = absurd is
means_more (suc d) e names g n v is = means_content_more e names (ValueAt d e) (ValueAt (suc d) e) (MeansAt d e names g) (MeansAt (suc d) e names g) (value_more d e) (means_more d e names g) (content g n) v is

-- k levels deeper
abbrev pub deeper : ℕ → ℕ → ℕ
deeper k zero = k
deeper k (suc d) = suc (deeper k d)

pub values_deeper : (k d : ℕ) (e : Fun) → IsWithin (ValueAt d e) (ValueAt (deeper k d) e)
values_deeper k zero e names us x v is = absurd is
values_deeper k (suc d) e names us x v is = level_more e (ValueAt d e) (ValueAt (deeper k d) e) (values_deeper k d e) names us (out-Expr x) v is

-- a reading at the one depth is one at the sum
pub means_up : (k d : ℕ) (e : Fun) (names : List Spelling) (g : Graph) → IsInside (MeansAt k e names g) (MeansAt (deeper k d) e names g)
means_up k zero e names g n v is = is
means_up k (suc d) e names g n v is = means_more (deeper k d) e names g n v (means_up k d e names g n v is)

pub values_up : (k d : ℕ) (e : Fun) → IsWithin (ValueAt k e) (ValueAt (deeper k d) e)
values_up k zero e names us x v is = is
values_up k (suc d) e names us x v is = value_more (deeper k d) e names us x v (values_up k d e names us x v is)

unfolds_named_more : (e : Fun) (R S : Reading) → IsInside R S → (targets : List NodeId) (v : Expr) (o : Option Spelling) → UnfoldsNamed e R targets v o → UnfoldsNamed e S targets v o
unfolds_named_more e R S more targets v None is = is
unfolds_named_more e R S more targets v (Some g) is = (is.0, (is.1.0, zip_weaken R S more targets is.1.0 is.1.1, is.1.2))

unfolds_label_more : (e : Fun) (names : List Spelling) (R S : Reading) → IsInside R S → (label : Label) (targets : List NodeId) (v : Expr) → UnfoldsLabel e names R label targets v → UnfoldsLabel e names S label targets v
unfolds_label_more e names R S more (Integer i) targets v is = is
unfolds_label_more e names R S more (Symbol f) targets v is = unfolds_named_more e R S more targets v (slice_get names f) is
unfolds_label_more e names R S more (Character c) targets v is = absurd is

unfolds_content_more : (e : Fun) (names : List Spelling) (R S : Reading) → IsInside R S → (o : Option Content) (v : Expr) → UnfoldsContent e names R o v → UnfoldsContent e names S o v
unfolds_content_more e names R S more None v is = is
unfolds_content_more e names R S more (Some c) v is = unfolds_label_more e names R S more c.label c.targets v is

pub unfolds_more : (d : ℕ) (e : Fun) (names : List Spelling) (g : Graph) → IsInside (UnfoldsAt d e names g) (UnfoldsAt (suc d) e names g)
unfolds_more zero e names g n v is = absurd is
unfolds_more (suc d) e names g n v is = unfolds_content_more e names (UnfoldsAt d e names g) (UnfoldsAt (suc d) e names g) (unfolds_more d e names g) (content g n) v is

pub unfolds_up : (k d : ℕ) (e : Fun) (names : List Spelling) (g : Graph) → IsInside (UnfoldsAt k e names g) (UnfoldsAt (deeper k d) e names g)
unfolds_up k zero e names g n v is = is
unfolds_up k (suc d) e names g n v is = unfolds_more (deeper k d) e names g n v (unfolds_up k d e names g n v is)

pub unfolds_deeper : (k d : ℕ) (e : Fun) (names : List Spelling) (g : Graph) → IsInside (UnfoldsAt d e names g) (UnfoldsAt (deeper k d) e names g)
unfolds_deeper k zero e names g n v is = absurd is
unfolds_deeper k (suc d) e names g n v is = unfolds_content_more e names (UnfoldsAt d e names g) (UnfoldsAt (deeper k d) e names g) (unfolds_deeper k d e names g) (content g n) v is

-- a node read to some depth, and some others to theirs, are all read to one
pub one_depth : (e : Fun) (names : List Spelling) (g : Graph) (ns : List NodeId) (vs : List Expr) → AllZip (λ n v. (d : ℕ) × UnfoldsAt d e names g n v) ns vs → (d : ℕ) × AllZip (UnfoldsAt d e names g) ns vs
one_depth e names g [] [] all = (0, tt)
one_depth e names g [] (v ∷ vs) all = absurd all
one_depth e names g (n ∷ ns) [] all = absurd all
one_depth e names g (n ∷ ns) (v ∷ vs) all =
    let rest = one_depth e names g ns vs all.1 in
    (deeper all.0.0 rest.0, (unfolds_up all.0.0 rest.0 e names g n v all.0.1, zip_weaken (UnfoldsAt rest.0 e names g) (UnfoldsAt (deeper all.0.0 rest.0) e names g) (unfolds_deeper all.0.0 rest.0 e names g) ns vs rest.1))

-- constructors are neither operations nor Chk
abbrev pub AreConstructors : Fun → Type 0
AreConstructors e = (g : Spelling) → is_constructor e g ≡ true → (operation g ≡ None) × (same_name g check_name ≡ false)

constructor_value : (e : Fun) (V : Valuing) (g : Spelling) (vs : List Expr) (v : Expr) (o : Option Op) (b c : Bool) → o ≡ None → b ≡ true → operation g ≡ o → is_constructor e g ≡ b → same_name g check_name ≡ c → c ≡ false
    → v ≡ made g vs → CheckedOrApplied e V g vs v (same_name g check_name)
constructor_value e V g vs v o b c none cons at_o at_b at_c not_check is =
    subst (λ z. CheckedOrApplied e V g vs v z) (sym (at_c ∙ not_check)) (subst (λ z. NamedValue e V g vs v z) (sym (at_o ∙ none)) (subst (λ z. MadeValue e V g vs v z) (sym (at_b ∙ cons)) is))

unfolds_means_named : (e : Fun) (V : Valuing) (R S : Reading) → AreConstructors e → IsInside R S → (targets : List NodeId) (v : Expr) (o : Option Spelling) → UnfoldsNamed e R targets v o → MeansNamed e V S targets v o
unfolds_means_named e V R S plain more targets v None is = is
unfolds_means_named e V R S plain more targets v (Some g) is =
    (is.1.0, zip_weaken R S more targets is.1.0 is.1.1, constructor_value e V g is.1.0 v _ _ _ (plain g is.0).0 is.0 refl refl refl (plain g is.0).1 is.1.2)

unfolds_means_label : (e : Fun) (names : List Spelling) (V : Valuing) (R S : Reading) → AreConstructors e → IsInside R S → (label : Label) (targets : List NodeId) (v : Expr) → UnfoldsLabel e names R label targets v → MeansLabel e names V S label targets v
unfolds_means_label e names V R S plain more (Integer i) targets v is = is
unfolds_means_label e names V R S plain more (Symbol f) targets v is = unfolds_means_named e V R S plain more targets v (slice_get names f) is
unfolds_means_label e names V R S plain more (Character c) targets v is = absurd is

unfolds_means_content : (e : Fun) (names : List Spelling) (V : Valuing) (R S : Reading) → AreConstructors e → IsInside R S → (o : Option Content) (v : Expr) → UnfoldsContent e names R o v → MeansContent e names V S o v
unfolds_means_content e names V R S plain more None v is = is
unfolds_means_content e names V R S plain more (Some c) v is = unfolds_means_label e names V R S plain more c.label c.targets v is

-- what a node unfolds to it means
pub unfolds_means : (d : ℕ) (e : Fun) (names : List Spelling) (g : Graph) → AreConstructors e → IsInside (UnfoldsAt d e names g) (MeansAt d e names g)
unfolds_means zero e names g plain n v is = absurd is
unfolds_means (suc d) e names g plain n v is = unfolds_means_content e names (ValueAt d e) (UnfoldsAt d e names g) (MeansAt d e names g) plain (unfolds_means d e names g plain) (content g n) v is

means_is_made : (e : Fun) (V : Valuing) (g : Spelling) (vs : List Expr) (v : Expr) → operation g ≡ None → is_constructor e g ≡ true → same_name g check_name ≡ false → CheckedOrApplied e V g vs v (same_name g check_name) → v ≡ made g vs
means_is_made e V g vs v none cons not_check is =
    subst (λ z. MadeValue e V g vs v z) cons (subst (λ z. NamedValue e V g vs v z) none (subst (λ z. CheckedOrApplied e V g vs v z) not_check is))

abbrev pub Agree : Reading → Reading → Type 0
Agree R S = (n : NodeId) (v w : Expr) → R n v → S n w → v ≡ w

one_named : (e : Fun) (V : Valuing) (R S : Reading) → AreConstructors e → Agree R S → (targets : List NodeId) (v w : Expr) (o : Option Spelling) → MeansNamed e V R targets v o → UnfoldsNamed e S targets w o → v ≡ w
one_named e V R S plain same targets v w None is unfolds = absurd is
one_named e V R S plain same targets v w (Some g) is unfolds =
    let args = zip_same R S same targets is.0 unfolds.1.0 is.1 unfolds.1.1 in
    means_is_made e V g is.0 v (plain g unfolds.0).0 unfolds.0 (plain g unfolds.0).1 is.2 ∙ ap (λ vs. made g vs) args ∙ sym unfolds.1.2

one_label : (e : Fun) (names : List Spelling) (V : Valuing) (R S : Reading) → AreConstructors e → Agree R S → (label : Label) (targets : List NodeId) (v w : Expr) → MeansLabel e names V R label targets v → UnfoldsLabel e names S label targets w → v ≡ w
one_label e names V R S plain same (Integer i) targets v w is unfolds = is ∙ sym unfolds
one_label e names V R S plain same (Symbol f) targets v w is unfolds = one_named e V R S plain same targets v w (slice_get names f) is unfolds
one_label e names V R S plain same (Character c) targets v w is unfolds = absurd is

one_of_content : (e : Fun) (names : List Spelling) (V : Valuing) (R S : Reading) → AreConstructors e → Agree R S → (o : Option Content) (v w : Expr) → MeansContent e names V R o v → UnfoldsContent e names S o w → v ≡ w
one_of_content e names V R S plain same None v w is unfolds = absurd is
one_of_content e names V R S plain same (Some c) v w is unfolds = one_label e names V R S plain same c.label c.targets v w is unfolds

-- a node that unfolds means nothing else
pub means_one : (d k : ℕ) (e : Fun) (names : List Spelling) (g : Graph) → AreConstructors e → Agree (MeansAt d e names g) (UnfoldsAt k e names g)
means_one zero k e names g plain n v w is unfolds = absurd is
means_one (suc d) zero e names g plain n v w is unfolds = absurd unfolds
means_one (suc d) (suc k) e names g plain n v w is unfolds = one_of_content e names (ValueAt d e) (MeansAt d e names g) (UnfoldsAt k e names g) plain (means_one d k e names g plain) (content g n) v w is unfolds
