-- What stands at a depth stands at each greater one, and so does what is settled.
use Rattle.std.proofs.Common.{ℕ, zero, suc, List, [], ◌∷◌, Option, Some, None, slice_get}
use Rattle.std.specs.List.{AllZip, AllByRecursion}
use Rattle.dactl_model.specs.declared.program.Mention.{Mention}
use Rattle.dactl_model.specs.declared.program.Mention.TheVariants.{Old, Fresh}
use Rattle.dactl_model.specs.declared.program.FreshArc.{FreshArc}
use Rattle.dactl_model.specs.declared.program.FreshNode.{FreshNode}
use Rattle.dactl_model.specs.declared.program.Op.{Op}
use Rattle.fun_meaning.specs.declared.tree.Expr.{Expr}
use Rattle.fun_meaning.specs.declared.tree.Expr.TheOpen.{Expr-F}
use Rattle.fun_meaning.specs.declared.tree.Expr.TheViews.{out-Expr}
use Rattle.fun_meaning.specs.declared.tree.Fun.{Fun}
use Rattle.fun_meaning.specs.Names.{Spelling, operation}
use Rattle.fun_meaning.specs.Translation.{IsTerm, StandsNamed, StandsLevel, StandsAt, SettledNode, SettledMention, SettledAt}
use Rattle.fun_meaning.proofs.Zips.{zip_weaken, each_weaken}
use Rattle.fun_meaning.proofs.Depths.{deeper}

abbrev pub Standing : Type 1
Standing = Expr → Mention → Type 0

abbrev pub IsUnder : Standing → Standing → Type 0
IsUnder R S = (x : Expr) (t : Mention) → R x t → S x t

pub term_more : (symbols : List Spelling) (fresh : List FreshNode) (R S : Standing) → IsUnder R S → (g : Spelling) (args : List Expr) (t : Mention) → IsTerm symbols fresh R g args t → IsTerm symbols fresh S g args t
term_more symbols fresh R S more g args t is = record {
  place = is.place;
  node = is.node;
  symbol = is.symbol;
  is = is.is;
  at = is.at;
  label = is.label;
  name = is.name;
  ordinary = is.ordinary;
  args_stand = zip_weaken (λ x (a : FreshArc). R x a.to) (λ x (a : FreshArc). S x a.to) (λ x a stands. more x a.to stands) args is.node.arcs is.args_stand;
}

named_more : (symbols : List Spelling) (fresh : List FreshNode) (R S : Standing) → IsUnder R S → (g : Spelling) (args : List Expr) (t : Mention) (o : Option Op) → StandsNamed symbols fresh R g args t o → StandsNamed symbols fresh S g args t o
named_more symbols fresh R S more g args t (Some o) is = record {
  place = is.place;
  node = is.node;
  symbol = is.symbol;
  arc = is.arc;
  is = is.is;
  at = is.at;
  label = is.label;
  name = is.name;
  arcs = is.arcs;
  term = term_more symbols fresh R S more g args is.arc.to is.term;
}
named_more symbols fresh R S more g args t None is = term_more symbols fresh R S more g args t is

level_more : (symbols names : List Spelling) (fresh : List FreshNode) (R S : Standing) → IsUnder R S → (y : Expr-F Expr) (t : Mention) → StandsLevel symbols names fresh R y t → StandsLevel symbols names fresh S y t
level_more symbols names fresh R S more (Expr-F.Variable x) t is = is
level_more symbols names fresh R S more (Expr-F.Integer i) t is = is
level_more symbols names fresh R S more (Expr-F.Made g args) t is = named_more symbols fresh R S more g.text args t (operation g.text) is

stands_more : (d : ℕ) (symbols names : List Spelling) (fresh : List FreshNode) → IsUnder (StandsAt d symbols names fresh) (StandsAt (suc d) symbols names fresh)
stands_more zero symbols names fresh x t is = absurd is
stands_more (suc d) symbols names fresh x t is = level_more symbols names fresh (StandsAt d symbols names fresh) (StandsAt (suc d) symbols names fresh) (stands_more d symbols names fresh) (out-Expr x) t is

stands_up : (k d : ℕ) (symbols names : List Spelling) (fresh : List FreshNode) → IsUnder (StandsAt k symbols names fresh) (StandsAt (deeper k d) symbols names fresh)
stands_up k zero symbols names fresh x t is = is
stands_up k (suc d) symbols names fresh x t is = stands_more (deeper k d) symbols names fresh x t (stands_up k d symbols names fresh x t is)

stands_deeper : (k d : ℕ) (symbols names : List Spelling) (fresh : List FreshNode) → IsUnder (StandsAt d symbols names fresh) (StandsAt (deeper k d) symbols names fresh)
stands_deeper k zero symbols names fresh x t is = absurd is
stands_deeper k (suc d) symbols names fresh x t is = level_more symbols names fresh (StandsAt d symbols names fresh) (StandsAt (deeper k d) symbols names fresh) (stands_deeper k d symbols names fresh) (out-Expr x) t is

-- it stands, to some depth
abbrev pub Stands : List Spelling → List Spelling → List FreshNode → Standing
Stands symbols names fresh x t = (d : ℕ) × StandsAt d symbols names fresh x t

-- what stands, each to its depth, stands to one
pub stand_depth : (symbols names : List Spelling) (fresh : List FreshNode) (xs : List Expr) (arcs : List FreshArc) → AllZip (λ x (a : FreshArc). Stands symbols names fresh x a.to) xs arcs → (d : ℕ) × AllZip (λ x (a : FreshArc). StandsAt d symbols names fresh x a.to) xs arcs
stand_depth symbols names fresh [] [] all = (0, tt)
stand_depth symbols names fresh [] (a ∷ arcs) all = absurd all
stand_depth symbols names fresh (x ∷ xs) [] all = absurd all
stand_depth symbols names fresh (x ∷ xs) (a ∷ arcs) all =
    let rest = stand_depth symbols names fresh xs arcs all.1 in (
      deeper all.0.0 rest.0,
      (
        stands_up all.0.0 rest.0 symbols names fresh x a.to all.0.1,
        zip_weaken (λ y (b : FreshArc). StandsAt rest.0 symbols names fresh y b.to) (λ y (b : FreshArc). StandsAt (deeper all.0.0 rest.0) symbols names fresh y b.to) (λ y b stands. stands_deeper all.0.0 rest.0 symbols names fresh y b.to stands) xs arcs rest.1,
      ),
    )

-- ---- settled mentions

node_more : (e : Fun) (symbols : List Spelling) (P Q : Mention → Type 0) → ((t : Mention) → P t → Q t) → (o : Option FreshNode) → SettledNode e symbols P o → SettledNode e symbols Q o
node_more e symbols P Q more None is = is
node_more e symbols P Q more (Some node) is = (is.0, each_weaken (λ (a : FreshArc). P a.to) (λ (a : FreshArc). Q a.to) (λ a was. more a.to was) node.arcs is.1)

mention_more : (e : Fun) (symbols : List Spelling) (count : ℕ) (fresh : List FreshNode) (P Q : Mention → Type 0) → ((t : Mention) → P t → Q t) → (t : Mention) → SettledMention e symbols count fresh P t → SettledMention e symbols count fresh Q t
mention_more e symbols count fresh P Q more (Old v) is = is
mention_more e symbols count fresh P Q more (Fresh i) is = node_more e symbols P Q more (slice_get fresh i) is

settled_more : (d : ℕ) (e : Fun) (symbols : List Spelling) (count : ℕ) (fresh : List FreshNode) (t : Mention) → SettledAt d e symbols count fresh t → SettledAt (suc d) e symbols count fresh t
settled_more zero e symbols count fresh t is = absurd is
settled_more (suc d) e symbols count fresh t is = mention_more e symbols count fresh (SettledAt d e symbols count fresh) (SettledAt (suc d) e symbols count fresh) (settled_more d e symbols count fresh) t is

settled_up : (k d : ℕ) (e : Fun) (symbols : List Spelling) (count : ℕ) (fresh : List FreshNode) (t : Mention) → SettledAt k e symbols count fresh t → SettledAt (deeper k d) e symbols count fresh t
settled_up k zero e symbols count fresh t is = is
settled_up k (suc d) e symbols count fresh t is = settled_more (deeper k d) e symbols count fresh t (settled_up k d e symbols count fresh t is)

settled_deeper : (k d : ℕ) (e : Fun) (symbols : List Spelling) (count : ℕ) (fresh : List FreshNode) (t : Mention) → SettledAt d e symbols count fresh t → SettledAt (deeper k d) e symbols count fresh t
settled_deeper k zero e symbols count fresh t is = absurd is
settled_deeper k (suc d) e symbols count fresh t is = mention_more e symbols count fresh (SettledAt d e symbols count fresh) (SettledAt (deeper k d) e symbols count fresh) (settled_deeper k d e symbols count fresh) t is

abbrev pub Settled : Fun → List Spelling → ℕ → List FreshNode → Mention → Type 0
Settled e symbols count fresh t = (d : ℕ) × SettledAt d e symbols count fresh t

pub settled_depth : (e : Fun) (symbols : List Spelling) (count : ℕ) (fresh : List FreshNode) (arcs : List FreshArc) → AllByRecursion (λ a. Settled e symbols count fresh a.to) arcs → (d : ℕ) × AllByRecursion (λ a. SettledAt d e symbols count fresh a.to) arcs
settled_depth e symbols count fresh [] all = (0, tt)
settled_depth e symbols count fresh (a ∷ arcs) all =
    let rest = settled_depth e symbols count fresh arcs all.1 in (
      deeper all.0.0 rest.0,
      (
        settled_up all.0.0 rest.0 e symbols count fresh a.to all.0.1,
        each_weaken (λ (b : FreshArc). SettledAt rest.0 e symbols count fresh b.to) (λ (b : FreshArc). SettledAt (deeper all.0.0 rest.0) e symbols count fresh b.to) (λ b was. settled_deeper all.0.0 rest.0 e symbols count fresh b.to was) arcs rest.1,
      ),
    )
