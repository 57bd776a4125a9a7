-- Over-writable patterns, by the layer at their top.
use Rattle.std.proofs.Common.{◌≡◌, ℕ, Bool, ◌||◌, List, [], ◌∷◌, map, refl, sym, ap, ◌∙◌}
use Rattle.dactl_model.specs.declared.program.Pat.{Pat}
use Rattle.dactl_model.specs.declared.program.Pat.TheVariants as pat
use Rattle.dactl_model.specs.declared.program.Pat.TheVariants.{rolls-Sym}
use Rattle.dactl_model.specs.declared.program.Pat.TheOpen.{Pat-F}
use Rattle.dactl_model.specs.declared.program.Pat.TheFolds.{fold-Pat, fold-roll-Pat}
use Rattle.dactl_meaning.specs.Expansion.{Overwriting, overwriting_level, some_gives}
use Rattle.dactl_contractum.specs.Writing.{gives, some_give}

some_given : (writable : ℕ → Bool) (v : ℕ) (args : List Pat) → some_gives (map (fold-Pat Overwriting (overwriting_level writable v)) args) ≡ some_give writable v args
some_given writable v [] = refl
some_given writable v (a ∷ args) = ap (λ (b : Bool). gives writable v a || b) (some_given writable v args)

pub gives_symbol : (writable : ℕ → Bool) (v f : ℕ) (args : List Pat) → gives writable v (pat.Sym f args) ≡ some_give writable v args
gives_symbol writable v f args =
    ap (gives writable v) (sym (rolls-Sym f args)) ∙ ap (λ (o : Overwriting). o.gives) (fold-roll-Pat Overwriting (overwriting_level writable v) (Pat-F.Sym f args))
    ∙ some_given writable v args
