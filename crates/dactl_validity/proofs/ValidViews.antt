-- What a pattern says, and an induction over all of it at once.
use Rattle.std.proofs.Common.{◌≡◌, ℕ, Bool, List, Option, sym, subst}
use Rattle.dactl_model.specs.declared.program.Pat.{Pat}
use Rattle.dactl_meaning.specs.declared.tree.PatternTree.{PatternTree}
use Rattle.dactl_meaning.specs.declared.tree.PatternTree.TheOpen.{PatternTree-F}
use Rattle.dactl_meaning.specs.declared.tree.PatternTree.TheViews.{roll-PatternTree}
use Rattle.dactl_meaning.specs.declared.tree.PatternTree.TheFolds.{fold-roll-PatternTree, map-PatternTree}
use Rattle.dactl_meaning.specs.Sight.{Seen}
use Rattle.dactl_meaning.specs.Uses.{Use, pattern_uses, pattern_uses_level}
use Rattle.dactl_meaning.specs.Expansion.{Occurrence, occurrences_in, occurrences_level, root_names, root_names_level, expansion_level, expansion_by}
use Rattle.dactl_meaning.specs.Spelling.{pattern_narrow, is_narrow_pattern}
use Rattle.dactl_meaning.proofs.Induction.{Each, EachLink, pattern_induction}

-- what it uses, where its variables stand, the names of its root, whether it is narrow, and its expansion
pub record Views : Type 0 where
  pub uses : List Use
  pub occurrences : Bool → List Occurrence
  pub roots : List (List ℕ)
  pub narrow : Bool
  pub expansion : Pat

-- the fact holds of each pattern one level below
abbrev pub Below : (PatternTree → Type 0) → PatternTree-F PatternTree → Type 0
Below Q (PatternTree-F.Sym name args) = Each Q args
Below Q (PatternTree-F.Binder name inner) = Q inner
Below Q (PatternTree-F.Chain first rest) = Q first × EachLink Q rest
Below Q x = Unit {0}

module _ (look : List ℕ → Option Seen) (named : ℕ → ℕ → Pat) (variables : Option (List (List ℕ))) where
  abbrev pub expand : PatternTree → Pat
  expand = expansion_by look named variables

  abbrev pub views : PatternTree → Views
  views t = record { uses = pattern_uses t; occurrences = occurrences_in t; roots = root_names t; narrow = is_narrow_pattern t; expansion = expand t }

  abbrev pub views_level : PatternTree-F PatternTree → Views
  views_level x = record {
    uses = pattern_uses_level (map-PatternTree PatternTree (List Use) pattern_uses x);
    occurrences = occurrences_level (map-PatternTree PatternTree (Bool → List Occurrence) occurrences_in x);
    roots = root_names_level (map-PatternTree PatternTree (List (List ℕ)) root_names x);
    narrow = pattern_narrow (map-PatternTree PatternTree Bool is_narrow_pattern x);
    expansion = expansion_level look named variables (map-PatternTree PatternTree Pat expand x);
  }

  views_roll : (x : PatternTree-F PatternTree) → views (roll-PatternTree x) ≡ views_level x
  views_roll x = λ j. record {
    uses = fold-roll-PatternTree (List Use) pattern_uses_level x j;
    occurrences = fold-roll-PatternTree (Bool → List Occurrence) occurrences_level x j;
    roots = fold-roll-PatternTree (List (List ℕ)) root_names_level x j;
    narrow = fold-roll-PatternTree Bool pattern_narrow x j;
    expansion = fold-roll-PatternTree Pat (expansion_level look named variables) x j;
  }

  module _ (R : Views → Type 0) (claim : (x : PatternTree-F PatternTree) → Below (λ t. R (views t)) x → R (views_level x)) where
    level : (x : PatternTree-F PatternTree) → Below (λ t. R (views t)) x → R (views (roll-PatternTree x))
    level x below = subst R (sym (views_roll x)) (claim x below)

    pub view_induction : (t : PatternTree) → R (views t)
    view_induction = pattern_induction (λ t. R (views t)) (record {
      any = level PatternTree-F.Any tt;
      int = level PatternTree-F.Int tt;
      char = level PatternTree-F.Char tt;
      integer = λ i. level (PatternTree-F.Integer i) tt;
      letter = λ c. level (PatternTree-F.Letter c) tt;
      symbol = λ name args each. level (PatternTree-F.Sym name args) each;
      variable = λ name. level (PatternTree-F.Variable name) tt;
      binder = λ name inner h. level (PatternTree-F.Binder name inner) h;
      chain = λ first rest h each. level (PatternTree-F.Chain first rest) (h, each);
    })
