-- The head of an expansion, by the name at the head of its pattern.
use Rattle.std.proofs.Common.{◌≡◌, ℕ, Bool, true, false, ◌||◌, List, [], ◌∷◌, map, Option, Some, None, refl, sym, ap, ◌∙◌, if◌then◌else◌}
use Rattle.dactl_model.specs.declared.program.Pat.{Pat}
use Rattle.dactl_model.specs.declared.program.Pat.TheOpen.{Pat-F}
use Rattle.dactl_model.specs.declared.program.Pat.TheViews.{roll-Pat}
use Rattle.dactl_model.specs.declared.program.Pat.TheFolds.{fold-roll-Pat}
use Rattle.dactl_model.specs.Binders.{head, head_level}
use Rattle.dactl_meaning.specs.declared.tree.Name.{Name}
use Rattle.dactl_meaning.specs.declared.tree.Sign.{Sign}
use Rattle.dactl_meaning.specs.declared.tree.Sign.TheVariants as signs
use Rattle.dactl_meaning.specs.declared.tree.PatternTree.{PatternTree}
use Rattle.dactl_meaning.specs.declared.tree.PatternTree.TheOpen.{PatternTree-F}
use Rattle.dactl_meaning.specs.declared.tree.PatternTree.TheViews.{roll-PatternTree}
use Rattle.dactl_meaning.specs.declared.tree.PatternTree.TheFolds.{map-PatternTree, fold-roll-PatternTree}
use Rattle.dactl_meaning.specs.Sight.{Seen, SeenSymbol, SeenPattern}
use Rattle.dactl_meaning.specs.Expansion.{is_plus, has_plus, at_name, at_variable, join, chain, expansion_level, expansion_by}
use Rattle.dactl_meaning.proofs.Induction.{pattern_induction, plus_kept}
use Rattle.dactl_patterns.specs.Table.{head_seen, head_name, head_name_level}

head_any : head (roll-Pat Pat-F.Any) ≡ None
head_any = fold-roll-Pat (Option ℕ) head_level Pat-F.Any

head_joined : (s : Sign) (a b : Pat) → head (join s a b) ≡ (if is_plus s then None else head a)
head_joined signs.Plus a b = fold-roll-Pat (Option ℕ) head_level (Pat-F.Union a b)
head_joined signs.Minus a b = fold-roll-Pat (Option ℕ) head_level (Pat-F.Less a b)

plus_by : (b c : Bool) (o : Option ℕ) → (if c then None else (if b then None else o)) ≡ (if (b || c) then None else o)
plus_by true true o = refl
plus_by true false o = refl
plus_by false c o = refl

head_chain : (a : Pat) (rest : List (Sign × Pat)) → head (chain a rest) ≡ (if has_plus rest then None else head a)
head_chain a [] = refl
head_chain a (l ∷ rest) =
    head_chain (join l.0 a l.1) rest ∙ ap (λ (o : Option ℕ). if has_plus rest then None else o) (head_joined l.0 a l.1)
    ∙ plus_by (is_plus l.0) (has_plus rest) (head a)

head_bound : (variables : Option (List (List ℕ))) (x : List ℕ) (a : Pat) → head (at_variable variables x a) ≡ head a
head_bound None x a = refl
head_bound (Some variables) x a = fold-roll-Pat (Option ℕ) head_level (Pat-F.Bind _ a)

head_at : (named : ℕ → ℕ → Pat) (o : Option Seen) (args : List Pat) → head (at_name named o args) ≡ head_seen named o
head_at named None args = head_any
head_at named (Some (SeenSymbol f class)) args = fold-roll-Pat (Option ℕ) head_level (Pat-F.Sym f args)
head_at named (Some (SeenPattern m i)) args = refl

module _ (look : List ℕ → Option Seen) (named : ℕ → ℕ → Pat) where
  -- the head of the name, if there is one
  abbrev pub of_name : Option Name → Option ℕ
  of_name None = None
  of_name (Some name) = head_seen named (look name.text)

  unless_plus : (b : Bool) (o : Option Name) → (if b then None else of_name o) ≡ of_name (if b then None else o)
  unless_plus true o = refl
  unless_plus false o = refl

  pub head_of : (variables : Option (List (List ℕ))) (t : PatternTree) → head (expansion_by look named variables t) ≡ of_name (head_name t)
  head_of variables = pattern_induction (λ t. head (of t) ≡ of_name (head_name t)) (record {
    any = layer PatternTree-F.Any head_any;
    int = layer PatternTree-F.Int (fold-roll-Pat (Option ℕ) head_level Pat-F.Int);
    char = layer PatternTree-F.Char (fold-roll-Pat (Option ℕ) head_level Pat-F.Char);
    integer = λ value. layer (PatternTree-F.Integer value) (fold-roll-Pat (Option ℕ) head_level (Pat-F.Literal value));
    letter = λ value. layer (PatternTree-F.Letter value) (fold-roll-Pat (Option ℕ) head_level (Pat-F.Letter value));
    symbol = λ name args each. layer (PatternTree-F.Sym name args) (head_at named (look name.text) (map of args));
    variable = λ name. layer (PatternTree-F.Variable name) (head_bound variables name.text (roll-Pat Pat-F.Any) ∙ head_any);
    binder = λ name inner same. layer (PatternTree-F.Binder name inner) (head_bound variables name.text (of inner) ∙ same);
    chain = λ first rest same each. layer (PatternTree-F.Chain first rest)
        (head_chain (of first) (map (λ l. (l.0, of l.1)) rest) ∙ (λ j. if plus_kept of rest j then None else same j)
        ∙ unless_plus (has_plus rest) (head_name first) ∙ ap (λ (b : Bool). of_name (if b then None else head_name first)) (sym (plus_kept head_name rest)));
  })
    where
      of : PatternTree → Pat
      of = expansion_by look named variables

      layer : (y : PatternTree-F PatternTree) → head (expansion_level look named variables (map-PatternTree PatternTree Pat of y)) ≡ of_name (head_name_level (map-PatternTree PatternTree (Option Name) head_name y))
          → head (of (roll-PatternTree y)) ≡ of_name (head_name (roll-PatternTree y))
      layer y same =
          ap head (fold-roll-PatternTree Pat (expansion_level look named variables) y) ∙ same
          ∙ sym (ap of_name (fold-roll-PatternTree (Option Name) head_name_level y))
