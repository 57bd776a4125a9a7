-- Induction over the trees of patterns.
use Rattle.std.proofs.Common.{◌≡◌, ℕ, ℤ, Bool, List, [], ◌∷◌, map, refl, ap, subst}
use Rattle.std.specs.Prelude.{◌||◌}
use Rattle.dactl_meaning.specs.declared.tree.Name.{Name}
use Rattle.dactl_meaning.specs.declared.tree.Sign.{Sign}
use Rattle.dactl_meaning.specs.declared.tree.PatternTree.{PatternTree}
use Rattle.dactl_meaning.specs.declared.tree.PatternTree.TheOpen.{PatternTree-F}
use Rattle.dactl_meaning.specs.declared.tree.PatternTree.TheViews.{roll-PatternTree}
use Rattle.dactl_meaning.specs.Expansion as spec
use Rattle.dactl_meaning.specs.Expansion.{has_plus}
use Rattle.dactl_meaning.specs.declared.tree.PatternTree.TheFolds.{ind-PatternTree, map-PatternTree}

-- the fact holds of each
abbrev pub Each : {X : Type 0} → (X → Type 0) → List X → Type 0
Each Q [] = Unit {0}
Each Q (x ∷ xs) = Q x × Each Q xs

-- the fact holds of each pattern behind a sign
abbrev pub EachLink : {A : Type 0} → (A → Type 0) → List (Sign × A) → Type 0
EachLink Q [] = Unit {0}
EachLink Q (l ∷ rest) = Q l.1 × EachLink Q rest

-- what an induction over patterns owes
pub record PatternCases (Q : PatternTree → Type 0) : Type 0 where
  pub any : Q (roll-PatternTree PatternTree-F.Any)
  pub int : Q (roll-PatternTree PatternTree-F.Int)
  pub char : Q (roll-PatternTree PatternTree-F.Char)
  pub integer : (value : ℤ) → Q (roll-PatternTree (PatternTree-F.Integer value))
  pub letter : (value : ℕ) → Q (roll-PatternTree (PatternTree-F.Letter value))
  pub symbol : (name : Name) (args : List PatternTree) → Each Q args → Q (roll-PatternTree (PatternTree-F.Sym name args))
  pub variable : (name : Name) → Q (roll-PatternTree (PatternTree-F.Variable name))
  pub binder : (name : Name) (inner : PatternTree) → Q inner → Q (roll-PatternTree (PatternTree-F.Binder name inner))
  pub chain : (first : PatternTree) (rest : List (Sign × PatternTree)) → Q first → EachLink Q rest → Q (roll-PatternTree (PatternTree-F.Chain first rest))

pub each_of : {X : Type 0} (Q : X → Type 0) (es : List ((x : X) × Q x)) → Each Q (map (λ e. e.0) es)
each_of Q [] = tt
each_of Q (e ∷ es) = (e.1, each_of Q es)

each_link_of : (Q : PatternTree → Type 0) (es : List (Sign × ((t : PatternTree) × Q t))) → EachLink Q (map (λ l. (l.0, l.1.0)) es)
each_link_of Q [] = tt
each_link_of Q (e ∷ es) = (e.1.1, each_link_of Q es)

pattern_level : (Q : PatternTree → Type 0) → PatternCases Q → (y : PatternTree-F ((t : PatternTree) × Q t)) → Q (roll-PatternTree (map-PatternTree ((t : PatternTree) × Q t) PatternTree (λ e. e.0) y))
pattern_level Q cases PatternTree-F.Any = cases.any
pattern_level Q cases PatternTree-F.Int = cases.int
pattern_level Q cases PatternTree-F.Char = cases.char
pattern_level Q cases (PatternTree-F.Integer value) = cases.integer value
pattern_level Q cases (PatternTree-F.Letter value) = cases.letter value
pattern_level Q cases (PatternTree-F.Sym name args) = cases.symbol name (map (λ e. e.0) args) (each_of Q args)
pattern_level Q cases (PatternTree-F.Variable name) = cases.variable name
pattern_level Q cases (PatternTree-F.Binder name inner) = cases.binder name inner.0 inner.1
pattern_level Q cases (PatternTree-F.Chain first rest) = cases.chain first.0 (map (λ l. (l.0, l.1.0)) rest) first.1 (each_link_of Q rest)

pub pattern_induction : (Q : PatternTree → Type 0) → PatternCases Q → (t : PatternTree) → Q t
pattern_induction Q cases = ind-PatternTree Q (λ x y is. subst (λ z. Q (roll-PatternTree z)) is (pattern_level Q cases y))

-- the signs stay where the patterns between them change
pub plus_kept : {A B : Type 0} (f : A → B) (rest : List (Sign × A)) → has_plus (map (λ l. (l.0, f l.1)) rest) ≡ has_plus rest
plus_kept f [] = refl
plus_kept f (l ∷ rest) = ap (λ (b : Bool). spec.is_plus l.0 || b) (plus_kept f rest)
