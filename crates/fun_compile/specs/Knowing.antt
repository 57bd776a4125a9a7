-- What the code knows of names: sets of them, and its translator.
use Rattle.std.specs.Prelude.{◌≡◌, List, map, Bool}
use Rattle.std.specs.List.{list_any}
use Rattle.std.specs.Borrow.{Bor}
use Rattle.std.specs.BTreeSet.{BTreeSet, contains_by}
use Rattle.std.specs.Cmp.Lexicographic.{slice_cmp}
use Rattle.std.specs.Ordering.{nat_cmp}
use Rattle.dactl_meaning.specs.declared.tree.Name.{Name}
use Rattle.fun_meaning.specs.declared.tree.Equation.{Equation}
use Rattle.fun_meaning.specs.Names.{Spelling, same_name}
use Rattle.fun_compile.specs.declared.terms.Translator.{Translator}

-- whether the set has the name
abbrev pub has_name : BTreeSet (Bor Spelling) → Spelling → Bool
has_name names w = contains_by (λ k. slice_cmp nat_cmp w k.now) names

-- the name is one of these
abbrev pub is_one_of : List Name → Spelling → Bool
is_one_of names w = list_any (λ c. same_name w c.text) names

-- the set has these names and no other
abbrev pub HasNames : List Name → BTreeSet (Bor Spelling) → Type 0
HasNames names set = (w : Spelling) → has_name set w ≡ is_one_of names w

-- the translator knows the constructors of its equations
abbrev pub IsReady : Translator → Type 0
IsReady t = HasNames t.fun.now.constructors t.declared

-- the equations that the references point to
abbrev pub told : List (Bor Equation) → List Equation
told equations = map (λ eq. eq.now) equations
