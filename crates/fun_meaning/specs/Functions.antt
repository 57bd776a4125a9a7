-- The functions that equations make, and the symbols of their translation.
use Rattle.std.specs.Prelude.{Bool, not, List, [], ◌∷◌, ◌++◌, map, codes}
use Rattle.std.specs.List.{filter}
use Rattle.fun_meaning.specs.declared.tree.Equation.{Equation}
use Rattle.fun_meaning.specs.declared.tree.Fun.{Fun}
use Rattle.fun_meaning.specs.Names.{Spelling, same_name, check_name}

-- the two equations are not of one function
abbrev pub is_other : Equation → Equation → Bool
is_other eq other = not (same_name eq.head.text other.head.text)

-- the first equation of each function
abbrev pub first_ones : List Equation → List Equation
first_ones [] = []
first_ones (eq ∷ equations) = eq ∷ filter (is_other eq) (first_ones equations)

-- the functions, in the order of their first equations
abbrev pub functions : Fun → List Spelling
functions e = map (λ eq. eq.head.text) (first_ones e.equations)

-- the constructors that `DATA` items declare
abbrev pub constructors : Fun → List Spelling
constructors e = map (λ c. c.text) e.constructors

-- the names of the symbols of a translation, in order: those of Arithmetic, the functions, Chk, and the constructors
abbrev pub names_of : Fun → List Spelling
names_of e =
    codes "IAdd" ∷ codes "ISub" ∷ codes "IMul" ∷ codes "IEq" ∷ codes "ILt" ∷ codes "True" ∷ codes "False" ∷ ((functions e ++ check_name ∷ []) ++ constructors e)

-- Arithmetic
abbrev pub arithmetic_name : Spelling
arithmetic_name = codes "Arithmetic"

-- Fun
abbrev pub fun_name : Spelling
fun_name = codes "Fun"
