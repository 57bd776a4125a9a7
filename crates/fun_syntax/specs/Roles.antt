-- What the names of equations are.
use Rattle.std.specs.Prelude.{ℕ, Bool, true, false, not, ◌==◌, ◌||◌, List, [], ◌∷◌, length, Option, Some, None, codes}
use Rattle.std.specs.Str.{bytes_eq}
use Rattle.dactl_meaning.specs.declared.tree.Name.{Name}
use Rattle.fun_meaning.specs.declared.tree.Equation.{Equation}
use Rattle.fun_meaning.specs.declared.tree.Fun.{Fun}
use Rattle.fun_syntax.specs.declared.roles.Role.{Role}
use Rattle.fun_syntax.specs.declared.roles.Role.TheVariants as role
use Rattle.fun_syntax.specs.Words.{Known, nothing, with_word}

-- what is declared before a text
abbrev pub built_in : Known Role
built_in =
    with_word (with_word (with_word (with_word (with_word (with_word (with_word nothing
    (codes "IAdd") role.Arithmetic)
    (codes "ISub") role.Arithmetic)
    (codes "IMul") role.Arithmetic)
    (codes "IEq") role.Arithmetic)
    (codes "ILt") role.Arithmetic)
    (codes "True") role.Constructor)
    (codes "False") role.Constructor

-- a `DATA` name declares a constructor, and a head a function, unless its word is declared
abbrev pub with_constructor : Known Role → Name → Known Role
with_constructor roles name = with_word roles name.text role.Constructor

abbrev pub with_function : Known Role → Equation → Known Role
with_function roles eq = with_word roles eq.head.text (role.Function (length eq.patterns))

abbrev pub with_constructors : Known Role → List Name → Known Role
with_constructors roles [] = roles
with_constructors roles (name ∷ more) = with_constructors (with_constructor roles name) more

abbrev pub with_functions : Known Role → List Equation → Known Role
with_functions roles [] = roles
with_functions roles (eq ∷ more) = with_functions (with_function roles eq) more

-- what the names of equations are: what their first declarations say
abbrev pub roles_of : Fun → Known Role
roles_of e = with_functions (with_constructors built_in e.constructors) e.equations

-- the words that a translation has for itself
abbrev pub is_reserved : List ℕ → Bool
is_reserved word = bytes_eq word (codes "Fun") || (bytes_eq word (codes "Chk") || bytes_eq word (codes "Arithmetic"))

-- a constructor or an arithmetic function, which no equation defines
abbrev pub is_given : Option Role → Bool
is_given None = false
is_given (Some role.Constructor) = true
is_given (Some role.Arithmetic) = true
is_given (Some (role.Function arity)) = false

-- a function or an arithmetic function, which no pattern has
abbrev pub is_called : Option Role → Bool
is_called None = false
is_called (Some role.Constructor) = false
is_called (Some role.Arithmetic) = true
is_called (Some (role.Function arity)) = true

-- a function has as many arguments as in its first equation, and an arithmetic function two
abbrev pub has_other_count : Option Role → ℕ → Bool
has_other_count None count = false
has_other_count (Some role.Constructor) count = false
has_other_count (Some role.Arithmetic) count = not (count == 2)
has_other_count (Some (role.Function arity)) count = not (count == arity)
