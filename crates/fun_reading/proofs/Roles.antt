-- What no fault means, piece by piece, and what the words of equations are.
use Rattle.std.proofs.Common.{◌≡◌, ℕ, Bool, true, false, ◌&&◌, ◌||◌, List, [], ◌∷◌, length, codes, Option, Some, None, refl, ap, ◌∙◌, eqb, arith, ◌==◌, if◌then◌else◌}
use Rattle.std.specs.List.{list_any}
use Rattle.std.specs.Option.{option_or}
use Rattle.std.specs.Str.{bytes_eq}
use Rattle.std.proofs.lemmas.Bool.Decides.{nat_tests}
use Rattle.dactl_model.specs.declared.program.Op.{Op}
use Rattle.dactl_model.specs.declared.program.Op.TheVariants as ops
use Rattle.dactl_meaning.specs.declared.tree.Name.{Name}
use Rattle.fun_meaning.specs.declared.tree.Equation.{Equation}
use Rattle.fun_meaning.specs.declared.tree.Fun.{Fun}
use Rattle.fun_meaning.specs.Names.{Spelling, same_name, true_name, false_name, operation}
use Rattle.fun_meaning.specs.Values.{is_constructor}
use Rattle.fun_meaning.specs.Translation.{head_arity}
use Rattle.fun_syntax.specs.declared.roles.Role.{Role}
use Rattle.fun_syntax.specs.declared.roles.Role.TheVariants as role
use Rattle.fun_syntax.specs.Words.{Known, with_word}
use Rattle.fun_syntax.specs.Roles.{built_in, with_constructors, with_functions, roles_of}

-- ---- words that are one

pub or_nothing : {A : Type 0} (o : Option A) → o ≡ option_or o None
or_nothing None = refl
or_nothing (Some x) = refl

pub bytes_same : (a b : Spelling) → bytes_eq a b ≡ same_name a b
bytes_same [] [] = refl
bytes_same [] (b ∷ bs) = refl
bytes_same (a ∷ rest) [] = refl
bytes_same (a ∷ rest) (b ∷ bs) = ap (λ t. (a == b) && t) (bytes_same rest bs)

pub eqb-sym : (m n : ℕ) → eqb m n ≡ eqb n m
eqb-sym m n = grind (arith, nat_tests)

pub same_swapped : (a b : Spelling) → same_name a b ≡ same_name b a
same_swapped [] [] = refl
same_swapped [] (b ∷ bs) = refl
same_swapped (a ∷ rest) [] = refl
same_swapped (a ∷ rest) (b ∷ bs) = ap (λ t. (a == b) && t) (same_swapped rest bs) ∙ ap (λ t. t && same_name bs rest) (eqb-sym a b)

pub bytes_swapped : (a b : Spelling) → bytes_eq a b ≡ same_name b a
bytes_swapped a b = bytes_same a b ∙ same_swapped a b

-- ---- what each word is

-- by whether it is an operation, a constructor, or the head of an equation
abbrev pub role_by : Option Op → Bool → Option ℕ → Option Role
role_by (Some o) made arity = Some role.Arithmetic
role_by None true arity = Some role.Constructor
role_by None false None = None
role_by None false (Some k) = Some (role.Function k)

abbrev pub function_role : Option ℕ → Option Role
function_role None = None
function_role (Some k) = Some (role.Function k)

abbrev pub constructor_role : Bool → Option Role
constructor_role true = Some role.Constructor
constructor_role false = None

-- a `DATA` name of these has the word
abbrev pub is_declared : List Name → Spelling → Bool
is_declared names w = list_any (λ (c : Name). same_name w c.text) names

one_function : (o : Option Role) (b : Bool) (k : ℕ) (rest : Option ℕ) → option_or (option_or o (if b then Some (role.Function k) else None)) (function_role rest) ≡ option_or o (function_role (if b then Some k else rest))
one_function (Some r) b k rest = refl
one_function None true k rest = refl
one_function None false k rest = refl

pub functions_say : (eqs : List Equation) (roles : Known Role) (w : Spelling) → with_functions roles eqs w ≡ option_or (roles w) (function_role (head_arity eqs w))
unfolding with_word
functions_say [] roles w = or_nothing (roles w)
functions_say (eq ∷ eqs) roles w =
    functions_say eqs (with_word roles eq.head.text (role.Function (length eq.patterns))) w
    ∙ ap (λ b. option_or (option_or (roles w) (if b then Some (role.Function (length eq.patterns)) else None)) (function_role (head_arity eqs w))) (bytes_swapped w eq.head.text)
    ∙ one_function (roles w) (same_name eq.head.text w) (length eq.patterns) (head_arity eqs w)

one_constructor : (o : Option Role) (b rest : Bool) → option_or (option_or o (if b then Some role.Constructor else None)) (constructor_role rest) ≡ option_or o (constructor_role (b || rest))
one_constructor (Some r) b rest = refl
one_constructor None true rest = refl
one_constructor None false rest = refl

pub constructors_say : (names : List Name) (roles : Known Role) (w : Spelling) → with_constructors roles names w ≡ option_or (roles w) (constructor_role (is_declared names w))
unfolding with_word
constructors_say [] roles w = or_nothing (roles w)
constructors_say (name ∷ names) roles w =
    constructors_say names (with_word roles name.text role.Constructor) w
    ∙ ap (λ b. option_or (option_or (roles w) (if b then Some role.Constructor else None)) (constructor_role (is_declared names w))) (bytes_same w name.text)
    ∙ one_constructor (roles w) (same_name w name.text) (is_declared names w)

-- by which of seven words it is
abbrev seven : (a b c d e f g : Bool) → Option Role
seven a b c d e f g =
    option_or (option_or (option_or (option_or (option_or (option_or (option_or None
    (if a then Some role.Arithmetic else None))
    (if b then Some role.Arithmetic else None))
    (if c then Some role.Arithmetic else None))
    (if d then Some role.Arithmetic else None))
    (if e then Some role.Arithmetic else None))
    (if f then Some role.Constructor else None))
    (if g then Some role.Constructor else None)

seven_is : (a b c d e f g : Bool)
    → seven a b c d e f g ≡ role_by (if a then Some ops.Add else (if b then Some ops.Sub else (if c then Some ops.Mul else (if d then Some ops.Eq else (if e then Some ops.Lt else None))))) (f || g) None
seven_is true b c d e f g = refl
seven_is false true c d e f g = refl
seven_is false false true d e f g = refl
seven_is false false false true e f g = refl
seven_is false false false false true f g = refl
seven_is false false false false false true g = refl
seven_is false false false false false false true = refl
seven_is false false false false false false false = refl

pub built_says : (w : Spelling) → built_in w ≡ role_by (operation w) (same_name w true_name || same_name w false_name) None
unfolding with_word
built_says w =
    (λ j. seven (bytes_same w (codes "IAdd") j) (bytes_same w (codes "ISub") j) (bytes_same w (codes "IMul") j) (bytes_same w (codes "IEq") j) (bytes_same w (codes "ILt") j) (bytes_same w (codes "True") j) (bytes_same w (codes "False") j))
    ∙ seven_is (same_name w (codes "IAdd")) (same_name w (codes "ISub")) (same_name w (codes "IMul")) (same_name w (codes "IEq")) (same_name w (codes "ILt")) (same_name w (codes "True")) (same_name w (codes "False"))

joined : (o : Option Op) (a b c : Bool) (k : Option ℕ) → option_or (option_or (role_by o (a || b) None) (constructor_role c)) (function_role k) ≡ role_by o (a || (b || c)) k
joined (Some o) a b c k = refl
joined None true b c k = refl
joined None false true c k = refl
joined None false false true k = refl
joined None false false false None = refl
joined None false false false (Some k) = refl

-- the role of a word, by what the meaning of equations says of it
pub role_of : (e : Fun) (w : Spelling) → roles_of e w ≡ role_by (operation w) (is_constructor e w) (head_arity e.equations w)
role_of e w =
    functions_say e.equations (with_constructors built_in e.constructors) w
    ∙ ap (λ o. option_or o (function_role (head_arity e.equations w))) (constructors_say e.constructors built_in w ∙ ap (λ o. option_or o (constructor_role (is_declared e.constructors w))) (built_says w))
    ∙ joined (operation w) (same_name w true_name) (same_name w false_name) (is_declared e.constructors w) (head_arity e.equations w)
