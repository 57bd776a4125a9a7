-- Names that are one, by their bytes.
use Rattle.std.proofs.Common.{◌≡◌, ℕ, Bool, true, false, ◌&&◌, ◌||◌, List, [], ◌∷◌, codes, Option, Some, None, is_some, refl, sym, ap, ◌∙◌, eqb, arith}
use Rattle.std.specs.Prelude.{◌==◌, if◌then◌else◌}
use Rattle.std.specs.Str.{bytes_eq}
use Rattle.std.proofs.lemmas.Bool.Decides.{nat_tests}
use Rattle.std.specs.List.{list_any}
use Rattle.dactl_model.specs.declared.program.Op.{Op}
use Rattle.dactl_model.specs.declared.program.Op.TheVariants as ops
use Rattle.fun_meaning.specs.declared.tree.Fun.{Fun}
use Rattle.fun_meaning.specs.Names.{Spelling, same_name, true_name, false_name, operation}
use Rattle.fun_meaning.specs.Values.{is_constructor}
use Rattle.fun_compile.specs.Knowing.{is_one_of}

-- as the code compares them
pub same_is : (a b : Spelling) → same_name a b ≡ bytes_eq a b
same_is [] [] = refl
same_is [] (b ∷ bs) = refl
same_is (a ∷ as_) [] = refl
same_is (a ∷ as_) (b ∷ bs) = ap (λ t. (a == b) && t) (same_is as_ bs)

eqb-sym : (m n : ℕ) → eqb m n ≡ eqb n m
eqb-sym m n = grind (arith, nat_tests)

-- from either side
pub same_swapped : (a b : Spelling) → same_name a b ≡ same_name b a
same_swapped [] [] = refl
same_swapped [] (b ∷ bs) = refl
same_swapped (a ∷ as_) [] = refl
same_swapped (a ∷ as_) (b ∷ bs) = ap (λ t. (a == b) && t) (same_swapped as_ bs) ∙ ap (λ t. t && same_name bs as_) (eqb-sym a b)

some_if : (b : Bool) (o : Op) (rest : Option Op) → is_some (if b then Some o else rest) ≡ (b || is_some rest)
some_if true o rest = refl
some_if false o rest = refl

one_more : (b c : Bool) (o : Op) (rest : Option Op) (more : Bool) → b ≡ c → is_some rest ≡ more → is_some (if b then Some o else rest) ≡ (c || more)
one_more b c o rest more e f = some_if b o rest ∙ ap (λ k. k || is_some rest) e ∙ ap (λ k. c || k) f

-- the arithmetic functions
abbrev pub operations : List Spelling
operations = codes "IAdd" ∷ codes "ISub" ∷ codes "IMul" ∷ codes "IEq" ∷ codes "ILt" ∷ []

pub operation_known : (g : Spelling) → is_some (operation g) ≡ list_any (bytes_eq g) operations
operation_known g =
    one_more _ _ ops.Add _ _ (same_is g (codes "IAdd"))
    (one_more _ _ ops.Sub _ _ (same_is g (codes "ISub"))
    (one_more _ _ ops.Mul _ _ (same_is g (codes "IMul")) (one_more _ _ ops.Eq _ _ (same_is g (codes "IEq")) (one_more _ _ ops.Lt _ _ (same_is g (codes "ILt")) refl))))

-- the constructors, told whether the name is a declared one
pub constructor_known : (e : Fun) (g : Spelling) (declared : Bool) → declared ≡ is_one_of e.constructors g → (bytes_eq g (codes "True") || (bytes_eq g (codes "False") || declared)) ≡ is_constructor e g
constructor_known e g declared is =
    ap (λ b. b || (bytes_eq g (codes "False") || declared)) (sym (same_is g true_name))
    ∙ ap (λ b. same_name g true_name || (b || declared)) (sym (same_is g false_name))
    ∙ ap (λ b. same_name g true_name || (same_name g false_name || b)) is
