-- Names by their spelling, and those that a translation knows.
use Rattle.std.specs.Prelude.{ℕ, suc, Bool, true, false, ◌&&◌, List, [], ◌∷◌, Option, Some, None, ◌==◌, if◌then◌else◌}
use Rattle.dactl_model.specs.declared.program.Op.{Op}
use Rattle.dactl_model.specs.declared.program.Op.TheVariants.{Add, Sub, Mul, Eq, Lt}

-- the bytes of a name
abbrev pub Spelling : Type 0
Spelling = List ℕ

-- the two names are one
abbrev pub same_name : Spelling → Spelling → Bool
same_name [] [] = true
same_name [] (b ∷ bs) = false
same_name (a ∷ rest) [] = false
same_name (a ∷ rest) (b ∷ bs) = (a == b) && same_name rest bs

-- True
abbrev pub true_name : Spelling
true_name = 84 ∷ 114 ∷ 117 ∷ 101 ∷ []

-- False
abbrev pub false_name : Spelling
false_name = 70 ∷ 97 ∷ 108 ∷ 115 ∷ 101 ∷ []

-- Chk
abbrev pub check_name : Spelling
check_name = 67 ∷ 104 ∷ 107 ∷ []

-- IAdd, ISub, IMul, IEq and ILt
abbrev pub operation : Spelling → Option Op
operation g =
    if same_name g (73 ∷ 65 ∷ 100 ∷ 100 ∷ []) then Some Add else (if same_name g (73 ∷ 83 ∷ 117 ∷ 98 ∷ []) then Some Sub else (if same_name g (73 ∷ 77 ∷ 117 ∷ 108 ∷ []) then Some Mul else (if same_name g (73 ∷ 69 ∷ 113 ∷ []) then Some Eq
    else (if same_name g (73 ∷ 76 ∷ 116 ∷ []) then Some Lt else None))))

-- the place of the first use of a name in the list, or the length
abbrev pub place_of : List Spelling → Spelling → ℕ
place_of [] x = 0
place_of (y ∷ names) x = if same_name y x then 0 else suc (place_of names x)
