-- The names of equations without a fault: each is declared once, and none is reserved.
use Rattle.std.proofs.Common.{◌≡◌, ℕ, zero, suc, Bool, true, false, not, cond, ◌||◌, ◌⊎◌, inl, inr, List, [], ◌∷◌, ◌++◌, ◌+◌, ◌-◌, ◌==◌, map, length, nat_lt, codes, Option, Some, None, is_some, slice_get, refl, sym, ap, ◌∙◌, subst, if◌then◌else◌}
use Rattle.std.specs.List.{AllByRecursion, filter}
use Rattle.std.specs.Option.{option_or}
use Rattle.std.specs.Str.{bytes_eq}
use Rattle.std.proofs.lemmas.List.Folds.{list_any-append}
use Rattle.dactl_base.specs.declared.refusal.Kind.TheVariants as kinds
use Rattle.dactl_model.specs.declared.program.Op.TheVariants as ops
use Rattle.dactl_meaning.specs.declared.tree.Name.{Name}
use Rattle.dactl_meaning.specs.Expansion.{is_among}
use Rattle.fun_meaning.specs.declared.tree.Equation.{Equation}
use Rattle.fun_meaning.specs.Names.{Spelling, same_name, true_name, false_name, check_name, operation, place_of}
use Rattle.fun_meaning.specs.Functions.{is_other, first_ones, arithmetic_name, fun_name}
use Rattle.fun_meaning.specs.Translation.{head_arity}
use Rattle.fun_meaning.specs.Sound.{IsApart, AreOnce}
use Rattle.fun_meaning.proofs.Matches.{same_name_refl, same_name_is}
use Rattle.fun_syntax.specs.declared.roles.Role.{Role}
use Rattle.fun_syntax.specs.declared.roles.Role.TheVariants as role
use Rattle.fun_syntax.specs.Faults.{constructor_faults, data_faults, new_functions, declaring_faults, head_faults}
use Rattle.fun_syntax.specs.Least.{when}
use Rattle.fun_syntax.specs.Roles.{is_reserved, with_constructor, with_function}
use Rattle.fun_syntax.specs.Words.{Known, with_word}
use Rattle.fun_reading.proofs.Empty.{front_empty, back_empty, when_none, left_none, right_none}
use Rattle.fun_reading.proofs.Roles.{bytes_same, bytes_swapped, is_declared}
use Rattle.fun_reading.proofs.SoundPieces.{or_left, or_right, AreDistinct, unlike}

-- ---- tests

pub refute : (b : Bool) → (b ≡ true → ⊥) → b ≡ false
refute true not = absurd (not refl)
refute false not = refl

pub or_split : (a b : Bool) → (a || b) ≡ true → (a ≡ true) ⊎ (b ≡ true)
or_split true b is = inl refl
or_split false b is = inr is

pub clash : (b : Bool) → b ≡ true → b ≡ false → ⊥
clash true is not = cc
clash false is not = cc

absent : {A : Type 0} (o : Option A) → is_some o ≡ false → o ≡ None
absent None is = refl
absent (Some x) is = absurd (cc is)

first_none : {A : Type 0} (o p : Option A) → option_or o p ≡ None → o ≡ None
first_none None p is = refl
first_none (Some x) p is = absurd (cc is)

-- ---- what is among names

pub among_append : (xs ys : List Spelling) (w : Spelling) → is_among (xs ++ ys) w ≡ (is_among xs w || is_among ys w)
among_append xs ys w = list_any-append (λ v. bytes_eq v w) xs ys

among_get : (names : List Spelling) (k : ℕ) (w : Spelling) → slice_get names k ≡ Some w → is_among names w ≡ true
among_get [] k w at = absurd (cc at)
among_get (y ∷ names) zero w at =
    let same : y ≡ w = cc in
    or_left (bytes_eq y w) (is_among names w) (bytes_same y w ∙ ap (λ z. same_name z w) same ∙ same_name_refl w)
among_get (y ∷ names) (suc k) w at = or_right (bytes_eq y w) (is_among names w) (among_get names k w at)

pub among_each : (P : Spelling → Type 0) (xs : List Spelling) → AllByRecursion P xs → (w : Spelling) → is_among xs w ≡ true → P w
among_each P [] all w among = absurd (cc among)
among_each P (x ∷ xs) all w among = elim (or_split (bytes_eq x w) (is_among xs w) among) [
  | inl here ↦ subst P (same_name_is x w (sym (bytes_same x w) ∙ here)) all.0
  | inr there ↦ among_each P xs all.1 w there
]

pub declared_among : (names : List Name) (w : Spelling) → is_among (map (λ (c : Name). c.text) names) w ≡ is_declared names w
declared_among [] w = refl
declared_among (c ∷ names) w = ap (λ b. b || is_among (map (λ (x : Name). x.text) names) w) (bytes_swapped c.text w) ∙ ap (λ b. same_name w c.text || b) (declared_among names w)

-- names that are all different stand once
pub are_once : (xs : List Spelling) → AreDistinct xs → AreOnce xs
are_once [] distinct k x at = absurd (cc at)
are_once (y ∷ ys) distinct zero x at =
    let same : y ≡ x = cc in
    ap (λ b. if b then 0 else suc (place_of ys x)) (ap (λ z. same_name z x) same ∙ same_name_refl x)
are_once (y ∷ ys) distinct (suc k) x at =
    ap (λ b. if b then 0 else suc (place_of ys x)) (unlike (is_among ys) y x distinct.0 (among_get ys k x at)) ∙ ap suc (are_once ys distinct.1 k x at)

pub distinct_append : (xs ys : List Spelling) → AreDistinct xs → AreDistinct ys → ((w : Spelling) → is_among xs w ≡ true → is_among ys w ≡ false) → AreDistinct (xs ++ ys)
distinct_append [] ys one two apart = two
distinct_append (x ∷ xs) ys one two apart = (
  among_append xs ys x ∙ ap (λ b. b || is_among ys x) one.0 ∙ apart x (or_left (bytes_eq x x) (is_among xs x) (bytes_same x x ∙ same_name_refl x)),
  distinct_append xs ys one.1 two (λ w is. apart w (or_right (bytes_eq x w) (is_among xs w) is)),
)

-- ---- the functions

abbrev pub heads_of : List Equation → List Spelling
heads_of eqs = map (λ (eq : Equation). eq.head.text) eqs

filtered_none : (p : Equation → Bool) (xs : List Equation) (w : Spelling) → is_among (heads_of xs) w ≡ false → is_among (heads_of (filter p xs)) w ≡ false
filtered_none p [] w none = refl
filtered_none p (x ∷ xs) w none =
    let here : bytes_eq x.head.text w ≡ false = left_none (bytes_eq x.head.text w) (is_among (heads_of xs) w) none in
    let rest : is_among (heads_of (filter p xs)) w ≡ false = filtered_none p xs w (right_none (bytes_eq x.head.text w) (is_among (heads_of xs) w) none) in
    elim (p x) as (λ b. is_among (heads_of (cond b (x ∷ filter p xs) (filter p xs))) w ≡ false) [ true ↦ ap (λ b. b || is_among (heads_of (filter p xs)) w) here ∙ rest | false ↦ rest ]

filtered_distinct : (p : Equation → Bool) (xs : List Equation) → AreDistinct (heads_of xs) → AreDistinct (heads_of (filter p xs))
filtered_distinct p [] distinct = tt
filtered_distinct p (x ∷ xs) distinct =
    let here : is_among (heads_of (filter p xs)) x.head.text ≡ false = filtered_none p xs x.head.text distinct.0 in
    let rest : AreDistinct (heads_of (filter p xs)) = filtered_distinct p xs distinct.1 in
    elim (p x) as (λ b. AreDistinct (heads_of (cond b (x ∷ filter p xs) (filter p xs)))) [ true ↦ (here, rest) | false ↦ rest ]

left_out_by : (eq x : Equation) (kept : List Equation) (b : Bool) → same_name eq.head.text x.head.text ≡ b → is_among (heads_of kept) eq.head.text ≡ false → is_among (heads_of (cond (not b) (x ∷ kept) kept)) eq.head.text ≡ false
left_out_by eq x kept true same rest = rest
left_out_by eq x kept false same rest = ap (λ b. b || is_among (heads_of kept) eq.head.text) (bytes_swapped x.head.text eq.head.text ∙ same) ∙ rest

left_out : (eq : Equation) (xs : List Equation) → is_among (heads_of (filter (is_other eq) xs)) eq.head.text ≡ false
left_out eq [] = refl
left_out eq (x ∷ xs) = left_out_by eq x (filter (is_other eq) xs) (same_name eq.head.text x.head.text) refl (left_out eq xs)

pub first_distinct : (eqs : List Equation) → AreDistinct (heads_of (first_ones eqs))
first_distinct [] = tt
first_distinct (eq ∷ eqs) = (left_out eq (first_ones eqs), filtered_distinct (is_other eq) (first_ones eqs) (first_distinct eqs))

kept_in : (y : Equation) (ys kept : List Equation) (w : Spelling) (b : Bool) → (bytes_eq y.head.text w ≡ true → b ≡ true) → (is_among (heads_of ys) w ≡ true → is_among (heads_of kept) w ≡ true) → is_among (heads_of (y ∷ ys)) w ≡ true → is_among (heads_of (cond b (y ∷ kept) kept)) w ≡ true
kept_in y ys kept w b keeps rest among = elim (or_split (bytes_eq y.head.text w) (is_among (heads_of ys) w) among) [
  | inl here ↦ ap (λ c. is_among (heads_of (cond c (y ∷ kept) kept)) w) (keeps here) ∙ or_left (bytes_eq y.head.text w) (is_among (heads_of kept) w) here
  | inr there ↦ elim b as (λ c. is_among (heads_of (cond c (y ∷ kept) kept)) w ≡ true) [ true ↦ or_right (bytes_eq y.head.text w) (is_among (heads_of kept) w) (rest there) | false ↦ rest there ]
]

others_stay : (x : Equation) (ys : List Equation) (w : Spelling) → same_name x.head.text w ≡ false → is_among (heads_of ys) w ≡ true → is_among (heads_of (filter (is_other x) ys)) w ≡ true
others_stay x [] w other among = absurd (cc among)
others_stay x (y ∷ ys) w other among =
    kept_in y ys (filter (is_other x) ys) w (is_other x y) (λ here. ap not (ap (same_name x.head.text) (same_name_is y.head.text w (sym (bytes_same y.head.text w) ∙ here)) ∙ other)) (others_stay x ys w other) among

arity_among_by : (x : Equation) (eqs : List Equation) (g : Spelling) (k : ℕ) (b : Bool) → same_name x.head.text g ≡ b → (if b then Some (length x.patterns) else head_arity eqs g) ≡ Some k
    → (head_arity eqs g ≡ Some k → is_among (heads_of (first_ones eqs)) g ≡ true) → is_among (heads_of (first_ones (x ∷ eqs))) g ≡ true
arity_among_by x eqs g k true same has rest = or_left (bytes_eq x.head.text g) (is_among (heads_of (filter (is_other x) (first_ones eqs))) g) (bytes_same x.head.text g ∙ same)
arity_among_by x eqs g k false same has rest = or_right (bytes_eq x.head.text g) (is_among (heads_of (filter (is_other x) (first_ones eqs))) g) (others_stay x (first_ones eqs) g same (rest has))

-- a name with the arity of a head is a function
pub arity_among : (eqs : List Equation) (g : Spelling) (k : ℕ) → head_arity eqs g ≡ Some k → is_among (heads_of (first_ones eqs)) g ≡ true
arity_among [] g k has = absurd (cc has)
arity_among (x ∷ eqs) g k has = arity_among_by x eqs g k (same_name x.head.text g) refl has (arity_among eqs g k)

-- ---- reserved names

-- it is not reserved
pub record IsFree (w : Spelling) : Type 0 where
  pub check : same_name w check_name ≡ false
  pub apart : IsApart w

pub free_of : (w : Spelling) → is_reserved w ≡ false → IsFree w
free_of w none =
    let others : (bytes_eq w (codes "Chk") || bytes_eq w (codes "Arithmetic")) ≡ false = right_none (bytes_eq w (codes "Fun")) (bytes_eq w (codes "Chk") || bytes_eq w (codes "Arithmetic")) none in
    record {
      check = sym (bytes_same w (codes "Chk")) ∙ left_none (bytes_eq w (codes "Chk")) (bytes_eq w (codes "Arithmetic")) others;
      apart = (
        sym (bytes_swapped w arithmetic_name) ∙ right_none (bytes_eq w (codes "Chk")) (bytes_eq w (codes "Arithmetic")) others,
        sym (bytes_swapped w fun_name) ∙ left_none (bytes_eq w (codes "Fun")) (bytes_eq w (codes "Chk") || bytes_eq w (codes "Arithmetic")) none,
      );
    }

-- ---- constructors

word_new : (roles : Known Role) (c : Name) (w : Spelling) → with_constructor roles c w ≡ None → roles w ≡ None
unfolding with_word
word_new roles c w is = first_none (roles w) (if bytes_eq w c.text then Some role.Constructor else None) is

word_there : (roles : Known Role) (c : Name) → with_constructor roles c c.text ≡ None → ⊥
unfolding with_word
word_there roles c is = at (roles c.text) (bytes_eq c.text c.text) (bytes_same c.text c.text ∙ same_name_refl c.text) is
  where
    at : (o : Option Role) (b : Bool) → b ≡ true → option_or o (if b then Some role.Constructor else None) ≡ None → ⊥
    at (Some r) b same is = cc
    at None true same is = cc
    at None false same is = cc

abbrev IsNew : Known Role → Spelling → Type 0
IsNew roles w = (roles w ≡ None) × (is_reserved w ≡ false)

new_by : (roles : Known Role) (c : Name) (w : Spelling) (b : Bool) → same_name w c.text ≡ b → (is_some (roles c.text) || is_reserved c.text) ≡ false → (b ≡ false → IsNew (with_constructor roles c) w) → IsNew roles w
new_by roles c w true same none rest =
    let one : c.text ≡ w = sym (same_name_is w c.text same) in
    (absent (roles w) (ap (λ z. is_some (roles z)) (sym one) ∙ left_none (is_some (roles c.text)) (is_reserved c.text) none), ap is_reserved (sym one) ∙ right_none (is_some (roles c.text)) (is_reserved c.text) none)
new_by roles c w false same none rest = let later = rest refl in (word_new roles c w later.0, later.1)

declared_later : (a b : Bool) → (a || b) ≡ true → a ≡ false → b ≡ true
declared_later true b is not = absurd (cc not)
declared_later false b is not = is

-- a `DATA` name is declared nowhere before, and not reserved
pub data_new : (names : List Name) (roles : Known Role) (n : ℕ) → data_faults roles n names ≡ [] → (w : Spelling) → is_declared names w ≡ true → IsNew roles w
data_new [] roles n none w is = absurd (cc is)
data_new (c ∷ names) roles n none w is =
    let here : constructor_faults roles n c ≡ [] = front_empty (constructor_faults roles n c) (data_faults (with_constructor roles c) (n - 1) names) none in
    let later : data_faults (with_constructor roles c) (n - 1) names ≡ [] = back_empty (constructor_faults roles n c) (data_faults (with_constructor roles c) (n - 1) names) none in
    let twice : when (is_some (roles c.text) || is_reserved c.text) kinds.TwiceDeclared c ≡ [] = front_empty (when (is_some (roles c.text) || is_reserved c.text) kinds.TwiceDeclared c) (when (n == 0) kinds.TooMany c) here in
    new_by roles c w (same_name w c.text) refl (when_none (is_some (roles c.text) || is_reserved c.text) kinds.TwiceDeclared c twice)
    (λ other. data_new names (with_constructor roles c) (n - 1) later w (declared_later (same_name w c.text) (is_declared names w) is other))

-- and each stands once
pub data_distinct : (names : List Name) (roles : Known Role) (n : ℕ) → data_faults roles n names ≡ [] → AreDistinct (map (λ (c : Name). c.text) names)
data_distinct [] roles n none = tt
data_distinct (c ∷ names) roles n none =
    let later : data_faults (with_constructor roles c) (n - 1) names ≡ [] = back_empty (constructor_faults roles n c) (data_faults (with_constructor roles c) (n - 1) names) none in (
      refute (is_among (map (λ (x : Name). x.text) names) c.text)
          (λ among. word_there roles c (data_new names (with_constructor roles c) (n - 1) later c.text (sym (declared_among names c.text) ∙ among)).0),
      data_distinct names (with_constructor roles c) (n - 1) later,
    )

-- ---- heads

pub heads_free : (eqs : List Equation) (roles : Known Role) (names rules : ℕ) → head_faults roles names rules eqs ≡ [] → AllByRecursion (λ (eq : Equation). is_reserved eq.head.text ≡ false) eqs
heads_free [] roles names rules none = tt
heads_free (eq ∷ eqs) roles names rules none =
    let new = new_functions roles eq in
    let here : declaring_faults names rules eq.head (new_functions roles eq) ≡ [] =
    front_empty (declaring_faults names rules eq.head (new_functions roles eq)) (head_faults (with_function roles eq) (names - new_functions roles eq) (rules - (1 + new_functions roles eq)) eqs) none in
    let later : head_faults (with_function roles eq) (names - new_functions roles eq) (rules - (1 + new_functions roles eq)) eqs ≡ [] =
    back_empty (declaring_faults names rules eq.head (new_functions roles eq)) (head_faults (with_function roles eq) (names - new_functions roles eq) (rules - (1 + new_functions roles eq)) eqs) none in
    let twice : when (is_reserved eq.head.text) kinds.TwiceDeclared eq.head ≡ [] = front_empty (when (is_reserved eq.head.text) kinds.TwiceDeclared eq.head) (when (nat_lt names (new_functions roles eq) || nat_lt rules (1 + new_functions roles eq)) kinds.TooMany eq.head) here in
    (when_none (is_reserved eq.head.text) kinds.TwiceDeclared eq.head twice, heads_free eqs (with_function roles eq) (names - new_functions roles eq) (rules - (1 + new_functions roles eq)) later)

-- ---- the built-in names

abbrev pub built_names : List Spelling
built_names = codes "IAdd" ∷ codes "ISub" ∷ codes "IMul" ∷ codes "IEq" ∷ codes "ILt" ∷ codes "True" ∷ codes "False" ∷ []

seven_among : (a b c d e f g : Bool)
    → (a || (b || (c || (d || (e || (f || (g || false))))))) ≡ (is_some (if a then Some ops.Add else (if b then Some ops.Sub else (if c then Some ops.Mul else (if d then Some ops.Eq else (if e then Some ops.Lt else None))))) || (f || g))
seven_among true b c d e f g = refl
seven_among false true c d e f g = refl
seven_among false false true d e f g = refl
seven_among false false false true e f g = refl
seven_among false false false false true f g = refl
seven_among false false false false false true g = refl
seven_among false false false false false false true = refl
seven_among false false false false false false false = refl

pub built_among : (w : Spelling) → is_among built_names w ≡ (is_some (operation w) || (same_name w true_name || same_name w false_name))
built_among w =
    (λ j. bytes_swapped (codes "IAdd") w j || (bytes_swapped (codes "ISub") w j || (bytes_swapped (codes "IMul") w j || (bytes_swapped (codes "IEq") w j || (bytes_swapped (codes "ILt") w j || (bytes_swapped (codes "True") w j || (bytes_swapped (codes "False") w j || false)))))))
    ∙ seven_among (same_name w (codes "IAdd")) (same_name w (codes "ISub")) (same_name w (codes "IMul")) (same_name w (codes "IEq")) (same_name w (codes "ILt")) (same_name w (codes "True")) (same_name w (codes "False"))
