-- Where no declaration is one too many, the names and the rules are within their limits.
use Rattle.std.proofs.Common.{◌≡◌, ℕ, zero, suc, ◌+◌, ◌-◌, ◌≤◌, Bool, true, false, not, cond, ◌&&◌, ◌||◌, List, [], ◌∷◌, length, Option, Some, None, refl, sym, ◌∙◌, ap, arith}
use Rattle.std.specs.Prelude.{◌==◌, nat_lt, is_some, is_none, if◌then◌else◌}
use Rattle.std.specs.Option.{option_or}
use Rattle.std.specs.List.{AllByRecursion, filter}
use Rattle.std.specs.Str.{bytes_eq}
use Rattle.std.proofs.lemmas.Bool.{ltb-false}
use Rattle.std.proofs.lemmas.Bool.Decides.{nat_tests}
use Rattle.dactl_base.specs.declared.refusal.Kind.TheVariants as kinds
use Rattle.dactl_meaning.specs.declared.tree.Name.{Name}
use Rattle.fun_meaning.specs.declared.tree.Equation.{Equation}
use Rattle.fun_meaning.specs.Names.{Spelling, same_name}
use Rattle.fun_meaning.specs.Functions.{is_other, first_ones}
use Rattle.fun_syntax.specs.declared.roles.Role.{Role}
use Rattle.fun_syntax.specs.declared.roles.Role.TheVariants as role
use Rattle.fun_syntax.specs.Faults.{constructor_faults, data_faults, new_functions, declaring_faults, head_faults}
use Rattle.fun_syntax.specs.Least.{when}
use Rattle.fun_syntax.specs.Roles.{built_in, with_constructor, with_constructors, with_function, with_functions, is_given, is_reserved}
use Rattle.fun_syntax.specs.Words.{Known, with_word}
use Rattle.fun_reading.proofs.Empty.{front_empty, back_empty, when_none, left_none, right_none}

-- ---- the counters never were too small

not_zero : (names : ℕ) → (names == 0) ≡ false → 1 ≤ names
not_zero zero none = absurd (cc none)
not_zero (suc names) none = omega arith

room_for_one : (roles : Known Role) (names : ℕ) (name : Name) → constructor_faults roles names name ≡ [] → 1 ≤ names
room_for_one roles names name empty =
    not_zero names (when_none (names == 0) kinds.TooMany name (back_empty (when (is_some (roles name.text) || is_reserved name.text) kinds.TwiceDeclared name) (when (names == 0) kinds.TooMany name) empty))

one_more : (names count : ℕ) → 1 ≤ names → count ≤ names - 1 → suc count ≤ names
one_more names count here rest = omega arith

pub data_fit : (roles : Known Role) (names : ℕ) (constructors : List Name) → data_faults roles names constructors ≡ [] → length constructors ≤ names
data_fit roles names [] empty = omega arith
data_fit roles names (name ∷ more) empty =
    one_more names (length more) (room_for_one roles names name (front_empty _ _ empty))
    (data_fit (with_constructor roles name) (names - 1) more (back_empty (constructor_faults roles names name) (data_faults (with_constructor roles name) (names - 1) more) empty))

-- how many functions these equations make
abbrev pub made_by : Known Role → List Equation → ℕ
made_by roles [] = 0
made_by roles (eq ∷ more) = new_functions roles eq + made_by (with_function roles eq) more

-- there is room for what the equations declare
pub record HaveRoom (room left count made : ℕ) : Type 0 where
  pub names : made ≤ room
  pub rules : count + made ≤ left

room_for : (names rules : ℕ) (head : Name) (new : ℕ) → declaring_faults names rules head new ≡ [] → HaveRoom names rules 1 new
room_for names rules head new empty =
    let none = when_none (nat_lt names new || nat_lt rules (1 + new)) kinds.TooMany head (back_empty (when (is_reserved head.text) kinds.TwiceDeclared head) (when (nat_lt names new || nat_lt rules (1 + new)) kinds.TooMany head) empty) in
    record {
      names = ltb-false names new (left_none (nat_lt names new) (nat_lt rules (1 + new)) none);
      rules = ltb-false rules (1 + new) (right_none (nat_lt names new) (nat_lt rules (1 + new)) none);
    }

room_more : (names rules new count made : ℕ) → HaveRoom names rules 1 new → HaveRoom (names - new) (rules - (1 + new)) count made → HaveRoom names rules (suc count) (new + made)
room_more names rules new count made here rest = record { names = omega (arith, here.names, rest.names); rules = omega (arith, here.rules, rest.rules) }

pub heads_fit : (roles : Known Role) (names rules : ℕ) (equations : List Equation) → head_faults roles names rules equations ≡ [] → HaveRoom names rules (length equations) (made_by roles equations)
heads_fit roles names rules [] empty = record { names = omega arith; rules = omega arith }
heads_fit roles names rules (eq ∷ more) empty =
    room_more names rules (new_functions roles eq) (length more) (made_by (with_function roles eq) more)
    (room_for names rules eq.head (new_functions roles eq) (front_empty _ _ empty))
    (heads_fit (with_function roles eq) (names - new_functions roles eq) (rules - (1 + new_functions roles eq)) more
    (back_empty (declaring_faults names rules eq.head (new_functions roles eq)) (head_faults (with_function roles eq) (names - new_functions roles eq) (rules - (1 + new_functions roles eq)) more) empty))

-- ---- they count the first equations of new words

eqb-sym : (m n : ℕ) → (m == n) ≡ (n == m)
eqb-sym m n = grind (arith, nat_tests)

names_same : (a b : Spelling) → same_name a b ≡ bytes_eq b a
names_same [] [] = refl
names_same [] (b ∷ bs) = refl
names_same (a ∷ rest) [] = refl
names_same (a ∷ rest) (b ∷ bs) = ap (λ t. (a == b) && t) (names_same rest bs) ∙ ap (λ t. t && bytes_eq bs rest) (eqb-sym a b)

-- the head is no word that is known
abbrev pub is_new : Known Role → Equation → Bool
is_new roles eq = is_none (roles eq.head.text)

none_with : (o : Option Role) (b c : Bool) (value : Role) → c ≡ b → is_none (option_or o (if b then Some value else None)) ≡ (is_none o && not c)
none_with None true c value same = sym (ap not same)
none_with None false c value same = sym (ap not same)
none_with (Some r) b c value same = refl

new_after : (roles : Known Role) (eq other : Equation) → is_new (with_function roles eq) other ≡ (is_new roles other && is_other eq other)
unfolding with_word
new_after roles eq other =
    none_with (roles other.head.text) (bytes_eq other.head.text eq.head.text) (same_name eq.head.text other.head.text) (role.Function (length eq.patterns)) (names_same eq.head.text other.head.text)

both_kept : (p : Equation → Bool) (x : Equation) (ys zs : List Equation) (a b c : Bool) → p x ≡ a → c ≡ (a && b) → length (filter p ys) ≡ length zs → length (filter p (cond b (x ∷ ys) ys)) ≡ length (cond c (x ∷ zs) zs)
both_kept p x ys zs true true c is both same = ap (λ t. length (cond t (x ∷ filter p ys) (filter p ys))) is ∙ ap suc same ∙ sym (ap (λ t. length (cond t (x ∷ zs) zs)) both)
both_kept p x ys zs true false c is both same = same ∙ sym (ap (λ t. length (cond t (x ∷ zs) zs)) both)
both_kept p x ys zs false true c is both same = ap (λ t. length (cond t (x ∷ filter p ys) (filter p ys))) is ∙ same ∙ sym (ap (λ t. length (cond t (x ∷ zs) zs)) both)
both_kept p x ys zs false false c is both same = same ∙ sym (ap (λ t. length (cond t (x ∷ zs) zs)) both)

kept_twice : (p q r : Equation → Bool) → ((x : Equation) → r x ≡ (p x && q x)) → (xs : List Equation) → length (filter p (filter q xs)) ≡ length (filter r xs)
kept_twice p q r both [] = refl
kept_twice p q r both (x ∷ xs) = both_kept p x (filter q xs) (filter r xs) (p x) (q x) (r x) refl (both x) (kept_twice p q r both xs)

first_counted : (o : Option Role) (eq : Equation) (ys : List Equation) → (if is_some o then 0 else 1) + length ys ≡ length (cond (is_none o) (eq ∷ ys) ys)
first_counted None eq ys = omega arith
first_counted (Some r) eq ys = omega arith

pub made_counted : (roles : Known Role) (equations : List Equation) → made_by roles equations ≡ length (filter (is_new roles) (first_ones equations))
made_counted roles [] = refl
made_counted roles (eq ∷ more) =
    ap (λ n. new_functions roles eq + n) (made_counted (with_function roles eq) more ∙ sym (kept_twice (is_new roles) (is_other eq) (is_new (with_function roles eq)) (new_after roles eq) (first_ones more)))
    ∙ first_counted (roles eq.head.text) eq (filter (is_new roles) (filter (is_other eq) (first_ones more)))

-- ---- each head is a new word

-- what is declared before the equations can't be defined by them
abbrev pub AreGiven : Known Role → Type 0
AreGiven roles = (w : Spelling) → is_given (roles w) ≡ is_some (roles w)

given_by : (o : Option Role) (b : Bool) (value : Role) → is_given (Some value) ≡ true → is_given o ≡ is_some o → is_given (option_or o (if b then Some value else None)) ≡ is_some (option_or o (if b then Some value else None))
given_by None true value given so = given
given_by None false value given so = refl
given_by (Some r) b value given so = so

given_with : (roles : Known Role) (word : Spelling) (value : Role) → is_given (Some value) ≡ true → AreGiven roles → AreGiven (with_word roles word value)
unfolding with_word
given_with roles word value given so = λ w. given_by (roles w) (bytes_eq w word) value given (so w)

built_in_given : AreGiven built_in
built_in_given =
    given_with _ _ role.Constructor refl (given_with _ _ role.Constructor refl (given_with _ _ role.Arithmetic refl (given_with _ _ role.Arithmetic refl
    (given_with _ _ role.Arithmetic refl (given_with _ _ role.Arithmetic refl (given_with _ _ role.Arithmetic refl (λ w. refl)))))))

all_given : (roles : Known Role) (constructors : List Name) → AreGiven roles → AreGiven (with_constructors roles constructors)
all_given roles [] so = so
all_given roles (name ∷ more) so = all_given (with_constructor roles name) more (given_with roles name.text role.Constructor refl so)

pub declared_given : (constructors : List Name) → AreGiven (with_constructors built_in constructors)
declared_given constructors = all_given built_in constructors built_in_given

kept_word : (roles : Known Role) (word : Spelling) (value : Role) (w : Spelling) (r : Role) → roles w ≡ Some r → with_word roles word value w ≡ Some r
unfolding with_word
kept_word roles word value w r is = ap (λ o. option_or o (if bytes_eq w word then Some value else None)) is

kept_words : (roles : Known Role) (equations : List Equation) (w : Spelling) (r : Role) → roles w ≡ Some r → with_functions roles equations w ≡ Some r
kept_words roles [] w r is = is
kept_words roles (eq ∷ more) w r is = kept_words (with_function roles eq) more w r (kept_word roles eq.head.text (role.Function (length eq.patterns)) w r is)

new_by : (o : Option Role) (later : Option Role) → ((r : Role) → o ≡ Some r → later ≡ Some r) → is_given o ≡ is_some o → is_given later ≡ false → is_none o ≡ true
new_by None later kept given free = refl
new_by (Some r) later kept given free = absurd (cc (given, ap is_given (kept r refl), free))

pub head_new : (roles : Known Role) (equations : List Equation) (w : Spelling) → AreGiven roles → is_given (with_functions roles equations w) ≡ false → is_none (roles w) ≡ true
head_new roles equations w given free = new_by (roles w) (with_functions roles equations w) (λ r is. kept_words roles equations w r is) (given w) free

kept_one : {A : Type 0} (P : A → Type 0) (x : A) (xs : List A) (b : Bool) → P x → AllByRecursion P xs → AllByRecursion P (cond b (x ∷ xs) xs)
kept_one P x xs true here all = (here, all)
kept_one P x xs false here all = all

kept_all : {A : Type 0} (P : A → Type 0) (q : A → Bool) (xs : List A) → AllByRecursion P xs → AllByRecursion P (filter q xs)
kept_all P q [] all = tt
kept_all P q (x ∷ xs) all = kept_one P x (filter q xs) (q x) all.0 (kept_all P q xs all.1)

first_all : (P : Equation → Type 0) (equations : List Equation) → AllByRecursion P equations → AllByRecursion P (first_ones equations)
first_all P [] all = tt
first_all P (eq ∷ more) all = (all.0, kept_all P (is_other eq) (first_ones more) (first_all P more all.1))

none_lost : (p : Equation → Bool) (xs : List Equation) → AllByRecursion (λ x. p x ≡ true) xs → length (filter p xs) ≡ length xs
none_lost p [] all = refl
none_lost p (x ∷ xs) all = ap (λ b. length (cond b (x ∷ filter p xs) (filter p xs))) all.0 ∙ ap suc (none_lost p xs all.1)

-- the counters count the functions
pub made_is : (roles : Known Role) (equations : List Equation) → AllByRecursion (λ eq. is_new roles eq ≡ true) equations → made_by roles equations ≡ length (first_ones equations)
made_is roles equations all = made_counted roles equations ∙ none_lost (is_new roles) (first_ones equations) (first_all (λ eq. is_new roles eq ≡ true) equations all)
