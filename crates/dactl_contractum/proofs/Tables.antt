-- Numbers of names: what is found in them.
use Rattle.std.proofs.Common.{◌≡◌, ℕ, ◌+◌, ◌<◌, Bool, true, false, ◌||◌, cond, List, [], ◌∷◌, ◌++◌, length, map, take, get_or, Option, Some, None, is_some, refl, sym, ap, ◌∙◌, arith, if◌then◌else◌}
use Rattle.std.specs.Str.{bytes_eq}
use Rattle.std.specs.List.{list_any}
use Rattle.std.specs.Option.{option_or}
use Rattle.std.proofs.lemmas.List.{take_more, length-take-le}
use Rattle.dactl_names.specs.declared.map.NameMap.{NameMap}
use Rattle.dactl_names.specs.Found.{found, Notes}
use Rattle.dactl_contractum.specs.Numbers.{first_from, variable_number, node_number}
use Rattle.dactl_meaning.specs.declared.tree.Name.{Name}
use Rattle.dactl_meaning.specs.Expansion.{is_among}
use Rattle.dactl_meaning.specs.Contractum.{has_name, name_list}
use Rattle.dactl_contractum.specs.declared.drawing.Sketch.{Sketch}
use Rattle.dactl_contractum.specs.Drawing.{sketch_of}

-- ---- the first item that passes a test

push_by : (b : Bool) (k : ℕ) (more rest c : Option ℕ) → more ≡ option_or rest c → cond b (Some k) more ≡ option_or (cond b (Some k) rest) c
push_by true k more rest c e = refl
push_by false k more rest c e = e

pub first-push : {A : Type 0} (test : A → Bool) (k : ℕ) (xs : List A) (x : A) → first_from test k (xs ++ x ∷ []) ≡ option_or (first_from test k xs) (if test x then Some (k + length xs) else None)
first-push test k [] x = let e : k + 0 ≡ k = omega arith in rw e refl
first-push test k (y ∷ xs) x =
    let e : k + 1 + length xs ≡ k + length (y ∷ xs) = omega arith in
    push_by (test y) k (first_from test (k + 1) (xs ++ x ∷ [])) (first_from test (k + 1) xs) (if test x then Some (k + length (y ∷ xs)) else None)
    (first-push test (k + 1) xs x ∙ ap (λ (n : ℕ). option_or (first_from test (k + 1) xs) (if test x then Some n else None)) e)

pub first_map : {A B : Type 0} (test : B → Bool) (f : A → B) (k : ℕ) (xs : List A) → first_from test k (map f xs) ≡ first_from (λ x. test (f x)) k xs
first_map test f k [] = refl
first_map test f k (x ∷ xs) = ap (λ (o : Option ℕ). cond (test (f x)) (Some k) o) (first_map test f (k + 1) xs)

is_some_by : (b c : Bool) (k : ℕ) (o : Option ℕ) → is_some o ≡ c → is_some (cond b (Some k) o) ≡ (b || c)
is_some_by true c k o e = refl
is_some_by false c k o e = e

pub is_some-first : {A : Type 0} (test : A → Bool) (k : ℕ) (xs : List A) → is_some (first_from test k xs) ≡ list_any test xs
is_some-first test k [] = refl
is_some-first test k (x ∷ xs) = is_some_by (test x) (list_any test xs) k (first_from test (k + 1) xs) (is_some-first test (k + 1) xs)

-- ---- steps of the loops that number names

first_more : {A : Type 0} (test : A → Bool) (xs : List A) (i : ℕ) (x : A) → i < length xs → x ≡ get_or xs i x → first_from test 0 (take (i + 1) xs) ≡ option_or (first_from test 0 (take i xs)) (if test x then Some i else None)
first_more test xs i x lt is =
    let e : 0 + length (take i xs) ≡ i = omega (arith, length-take-le i xs (omega arith)) in
    ap (first_from test 0) (take_more xs i x lt ∙ ap (λ (z : _). take i xs ++ z ∷ []) (sym is)) ∙ first-push test 0 (take i xs) x
    ∙ ap (λ (n : ℕ). option_or (first_from test 0 (take i xs)) (if test x then Some n else None)) e

pub variables_more : (xs : List (List ℕ)) (i : ℕ) (x : List ℕ) (table next : NameMap ℕ) → i < length xs → x ≡ get_or xs i x → Notes x i table next
    → ((w : List ℕ) → found table w ≡ variable_number (take i xs) w) → (w : List ℕ) → found next w ≡ variable_number (take (i + 1) xs) w
variables_more xs i x table next lt is noted so_far w =
    noted w ∙ ap (λ (o : Option ℕ). option_or o (if bytes_eq x w then Some i else None)) (so_far w) ∙ sym (first_more (λ v. bytes_eq v w) xs i x lt is)

or_false : (b : Bool) → (b || false) ≡ b
or_false true = refl
or_false false = refl

node_more : (xs : List Sketch) (i : ℕ) (x : Sketch) (w : List ℕ) → i < length xs → x ≡ get_or xs i x
    → node_number (map sketch_of (take (i + 1) xs)) w ≡ option_or (node_number (map sketch_of (take i xs)) w) (if has_name (sketch_of x) w then Some i else None)
node_more xs i x w lt is =
    first_map (λ s. has_name s w) sketch_of 0 (take (i + 1) xs) ∙ first_more (λ (s : Sketch). has_name (sketch_of s) w) xs i x lt is
    ∙ ap (λ (o : Option ℕ). option_or o (if has_name (sketch_of x) w then Some i else None)) (sym (first_map (λ s. has_name s w) sketch_of 0 (take i xs)))

pub given_more : (xs : List Sketch) (i : ℕ) (x : Sketch) (name : Name) (table next : NameMap ℕ) → i < length xs → x ≡ get_or xs i x → x.term.now.name ≡ Some name → Notes name.text i table next
    → ((w : List ℕ) → found table w ≡ node_number (map sketch_of (take i xs)) w) → (w : List ℕ) → found next w ≡ node_number (map sketch_of (take (i + 1) xs)) w
given_more xs i x name table next lt is called noted so_far w =
    let test : has_name (sketch_of x) w ≡ bytes_eq name.text w = ap (λ (o : Option Name). is_among (map (λ n. n.text) (name_list o)) w) called ∙ or_false (bytes_eq name.text w) in
    noted w ∙ ap (λ (o : Option ℕ). option_or o (if bytes_eq name.text w then Some i else None)) (so_far w)
    ∙ ap (λ (b : Bool). option_or (node_number (map sketch_of (take i xs)) w) (if b then Some i else None)) (sym test) ∙ sym (node_more xs i x w lt is)

option_or-None : (a : Option ℕ) → option_or a None ≡ a
option_or-None None = refl
option_or-None (Some n) = refl

pub unnamed_more : (xs : List Sketch) (i : ℕ) (x : Sketch) (table : NameMap ℕ) → i < length xs → x ≡ get_or xs i x → x.term.now.name ≡ None
    → ((w : List ℕ) → found table w ≡ node_number (map sketch_of (take i xs)) w) → (w : List ℕ) → found table w ≡ node_number (map sketch_of (take (i + 1) xs)) w
unnamed_more xs i x table lt is called so_far w =
    let test : has_name (sketch_of x) w ≡ false = ap (λ (o : Option Name). is_among (map (λ n. n.text) (name_list o)) w) called in
    so_far w ∙ sym (option_or-None (node_number (map sketch_of (take i xs)) w))
    ∙ ap (λ (b : Bool). option_or (node_number (map sketch_of (take i xs)) w) (if b then Some i else None)) (sym test) ∙ sym (node_more xs i x w lt is)
