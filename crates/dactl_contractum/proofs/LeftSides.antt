-- The faults of left sides, as the definitions list them.
use Rattle.std.proofs.Common.{◌≡◌, ℕ, zero, suc, ◌+◌, ◌<◌, Bool, true, false, not, ◌&&◌, cond, List, [], ◌∷◌, ◌++◌, length, map, take, get_or, Option, Some, None, is_some, refl, sym, ap, ◌∙◌, append_assoc, arith, if◌then◌else◌}
use Rattle.std.specs.List.{filter, flat_map, list_any}
use Rattle.std.proofs.lemmas.List.{append-nil, take_more, map-append}
use Rattle.std.proofs.lemmas.Grind.{flat_map-append}
use Rattle.dactl_base.specs.declared.refusal.Kind.TheVariants as kinds
use Rattle.dactl_model.specs.declared.program.Pat.{Pat}
use Rattle.dactl_meaning.specs.declared.tree.Name.{Name}
use Rattle.dactl_meaning.specs.Expansion.{is_among, number_in, is_overwritable}
use Rattle.dactl_meaning.specs.RuleFaults.{each_at, place_of}
use Rattle.dactl_contractum.specs.Numbers.{variable_number}
use Rattle.dactl_contractum.specs.Lefts.{left_unbound, is_fixed, left_fixed}
use Rattle.dactl_contractum.proofs.ToldFaults.{each_flat, map_kept, place_by, variable_told}
use Rattle.dactl_contractum.proofs.Meanings.{variable_some, variable_none}
use Rattle.dactl_validity.proofs.ValidTests.{or_left, or_right}

-- ---- the names that pass

not_not : (b : Bool) → not (not b) ≡ b
not_not true = refl
not_not false = refl

-- a table has no number for a name that is not among its names
pub none_among : (vs : List (List ℕ)) (w : List ℕ) (o : Option ℕ) (b : Bool) → o ≡ variable_number vs w → is_some o ≡ not b → not (is_among vs w) ≡ b
none_among vs w o b e f = ap not (sym (variable_told vs w) ∙ ap is_some (sym e) ∙ f) ∙ not_not b

pub fixed_none : (writable : ℕ → Bool) (variables roots : List (List ℕ)) (pattern : Pat) (w : List ℕ) → variable_number variables w ≡ None → false ≡ is_fixed writable variables roots pattern w
fixed_none writable variables roots pattern w e =
    ap (λ (b : Bool). b && (not (is_among roots w) && not (is_overwritable writable (number_in variables w) pattern))) (sym (variable_none variables w e).0)

pub fixed_some : (writable : ℕ → Bool) (variables roots : List (List ℕ)) (pattern : Pat) (w : List ℕ) (n : ℕ) (free over : Bool) → variable_number variables w ≡ Some n → not (is_among roots w) ≡ free → over ≡ is_overwritable writable n pattern
    → (free && not over) ≡ is_fixed writable variables roots pattern w
fixed_some writable variables roots pattern w n free over e f g =
    let facts = variable_some variables w n e in
    ap (λ (b : Bool). b && not over) (sym f) ∙ ap (λ (b : Bool). not (is_among roots w) && not b) (g ∙ ap (λ (k : ℕ). is_overwritable writable k pattern) (sym facts.1))
    ∙ ap (λ (b : Bool). b && (not (is_among roots w) && not (is_overwritable writable (number_in variables w) pattern))) (sym facts.0)

pub flat_step : {A B C : Type 0} (f : B → List C) (g : A → B) (xs : List A) (i : ℕ) (x : A) (start now next : List C) → i < length xs → x ≡ get_or xs i x
    → now ≡ start ++ flat_map f (map g (take i xs)) → next ≡ now ++ f (g x) → next ≡ start ++ flat_map f (map g (take (i + 1) xs))
flat_step f g xs i x start now next lt is so_far step =
    let more = ap (map g) (take_more xs i x lt ∙ ap (λ (z : _). take i xs ++ z ∷ []) (sym is)) ∙ map-append g (take i xs) (x ∷ []) in
    step ∙ ap (λ (z : List _). z ++ f (g x)) so_far ∙ append_assoc start (flat_map f (map g (take i xs))) (f (g x))
    ∙ ap (λ (z : List _). start ++ (flat_map f (map g (take i xs)) ++ z)) (sym (append-nil (f (g x))))
    ∙ ap (λ (z : List _). start ++ z) (sym (flat_map-append f (map g (take i xs)) (g x ∷ [])))
    ∙ ap (λ (z : List _). start ++ flat_map f z) (sym more)

-- ---- one that passes

pub any_there : {A B : Type 0} (p : B → Bool) (f : A → B) (xs : List A) (i : ℕ) (x : A) → i < length xs → x ≡ get_or xs i x → p (f x) ≡ true → list_any p (map f xs) ≡ true
any_there p f [] i x lt is t = absurd (omega arith)
any_there p f (y ∷ xs) zero x lt is t = or_left (p (f y)) _ (ap (λ (z : _). p (f z)) (sym is) ∙ t)
any_there p f (y ∷ xs) (suc i) x lt is t = or_right (p (f y)) _ (any_there p f xs i x (omega arith) is t)

-- ---- what is told of them

pub left_unbound_told : (variables : List (List ℕ)) (lefts : List Name) → flat_map (left_unbound variables) lefts ≡ each_at kinds.Unbound (map place_of (filter (λ n. not (is_among variables n.text)) lefts))
left_unbound_told variables lefts =
    each_flat kinds.Unbound (left_unbound variables) (λ n. if not (is_among variables n.text) then place_of n ∷ [] else [])
    (λ n. place_by (not (is_some (variable_number variables n.text))) kinds.Unbound n.place ∙ ap (λ (b : Bool). each_at kinds.Unbound (if not b then place_of n ∷ [] else [])) (variable_told variables n.text)) lefts
    ∙ ap (each_at kinds.Unbound) (map_kept (λ (n : Name). not (is_among variables n.text)) place_of lefts)

both_by : (a b : Bool) (n : Name) (xs ys : List Name) (p : Name → Bool) → p n ≡ b → filter p xs ≡ ys → filter p (cond a (n ∷ xs) xs) ≡ cond (a && b) (n ∷ ys) ys
both_by true b n xs ys p e f = ap (λ (c : Bool). cond c (n ∷ filter p xs) (filter p xs)) e ∙ ap (λ (z : List Name). cond b (n ∷ z) z) f
both_by false b n xs ys p e f = f

kept_both : (q p : Name → Bool) (xs : List Name) → filter p (filter q xs) ≡ filter (λ n. q n && p n) xs
kept_both q p [] = refl
kept_both q p (n ∷ xs) = both_by (q n) (p n) n (filter q xs) (filter (λ m. q m && p m) xs) p refl (kept_both q p xs)

pub left_fixed_told : (writable : ℕ → Bool) (variables roots : List (List ℕ)) (pattern : Pat) (lefts : List Name)
    → flat_map (left_fixed writable variables roots pattern) lefts
    ≡ each_at kinds.NotOverwritable (map place_of (filter (λ n. not (is_among roots n.text) && not (is_overwritable writable (number_in variables n.text) pattern)) (filter (λ n. is_among variables n.text) lefts)))
left_fixed_told writable variables roots pattern lefts =
    each_flat kinds.NotOverwritable (left_fixed writable variables roots pattern) (λ n. if is_fixed writable variables roots pattern n.text then place_of n ∷ [] else [])
    (λ n. place_by (is_fixed writable variables roots pattern n.text) kinds.NotOverwritable n.place) lefts
    ∙ ap (each_at kinds.NotOverwritable)
    (map_kept (λ (n : Name). is_fixed writable variables roots pattern n.text) place_of lefts
    ∙ ap (map place_of) (sym (kept_both (λ n. is_among variables n.text) (λ n. not (is_among roots n.text) && not (is_overwritable writable (number_in variables n.text) pattern)) lefts)))
