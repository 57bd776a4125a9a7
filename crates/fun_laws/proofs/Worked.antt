-- The equations of the example.
use Rattle.std.proofs.Common.{codes, ◌≡◌, ℕ, zero, suc, Bool, true, false, ◌&&◌, ◌||◌, List, [], ◌∷◌, ◌++◌, map, Option, Some, None, slice_get, refl, sym, ◌∙◌, ap, subst, pos, ◌+◌, ◌<◌, ◌^◌, length, nat_lt, arith}
use Rattle.std.specs.List.{AllZip, AllByRecursion, list_all, sum}
use Rattle.dactl_model.specs.Names.{is_keyword, keywords, is_upper_name}
use Rattle.std.proofs.lemmas.Option.{none-some}
use Rattle.dactl_meaning.specs.Expansion.{is_among}
use Rattle.fun_meaning.specs.declared.tree.Expr.{Expr}
use Rattle.fun_meaning.specs.declared.tree.Expr.TheOpen.{Expr-F}
use Rattle.fun_meaning.specs.declared.tree.Expr.TheViews.{out-roll-Expr}
use Rattle.fun_meaning.specs.declared.tree.Expr.TheFolds.{fold-roll-Expr}
use Rattle.fun_meaning.specs.declared.tree.Equation.{Equation}
use Rattle.fun_meaning.specs.declared.tree.Fun.{Fun}
use Rattle.fun_meaning.specs.Names.{Spelling, same_name, true_name, false_name, check_name, operation, place_of}
use Rattle.fun_meaning.specs.Values.{integer, word, made, is_constructor, names_level, both, all_matched, made_matched, matched_level, matched, Call, equation_names, tried, first_equation, Applied, ValueLevel, ValueAt}
use Rattle.fun_meaning.specs.Translation.{IsSound}
use Rattle.fun_meaning.proofs.Matches.{same_name_is}
use Rattle.fun_meaning.specs.Functions.{arithmetic_name, fun_name, functions, names_of}
use Rattle.fun_meaning.specs.Sound.{IsApart, AreOnce, sound_level, is_sound, known_level, is_known, fits_in, AreSound, narrow_level, is_narrow, size_level, left_size, AreSmall}
use Rattle.fun_meaning.specs.Spelt.{words_level, has_words, AreSpelt, weight_level, weight_of, AreLight}
use Rattle.fun_laws.specs.Example.{name_a, name_g, name_h, name_x, equation_g, equation_h, call_h, example, ExampleIsSound, ExampleHasNoValue, ExampleHasValue}

one_name : equation_names equation_g ≡ name_x ∷ []
one_name = ap (λ ns. ns ++ []) (fold-roll-Expr (List Spelling) names_level (Expr-F.Variable (word name_x)))

no_name : equation_names equation_h ≡ []
no_name = ap (λ ns. ns ++ []) (fold-roll-Expr (List Spelling) names_level (Expr-F.Made (word name_a) []))

once_one : AreOnce (name_x ∷ [])
once_one zero x at = let same : name_x ≡ x = cc in ap (place_of (name_x ∷ [])) (sym same)
once_one (suc k) x at = absurd (cc at)

once_none : AreOnce []
once_none k x at = absurd (cc at)

heads : (i : ℕ) (eq : Equation) → slice_get example.equations i ≡ Some eq → IsSound example eq
heads zero eq at = let same : equation_g ≡ eq = cc in subst (IsSound example) same (record { no_operation = refl; no_constructor = refl; no_check = refl; once = subst AreOnce (sym one_name) once_one })
heads (suc zero) eq at = let same : equation_h ≡ eq = cc in subst (IsSound example) same (record { no_operation = refl; no_constructor = refl; no_check = refl; once = subst AreOnce (sym no_name) once_none })
heads (suc (suc i)) eq at = absurd (cc at)

constructor_by : (g : Spelling) (a b c : Bool) → same_name g true_name ≡ a → same_name g false_name ≡ b → same_name g name_a ≡ c → (a || (b || (c || false))) ≡ true → (operation g ≡ None) × (same_name g check_name ≡ false)
constructor_by g true b c one two three is = let same : g ≡ true_name = same_name_is g true_name one in (ap operation same, ap (λ z. same_name z check_name) same)
constructor_by g false true c one two three is = let same : g ≡ false_name = same_name_is g false_name two in (ap operation same, ap (λ z. same_name z check_name) same)
constructor_by g false false true one two three is = let same : g ≡ name_a = same_name_is g name_a three in (ap operation same, ap (λ z. same_name z check_name) same)
constructor_by g false false false one two three is = cc

constructors : (g : Spelling) → is_constructor example g ≡ true → (operation g ≡ None) × (same_name g check_name ≡ false)
constructors g is = constructor_by g (same_name g true_name) (same_name g false_name) (same_name g name_a) refl refl refl is

at_place : (names : List Spelling) (w x : Spelling) (k : ℕ) → place_of names w ≡ k → w ≡ x → place_of names x ≡ k
at_place names w x k is same = ap (place_of names) (sym same) ∙ is

-- eleven names, each once
once : AreOnce (names_of example)
once zero x at = let same : codes "IAdd" ≡ x = cc in ap (place_of (names_of example)) (sym same)
once (suc zero) x at = let same : codes "ISub" ≡ x = cc in ap (place_of (names_of example)) (sym same)
once (suc (suc zero)) x at = let same : codes "IMul" ≡ x = cc in ap (place_of (names_of example)) (sym same)
once (suc (suc (suc zero))) x at = let same : codes "IEq" ≡ x = cc in ap (place_of (names_of example)) (sym same)
once (suc (suc (suc (suc zero)))) x at = let same : codes "ILt" ≡ x = cc in ap (place_of (names_of example)) (sym same)
once (suc (suc (suc (suc (suc zero))))) x at = let same : codes "True" ≡ x = cc in ap (place_of (names_of example)) (sym same)
once (suc (suc (suc (suc (suc (suc zero)))))) x at = let same : codes "False" ≡ x = cc in ap (place_of (names_of example)) (sym same)
once (suc (suc (suc (suc (suc (suc (suc zero))))))) x at = let same : name_g ≡ x = cc in ap (place_of (names_of example)) (sym same)
once (suc (suc (suc (suc (suc (suc (suc (suc zero)))))))) x at = let same : name_h ≡ x = cc in ap (place_of (names_of example)) (sym same)
once (suc (suc (suc (suc (suc (suc (suc (suc (suc zero))))))))) x at = let same : check_name ≡ x = cc in ap (place_of (names_of example)) (sym same)
once (suc (suc (suc (suc (suc (suc (suc (suc (suc (suc zero)))))))))) x at = let same : name_a ≡ x = cc in ap (place_of (names_of example)) (sym same)
once (suc (suc (suc (suc (suc (suc (suc (suc (suc (suc (suc k))))))))))) x at = absurd (cc at)

apart_by : (w g : Spelling) (b : Bool) → is_among (names_of example) w ≡ false → is_among (names_of example) g ≡ true → same_name w g ≡ b → b ≡ false
apart_by w g true lacks among same =
    let one : w ≡ g = same_name_is w g same in
    let clash : true ≡ false = sym among ∙ sym (ap (is_among (names_of example)) one) ∙ lacks in
    cc
apart_by w g false lacks among same = refl

apart : (g : Spelling) → is_among (names_of example) g ≡ true → IsApart g
apart g among = (apart_by arithmetic_name g (same_name arithmetic_name g) refl among refl, apart_by fun_name g (same_name fun_name g) refl among refl)

patterns : (i : ℕ) (eq : Equation) → slice_get example.equations i ≡ Some eq → list_all (λ b. b) (map (is_known (is_among (names_of example))) eq.patterns) ≡ true
patterns zero eq at =
    let same : equation_g ≡ eq = cc in
    subst (λ (x : Equation). list_all (λ b. b) (map (is_known (is_among (names_of example))) x.patterns) ≡ true) same (ap (λ b. b && true) (fold-roll-Expr Bool (known_level (is_among (names_of example))) (Expr-F.Variable (word name_x))))
patterns (suc zero) eq at =
    let same : equation_h ≡ eq = cc in
    subst (λ (x : Equation). list_all (λ b. b) (map (is_known (is_among (names_of example))) x.patterns) ≡ true) same (ap (λ b. b && true) (fold-roll-Expr Bool (known_level (is_among (names_of example))) (Expr-F.Made (word name_a) [])))
patterns (suc (suc i)) eq at = absurd (cc at)

rights : (i : ℕ) (eq : Equation) → slice_get example.equations i ≡ Some eq → is_sound (fits_in example) (equation_names eq) eq.right ≡ true
rights zero eq at =
    let same : equation_g ≡ eq = cc in
    subst (λ (x : Equation). is_sound (fits_in example) (equation_names x) x.right ≡ true) same (fold-roll-Expr Bool (sound_level (fits_in example) (equation_names equation_g)) (Expr-F.Integer (pos 5)))
rights (suc zero) eq at =
    let same : equation_h ≡ eq = cc in
    subst (λ (x : Equation). is_sound (fits_in example) (equation_names x) x.right ≡ true) same (fold-roll-Expr Bool (sound_level (fits_in example) (equation_names equation_h)) (Expr-F.Made (word name_a) []))
rights (suc (suc i)) eq at = absurd (cc at)

main_sound : is_sound (fits_in example) [] example.main ≡ true
main_sound =
    fold-roll-Expr Bool (sound_level (fits_in example) []) (Expr-F.Made (word name_g) (call_h ∷ []))
    ∙ ap (λ b. b && true) (fold-roll-Expr Bool (sound_level (fits_in example) []) (Expr-F.Made (word name_h) (integer (pos 1) ∷ [])))
    ∙ ap (λ b. (b && true) && true) (fold-roll-Expr Bool (sound_level (fits_in example) []) (Expr-F.Integer (pos 1)))

sound : AreSound example
sound = record { heads = heads; constructors = constructors; once = once; apart = apart; patterns = patterns; rights = rights; main = main_sound }

-- ---- sizes and spellings

-- what both equations have
by_two : (P : Equation → Type 0) → P equation_g → P equation_h → (i : ℕ) (eq : Equation) → slice_get example.equations i ≡ Some eq → P eq
by_two P one two zero eq at = let same : equation_g ≡ eq = cc in subst P same one
by_two P one two (suc zero) eq at = let same : equation_h ≡ eq = cc in subst P same two
by_two P one two (suc (suc i)) eq at = absurd (cc at)

small : AreSmall example
small =
    let first : length (functions example) ≡ 2 = refl in
    let equations : length example.equations ≡ 2 = refl in
    let declared : length example.constructors ≡ 1 = refl in
    record {
      heads = by_two (λ (eq : Equation). nat_lt 16 (length eq.patterns) ≡ false) refl refl;
      lefts = by_two (λ (eq : Equation). nat_lt 64 (left_size eq) ≡ false) (ap (λ n. nat_lt 64 (1 + sum (n ∷ []))) (fold-roll-Expr ℕ size_level (Expr-F.Variable (word name_x))))
          (ap (λ n. nat_lt 64 (1 + sum (n ∷ []))) (fold-roll-Expr ℕ size_level (Expr-F.Made (word name_a) [])));
      patterns = by_two (λ (eq : Equation). list_all (λ b. b) (map is_narrow eq.patterns) ≡ true) (ap (λ b. b && true) (fold-roll-Expr Bool narrow_level (Expr-F.Variable (word name_x))))
          (ap (λ b. b && true) (fold-roll-Expr Bool narrow_level (Expr-F.Made (word name_a) [])));
      rights = by_two (λ (eq : Equation). is_narrow eq.right ≡ true) (fold-roll-Expr Bool narrow_level (Expr-F.Integer (pos 5))) (fold-roll-Expr Bool narrow_level (Expr-F.Made (word name_a) []));
      main = fold-roll-Expr Bool narrow_level (Expr-F.Made (word name_g) (call_h ∷ [])) ∙ ap (λ b. b && true) (fold-roll-Expr Bool narrow_level (Expr-F.Made (word name_h) (integer (pos 1) ∷ [])))
          ∙ ap (λ b. (b && true) && true) (fold-roll-Expr Bool narrow_level (Expr-F.Integer (pos 1)));
      names = omega (arith, first, declared);
      rules = omega (arith, first, equations);
    }

upper_names : AllByRecursion (λ (w : Spelling). is_upper_name false w ≡ true) (names_of example)
unfolding is_keyword keywords
upper_names = (refl, (refl, (refl, (refl, (refl, (refl, (refl, (refl, (refl, (refl, (refl, tt)))))))))))

spelt : AreSpelt example
spelt = record {
  names = upper_names;
  patterns = by_two (λ (eq : Equation). list_all (λ b. b) (map has_words eq.patterns) ≡ true) (ap (λ b. b && true) (fold-roll-Expr Bool words_level (Expr-F.Variable (word name_x))))
      (ap (λ b. b && true) (fold-roll-Expr Bool words_level (Expr-F.Made (word name_a) [])));
  rights = by_two (λ (eq : Equation). has_words eq.right ≡ true) (fold-roll-Expr Bool words_level (Expr-F.Integer (pos 5))) (fold-roll-Expr Bool words_level (Expr-F.Made (word name_a) []));
  main = fold-roll-Expr Bool words_level (Expr-F.Made (word name_g) (call_h ∷ [])) ∙ ap (λ b. b && true) (fold-roll-Expr Bool words_level (Expr-F.Made (word name_h) (integer (pos 1) ∷ [])))
      ∙ ap (λ b. (b && true) && true) (fold-roll-Expr Bool words_level (Expr-F.Integer (pos 1)));
}

main_weight : weight_of example.main ≡ 5
main_weight =
    fold-roll-Expr ℕ weight_level (Expr-F.Made (word name_g) (call_h ∷ [])) ∙ ap (λ n. 2 + sum (n ∷ [])) (fold-roll-Expr ℕ weight_level (Expr-F.Made (word name_h) (integer (pos 1) ∷ [])))
    ∙ ap (λ n. 2 + sum ((2 + sum (n ∷ [])) ∷ [])) (fold-roll-Expr ℕ weight_level (Expr-F.Integer (pos 1)))

light : AreLight example
light =
    let five : weight_of (integer (pos 5)) ≡ 1 = fold-roll-Expr ℕ weight_level (Expr-F.Integer (pos 5)) in
    let a : weight_of (made name_a []) ≡ 2 = fold-roll-Expr ℕ weight_level (Expr-F.Made (word name_a) []) in
    record { rights = by_two (λ (eq : Equation). weight_of eq.right < 2 ^ 31) (omega (arith, five)) (omega (arith, a)); main = omega (arith, main_weight) }

pub example_is_sound : ExampleIsSound
example_is_sound = record { sound = sound; small = small; spelt = spelt; light = light }

-- ---- values

level_of : (d : ℕ) (e : Fun) (g : Spelling) (args : List Expr) (v : Expr) → ValueAt (suc d) e [] [] (made g args) v → ValueLevel e (ValueAt d e) [] [] (Expr-F.Made (word g) args) v
level_of d e g args v is = subst (λ y. ValueLevel e (ValueAt d e) [] [] y v) (out-roll-Expr (Expr-F.Made (word g) args)) is

integer_of : (d : ℕ) (v : Expr) → ValueAt d example [] [] (integer (pos 1)) v → v ≡ integer (pos 1)
integer_of zero v is = absurd is
integer_of (suc d) v is = subst (λ y. ValueLevel example (ValueAt d example) [] [] y v) (out-roll-Expr (Expr-F.Integer (pos 1))) is

unmatched : matched (made name_a []) (integer (pos 1)) ≡ None
unmatched = ap (λ (f : Expr → Option (List Expr)). f (integer (pos 1))) (fold-roll-Expr (Expr → Option (List Expr)) matched_level (Expr-F.Made (word name_a) [])) ∙ ap (made_matched name_a []) (out-roll-Expr (Expr-F.Integer (pos 1)))

no_call : first_equation example.equations name_h (integer (pos 1) ∷ []) ≡ None
no_call = ap (λ (o : Option (List Expr)). tried equation_h (both o (all_matched [] [])) None) unmatched

one_list : (R : Expr → Expr → Type 0) (x : Expr) (vs : List Expr) → AllZip R (x ∷ []) vs → (w : Expr) × R x w × (vs ≡ w ∷ [])
one_list R x [] all = absurd all
one_list R x (w ∷ []) all = (w, all.0, refl)
one_list R x (w ∷ u ∷ vs) all = absurd all.1

call_has_none : (d : ℕ) (v : Expr) → ValueAt d example [] [] call_h v → ⊥
call_has_none zero v is = is
call_has_none (suc d) v is =
    let level = level_of d example name_h (integer (pos 1) ∷ []) v is in
    let one = one_list (ValueAt d example [] []) (integer (pos 1)) level.0 level.1 in
    let args : level.0 ≡ integer (pos 1) ∷ [] = one.2 ∙ ap (λ w. w ∷ []) (integer_of d one.0 one.1) in
    let call : Applied example (ValueAt d example) name_h (integer (pos 1) ∷ []) v = subst (λ vs. Applied example (ValueAt d example) name_h vs v) args level.2 in
    none-some call.0 (sym no_call ∙ call.1)

main_has_none : (d : ℕ) (v : Expr) → ValueAt d example [] [] example.main v → ⊥
main_has_none zero v is = is
main_has_none (suc d) v is =
    let level = level_of d example name_g (call_h ∷ []) v is in
    let one = one_list (ValueAt d example [] []) call_h level.0 level.1 in
    call_has_none d one.0 one.1

pub example_has_no_value : ExampleHasNoValue
example_has_no_value v has = main_has_none has.0 v has.1

a_matched : matched (made name_a []) (made name_a []) ≡ Some []
a_matched = ap (λ (f : Expr → Option (List Expr)). f (made name_a [])) (fold-roll-Expr (Expr → Option (List Expr)) matched_level (Expr-F.Made (word name_a) [])) ∙ ap (made_matched name_a []) (out-roll-Expr (Expr-F.Made (word name_a) []))

a_call : Call
a_call = record { names = equation_names equation_h; values = []; right = made name_a [] }

a_first : first_equation example.equations name_h (made name_a [] ∷ []) ≡ Some a_call
unfolding a_call
a_first = ap (λ (o : Option (List Expr)). tried equation_h (both o (all_matched [] [])) None) a_matched

a_value : (names : List Spelling) → ValueAt 1 example names [] (made name_a []) (made name_a [])
a_value names = subst (λ y. ValueLevel example (ValueAt 0 example) names [] y (made name_a [])) (sym (out-roll-Expr (Expr-F.Made (word name_a) []))) ([], tt, refl)

pub example_has_value : ExampleHasValue
unfolding a_call
example_has_value = (
  2,
  subst (λ y. ValueLevel example (ValueAt 1 example) [] [] y (made name_a [])) (sym (out-roll-Expr (Expr-F.Made (word name_h) (made name_a [] ∷ []))))
      (made name_a [] ∷ [], (a_value [], tt), (a_call, a_first, a_value (equation_names equation_h))),
)
