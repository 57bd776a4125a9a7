-- The groups of a translation, put together.
use Rattle.std.proofs.Common.{◌≡◌, List, [], ◌∷◌, ◌++◌, length, map, refl, sym, ap, ◌∙◌, append_assoc}
use Rattle.std.proofs.lemmas.List.{map-append}
use Rattle.dactl_meaning.specs.declared.tree.Group.{Group}
use Rattle.dactl_meaning.specs.declared.tree.RuleTree.{RuleTree}
use Rattle.fun_meaning.specs.declared.tree.Equation.{Equation}
use Rattle.fun_meaning.specs.declared.tree.Fun.{Fun}
use Rattle.fun_meaning.specs.Functions.{first_ones}
use Rattle.fun_meaning.specs.Names.{check_name}
use Rattle.fun_compile.specs.Translated.{group_of, equation_tree, rest_tree, check_tree, groups_of}

mapped : {X Y Z : Type 0} (f : Y → Z) (g : X → Y) (xs : List X) → map f (map g xs) ≡ map (λ x. f (g x)) xs
mapped f g [] = refl
mapped f g (x ∷ xs) = ap (λ k. f (g x) ∷ k) (mapped f g xs)

-- a function's last rule
abbrev last_tree : Equation → RuleTree
last_tree eq = rest_tree eq.head.text (length eq.patterns)

-- those of equations, then those of functions, then the two of Chk
pub put_together : (e : Fun) (firsts : List Equation) (a b c d : List Group) (check rest : RuleTree) → firsts ≡ first_ones e.equations → a ≡ map (λ eq. group_of (equation_tree e eq)) e.equations
    → b ≡ a ++ map (λ eq. group_of (rest_tree eq.head.text (length eq.patterns))) firsts → check ≡ check_tree → c ≡ b ++ group_of check ∷ [] → rest ≡ rest_tree check_name 1 → d ≡ c ++ group_of rest ∷ [] → d ≡ groups_of e
put_together e firsts a b c d check rest are of_equations of_functions is_check with_check is_rest whole =
    let trees : List RuleTree = map (equation_tree e) e.equations in
    let ends : List RuleTree = map last_tree (first_ones e.equations) in
    let heads : List Group = map (λ eq. group_of (equation_tree e eq)) e.equations in
    let lasts : List Group = map (λ eq. group_of (last_tree eq)) (first_ones e.equations) in
    let first : Group = group_of check_tree in
    let last : Group = group_of (rest_tree check_name 1) in
    whole
    ∙ ap (λ (r : RuleTree). c ++ group_of r ∷ []) is_rest
    ∙ ap (λ l. l ++ last ∷ []) (with_check ∙ ap (λ (k : RuleTree). b ++ group_of k ∷ []) is_check ∙ ap (λ l. l ++ first ∷ []) (of_functions ∙ ap (λ (l : List Equation). a ++ map (λ eq. group_of (last_tree eq)) l) are ∙ ap (λ l. l ++ lasts) of_equations))
    ∙ append_assoc (heads ++ lasts) (first ∷ []) (last ∷ [])
    ∙ append_assoc heads lasts (first ∷ last ∷ [])
    ∙ ap (λ l. l ++ (lasts ++ first ∷ last ∷ [])) (sym (mapped group_of (equation_tree e) e.equations))
    ∙ ap (λ l. map group_of trees ++ (l ++ first ∷ last ∷ [])) (sym (mapped group_of last_tree (first_ones e.equations)))
    ∙ ap (λ l. map group_of trees ++ l) (sym (map-append group_of ends (check_tree ∷ rest_tree check_name 1 ∷ [])))
    ∙ sym (map-append group_of trees (ends ++ check_tree ∷ rest_tree check_name 1 ∷ []))
