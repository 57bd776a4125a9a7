-- A translation can be counted, so its program is valid.
use Rattle.std.proofs.Common.{◌≡◌, ◌+◌, ◌<◌, ◌^◌, List, [], ◌∷◌, ◌++◌, map, length, sym, ◌∙◌, ap, subst, arith, length-append}
use Rattle.std.specs.List.{AllByRecursion}
use Rattle.std.proofs.lemmas.List.Elements.{All-from_recursion}
use Rattle.dactl_meaning.specs.declared.tree.Marks.{Marks}
use Rattle.dactl_meaning.specs.declared.tree.Marks.TheVariants as marks
use Rattle.dactl_meaning.specs.declared.tree.RuleTree.{RuleTree}
use Rattle.dactl_meaning.specs.Declarations.{PlacedRule, rules, groups}
use Rattle.dactl_meaning.specs.Contractum.{Drawn, term_of_part}
use Rattle.dactl_meaning.specs.Meaning.{PlacedInitial, all_initials}
use Rattle.dactl_meaning.specs.Spelling.{contracta}
use Rattle.dactl_validity.specs.Counting.{AreCounted, AreCountable}
use Rattle.dactl_validity.proofs.ValidPrograms.{valid_without_faults}
use Rattle.fun_meaning.specs.declared.tree.Equation.{Equation}
use Rattle.fun_meaning.specs.declared.tree.Fun.{Fun}
use Rattle.fun_meaning.specs.Names.{Spelling, check_name}
use Rattle.fun_meaning.proofs.Zips.{each_map, each_append}
use Rattle.fun_compile.specs.Translated.{bare, root_name, value_name, equation_tree, rest_tree, check_tree, group_of, trees_of, translated}
use Rattle.dactl_meaning.specs.Unplaced.{nowhere}
use Rattle.fun_meaning.specs.Functions.{functions, first_ones}
use Rattle.fun_meaning.specs.Spelt.{weight_of, AreLight}
use Rattle.fun_laws.proofs.Drawing.{bare_draws}
use Rattle.fun_laws.proofs.Heads.{placed}
use Rattle.fun_laws.proofs.NoRuleFaults.{placed_rule, rules_are}
use Rattle.fun_laws.proofs.Whole.{groups_are, initials_are}
use Rattle.fun_laws.proofs.Spelled.{spelled}
use Rattle.fun_laws.proofs.Counted.{top_few}
use Rattle.fun_laws.proofs.Whole.{is_program}
use Rattle.fun_laws.proofs.NoFaults.{translation_has_no_fault}
use Rattle.fun_laws.specs.Statements.{program_for, TranslationIsCountable, TranslationIsValid, RunsAreTidy, ValuesAreMeant}
use Rattle.dactl_model.specs.Firing.{start_of}
use Rattle.dactl_model.proofs.KeptFire.{begins_well_formed}
use Rattle.fun_meaning.proofs.Runs.{begins_tidy, run_tidy, unfolds_to_the_value}
use Rattle.fun_laws.proofs.Lists.{length_of_map, all_at}

none_counted : AreCounted []
none_counted = record { nodes = omega arith; arcs = omega arith }

bare_counted : (m : Marks) (x : Spelling) → AreCountable (bare m x ∷ [])
bare_counted m x = subst (λ (d : Drawn). AreCounted (d.made ++ [])) (sym (bare_draws m x 0)) none_counted

abbrev HasFew : RuleTree → Type 0
HasFew t = AreCountable (map term_of_part t.parts)

abbrev rest_of : Equation → RuleTree
rest_of eq = rest_tree eq.head.text (length eq.patterns)

rests_few : (eqs : List Equation) → AllByRecursion HasFew (map rest_of eqs)
rests_few [] = tt
rests_few (eq ∷ eqs) = (bare_counted marks.Plain root_name, rests_few eqs)

trees_few : (e : Fun) → AreLight e → AllByRecursion HasFew (trees_of e)
trees_few e light =
    each_append HasFew (map (equation_tree e) e.equations) (map rest_of (first_ones e.equations) ++ check_tree ∷ rest_tree check_name 1 ∷ [])
    (each_map (equation_tree e) (λ (eq : Equation). weight_of eq.right < 2 ^ 31) HasFew (λ eq few. top_few e eq.right few) e.equations (all_at (λ (eq : Equation). weight_of eq.right < 2 ^ 31) e.equations light.rights))
    (each_append HasFew (map rest_of (first_ones e.equations)) (check_tree ∷ rest_tree check_name 1 ∷ []) (rests_few (first_ones e.equations))
    (bare_counted (marks.Star nowhere) value_name, (bare_counted marks.Plain root_name, tt)))

contracta_few : (e : Fun) → AreLight e → AllByRecursion AreCountable (contracta (translated e))
contracta_few e light =
    each_append AreCountable (map (λ (r : PlacedRule). map term_of_part r.rule.parts) (rules (translated e))) (map (λ (i : PlacedInitial). i.terms) (all_initials (translated e)))
    (subst (λ (rs : List PlacedRule). AllByRecursion AreCountable (map (λ (r : PlacedRule). map term_of_part r.rule.parts) rs)) (sym (rules_are e))
    (each_map (λ (r : PlacedRule). map term_of_part r.rule.parts) (λ (r : PlacedRule). HasFew r.rule) AreCountable (λ r is. is) (map placed_rule (trees_of e)) (each_map placed_rule HasFew (λ (r : PlacedRule). HasFew r.rule) (λ t is. is) (trees_of e) (trees_few e light))))
    (subst (λ (is : List PlacedInitial). AllByRecursion AreCountable (map (λ (i : PlacedInitial). i.terms) is)) (sym (initials_are e)) (top_few e e.main light.main, tt))

groups_long : (e : Fun) → length (groups (translated e)) ≡ length e.equations + (length (first_ones e.equations) + 2)
groups_long e =
    ap length (groups_are e) ∙ length_of_map placed (map group_of (trees_of e)) ∙ length_of_map group_of (trees_of e)
    ∙ length-append (map (equation_tree e) e.equations) (map rest_of (first_ones e.equations) ++ check_tree ∷ rest_tree check_name 1 ∷ [])
    ∙ ap (λ n. n + length (map rest_of (first_ones e.equations) ++ check_tree ∷ rest_tree check_name 1 ∷ [])) (length_of_map (equation_tree e) e.equations)
    ∙ ap (λ n. length e.equations + n) (length-append (map rest_of (first_ones e.equations)) (check_tree ∷ rest_tree check_name 1 ∷ []) ∙ ap (λ n. n + 2) (length_of_map rest_of (first_ones e.equations)))

pub countable : TranslationIsCountable
countable e small light =
    let heads : length (functions e) ≡ length (first_ones e.equations) = length_of_map (λ (eq : Equation). eq.head.text) (first_ones e.equations) in
    record {
      groups = omega (arith, groups_long e, heads, small.rules);
      contracta = All-from_recursion AreCountable (contracta (translated e)) (contracta_few e light);
    }

pub translation_is_valid : TranslationIsValid
translation_is_valid e sound small spelt light = valid_without_faults (translated e) (spelled e spelt) (countable e small light) (translation_has_no_fault e sound small)

-- each graph of a run keeps the invariant
pub runs_are_tidy : RunsAreTidy
runs_are_tidy e journal g sound small spelt light run =
    let p = program_for e in
    let valid = translation_is_valid e sound small spelt light in
    let is = is_program e sound in
    run_tidy e p journal (start_of p.start) g valid is (begins_well_formed p valid) (begins_tidy e p is) run

-- what the root unfolds to after a run is the value that the equations give
pub values_are_meant : ValuesAreMeant
values_are_meant e journal g v sound small spelt light run unfolds = unfolds_to_the_value e (program_for e) journal g v (translation_is_valid e sound small spelt light) (is_program e sound) run unfolds
