-- The right sides and `MAIN` of equations that a text reads weigh at most twice as much as the text has tokens.
use Rattle.std.proofs.Common.{◌≡◌, ℕ, zero, suc, ◌+◌, ◌*◌, ◌≤◌, ◌<◌, ◌^◌, List, [], ◌∷◌, map, length, Option, Some, None, slice_get, sym, ap, ◌∙◌, arith, true, false}
use Rattle.std.specs.List.{sum}
use Rattle.std.proofs.lemmas.List.{length-map}
use Rattle.dactl_meaning.specs.declared.tree.Name.{Name}
use Rattle.fun_meaning.specs.declared.tree.Expr.{Expr}
use Rattle.fun_meaning.specs.declared.tree.Expr.TheOpen.{Expr-F}
use Rattle.fun_meaning.specs.declared.tree.Expr.TheVariants.{rolls-Variable, rolls-Integer, rolls-Made}
use Rattle.fun_meaning.specs.declared.tree.Expr.TheFolds.{fold-roll-Expr}
use Rattle.fun_meaning.specs.declared.tree.Equation.{Equation}
use Rattle.fun_meaning.specs.declared.tree.Fun.{Fun}
use Rattle.fun_meaning.specs.Spelt.{weight_level, weight_of}
use Rattle.dactl_terminals.specs.declared.token.Sort.TheVariants as s
use Rattle.dactl_terminals.specs.Parts.{Tok, Part_of, upper, lower, name_of, value_at}
use Rattle.fun_syntax.specs.Productions.{given_of, given, variable_of, integer_of, made_of, expr, args, equation_of, equation, asked, fun_of, fun}
use Rattle.dactl_terminals.specs.Seen.{token_seen}
use Rattle.fun_syntax.specs.Answer.{tokens_seen, most_open}
use Rattle.fun_reading.specs.Statements.{ReadAreLight}
use Rattle.fun_reading.proofs.LightTokens.{tokens_few}
use Rattle.fun_reading.proofs.LightParts.{Weighs, total, if_there, total_is, weighs_nothing, weighs_sign, weighs_row, weighs_means, weighs_choice, weighs_maybe, weighs_many, weighs_barred, weighs_behind, weighs_before}

-- ---- expressions

upper_weighs : Weighs upper (λ _. 2)
upper_weighs = weighs_means name_of (λ _. 2) (λ t. omega arith) (weighs_sign s.Upper)

lower_weighs : Weighs lower (λ _. 2)
lower_weighs = weighs_means name_of (λ _. 2) (λ t. omega arith) (weighs_sign s.Lower)

variable_few : (n : Name) → weight_of (variable_of n) ≤ 2
variable_few n =
    let one : weight_of (variable_of n) ≡ 1 = ap weight_of (sym (rolls-Variable n)) ∙ fold-roll-Expr ℕ weight_level (Expr-F.Variable n) in
    omega (arith, one)

integer_few : (t : Tok) → weight_of (integer_of t) ≤ 2
integer_few t =
    let one : weight_of (integer_of t) ≡ 1 = ap weight_of (sym (rolls-Integer (value_at false t.word))) ∙ fold-roll-Expr ℕ weight_level (Expr-F.Integer (value_at false t.word)) in
    omega (arith, one)

made_few : (v : Name × List Expr) → weight_of (made_of v) ≤ 2 + total weight_of v.1
made_few v =
    let made : weight_of (made_of v) ≡ 2 + sum (map weight_of v.1) =
    ap weight_of (sym (rolls-Made v.0 v.1)) ∙ fold-roll-Expr ℕ weight_level (Expr-F.Made v.0 v.1) in
    let same = total_is weight_of v.1 in
    omega (arith, made, same)

given_few : (o : Option (List Expr)) → total weight_of (given_of o) ≤ if_there (total weight_of) o
given_few None = omega arith
given_few (Some xs) = omega arith

module _ (inner : Part_of (List Expr)) (few : Weighs inner (total weight_of)) where
  given_weighs : Weighs (given inner) (total weight_of)
  given_weighs = weighs_means given_of (total weight_of) given_few (weighs_maybe few)

  expr_weighs : Weighs (expr inner) weight_of
  expr_weighs = weighs_choice (weighs_means variable_of weight_of variable_few lower_weighs)
      (weighs_choice (weighs_means integer_of weight_of integer_few (weighs_sign s.Integer))
      (weighs_means made_of weight_of made_few (weighs_row upper_weighs (λ _. given_weighs))))

args_weigh : (n : ℕ) → Weighs (args n) (total weight_of)
unfolding args
args_weigh zero = weighs_barred (total weight_of)
args_weigh (suc n) = weighs_behind s.Open (weighs_before s.Close (weighs_many (expr_weighs (args n) (args_weigh n))))

-- ---- equations

-- what a right side weighs
abbrev right_weight : Equation → ℕ
right_weight eq = weight_of eq.right

-- what the right sides and `MAIN` weigh
abbrev fun_weight : Fun → ℕ
fun_weight e = total right_weight e.equations + weight_of e.main

module _ (n : ℕ) where
  body_weighs : Weighs (expr (args n)) weight_of
  body_weighs = expr_weighs (args n) (args_weigh n)

  equation_weighs : Weighs (equation n) right_weight
  equation_weighs = weighs_means equation_of right_weight (λ v. omega arith)
      (weighs_row (weighs_nothing upper) (λ _. weighs_row (weighs_nothing (given (args n))) (λ _. weighs_behind s.Equals (weighs_before s.Semicolon body_weighs))))

  asked_weighs : Weighs (asked n) weight_of
  asked_weighs = weighs_behind s.Main (weighs_behind s.Equals (weighs_before s.Semicolon body_weighs))

  fun_weighs : Weighs (fun n) fun_weight
  fun_weighs = weighs_means fun_of fun_weight (λ v. omega arith)
      (weighs_row (weighs_nothing _) (λ _. weighs_row (weighs_many equation_weighs) (λ _. asked_weighs)))

-- ---- texts

-- one of several weighs no more than all
one_of : {A : Type 0} (weight : A → ℕ) (xs : List A) (i : ℕ) (x : A) → slice_get xs i ≡ Some x → weight x ≤ total weight xs
one_of weight [] i x at = absurd (cc at)
one_of weight (y ∷ xs) zero x at = let same : y ≡ x = cc in rw same (omega arith)
one_of weight (y ∷ xs) (suc i) x at = let there = one_of weight xs i x at in omega (arith, there)

few : (tokens weight : ℕ) → tokens ≤ 1048577 → weight ≤ 2 * tokens → weight < 2 ^ 31
few tokens weight count most = omega (arith, count, most)

pub read_are_light : ReadAreLight
read_are_light bytes e short reads =
    let most = (fun_weighs most_open).of (tokens_seen bytes reads.tokens) e reads.derives in
    let long = length-map reads.tokens (token_seen true bytes) in
    let tokens = tokens_few bytes reads.tokens reads.lexes in
    let count : length (tokens_seen bytes reads.tokens) ≤ 1048577 = omega (arith, short, long, tokens) in
    let whole : fun_weight e < 2 ^ 31 = few (length (tokens_seen bytes reads.tokens)) (fun_weight e) count most in
    record {
      rights = λ i eq at. (let one = one_of right_weight e.equations i eq at in omega (arith, one, whole));
      main = omega (arith, whole);
    }
