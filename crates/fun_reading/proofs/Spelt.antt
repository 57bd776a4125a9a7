-- What a text reads has spelled names and integers of 64 bits.
use Rattle.std.proofs.Common.{◌≡◌, ℕ, zero, suc, Bool, true, false, List, [], ◌∷◌, ◌++◌, map, Option, Some, None, refl, sym, ap, ◌∙◌}
use Rattle.std.specs.Prelude.{codes}
use Rattle.std.specs.List.{AllByRecursion as Each, list_all}
use Rattle.dactl_model.specs.Integers.{is_word}
use Rattle.dactl_model.specs.Names.{is_upper_name, is_keyword, keywords}
use Rattle.dactl_meaning.specs.declared.tree.Name.{Name}
use Rattle.dactl_grammar.proofs.Holds.{Splits, IfThere, Holds, holds_one, holds_row, holds_choice, holds_maybe, holds_many, holds_means, holds_barred}
use Rattle.fun_meaning.specs.declared.tree.Expr.{Expr}
use Rattle.fun_meaning.specs.declared.tree.Expr.TheOpen.{Expr-F}
use Rattle.fun_meaning.specs.declared.tree.Expr.TheViews.{rolls-Variable, rolls-Integer, rolls-Made}
use Rattle.fun_meaning.specs.declared.tree.Expr.TheFolds.{fold-roll-Expr}
use Rattle.fun_meaning.specs.declared.tree.Equation.{Equation}
use Rattle.fun_meaning.specs.declared.tree.Fun.{Fun}
use Rattle.fun_meaning.specs.Names.{Spelling, check_name}
use Rattle.fun_meaning.specs.Functions.{first_ones, functions, constructors as constructors_of, names_of}
use Rattle.fun_meaning.specs.Spelt.{words_level, has_words, AreSpelt}
use Rattle.dactl_terminals.specs.declared.token.Sort.{Sort}
use Rattle.dactl_terminals.specs.declared.token.Sort.TheVariants as s
use Rattle.dactl_terminals.specs.Parts.{Tok, Part_of, is, name_of, behind, before, separated, upper, lower, value_at}
use Rattle.fun_syntax.specs.Productions.{given_of, given, variable_of, integer_of, made_of, expr, args, equation_of, equation, constructors, joined, fun_of, fun}
use Rattle.fun_syntax.specs.Answer.{tokens_seen, most_open}
use Rattle.fun_reading.specs.Statements.{ReadAreSpelt}
use Rattle.fun_meaning.proofs.Zips.{each_map, each_append, each_at}
use Rattle.fun_reading.proofs.Lists.{each_split, each_first}
use Rattle.fun_reading.proofs.SpeltTokens.{IsSpelt, AreSpeltTokens, tokens_are_spelt}

each_joined : {X : Type 0} (P : X → Type 0) (lists : List (List X)) → Each (Each P) lists → Each P (joined lists)
each_joined P [] h = tt
each_joined P (xs ∷ lists) h = each_append P xs (joined lists) h.0 (each_joined P lists h.1)

-- ---- parts of the grammar

split : Splits AreSpeltTokens
split u v g = each_split IsSpelt u v g

abbrev Shows : {A : Type 0} → Part_of A → (A → Type 0) → Type 0
Shows P X = Holds AreSpeltTokens P X

-- nothing is said
abbrev Anything : {A : Type 0} → A → Type 0
Anything a = Unit {0}

anything : {A : Type 0} (P : Part_of A) → Shows P Anything
anything P = record { of = λ l a g w. tt }

shows_behind : {A : Type 0} {P : Part_of A} {X : A → Type 0} (k : Sort) → Shows P X → Shows (behind k P) X
shows_behind {A} {P} {X} k p = holds_means (λ v. v.1) X (λ v h. h.1) (holds_row split (holds_one (is k)) (λ _. p))

shows_before : {A : Type 0} {P : Part_of A} {X : A → Type 0} (k : Sort) → Shows P X → Shows (before P k) X
shows_before {A} {P} {X} k p = holds_means (λ v. v.0) X (λ v h. h.0) (holds_row split p (λ _. holds_one (is k)))

shows_separated : {A : Type 0} {P : Part_of A} {X : A → Type 0} (k : Sort) → Shows P X → Shows (separated k P) (Each X)
shows_separated {A} {P} {X} k p = holds_means (λ v. v.0 ∷ v.1) (Each X) (λ v h. h) (holds_row split p (λ _. holds_many split (shows_behind k p)))

-- ---- names and expressions

abbrev IsUpper : Name → Type 0
IsUpper n = is_upper_name false n.text ≡ true

upper_shows : Shows upper IsUpper
upper_shows = holds_means name_of IsUpper (λ t h. h.0.0.upper h.1) (holds_one (is s.Upper))

abbrev HasWords : Expr → Type 0
HasWords e = has_words e ≡ true

all_words : (given : List Expr) → Each HasWords given → list_all (λ b. b) (map has_words given) ≡ true
all_words [] h = refl
all_words (e ∷ given) h = rw (h.0, all_words given h.1) refl

variable_words : (n : Name) → HasWords (variable_of n)
variable_words n = ap has_words (sym (rolls-Variable n)) ∙ fold-roll-Expr Bool words_level (Expr-F.Variable n)

integer_words : (t : Tok) → is_word (value_at false t.word) ≡ true → HasWords (integer_of t)
integer_words t h = ap has_words (sym (rolls-Integer (value_at false t.word))) ∙ fold-roll-Expr Bool words_level (Expr-F.Integer (value_at false t.word)) ∙ h

made_words : (v : Name × List Expr) → Each HasWords v.1 → HasWords (made_of v)
made_words v h = ap has_words (sym (rolls-Made v.0 v.1)) ∙ fold-roll-Expr Bool words_level (Expr-F.Made v.0 v.1) ∙ all_words v.1 h

given_words : (o : Option (List Expr)) → IfThere (Each HasWords) o → Each HasWords (given_of o)
given_words None h = tt
given_words (Some es) h = h

given_shows : (inner : Part_of (List Expr)) → Shows inner (Each HasWords) → Shows (given inner) (Each HasWords)
given_shows inner shown = holds_means given_of (Each HasWords) given_words (holds_maybe shown)

expr_shows : (inner : Part_of (List Expr)) → Shows inner (Each HasWords) → Shows (expr inner) HasWords
expr_shows inner shown = holds_choice
    (holds_means variable_of HasWords (λ n h. variable_words n) (anything lower))
    (holds_choice
    (holds_means integer_of HasWords (λ t h. integer_words t h.0.0.value) (holds_one (is s.Integer)))
    (holds_means made_of HasWords (λ v h. made_words v h.1) (holds_row split (anything upper) (λ _. given_shows inner shown))))

args_show : (n : ℕ) → Shows (args n) (Each HasWords)
unfolding args
args_show zero = holds_barred (Each HasWords)
args_show (suc n) = shows_behind s.Open (shows_before s.Close (holds_many split (expr_shows (args n) (args_show n))))

-- ---- equations

-- the head is an upper name, and integers have 64 bits
abbrev IsSpeltEquation : Equation → Type 0
IsSpeltEquation eq = IsUpper eq.head × (Each HasWords eq.patterns × HasWords eq.right)

-- so are the names of `DATA` items, the equations and the expression of `MAIN`
abbrev IsSpeltFun : Fun → Type 0
IsSpeltFun e = Each IsUpper e.constructors × (Each IsSpeltEquation e.equations × HasWords e.main)

module _ (n : ℕ) where
  right_shows : Shows (behind s.Equals (before (expr (args n)) s.Semicolon)) HasWords
  right_shows = shows_behind s.Equals (shows_before s.Semicolon (expr_shows (args n) (args_show n)))

  equation_shows : Shows (equation n) IsSpeltEquation
  equation_shows = holds_means equation_of IsSpeltEquation (λ v h. h) (holds_row split upper_shows (λ _. holds_row split (given_shows (args n) (args_show n)) (λ _. right_shows)))

  constructors_show : Shows constructors (Each IsUpper)
  constructors_show = shows_behind s.Data (shows_before s.Semicolon (shows_separated s.Comma upper_shows))

  fun_shows : Shows (fun n) IsSpeltFun
  fun_shows = holds_means fun_of IsSpeltFun (λ v h. h)
      (holds_row split (holds_means joined (Each IsUpper) (each_joined IsUpper) (holds_many split constructors_show))
      (λ _. holds_row split (holds_many split equation_shows) (λ _. shows_behind s.Main right_shows)))

-- ---- the law

-- the names of symbols
abbrev IsUpperWord : Spelling → Type 0
IsUpperWord w = is_upper_name false w ≡ true

built_in_upper : (rest : List Spelling) → Each IsUpperWord rest
    → Each IsUpperWord (codes "IAdd" ∷ codes "ISub" ∷ codes "IMul" ∷ codes "IEq" ∷ codes "ILt" ∷ codes "True" ∷ codes "False" ∷ rest)
unfolding is_keyword keywords
built_in_upper rest h = (refl, (refl, (refl, (refl, (refl, (refl, (refl, h)))))))

check_upper : IsUpperWord check_name
unfolding is_keyword keywords
check_upper = refl

names_upper : (e : Fun) → IsSpeltFun e → Each IsUpperWord (names_of e)
names_upper e h =
    built_in_upper ((functions e ++ check_name ∷ []) ++ constructors_of e)
    (each_append IsUpperWord (functions e ++ check_name ∷ []) (constructors_of e)
    (each_append IsUpperWord (functions e) (check_name ∷ [])
    (each_map (λ (eq : Equation). eq.head.text) IsSpeltEquation IsUpperWord (λ eq k. k.0) (first_ones e.equations) (each_first IsSpeltEquation e.equations h.1.0))
    (check_upper, tt))
    (each_map (λ (c : Name). c.text) IsUpper IsUpperWord (λ c k. k) e.constructors h.0))

spelt : (e : Fun) → IsSpeltFun e → AreSpelt e
spelt e h = record {
  names = names_upper e h;
  patterns = λ i eq at. all_words eq.patterns (each_at IsSpeltEquation e.equations i eq h.1.0 at).1.0;
  rights = λ i eq at. (each_at IsSpeltEquation e.equations i eq h.1.0 at).1.1;
  main = h.1.1;
}

pub read_are_spelt : ReadAreSpelt
read_are_spelt bytes e r = spelt e ((fun_shows most_open).of (tokens_seen bytes r.tokens) e (tokens_are_spelt bytes r.tokens r.lexes) r.derives)
