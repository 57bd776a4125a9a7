-- The functions of equations, and the rules of a list of trees.
use Rattle.std.proofs.Common.{◌≡◌, ℕ, zero, suc, ◌+◌, Bool, true, false, not, cond, ◌||◌, List, [], ◌∷◌, ◌++◌, map, length, Some, slice_get, refl, sym, ◌∙◌, ap, arith, if◌then◌else◌}
use Rattle.std.specs.List.{filter}
use Rattle.std.specs.Str.{bytes_eq}
use Rattle.dactl_model.specs.declared.program.Rule.{Rule}
use Rattle.dactl_meaning.specs.declared.tree.RuleTree.{RuleTree}
use Rattle.dactl_meaning.specs.declared.tree.Group.{Group}
use Rattle.dactl_meaning.specs.declared.tree.Text.{Text}
use Rattle.dactl_meaning.specs.Declarations.{PlacedGroup}
use Rattle.dactl_meaning.specs.Expansion.{is_among}
use Rattle.dactl_meaning.specs.Meaning.{rule_of, rules_from}
use Rattle.fun_meaning.specs.declared.tree.Equation.{Equation}
use Rattle.fun_meaning.specs.Names.{Spelling, same_name}
use Rattle.fun_meaning.specs.Translation.{head_arity}
use Rattle.fun_meaning.proofs.Matches.{same_name_refl, same_name_is}
use Rattle.fun_compile.specs.Translated.{group_of}
use Rattle.fun_meaning.specs.Functions.{is_other, first_ones}
use Rattle.fun_laws.proofs.DrawnStands.{bytes_same}
use Rattle.fun_meaning.proofs.After.{get_map}
use Rattle.fun_laws.proofs.Lists.{or_right}

-- ---- lists

or_more : (a b c : Bool) → (a || b) ≡ true → (b ≡ true → c ≡ true) → (a || c) ≡ true
or_more true b c is more = refl
or_more false b c is more = more is

pub among_left : (xs ys : List Spelling) (w : Spelling) → is_among xs w ≡ true → is_among (xs ++ ys) w ≡ true
among_left [] ys w among = cc
among_left (x ∷ xs) ys w among = or_more (bytes_eq x w) (is_among xs w) (is_among (xs ++ ys) w) among (among_left xs ys w)

pub among_right : (xs ys : List Spelling) (w : Spelling) → is_among ys w ≡ true → is_among (xs ++ ys) w ≡ true
among_right [] ys w among = among
among_right (x ∷ xs) ys w among = or_right (bytes_eq x w) (is_among (xs ++ ys) w) (among_right xs ys w among)

-- ---- first equations

abbrev pub heads_of : List Equation → List Spelling
heads_of eqs = map (λ (eq : Equation). eq.head.text) eqs

-- a test that passes keeps an element somewhere
pub kept_somewhere : (test : Equation → Bool) (eqs : List Equation) (j : ℕ) (eq : Equation) → slice_get eqs j ≡ Some eq → test eq ≡ true → (i : ℕ) × (slice_get (filter test eqs) i ≡ Some eq)
kept_somewhere test [] j eq at passes = absurd (cc at)
kept_somewhere test (x ∷ eqs) zero eq at passes =
    let same : x ≡ eq = cc in
    (0, ap (λ b. slice_get (cond b (x ∷ filter test eqs) (filter test eqs)) 0) (ap test same ∙ passes) ∙ ap Some same)
kept_somewhere test (x ∷ eqs) (suc j) eq at passes =
    let rest = kept_somewhere test eqs j eq at passes in
    elim (test x) as (λ b. (i : ℕ) × (slice_get (cond b (x ∷ filter test eqs) (filter test eqs)) i ≡ Some eq)) [ true ↦ (suc rest.0, rest.1) | false ↦ rest ]

stood_by : (x : Equation) (eqs kept : List Equation) (eq : Equation) (b : Bool) (k : ℕ) → ((j : ℕ) → slice_get kept j ≡ Some eq → (i : ℕ) × (slice_get eqs i ≡ Some eq)) → slice_get (cond b (x ∷ kept) kept) k ≡ Some eq → (i : ℕ) × (slice_get (x ∷ eqs) i ≡ Some eq)
stood_by x eqs kept eq true zero before is = (0, is)
stood_by x eqs kept eq true (suc k) before is = let rest = before k is in (suc rest.0, rest.1)
stood_by x eqs kept eq false k before is = let rest = before k is in (suc rest.0, rest.1)

-- what a filter keeps stood there
pub stood_before : (test : Equation → Bool) (eqs : List Equation) (j : ℕ) (eq : Equation) → slice_get (filter test eqs) j ≡ Some eq → (i : ℕ) × (slice_get eqs i ≡ Some eq)
stood_before test [] j eq at = absurd (cc at)
stood_before test (x ∷ eqs) j eq at = stood_by x eqs (filter test eqs) eq (test x) j (λ k is. stood_before test eqs k eq is) at

pub first_stood : (eqs : List Equation) (j : ℕ) (eq : Equation) → slice_get (first_ones eqs) j ≡ Some eq → (i : ℕ) × (slice_get eqs i ≡ Some eq)
first_stood [] j eq at = absurd (cc at)
first_stood (x ∷ eqs) zero eq at = (0, at)
first_stood (x ∷ eqs) (suc j) eq at =
    let before = stood_before (is_other x) (first_ones eqs) j eq at in
    let there = first_stood eqs before.0 eq before.1 in
    (suc there.0, there.1)

-- the first equation of a function with an arity
pub record IsFirst (eqs : List Equation) (g : Spelling) (k : ℕ) : Type 0 where
  pub place : ℕ
  pub equation : Equation
  pub at : slice_get (first_ones eqs) place ≡ Some equation
  pub head : equation.head.text ≡ g
  pub long : length equation.patterns ≡ k

first_by : (x : Equation) (eqs : List Equation) (g : Spelling) (k : ℕ) (b : Bool) → same_name x.head.text g ≡ b → (if b then Some (length x.patterns) else head_arity eqs g) ≡ Some k → (head_arity eqs g ≡ Some k → IsFirst eqs g k) → IsFirst (x ∷ eqs) g k
first_by x eqs g k true same has rest = record { place = 0; equation = x; at = refl; head = same_name_is x.head.text g same; long = cc }
first_by x eqs g k false same has rest =
    let there = rest has in
    let other : is_other x there.equation ≡ true = ap not (ap (same_name x.head.text) there.head ∙ same) in
    let kept = kept_somewhere (is_other x) (first_ones eqs) there.place there.equation there.at other in
    record { place = suc kept.0; equation = there.equation; at = kept.1; head = there.head; long = there.long }

pub first_of : (eqs : List Equation) (g : Spelling) (k : ℕ) → head_arity eqs g ≡ Some k → IsFirst eqs g k
first_of [] g k has = absurd (cc has)
first_of (x ∷ eqs) g k has = first_by x eqs g k (same_name x.head.text g) refl has (first_of eqs g k)

arity_by : (x : Equation) (eqs : List Equation) (g : Spelling) (b : Bool) → same_name x.head.text g ≡ b → ((k : ℕ) × (head_arity eqs g ≡ Some k)) → (k : ℕ) × (head_arity (x ∷ eqs) g ≡ Some k)
arity_by x eqs g true same rest = (length x.patterns, ap (λ b. if b then Some (length x.patterns) else head_arity eqs g) same)
arity_by x eqs g false same rest = (rest.0, ap (λ b. if b then Some (length x.patterns) else head_arity eqs g) same ∙ rest.1)

-- each head has an arity
pub head_has : (eqs : List Equation) (i : ℕ) (eq : Equation) → slice_get eqs i ≡ Some eq → (k : ℕ) × (head_arity eqs eq.head.text ≡ Some k)
head_has [] i eq at = absurd (cc at)
head_has (x ∷ eqs) zero eq at =
    let same : x ≡ eq = cc in
    (length x.patterns, ap (λ b. if b then Some (length x.patterns) else head_arity eqs eq.head.text) (ap (λ y. same_name y.head.text eq.head.text) same ∙ same_name_refl eq.head.text))
head_has (x ∷ eqs) (suc i) eq at = arity_by x eqs eq.head.text (same_name x.head.text eq.head.text) refl (head_has eqs i eq at)

pub among_get : (names : List Spelling) (k : ℕ) (w : Spelling) → slice_get names k ≡ Some w → is_among names w ≡ true
among_get [] k w at = absurd (cc at)
among_get (y ∷ names) zero w at = let same : y ≡ w = cc in ap (λ b. b || is_among names w) (bytes_same y w ∙ ap (λ z. same_name z w) same ∙ same_name_refl w)
among_get (y ∷ names) (suc k) w at = or_right (bytes_eq y w) (is_among names w) (among_get names k w at)

-- each head is a function
pub head_among : (eqs : List Equation) (i : ℕ) (eq : Equation) → slice_get eqs i ≡ Some eq → is_among (heads_of (first_ones eqs)) eq.head.text ≡ true
head_among eqs i eq at =
    let has = head_has eqs i eq at in
    let first = first_of eqs eq.head.text has.0 has.1 in
    among_get (heads_of (first_ones eqs)) first.place eq.head.text (get_map (λ (x : Equation). x.head.text) (first_ones eqs) first.place first.equation first.at ∙ ap Some first.head)

-- ---- the rules of trees, each in a group of its own

abbrev pub placed : Group → PlacedGroup
placed g = record { owner = 0; group = g }

pub rules_at : (text : Text) (trees : List RuleTree) (k j : ℕ) (t : RuleTree) → slice_get trees j ≡ Some t → slice_get (rules_from text k (map placed (map group_of trees))) j ≡ Some (rule_of text 0 (k + j) t)
rules_at text [] k j t at = absurd (cc at)
rules_at text (x ∷ trees) k zero t at =
    let same : x ≡ t = cc in
    let number : k ≡ k + 0 = omega arith in
    ap (λ y. Some (rule_of text 0 k y)) same ∙ ap (λ n. Some (rule_of text 0 n t)) number
rules_at text (x ∷ trees) k (suc j) t at = let number : (k + 1) + j ≡ k + suc j = omega arith in rules_at text trees (k + 1) j t at ∙ ap (λ n. Some (rule_of text 0 n t)) number

pub rules_back : (text : Text) (trees : List RuleTree) (k j : ℕ) (rule : Rule) → slice_get (rules_from text k (map placed (map group_of trees))) j ≡ Some rule → (t : RuleTree) × (slice_get trees j ≡ Some t) × (rule ≡ rule_of text 0 (k + j) t)
rules_back text [] k j rule at = absurd (cc at)
rules_back text (x ∷ trees) k zero rule at =
    let same : rule_of text 0 k x ≡ rule = cc in
    let number : k ≡ k + 0 = omega arith in
    (x, refl, sym same ∙ ap (λ n. rule_of text 0 n x) number)
rules_back text (x ∷ trees) k (suc j) rule at =
    let number : (k + 1) + j ≡ k + suc j = omega arith in
    let rest = rules_back text trees (k + 1) j rule at in
    (rest.0, rest.1, rest.2 ∙ ap (λ n. rule_of text 0 n rest.0) number)
