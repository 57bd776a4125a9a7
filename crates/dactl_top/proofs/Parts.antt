-- An input has its parts in one way, and so its text part means one thing.
use Rattle.std.proofs.Common.{◌≡◌, ℕ, ◌+◌, ◌<◌, Bool, true, false, if◌then◌else◌, refl, List, length, take, drop, min, Some, None, sym, ap, ◌∙◌, subst, inl, inr, arith}
use Rattle.std.specs.Prelude.{codes}
use Rattle.std.specs.declared.option.Option.{Option}
use Rattle.std.proofs.lemmas.Bool.{cases_lt}
use Rattle.dactl_base.specs.declared.parts.Parts.{Parts}
use Rattle.dactl_base.specs.declared.refusal.Refusal.{Refusal}
use Rattle.dactl_base.specs.Parts.{AreParts}
use Rattle.dactl_model.specs.declared.program.Program.{Program}
use Rattle.dactl_settings.specs.declared.settings.Settings.{Settings}
use Rattle.dactl_top.specs.Compiling.{IsProgramBy, IsFaultBy, MeansBy, MeansFaultBy}
use Rattle.dactl_top.specs.Parts.{marker_of, IsParted, LacksPart, HasPart}

neither : (x y : ℕ) → ¬ (x < y) → ¬ (y < x) → x ≡ y
neither x y less more = elim (cases_lt x y) [
  | inl is ↦ absurd (less is)
  | inr past ↦ elim (cases_lt y x) [ inl is ↦ absurd (more is) | inr also ↦ omega (arith, past, also) ]
]

-- the first line that is the marker is one
one_end : (input marker : List ℕ) (a b : Parts) → AreParts input marker a → AreParts input marker b → a.text_end ≡ b.text_end
one_end input marker a b one two = neither a.text_end b.text_end (λ less. two.first a.text_end less one.line) (λ less. one.first b.text_end less two.line)

one_rest : (input marker : List ℕ) (a b : Parts) → AreParts input marker a → AreParts input marker b → a.rest ≡ b.rest
one_rest input marker a b one two = one.rest ∙ ap (λ n. min (n + length marker + 1) (length input)) (one_end input marker a b one two) ∙ sym two.rest

-- an input has one text part and one rest
pub one_parting : (marker : Option (List ℕ)) (input text other rest more : List ℕ) → IsParted marker input text rest → IsParted marker input other more → (text ≡ other) × (rest ≡ more)
one_parting None input text other rest more one two = (one.0 ∙ sym two.0, one.1 ∙ sym two.1)
one_parting (Some marker) input text other rest more one two = (
  one.is_text ∙ ap (λ n. take n input) (one_end input marker one.parts two.parts one.are two.are) ∙ sym two.is_text,
  one.is_rest ∙ ap (λ n. drop n input) (one_rest input marker one.parts two.parts one.are two.are) ∙ sym two.is_rest,
)

-- an input that has parts lacks none
pub lacks_none : (marker : Option (List ℕ)) (input text rest : List ℕ) → IsParted marker input text rest → LacksPart marker input → ⊥
lacks_none None input text rest is lacks = lacks
lacks_none (Some marker) input text rest is lacks = lacks is.parts.text_end is.are.line

pub same_part : (s : Settings) (input rest more : List ℕ) (One Two : List ℕ → Type 0) (one : HasPart s input rest One) (two : HasPart s input more Two) → (one.text ≡ two.text) × (rest ≡ more)
same_part s input rest more One Two one two = one_parting (marker_of s) input one.text two.text rest more one.parted two.parted

-- ---- by the flag

only_by : (fun : Bool) (bytes : List ℕ) (p q : Program) → MeansBy fun bytes p → IsProgramBy fun bytes q → p ≡ q
only_by false bytes p q means is = means.only q is
only_by true bytes p q means is = means.only q is

faultless_by : (fun : Bool) (bytes : List ℕ) (p : Program) (r : Refusal) → MeansBy fun bytes p → IsFaultBy fun bytes r → ⊥
faultless_by false bytes p r means is = means.faultless r is
faultless_by true bytes p r means is = means.faultless r is

none_by : (fun : Bool) (bytes : List ℕ) (r : Refusal) (p : Program) → MeansFaultBy fun bytes r → IsProgramBy fun bytes p → ⊥
none_by false bytes r p means is = means.none p is
none_by true bytes r p means is = means.none p is

-- a text part that means a program is no other program's
pub same_program : (s : Settings) (input rest more : List ℕ) (p q : Program) → HasPart s input rest (λ text. MeansBy s.fun text p) → HasPart s input more (λ text. IsProgramBy s.fun text q) → p ≡ q
same_program s input rest more p q one two =
    let same = same_part s input rest more (λ text. MeansBy s.fun text p) (λ text. IsProgramBy s.fun text q) one two in
    only_by s.fun one.text p q one.says (subst (λ t. IsProgramBy s.fun t q) (sym same.0) two.says)

-- and it has no fault
pub no_fault : (s : Settings) (input rest more : List ℕ) (p : Program) (r : Refusal) → HasPart s input rest (λ text. MeansBy s.fun text p) → HasPart s input more (λ text. IsFaultBy s.fun text r) → ⊥
no_fault s input rest more p r one two =
    let same = same_part s input rest more (λ text. MeansBy s.fun text p) (λ text. IsFaultBy s.fun text r) one two in
    faultless_by s.fun one.text p r one.says (subst (λ t. IsFaultBy s.fun t r) (sym same.0) two.says)

-- a text part with a first fault is no program's
pub no_program : (s : Settings) (input rest more : List ℕ) (r : Refusal) (p : Program) → HasPart s input rest (λ text. MeansFaultBy s.fun text r) → HasPart s input more (λ text. IsProgramBy s.fun text p) → ⊥
no_program s input rest more r p one two =
    let same = same_part s input rest more (λ text. MeansFaultBy s.fun text r) (λ text. IsProgramBy s.fun text p) one two in
    none_by s.fun one.text r p one.says (subst (λ t. IsProgramBy s.fun t p) (sym same.0) two.says)

-- ---- where no marker is asked for

unmarked : (verify resume : Bool) (one two : List ℕ) → verify ≡ false → resume ≡ false → (if verify then Some one else (if resume then Some two else None)) ≡ None
unmarked false false one two unasked fresh = refl
unmarked false true one two unasked fresh = cc
unmarked true resume one two unasked fresh = cc

-- the whole input is the text
pub whole_text : (s : Settings) (input text rest : List ℕ) → s.verify ≡ false → s.resume ≡ false → IsParted (marker_of s) input text rest → text ≡ input
whole_text s input text rest unasked fresh parted = (subst (λ marker. IsParted marker input text rest) (unmarked s.verify s.resume (codes "%TRACE") (codes "%GRAPH") unasked fresh) parted).0
