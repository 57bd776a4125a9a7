-- Marks, and what follows them.
use Rattle.std.proofs.Common.{◌≡◌, ℕ, zero, suc, ◌≤◌, ◌==◌, true, false, replicate, List, [], ◌∷◌, ◌++◌, length, refl, sym, ◌∙◌, ap, arith}
use Rattle.std.specs.List.{list_all}
use Rattle.std.proofs.lemmas.Bool.{ne_eqb}
use Rattle.std.proofs.lemmas.List.Sums.{count_by-le-length}
use Rattle.dactl_base.specs.Readers.{Stops}
use Rattle.dactl_base.proofs.Passing.{split_by, all_more, begins_apart}
use Rattle.dactl_model.specs.declared.graph.Mark.{Mark}
use Rattle.dactl_model.specs.declared.graph.Mark.TheVariants.{Idle, Active, Waiting}
use Rattle.dactl_model.specs.declared.graph.Arc.{Arc}
use Rattle.dactl_model.specs.Graphs.{FitsMark}
use Rattle.dactl_print.specs.Lines.{mark_text}
use Rattle.dactl_resume.specs.Parts.{is_sign, IsFewMark, BeginsMark}

each_sign : (k : ℕ) → list_all is_sign (replicate k 35) ≡ true
each_sign zero = refl
each_sign (suc k) = all_more is_sign 35 (replicate k 35) refl (each_sign k)

pub mark_signs : (mark : Mark) → list_all is_sign (mark_text mark) ≡ true
mark_signs Idle = refl
mark_signs Active = refl
mark_signs (Waiting k) = each_sign k

pub no_sign : (c : ℕ) → (c ≡ 42 → ⊥) → (c ≡ 35 → ⊥) → is_sign c ≡ false
no_sign c star hash = let one : (c == 42) ≡ false = ne_eqb c 42 star in let other : (c == 35) ≡ false = ne_eqb c 35 hash in rw (one, other) refl

same_count : (j k : ℕ) → replicate {A = ℕ} j 35 ≡ replicate k 35 → j ≡ k
same_count zero zero e = refl
same_count zero (suc k) e = absurd (cc e)
same_count (suc j) zero e = absurd (cc e)
same_count (suc j) (suc k) e = let more : replicate {A = ℕ} j 35 ≡ replicate k 35 = cc in ap suc (same_count j k more)

-- who waits, waits for one notification at least
abbrev pub IsSomeMark : Mark → Type 0
IsSomeMark Idle = Unit {0}
IsSomeMark Active = Unit {0}
IsSomeMark (Waiting k) = 1 ≤ k

abbrev star : List ℕ
star = 42 ∷ []

star_no_signs : (k : ℕ) → star ≡ replicate {A = ℕ} k 35 → ⊥
star_no_signs zero e = let no : 1 ≡ 0 = ap length e in absurd (omega (arith, no))
star_no_signs (suc k) e = begins_apart (λ c. c ≡ 42) (λ c. c ≡ 35) (λ c one other. absurd (omega (arith, one, other))) star (replicate {A = ℕ} (suc k) 35) refl refl e

star_no_nil : [] ≡ star → ⊥
star_no_nil e = let no : 0 ≡ 1 = ap length e in absurd (omega (arith, no))

none_no_signs : (k : ℕ) → 1 ≤ k → [] ≡ replicate {A = ℕ} k 35 → ⊥
none_no_signs zero some e = absurd (omega arith)
none_no_signs (suc k) some e = absurd (cc e)

pub same_mark : (a b : Mark) → IsSomeMark a → IsSomeMark b → mark_text a ≡ mark_text b → a ≡ b
same_mark Idle Idle one other e = refl
same_mark Idle Active one other e = absurd (star_no_nil e)
same_mark Idle (Waiting k) one other e = absurd (none_no_signs k other e)
same_mark Active Idle one other e = absurd (star_no_nil (sym e))
same_mark Active Active one other e = refl
same_mark Active (Waiting k) one other e = absurd (star_no_signs k e)
same_mark (Waiting j) Idle one other e = absurd (none_no_signs j one (sym e))
same_mark (Waiting j) Active one other e = absurd (star_no_signs j (sym e))
same_mark (Waiting j) (Waiting k) one other e = ap Waiting (same_count j k e)

-- a mark and what follows it are determined
pub same_marked : (a b : Mark) (r s : List ℕ) → IsSomeMark a → IsSomeMark b → Stops is_sign r → Stops is_sign s → mark_text a ++ r ≡ mark_text b ++ s → (a ≡ b) × (r ≡ s)
same_marked a b r s one other stops ends e =
    let parts = split_by is_sign (mark_text a) (mark_text b) r s (mark_signs a) (mark_signs b) stops ends e in
    (same_mark a b one other parts.0, parts.1)

pub some_mark : (mark : Mark) → IsFewMark mark → IsSomeMark mark
some_mark Idle few = tt
some_mark Active few = tt
some_mark (Waiting k) few = few.0

pub few_mark : (mark : Mark) (arcs : List Arc) → length arcs ≤ 16 → FitsMark mark arcs → IsFewMark mark
few_mark Idle arcs few fits = tt
few_mark Active arcs few fits = tt
few_mark (Waiting k) arcs few fits = (fits.0, omega (arith, fits.1, few, count_by-le-length (λ (a : Arc). a.waits) arcs))

-- the signs in front are those of the mark
pub mark_front : (bytes signs behind rest : List ℕ) (mark : Mark) → bytes ≡ signs ++ behind → list_all is_sign signs ≡ true → Stops is_sign behind → BeginsMark bytes mark rest → signs ≡ mark_text mark
mark_front bytes signs behind rest mark joined all stops is = (split_by is_sign signs (mark_text mark) behind rest all (mark_signs mark) stops is.ends (sym joined ∙ is.text)).0

pub mark_read : (bytes signs behind : List ℕ) (mark : Mark) → bytes ≡ signs ++ behind → Stops is_sign behind → IsFewMark mark × (signs ≡ mark_text mark) → BeginsMark bytes mark behind
mark_read bytes signs behind mark joined stops is = record { text = joined ∙ ap (λ (t : List ℕ). t ++ behind) is.1; few = is.0; ends = stops }
