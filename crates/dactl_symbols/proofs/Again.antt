-- Names that are declared before, one declaration after the other.
use Rattle.std.proofs.Common.{◌≡◌, ℕ, Bool, true, false, cond, ◌⊎◌, inl, inr, List, [], ◌∷◌, ◌++◌, Some, None, refl, sym, ap, ◌∙◌, subst, true≢false, append_assoc}
use Rattle.std.specs.Prelude.{Any}
use Rattle.std.specs.List.{list_any}
use Rattle.std.proofs.lemmas.List.{append-nil}
use Rattle.std.proofs.lemmas.Slice.Eq.{bytes_eq-Decides}
use Rattle.dactl_base.specs.declared.refusal.Kind.TheVariants as kinds
use Rattle.dactl_meaning.specs.declared.tree.Text.{Text}
use Rattle.dactl_meaning.specs.Declarations.{Declaration, is_called, all_names}
use Rattle.dactl_meaning.specs.ScopeFaults.{TwiceDeclared}
use Rattle.dactl_symbols.specs.Least.{sooner, TellsLeast}
use Rattle.dactl_symbols.specs.Meanings.{twice_at, again_at, again_after}
use Rattle.dactl_symbols.proofs.Sooner.{sooner-None, sooner-assoc, tells-same, tells-sooner}
use Rattle.dactl_symbols.proofs.Single.{Of, tells-single, list_any-holds, list_any-Any}

pub again_after-append : (earlier xs ys : List Declaration) → again_after earlier (xs ++ ys) ≡ sooner (again_after earlier xs) (again_after (earlier ++ xs) ys)
again_after-append earlier [] ys = ap (λ e. again_after e ys) (sym (append-nil earlier))
again_after-append earlier (x ∷ xs) ys =
    ap (sooner (again_at earlier x)) (again_after-append (earlier ++ x ∷ []) xs ys ∙ ap (λ e. sooner (again_after (earlier ++ x ∷ []) xs) (again_after e ys)) (append_assoc earlier (x ∷ []) xs))
    ∙ sym (sooner-assoc (again_at earlier x) (again_after (earlier ++ x ∷ []) xs) (again_after (earlier ++ (x ∷ xs)) ys))

-- a declaration more
pub again_after-push : (xs : List Declaration) (x : Declaration) → again_after [] (xs ++ x ∷ []) ≡ sooner (again_after [] xs) (again_at xs x)
again_after-push xs x = again_after-append [] xs (x ∷ []) ∙ ap (sooner (again_after [] xs)) (sooner-None (again_at xs x))

-- the declaration's name is one of the earlier ones
Repeats : List Declaration → Declaration → ℕ → Type 0
Repeats earlier d p = (p ≡ d.name.place.byte) × Any (λ e. e.name.text ≡ d.name.text) earlier

record Again (earlier ds : List Declaration) (p : ℕ) : Type 0 where
  before : List Declaration
  again : Declaration
  later : List Declaration
  order : ds ≡ before ++ again ∷ later
  repeats : Repeats (earlier ++ before) again p

tells-at : (earlier : List Declaration) (d : Declaration) → TellsLeast (Of kinds.TwiceDeclared (Repeats earlier d)) (again_at earlier d)
unfolding Repeats
tells-at earlier d = by (list_any (is_called d.name.text) earlier) refl
  where
    by : (b : Bool) → list_any (is_called d.name.text) earlier ≡ b → TellsLeast (Of kinds.TwiceDeclared (Repeats earlier d)) (cond b (Some (twice_at d.name)) None)
    by true e = tells-single (Of kinds.TwiceDeclared (Repeats earlier d)) (twice_at d.name) (refl, (refl, list_any-Any (is_called d.name.text) (λ x. x.name.text ≡ d.name.text) (λ x. (bytes_eq-Decides x.name.text d.name.text).0) earlier e)) (λ other h. (h.0, h.1.0))
    by false e = λ r h. true≢false (sym (list_any-holds (is_called d.name.text) (λ x. x.name.text ≡ d.name.text) (λ x. (bytes_eq-Decides x.name.text d.name.text).1) earlier h.1.1) ∙ e)

no_split : (before later : List Declaration) (d : Declaration) → [] ≡ before ++ d ∷ later → ⊥
no_split [] later d e = cc
no_split (b ∷ before) later d e = cc

later_again : (earlier : List Declaration) (d : Declaration) (ds : List Declaration) (p : ℕ) → Repeats earlier d p ⊎ Again (earlier ++ d ∷ []) ds p → Again earlier (d ∷ ds) p
later_again earlier d ds p (inl here) = record { before = []; again = d; later = ds; order = refl; repeats = subst (λ e. Repeats e d p) (sym (append-nil earlier)) here }
later_again earlier d ds p (inr there) = record { before = d ∷ there.before; again = there.again; later = there.later; order = ap (λ l. d ∷ l) there.order; repeats = subst (λ e. Repeats e there.again p) (append_assoc earlier (d ∷ []) there.before) there.repeats }

split_again : (earlier : List Declaration) (d : Declaration) (ds before later : List Declaration) (again : Declaration) (p : ℕ) → d ∷ ds ≡ before ++ again ∷ later → Repeats (earlier ++ before) again p → Repeats earlier d p ⊎ Again (earlier ++ d ∷ []) ds p
split_again earlier d ds [] later again p order repeats =
    let head : again ≡ d = cc in
    inl (subst (λ x. Repeats earlier x p) head (subst (λ e. Repeats e again p) (append-nil earlier) repeats))
split_again earlier d ds (b ∷ before) later again p order repeats =
    let head : b ≡ d = cc in
    let tail : ds ≡ before ++ again ∷ later = cc in
    inr (record { before = before; again = again; later = later; order = tail; repeats = subst (λ x. Repeats ((earlier ++ x ∷ []) ++ before) again p) head (subst (λ e. Repeats e again p) (sym (append_assoc earlier (b ∷ []) before)) repeats) })

tells-again_after : (earlier ds : List Declaration) → TellsLeast (Of kinds.TwiceDeclared (Again earlier ds)) (again_after earlier ds)
tells-again_after earlier [] = λ r h. no_split h.1.before h.1.later h.1.again h.1.order
tells-again_after earlier (d ∷ ds) =
    tells-same (λ r. Of kinds.TwiceDeclared (Repeats earlier d) r ⊎ Of kinds.TwiceDeclared (Again (earlier ++ d ∷ []) ds) r) (Of kinds.TwiceDeclared (Again earlier (d ∷ ds))) (again_after earlier (d ∷ ds))
    (λ r h. elim h [ inl here ↦ (here.0, later_again earlier d ds r.place.byte (inl here.1)) | inr there ↦ (there.0, later_again earlier d ds r.place.byte (inr there.1)) ])
    (λ r h. elim (split_again earlier d ds h.1.before h.1.later h.1.again r.place.byte h.1.order h.1.repeats) [ inl here ↦ inl (h.0, here) | inr there ↦ inr (h.0, there) ])
    (tells-sooner (Of kinds.TwiceDeclared (Repeats earlier d)) (Of kinds.TwiceDeclared (Again (earlier ++ d ∷ []) ds)) (again_at earlier d) (again_after (earlier ++ d ∷ []) ds) (tells-at earlier d) (tells-again_after (earlier ++ d ∷ []) ds))

pub tells-again : (text : Text) → TellsLeast (Of kinds.TwiceDeclared (TwiceDeclared text)) (again_after [] (all_names text))
unfolding Repeats
tells-again text =
    tells-same (Of kinds.TwiceDeclared (Again [] (all_names text))) (Of kinds.TwiceDeclared (TwiceDeclared text)) (again_after [] (all_names text))
    (λ r h. (h.0, record { earlier = h.1.before; again = h.1.again; later = h.1.later; order = h.1.order; at = h.1.repeats.0; before = h.1.repeats.1 }))
    (λ r h. (h.0, record { before = h.1.earlier; again = h.1.again; later = h.1.later; order = h.1.order; repeats = (h.1.at, h.1.before) }))
    (tells-again_after [] (all_names text))
