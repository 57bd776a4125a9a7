-- Mentions that make the root of a rule wait again.
use Rattle.std.proofs.Common.{◌≡◌, ℕ, ◌+◌, ◌<◌, Bool, true, false, List, [], ◌∷◌, ◌++◌, length, map, take, drop, get_or, min, refl, sym, ap, ◌∙◌, append_assoc, if◌then◌else◌}
use Rattle.std.specs.List.{filter, flat_map}
use Rattle.std.proofs.lemmas.List.{append-nil, map-append, take-append-drop}
use Rattle.std.proofs.lemmas.Grind.{flat_map-append}
use Rattle.dactl_base.specs.declared.refusal.Kind.TheVariants as kinds
use Rattle.dactl_base.specs.declared.refusal.Refusal.{Refusal}
use Rattle.dactl_meaning.specs.declared.tree.Marks.{Marks}
use Rattle.dactl_meaning.specs.declared.tree.Marks.TheVariants as marks
use Rattle.dactl_meaning.specs.Uses.{is_any}
use Rattle.dactl_meaning.specs.Contractum.{MentionTree, hashes, asked_by}
use Rattle.dactl_meaning.specs.RuleFaults.{each_at, mark_place}
use Rattle.dactl_contractum.specs.Told.{fault_at_mark, faults_again}
use Rattle.dactl_contractum.proofs.ToldFaults.{kept-append, kept_more}

-- ---- the faults of those behind the first

none_told : (m : Marks) → fault_at_mark false m ≡ []
none_told marks.Plain = refl
none_told (marks.Star p) = refl
none_told (marks.Hashes p count) = refl

one_told : (m : Marks) → fault_at_mark true m ≡ each_at kinds.MarkOnBound (mark_place m)
one_told marks.Plain = refl
one_told (marks.Star p) = refl
one_told (marks.Hashes p count) = refl

again-push : (ms : List MentionTree) (m : MentionTree) → faults_again (ms ++ m ∷ []) ≡ faults_again ms ++ fault_at_mark (is_any ms) m.marks
again-push [] m = sym (none_told m.marks)
again-push (k ∷ ms) m =
    ap (each_at kinds.MarkOnBound) (flat_map-append (λ (z : MentionTree). mark_place z.marks) ms (m ∷ []) ∙ ap (λ (z : List ℕ). flat_map (λ (z : MentionTree). mark_place z.marks) ms ++ z) (append-nil (mark_place m.marks)))
    ∙ map-append (λ (place : ℕ). let r : Refusal = record { kind = kinds.MarkOnBound; place = record { byte = place } } in r) (flat_map (λ (z : MentionTree). mark_place z.marks) ms) (mark_place m.marks)
    ∙ ap (λ (z : List Refusal). each_at kinds.MarkOnBound (flat_map (λ (z : MentionTree). mark_place z.marks) ms) ++ z) (sym (one_told m.marks))

any-push : (ms : List MentionTree) (m : MentionTree) → is_any (ms ++ m ∷ []) ≡ true
any-push [] m = refl
any-push (k ∷ ms) m = refl

-- what holds of the mentions so far: their faults are told, and it is known whether there is one
pub record AreAgain (ms : List MentionTree) (found : Bool) (start faults : List Refusal) : Type 0 where
  pub told : faults ≡ start ++ faults_again ms
  pub any : found ≡ is_any ms

pub again_start : (start : List Refusal) → AreAgain [] false start start
again_start start = record { told = sym (append-nil start); any = refl }

pub again_more : (ms : List MentionTree) (m : MentionTree) (found : Bool) (start faults next : List Refusal) → AreAgain ms found start faults → next ≡ faults ++ fault_at_mark found m.marks → AreAgain (ms ++ m ∷ []) true start next
again_more ms m found start faults next h step = record {
  told = step ∙ (λ j. h.told j ++ fault_at_mark (h.any j) m.marks) ∙ append_assoc start (faults_again ms) (fault_at_mark (is_any ms) m.marks) ∙ ap (λ (z : List Refusal). start ++ z) (sym (again-push ms m));
  any = sym (any-push ms m);
}

-- ---- the first of them

pub asked_first : {X : Type 0} (p : MentionTree → Bool) (f : X → MentionTree) (xs : List X) (i : ℕ) (x : X) → i < length xs → x ≡ get_or xs i x → filter p (map f (take i xs)) ≡ [] → p (f x) ≡ true
    → min 16 (hashes (f x).marks) ≡ asked_by (filter p (map f xs))
asked_first p f xs i x lt is none passes =
    let front : filter p (map f (take (i + 1) xs)) ≡ f x ∷ [] = kept_more p f xs i x lt is ∙ (λ j. none j ++ (if passes j then f x ∷ [] else [])) in
    let rest = filter p (map f (drop (i + 1) xs)) in
    let all : filter p (map f xs) ≡ (f x ∷ []) ++ rest =
    ap (λ (l : List _). filter p (map f l)) (sym (take-append-drop (i + 1) xs)) ∙ ap (filter p) (map-append f (take (i + 1) xs) (drop (i + 1) xs))
    ∙ kept-append p (map f (take (i + 1) xs)) (map f (drop (i + 1) xs)) ∙ ap (λ (l : List MentionTree). l ++ rest) front in
    sym (ap asked_by all)
