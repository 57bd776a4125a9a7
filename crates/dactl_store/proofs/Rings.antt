-- The ring has the active nodes, whatever record is written.
use Rattle.std.proofs.Common.{◌≡◌, ℕ, ◌<◌, ◌≤◌, Bool, true, false, cond, eqb, List, [], ◌∷◌, ◌++◌, length, set, refl, sym, ap, ◌∙◌, arith, inl, inr, length-set}
use Rattle.std.proofs.lemmas.Bool.{eqb-true, eqb-false, cases_Bool, cond-true}
use Rattle.std.proofs.lemmas.Bool.Decides.{nat_tests}
use Rattle.std.proofs.lemmas.List.{get_or-set_same, get_or-set_other, length_push}
use Rattle.dactl_active.specs.Ring.{Ring, has, inserted}
use Rattle.dactl_active.proofs.Numbers.{Lacks-from_has, has-without, without-lacking}
use Rattle.dactl_model.specs.declared.graph.Mark.{Mark}
use Rattle.dactl_model.specs.declared.graph.Mark.TheVariants.{Idle, Active, Waiting}
use Rattle.dactl_model.specs.Acts.{marks_active}
use Rattle.dactl_store.specs.declared.table.NodeRecord.{NodeRecord}
use Rattle.dactl_store.specs.Table.{no_node, record_of, is_active, ring_with, IsTable}

pub has_push : (xs : List ℕ) (n m : ℕ) → has (xs ++ n ∷ []) m ≡ cond (eqb m n) true (has xs m)
has_push [] n m = grind (arith, nat_tests)
has_push (x ∷ xs) n m = grind (arith, nat_tests, has_push xs n m)

-- what was put in is there, beside what was there
pub has-inserted : (xs : List ℕ) (n m : ℕ) → has (inserted xs n) m ≡ cond (eqb m n) true (has xs m)
has-inserted xs n m = elim (cases_Bool (has xs n)) [
  | inl there ↦ rw there (elim (cases_Bool (eqb m n)) [
    | inl same ↦ rw same (ap (has xs) (eqb-true m n same) ∙ there)
    | inr other ↦ rw other refl
  ])
  | inr absent ↦ rw absent (has_push xs n m)
]

pub has-ring_with : (mark : Mark) (ring : List ℕ) (n m : ℕ) → has (ring_with mark ring n) m ≡ cond (eqb m n) (marks_active mark) (has ring m)
has-ring_with Idle ring n m = has-without ring n m
has-ring_with Active ring n m = has-inserted ring n m
has-ring_with (Waiting k) ring n m = has-without ring n m

-- the ring stays where the activity does
pub ring_with-same : (mark : Mark) (ring : List ℕ) (n : ℕ) → has ring n ≡ marks_active mark → ring_with mark ring n ≡ ring
ring_with-same Idle ring n is = without-lacking ring n (Lacks-from_has ring n is)
ring_with-same Active ring n is = cond-true (has ring n) ring (ring ++ n ∷ []) is
ring_with-same (Waiting k) ring n is = without-lacking ring n (Lacks-from_has ring n is)

pub record_of-set : (records : List NodeRecord) (n m : ℕ) (written : NodeRecord) → n < length records → record_of (set records n written) m ≡ cond (eqb m n) written (record_of records m)
record_of-set records n m written below = elim (cases_Bool (eqb m n)) [
  | inl same ↦ rw same (ap (record_of (set records n written)) (eqb-true m n same) ∙ get_or-set_same records n written no_node below)
  | inr other ↦ rw other (get_or-set_other records n m written no_node (eqb-false m n other))
]

pub record_of-push : (records : List NodeRecord) (m : ℕ) (added : NodeRecord) → record_of (records ++ added ∷ []) m ≡ cond (eqb m (length records)) added (record_of records m)
record_of-push [] m added = grind (arith, nat_tests)
record_of-push (r ∷ records) m added = grind (arith, nat_tests, record_of-push records, m)

is_active_of : (b : Bool) (written : NodeRecord) (records : List NodeRecord) (m : ℕ) → marks_active (cond b written (record_of records m)).mark ≡ cond b (marks_active written.mark) (is_active records m)
is_active_of true written records m = refl
is_active_of false written records m = refl

pub is_active-set : (records : List NodeRecord) (n m : ℕ) (written : NodeRecord) → n < length records → is_active (set records n written) m ≡ cond (eqb m n) (marks_active written.mark) (is_active records m)
is_active-set records n m written below = ap (λ r. marks_active r.mark) (record_of-set records n m written below) ∙ is_active_of (eqb m n) written records m

pub is_active-push : (records : List NodeRecord) (m : ℕ) (added : NodeRecord) → is_active (records ++ added ∷ []) m ≡ cond (eqb m (length records)) (marks_active added.mark) (is_active records m)
is_active-push records m added = ap (λ r. marks_active r.mark) (record_of-push records m added) ∙ is_active_of (eqb m (length records)) added records m

pub IsTable-set : (records : List NodeRecord) (ring ring' : Ring) (room capacity capacity' n : ℕ) (written : NodeRecord) → IsTable records ring room capacity → n < length records → room ≤ capacity'
    → ring'.numbers ≡ ring_with written.mark ring.numbers n → ring'.room ≡ ring.room → IsTable (set records n written) ring' room capacity'
IsTable-set records ring ring' room capacity capacity' n written is below taken numbers same = record {
  fits = is.fits;
  taken = taken;
  few = omega (arith, length-set records n written, is.few);
  ring_room = same ∙ is.ring_room;
  active = λ m. ap (λ xs. has xs m) numbers ∙ has-ring_with written.mark ring.numbers n m ∙ ap (cond (eqb m n) (marks_active written.mark)) (is.active m) ∙ sym (is_active-set records n m written below);
}

pub IsTable-push : (records : List NodeRecord) (ring ring' : Ring) (room capacity capacity' number : ℕ) (added : NodeRecord) → IsTable records ring room capacity → length records < room → room ≤ capacity'
    → number ≡ length records → ring'.numbers ≡ ring_with added.mark ring.numbers number → ring'.room ≡ ring.room → IsTable (records ++ added ∷ []) ring' room capacity'
IsTable-push records ring ring' room capacity capacity' number added is below taken last numbers same = record {
  fits = is.fits;
  taken = taken;
  few = omega (arith, length_push records added, is.few);
  ring_room = same ∙ is.ring_room;
  active = λ m. ap (λ xs. has xs m) numbers ∙ ap (λ k. has (ring_with added.mark ring.numbers k) m) last ∙ has-ring_with added.mark ring.numbers (length records) m ∙ ap (cond (eqb m (length records)) (marks_active added.mark)) (is.active m) ∙ sym (is_active-push records m added);
}
