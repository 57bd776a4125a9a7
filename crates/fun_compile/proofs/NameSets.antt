-- Sets of names, one name after the other.
use Rattle.std.proofs.Common.{◌≡◌, ℕ, ◌+◌, ◌<◌, Bool, true, false, cond, ◌||◌, List, [], ◌∷◌, ◌++◌, length, take, get_or, refl, sym, ap, ◌∙◌}
use Rattle.std.specs.Borrow.{Bor}
use Rattle.std.specs.BTreeSet.{BTreeSet, Updates}
use Rattle.std.specs.Cmp.Lexicographic.{slice_cmp}
use Rattle.std.specs.List.{list_any}
use Rattle.std.specs.Ordering.{nat_cmp}
use Rattle.std.proofs.lemmas.List.{take_more}
use Rattle.std.proofs.lemmas.List.Folds.{list_any-append}
use Rattle.std.proofs.lemmas.Map.Text.{is_eq-slice_cmp}
use Rattle.dactl_meaning.specs.declared.tree.Name.{Name}
use Rattle.fun_meaning.specs.Names.{Spelling, same_name}
use Rattle.fun_compile.specs.Knowing.{has_name, is_one_of, HasNames}
use Rattle.fun_compile.proofs.SameNames.{same_is, same_swapped}

pub or_false : (b : Bool) → (b || false) ≡ b
or_false true = refl
or_false false = refl

cond_or : (a b : Bool) → cond a true b ≡ (b || a)
cond_or true true = refl
cond_or true false = refl
cond_or false b = sym (or_false b)

-- a name was put into the set
abbrev pub Inserts : BTreeSet (Bor Spelling) → BTreeSet (Bor Spelling) → Bor Spelling → Type 0
Inserts old new name = Updates (λ x y. slice_cmp nat_cmp x.now y.now) old new name true

-- so it has this name too
pub inserted : (old new : BTreeSet (Bor Spelling)) (name : Bor Spelling) → Inserts old new name → (w : Spelling) → has_name new w ≡ (has_name old w || same_name name.now w)
inserted old new name updates w =
    updates.0 (record { ref_ptr = (0, 0); now = w })
    ∙ ap (λ b. cond b true (has_name old w)) (is_eq-slice_cmp name.now w ∙ sym (same_is name.now w))
    ∙ cond_or (same_name name.now w) (has_name old w)

-- the names up to a place, and the one there
pub names_more : (names : List Name) (i : ℕ) (x : Name) (old new : BTreeSet (Bor Spelling)) (key : Bor Spelling) → i < length names → x ≡ get_or names i x → key.now ≡ x.text → Inserts old new key → HasNames (take i names) old → HasNames (take (i + 1) names) new
names_more names i x old new key below is same updates has w =
    inserted old new key updates w
    ∙ ap (λ b. b || same_name key.now w) (has w)
    ∙ ap (λ b. is_one_of (take i names) w || b) (ap (λ k. same_name k w) same ∙ same_swapped x.text w ∙ sym (or_false (same_name w x.text)))
    ∙ sym (list_any-append (λ c. same_name w c.text) (take i names) (x ∷ []))
    ∙ ap (λ l. is_one_of l w) (ap (λ z. take i names ++ z ∷ []) is ∙ sym (take_more names i x below))
