-- Finds that are put together.
use Rattle.std.proofs.Common.{◌≡◌, ℕ, ◌+◌, ◌<◌, ◌≤◌, List, [], ◌∷◌, ◌++◌, length, take, get_or, sym, ap, ◌∙◌, append_assoc, arith}
use Rattle.std.specs.List.{enumerate_from}
use Rattle.std.proofs.lemmas.List.{take_more, take_all, append-nil}
use Rattle.std.proofs.lemmas.List.FromFn.{length-enumerate_from}
use Rattle.dactl_symbols.specs.Finds.{Finds, no_finds, joined, joined_all}
use Rattle.dactl_symbols.proofs.Walks.{numbered-at, numbered-within}

pub joined-none : (a : Finds) → joined a no_finds ≡ a
joined-none a = λ j. record { names = append-nil a.names j; imports = append-nil a.imports j; strong = append-nil a.strong j; initials = append-nil a.initials j; rules = append-nil a.rules j }

pub joined-assoc : (a b c : Finds) → joined (joined a b) c ≡ joined a (joined b c)
joined-assoc a b c = λ j. record {
  names = append_assoc a.names b.names c.names j;
  imports = append_assoc a.imports b.imports c.imports j;
  strong = append_assoc a.strong b.strong c.strong j;
  initials = append_assoc a.initials b.initials c.initials j;
  rules = append_assoc a.rules b.rules c.rules j;
}

joined_all-push : {X : Type 0} (finds : X → Finds) (xs : List X) (x : X) → joined_all finds (xs ++ x ∷ []) ≡ joined (joined_all finds xs) (finds x)
joined_all-push finds [] x = joined-none (finds x)
joined_all-push finds (y ∷ xs) x = ap (joined (finds y)) (joined_all-push finds xs x) ∙ sym (joined-assoc (finds y) (joined_all finds xs) (finds x))

joined-more : {X : Type 0} (finds : X → Finds) (xs : List X) (i : ℕ) (x : X) (start so_far next : Finds) → i < length xs → x ≡ get_or xs i x → so_far ≡ joined start (joined_all finds (take i xs)) → next ≡ joined so_far (finds x) → next ≡ joined start (joined_all finds (take (i + 1) xs))
joined-more finds xs i x start so_far next lt at so is =
    is ∙ ap (λ a. joined a (finds x)) so ∙ joined-assoc start (joined_all finds (take i xs)) (finds x)
    ∙ ap (joined start) (sym (joined_all-push finds (take i xs) x) ∙ ap (λ y. joined_all finds (take i xs ++ y ∷ [])) at ∙ sym (ap (joined_all finds) (take_more xs i x lt)))

-- the step of a loop over items with their numbers
pub joined_numbered-more : {X : Type 0} (finds : ℕ × X → Finds) (xs : List X) (i : ℕ) (x : X) (start so_far next : Finds) → i < length xs → x ≡ get_or xs i x → so_far ≡ joined start (joined_all finds (take i (enumerate_from 0 xs))) → next ≡ joined so_far (finds (i, x)) → next ≡ joined start (joined_all finds (take (i + 1) (enumerate_from 0 xs)))
joined_numbered-more finds xs i x start so_far next lt at so is = joined-more finds (enumerate_from 0 xs) i (i, x) start so_far next (numbered-within xs i lt) (numbered-at xs i x lt at) so is

-- all items with their numbers
pub all_numbered : {X : Type 0} (xs : List X) (n : ℕ) → length xs ≤ n → take n (enumerate_from 0 xs) ≡ enumerate_from 0 xs
all_numbered xs n past = let same : length (enumerate_from 0 xs) ≡ length xs = length-enumerate_from 0 xs in take_all n (enumerate_from 0 xs) (omega arith)
