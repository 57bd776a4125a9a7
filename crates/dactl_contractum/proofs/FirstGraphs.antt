-- What is read of first graphs is what the definitions say.
use Rattle.std.proofs.Common.{◌≡◌, ℕ, ◌+◌, ◌<◌, List, [], ◌∷◌, ◌++◌, map, length, take, get_or, All, Contains, Option, None, refl, sym, ap, ◌∙◌, subst}
use Rattle.std.specs.List.{flat_map}
use Rattle.std.specs.Option.{option_or}
use Rattle.std.proofs.lemmas.List.{append-nil, map-append}
use Rattle.std.proofs.lemmas.List.Elements.{All-append, All-from_recursion}
use Rattle.std.proofs.lemmas.Grind.{flat_map-append}
use Rattle.dactl_base.specs.declared.refusal.Refusal.{Refusal}
use Rattle.dactl_base.specs.declared.refusal.Place.{Place}
use Rattle.dactl_meaning.specs.declared.tree.Item.{Item}
use Rattle.dactl_meaning.specs.declared.tree.Item.TheVariants as item
use Rattle.dactl_meaning.specs.declared.tree.TermTree.{TermTree}
use Rattle.dactl_meaning.specs.Contractum.{Sketch, Drawn, term_draws, terms_draw, made_by, denotes}
use Rattle.dactl_meaning.specs.Declarations.{Placed}
use Rattle.dactl_meaning.specs.Meaning.{PlacedInitial, item_initial, node_number, root_of}
use Rattle.dactl_meaning.specs.RuleFaults.{contractum_faults}
use Rattle.dactl_meaning.specs.Sight.{Seen}
use Rattle.dactl_symbols.specs.Least.{sooner, TellsLeast}
use Rattle.dactl_validity.specs.Counting.{AreCountable}
use Rattle.dactl_contractum.specs.declared.initials.ReadInitials.{ReadInitials}
use Rattle.dactl_contractum.specs.Initials.{first_start, initial_faults, initials_in, root_in, AreMeant, AreRead}
use Rattle.dactl_contractum.proofs.Least.{none_told, both_none, tells_append}
use Rattle.dactl_contractum.proofs.Listings.{items_more}

pub meant_none : (look : ℕ → List ℕ → Option Seen) → AreMeant look [] (record { fault = None; start = None })
meant_none look = record {
  read = record { tells = none_told; counted = All-from_recursion AreCountable [] tt };
  start = λ e. refl;
}

pub read_one : (look : ℕ → List ℕ → Option Seen) (i : PlacedInitial) (o : Option Refusal) → TellsLeast (Contains (contractum_faults (look i.owner) [] [] i.terms)) o → AreCountable i.terms → AreRead look (i ∷ []) o
read_one look i o tells counts = record {
  tells = subst (λ (z : List Refusal). TellsLeast (Contains z) o) (sym (append-nil (contractum_faults (look i.owner) [] [] i.terms))) tells;
  counted = All-from_recursion AreCountable (i.terms ∷ []) (counts, tt);
}

read_then : (look : ℕ → List ℕ → Option Seen) (xs ys : List PlacedInitial) (a b : Option Refusal) → AreRead look xs a → AreRead look ys b → AreRead look (xs ++ ys) (sooner a b)
read_then look xs ys a b p q = record {
  tells = subst (λ (z : List Refusal). TellsLeast (Contains z) (sooner a b)) (sym (flat_map-append (λ (i : PlacedInitial). contractum_faults (look i.owner) [] [] i.terms) xs ys)) (tells_append (initial_faults look xs) (initial_faults look ys) a b p.tells q.tells);
  counted = subst (All AreCountable) (sym (map-append (λ (i : PlacedInitial). i.terms) xs ys)) (All-append AreCountable (map (λ (i : PlacedInitial). i.terms) xs) (map (λ (i : PlacedInitial). i.terms) ys) p.counted q.counted);
}

first_of_two : (look : ℕ → List ℕ → Option Seen) (xs ys : List PlacedInitial) → option_or (first_start look xs) (first_start look ys) ≡ first_start look (xs ++ ys)
first_of_two look [] ys = refl
first_of_two look (x ∷ xs) ys = refl

meant_then : (look : ℕ → List ℕ → Option Seen) (xs ys : List PlacedInitial) (a b : ReadInitials) → AreMeant look xs a → AreMeant look ys b
    → AreMeant look (xs ++ ys) (record { fault = sooner a.fault b.fault; start = option_or a.start b.start })
meant_then look xs ys a b p q = record {
  read = read_then look xs ys a.fault b.fault p.read q.read;
  start = λ e. let none = both_none a.fault b.fault e in (λ j. option_or (p.start none.0 j) (q.start none.1 j)) ∙ first_of_two look xs ys;
}

pub meant_more : {I : Type 0} (look : ℕ → List ℕ → Option Seen) (placed : I → Placed) (items : List I) (i : ℕ) (item : I) (a b : ReadInitials) → i < length items → item ≡ get_or items i item
    → AreMeant look (flat_map initials_in (map placed (take i items))) a → AreMeant look (initials_in (placed item)) b
    → AreMeant look (flat_map initials_in (map placed (take (i + 1) items))) (record { fault = sooner a.fault b.fault; start = option_or a.start b.start })
meant_more look placed items i item a b lt at before here =
    subst (λ (l : List PlacedInitial). AreMeant look l (record { fault = sooner a.fault b.fault; start = option_or a.start b.start })) (sym (items_more initials_in placed items i item lt at))
    (meant_then look (flat_map initials_in (map placed (take i items))) (initials_in (placed item)) a b before here)

pub no_initial : (m : ℕ) (i : Item) → ((place : Place) (terms : List TermTree) → i ≡ item.Initial place terms → ⊥) → item_initial m i ≡ []
no_initial m (item.Imports names) other = refl
no_initial m (item.Symbols class public names) other = refl
no_initial m (item.Named public name pattern) other = refl
no_initial m (item.Rules groups) other = refl
no_initial m (item.Initial place terms) other = absurd (other place terms refl)

pub root_told : (terms : List TermTree) (made : List Sketch) → made ≡ made_by terms → root_in [] made (map (λ (d : Drawn). d.target) (terms_draw 0 terms)) ≡ root_of terms
root_told [] made is = refl
root_told (t ∷ terms) made is = ap (λ (z : List Sketch). node_number (denotes [] z (term_draws t 0).target)) is
