-- The imports that count, one import after the other.
use Rattle.std.proofs.Common.{◌≡◌, ℕ, Bool, true, false, cond, ◌&&◌, ◌||◌, List, [], ◌∷◌, ◌++◌, map, Option, Some, None, refl, sym, ap, ◌∙◌, eqb, arith}
use Rattle.std.specs.Prelude.{◌==◌, option_map}
use Rattle.std.specs.BTreeMap.{is_at}
use Rattle.std.specs.BTreeSet.{BTreeSet, Updates}
use Rattle.std.specs.declared.cmp.Ordering.{Ordering}
use Rattle.std.specs.List.{list_any}
use Rattle.std.proofs.lemmas.List.Folds.{list_any-append}
use Rattle.std.proofs.lemmas.Bool.Decides.{nat_tests}
use Rattle.dactl_meaning.specs.Declarations.{Home, Arithmetic, Written, same_home, Declaration}
use Rattle.dactl_meaning.specs.Sight.{Import, is_given}
use Rattle.dactl_symbols.specs.Declaring.{home_of}
use Rattle.dactl_symbols.specs.declared.sight.Link as code
use Rattle.dactl_symbols.specs.declared.survey.Home as homes
use Rattle.dactl_symbols.specs.declared.survey.Home.TheVariants as home
use Rattle.dactl_symbols.specs.contracts.sight.LinkPartialEq.TheImpl as link_impl
use Rattle.dactl_symbols.specs.contracts.sight.LinkOrd.TheImpl as link_order
use Rattle.dactl_symbols.specs.contracts.sight.LinkOrd.TheImpl.Laws as link_laws
use Rattle.dactl_symbols.specs.contracts.survey.HomePartialEq.TheImpl as home_impl
use Rattle.dactl_symbols.specs.Sights.{Link, link_of, has_link, imported_in, AddsLink, AreLinks}
use Rattle.dactl_symbols.proofs.Imported.{list_any-same}

-- the one links what the other does
abbrev pub same_link : code.Link → code.Link → Bool
same_link q k = (k.owner == q.owner) && same_home (home_of k.home) (home_of q.home)

and-false : (a : Bool) → (a && false) ≡ false
and-false true = refl
and-false false = refl

or-false : (a : Bool) → (a || false) ≡ a
or-false true = refl
or-false false = refl

-- `true` where the one is, and otherwise the other
cond-or : (a b : Bool) → cond a true b ≡ (b || a)
cond-or true true = refl
cond-or true false = refl
cond-or false b = sym (or-false b)

list_any-map : {X Y : Type 0} (p : Y → Bool) (f : X → Y) (xs : List X) → list_any p (map f xs) ≡ list_any (λ x. p (f x)) xs
list_any-map p f [] = refl
list_any-map p f (x ∷ xs) = ap (λ b. p (f x) || b) (list_any-map p f xs)

eqb-sym : (m n : ℕ) → eqb m n ≡ eqb n m
eqb-sym m n = grind (arith, nat_tests)

same_home-sym : (a b : Home) → same_home a b ≡ same_home b a
same_home-sym Arithmetic Arithmetic = refl
same_home-sym Arithmetic (Written n) = refl
same_home-sym (Written m) Arithmetic = refl
same_home-sym (Written m) (Written n) = eqb-sym m n

module _ (cmp : code.Link → code.Link → Ordering) (law : (q k : code.Link) → is_at (cmp q) k ≡ same_link q k) where
  -- a look-up among the keys
  pub contains-link : (keys : List code.Link) (q : code.Link) → list_any (is_at (cmp q)) keys ≡ has_link (map link_of keys) q.owner (home_of q.home)
  contains-link keys q = list_any-same (is_at (cmp q)) (same_link q) (law q) keys ∙ sym (list_any-map (λ l. (l.owner == q.owner) && same_home l.home (home_of q.home)) link_of keys)

  module _ (old new : BTreeSet code.Link) (k : code.Link) (updates : Updates cmp old new k true) where
    abbrev Gains : ℕ → Home → Type 0
    Gains m home = has_link (map link_of new.keys) m home ≡ (has_link (map link_of old.keys) m home || ((k.owner == m) && same_home (home_of k.home) home))

    gains-at : (q : code.Link) → Gains q.owner (home_of q.home)
    gains-at q =
        sym (contains-link new.keys q) ∙ updates.0 q
        ∙ (λ j. cond (law k q j) true (contains-link old.keys q j))
        ∙ (λ j. cond (eqb-sym q.owner k.owner j && same_home-sym (home_of q.home) (home_of k.home) j) true (has_link (map link_of old.keys) q.owner (home_of q.home)))
        ∙ cond-or ((k.owner == q.owner) && same_home (home_of k.home) (home_of q.home)) (has_link (map link_of old.keys) q.owner (home_of q.home))

    -- the links after one is put in
    pub has_link-insert : (m : ℕ) (home : Home) → Gains m home
    has_link-insert m Arithmetic = gains-at (record { owner = m; home = home.Arithmetic })
    has_link-insert m (Written n) = gains-at (record { owner = m; home = home.Written n })

-- an import more
pub links-more : (ds : List Declaration) (is : List Import) (i : Import) (old new : List Link) → AreLinks ds is old → AddsLink old new i.owner (imported_in ds i) → AreLinks ds (is ++ i ∷ []) new
links-more ds is i old new are adds = λ m home.
    adds m home
    ∙ ap (λ b. b || ((i.owner == m) && is_given (imported_in ds i) home)) (are m home)
    ∙ sym (list_any-append (λ x. (x.owner == m) && is_given (imported_in ds x) home) is (i ∷ []) ∙ ap (λ b. list_any (λ x. (x.owner == m) && is_given (imported_in ds x) home) is || b) (or-false ((i.owner == m) && is_given (imported_in ds i) home)))

-- no link is put in
pub adds-nothing : (links : List Link) (owner : ℕ) → AddsLink links links owner None
adds-nothing links owner = λ m home. sym (ap (λ b. has_link links m home || b) (and-false (owner == m)) ∙ or-false (has_link links m home))

-- ---- the order of links, as the code has it

home_eq : (a b : homes.Home) → (home_impl.eq-value).it a b ≡ same_home (home_of b) (home_of a)
home_eq home.Arithmetic home.Arithmetic = refl
home_eq home.Arithmetic (home.Written n) = refl
home_eq (home.Written m) home.Arithmetic = refl
home_eq (home.Written m) (home.Written n) = eqb-sym m n

link_eq : (q k : code.Link) → (link_impl.eq-value).it q k ≡ same_link q k
link_eq q k = λ j. eqb-sym q.owner k.owner j && home_eq q.home k.home j

pub link_cmp : (q k : code.Link) → is_at ((link_order.cmp-value).it q) k ≡ same_link q k
link_cmp q k = sym (link_laws.matches_eq-law q k) ∙ link_eq q k

-- a link is put in
pub adds-one : (old new : BTreeSet code.Link) (owner : ℕ) (given : Option homes.Home) (h : homes.Home) → given ≡ Some h → Updates (link_order.cmp-value).it old new (record { owner = owner; home = h }) true → AddsLink (map link_of old.keys) (map link_of new.keys) owner (option_map home_of given)
adds-one old new owner given h some updates = λ m home.
    has_link-insert (link_order.cmp-value).it link_cmp old new (record { owner = owner; home = h }) updates m home
    ∙ ap (λ o. has_link (map link_of old.keys) m home || ((owner == m) && is_given (option_map home_of o) home)) (sym some)
