-- What a survey finds is what the definitions of a text's names list.
use Rattle.std.proofs.Common.{◌≡◌, ℕ, List, [], ◌∷◌, ◌++◌, map, refl, sym, ap, ◌∙◌}
use Rattle.std.specs.List.{flat_map, enumerate_from}
use Rattle.std.proofs.lemmas.List.{map-append}
use Rattle.std.proofs.lemmas.List.Concat.{flat_map-append}
use Rattle.std.proofs.lemmas.List.Folds.{flat_map-map}
use Rattle.dactl_meaning.specs.declared.tree.Group.{Group}
use Rattle.dactl_meaning.specs.declared.tree.Item.{Item}
use Rattle.dactl_meaning.specs.declared.tree.Item.TheVariants as item
use Rattle.dactl_meaning.specs.declared.tree.Module.{Module}
use Rattle.dactl_meaning.specs.declared.tree.Text.{Text}
use Rattle.dactl_meaning.specs.Declarations.{Placed, PlacedRule, items_of, items, item_groups, groups, rules, item_names, module_names, all_names, built_in_names}
use Rattle.dactl_meaning.specs.Sight.{item_imports, imports}
use Rattle.dactl_meaning.specs.ScopeFaults.{item_initials, initials}
use Rattle.dactl_symbols.specs.Finds.{Finds, joined_all, item_finds, name_finds, module_finds, text_finds, item_rules, item_strong}

-- ---- a part of finds is joined as a list

pub names-all : {X : Type 0} (finds : X → Finds) (xs : List X) → (joined_all finds xs).names ≡ flat_map (λ x. (finds x).names) xs
names-all finds [] = refl
names-all finds (x ∷ xs) = ap (λ l. (finds x).names ++ l) (names-all finds xs)

pub imports-all : {X : Type 0} (finds : X → Finds) (xs : List X) → (joined_all finds xs).imports ≡ flat_map (λ x. (finds x).imports) xs
imports-all finds [] = refl
imports-all finds (x ∷ xs) = ap (λ l. (finds x).imports ++ l) (imports-all finds xs)

pub strong-all : {X : Type 0} (finds : X → Finds) (xs : List X) → (joined_all finds xs).strong ≡ flat_map (λ x. (finds x).strong) xs
strong-all finds [] = refl
strong-all finds (x ∷ xs) = ap (λ l. (finds x).strong ++ l) (strong-all finds xs)

pub initials-all : {X : Type 0} (finds : X → Finds) (xs : List X) → (joined_all finds xs).initials ≡ flat_map (λ x. (finds x).initials) xs
initials-all finds [] = refl
initials-all finds (x ∷ xs) = ap (λ l. (finds x).initials ++ l) (initials-all finds xs)

pub rules-all : {X : Type 0} (finds : X → Finds) (xs : List X) → (joined_all finds xs).rules ≡ flat_map (λ x. (finds x).rules) xs
rules-all finds [] = refl
rules-all finds (x ∷ xs) = ap (λ l. (finds x).rules ++ l) (rules-all finds xs)

-- ---- parts of items, by modules

pub flat_map-same : {X Y : Type 0} (f g : X → List Y) → ((x : X) → f x ≡ g x) → (xs : List X) → flat_map f xs ≡ flat_map g xs
flat_map-same f g same [] = refl
flat_map-same f g same (x ∷ xs) = λ j. same x j ++ flat_map-same f g same xs j

pub flat_map-flat_map : {X Y Z : Type 0} (f : Y → List Z) (g : X → List Y) (xs : List X) → flat_map f (flat_map g xs) ≡ flat_map (λ x. flat_map f (g x)) xs
flat_map-flat_map f g [] = refl
flat_map-flat_map f g (x ∷ xs) = flat_map-append f (g x) (flat_map g xs) ∙ ap (λ l. flat_map f (g x) ++ l) (flat_map-flat_map f g xs)

-- the item of a number in a module
abbrev place_item : ℕ → ℕ × Item → Placed
place_item m i = record { owner = m; number = i.0; item = i.1 }

pub of_items : {Y : Type 0} (f : Placed → List Y) (text : Text) → flat_map f (items text) ≡ flat_map (λ (m : ℕ × Module). flat_map (λ (i : ℕ × Item). f (place_item m.0 i)) (enumerate_from 0 m.1.items)) (enumerate_from 0 text.modules)
of_items f text =
    flat_map-flat_map f items_of (enumerate_from 0 text.modules)
    ∙ flat_map-same (λ (m : ℕ × Module). flat_map f (items_of m)) (λ (m : ℕ × Module). flat_map (λ (i : ℕ × Item). f (place_item m.0 i)) (enumerate_from 0 m.1.items)) (λ m. flat_map-map f (place_item m.0) (enumerate_from 0 m.1.items)) (enumerate_from 0 text.modules)

abbrev numbered : Text → List (ℕ × Module)
numbered text = enumerate_from 0 text.modules

-- ---- the five lists

module_own : (m : ℕ × Module) → (module_finds m).names ≡ module_names m
module_own m =
    ap (λ l. (name_finds m).names ++ l) (names-all (item_finds m.0) (enumerate_from 0 m.1.items) ∙ sym (flat_map-map (λ (i : Placed). item_names i.owner i.number i.item) (place_item m.0) (enumerate_from 0 m.1.items)))

pub names-found : (text : Text) → (text_finds text).names ≡ all_names text
names-found text =
    ap (λ l. (built_in_names ++ l)) (names-all module_finds (numbered text) ∙ flat_map-same (λ m. (module_finds m).names) module_names module_own (numbered text))

pub imports-found : (text : Text) → (text_finds text).imports ≡ imports text
imports-found text =
    imports-all module_finds (numbered text)
    ∙ flat_map-same (λ m. (module_finds m).imports) (λ m. flat_map (λ (i : ℕ × Item). item_imports m.0 i.1) (enumerate_from 0 m.1.items)) (λ m. imports-all (item_finds m.0) (enumerate_from 0 m.1.items)) (numbered text)
    ∙ sym (of_items (λ i. item_imports i.owner i.item) text)

pub strong-found : (text : Text) → (text_finds text).strong ≡ flat_map (λ i. item_strong i.item) (items text)
strong-found text =
    strong-all module_finds (numbered text)
    ∙ flat_map-same (λ m. (module_finds m).strong) (λ m. flat_map (λ (i : ℕ × Item). item_strong i.1) (enumerate_from 0 m.1.items)) (λ m. strong-all (item_finds m.0) (enumerate_from 0 m.1.items)) (numbered text)
    ∙ sym (of_items (λ i. item_strong i.item) text)

pub initials-found : (text : Text) → (text_finds text).initials ≡ initials text
initials-found text =
    initials-all module_finds (numbered text)
    ∙ flat_map-same (λ m. (module_finds m).initials) (λ m. flat_map (λ (i : ℕ × Item). item_initials i.1) (enumerate_from 0 m.1.items)) (λ m. initials-all (item_finds m.0) (enumerate_from 0 m.1.items)) (numbered text)
    ∙ sym (of_items (λ i. item_initials i.item) text)

-- ---- rules

map-flat_map : {X Y Z : Type 0} (f : Y → Z) (g : X → List Y) (xs : List X) → map f (flat_map g xs) ≡ flat_map (λ x. map f (g x)) xs
map-flat_map f g [] = refl
map-flat_map f g (x ∷ xs) = map-append f (g x) (flat_map g xs) ∙ ap (λ l. map f (g x) ++ l) (map-flat_map f g xs)

map-map : {X Y Z : Type 0} (f : Y → Z) (g : X → Y) (xs : List X) → map f (map g xs) ≡ map (λ x. f (g x)) xs
map-map f g [] = refl
map-map f g (x ∷ xs) = ap (λ l. f (g x) ∷ l) (map-map f g xs)

abbrev pub place_of : PlacedRule → ℕ
place_of r = r.rule.place.byte

item_rules-placed : (m : ℕ) (i : Item) → flat_map (λ g. map (λ r. r.place.byte) g.group.rules) (item_groups m i) ≡ item_rules i
item_rules-placed m (item.Imports names) = refl
item_rules-placed m (item.Symbols class public names) = refl
item_rules-placed m (item.Named public name pattern) = refl
item_rules-placed m (item.Rules written) = flat_map-map (λ g. map (λ r. r.place.byte) g.group.rules) (λ (g : Group). record { owner = m; group = g }) written
item_rules-placed m (item.Initial place terms) = refl

pub rules-found : (text : Text) → (text_finds text).rules ≡ map place_of (rules text)
rules-found text =
    rules-all module_finds (numbered text)
    ∙ flat_map-same (λ m. (module_finds m).rules) (λ m. flat_map (λ (i : ℕ × Item). item_rules i.1) (enumerate_from 0 m.1.items)) (λ m. rules-all (item_finds m.0) (enumerate_from 0 m.1.items)) (numbered text)
    ∙ sym (of_items (λ i. item_rules i.item) text)
    ∙ sym (
    map-flat_map place_of (λ g. map (λ r. record { owner = g.owner; rule = r }) g.group.rules) (groups text)
    ∙ flat_map-same (λ g. map place_of (map (λ r. record { owner = g.owner; rule = r }) g.group.rules)) (λ g. map (λ r. r.place.byte) g.group.rules) (λ g. map-map place_of (λ r. record { owner = g.owner; rule = r }) g.group.rules) (groups text)
    ∙ flat_map-flat_map (λ g. map (λ r. r.place.byte) g.group.rules) (λ i. item_groups i.owner i.item) (items text)
    ∙ flat_map-same (λ i. flat_map (λ g. map (λ r. r.place.byte) g.group.rules) (item_groups i.owner i.item)) (λ i. item_rules i.item) (λ i. item_rules-placed i.owner i.item) (items text)
    )
