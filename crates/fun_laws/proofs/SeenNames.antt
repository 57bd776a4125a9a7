-- What the module of a translation sees under the name of a symbol: that symbol.
use Rattle.std.proofs.Common.{◌≡◌, ℕ, suc, ◌+◌, Bool, true, false, not, cond, ◌||◌, List, [], ◌∷◌, ◌++◌, map, length, take, find, count_by, codes, Some, None, slice_get, option_and_then, option_map, refl, sym, ◌∙◌, ap, subst, arith, if◌then◌else◌}
use Rattle.std.specs.List.{AllByRecursion, filter, flat_map, filter_map, cons_option, before_first, position_or_len, enumerate_from}
use Rattle.std.proofs.lemmas.List.{append-nil}
use Rattle.std.specs.Str.{bytes_eq}
use Rattle.dactl_model.specs.declared.program.Class.{Class}
use Rattle.dactl_model.specs.declared.program.Class.TheVariants as classes
use Rattle.dactl_model.specs.declared.program.Symbol.{Symbol}
use Rattle.dactl_model.proofs.Counting.{count_by-cons}
use Rattle.dactl_base.specs.declared.refusal.Place.{Place}
use Rattle.dactl_meaning.specs.declared.tree.Group.{Group}
use Rattle.dactl_meaning.specs.declared.tree.TermTree.{TermTree}
use Rattle.dactl_meaning.specs.Expansion.{is_among}
use Rattle.dactl_meaning.specs.declared.tree.Name.{Name}
use Rattle.dactl_meaning.specs.declared.tree.Item.{Item}
use Rattle.dactl_meaning.specs.declared.tree.Item.TheVariants as item
use Rattle.dactl_meaning.specs.declared.tree.Text.{Text}
use Rattle.dactl_meaning.specs.Declarations.{Placed, Arithmetic, Written, same_home, Entity, AsModule, AsSymbol, AsPattern, Declaration, built_in, built_in_names, item_names, own_names, all_names, is_called, meaning, entity_symbol, is_symbol, symbol_names, number_of}
use Rattle.dactl_meaning.specs.Sight.{SeenSymbol, imports_from, entity_seen, sees, entity_class, class_for}
use Rattle.dactl_meaning.specs.ScopeFaults.{is_usable, is_pattern}
use Rattle.fun_meaning.specs.declared.tree.Fun.{Fun}
use Rattle.fun_meaning.specs.Names.{Spelling, same_name, check_name, place_of}
use Rattle.fun_meaning.proofs.Matches.{same_name_is}
use Rattle.fun_compile.specs.Translated.{constructor_items, groups_of, top, translated}
use Rattle.dactl_meaning.specs.Unplaced.{nowhere}
use Rattle.fun_meaning.specs.Values.{word}
use Rattle.fun_meaning.specs.Functions.{functions, arithmetic_name, fun_name, names_of, constructors}
use Rattle.fun_meaning.specs.Sound.{IsApart}
use Rattle.fun_laws.proofs.DrawnStands.{bytes_same}
use Rattle.fun_laws.proofs.PatternsStand.{IsSeen}
use Rattle.fun_laws.proofs.Lists.{get_in_left, get_in_right}
use Rattle.fun_meaning.proofs.After.{get_map}

-- the names of the symbols that are declared
abbrev pub words : List Declaration → List Spelling
words ds = map (λ (s : Symbol). s.name) (filter_map (λ (d : Declaration). entity_symbol d.name.text d.entity) ds)

abbrev counts : List Declaration → ℕ
counts ds = count_by (λ (d : Declaration). is_symbol d.entity) ds

word_symbol : (w : Spelling) (en : Entity) (xs : List Symbol) → is_symbol en ≡ true → map (λ (s : Symbol). s.name) (cons_option (entity_symbol w en) xs) ≡ w ∷ map (λ (s : Symbol). s.name) xs
word_symbol w AsModule xs is = absurd (cc is)
word_symbol w (AsSymbol class public) xs is = refl
word_symbol w (AsPattern public m i) xs is = absurd (cc is)

word_other : (w : Spelling) (en : Entity) (xs : List Symbol) → is_symbol en ≡ false → map (λ (s : Symbol). s.name) (cons_option (entity_symbol w en) xs) ≡ map (λ (s : Symbol). s.name) xs
word_other w AsModule xs is = refl
word_other w (AsSymbol class public) xs is = absurd (cc is)
word_other w (AsPattern public m i) xs is = refl

before_here : (p : Declaration → Bool) (d : Declaration) (ds : List Declaration) → p d ≡ true → before_first p (d ∷ ds) ≡ []
before_here p d ds t = rw t refl

before_later : (p : Declaration → Bool) (d : Declaration) (ds : List Declaration) → p d ≡ false → before_first p (d ∷ ds) ≡ d ∷ before_first p ds
before_later p d ds t =
    let n = position_or_len p ds in
    let one : 1 + n ≡ suc n = omega arith in
    ap (λ (b : Bool). take (cond (not b) (1 + n) 0) (d ∷ ds)) t ∙ ap (λ (k : ℕ). take k (d ∷ ds)) one

-- the declaration is seen, if it is one of a symbol
abbrev pub IsVisible : Text → Declaration → Type 0
IsVisible text d = is_symbol d.entity ≡ true → (class : Class) × ((number : ℕ) → entity_seen (same_home d.home (Written 0)) (imports_from text 0 d.home) number d.entity ≡ Some (SeenSymbol number class))

-- and if it is none, it has another name
abbrev pub IsClear : Text → Spelling → Declaration → Type 0
IsClear text w d = (is_symbol d.entity ≡ false → bytes_eq d.name.text w ≡ false) × IsVisible text d

record IsFound (text : Text) (w : Spelling) (ds : List Declaration) : Type 0 where
  pub declaration : Declaration
  pub is : find (is_called w) ds ≡ Some declaration
  pub symbol : is_symbol declaration.entity ≡ true
  pub class : Class
  pub shows : (number : ℕ) → entity_seen (same_home declaration.home (Written 0)) (imports_from text 0 declaration.home) number declaration.entity ≡ Some (SeenSymbol number class)
  pub count : counts (before_first (is_called w) ds) ≡ place_of (words ds) w

found_here : (text : Text) (w : Spelling) (d : Declaration) (ds : List Declaration) (s : Bool) → is_called w d ≡ true → is_symbol d.entity ≡ s → IsClear text w d → IsFound text w (d ∷ ds)
found_here text w d ds false called symbol clear = absurd (let clash : true ≡ false = sym called ∙ clear.0 symbol in cc)
found_here text w d ds true called symbol clear =
    let visible = clear.1 symbol in
    record {
      declaration = d;
      is = ap (λ b. cond b (Some d) (find (is_called w) ds)) called;
      symbol = symbol;
      class = visible.0;
      shows = visible.1;
      count = ap counts (before_here (is_called w) d ds called)
          ∙ sym (ap (λ names. place_of names w) (word_symbol d.name.text d.entity (filter_map (λ (x : Declaration). entity_symbol x.name.text x.entity) ds) symbol)
          ∙ ap (λ b. if b then 0 else suc (place_of (words ds) w)) (sym (bytes_same d.name.text w) ∙ called));
    }

found_later : (text : Text) (w : Spelling) (d : Declaration) (ds : List Declaration) (s : Bool) → is_called w d ≡ false → is_symbol d.entity ≡ s → (is_among (words ds) w ≡ true → IsFound text w ds) → is_among (words (d ∷ ds)) w ≡ true → IsFound text w (d ∷ ds)
found_later text w d ds true called symbol rest among =
    let shape : words (d ∷ ds) ≡ d.name.text ∷ words ds = word_symbol d.name.text d.entity (filter_map (λ (x : Declaration). entity_symbol x.name.text x.entity) ds) symbol in
    let inner : is_among (words ds) w ≡ true = sym (ap (λ names. is_among names w) shape ∙ ap (λ b. b || is_among (words ds) w) called) ∙ among in
    let found = rest inner in
    let sum : cond true 1 0 + counts (before_first (is_called w) ds) ≡ suc (place_of (words ds) w) = (let same = found.count in omega arith) in
    record {
      declaration = found.declaration;
      is = ap (λ b. cond b (Some d) (find (is_called w) ds)) called ∙ found.is;
      symbol = found.symbol;
      class = found.class;
      shows = found.shows;
      count = ap counts (before_later (is_called w) d ds called) ∙ count_by-cons (λ (x : Declaration). is_symbol x.entity) d (before_first (is_called w) ds)
          ∙ ap (λ b. cond b 1 0 + counts (before_first (is_called w) ds)) symbol ∙ sum
          ∙ sym (ap (λ names. place_of names w) shape ∙ ap (λ b. if b then 0 else suc (place_of (words ds) w)) (sym (bytes_same d.name.text w) ∙ called));
    }
found_later text w d ds false called symbol rest among =
    let shape : words (d ∷ ds) ≡ words ds = word_other d.name.text d.entity (filter_map (λ (x : Declaration). entity_symbol x.name.text x.entity) ds) symbol in
    let found = rest (sym (ap (λ names. is_among names w) shape) ∙ among) in
    let sum : 0 + counts (before_first (is_called w) ds) ≡ place_of (words ds) w = (let same = found.count in omega arith) in
    record {
      declaration = found.declaration;
      is = ap (λ b. cond b (Some d) (find (is_called w) ds)) called ∙ found.is;
      symbol = found.symbol;
      class = found.class;
      shows = found.shows;
      count = ap counts (before_later (is_called w) d ds called) ∙ count_by-cons (λ (x : Declaration). is_symbol x.entity) d (before_first (is_called w) ds)
          ∙ ap (λ b. cond b 1 0 + counts (before_first (is_called w) ds)) symbol ∙ sum ∙ sym (ap (λ names. place_of names w) shape);
    }

found_by : (text : Text) (w : Spelling) (d : Declaration) (ds : List Declaration) (b : Bool) → is_called w d ≡ b → IsClear text w d → (is_among (words ds) w ≡ true → IsFound text w ds) → is_among (words (d ∷ ds)) w ≡ true → IsFound text w (d ∷ ds)
found_by text w d ds true called clear rest among = found_here text w d ds (is_symbol d.entity) called refl clear
found_by text w d ds false called clear rest among = found_later text w d ds (is_symbol d.entity) called refl rest among

found : (text : Text) (w : Spelling) (ds : List Declaration) → AllByRecursion (IsClear text w) ds → is_among (words ds) w ≡ true → IsFound text w ds
found text w [] all among = cc
found text w (d ∷ ds) all among = found_by text w d ds (is_called w d) refl all.0 (found text w ds all.1) among

get_place_by : (y : Spelling) (names : List Spelling) (w : Spelling) (b : Bool) → same_name y w ≡ b → (b || is_among names w) ≡ true → (is_among names w ≡ true → slice_get names (place_of names w) ≡ Some w) → slice_get (y ∷ names) (if b then 0 else suc (place_of names w)) ≡ Some w
get_place_by y names w true same among rest = ap Some (same_name_is y w same)
get_place_by y names w false same among rest = rest among

-- a name stands at its place
pub get_place : (names : List Spelling) (w : Spelling) → is_among names w ≡ true → slice_get names (place_of names w) ≡ Some w
get_place [] w among = cc
get_place (y ∷ names) w among = get_place_by y names w (same_name y w) refl (sym (ap (λ b. b || is_among names w) (bytes_same y w)) ∙ among) (get_place names w)

-- the module sees the symbol of a name that is clear of other names
pub seen_at : (text : Text) (w : Spelling) → AllByRecursion (IsClear text w) (all_names text) → is_among (words (all_names text)) w ≡ true → IsSeen (words (all_names text)) (sees text 0) w
seen_at text w all among =
    let here = found text w (all_names text) all among in
    record {
      number = place_of (words (all_names text)) w;
      class = here.class;
      seen = ap (option_and_then (λ (d : Declaration). entity_seen (same_home d.home (Written 0)) (imports_from text 0 d.home) (number_of text w) d.entity)) here.is
          ∙ here.shows (number_of text w) ∙ ap (λ k. Some (SeenSymbol k here.class)) here.count;
      named = get_place (words (all_names text)) w among;
    }

-- ---- the declarations of a translation

abbrev rewritable : Spelling → Declaration
rewritable w = record { name = word w; home = Written 0; entity = AsSymbol classes.Rewritable None }

abbrev creatable : Spelling → Declaration
creatable w = record { name = word w; home = Written 0; entity = AsSymbol classes.Creatable None }

abbrev own_by : List Spelling → List Name → List Item → List Declaration
own_by heads names more =
    flat_map (λ (i : Placed). item_names i.owner i.number i.item) (map (λ (i : ℕ × Item). record { owner = 0; number = i.0; item = i.1 })
    (enumerate_from 0 (item.Imports (word arithmetic_name ∷ []) ∷ item.Symbols classes.Rewritable None (map word heads) ∷ (constructor_items names ++ more))))

abbrev declared : Class → Name → Declaration
declared class n = record { name = n; home = Written 0; entity = AsSymbol class (option_map (λ (c : Class × Place). c.0) None) }

declared_words : (class : Class) (xs : List Spelling) → map (declared class) (map word xs) ≡ map (λ (w : Spelling). declared class (word w)) xs
declared_words class [] = refl
declared_words class (x ∷ xs) = ap (λ (ds : List Declaration). declared class (word x) ∷ ds) (declared_words class xs)

declared_names : (class : Class) (xs : List Name) → map (declared class) (map (λ (c : Name). word c.text) xs) ≡ map (λ (w : Spelling). declared class (word w)) (map (λ (c : Name). c.text) xs)
declared_names class [] = refl
declared_names class (x ∷ xs) = ap (λ (ds : List Declaration). declared class (word x.text) ∷ ds) (declared_names class xs)

-- what the module declares beside its own name
own_is : (heads : List Spelling) (names : List Name) (groups : List Group) (terms : List TermTree) → own_by heads names (item.Rules groups ∷ item.Initial nowhere terms ∷ []) ≡ map rewritable heads ++ (map creatable (map (λ (c : Name). c.text) names) ++ [])
own_is heads [] groups terms = ap (λ (ds : List Declaration). ds ++ []) (declared_words classes.Rewritable heads)
own_is heads (g ∷ names) groups terms =
    ap (λ (ds : List Declaration). ds ++ (map (declared classes.Creatable) (map (λ (c : Name). word c.text) (g ∷ names)) ++ [])) (declared_words classes.Rewritable heads)
    ∙ ap (λ (ds : List Declaration). map rewritable heads ++ (ds ++ [])) (declared_names classes.Creatable (g ∷ names))

declared_are : (e : Fun) → all_names (translated e) ≡ built_in_names ++ record { name = word fun_name; home = Written 0; entity = AsModule } ∷ (map rewritable (functions e ++ check_name ∷ []) ++ (map creatable (constructors e) ++ []))
declared_are e =
    ap (λ (ds : List Declaration). built_in_names ++ record { name = word fun_name; home = Written 0; entity = AsModule } ∷ (ds ++ [])) (own_is (functions e ++ check_name ∷ []) e.constructors (groups_of e) (top e e.main ∷ []))
    ∙ ap (λ (ds : List Declaration). built_in_names ++ record { name = word fun_name; home = Written 0; entity = AsModule } ∷ ds) (append-nil (map rewritable (functions e ++ check_name ∷ []) ++ (map creatable (constructors e) ++ [])))

imports_arithmetic : (e : Fun) → imports_from (translated e) 0 Arithmetic ≡ true
imports_arithmetic e = refl

rewritable_words : (xs : List Spelling) (rest : List Declaration) → words (map rewritable xs ++ rest) ≡ xs ++ words rest
rewritable_words [] rest = refl
rewritable_words (x ∷ xs) rest = ap (λ names. x ∷ names) (rewritable_words xs rest)

creatable_words : (xs : List Spelling) → words (map creatable xs ++ []) ≡ xs
creatable_words [] = refl
creatable_words (x ∷ xs) = ap (λ names. x ∷ names) (creatable_words xs)

pub words_are : (e : Fun) → words (all_names (translated e)) ≡ names_of e
words_are e =
    ap words (declared_are e)
    ∙ ap (λ names. words built_in_names ++ names) (rewritable_words (functions e ++ check_name ∷ []) (map creatable (constructors e) ++ []) ∙ ap (λ names. (functions e ++ check_name ∷ []) ++ names) (creatable_words (constructors e)))

rewritable_clear : (text : Text) (w : Spelling) (xs : List Spelling) (rest : List Declaration) → AllByRecursion (IsClear text w) rest → AllByRecursion (IsClear text w) (map rewritable xs ++ rest)
rewritable_clear text w [] rest all = all
rewritable_clear text w (x ∷ xs) rest all = ((λ other. absurd (cc other), λ symbol. (classes.Rewritable, λ number. refl)), rewritable_clear text w xs rest all)

creatable_clear : (text : Text) (w : Spelling) (xs : List Spelling) → AllByRecursion (IsClear text w) (map creatable xs ++ [])
creatable_clear text w [] = tt
creatable_clear text w (x ∷ xs) = ((λ other. absurd (cc other), λ symbol. (classes.Creatable, λ number. refl)), creatable_clear text w xs)

built_visible : (e : Fun) (word : List ℕ) (class : Class) (number : ℕ) → entity_seen false (imports_from (translated e) 0 Arithmetic) number (AsSymbol class (Some classes.Creatable)) ≡ Some (SeenSymbol number classes.Creatable)
built_visible e word class number = ap (λ b. entity_seen false b number (AsSymbol class (Some classes.Creatable))) (imports_arithmetic e)

built_clear : (e : Fun) (w : Spelling) (name : List ℕ) (class : Class) → IsClear (translated e) w (built_in name (AsSymbol class (Some classes.Creatable)))
built_clear e w name class = (λ other. absurd (cc other), λ symbol. (classes.Creatable, λ number. built_visible e name class number))

all_clear : (e : Fun) (w : Spelling) → IsApart w → AllByRecursion (IsClear (translated e) w) (all_names (translated e))
all_clear e w apart =
    let rest : AllByRecursion (IsClear (translated e) w) (map rewritable (functions e ++ check_name ∷ []) ++ (map creatable (constructors e) ++ [])) =
    rewritable_clear (translated e) w (functions e ++ check_name ∷ []) (map creatable (constructors e) ++ []) (creatable_clear (translated e) w (constructors e)) in
    subst (AllByRecursion (IsClear (translated e) w)) (sym (declared_are e)) (
      (λ other. bytes_same arithmetic_name w ∙ apart.0, λ symbol. absurd (cc symbol)),
      (
        built_clear e w (codes "IAdd") classes.Rewritable,
        (
          built_clear e w (codes "ISub") classes.Rewritable,
          (
            built_clear e w (codes "IMul") classes.Rewritable,
            (
              built_clear e w (codes "IEq") classes.Rewritable,
              (
                built_clear e w (codes "ILt") classes.Rewritable,
                (
                  built_clear e w (codes "True") classes.Creatable,
                  (
                    built_clear e w (codes "False") classes.Creatable,
                    ((λ other. bytes_same fun_name w ∙ apart.1, λ symbol. absurd (cc symbol)), rest),
                  ),
                ),
              ),
            ),
          ),
        ),
      ),
    )

-- the module sees the symbol of each of these names, and its number is its place
pub seen_name : (e : Fun) (w : Spelling) → IsApart w → is_among (names_of e) w ≡ true → IsSeen (names_of e) (sees (translated e) 0) w
unfolding seen_at
seen_name e w apart among =
    let here = seen_at (translated e) w (all_clear e w apart) (ap (λ names. is_among names w) (words_are e) ∙ among) in
    record {
      number = place_of (names_of e) w;
      class = here.class;
      seen = here.seen ∙ ap (λ names. Some (SeenSymbol (place_of names w) here.class)) (words_are e);
      named = get_place (names_of e) w among;
    }

pub seen_number : (e : Fun) (w : Spelling) (apart : IsApart w) (among : is_among (names_of e) w ≡ true) → (seen_name e w apart among).number ≡ place_of (names_of e) w
unfolding seen_name
seen_number e w apart among = refl

-- ---- classes

rewritable_symbols : (xs : List Spelling) (rest : List Declaration) → filter (λ (d : Declaration). is_symbol d.entity) (map rewritable xs ++ rest) ≡ map rewritable xs ++ filter (λ (d : Declaration). is_symbol d.entity) rest
rewritable_symbols [] rest = refl
rewritable_symbols (x ∷ xs) rest = ap (λ (ds : List Declaration). rewritable x ∷ ds) (rewritable_symbols xs rest)

-- the declarations of the symbols before the text's own
abbrev built_symbols : List Declaration
built_symbols = filter (λ (d : Declaration). is_symbol d.entity) built_in_names

symbols_are : (e : Fun) → symbol_names (translated e) ≡ built_symbols ++ (map rewritable (functions e ++ check_name ∷ []) ++ filter (λ (d : Declaration). is_symbol d.entity) (map creatable (constructors e) ++ []))
symbols_are e =
    ap (filter (λ (d : Declaration). is_symbol d.entity)) (declared_are e)
    ∙ ap (λ (ds : List Declaration). built_symbols ++ ds) (rewritable_symbols (functions e ++ check_name ∷ []) (map creatable (constructors e) ++ []))

-- the functions and Chk are rewritable
pub class_of : (e : Fun) (j : ℕ) (w : Spelling) → slice_get (functions e ++ check_name ∷ []) j ≡ Some w → class_for (translated e) 0 (7 + j) ≡ Some classes.Rewritable
class_of e j w at =
    let rest = filter (λ (d : Declaration). is_symbol d.entity) (map creatable (constructors e) ++ []) in
    let there : slice_get (symbol_names (translated e)) (7 + j) ≡ Some (rewritable w) =
    ap (λ (ds : List Declaration). slice_get ds (7 + j)) (symbols_are e) ∙ get_in_right built_symbols (map rewritable (functions e ++ check_name ∷ []) ++ rest) j
    ∙ get_in_left (map rewritable (functions e ++ check_name ∷ [])) rest j (rewritable w) (get_map rewritable (functions e ++ check_name ∷ []) j w at) in
    ap (option_and_then (λ (d : Declaration). entity_class (same_home d.home (Written 0)) (imports_from (translated e) 0 d.home) d.entity)) there

-- ---- what a name means

abbrev usable_entity : Entity → Bool
usable_entity en = elim en [ AsModule ↦ false | AsSymbol class public ↦ true | AsPattern public m i ↦ true ]

abbrev pattern_entity : Entity → Bool
pattern_entity en = elim en [ AsModule ↦ false | AsSymbol class public ↦ false | AsPattern public m i ↦ true ]

symbol_usable : (d : Declaration) (en : Entity) → d.entity ≡ en → is_symbol en ≡ true → (is_usable (Some d) ≡ true) × (is_pattern (Some d) ≡ false)
symbol_usable d AsModule same is = absurd (cc is)
symbol_usable d (AsSymbol class public) same is = (ap usable_entity same, ap pattern_entity same)
symbol_usable d (AsPattern public m i) same is = absurd (cc is)

-- each of these names means a symbol
pub usable_name : (e : Fun) (w : Spelling) → IsApart w → is_among (names_of e) w ≡ true → (is_usable (meaning (translated e) w) ≡ true) × (is_pattern (meaning (translated e) w) ≡ false)
usable_name e w apart among =
    let here = found (translated e) w (all_names (translated e)) (all_clear e w apart) (ap (λ names. is_among names w) (words_are e) ∙ among) in
    let usable = symbol_usable here.declaration here.declaration.entity refl here.symbol in
    (ap is_usable here.is ∙ usable.0, ap is_pattern here.is ∙ usable.1)

creatable_texts : (xs : List Spelling) → map (λ (d : Declaration). d.name.text) (map creatable xs ++ []) ≡ xs
creatable_texts [] = refl
creatable_texts (x ∷ xs) = ap (λ (ns : List Spelling). x ∷ ns) (creatable_texts xs)

own_texts : (heads names : List Spelling) → map (λ (d : Declaration). d.name.text) (map rewritable heads ++ (map creatable names ++ [])) ≡ heads ++ names
own_texts [] names = creatable_texts names
own_texts (x ∷ heads) names = ap (λ (ns : List Spelling). x ∷ ns) (own_texts heads names)

-- the names of all declarations, in order
pub texts_are : (e : Fun) → map (λ (d : Declaration). d.name.text) (all_names (translated e)) ≡ map (λ (d : Declaration). d.name.text) built_in_names ++ fun_name ∷ ((functions e ++ check_name ∷ []) ++ constructors e)
texts_are e =
    ap (map (λ (d : Declaration). d.name.text)) (declared_are e)
    ∙ ap (λ (ns : List Spelling). map (λ (d : Declaration). d.name.text) built_in_names ++ fun_name ∷ ns) (own_texts (functions e ++ check_name ∷ []) (constructors e))

creatable_long : (xs : List Spelling) → length (map creatable xs ++ []) ≡ length xs
creatable_long [] = refl
creatable_long (x ∷ xs) = ap suc (creatable_long xs)

declared_long : (heads names : List Spelling) → length (map rewritable heads ++ (map creatable names ++ [])) ≡ length heads + length names
declared_long [] names = let sum : length names ≡ 0 + length names = omega arith in creatable_long names ∙ sum
declared_long (x ∷ heads) names = let sum : suc (length heads + length names) ≡ suc (length heads) + length names = omega arith in ap suc (declared_long heads names) ∙ sum

pub own_long : (e : Fun) → length (own_names (translated e)) ≡ 1 + (length (functions e ++ check_name ∷ []) + length (constructors e))
own_long e =
    let sum : suc (length (functions e ++ check_name ∷ []) + length (constructors e)) ≡ 1 + (length (functions e ++ check_name ∷ []) + length (constructors e)) = omega arith in
    ap (λ (ds : List Declaration). suc (length (ds ++ []))) (own_is (functions e ++ check_name ∷ []) e.constructors (groups_of e) (top e e.main ∷ []))
    ∙ ap (λ (ds : List Declaration). suc (length ds)) (append-nil (map rewritable (functions e ++ check_name ∷ []) ++ (map creatable (constructors e) ++ [])))
    ∙ ap suc (declared_long (functions e ++ check_name ∷ []) (constructors e)) ∙ sum

creatable_symbol_texts : (xs : List Spelling) → map (λ (d : Declaration). d.name.text) (filter (λ (d : Declaration). is_symbol d.entity) (map creatable xs ++ [])) ≡ xs
creatable_symbol_texts [] = refl
creatable_symbol_texts (x ∷ xs) = ap (λ (ns : List Spelling). x ∷ ns) (creatable_symbol_texts xs)

own_symbol_texts : (heads names : List Spelling)
    → map (λ (d : Declaration). d.name.text) (map rewritable heads ++ filter (λ (d : Declaration). is_symbol d.entity) (map creatable names ++ [])) ≡ heads ++ names
own_symbol_texts [] names = creatable_symbol_texts names
own_symbol_texts (x ∷ heads) names = ap (λ (ns : List Spelling). x ∷ ns) (own_symbol_texts heads names)

-- the names of the declared symbols
pub symbol_texts : (e : Fun) → map (λ (d : Declaration). d.name.text) (symbol_names (translated e)) ≡ names_of e
symbol_texts e =
    ap (map (λ (d : Declaration). d.name.text)) (symbols_are e)
    ∙ ap (λ (ns : List Spelling). map (λ (d : Declaration). d.name.text) built_symbols ++ ns) (own_symbol_texts (functions e ++ check_name ∷ []) (constructors e))
