-- Scopes that hold a text's names and its imports that count answer what its modules see.
use Rattle.std.proofs.Common.{◌≡◌, ℕ, zero, suc, ◌^◌, ◌<◌, ◌≤◌, Bool, false, cond, ◌&&◌, List, [], ◌∷◌, min, filter, Option, Some, None, length, is_some, true≢false, refl, sym, ap, ◌∙◌, arith}
use Rattle.std.specs.Prelude.{option_map, option_and_then, slice_get, ◌==◌}
use Rattle.std.specs.List.{before_first, position_or_len, filter_map, cons_option}
use Rattle.std.proofs.lemmas.List.{length-take}
use Rattle.std.proofs.lemmas.List.Sums.{count_by-le-length}
use Rattle.dactl_model.specs.declared.program.Class.{Class}
use Rattle.dactl_meaning.specs.declared.tree.Text.{Text}
use Rattle.dactl_meaning.specs.Declarations.{Home, Written, same_home, Entity, AsModule, AsSymbol, AsPattern, Declaration, is_called, is_symbol, all_names, meaning, number_of, symbol_names, symbols, entity_symbol}
use Rattle.dactl_meaning.specs.Sight as sight
use Rattle.dactl_meaning.specs.Sight.{Import, imports, imported, is_given, imports_from, entity_seen, entity_class, class_seen, sees, class_for}
use Rattle.dactl_symbols.specs.Meanings.{First, meaning_in, symbol_count}
use Rattle.dactl_symbols.specs.Sights.{Sights, Standing, entity_standing, owned_in, imported_in, has_link, AreLinks}
use Rattle.dactl_symbols.specs.Scoping.{seen_in, class_in, symbols_in, IsScopesOf}
use Rattle.dactl_symbols.proofs.Imported.{then-map, imported-all, list_any-same}
use Rattle.dactl_symbols.proofs.Used.{Sees}

-- the links of the text's imports
links-from : (text : Text) (s : Sights) → AreLinks (all_names text) (imports text) s.links → (m : ℕ) (home : Home) → has_link s.links m home ≡ imports_from text m home
links-from text s links m home =
    links m home ∙ list_any-same (λ (i : Import). (i.owner == m) && is_given (imported_in (all_names text) i) home) (λ (i : Import). (i.owner == m) && is_given (imported text i) home) (λ i. ap (λ o. (i.owner == m) && is_given o home) (imported-all text i)) (imports text)

-- ---- numbers

number-same : (text : Text) (word : List ℕ) → length (all_names text) < 2 ^ 32 → symbol_count (before_first (is_called word) (all_names text)) ≡ number_of text word
number-same text word few =
    let short : length (before_first (is_called word) (all_names text)) ≡ min (position_or_len (is_called word) (all_names text)) (length (all_names text)) = length-take (position_or_len (is_called word) (all_names text)) (all_names text) in
    let below : number_of text word ≤ length (before_first (is_called word) (all_names text)) = count_by-le-length (λ d. is_symbol d.entity) (before_first (is_called word) (all_names text)) in
    omega arith

-- ---- what modules see

abbrev seen_with : Text → ℕ → (Declaration → ℕ) → Declaration → Option sight.Seen
seen_with text m number d = entity_seen (same_home d.home (Written m)) (imports_from text m d.home) (number d) d.entity

seen-text : (text : Text) (s : Sights) → s.names ≡ all_names text → AreLinks (all_names text) (imports text) s.links → (m : ℕ) (word : List ℕ)
    → seen_in s m word ≡ option_and_then (seen_with text m (λ d. symbol_count (before_first (is_called word) (all_names text)))) (meaning text word)
unfolding seen_in
seen-text text s names links m word =
    let seen_so : (Home → Bool) → First → Option sight.Seen = λ has f. entity_seen (same_home f.home (Written m)) (has f.home) f.number f.entity in
    (λ j. option_and_then (seen_so (has_link s.links m)) (meaning_in (names j) word))
    ∙ (λ j. option_and_then (seen_so (λ home. links-from text s links m home j)) (meaning_in (all_names text) word))
    ∙ then-map (seen_so (imports_from text m)) (λ d. record { home = d.home; entity = d.entity; number = symbol_count (before_first (is_called word) (all_names text)) }) (meaning text word)

entity_seen-some : (own imported : Bool) (m n : ℕ) (e : Entity) → is_some (entity_seen own imported m e) ≡ is_some (entity_seen own imported n e)
entity_seen-some own imported m n AsModule = refl
entity_seen-some own imported m n (AsSymbol class public) = by (class_seen own imported class public)
  where
    by : (o : Option Class) → is_some (option_map (sight.SeenSymbol m) o) ≡ is_some (option_map (sight.SeenSymbol n) o)
    by None = refl
    by (Some c) = refl
entity_seen-some own imported m n (AsPattern public k i) = refl

then-some : {A B : Type 0} (f g : A → Option B) → ((a : A) → is_some (f a) ≡ is_some (g a)) → (o : Option A) → is_some (option_and_then f o) ≡ is_some (option_and_then g o)
then-some f g same None = refl
then-some f g same (Some a) = same a

-- they see something where the text's modules do
pub sees-some : (text : Text) (s : Sights) → s.names ≡ all_names text → AreLinks (all_names text) (imports text) s.links → Sees text s
sees-some text s names links = record {
  names = names;
  seen = λ m word. ap is_some (seen-text text s names links m word) ∙ then-some (seen_with text m (λ d. symbol_count (before_first (is_called word) (all_names text)))) (seen_with text m (λ d. number_of text word)) (λ d. entity_seen-some (same_home d.home (Written m)) (imports_from text m d.home) (symbol_count (before_first (is_called word) (all_names text))) (number_of text word) d.entity) (meaning text word);
}

-- ---- symbols by their numbers

standing-class : (own imported : Standing → Bool) (d : Declaration) → is_symbol d.entity ≡ false → owned_in d ≡ None
standing-class own imported d h = by d.entity h
  where
    by : (e : Entity) → is_symbol e ≡ false → entity_standing d.home e ≡ None
    by AsModule h = refl
    by (AsSymbol class public) h = absurd (true≢false h)
    by (AsPattern public m i) h = refl

standing_at : (ds : List Declaration) (n : ℕ) → slice_get (filter_map owned_in ds) n ≡ option_and_then owned_in (slice_get (filter (λ d. is_symbol d.entity) ds) n)
standing_at [] n = refl
standing_at (d ∷ ds) n = by (standing_at ds) d.entity refl n
  where
    by : ((k : ℕ) → slice_get (filter_map owned_in ds) k ≡ option_and_then owned_in (slice_get (filter (λ x. is_symbol x.entity) ds) k)) → (e : Entity) → d.entity ≡ e → (k : ℕ) → slice_get (cons_option (entity_standing d.home e) (filter_map owned_in ds)) k ≡ option_and_then owned_in (slice_get (cond (is_symbol e) (d ∷ filter (λ x. is_symbol x.entity) ds) (filter (λ x. is_symbol x.entity) ds)) k)
    by rest AsModule is k = rest k
    by rest (AsSymbol class public) is zero = ap (λ e. entity_standing d.home e) (sym is)
    by rest (AsSymbol class public) is (suc k) = rest k
    by rest (AsPattern public m i) is k = rest k

class_of : (text : Text) (m : ℕ) (d : Declaration) → option_and_then (λ (o : Standing). class_seen (same_home o.home (Written m)) (imports_from text m o.home) o.class o.public) (owned_in d) ≡ entity_class (same_home d.home (Written m)) (imports_from text m d.home) d.entity
class_of text m d = by d.entity
  where
    by : (e : Entity) → option_and_then (λ (o : Standing). class_seen (same_home o.home (Written m)) (imports_from text m o.home) o.class o.public) (entity_standing d.home e) ≡ entity_class (same_home d.home (Written m)) (imports_from text m d.home) e
    by AsModule = refl
    by (AsSymbol class public) = refl
    by (AsPattern public k i) = refl

then-then : {A B C : Type 0} (f : B → Option C) (g : A → Option B) (h : A → Option C) → ((a : A) → option_and_then f (g a) ≡ h a) → (o : Option A) → option_and_then f (option_and_then g o) ≡ option_and_then h o
then-then f g h same None = refl
then-then f g h same (Some a) = same a

class-text : (text : Text) (s : Sights) → s.names ≡ all_names text → AreLinks (all_names text) (imports text) s.links → (m n : ℕ) → class_in s m n ≡ class_for text m n
unfolding class_in
class-text text s names links m n =
    let class_so : (Home → Bool) → Standing → Option Class = λ has o. class_seen (same_home o.home (Written m)) (has o.home) o.class o.public in
    (λ j. option_and_then (class_so (has_link s.links m)) (slice_get (filter_map owned_in (names j)) n))
    ∙ (λ j. option_and_then (class_so (λ home. links-from text s links m home j)) (slice_get (filter_map owned_in (all_names text)) n))
    ∙ ap (option_and_then (class_so (imports_from text m))) (standing_at (all_names text) n)
    ∙ then-then (class_so (imports_from text m)) owned_in (λ d. entity_class (same_home d.home (Written m)) (imports_from text m d.home) d.entity) (class_of text m) (slice_get (symbol_names text) n)

symbols-text : (text : Text) (s : Sights) → s.names ≡ all_names text → symbols_in s ≡ symbols text
unfolding symbols_in
symbols-text text s names = ap (λ (ds : List Declaration). filter_map (λ d. entity_symbol d.name.text d.entity) ds) names

-- ---- all that they answer

pub scopes-of : (text : Text) (s : Sights) → s.names ≡ all_names text → AreLinks (all_names text) (imports text) s.links → length (all_names text) < 2 ^ 32 → IsScopesOf text s
scopes-of text s names links few = record {
  seen = λ m word. seen-text text s names links m word ∙ ap (λ n. option_and_then (seen_with text m (λ d. n)) (meaning text word)) (number-same text word few);
  class = class-text text s names links;
  symbols = symbols-text text s names;
}
