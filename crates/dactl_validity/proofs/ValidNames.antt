-- The symbols of a text whose scope has no fault, and the numbers under which its modules see them.
use Rattle.std.proofs.Common.{◌≡◌, ◌≢◌, ℕ, zero, suc, ◌+◌, ◌^◌, ◌<◌, ◌≤◌, Bool, true, false, not, ◌||◌, ◌&&◌, cond, List, [], ◌∷◌, length, take, filter, filter_map, find, count_by, slice_get, Option, Some, None, IsNone, IsSomeAnd, option_and_then, option_map, All, IsTrue, refl, sym, ap, subst, ◌∙◌, arith, inl, inr, if◌then◌else◌}
use Rattle.std.specs.List.{before_first, position_or_len, cons_option}
use Rattle.std.proofs.lemmas.List.Sums.{sum_by-cons}
use Rattle.dactl_base.specs.declared.refusal.Kind.TheVariants as kinds
use Rattle.dactl_model.specs.declared.program.Class.{Class}
use Rattle.dactl_model.specs.declared.program.Symbol.{Symbol}
use Rattle.dactl_model.specs.Names.{is_upper_name}
use Rattle.dactl_meaning.specs.declared.tree.Text.{Text}
use Rattle.dactl_meaning.specs.Faults.{NoFault}
use Rattle.dactl_meaning.specs.Declarations.{Written, same_home, Entity, AsModule, AsSymbol, AsPattern, Declaration, own_names, all_names, is_called, meaning, entity_symbol, is_symbol, symbol_names, symbols, number_of, rules}
use Rattle.dactl_meaning.specs.Sight.{Seen, SeenSymbol, SeenPattern, imports_from, class_seen, entity_seen, sees, entity_class, class_for}
use Rattle.dactl_meaning.specs.Uses.{Use, uses}
use Rattle.dactl_meaning.specs.ScopeFaults.{most_names, most_rules, is_usable, is_pattern, ScopeFault}
use Rattle.dactl_validity.proofs.ValidLists.{In, Pairs, any_of, all_of, all_in, in_filter, filter_map_in, pairs_of_splits, pairs_filter_map, length_filter_map, length_none, length_some}
use Rattle.dactl_validity.proofs.ValidPatterns.{SeesSymbol}

-- ---- counts

nothing : {X : Type 0} (place : X → ℕ) (o : Option X) → ((at : ℕ) → IsSomeAnd o (λ x. at ≡ place x) → ⊥) → o ≡ None
nothing place None none = refl
nothing place (Some x) none = absurd (none (place x) refl)

short : {X : Type 0} (xs : List X) (n : ℕ) (place : X → ℕ) → ((at : ℕ) → IsSomeAnd (slice_get xs n) (λ x. at ≡ place x) → ⊥) → length xs ≤ n
short xs n place none = length_none xs n (nothing place (slice_get xs n) none)

pub few_names : (text : Text) → NoFault (ScopeFault text) → length (own_names text) ≤ 16384
few_names text fine = short (own_names text) most_names (λ d. d.name.place.byte) (λ at h. fine (record { kind = kinds.TooMany; place = record { byte = at } }) (inl h))

pub few_rules : (text : Text) → NoFault (ScopeFault text) → length (rules text) ≤ 4096
few_rules text fine = short (rules text) most_rules (λ r. r.rule.place.byte) (λ at h. fine (record { kind = kinds.TooMany; place = record { byte = at } }) (inr h))

-- ---- the symbols

pub symbols_truths : (text : Text) → 7 ≤ length (symbols text)
symbols_truths text = omega arith

pub symbols_few : (text : Text) → NoFault (ScopeFault text) → length (symbols text) < 2 ^ 31
symbols_few text fine = omega (arith, few_names text fine, length_filter_map (λ (d : Declaration). entity_symbol d.name.text d.entity) (own_names text))

-- what a declaration makes a symbol has its name
symbol_name : (word : List ℕ) (e : Entity) (s : Symbol) → entity_symbol word e ≡ Some s → (word ≡ s.name) × (is_symbol e ≡ true)
symbol_name word AsModule s h = absurd cc
symbol_name word (AsSymbol class public) s h = (ap (λ (z : Option Symbol). elim z [ None ↦ word | Some t ↦ t.name ]) h, refl)
symbol_name word (AsPattern public m i) s h = absurd cc

pub names_upper : (wide : Bool) (text : Text) → All (λ d. IsTrue (is_upper_name wide d.name.text)) (symbol_names text) → All (λ s. IsTrue (is_upper_name wide s.name)) (symbols text)
names_upper wide text upper = all_of _ (symbols text) (λ s h.
    let r = filter_map_in (λ (d : Declaration). entity_symbol d.name.text d.entity) (all_names text) s h in
    let is = symbol_name r.0.name.text r.0.entity s r.2 in
    subst (λ w. IsTrue (is_upper_name wide w)) is.0 (all_in (λ (d : Declaration). IsTrue (is_upper_name wide d.name.text)) (symbol_names text) upper r.0 (in_filter (λ (d : Declaration). is_symbol d.entity) (all_names text) r.0 r.1 is.1)))

pub names_distinct : (text : Text) → NoFault (ScopeFault text) → Pairs (λ (a b : Symbol). a.name ≢ b.name) (symbols text)
names_distinct text fine =
    pairs_filter_map (λ (a b : Declaration). a.name.text ≢ b.name.text) (λ (a b : Symbol). a.name ≢ b.name) (λ (d : Declaration). entity_symbol d.name.text d.entity)
    (λ a b s t is_s is_t differ same. differ ((symbol_name a.name.text a.entity s is_s).0 ∙ same ∙ sym (symbol_name b.name.text b.entity t is_t).0))
    (all_names text)
    (pairs_of_splits (λ (a b : Declaration). a.name.text ≢ b.name.text) (all_names text) (λ earlier again later order d before same.
    fine (record { kind = kinds.TwiceDeclared; place = again.name.place })
    (record { earlier = earlier; again = again; later = later; order = order; at = refl; before = any_of (λ (e : Declaration). e.name.text ≡ again.name.text) earlier d before same })))

-- ---- numbers

before_here : (p : Declaration → Bool) (e : Declaration) (ds : List Declaration) → p e ≡ true → before_first p (e ∷ ds) ≡ []
before_here p e ds t = rw t refl

before_later : (p : Declaration → Bool) (e : Declaration) (ds : List Declaration) → p e ≡ false → before_first p (e ∷ ds) ≡ e ∷ before_first p ds
before_later p e ds t =
    let n = position_or_len p ds in
    let one : 1 + n ≡ suc n = omega arith in
    ap (λ (b : Bool). take (cond (not b) (1 + n) 0) (e ∷ ds)) t ∙ ap (λ (k : ℕ). take k (e ∷ ds)) one

one_more : (w : List ℕ) (e : Entity) (xs : List Symbol) → length (cons_option (entity_symbol w e) xs) ≡ cond (is_symbol e) 1 0 + length xs
one_more w AsModule xs = omega arith
one_more w (AsSymbol class public) xs = omega arith
one_more w (AsPattern public m i) xs = omega arith

abbrev symbols_of : List Declaration → List Symbol
symbols_of ds = filter_map (λ (e : Declaration). entity_symbol e.name.text e.entity) ds

abbrev counts : List Declaration → ℕ
counts ds = count_by (λ (e : Declaration). is_symbol e.entity) ds

-- the symbols before the first one that a test finds are fewer than all
abbrev IsFewer : (Declaration → Bool) → List Declaration → Type 0
IsFewer p ds = counts (before_first p ds) < length (symbols_of ds)

fewer_here : (p : Declaration → Bool) (e : Declaration) (ds : List Declaration) → p e ≡ true → is_symbol e.entity ≡ true → IsFewer p (e ∷ ds)
fewer_here p e ds t s =
    let none : counts (before_first p (e ∷ ds)) ≡ 0 = ap counts (before_here p e ds t) in
    let one : cond (is_symbol e.entity) 1 0 ≡ suc zero = ap (λ (b : Bool). cond b (suc zero) zero) s in
    omega (arith, none, one, one_more e.name.text e.entity (symbols_of ds))

fewer_later : (p : Declaration → Bool) (e : Declaration) (ds : List Declaration) → p e ≡ false → IsFewer p ds → IsFewer p (e ∷ ds)
fewer_later p e ds t h =
    let more : counts (before_first p (e ∷ ds)) ≡ cond (is_symbol e.entity) 1 0 + counts (before_first p ds) = ap counts (before_later p e ds t) ∙ sum_by-cons (λ (z : Declaration). cond (is_symbol z.entity) 1 0) e (before_first p ds) in
    omega (arith, more, h, one_more e.name.text e.entity (symbols_of ds))

found_symbol : (e d : Declaration) → Some e ≡ Some d → is_symbol d.entity ≡ true → is_symbol e.entity ≡ true
found_symbol e d f is = ap (λ (o : Option Declaration). elim o [ None ↦ false | Some z ↦ is_symbol z.entity ]) f ∙ is

counted_below : (p : Declaration → Bool) (ds : List Declaration) (d : Declaration) → find p ds ≡ Some d → is_symbol d.entity ≡ true → IsFewer p ds
counted_below p [] d found is = absurd cc
counted_below p (e ∷ ds) d found is = (elim (p e) as (λ b. p e ≡ b → cond b (Some e) (find p ds) ≡ Some d → IsFewer p (e ∷ ds)) [
  | true ↦ λ t f. fewer_here p e ds t (found_symbol e d f is)
  | false ↦ λ t f. fewer_later p e ds t (counted_below p ds d f is)
]) refl found

-- what a module sees of a symbol is its number
seen_number : (own imported : Bool) (number : ℕ) (e : Entity) (f : ℕ) (class : Class) → entity_seen own imported number e ≡ Some (SeenSymbol f class) → (is_symbol e ≡ true) × (f ≡ number)
seen_number own imported number AsModule f class h = absurd cc
seen_number own imported number (AsSymbol c public) f class h = (refl, number_kept (class_seen own imported c public) h)
  where
    number_kept : (o : Option Class) → option_map (SeenSymbol number) o ≡ Some (SeenSymbol f class) → f ≡ number
    number_kept None h = absurd cc
    number_kept (Some k) h = sym (ap (λ (z : Option Seen). elim z [ None ↦ 0 | Some s ↦ elim s [ SeenSymbol g k ↦ g | SeenPattern m i ↦ 0 ] ]) h)
seen_number own imported number (AsPattern public m i) f class h = absurd (pattern_kept (own || (imported && public)) h)
  where
    pattern_kept : (b : Bool) → (if b then Some (SeenPattern m i) else None) ≡ Some (SeenSymbol f class) → ⊥
    pattern_kept true h = absurd cc
    pattern_kept false h = absurd cc

-- the symbols that a module sees are the program's
pub sees_below : (text : Text) (m : ℕ) (w : List ℕ) (f : ℕ) (class : Class) → sees text m w ≡ Some (SeenSymbol f class) → f < length (symbols text)
sees_below text m w f class seen = (elim (meaning text w) as (λ o. meaning text w ≡ o → option_and_then look o ≡ Some (SeenSymbol f class) → f < length (symbols text)) [
  | None ↦ λ e h. absurd cc
  | Some d ↦ λ e h. (
      let s = seen_number (same_home d.home (Written m)) (imports_from text m d.home) (number_of text w) d.entity f class h in
      let fewer : number_of text w < length (symbols text) = counted_below (is_called w) (all_names text) d e s.0 in
      subst (λ n. n < length (symbols text)) (sym s.1) fewer)
]) refl seen
  where
    look : Declaration → Option Seen
    look d = entity_seen (same_home d.home (Written m)) (imports_from text m d.home) (number_of text w) d.entity

-- a symbol that has a class for a module is the program's
kept_count : {X : Type 0} (x : X) (xs : List X) (b : Bool) → length (cond b (x ∷ xs) xs) ≡ cond b 1 0 + length xs
kept_count x xs true = omega arith
kept_count x xs false = omega arith

same_count : (ds : List Declaration) → length (filter (λ (d : Declaration). is_symbol d.entity) ds) ≡ length (symbols_of ds)
same_count [] = refl
same_count (d ∷ ds) = omega (arith, kept_count d (filter (λ (z : Declaration). is_symbol z.entity) ds) (is_symbol d.entity), one_more d.name.text d.entity (symbols_of ds), same_count ds)

class_found : {X : Type 0} (f : X → Option Class) (xs : List X) (s : ℕ) (class : Class) → option_and_then f (slice_get xs s) ≡ Some class → s < length xs
class_found f xs s class h = (elim (slice_get xs s) as (λ o. slice_get xs s ≡ o → option_and_then f o ≡ Some class → s < length xs) [
  | None ↦ λ e k. absurd cc
  | Some d ↦ λ e k. length_some xs s d e
]) refl h

pub class_below : (text : Text) (m s : ℕ) (class : Class) → class_for text m s ≡ Some class → s < length (symbols text)
class_below text m s class e =
    let below : s < length (symbol_names text) = class_found (λ (d : Declaration). entity_class (same_home d.home (Written m)) (imports_from text m d.home) d.entity) (symbol_names text) s class e in
    omega (arith, below, same_count (all_names text))

-- ---- uses

-- a text whose scope has no fault sees each symbol and pattern that it uses
seen_somehow : (o : Option Seen) → ¬ IsNone o → (s : Seen) × (o ≡ Some s)
seen_somehow None h = absurd (h refl)
seen_somehow (Some s) h = (s, refl)

usable : (text : Text) → NoFault (ScopeFault text) → (m : ℕ) (u : Use) → In (uses text) (m, u) → is_usable (meaning text u.name.text) ≡ true
usable text fine m u h = (elim (is_usable (meaning text u.name.text)) as (λ b. is_usable (meaning text u.name.text) ≡ b → b ≡ true) [
  | true ↦ λ e. refl
  | false ↦ λ e. absurd (fine (record { kind = kinds.UnknownName; place = u.name.place }) (any_of _ (uses text) (m, u) h (refl, inl e)))
]) refl

pub use_seen : (text : Text) → NoFault (ScopeFault text) → (m : ℕ) (u : Use) → In (uses text) (m, u) → (s : Seen) × (sees text m u.name.text ≡ Some s)
use_seen text fine m u h = seen_somehow (sees text m u.name.text) (λ none.
    fine (record { kind = kinds.NotVisible; place = u.name.place }) (any_of _ (uses text) (m, u) h (refl, usable text fine m u h, none)))

-- what is seen as a pattern is declared as one
pattern_declared : (text : Text) (m k i : ℕ) (w : List ℕ) → sees text m w ≡ Some (SeenPattern k i) → is_pattern (meaning text w) ≡ true
pattern_declared text m k i w seen = (elim (meaning text w) as (λ o. option_and_then look o ≡ Some (SeenPattern k i) → is_pattern o ≡ true) [
  | None ↦ λ h. absurd cc
  | Some d ↦ λ h. by_entity (same_home d.home (Written m)) (imports_from text m d.home) d.entity h
]) seen
  where
    look : Declaration → Option Seen
    look d = entity_seen (same_home d.home (Written m)) (imports_from text m d.home) (number_of text w) d.entity

    no_symbol : (o : Option Class) → option_map (SeenSymbol (number_of text w)) o ≡ Some (SeenPattern k i) → ⊥
    no_symbol None h = cc
    no_symbol (Some c) h = let e : true ≡ false = ap (λ (z : Option Seen). elim z [ None ↦ true | Some s ↦ elim s [ SeenSymbol g c ↦ true | SeenPattern m i ↦ false ] ]) h in cc

    by_entity : (own imported : Bool) (e : Entity) → entity_seen own imported (number_of text w) e ≡ Some (SeenPattern k i) → (elim e [ AsModule ↦ false | AsSymbol class public ↦ false | AsPattern public m i ↦ true ]) ≡ true
    by_entity own imported AsModule h = absurd cc
    by_entity own imported (AsSymbol class public) h = absurd (no_symbol (class_seen own imported class public) h)
    by_entity own imported (AsPattern public j l) h = refl

-- a name with arguments is that of a symbol
pub given_symbol : (text : Text) → NoFault (ScopeFault text) → (m : ℕ) (u : Use) → In (uses text) (m, u) → u.given ≡ true → SeesSymbol (sees text m) u.name.text
given_symbol text fine m u h given = let r = use_seen text fine m u h in by_seen r.0 r.1
  where
    by_seen : (s : Seen) → sees text m u.name.text ≡ Some s → SeesSymbol (sees text m) u.name.text
    by_seen (SeenSymbol f class) e = (f, class, e)
    by_seen (SeenPattern k i) e = absurd (fine (record { kind = kinds.UnknownName; place = u.name.place }) (any_of _ (uses text) (m, u) h (refl, inr (given, pattern_declared text m k i u.name.text e))))
