-- What a text without characters and with integers of 64 bits means has none and such ones.
use Rattle.std.proofs.Common.{arith, ◌≡◌, ℕ, Bool, true, List, [], ◌∷◌, map, length, slice_get, IsTrue, Option, Some, None, option_and_then, refl, subst, ◌∙◌, inl, inr}
use Rattle.std.specs.List.{enumerate_from, filter_map}
use Rattle.dactl_model.specs.declared.program.FreshNode.{FreshNode}
use Rattle.dactl_model.specs.declared.program.Op.{Op}
use Rattle.dactl_model.specs.declared.program.Pat.{Pat}
use Rattle.dactl_model.specs.declared.program.Pat.TheOpen.{Pat-F}
use Rattle.dactl_model.specs.declared.program.Pat.TheViews.{roll-Pat}
use Rattle.dactl_model.specs.declared.program.Pat.TheFolds.{fold-roll-Pat, map-Pat}
use Rattle.dactl_model.specs.Programs.{narrow_level, is_narrow, is_narrow_label, AreNarrowNodes, IsNarrowRule, integer_binder, arithmetic_rule}
use Rattle.dactl_meaning.specs.declared.tree.PatternTree.{PatternTree}
use Rattle.dactl_meaning.specs.declared.tree.TermTree.{TermTree}
use Rattle.dactl_meaning.specs.declared.tree.RuleTree.{RuleTree}
use Rattle.dactl_meaning.specs.declared.tree.Module.{Module}
use Rattle.dactl_meaning.specs.declared.tree.Text.{Text}
use Rattle.dactl_meaning.specs.Declarations.{Placed, items_of, items, item_pattern, named_pattern, symbols}
use Rattle.dactl_meaning.specs.Sight.{Seen, SeenSymbol, SeenPattern, sees}
use Rattle.dactl_meaning.specs.Expansion.{named_count, named_expansion, variables_of}
use Rattle.dactl_meaning.specs.Contractum.{Core, Number, Character, Of, Drawn, terms_draw, term_of_part, made_by, symbol_label, label_of, fresh_of, fresh_nodes}
use Rattle.dactl_meaning.specs.Meaning.{rule_of}
use Rattle.dactl_meaning.specs.Spelling.{is_narrow_pattern, is_narrow_term, all_patterns, IsNarrowText}
use Rattle.dactl_validity.proofs.ValidLists.{In, in_right, in_map, in_flat, in_filter_map, map_in, flat_in, in_get, all_of, all_in}
use Rattle.dactl_validity.proofs.ValidTests.{both}
use Rattle.dactl_validity.proofs.ValidPatterns.{Keeps, expansion_kept, named_kept, all_true}
use Rattle.dactl_validity.proofs.ValidNames.{sees_below}
use Rattle.dactl_validity.proofs.ValidTerms.{Limits, is_narrow_core, terms_drawn}
use Rattle.dactl_meaning.specs.Spelling.{is_whole}

-- ---- patterns

abbrev IsNarrow : Pat → Type 0
IsNarrow p = is_narrow p ≡ true

narrow_kept : (count : ℕ) (variables : Option (List (List ℕ))) → Keeps narrow_level (λ b. b ≡ true) count (Unit {0}) variables
narrow_kept count variables Pat-F.Char k = absurd (k tt)
narrow_kept count variables (Pat-F.Literal i) k = k tt
narrow_kept count variables (Pat-F.Letter c) k = absurd (k tt)
narrow_kept count variables (Pat-F.Sym f args) k = all_true args k.1
narrow_kept count variables (Pat-F.Bind v q) k = k.1
narrow_kept count variables (Pat-F.Union q s) k = both _ _ k.0 k.1
narrow_kept count variables (Pat-F.Less q s) k = both _ _ k.0 k.1
narrow_kept count variables x k = refl

-- ---- named patterns

-- each element stands under some number
enumerated : {X : Type 0} (xs : List X) (n : ℕ) (x : X) → In xs x → (k : ℕ) × In (enumerate_from n xs) (k, x)
enumerated [] n x h = absurd h
enumerated (y ∷ xs) n x (inl e) = (n, inl (λ j. (n, e j)))
enumerated (y ∷ xs) n x (inr h) = let r = enumerated xs _ x h in (r.0, inr r.1)

found_then : {X Y : Type 0} (f : X → Option Y) (o : Option X) (y : Y) → option_and_then f o ≡ Some y → (x : X) × (o ≡ Some x) × (f x ≡ Some y)
found_then f None y e = absurd cc
found_then f (Some x) y e = (x, refl, e)

pattern_in : (text : Text) (m i : ℕ) (t : PatternTree) → named_pattern text m i ≡ Some t → In (filter_map (λ (p : Placed). item_pattern p.item) (items text)) t
pattern_in text m i t e =
    let is = found_then item_pattern (option_and_then (λ (found : Module). slice_get found.items i) (slice_get text.modules m)) t e in
    let of = found_then (λ (found : Module). slice_get found.items i) (slice_get text.modules m) is.0 is.1 in
    let at = enumerated text.modules 0 of.0 (in_get text.modules m of.0 of.1) in
    let there = enumerated of.0.items 0 is.0 (in_get of.0.items i is.0 of.2) in
    let p : Placed = record { owner = at.0; number = there.0; item = is.0 } in
    in_filter_map (λ (p : Placed). item_pattern p.item) (items text) p t
    (in_flat items_of (enumerate_from 0 text.modules) (at.0, of.0) p at.1 (in_map (λ (j : ℕ × _). let p : Placed = record { owner = at.0; number = j.0; item = j.1 } in p) (enumerate_from 0 of.0.items) (there.0, is.0) there.1))
    is.2

named_narrow : (text : Text) → IsNarrowText text → (depth m i : ℕ) → IsNarrow (named_expansion text depth m i)
named_narrow text narrow = named_kept narrow_level (λ b. b ≡ true) (length (symbols text)) (Unit {0}) text (narrow_kept (length (symbols text)) None) (sees_below text)
    (λ m i s t e. all_in (λ p. IsTrue (is_narrow_pattern p)) (all_patterns text) narrow.patterns t (in_right _ _ t (pattern_in text m i t e)))

-- ---- terms

symbol_narrow : (o : Option Seen) → is_narrow_label (symbol_label o) ≡ true
symbol_narrow None = refl
symbol_narrow (Some (SeenSymbol f class)) = refl
symbol_narrow (Some (SeenPattern m i)) = refl

label_narrow : (look : List ℕ → Option Seen) (c : Core) → is_narrow_core c ≡ true → is_narrow_label (label_of look c) ≡ true
label_narrow look (Number value) h = h
label_narrow look (Character value) h = absurd cc
label_narrow look (Of name) h = symbol_narrow (look name.text)

-- the new nodes of narrow terms are narrow
pub news_narrow : (look : List ℕ → Option Seen) (variables : List (List ℕ)) (terms : List TermTree) → ((t : TermTree) → In terms t → is_whole t ≡ true) → ((t : TermTree) → In terms t → is_narrow_term t ≡ true)
    → AreNarrowNodes (fresh_nodes look variables terms)
news_narrow look variables terms whole narrow = all_of (λ (node : FreshNode). IsTrue (is_narrow_label node.label)) (fresh_nodes look variables terms) (λ n i.
    let limits : Limits = record { bound = length (made_by terms); Known = λ w. Unit {0}; Used = λ name. Unit {0}; Strict = Unit {0} } in
    let r = map_in (fresh_of look variables (made_by terms)) (made_by terms) n i in
    let d = flat_in (λ (d : Drawn). d.made) (terms_draw 0 terms) r.0 r.1 in
    let drawn = terms_drawn limits terms 0 (omega arith) whole (λ s. narrow) (λ m j. tt) (λ u j. tt) d.0 d.1 in
    subst (λ (z : FreshNode). is_narrow_label z.label ≡ true) r.2 (label_narrow look r.0.core ((drawn.made r.0 d.2).narrow tt)))

-- ---- rules

narrow_roll : (x : Pat-F Pat) → is_narrow (roll-Pat x) ≡ narrow_level (map-Pat Pat Bool is_narrow x)
narrow_roll x = fold-roll-Pat Bool narrow_level x

binder_narrow : (v : ℕ) → IsNarrow (integer_binder v)
binder_narrow v = narrow_roll (Pat-F.Bind v (roll-Pat Pat-F.Int)) ∙ narrow_roll Pat-F.Int

pub arithmetic_narrow : (f : ℕ) (o : Op) → IsNarrowRule (arithmetic_rule f o)
arithmetic_narrow f o = record {
  pattern = narrow_roll (Pat-F.Sym f (integer_binder 0 ∷ integer_binder 1 ∷ [])) ∙ both _ _ (binder_narrow 0) (both _ _ (binder_narrow 1) refl);
  body = tt;
}

pub rule_narrow : (text : Text) → IsNarrowText text → (m group : ℕ) (r : RuleTree) → is_narrow_pattern r.pattern ≡ true → ((t : TermTree) → In (map term_of_part r.parts) t → is_whole t ≡ true)
    → ((t : TermTree) → In (map term_of_part r.parts) t → is_narrow_term t ≡ true) → IsNarrowRule (rule_of text m group r)
rule_narrow text narrow m group r h whole k = record {
  pattern = expansion_kept narrow_level (λ b. b ≡ true) (length (symbols text)) (Unit {0}) (sees text m) (named_expansion text (named_count text)) (Some (variables_of r.pattern))
      (narrow_kept (length (symbols text)) (Some (variables_of r.pattern))) (sees_below text m) (named_narrow text narrow (named_count text)) r.pattern (λ s. h);
  body = news_narrow (sees text m) (variables_of r.pattern) (map term_of_part r.parts) whole k;
}
