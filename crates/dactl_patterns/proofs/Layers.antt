-- What stands in a pattern, by the layer at its top.
use Rattle.std.proofs.Common.{◌≡◌, ℕ, ◌+◌, ◌<◌, Bool, true, List, [], ◌∷◌, ◌++◌, map, length, take, get_or, sym, ap, ◌∙◌, append_assoc}
use Rattle.std.specs.Prelude.{◌||◌}
use Rattle.std.specs.List.{flat_map}
use Rattle.std.proofs.lemmas.List.{length-map, take_more, flat_map_more}
use Rattle.std.proofs.lemmas.List.Folds.{flat_map-map}
use Rattle.dactl_meaning.specs.declared.tree.Name.{Name}
use Rattle.dactl_meaning.specs.declared.tree.Sign.{Sign}
use Rattle.dactl_meaning.specs.declared.tree.PatternTree.{PatternTree}
use Rattle.dactl_meaning.specs.declared.tree.PatternTree.TheVariants as p
use Rattle.dactl_meaning.specs.Expansion.{Occurrence, has_plus, occurrences_level, occurrences_in}
use Rattle.dactl_meaning.specs.RuleFaults.{widths_level, widths}
use Rattle.dactl_patterns.specs.declared.occurrences.Found.{Found}
use Rattle.dactl_patterns.specs.Occurring.{seen, used, place_at, Puts, PutsTree, PutsTrees, PutsLinks}
use Rattle.dactl_meaning.proofs.Induction.{plus_kept}
use Rattle.dactl_patterns.proofs.Trees.{fold_symbol, fold_binder, fold_chain}

-- ---- what is put

then_more : {A : Type 0} (a b c u v : List A) → b ≡ a ++ u → c ≡ b ++ v → c ≡ a ++ (u ++ v)
then_more a b c u v e f = f ∙ ap (λ k. k ++ v) e ∙ append_assoc a u v

module _ (a b c : Found) (os qs : List Occurrence) (ws vs : List (Name × ℕ)) where
  -- one thing after the other
  pub puts_then : Puts a b os ws → Puts b c qs vs → Puts a c (os ++ qs) (ws ++ vs)
  puts_then first second = record { places = then_more _ _ _ os qs first.places second.places; uses = then_more _ _ _ ws vs first.uses second.uses }

-- one tree more
pub puts_more : {X : Type 0} (f : X → List Occurrence) (g : X → List (Name × ℕ)) (start found next : Found) (xs : List X) (i : ℕ) (x : X) → i < length xs → x ≡ get_or xs i x
    → Puts start found (flat_map f (take i xs)) (flat_map g (take i xs)) → Puts found next (f x) (g x) → Puts start next (flat_map f (take (i + 1) xs)) (flat_map g (take (i + 1) xs))
puts_more {X = X} f g start found next xs i x below is so_far one = record {
  places = one.places ∙ grown _ _ f so_far.places;
  uses = one.uses ∙ grown _ _ g so_far.uses;
}
  where
    grown : {B : Type 0} (bs start : List B) (h : X → List B) → bs ≡ start ++ flat_map h (take i xs) → bs ++ h x ≡ start ++ flat_map h (take (i + 1) xs)
    grown bs start h so = ap (λ k. k ++ h x) so ∙ flat_map_more h start (take i xs) x ∙ ap (λ k. start ++ flat_map h k) (ap (λ y. take i xs ++ y ∷ []) is ∙ sym (take_more xs i x below))

-- ---- a pattern, by what is put of its parts

module _ (choice : Bool) (a b c : Found) (tree : PatternTree) where
  puts_as : (t : PatternTree) (os : List Occurrence) (ws : List (Name × ℕ)) → tree ≡ t → occurrences_in t choice ≡ os → widths t ≡ ws → Puts a c os ws → PutsTree choice tree a c
  puts_as t os ws is places uses puts = record {
    places = puts.places ∙ ap (λ k. map seen a.places.items ++ k) (sym places ∙ ap (λ z. occurrences_in z choice) (sym is));
    uses = puts.uses ∙ ap (λ k. map used a.uses.items ++ k) (sym uses ∙ ap widths (sym is));
  }

  abbrev here : (Bool → List Occurrence) → List Occurrence
  here f = f choice

  pub puts_symbol : (name : Name) (args slice : List PatternTree) → tree ≡ p.Sym name args → slice ≡ args → Puts a b [] ((name, length slice) ∷ []) → PutsTrees choice slice b c → PutsTree choice tree a c
  puts_symbol name args slice is same first more = puts_as (p.Sym name slice) _ _ (is ∙ ap (p.Sym name) (sym same))
      (ap here (fold_symbol occurrences_level name slice) ∙ flat_map-map here occurrences_in slice)
      (fold_symbol widths_level name slice ∙ (λ j. (name, length-map slice widths j) ∷ flat_map-map (λ w. w) widths slice j))
      (puts_then a b c [] (flat_map (λ t. occurrences_in t choice) slice) ((name, length slice) ∷ []) (flat_map widths slice) first more)

  pub puts_binder : (name : Name) (inner got : PatternTree) → tree ≡ p.Binder name inner → got ≡ inner → Puts a b (place_at name true choice ∷ []) [] → PutsTree choice got b c → PutsTree choice tree a c
  puts_binder name inner got is same first more = puts_as (p.Binder name got) _ _ (is ∙ ap (p.Binder name) (sym same))
      (ap here (fold_binder occurrences_level name got)) (fold_binder widths_level name got)
      (puts_then a b c (place_at name true choice ∷ []) (occurrences_in got choice) [] (widths got) first more)

  pub puts_chain : (first got : PatternTree) (rest links : List (Sign × PatternTree)) (side : Bool) → tree ≡ p.Chain first rest → got ≡ first → links ≡ rest → side ≡ (choice || has_plus rest) → PutsTree side got a b → PutsLinks links b c → PutsTree choice tree a c
  puts_chain first got rest links side is same linked sided begins more = puts_as (p.Chain got links) _ _ (is ∙ (λ j. p.Chain (sym same j) (sym linked j)))
      (ap here (fold_chain occurrences_level got links)
      ∙ (λ j. occurrences_in got (choice || plus_kept occurrences_in links j) ++ flat_map-map (λ (l : Sign × (Bool → List Occurrence)). l.1 true) (λ (l : Sign × PatternTree). (l.0, occurrences_in l.1)) links j)
      ∙ (λ j. occurrences_in got ((ap (λ l. choice || has_plus l) linked ∙ sym sided) j) ++ flat_map (λ l. occurrences_in l.1 true) links))
      (fold_chain widths_level got links ∙ ap (λ k. widths got ++ k) (flat_map-map (λ (l : Sign × List (Name × ℕ)). l.1) (λ (l : Sign × PatternTree). (l.0, widths l.1)) links))
      (puts_then a b c (occurrences_in got side) (flat_map (λ l. occurrences_in l.1 true) links) (widths got) (flat_map (λ l. widths l.1) links) begins more)
