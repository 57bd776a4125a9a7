-- In the tree of a text the left sides of a rule stand behind its pattern, since the places of tokens rise.
use Rattle.std.proofs.Common.{◌≡◌, ℕ, zero, suc, ◌<◌, ◌≤◌, Bool, true, false, inl, inr, List, [], ◌∷◌, ◌++◌, map, Option, Some, None, All, sym, ap, subst, ◌∙◌, arith}
use Rattle.std.specs.List.{AllByRecursion as Each, flat_map}
use Rattle.std.proofs.lemmas.List.Elements.{All-from_recursion}
use Rattle.dactl_grammar.specs.Grammar.{WholeRow, choice, means, placed, place_of as first_place}
use Rattle.dactl_grammar.proofs.Holds.{Splits, Holds, IfThere, holds_one, holds_row, holds_choice, holds_maybe, holds_many, holds_means, holds_barred}
use Rattle.dactl_terminals.specs.declared.token.Sort.TheVariants as s
use Rattle.dactl_meaning.specs.declared.tree.Name.{Name}
use Rattle.dactl_meaning.specs.declared.tree.Sign.{Sign}
use Rattle.dactl_meaning.specs.declared.tree.PatternTree.{PatternTree}
use Rattle.dactl_meaning.specs.declared.tree.PatternTree.TheVariants as p
use Rattle.dactl_meaning.specs.declared.tree.PatternTree.TheVariants.{rolls-Any, rolls-Int, rolls-Char, rolls-Integer, rolls-Letter, rolls-Sym, rolls-Variable, rolls-Binder, rolls-Chain}
use Rattle.dactl_meaning.specs.declared.tree.PatternTree.TheOpen.{PatternTree-F}
use Rattle.dactl_meaning.specs.declared.tree.PatternTree.TheViews.{roll-PatternTree}
use Rattle.dactl_meaning.specs.declared.tree.PatternTree.TheFolds.{fold-roll-PatternTree, map-PatternTree}
use Rattle.dactl_meaning.specs.declared.tree.Part.{Part}
use Rattle.dactl_meaning.specs.declared.tree.RuleTree.{RuleTree}
use Rattle.dactl_meaning.specs.declared.tree.Text.{Text}
use Rattle.dactl_terminals.specs.Parts.{Tok, Part_of, is, behind, pair, upper, lower, name_of, value_at}
use Rattle.dactl_syntax.specs.Productions.{term, args, any_of, int_of, char_of, number_of, letter, character_of, pattern_sym_of, base, piece_at, piece_of, piece, operator, chain_at, chain_of, pattern_over, squares, rounds, pattern, part_term, part_redirect, part, rewrites_of, redirects_of, rewriting, redirecting, rule_of, rule}
use Rattle.dactl_meaning.specs.Expansion.{Occurrence, occurrences_level, occurrences_in, occurrences}
use Rattle.dactl_meaning.specs.RuleFaults.{place_of, widths_level, widths, lefts_of}
use Rattle.dactl_meaning.specs.Contractum.{name_list, left_of_part}
use Rattle.dactl_meaning.specs.Order.{pattern_places, left_places, IsInOrder, PlacesInOrder}
use Rattle.dactl_meaning.specs.Declarations.{rules as all_rules}
use Rattle.dactl_syntax.specs.Answer.{most_open}
use Rattle.dactl_syntax.specs.Laws.{Reads}
use Rattle.dactl_syntax.proofs.TokenFacts.{RisesFrom, rises_sooner, tokens_are_seen}
use Rattle.dactl_syntax.proofs.Holding.{Anything, holds_anything, holds_behind, holds_before, holds_listed, holds_separated, each_append, each_split, each_weaker, each_map, each_flat}
use Rattle.dactl_syntax.proofs.PatternLaws.{firm_pattern_at}
use Rattle.dactl_syntax.proofs.Walk.{modules_hold}
use Rattle.dactl_syntax.proofs.Listed.{rules_each}

-- ---- names stand where tokens stand

module _ (G : ℕ → Type 0) where
  -- the fact holds of each token's place
  abbrev pub Stand : List Tok → Type 0
  Stand l = Each (λ (t : Tok). G t.place) l

  split_stand : Splits Stand
  split_stand u v g = each_split (λ (t : Tok). G t.place) u v g

  abbrev IsPlacedName : Name → Type 0
  IsPlacedName n = G (place_of n)

  upper_placed : Holds Stand upper IsPlacedName
  upper_placed = holds_means name_of IsPlacedName (λ t h. h.0.0) (holds_one (is s.Upper))

  lower_placed : Holds Stand lower IsPlacedName
  lower_placed = holds_means name_of IsPlacedName (λ t h. h.0.0) (holds_one (is s.Lower))

  -- ---- patterns

  abbrev AreOccurrences : List Occurrence → Type 0
  AreOccurrences os = Each (λ (o : Occurrence). G (place_of o.name)) os

  abbrev AreWidths : List (Name × ℕ) → Type 0
  AreWidths ws = Each (λ (w : Name × ℕ). G (place_of w.0)) ws

  -- the fact holds of the places of a pattern's names
  pub record IsPlaced (t : PatternTree) : Type 0 where
    pub variables : (choice : Bool) → AreOccurrences (occurrences_in t choice)
    pub symbols : AreWidths (widths t)

  from_layer : (t : PatternTree) (x : PatternTree-F PatternTree) → roll-PatternTree x ≡ t
      → ((choice : Bool) → AreOccurrences (occurrences_level (map-PatternTree PatternTree (Bool → List Occurrence) occurrences_in x) choice))
      → AreWidths (widths_level (map-PatternTree PatternTree (List (Name × ℕ)) widths x))
      → IsPlaced t
  from_layer t x e os ws = record {
    variables = λ choice. subst AreOccurrences (ap (λ (f : Bool → List Occurrence). f choice) (sym (fold-roll-PatternTree (Bool → List Occurrence) occurrences_level x) ∙ ap occurrences_in e)) (os choice);
    symbols = subst AreWidths (sym (fold-roll-PatternTree (List (Name × ℕ)) widths_level x) ∙ ap widths e) ws;
  }

  args_occur : (given : List PatternTree) → Each IsPlaced given → (choice : Bool) → AreOccurrences (flat_map (λ (a : Bool → List Occurrence). a choice) (map occurrences_in given))
  args_occur [] h choice = tt
  args_occur (a ∷ given) h choice = each_append _ (occurrences_in a choice) _ (h.0.variables choice) (args_occur given h.1 choice)

  args_wide : (given : List PatternTree) → Each IsPlaced given → AreWidths (flat_map (λ a. a) (map widths given))
  args_wide [] h = tt
  args_wide (a ∷ given) h = each_append _ (widths a) _ h.0.symbols (args_wide given h.1)

  -- a pattern behind a sign
  abbrev IsPlacedLink : Sign × PatternTree → Type 0
  IsPlacedLink l = IsPlaced l.1

  links_occur : (rest : List (Sign × PatternTree)) → Each IsPlacedLink rest → AreOccurrences (flat_map (λ (l : Sign × (Bool → List Occurrence)). l.1 true) (map (λ l. (l.0, occurrences_in l.1)) rest))
  links_occur [] h = tt
  links_occur (l ∷ rest) h = each_append _ (occurrences_in l.1 true) _ (h.0.variables true) (links_occur rest h.1)

  links_wide : (rest : List (Sign × PatternTree)) → Each IsPlacedLink rest → AreWidths (flat_map (λ (l : Sign × List (Name × ℕ)). l.1) (map (λ l. (l.0, widths l.1)) rest))
  links_wide [] h = tt
  links_wide (l ∷ rest) h = each_append _ (widths l.1) _ h.0.symbols (links_wide rest h.1)

  symbol_placed : (name : Name) (given : Option (List PatternTree)) → IsPlacedName name → IfThere (Each IsPlaced) given → IsPlaced (pattern_sym_of (name, given))
  symbol_placed name None h k = from_layer (p.Sym name []) (PatternTree-F.Sym name []) (rolls-Sym name []) (λ choice. tt) (h, tt)
  symbol_placed name (Some given) h k = from_layer (p.Sym name given) (PatternTree-F.Sym name given) (rolls-Sym name given) (args_occur given k) (h, args_wide given k)

  piece_placed : (name : Name) (inner : Option PatternTree) → IsPlacedName name → IfThere IsPlaced inner → IsPlaced (piece_at name inner)
  piece_placed name None h k = from_layer (p.Variable name) (PatternTree-F.Variable name) (rolls-Variable name) (λ choice. (h, tt)) tt
  piece_placed name (Some inner) h k = from_layer (p.Binder name inner) (PatternTree-F.Binder name inner) (rolls-Binder name inner) (λ choice. (h, k.variables choice)) k.symbols

  chain_placed : (first : PatternTree) (rest : List (Sign × PatternTree)) → IsPlaced first → Each IsPlacedLink rest → IsPlaced (chain_at first rest)
  chain_placed first [] h k = h
  chain_placed first (l ∷ rest) h k = from_layer (p.Chain first (l ∷ rest)) (PatternTree-F.Chain first (l ∷ rest)) (rolls-Chain first (l ∷ rest))
      (λ choice. each_append _ _ _ (h.variables _) (links_occur (l ∷ rest) k))
      (each_append _ (widths first) _ h.symbols (links_wide (l ∷ rest) k))

  module _ (square : Part_of (List PatternTree)) (round : Part_of PatternTree) (square_placed : Holds Stand square (Each IsPlaced)) (round_placed : Holds Stand round IsPlaced) where
    base_placed : Holds Stand (base square round) IsPlaced
    base_placed =
        holds_choice (holds_means any_of IsPlaced (λ t h. from_layer p.Any PatternTree-F.Any rolls-Any (λ choice. tt) tt) (holds_one (is s.Any)))
        (holds_choice (holds_means int_of IsPlaced (λ t h. from_layer p.Int PatternTree-F.Int rolls-Int (λ choice. tt) tt) (holds_one (is s.Int)))
        (holds_choice (holds_means char_of IsPlaced (λ t h. from_layer p.Char PatternTree-F.Char rolls-Char (λ choice. tt) tt) (holds_one (is s.Char)))
        (holds_choice (holds_means number_of IsPlaced (λ t h. from_layer (number_of t) (PatternTree-F.Integer (value_at true t.word)) (rolls-Integer (value_at true t.word)) (λ choice. tt) tt) (holds_one (is s.Integer)))
        (holds_choice (holds_means character_of IsPlaced (λ t h. from_layer (character_of t) (PatternTree-F.Letter (letter t.word)) (rolls-Letter (letter t.word)) (λ choice. tt) tt) (holds_one (is s.Character)))
        (holds_choice (holds_means pattern_sym_of IsPlaced (λ v h. symbol_placed v.0 v.1 h.0 h.1) (holds_row split_stand upper_placed (λ _. holds_maybe square_placed))) round_placed)))))

    a_piece_placed : Holds Stand (piece square round) IsPlaced
    a_piece_placed = holds_choice (holds_means piece_of IsPlaced (λ v h. piece_placed v.0 v.1 h.0 h.1) (holds_row split_stand lower_placed (λ _. holds_maybe (holds_behind s.Colon split_stand base_placed)))) base_placed

    pattern_placed : Holds Stand (pattern_over square round) IsPlaced
    pattern_placed = holds_means chain_of IsPlaced (λ v h. chain_placed v.0 v.1 h.0 (each_weaker (λ (l : Sign × PatternTree). Unit {0} × IsPlaced l.1) IsPlacedLink (λ l k. k.1) v.1 h.1)) (holds_row split_stand a_piece_placed (λ _. holds_many split_stand (holds_row split_stand (holds_anything operator) (λ _. a_piece_placed))))

  pub record BothPlaced (n : ℕ) : Type 0 where
    pub square : Holds Stand (squares n) (Each IsPlaced)
    pub round : Holds Stand (rounds n) IsPlaced

  both_placed : (n : ℕ) → BothPlaced n
  unfolding squares rounds
  both_placed zero = record { square = holds_barred (Each IsPlaced); round = holds_barred IsPlaced }
  both_placed (suc n) = let b = both_placed n in record {
    square = holds_behind s.Open split_stand (holds_before s.Close split_stand (holds_many split_stand (a_piece_placed (squares n) (rounds n) b.square b.round)));
    round = holds_behind s.Left split_stand (holds_before s.Right split_stand (pattern_placed (squares n) (rounds n) b.square b.round));
  }

  pub pattern_stands : (n : ℕ) → Holds Stand (pattern n) IsPlaced
  pattern_stands n = let b = both_placed n in pattern_placed (squares n) (rounds n) b.square b.round

  -- ---- the left sides of parts

  abbrev HasPlacedLeft : Part → Type 0
  HasPlacedLeft t = Each IsPlacedName (name_list (left_of_part t))

  module _ (n : ℕ) where
    plain_left : Holds Stand (means part_term (term (args n))) HasPlacedLeft
    plain_left = holds_means part_term HasPlacedLeft (λ t h. tt) (holds_anything (term (args n)))

    part_left : Holds Stand (part n) HasPlacedLeft
    part_left = holds_choice (holds_means part_redirect HasPlacedLeft (λ v h. (h.0, tt)) (holds_row split_stand lower_placed (λ _. holds_anything (behind s.Becomes (term (args n)))))) plain_left

    -- the left sides of a right side
    abbrev pub HasPlacedLefts : Bool × List Part → Type 0
    HasPlacedLefts v = Each HasPlacedLeft v.1

    pub rewriting_lefts : Holds Stand (rewriting n) HasPlacedLefts
    rewriting_lefts = holds_means rewrites_of HasPlacedLefts (λ ps h. h.each) (holds_behind s.Rewrites split_stand (holds_listed split_stand plain_left (holds_behind s.Comma split_stand part_left)))

    pub redirecting_lefts : Holds Stand (redirecting n) HasPlacedLefts
    redirecting_lefts = holds_means redirects_of HasPlacedLefts (λ ps h. h.each) (holds_behind s.Arrow split_stand (holds_separated s.Comma split_stand part_left))

-- ---- tokens that rise

abbrev StandBefore : ℕ → ℕ → Type 0
StandBefore bound place = place < bound

abbrev StandFrom : ℕ → ℕ → Type 0
StandFrom bound place = bound ≤ place

-- tokens stand from a place on, each behind the one before
abbrev Rise : List Tok → Type 0
Rise l = (place : ℕ) × RisesFrom place l

-- the tokens of the first part stand before a place, and those of the second from it on
record Cut (from : ℕ) (u v : List Tok) : Type 0 where
  pub place : ℕ
  pub beyond : from ≤ place
  pub rise : RisesFrom from u
  pub first : Stand (StandBefore place) u
  pub second : RisesFrom place v

cut_from : (from : ℕ) (u v : List Tok) → RisesFrom from (u ++ v) → Cut from u v
cut_from from [] v r = record { place = from; beyond = omega arith; rise = tt; first = tt; second = r }
cut_from from (t ∷ u) v r =
    let first = r.0 in
    let c = cut_from (suc t.place) u v r.1 in
    let beyond = c.beyond in
    record { place = c.place; beyond = omega arith; rise = (first, c.rise); first = (omega arith, c.first); second = c.second }

splits_rise : Splits Rise
splits_rise u v g = let c = cut_from g.0 u v g.1 in ((g.0, c.rise), (c.place, c.second))

abbrev Raises : {A : Type 0} → Part_of A → (A → Type 0) → Type 0
Raises P X = Holds Rise P X

stand_from : (place : ℕ) (l : List Tok) → RisesFrom place l → Stand (StandFrom place) l
stand_from place [] r = tt
stand_from place (t ∷ l) r = let first = r.0 in (first, stand_from place l (rises_sooner place (suc t.place) l (omega arith) r.1))

-- ---- rules

-- a part that isn't empty begins before the place
first_before : (n : ℕ) (front back : List Tok) (tree : PatternTree) (bound : ℕ) → (pattern n).whole front tree → Stand (StandBefore bound) front → first_place (λ t. t.place) (front ++ back) < bound
first_before n [] back tree bound w h = absurd ((firm_pattern_at n).solid tree w)
first_before n (t ∷ front) back tree bound w h = h.0

in_order : (r : RuleTree) (bound : ℕ) → r.place.byte < bound → IsPlaced (StandBefore bound) r.pattern → Each (HasPlacedLeft (StandFrom bound)) r.parts → IsInOrder r
in_order r bound first fine lefts =
    All-from_recursion Precedes (pattern_places r) (each_weaker (StandBefore bound) Precedes precedes (pattern_places r) before_it)
  where
    Precedes : ℕ → Type 0
    Precedes place = All (λ left. place < left) (left_places r)

    behind : Each (StandFrom bound) (left_places r)
    behind = each_map (StandFrom bound) place_of (lefts_of r.parts) (each_flat (λ (n : Name). StandFrom bound (place_of n)) (λ (t : Part). name_list (left_of_part t)) r.parts lefts)

    precedes : (place : ℕ) → place < bound → Precedes place
    precedes place h = All-from_recursion (λ left. place < left) (left_places r) (each_weaker (StandFrom bound) (λ left. place < left) (λ left k. omega arith) (left_places r) behind)

    before_it : Each (StandBefore bound) (pattern_places r)
    before_it = (first, each_append (StandBefore bound) _ _ (each_map (StandBefore bound) _ (occurrences r.pattern) (fine.variables false)) (each_map (StandBefore bound) _ (widths r.pattern) fine.symbols))

-- a pattern and a right side
row_in_order : (n : ℕ) (side : Part_of (Bool × List Part)) → ((G : ℕ → Type 0) → Holds (Stand G) side (λ v. Each (HasPlacedLeft G) v.1))
    → (l : List Tok) (v : PatternTree × (Bool × List Part)) → Rise l → WholeRow (pattern n) (λ _. side) l v → IsInOrder (rule_of (first_place (λ t. t.place) l, v))
row_in_order n side lefts l v g w =
    let c = cut_from g.0 w.front w.back (subst (RisesFrom g.0) w.parts g.1) in
    in_order (rule_of (first_place (λ t. t.place) l, v)) c.place
    (subst (λ (k : List Tok). first_place (λ t. t.place) k < c.place) (sym w.parts) (first_before n w.front w.back v.0 c.place w.first c.first))
    ((pattern_stands (StandBefore c.place) n).of w.front v.0 c.first w.first)
    ((lefts (StandFrom c.place)).of w.back v.1 (stand_from c.place w.back c.second) w.second)

-- a rule, with its place and the rest of it
abbrev Ruled : ℕ → Part_of (ℕ × (PatternTree × (Bool × List Part)))
Ruled n = placed (λ t. t.place) (choice (pair (pattern n) (rewriting n)) (pair (pattern n) (redirecting n)))

abbrev IsRuled : ℕ × (PatternTree × (Bool × List Part)) → Type 0
IsRuled v = IsInOrder (rule_of v)

ruled_raises : (n : ℕ) → Raises (Ruled n) IsRuled
ruled_raises n = record {
  of = λ l v g w. subst (λ (k : ℕ). IsInOrder (rule_of (k, v.1))) (sym w.0) (elim w.1 [
    | inl k ↦ row_in_order n (rewriting n) (λ G. rewriting_lefts G n) l v.1 g k
    | inr k ↦ row_in_order n (redirecting n) (λ G. redirecting_lefts G n) l v.1 g k
  ]);
}

rule_raises : (n : ℕ) → Raises (rule n) IsInOrder
rule_raises n = holds_means rule_of IsInOrder (λ v h. h) (ruled_raises n)

-- ---- the rules of a text

pub places_stand_in_order : (bytes : List ℕ) (tree : Text) → Reads bytes tree → PlacesInOrder tree
places_stand_in_order bytes tree r =
    let row = r.is_tree.derives in
    let rise = splits_rise row.front row.back (subst Rise row.parts (0, (tokens_are_seen bytes r.tokens r.lexes).rise)) in
    let raises = modules_hold IsInOrder Anything Anything Anything Rise splits_rise most_open (rule_raises most_open) (holds_anything _) (holds_anything _) (holds_anything _) in
    All-from_recursion _ (all_rules tree) (rules_each IsInOrder Anything Anything Anything tree (raises.of row.back tree.modules rise.1 row.second).each)
