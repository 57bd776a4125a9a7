-- What a named pattern reaches.
use Rattle.std.proofs.Common.{◌≡◌, ℕ, ◌+◌, ◌<◌, ◌≤◌, ◌⊎◌, inl, inr, List, [], ◌∷◌, ◌++◌, map, length, get_or, Option, Some, None, refl, sym, ap, ◌∙◌, subst, arith, length-append}
use Rattle.std.specs.Prelude.{Any, Contains, slice_get}
use Rattle.std.specs.List.{flat_map, filter_map, cons_option}
use Rattle.std.proofs.lemmas.Bool.{cases_lt}
use Rattle.std.proofs.lemmas.List.{map-append, get_or_append_left}
use Rattle.std.proofs.lemmas.List.Elements.{Contains-append_left, Contains-append_right, Contains-append_cases}
use Rattle.std.proofs.lemmas.Option.{slice_get_within, get_or_from_slice_get}
use Rattle.dactl_meaning.specs.declared.tree.Name.{Name}
use Rattle.dactl_meaning.specs.declared.tree.Sign.{Sign}
use Rattle.dactl_meaning.specs.declared.tree.PatternTree.{PatternTree}
use Rattle.dactl_meaning.specs.declared.tree.PatternTree.TheOpen.{PatternTree-F}
use Rattle.dactl_meaning.specs.declared.tree.PatternTree.TheViews.{roll-PatternTree}
use Rattle.dactl_meaning.specs.declared.tree.PatternTree.TheFolds.{map-PatternTree, fold-roll-PatternTree}
use Rattle.dactl_meaning.specs.declared.tree.Text.{Text}
use Rattle.dactl_meaning.specs.Declarations.{named_pattern}
use Rattle.dactl_meaning.specs.RuleFaults.{widths_level, widths}
use Rattle.dactl_meaning.specs.Sight.{Seen, SeenSymbol, SeenPattern, sees}
use Rattle.dactl_meaning.specs.Uses.{Use, pattern_uses_level, pattern_uses}
use Rattle.dactl_meaning.specs.Meaning.{NamedPattern, IsSeenAs, NamesIn, Names, Reaches}
use Rattle.dactl_symbols.proofs.Sooner.{Any-nil, Any-cons, Any-uncons}
use Rattle.dactl_patterns.specs.declared.occurrences.Found.{Found}
use Rattle.dactl_patterns.specs.declared.occurrences.Use as code
use Rattle.dactl_patterns.specs.Occurring.{used, HasFound}
use Rattle.dactl_patterns.specs.Cycling.{told, names_used, seen_pattern, pattern_at, named_by, named_from, Gains, ReachesItself}
use Rattle.dactl_patterns.proofs.Gaining.{none_in, one_in}
use Rattle.dactl_meaning.proofs.Induction.{Each, EachLink, pattern_induction}

-- ---- names as a list

seen-as : (b : NamedPattern) (o : Option Seen) → IsSeenAs b o → seen_pattern o ≡ Some b
seen-as b (Some (SeenPattern m i)) is = ap Some (sym is)
seen-as b _ is = absurd is

as-seen : (b : NamedPattern) (o : Option Seen) → seen_pattern o ≡ Some b → IsSeenAs b o
as-seen b None e = cc
as-seen b (Some (SeenSymbol f class)) e = cc
as-seen b (Some (SeenPattern m i)) e = cc

in_cons : (o : Option NamedPattern) (xs : List NamedPattern) (b : NamedPattern) → Contains (cons_option o xs) b → (o ≡ Some b) ⊎ Contains xs b
in_cons None xs b has = inr has
in_cons (Some v) xs b has = elim (Contains-append_cases (v ∷ []) xs b has) [ inl here ↦ inl (ap Some (one_in v b here)) | inr later ↦ inr later ]

to_front : (o : Option NamedPattern) (xs : List NamedPattern) (b : NamedPattern) → o ≡ Some b → Contains (cons_option o xs) b
to_front o xs b is = subst (λ (p : Option NamedPattern). Contains (cons_option p xs) b) (sym is) (0, (omega arith), refl)

to_later : (o : Option NamedPattern) (xs : List NamedPattern) (b : NamedPattern) → Contains xs b → Contains (cons_option o xs) b
to_later None xs b has = has
to_later (Some v) xs b has = Contains-append_right (v ∷ []) xs b has

module _ (look : List ℕ → Option Seen) (b : NamedPattern) where
  abbrev found : List Use → List NamedPattern
  found us = filter_map (λ n. seen_pattern (look n.text)) (map (λ u. u.name) us)

  abbrev Sees : Use → Type 0
  Sees u = IsSeenAs b (look u.name.text)

  listed : (us : List Use) → Any Sees us → Contains (found us) b
  listed [] any = absurd (Any-nil Sees any)
  listed (u ∷ us) any = elim (Any-uncons Sees u us any) [
    | inl here ↦ to_front (seen_pattern (look u.name.text)) (found us) b (seen-as b (look u.name.text) here)
    | inr later ↦ to_later (seen_pattern (look u.name.text)) (found us) b (listed us later)
  ]

  from_list : (us : List Use) → Contains (found us) b → Any Sees us
  from_list [] has = absurd (none_in b has)
  from_list (u ∷ us) has = Any-cons Sees u us (elim (in_cons (seen_pattern (look u.name.text)) (found us) b has) [
    | inl here ↦ inl (as-seen b (look u.name.text) here)
    | inr later ↦ inr (from_list us later)
  ])

abbrev use_names : List Use → List Name
use_names uses = map (λ u. u.name) uses

abbrev width_names : List (Name × ℕ) → List Name
width_names ws = map (λ w. w.0) ws

-- the uses of names and those with numbers of arguments have the same names
abbrev SameNames : PatternTree → Type 0
SameNames t = use_names (pattern_uses t) ≡ names_used t

same_names : (t : PatternTree) → SameNames t
same_names = pattern_induction SameNames (record {
  any = both PatternTree-F.Any refl;
  int = both PatternTree-F.Int refl;
  char = both PatternTree-F.Char refl;
  integer = λ value. both (PatternTree-F.Integer value) refl;
  letter = λ value. both (PatternTree-F.Letter value) refl;
  symbol = λ name args each. both (PatternTree-F.Sym name args) (ap (λ k. name ∷ k) (trees args each));
  variable = λ name. both (PatternTree-F.Variable name) refl;
  binder = λ name inner same. both (PatternTree-F.Binder name inner) same;
  chain = λ first rest same each. both (PatternTree-F.Chain first rest)
      (map-append (λ (u : Use). u.name) (pattern_uses first) _ ∙ (λ j. same j ++ links rest each j) ∙ sym (map-append (λ (w : Name × ℕ). w.0) (widths first) _));
})
  where
    both : (y : PatternTree-F PatternTree) → use_names (pattern_uses_level (map-PatternTree PatternTree (List Use) pattern_uses y)) ≡ width_names (widths_level (map-PatternTree PatternTree (List (Name × ℕ)) widths y)) → SameNames (roll-PatternTree y)
    both y e = ap use_names (fold-roll-PatternTree (List Use) pattern_uses_level y) ∙ e ∙ sym (ap width_names (fold-roll-PatternTree (List (Name × ℕ)) widths_level y))

    trees : (ts : List PatternTree) → Each SameNames ts → use_names (flat_map (λ (u : List Use). u) (map pattern_uses ts)) ≡ width_names (flat_map (λ (w : List (Name × ℕ)). w) (map widths ts))
    trees [] each = refl
    trees (t ∷ ts) each = map-append (λ (u : Use). u.name) (pattern_uses t) _ ∙ (λ j. each.0 j ++ trees ts each.1 j) ∙ sym (map-append (λ (w : Name × ℕ). w.0) (widths t) _)

    links : (rest : List (Sign × PatternTree)) → EachLink SameNames rest
        → use_names (flat_map (λ (l : Sign × List Use). l.1) (map (λ l. (l.0, pattern_uses l.1)) rest)) ≡ width_names (flat_map (λ (l : Sign × List (Name × ℕ)). l.1) (map (λ l. (l.0, widths l.1)) rest))
    links [] each = refl
    links (l ∷ rest) each = map-append (λ (u : Use). u.name) (pattern_uses l.1) _ ∙ (λ j. each.0 j ++ links rest each.1 j) ∙ sym (map-append (λ (w : Name × ℕ). w.0) (widths l.1) _)

abbrev Lists : Text → ℕ → NamedPattern → List Name → Type 0
Lists text m b names = Contains (filter_map (pattern_at text m) names) b

by_tree : (text : Text) (m : ℕ) (o : Option PatternTree) (b : NamedPattern) → NamesIn text m o b → Contains (named_by text m o) b
by_tree text m None b names = absurd names
by_tree text m (Some tree) b names = subst (Lists text m b) (same_names tree) (listed (sees text m) b (pattern_uses tree) names)

of_tree : (text : Text) (m : ℕ) (o : Option PatternTree) (b : NamedPattern) → Contains (named_by text m o) b → NamesIn text m o b
of_tree text m None b has = none_in b has
of_tree text m (Some tree) b has = from_list (sees text m) b (pattern_uses tree) (subst (Lists text m b) (sym (same_names tree)) has)

pub names_listed : (text : Text) (a b : NamedPattern) → Names text a b → Contains (named_from text a) b
names_listed text a b names = by_tree text a.0 (named_pattern text a.0 a.1) b names

listed_names : (text : Text) (a b : NamedPattern) → Contains (named_from text a) b → Names text a b
listed_names text a b has = of_tree text a.0 (named_pattern text a.0 a.1) b has

told_used : (uses : List code.Use) → told uses ≡ map (λ w. w.0) (map used uses)
told_used [] = refl
told_used (u ∷ uses) = ap (λ k. u.name.now ∷ k) (told_used uses)

-- the named patterns by the uses that were found
pub patterns_found : (text : Text) (a : NamedPattern) (tree : PatternTree) (found : Found) (uses : List code.Use) → uses ≡ found.uses.items → HasFound found tree → Some tree ≡ named_pattern text a.0 a.1
    → filter_map (pattern_at text a.0) (told uses) ≡ named_from text a
patterns_found text a tree found uses same has at =
    ap (filter_map (pattern_at text a.0)) (ap told same ∙ told_used found.uses.items ∙ ap (map (λ w. w.0)) has.uses) ∙ ap (named_by text a.0) at

-- ---- paths

path_then : (text : Text) (a c b : NamedPattern) (between : List NamedPattern) → Reaches text a between c → Names text c b → Reaches text a (between ++ c ∷ []) b
path_then text a c b [] first names = (first, names)
path_then text a c b (d ∷ between) path names = (path.0, path_then text d c b between path.1 names)

-- a list that has what its items name has what they reach
inside : (text : Text) (keys : List NamedPattern) → ((x : NamedPattern) → Contains keys x → (y : NamedPattern) → Contains (named_from text x) y → Contains keys y)
    → (between : List NamedPattern) (c b : NamedPattern) → Contains keys c → Reaches text c between b → Contains keys b
inside text keys closed [] c b has path = closed c has b (names_listed text c b path)
inside text keys closed (d ∷ between) c b has path = inside text keys closed between d b (closed c has d (names_listed text c d path.0)) path.1

-- ---- the walk

-- the keys are reached, they have what a names, and what those before the place name
pub record Walked (text : Text) (a : NamedPattern) (keys : List NamedPattern) (at : ℕ) : Type 0 where
  pub start : (x : NamedPattern) → Contains (named_from text a) x → Contains keys x
  pub closed : (k : ℕ) (d : NamedPattern) → k < at → (x : NamedPattern) → Contains (named_from text (get_or keys k d)) x → Contains keys x
  pub sound : (x : NamedPattern) → Contains keys x → (between : List NamedPattern) × Reaches text a between x
  pub within : at ≤ length keys

pub walk_begins : (text : Text) (a : NamedPattern) (old keys : List NamedPattern) → old ≡ [] → Gains old (named_from text a) keys → Walked text a keys 0
walk_begins text a old keys empty gains = record {
  start = gains.each;
  closed = λ k d below. absurd (omega arith);
  sound = λ x has. elim (gains.only x has) [
    | inl before ↦ absurd (none_in x (subst (λ (l : List NamedPattern). Contains l x) empty before))
    | inr named ↦ ([], listed_names text a x named)
  ];
  within = omega arith;
}

pub walk_goes_on : (text : Text) (a : NamedPattern) (keys new : List NamedPattern) (at : ℕ) (next : NamedPattern) → Walked text a keys at → slice_get keys at ≡ Some next → Gains keys (named_from text next) new → Walked text a new (at + 1)
walk_goes_on text a keys new at next walked found gains =
    let below : at < length keys = slice_get_within keys at next found in
    let place : (d : NamedPattern) → get_or keys at d ≡ next = λ d. get_or_from_slice_get keys at next d found in
    let longer : length new ≡ length keys + length gains.grown.0 = ap length gains.grown.1 ∙ length-append keys gains.grown.0 in
    record {
      start = λ x has. older x (walked.start x has);
      closed = λ k d less x has.
          let there : get_or new k d ≡ get_or keys k d = ap (λ l. get_or l k d) gains.grown.1 ∙ get_or_append_left keys gains.grown.0 d k (omega arith) in
          elim (cases_lt k at) [
            | inl before ↦ older x (walked.closed k d before x (subst (λ (z : NamedPattern). Contains (named_from text z) x) there has))
            | inr past ↦ (let here : k ≡ at = omega arith in gains.each x (subst (λ (z : NamedPattern). Contains (named_from text z) x) (there ∙ ap (λ j. get_or keys j d) here ∙ place d) has))
          ];
      sound = λ x has. elim (gains.only x has) [
        | inl before ↦ walked.sound x before
        | inr named ↦ (let way = walked.sound next (at, below, place next) in (way.0 ++ next ∷ [], path_then text a next x way.0 way.1 (listed_names text next x named)))
      ];
      within = omega (arith, below, longer);
    }
  where
    older : (x : NamedPattern) → Contains keys x → Contains new x
    older x has = subst (λ (l : List NamedPattern). Contains l x) (sym gains.grown.1) (Contains-append_left keys gains.grown.0 x has)

-- at its end the walk has reached all that there is to reach
pub walk_ends : (text : Text) (a : NamedPattern) (keys : List NamedPattern) (at : ℕ) → Walked text a keys at → length keys ≤ at → (Contains keys a → ReachesItself text a) × (ReachesItself text a → Contains keys a)
walk_ends text a keys at walked past = (walked.sound a, λ way. reached way.0 way.1)
  where
    closed : (x : NamedPattern) → Contains keys x → (y : NamedPattern) → Contains (named_from text x) y → Contains keys y
    closed x has y named =
        let below : has.0 < length keys = has.1 in
        walked.closed has.0 x (omega (arith, below, past)) y (subst (λ (z : NamedPattern). Contains (named_from text z) y) (sym has.2) named)

    reached : (between : List NamedPattern) → Reaches text a between a → Contains keys a
    reached [] names = walked.start a (names_listed text a a names)
    reached (d ∷ between) path = inside text keys closed between d a (walked.start d (names_listed text a d path.0)) path.1
