-- What the terms of a contractum draw: each new node's arcs lead to new nodes below a count, or to names that are known.
use Rattle.std.proofs.Common.{◌≡◌, ℕ, ◌+◌, ◌<◌, ◌≤◌, Bool, true, false, List, [], ◌∷◌, map, length, length-append, Option, Some, None, refl, sym, ap, subst, ◌∙◌, arith, inl, inr, ℤ}
use Rattle.std.specs.List.{flat_map, list_all}
use Rattle.dactl_model.proofs.Unique.{left_true, right_true}
use Rattle.dactl_base.specs.declared.refusal.Place.{Place}
use Rattle.dactl_meaning.specs.declared.tree.Name.{Name}
use Rattle.dactl_meaning.specs.declared.tree.Marks.{Marks}
use Rattle.dactl_meaning.specs.declared.tree.NodeTree.{NodeTree}
use Rattle.dactl_meaning.specs.declared.tree.ArgTree.{ArgTree}
use Rattle.dactl_meaning.specs.declared.tree.TermTree.{TermTree}
use Rattle.dactl_meaning.specs.declared.tree.NodeTree.TheOpen.{NodeTree-F, ArgTree-F, TermTree-F}
use Rattle.dactl_meaning.specs.declared.tree.NodeTree.TheViews.{roll-NodeTree, roll-ArgTree, roll-TermTree}
use Rattle.dactl_meaning.specs.declared.tree.NodeTree.TheFolds.{fold-NodeTree, fold-ArgTree, fold-roll-NodeTree, fold-roll-ArgTree, fold-roll-TermTree, map-NodeTree, map-TermTree}
use Rattle.dactl_meaning.specs.Uses.{Use, joined, node_uses_level, arg_uses_level, term_uses_level, term_uses}
use Rattle.dactl_meaning.specs.Contractum.{Target, Made, Named, Core, Number, Character, Of, Sketch, Drawn, DrawnArc, drawn_from, drawn_node, node_drawn, arg_drawn, term_drawn, node_draws, arg_draws, term_draws, terms_draw, MentionTree, node_mentions, arg_mentions, term_mentions, mentions_in}
use Rattle.dactl_model.specs.Integers.{is_word}
use Rattle.dactl_meaning.specs.Spelling.{is_counted, node_whole, arg_whole, term_whole, is_whole, node_narrow, arg_narrow, term_narrow, is_narrow_term}
use Rattle.dactl_validity.proofs.ValidLists.{In, in_left, in_right, map_in, flat_in}
use Rattle.dactl_meaning.proofs.Induction.{Each}
use Rattle.dactl_validity.proofs.ValidTrees.{term_induction}

-- a target is a new node below the bound, or a name that is known
abbrev pub Within : ℕ → (List ℕ → Type 0) → Target → Type 0
Within b Known (Made k) = k < b
Within b Known (Named w) = Known w

-- what is known of terms: how many new nodes there are, the names that may be mentioned, those that may be used, and whether integers have 64 bits and there is no character
pub record Limits : Type 1 where
  pub bound : ℕ
  pub Known : List ℕ → Type 0
  pub Used : Name → Type 0
  pub Strict : Type 0

-- an integer or a character has no arcs, and a symbol's name is used
abbrev pub IsCore : (Name → Type 0) → Core → List (Bool × Target) → Type 0
IsCore Used (Number value) arcs = arcs ≡ []
IsCore Used (Character value) arcs = arcs ≡ []
IsCore Used (Of name) arcs = Used name

-- what the new node is made of is no character, and where it is an integer, one of 64 bits
abbrev pub is_narrow_core : Core → Bool
is_narrow_core (Number value) = is_word value
is_narrow_core (Character value) = false
is_narrow_core (Of name) = true

pub record IsSketch (limits : Limits) (s : Sketch) : Type 0 where
  pub arcs : (a : Bool × Target) → In s.arcs a → Within limits.bound limits.Known a.1
  pub core : IsCore limits.Used s.core s.arcs
  pub marks : is_counted s.marks ≡ true
  pub narrow : limits.Strict → is_narrow_core s.core ≡ true

pub record IsDrawn (limits : Limits) (d : Drawn) : Type 0 where
  pub target : Within limits.bound limits.Known d.target
  pub made : (s : Sketch) → In d.made s → IsSketch limits s

-- ---- the definitions at each kind of tree

abbrev Node : Type 0
Node = ℕ → Option Name → Marks → Drawn

abbrev node_mentioned : NodeTree → List MentionTree
node_mentioned = fold-NodeTree (List MentionTree) (List MentionTree) (List MentionTree) node_mentions arg_mentions term_mentions

abbrev arg_mentioned : ArgTree → List MentionTree
arg_mentioned = fold-ArgTree (List MentionTree) (List MentionTree) (List MentionTree) node_mentions arg_mentions term_mentions

abbrev node_uses : NodeTree → List Use
node_uses = fold-NodeTree (List Use) (List Use) (List Use) node_uses_level arg_uses_level term_uses_level

abbrev arg_uses : ArgTree → List Use
arg_uses = fold-ArgTree (List Use) (List Use) (List Use) node_uses_level arg_uses_level term_uses_level

abbrev whole_node : NodeTree → Bool
whole_node = fold-NodeTree Bool Bool Bool node_whole arg_whole term_whole

abbrev whole_arg : ArgTree → Bool
whole_arg = fold-ArgTree Bool Bool Bool node_whole arg_whole term_whole

abbrev narrow_node : NodeTree → Bool
narrow_node = fold-NodeTree Bool Bool Bool node_narrow arg_narrow term_narrow

abbrev narrow_arg : ArgTree → Bool
narrow_arg = fold-ArgTree Bool Bool Bool node_narrow arg_narrow term_narrow

module _ (limits : Limits) where
  -- what a tree is to give: it is whole, and narrow where that is asked, its mentions are known and its uses are used
  abbrev Given : Bool → Bool → List MentionTree → List Use → Type 0
  Given whole narrow mentions uses = (whole ≡ true) × (limits.Strict → narrow ≡ true) × ((m : MentionTree) → In mentions m → limits.Known m.name.text) × ((u : Use) → In uses u → limits.Used u.name)

  moved : (v w m n : Bool) (xs ys : List MentionTree) (us vs : List Use) → v ≡ w → m ≡ n → xs ≡ ys → us ≡ vs → Given v m xs us → Given w n ys vs
  moved v w m n xs ys us vs whole narrow mentions uses given =
      (sym whole ∙ given.0, λ s. sym narrow ∙ given.1 s, λ x h. given.2 x (subst (λ l. In l x) (sym mentions) h), λ u h. given.3 u (subst (λ l. In l u) (sym uses) h))

  abbrev IsNode : NodeTree → Type 0
  IsNode t = (k : ℕ) (name : Option Name) (m : Marks) → is_counted m ≡ true → k + length (node_draws t k name m).made ≤ limits.bound
      → Given (whole_node t) (narrow_node t) (node_mentioned t) (node_uses t) → IsDrawn limits (node_draws t k name m)

  abbrev IsArg : ArgTree → Type 0
  IsArg t = (k : ℕ) → k + length (arg_draws t k).drawn.made ≤ limits.bound → Given (whole_arg t) (narrow_arg t) (arg_mentioned t) (arg_uses t) → IsDrawn limits (arg_draws t k).drawn

  abbrev IsTerm : TermTree → Type 0
  IsTerm t = (k : ℕ) → k + length (term_draws t k).made ≤ limits.bound → Given (is_whole t) (is_narrow_term t) (mentions_in t) (term_uses t) → IsDrawn limits (term_draws t k)

  node_opened : (x : NodeTree-F NodeTree ArgTree TermTree)
      → ((k : ℕ) (name : Option Name) (m : Marks) → is_counted m ≡ true
      → k + length (node_drawn (map-NodeTree NodeTree ArgTree TermTree Node (ℕ → DrawnArc) (ℕ → Drawn) node_draws arg_draws term_draws x) k name m).made ≤ limits.bound
      → Given (node_whole (map-NodeTree NodeTree ArgTree TermTree Bool Bool Bool whole_node whole_arg is_whole x))
      (node_narrow (map-NodeTree NodeTree ArgTree TermTree Bool Bool Bool narrow_node narrow_arg is_narrow_term x))
      (node_mentions (map-NodeTree NodeTree ArgTree TermTree (List MentionTree) (List MentionTree) (List MentionTree) node_mentioned arg_mentioned mentions_in x))
      (node_uses_level (map-NodeTree NodeTree ArgTree TermTree (List Use) (List Use) (List Use) node_uses arg_uses term_uses x))
      → IsDrawn limits (node_drawn (map-NodeTree NodeTree ArgTree TermTree Node (ℕ → DrawnArc) (ℕ → Drawn) node_draws arg_draws term_draws x) k name m))
      → IsNode (roll-NodeTree x)
  node_opened x claim k name m counted fits given =
      let draw = ap (λ (f : Node). f k name m) (fold-roll-NodeTree Node (ℕ → DrawnArc) (ℕ → Drawn) node_drawn arg_drawn term_drawn x) in
      subst (IsDrawn limits) (sym draw) (claim k name m counted (subst (λ (d : Drawn). k + length d.made ≤ limits.bound) draw fits) (moved _ _ _ _ _ _ _ _
      (fold-roll-NodeTree Bool Bool Bool node_whole arg_whole term_whole x)
      (fold-roll-NodeTree Bool Bool Bool node_narrow arg_narrow term_narrow x)
      (fold-roll-NodeTree (List MentionTree) (List MentionTree) (List MentionTree) node_mentions arg_mentions term_mentions x)
      (fold-roll-NodeTree (List Use) (List Use) (List Use) node_uses_level arg_uses_level term_uses_level x) given))

  arg_opened : (waits : Bool) (term : TermTree) → IsTerm term → IsArg (roll-ArgTree (record { waits = waits; term = term }))
  arg_opened waits term ih k fits given =
      let x : ArgTree-F NodeTree ArgTree TermTree = record { waits = waits; term = term } in
      let draw : (arg_draws (roll-ArgTree x) k).drawn ≡ term_draws term k = ap (λ (f : ℕ → DrawnArc). (f k).drawn) (fold-roll-ArgTree Node (ℕ → DrawnArc) (ℕ → Drawn) node_drawn arg_drawn term_drawn x) in
      subst (IsDrawn limits) (sym draw) (ih k (subst (λ (d : Drawn). k + length d.made ≤ limits.bound) draw fits) (moved _ _ _ _ _ _ _ _
      (fold-roll-ArgTree Bool Bool Bool node_whole arg_whole term_whole x)
      (fold-roll-ArgTree Bool Bool Bool node_narrow arg_narrow term_narrow x)
      (fold-roll-ArgTree (List MentionTree) (List MentionTree) (List MentionTree) node_mentions arg_mentions term_mentions x)
      (fold-roll-ArgTree (List Use) (List Use) (List Use) node_uses_level arg_uses_level term_uses_level x) given))

  term_opened : (x : TermTree-F NodeTree ArgTree TermTree)
      → ((k : ℕ) → k + length (term_drawn (map-TermTree NodeTree ArgTree TermTree Node (ℕ → DrawnArc) (ℕ → Drawn) node_draws arg_draws term_draws x) k).made ≤ limits.bound
      → Given (term_whole (map-TermTree NodeTree ArgTree TermTree Bool Bool Bool whole_node whole_arg is_whole x))
      (term_narrow (map-TermTree NodeTree ArgTree TermTree Bool Bool Bool narrow_node narrow_arg is_narrow_term x))
      (term_mentions (map-TermTree NodeTree ArgTree TermTree (List MentionTree) (List MentionTree) (List MentionTree) node_mentioned arg_mentioned mentions_in x))
      (term_uses_level (map-TermTree NodeTree ArgTree TermTree (List Use) (List Use) (List Use) node_uses arg_uses term_uses x))
      → IsDrawn limits (term_drawn (map-TermTree NodeTree ArgTree TermTree Node (ℕ → DrawnArc) (ℕ → Drawn) node_draws arg_draws term_draws x) k))
      → IsTerm (roll-TermTree x)
  term_opened x claim k fits given =
      let draw = ap (λ (f : ℕ → Drawn). f k) (fold-roll-TermTree Node (ℕ → DrawnArc) (ℕ → Drawn) node_drawn arg_drawn term_drawn x) in
      subst (IsDrawn limits) (sym draw) (claim k (subst (λ (d : Drawn). k + length d.made ≤ limits.bound) draw fits) (moved _ _ _ _ _ _ _ _
      (fold-roll-TermTree Bool Bool Bool node_whole arg_whole term_whole x)
      (fold-roll-TermTree Bool Bool Bool node_narrow arg_narrow term_narrow x)
      (fold-roll-TermTree (List MentionTree) (List MentionTree) (List MentionTree) node_mentions arg_mentions term_mentions x)
      (fold-roll-TermTree (List Use) (List Use) (List Use) node_uses_level arg_uses_level term_uses_level x) given))

  -- ---- arguments

  abbrev made_below : List DrawnArc → List Sketch
  made_below ds = flat_map (λ d. d.drawn.made) ds

  args_drawn : (args : List ArgTree) → Each IsArg args → (k : ℕ) → k + length (made_below (drawn_from k (map arg_draws args))) ≤ limits.bound
      → Given (list_all (λ c. c) (map whole_arg args)) (list_all (λ c. c) (map narrow_arg args)) (flat_map (λ (l : List MentionTree). l) (map arg_mentioned args)) (joined (map arg_uses args))
      → (d : DrawnArc) → In (drawn_from k (map arg_draws args)) d → IsDrawn limits d.drawn
  args_drawn [] each k fits given d h = absurd h
  args_drawn (a ∷ args) each k fits given d h =
      let here = (arg_draws a k).drawn.made in
      let later = made_below (drawn_from (k + length here) (map arg_draws args)) in
      let long = length-append here later in
      elim h [
        | inl e ↦ subst (λ (z : DrawnArc). IsDrawn limits z.drawn) e (each.0 k (omega (arith, long, fits))
            (left_true _ _ given.0, λ s. left_true _ _ (given.1 s), λ m i. given.2 m (in_left _ _ m i), λ u i. given.3 u (in_left _ _ u i)))
        | inr more ↦ args_drawn args each.1 (k + length here) (omega (arith, long, fits))
            (right_true _ _ given.0, λ s. right_true (narrow_arg a) _ (given.1 s), λ m i. given.2 m (in_right (arg_mentioned a) _ m i), λ u i. given.3 u (in_right (arg_uses a) _ u i)) d more
      ]

  -- ---- nodes and terms

  leaf_drawn : (k : ℕ) (name : Option Name) (m : Marks) (c : Core) → is_counted m ≡ true → k + 1 ≤ limits.bound → IsCore limits.Used c [] → (limits.Strict → is_narrow_core c ≡ true) → IsDrawn limits (drawn_node k name m c [])
  leaf_drawn k name m c counted fits core narrow = record {
    target = omega (arith, fits);
    made = λ s h. elim h [ inl e ↦ subst (IsSketch limits) e (record { arcs = λ a i. absurd i; core = core; marks = counted; narrow = narrow }) | inr none ↦ absurd none ];
  }

  integer_drawn : (value : ℤ) (place : Place) → IsNode (roll-NodeTree (NodeTree-F.Integer value place))
  integer_drawn value place = node_opened (NodeTree-F.Integer value place) (λ k name m counted fits given. leaf_drawn k name m (Number value) counted fits refl given.1)

  letter_drawn : (value : ℕ) (place : Place) → IsNode (roll-NodeTree (NodeTree-F.Letter value place))
  letter_drawn value place = node_opened (NodeTree-F.Letter value place) (λ k name m counted fits given. leaf_drawn k name m (Character value) counted fits refl given.1)

  symbol_drawn : (name : Name) (args : List ArgTree) → Each IsArg args → IsNode (roll-NodeTree (NodeTree-F.Sym name args))
  symbol_drawn symbol args each = node_opened (NodeTree-F.Sym symbol args) (λ k name m counted fits given.
      let ds = drawn_from (k + 1) (map arg_draws args) in
      let all : (d : DrawnArc) → In ds d → IsDrawn limits d.drawn = args_drawn args each (k + 1) (omega (arith, fits)) (given.0, given.1, given.2, λ u i. given.3 u (inr i)) in
      record {
        target = omega (arith, fits);
        made = λ s h. elim h [
          | inl e ↦ subst (IsSketch limits) e (record {
            arcs = λ a i. (let r = map_in (λ (d : DrawnArc). (d.waits, d.drawn.target)) ds a i in subst (λ (z : Bool × Target). Within limits.bound limits.Known z.1) r.2 (all r.0 r.1).target);
            core = given.3 _ (inl refl);
            marks = counted;
            narrow = λ s. refl;
          })
          | inr below ↦ (let r = flat_in (λ (d : DrawnArc). d.drawn.made) ds s below in (all r.0 r.1).made s r.2)
        ];
      })

  bare_drawn : (marks : Marks) (name : Option Name) → IsTerm (roll-TermTree (record { marks = marks; name = name; node = None }))
  bare_drawn marks None = term_opened (record { marks = marks; name = None; node = None }) (λ k fits given. absurd (let e : false ≡ true = right_true (is_counted marks) false given.0 in cc))
  bare_drawn marks (Some name) = term_opened (record { marks = marks; name = Some name; node = None }) (λ k fits given. record { target = given.2 _ (inl refl); made = λ s h. absurd h })

  node_term : (marks : Marks) (name : Option Name) (node : NodeTree) → IsNode node → IsTerm (roll-TermTree (record { marks = marks; name = name; node = Some node }))
  node_term marks name node ih = term_opened (record { marks = marks; name = name; node = Some node }) (λ k fits given. ih k name marks (left_true _ _ given.0) fits (right_true (is_counted marks) _ given.0, given.1, given.2, given.3))

  term_is_drawn : (t : TermTree) → IsTerm t
  term_is_drawn = term_induction IsNode IsArg IsTerm (record { integer = integer_drawn; letter = letter_drawn; symbol = symbol_drawn; arg = arg_opened; bare = bare_drawn; made = node_term })

  -- terms one after another
  pub terms_drawn : (terms : List TermTree) (k : ℕ) → k + length (flat_map (λ (d : Drawn). d.made) (terms_draw k terms)) ≤ limits.bound → ((t : TermTree) → In terms t → is_whole t ≡ true)
      → (limits.Strict → (t : TermTree) → In terms t → is_narrow_term t ≡ true)
      → ((m : MentionTree) → In (flat_map mentions_in terms) m → limits.Known m.name.text) → ((u : Use) → In (flat_map term_uses terms) u → limits.Used u.name)
      → (d : Drawn) → In (terms_draw k terms) d → IsDrawn limits d
  terms_drawn [] k fits whole narrow known used d h = absurd h
  terms_drawn (t ∷ terms) k fits whole narrow known used d h =
      let here = (term_draws t k).made in
      let later = flat_map (λ (d : Drawn). d.made) (terms_draw (k + length here) terms) in
      let long = length-append here later in
      elim h [
        | inl e ↦ subst (IsDrawn limits) e (term_is_drawn t k (omega (arith, long, fits)) (whole t (inl refl), λ s. narrow s t (inl refl), λ m i. known m (in_left _ _ m i), λ u i. used u (in_left _ _ u i)))
        | inr more ↦ terms_drawn terms (k + length here) (omega (arith, long, fits)) (λ x i. whole x (inr i)) (λ s x i. narrow s x (inr i)) (λ m i. known m (in_right (mentions_in t) _ m i)) (λ u i. used u (in_right (term_uses t) _ u i)) d more
      ]
