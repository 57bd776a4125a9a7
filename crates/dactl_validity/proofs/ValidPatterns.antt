-- The expansion of a pattern: its symbols, its variables and where they stand.
use Rattle.std.proofs.Common.{◌≡◌, ℕ, zero, suc, ◌<◌, Bool, true, false, not, ◌||◌, ◌&&◌, List, [], ◌∷◌, ◌++◌, map, Option, Some, None, refl, sym, ap, subst, ◌∙◌, ◌==◌, ◌⊎◌, inl, inr}
use Rattle.std.specs.List.{flat_map, list_all}
use Rattle.std.proofs.lemmas.Bool.{eqb-true, eq-eqb}
use Rattle.dactl_model.specs.declared.program.Class.{Class}
use Rattle.dactl_model.specs.declared.program.Pat.{Pat}
use Rattle.dactl_model.specs.declared.program.Pat.TheOpen.{Pat-F}
use Rattle.dactl_model.specs.declared.program.Pat.TheViews.{roll-Pat}
use Rattle.dactl_model.specs.declared.program.Pat.TheFolds.{fold-Pat, fold-roll-Pat, map-Pat}
use Rattle.dactl_model.specs.Integers.{is_word}
use Rattle.dactl_model.specs.Binders.{binds, binds_level, any_true, allows, in_place_level, all_allow}
use Rattle.dactl_model.specs.Programs.{symbols_below, symbols_level}
use Rattle.dactl_model.proofs.Found.{binds_roll, allows_roll, or_cases}
use Rattle.dactl_model.proofs.Unique.{left_true, right_true}
use Rattle.dactl_meaning.specs.declared.tree.Sign.{Sign}
use Rattle.dactl_meaning.specs.declared.tree.Sign.TheVariants as signs
use Rattle.dactl_meaning.specs.declared.tree.PatternTree.{PatternTree}
use Rattle.dactl_meaning.specs.declared.tree.PatternTree.TheOpen.{PatternTree-F}
use Rattle.dactl_meaning.specs.declared.tree.Text.{Text}
use Rattle.dactl_meaning.specs.Declarations.{named_pattern}
use Rattle.dactl_meaning.specs.Sight.{Seen, SeenSymbol, SeenPattern, sees}
use Rattle.dactl_meaning.specs.Uses.{Use, joined, pattern_uses}
use Rattle.dactl_meaning.specs.Expansion.{Occurrence, is_plus, has_plus, occurrences_in, at_name, at_variable, join, chain, expansion_by, expansion_of, named_expansion, number_in}
use Rattle.dactl_validity.proofs.ValidLists.{In, in_left, in_right, in_either}
use Rattle.dactl_validity.proofs.ValidTests.{both, or_left, or_right, or_false, or_assoc, neither, not_either, test_below}
use Rattle.dactl_meaning.specs.Spelling.{is_narrow_pattern}
use Rattle.dactl_validity.proofs.ValidViews.{Views, Below, expand, views, views_level, view_induction}
use Rattle.dactl_meaning.proofs.Induction.{Each, EachLink, plus_kept}

-- ---- what the levels of an expansion keep

-- the symbols that a module sees are among so many
abbrev pub SeesBelow : ℕ → (List ℕ → Option Seen) → Type 0
SeesBelow count look = (w : List ℕ) (f : ℕ) (class : Class) → look w ≡ Some (SeenSymbol f class) → f < count

-- variables get numbers
abbrev Counted : Option (List (List ℕ)) → Type 0
Counted None = ⊥
Counted (Some vs) = Unit {0}

-- what is known of one level: the fact of what is below, symbols among so many, binders where variables get numbers, and where it is asked, no wide integer and no character
abbrev pub Kept : {A : Type 0} → (A → Type 0) → ℕ → Option (List (List ℕ)) → Type 0 → Pat-F A → Type 0
Kept P count variables Strict Pat-F.Char = Strict → ⊥
Kept P count variables Strict (Pat-F.Literal i) = Strict → is_word i ≡ true
Kept P count variables Strict (Pat-F.Letter c) = Strict → ⊥
Kept P count variables Strict (Pat-F.Sym f args) = (f < count) × Each P args
Kept P count variables Strict (Pat-F.Bind v q) = Counted variables × P q
Kept P count variables Strict (Pat-F.Union q s) = P q × P s
Kept P count variables Strict (Pat-F.Less q s) = P q × P s
Kept P count variables Strict x = Unit {0}

module _ {A : Type 0} (level : Pat-F A → A) (P : A → Type 0) (count : ℕ) (Strict : Type 0) where
  abbrev Holds : Pat → Type 0
  Holds p = P (fold-Pat A level p)

  abbrev pub Keeps : Option (List (List ℕ)) → Type 0
  Keeps variables = (x : Pat-F A) → Kept P count variables Strict x → P (level x)

  module _ (look : List ℕ → Option Seen) (named : ℕ → ℕ → Pat) (variables : Option (List (List ℕ))) (claim : Keeps variables)
      (below : SeesBelow count look) (inner : (m i : ℕ) → Holds (named m i)) where
    kept_roll : (x : Pat-F Pat) → Kept P count variables Strict (map-Pat Pat A (fold-Pat A level) x) → Holds (roll-Pat x)
    kept_roll x k = subst P (sym (fold-roll-Pat A level x)) (claim (map-Pat Pat A (fold-Pat A level) x) k)

    kept_variable : (o : Option (List (List ℕ))) → variables ≡ o → (w : List ℕ) (p : Pat) → Holds p → Holds (at_variable o w p)
    kept_variable None is w p h = h
    kept_variable (Some vs) is w p h = kept_roll (Pat-F.Bind (number_in vs w) p) (subst Counted (sym is) tt, h)

    -- narrow, where it is asked, so is the expansion what it is to be
    abbrev IsKept : Views → Type 0
    IsKept v = (Strict → v.narrow ≡ true) → Holds v.expansion

    abbrev KeptTree : PatternTree → Type 0
    KeptTree t = IsKept (views look named variables t)

    kept_all : (args : List PatternTree) → Each KeptTree args → (Strict → list_all (λ b. b) (map is_narrow_pattern args) ≡ true) → Each P (map (fold-Pat A level) (map (expand look named variables) args))
    kept_all [] each h = tt
    kept_all (a ∷ args) each h = (each.0 (λ s. left_true _ _ (h s)), kept_all args each.1 (λ s. right_true (is_narrow_pattern a) _ (h s)))

    kept_name : (w : List ℕ) (seen : Option Seen) (args : List Pat) → look w ≡ seen → Each P (map (fold-Pat A level) args) → Holds (at_name named seen args)
    kept_name w None args e h = kept_roll Pat-F.Any tt
    kept_name w (Some (SeenSymbol f class)) args e h = kept_roll (Pat-F.Sym f args) (below w f class e, h)
    kept_name w (Some (SeenPattern m i)) args e h = inner m i

    kept_join : (s : Sign) (p q : Pat) → Holds p → Holds q → Holds (join s p q)
    kept_join signs.Plus p q h k = kept_roll (Pat-F.Union p q) (h, k)
    kept_join signs.Minus p q h k = kept_roll (Pat-F.Less p q) (h, k)

    kept_chain : (p : Pat) (rest : List (Sign × PatternTree)) → Holds p → EachLink KeptTree rest → (Strict → list_all (λ (l : Sign × Bool). l.1) (map (λ (l : Sign × PatternTree). (l.0, is_narrow_pattern l.1)) rest) ≡ true)
        → Holds (chain p (map (λ l. (l.0, expand look named variables l.1)) rest))
    kept_chain p [] h each k = h
    kept_chain p (l ∷ rest) h each k =
        kept_chain (join l.0 p _) rest (kept_join l.0 p _ h (each.0 (λ s. left_true (is_narrow_pattern l.1) _ (k s)))) each.1 (λ s. right_true (is_narrow_pattern l.1) _ (k s))

    kept_level : (x : PatternTree-F PatternTree) → Below KeptTree x → IsKept (views_level look named variables x)
    kept_level PatternTree-F.Char none h = kept_roll Pat-F.Char (λ s. (let e : false ≡ true = h s in absurd cc))
    kept_level (PatternTree-F.Integer i) none h = kept_roll (Pat-F.Literal i) h
    kept_level (PatternTree-F.Letter c) none h = kept_roll (Pat-F.Letter c) (λ s. (let e : false ≡ true = h s in absurd cc))
    kept_level (PatternTree-F.Sym name args) each h = kept_name name.text (look name.text) _ refl (kept_all args each h)
    kept_level (PatternTree-F.Variable name) none h = kept_variable variables refl name.text _ (kept_roll Pat-F.Any tt)
    kept_level (PatternTree-F.Binder name t) kept h = kept_variable variables refl name.text _ (kept h)
    kept_level (PatternTree-F.Chain first rest) kept h = kept_chain _ rest (kept.0 (λ s. left_true (is_narrow_pattern first) _ (h s))) kept.1 (λ s. right_true (is_narrow_pattern first) _ (h s))
    kept_level x none h = kept_roll _ tt

    pub expansion_kept : (t : PatternTree) → (Strict → is_narrow_pattern t ≡ true) → Holds (expand look named variables t)
    expansion_kept = view_induction look named variables IsKept kept_level

    pub tree_kept : (tree : Option PatternTree) → variables ≡ None → (Strict → (t : PatternTree) → tree ≡ Some t → is_narrow_pattern t ≡ true) → Holds (expansion_of named look tree)
    tree_kept None is h = kept_roll Pat-F.Any tt
    tree_kept (Some t) is h = subst (λ (o : Option (List (List ℕ))). Holds (expand look named o t)) is (expansion_kept t (λ s. h s t refl))

  -- named patterns, one inside another
  pub named_kept : (text : Text) → Keeps None → ((m : ℕ) → SeesBelow count (sees text m)) → ((m i : ℕ) → Strict → (t : PatternTree) → named_pattern text m i ≡ Some t → is_narrow_pattern t ≡ true)
      → (depth m i : ℕ) → Holds (named_expansion text depth m i)
  named_kept text claim below narrow zero m i = subst P (sym (fold-roll-Pat A level Pat-F.Any)) (claim Pat-F.Any tt)
  named_kept text claim below narrow (suc depth) m i =
      tree_kept (sees text m) (named_expansion text depth) None claim (below m) (named_kept text claim below narrow depth) (named_pattern text m i) refl (narrow m i)

-- ---- symbols, and patterns in which no binder stands

pub all_true : (bs : List Bool) → Each (λ b. b ≡ true) bs → list_all (λ b. b) bs ≡ true
all_true [] h = refl
all_true (b ∷ bs) h = both _ _ h.0 (all_true bs h.1)

none_true : (bs : List Bool) → Each (λ b. b ≡ false) bs → any_true bs ≡ false
none_true [] h = refl
none_true (b ∷ bs) h = neither _ _ h.0 (none_true bs h.1)

abbrev Allowing : (Bool → Bool) → Type 0
Allowing test = (b : Bool) → test b ≡ true

all_allowing : (tests : List (Bool → Bool)) (b : Bool) → Each Allowing tests → all_allow tests b ≡ true
all_allowing [] b h = refl
all_allowing (t ∷ tests) b h = both _ _ (h.0 b) (all_allowing tests b h.1)

symbols_kept : (count : ℕ) (variables : Option (List (List ℕ))) → Keeps (symbols_level count) (λ b. b ≡ true) count ⊥ variables
symbols_kept count variables (Pat-F.Sym f args) k = both _ _ (test_below f count k.0) (all_true args k.1)
symbols_kept count variables (Pat-F.Bind v q) k = k.1
symbols_kept count variables (Pat-F.Union q s) k = both _ _ k.0 k.1
symbols_kept count variables (Pat-F.Less q s) k = both _ _ k.0 k.1
symbols_kept count variables x k = refl

unbinding_kept : (count v : ℕ) → Keeps (binds_level v) (λ b. b ≡ false) count ⊥ None
unbinding_kept count v (Pat-F.Sym f args) k = none_true args k.1
unbinding_kept count v (Pat-F.Bind w q) k = absurd k.0
unbinding_kept count v (Pat-F.Union q s) k = neither _ _ k.0 k.1
unbinding_kept count v (Pat-F.Less q s) k = neither _ _ k.0 k.1
unbinding_kept count v x k = refl

allowing_kept : (count : ℕ) → Keeps in_place_level Allowing count ⊥ None
allowing_kept count (Pat-F.Sym f args) k b = all_allowing args b k.1
allowing_kept count (Pat-F.Bind v q) k b = absurd k.0
allowing_kept count (Pat-F.Union q s) k b = both _ _ (k.0 false) (k.1 false)
allowing_kept count (Pat-F.Less q s) k b = both _ _ (k.0 b) (k.1 false)
allowing_kept count x k b = refl

-- a named pattern has symbols among so many, and no binders
pub record Plain (count : ℕ) (p : Pat) : Type 0 where
  pub symbols : symbols_below count p ≡ true
  pub unbinding : (v : ℕ) → binds v p ≡ false
  pub allowing : (b : Bool) → allows p b ≡ true

pub named_plain : (text : Text) (count : ℕ) → ((m : ℕ) → SeesBelow count (sees text m)) → (depth m i : ℕ) → Plain count (named_expansion text depth m i)
named_plain text count below depth m i = record {
  symbols = named_kept (symbols_level count) (λ b. b ≡ true) count ⊥ text (symbols_kept count None) below (λ k j s. absurd s) depth m i;
  unbinding = λ v. named_kept (binds_level v) (λ b. b ≡ false) count ⊥ text (unbinding_kept count v) below (λ k j s. absurd s) depth m i;
  allowing = named_kept in_place_level Allowing count ⊥ text (allowing_kept count) below (λ k j s. absurd s) depth m i;
}

pub symbols_expanded : (count : ℕ) (look : List ℕ → Option Seen) (named : ℕ → ℕ → Pat) (variables : List (List ℕ)) → SeesBelow count look → ((m i : ℕ) → Plain count (named m i))
    → (tree : PatternTree) → symbols_below count (expansion_by look named (Some variables) tree) ≡ true
symbols_expanded count look named variables below inner tree =
    expansion_kept (symbols_level count) (λ b. b ≡ true) count ⊥ look named (Some variables) (symbols_kept count (Some variables)) below (λ m i. (inner m i).symbols) tree (λ s. absurd s)

-- ---- where the variables of a rule's pattern stand

-- the module sees a symbol under that name
abbrev pub SeesSymbol : (List ℕ → Option Seen) → List ℕ → Type 0
SeesSymbol look w = (f : ℕ) × (class : Class) × (look w ≡ Some (SeenSymbol f class))

and_never : (b : Bool) → (b && false) ≡ false
and_never true = refl
and_never false = refl

-- a pattern before a sign may have binders where no `+` follows
join_allows : (b plus : Bool) (s : Sign) (p q : Pat) → allows q false ≡ true → allows p (b && not (is_plus s || plus)) ≡ true → allows (join s p q) (b && not plus) ≡ true
join_allows b plus signs.Plus p q e f = allows_roll (Pat-F.Union p q) (b && not plus) ∙ both _ _ (ap (allows p) (sym (and_never b)) ∙ f) e
join_allows b plus signs.Minus p q e f = allows_roll (Pat-F.Less p q) (b && not plus) ∙ both _ _ f e

chain_allows : (b : Bool) (p : Pat) (rest : List (Sign × Pat)) → allows p (b && not (has_plus rest)) ≡ true → EachLink (λ q. allows q false ≡ true) rest → allows (chain p rest) b ≡ true
chain_allows b p [] h k = subst (λ c. allows p c ≡ true) (and_always b) h
  where
    and_always : (b : Bool) → (b && true) ≡ b
    and_always true = refl
    and_always false = refl
chain_allows b p (l ∷ rest) h k = chain_allows b (join l.0 p l.1) rest (join_allows b (has_plus rest) l.0 p l.1 k.0 h) k.1

-- no variable of these places stands in a choice
abbrev OutOfChoice : List Occurrence → Type 0
OutOfChoice os = (o : Occurrence) → In os o → o.in_choice ≡ false

module _ (look : List ℕ → Option Seen) (named : ℕ → ℕ → Pat) (vs : List (List ℕ)) where
  abbrev whole : PatternTree → Pat
  whole = expansion_by look named (Some vs)

  -- where no variable stands in a choice, each binder stands where it may
  abbrev IsPlaced : Views → Type 0
  IsPlaced v = (choice : Bool) → OutOfChoice (v.occurrences choice) → allows v.expansion (not choice) ≡ true

  abbrev Placed : PatternTree → Type 0
  Placed t = IsPlaced (views look named (Some vs) t)

  placed_all : (args : List PatternTree) (choice : Bool) → Each Placed args → OutOfChoice (flat_map (λ (a : Bool → List Occurrence). a choice) (map occurrences_in args)) → all_allow (map allows (map whole args)) (not choice) ≡ true
  placed_all [] choice each h = refl
  placed_all (a ∷ args) choice each h = both _ _ (each.0 choice (λ o k. h o (in_left _ _ o k))) (placed_all args choice each.1 (λ o k. h o (in_right (occurrences_in a choice) _ o k)))

  placed_links : (rest : List (Sign × PatternTree)) → EachLink Placed rest → OutOfChoice (flat_map (λ (l : Sign × (Bool → List Occurrence)). l.1 true) (map (λ l. (l.0, occurrences_in l.1)) rest)) → EachLink (λ q. allows q false ≡ true) (map (λ l. (l.0, whole l.1)) rest)
  placed_links [] each h = tt
  placed_links (l ∷ rest) each h = (each.0 true (λ o k. h o (in_left _ _ o k)), placed_links rest each.1 (λ o k. h o (in_right (occurrences_in l.1 true) _ o k)))

  module _ (inner : (m i : ℕ) (b : Bool) → allows (named m i) b ≡ true) where
    placed_name : (seen : Option Seen) (args : List Pat) (b : Bool) → all_allow (map allows args) b ≡ true → allows (at_name named seen args) b ≡ true
    placed_name None args b h = allows_roll Pat-F.Any b
    placed_name (Some (SeenSymbol f class)) args b h = allows_roll (Pat-F.Sym f args) b ∙ h
    placed_name (Some (SeenPattern m i)) args b h = inner m i b

    placed_binder : (v : ℕ) (p : Pat) (choice : Bool) → choice ≡ false → allows p (not choice) ≡ true → allows (roll-Pat (Pat-F.Bind v p)) (not choice) ≡ true
    placed_binder v p choice out h = allows_roll (Pat-F.Bind v p) (not choice) ∙ both _ _ (ap not out) h

    placed_level : (x : PatternTree-F PatternTree) → Below Placed x → IsPlaced (views_level look named (Some vs) x)
    placed_level (PatternTree-F.Sym name args) each choice h = placed_name (look name.text) (map whole args) (not choice) (placed_all args choice each h)
    placed_level (PatternTree-F.Variable name) none choice h = placed_binder _ _ choice (h _ (inl refl)) (allows_roll Pat-F.Any (not choice))
    placed_level (PatternTree-F.Binder name t) ih choice h = placed_binder _ _ choice (h _ (inl refl)) (ih choice (λ o k. h o (inr k)))
    placed_level (PatternTree-F.Chain first rest) each choice h =
        let linked = map (λ (l : Sign × PatternTree). (l.0, occurrences_in l.1)) rest in
        let here : allows (whole first) (not (choice || has_plus linked)) ≡ true = each.0 (choice || has_plus linked) (λ o k. h o (in_left _ _ o k)) in
        let same : not (choice || has_plus linked) ≡ (not choice && not (has_plus (map (λ (l : Sign × PatternTree). (l.0, whole l.1)) rest))) =
        not_either choice (has_plus linked) ∙ ap (λ (b : Bool). not choice && not b) (plus_kept occurrences_in rest ∙ sym (plus_kept whole rest)) in
        chain_allows (not choice) (whole first) (map (λ l. (l.0, whole l.1)) rest) (subst (λ b. allows (whole first) b ≡ true) same here)
        (placed_links rest each.1 (λ o k. h o (in_right (occurrences_in first (choice || has_plus linked)) _ o k)))
    placed_level x none choice h = allows_roll _ (not choice)

    pub placed : (t : PatternTree) → Placed t
    placed = view_induction look named (Some vs) IsPlaced placed_level

-- ---- the binders of a chain

abbrev any_link : ℕ → List (Sign × Pat) → Bool
any_link v [] = false
any_link v (l ∷ rest) = binds v l.1 || any_link v rest

join_binds : (v : ℕ) (s : Sign) (p q : Pat) → binds v (join s p q) ≡ (binds v p || binds v q)
join_binds v signs.Plus p q = binds_roll v (Pat-F.Union p q)
join_binds v signs.Minus p q = binds_roll v (Pat-F.Less p q)

chain_binds : (v : ℕ) (p : Pat) (rest : List (Sign × Pat)) → binds v (chain p rest) ≡ (binds v p || any_link v rest)
chain_binds v p [] = or_false (binds v p)
chain_binds v p (l ∷ rest) = chain_binds v (join l.0 p l.1) rest ∙ ap (λ (b : Bool). b || any_link v rest) (join_binds v l.0 p l.1) ∙ or_assoc (binds v p) (binds v l.1) (any_link v rest)

-- ---- each binder is at the place of a variable, and each variable has its binder

module _ (look : List ℕ → Option Seen) (named : ℕ → ℕ → Pat) (vs : List (List ℕ)) (inner : (m i v : ℕ) → binds v (named m i) ≡ false) where
  abbrev full : PatternTree → Pat
  full = expansion_by look named (Some vs)

  -- one of the places is of a variable with that number
  abbrev IsNumbered : ℕ → List Occurrence → Type 0
  IsNumbered v os = (o : Occurrence) × In os o × (number_in vs o.name.text ≡ v)

  abbrev IsTold : Views → Type 0
  IsTold of = (v : ℕ) (choice : Bool) → binds v of.expansion ≡ true → IsNumbered v (of.occurrences choice)

  abbrev Told : PatternTree → Type 0
  Told t = IsTold (views look named (Some vs) t)

  numbered_left : (v : ℕ) (xs ys : List Occurrence) → IsNumbered v xs → IsNumbered v (xs ++ ys)
  numbered_left v xs ys h = (h.0, in_left xs ys h.0 h.1, h.2)

  numbered_right : (v : ℕ) (xs ys : List Occurrence) → IsNumbered v ys → IsNumbered v (xs ++ ys)
  numbered_right v xs ys h = (h.0, in_right xs ys h.0 h.1, h.2)

  told_all : (args : List PatternTree) (v : ℕ) (choice : Bool) → Each Told args → any_true (map (binds v) (map full args)) ≡ true → IsNumbered v (flat_map (λ (a : Bool → List Occurrence). a choice) (map occurrences_in args))
  told_all [] v choice each e = absurd cc
  told_all (a ∷ args) v choice each e = elim (or_cases _ _ e) [
    | inl here ↦ numbered_left v _ _ (each.0 v choice here)
    | inr later ↦ numbered_right v (occurrences_in a choice) _ (told_all args v choice each.1 later)
  ]

  told_links : (rest : List (Sign × PatternTree)) (v : ℕ) → EachLink Told rest → any_link v (map (λ l. (l.0, full l.1)) rest) ≡ true → IsNumbered v (flat_map (λ (l : Sign × (Bool → List Occurrence)). l.1 true) (map (λ l. (l.0, occurrences_in l.1)) rest))
  told_links [] v each e = absurd cc
  told_links (l ∷ rest) v each e = elim (or_cases _ _ e) [
    | inl here ↦ numbered_left v _ _ (each.0 v true here)
    | inr later ↦ numbered_right v (occurrences_in l.1 true) _ (told_links rest v each.1 later)
  ]

  told_none : (x : Pat-F Pat) (v : ℕ) → binds v (roll-Pat x) ≡ true → binds_level v (map-Pat Pat Bool (binds v) x) ≡ false → ⊥
  told_none x v e none = let f : false ≡ true = sym none ∙ sym (binds_roll v x) ∙ e in cc

  told_name : (seen : Option Seen) (args : List Pat) (v : ℕ) → binds v (at_name named seen args) ≡ true → any_true (map (binds v) args) ≡ true
  told_name None args v e = absurd (told_none Pat-F.Any v e refl)
  told_name (Some (SeenSymbol f class)) args v e = sym (binds_roll v (Pat-F.Sym f args)) ∙ e
  told_name (Some (SeenPattern m i)) args v e = absurd (let f = sym (inner m i v) ∙ e in cc)

  told_binder : (v : ℕ) (w : List ℕ) (p : Pat) → binds v (roll-Pat (Pat-F.Bind (number_in vs w) p)) ≡ true → (number_in vs w ≡ v) ⊎ (binds v p ≡ true)
  told_binder v w p e = elim (or_cases _ _ (sym (binds_roll v (Pat-F.Bind (number_in vs w) p)) ∙ e)) [ inl here ↦ inl (eqb-true _ _ here) | inr below ↦ inr below ]

  told_level : (x : PatternTree-F PatternTree) → Below Told x → IsTold (views_level look named (Some vs) x)
  told_level (PatternTree-F.Sym name args) each v choice e = told_all args v choice each (told_name (look name.text) (map full args) v e)
  told_level (PatternTree-F.Variable name) none v choice e = elim (told_binder v name.text _ e) [
    | inl is ↦ (_, inl refl, is)
    | inr below ↦ absurd (told_none Pat-F.Any v below refl)
  ]
  told_level (PatternTree-F.Binder name t) ih v choice e = elim (told_binder v name.text _ e) [
    | inl is ↦ (_, inl refl, is)
    | inr below ↦ numbered_right v (record { name = name; given = true; in_choice = choice } ∷ []) _ (ih v choice below)
  ]
  told_level (PatternTree-F.Chain first rest) each v choice e = elim (or_cases _ _ (sym (chain_binds v (full first) (map (λ l. (l.0, full l.1)) rest)) ∙ e)) [
    | inl here ↦ numbered_left v _ _ (each.0 v _ here)
    | inr later ↦ numbered_right v (occurrences_in first (choice || has_plus (map (λ l. (l.0, occurrences_in l.1)) rest))) _ (told_links rest v each.1 later)
  ]
  told_level x none v choice e = absurd (told_none _ v e refl)

  pub told : (t : PatternTree) → Told t
  told = view_induction look named (Some vs) IsTold told_level

  -- each name that has arguments is that of a symbol
  abbrev GiveToSymbols : List Use → Type 0
  GiveToSymbols uses = (u : Use) → In uses u → u.given ≡ true → SeesSymbol look u.name.text

  -- each variable has its binder, where no name but a symbol's has arguments
  abbrev IsBound : Views → Type 0
  IsBound v = GiveToSymbols v.uses → (choice : Bool) (o : Occurrence) → In (v.occurrences choice) o → binds (number_in vs o.name.text) v.expansion ≡ true

  abbrev Bound : PatternTree → Type 0
  Bound t = IsBound (views look named (Some vs) t)

  bound_all : (args : List PatternTree) → Each Bound args → GiveToSymbols (joined (map pattern_uses args)) → (choice : Bool) (o : Occurrence)
      → In (flat_map (λ (a : Bool → List Occurrence). a choice) (map occurrences_in args)) o → any_true (map (binds (number_in vs o.name.text)) (map full args)) ≡ true
  bound_all [] each gives choice o h = absurd h
  bound_all (a ∷ args) each gives choice o h = elim (in_either _ _ o h) [
    | inl here ↦ or_left _ _ (each.0 (λ u k. gives u (in_left _ _ u k)) choice o here)
    | inr later ↦ or_right (binds (number_in vs o.name.text) (full a)) _ (bound_all args each.1 (λ u k. gives u (in_right (pattern_uses a) _ u k)) choice o later)
  ]

  bound_links : (rest : List (Sign × PatternTree)) → EachLink Bound rest → GiveToSymbols (flat_map (λ (l : Sign × List Use). l.1) (map (λ l. (l.0, pattern_uses l.1)) rest)) → (o : Occurrence)
      → In (flat_map (λ (l : Sign × (Bool → List Occurrence)). l.1 true) (map (λ l. (l.0, occurrences_in l.1)) rest)) o → any_link (number_in vs o.name.text) (map (λ l. (l.0, full l.1)) rest) ≡ true
  bound_links [] each gives o h = absurd h
  bound_links (l ∷ rest) each gives o h = elim (in_either _ _ o h) [
    | inl here ↦ or_left _ _ (each.0 (λ u k. gives u (in_left _ _ u k)) true o here)
    | inr later ↦ or_right (binds (number_in vs o.name.text) (full l.1)) _ (bound_links rest each.1 (λ u k. gives u (in_right (pattern_uses l.1) _ u k)) o later)
  ]

  bound_symbol : (w : List ℕ) (args : List Pat) (v : ℕ) → SeesSymbol look w → any_true (map (binds v) args) ≡ true → binds v (at_name named (look w) args) ≡ true
  bound_symbol w args v sees_it h = ap (λ seen. binds v (at_name named seen args)) sees_it.2 ∙ binds_roll v (Pat-F.Sym sees_it.0 args) ∙ h

  bound_here : (w : List ℕ) (p : Pat) (o : Occurrence) → w ≡ o.name.text → binds (number_in vs o.name.text) (roll-Pat (Pat-F.Bind (number_in vs w) p)) ≡ true
  bound_here w p o e = binds_roll (number_in vs o.name.text) (Pat-F.Bind (number_in vs w) p) ∙ or_left _ _ (eq-eqb _ _ (ap (number_in vs) e))

  bound_level : (x : PatternTree-F PatternTree) → Below Bound x → IsBound (views_level look named (Some vs) x)
  bound_level (PatternTree-F.Sym name []) each gives choice o h = absurd h
  bound_level (PatternTree-F.Sym name (a ∷ args)) each gives choice o h =
      bound_symbol name.text (map full (a ∷ args)) (number_in vs o.name.text) (gives _ (inl refl) refl) (bound_all (a ∷ args) each (λ u k. gives u (inr k)) choice o h)
  bound_level (PatternTree-F.Variable name) none gives choice o h = elim h [ inl e ↦ bound_here name.text _ o (λ j. (e j).name.text) | inr none ↦ absurd none ]
  bound_level (PatternTree-F.Binder name t) ih gives choice o h = elim h [
    | inl e ↦ bound_here name.text _ o (λ j. (e j).name.text)
    | inr below ↦ binds_roll _ (Pat-F.Bind (number_in vs name.text) (full t)) ∙ or_right (number_in vs name.text == number_in vs o.name.text) _ (ih gives choice o below)
  ]
  bound_level (PatternTree-F.Chain first rest) each gives choice o h =
      let choosing = choice || has_plus (map (λ l. (l.0, occurrences_in l.1)) rest) in
      chain_binds (number_in vs o.name.text) (full first) (map (λ l. (l.0, full l.1)) rest) ∙ elim (in_either (occurrences_in first choosing) _ o h) [
        | inl here ↦ or_left _ _ (each.0 (λ u k. gives u (in_left (pattern_uses first) _ u k)) choosing o here)
        | inr later ↦ or_right (binds (number_in vs o.name.text) (full first)) _ (bound_links rest each.1 (λ u k. gives u (in_right (pattern_uses first) _ u k)) o later)
      ]
  bound_level x none gives choice o h = absurd h

  pub bound : (t : PatternTree) → Bound t
  bound = view_induction look named (Some vs) IsBound bound_level
