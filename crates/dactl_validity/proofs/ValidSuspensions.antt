-- A rule that makes its root wait again does not redirect it.
use Rattle.std.proofs.Common.{◌≡◌, ℕ, ◌<◌, ◌≤◌, Bool, true, false, not, ◌||◌, ◌&&◌, ◌==◌, List, [], ◌∷◌, map, filter, Option, Some, None, refl, sym, ap, subst, ◌∙◌, arith, if◌then◌else◌, ◌⊎◌, inl, inr}
use Rattle.std.specs.List.{list_any}
use Rattle.std.proofs.lemmas.Bool.{eqb-true}
use Rattle.dactl_model.specs.declared.program.Pat.{Pat}
use Rattle.dactl_model.specs.declared.program.Pat.TheOpen.{Pat-F}
use Rattle.dactl_model.specs.declared.program.Pat.TheViews.{roll-Pat}
use Rattle.dactl_model.specs.declared.program.Pat.TheFolds.{fold-roll-Pat, map-Pat}
use Rattle.dactl_model.specs.Binders.{binds, binds_level, binds_root, root_level}
use Rattle.dactl_model.proofs.Found.{binds_roll, or_cases}
use Rattle.dactl_model.proofs.Unique.{left_true, right_true}
use Rattle.dactl_model.proofs.Induction.{pat_induction}
use Rattle.dactl_meaning.specs.declared.tree.Sign.{Sign}
use Rattle.dactl_meaning.specs.declared.tree.Sign.TheVariants as signs
use Rattle.dactl_meaning.specs.declared.tree.PatternTree.{PatternTree}
use Rattle.dactl_meaning.specs.declared.tree.PatternTree.TheOpen.{PatternTree-F}
use Rattle.dactl_meaning.specs.declared.tree.TermTree.{TermTree}
use Rattle.dactl_meaning.specs.Sight.{Seen, SeenSymbol, SeenPattern}
use Rattle.dactl_meaning.specs.Expansion.{Occurrence, is_among, is_plus, has_plus, occurrences, occurrences_in, at_name, join, chain, expansion_by, number_in, root_names}
use Rattle.dactl_meaning.specs.Contractum.{MentionTree, mentions_of, has_hashes, asked_by, suspend_of}
use Rattle.dactl_validity.proofs.ValidLists.{In, in_left}
use Rattle.dactl_validity.proofs.ValidTests.{or_left, or_right, neither, neither_left, neither_right, is_false}
use Rattle.dactl_validity.proofs.ValidViews.{Views, Below, views, views_level, view_induction}
use Rattle.dactl_validity.proofs.ValidVariables.{among_of, number_once}
use Rattle.dactl_meaning.proofs.Induction.{plus_kept}

-- ---- what stands for the root is bound

root_roll : (v : ℕ) (x : Pat-F Pat) → binds_root v (roll-Pat x) ≡ root_level v (map-Pat Pat Bool (binds_root v) x)
root_roll v x = fold-roll-Pat Bool (root_level v) x

abbrev Binds : ℕ → Pat → Type 0
Binds v p = binds_root v p ≡ true → binds v p ≡ true

binds_opened : (v : ℕ) (x : Pat-F Pat) → (root_level v (map-Pat Pat Bool (binds_root v) x) ≡ true → binds_level v (map-Pat Pat Bool (binds v) x) ≡ true) → Binds v (roll-Pat x)
binds_opened v x claim e = binds_roll v x ∙ claim (sym (root_roll v x) ∙ e)

root_bound : (v : ℕ) (p : Pat) → Binds v p
root_bound v = pat_induction (Binds v) (record {
  any = binds_opened v Pat-F.Any (λ e. e);
  int = binds_opened v Pat-F.Int (λ e. e);
  char = binds_opened v Pat-F.Char (λ e. e);
  literal = λ i. binds_opened v (Pat-F.Literal i) (λ e. e);
  letter = λ c. binds_opened v (Pat-F.Letter c) (λ e. e);
  symbol = λ f args each. binds_opened v (Pat-F.Sym f args) (λ e. absurd cc);
  bind = λ w q ih. binds_opened v (Pat-F.Bind w q) (λ e. elim (or_cases _ _ e) [ inl here ↦ or_left _ _ here | inr below ↦ or_right (w == v) _ (ih below) ]);
  union = λ q s ih1 ih2. binds_opened v (Pat-F.Union q s) (λ e. absurd cc);
  less = λ q s ih1 ih2. binds_opened v (Pat-F.Less q s) (λ e. or_left _ _ (ih1 e));
})

-- ---- the root of a chain

join_root : (v : ℕ) (s : Sign) (p q : Pat) → binds_root v (join s p q) ≡ (not (is_plus s) && binds_root v p)
join_root v signs.Plus p q = root_roll v (Pat-F.Union p q)
join_root v signs.Minus p q = root_roll v (Pat-F.Less p q)

chain_root : (v : ℕ) (p : Pat) (rest : List (Sign × Pat)) → binds_root v (chain p rest) ≡ true → (has_plus rest ≡ false) × (binds_root v p ≡ true)
chain_root v p [] e = (refl, e)
chain_root v p (l ∷ rest) e =
    let r = chain_root v (join l.0 p l.1) rest e in
    let first : (not (is_plus l.0) && binds_root v p) ≡ true = sym (join_root v l.0 p l.1) ∙ r.1 in
    (neither (is_plus l.0) (has_plus rest) (is_false (is_plus l.0) (left_true (not (is_plus l.0)) (binds_root v p) first)) r.0, right_true (not (is_plus l.0)) (binds_root v p) first)

-- ---- what stands for the root has a name of the root

module _ (look : List ℕ → Option Seen) (named : ℕ → ℕ → Pat) (vs : List (List ℕ)) (inner : (m i v : ℕ) → binds v (named m i) ≡ false) where
  abbrev full : PatternTree → Pat
  full = expansion_by look named (Some vs)

  -- one of the places is of a name of the root, and of that number
  abbrev IsRooted : Views → Type 0
  IsRooted of = (v : ℕ) (choice : Bool) → binds_root v of.expansion ≡ true → (o : Occurrence) × In (of.occurrences choice) o × In of.roots o.name.text × (number_in vs o.name.text ≡ v)

  abbrev Rooted : PatternTree → Type 0
  Rooted t = IsRooted (views look named (Some vs) t)

  no_root : (x : Pat-F Pat) (v : ℕ) → binds_root v (roll-Pat x) ≡ true → root_level v (map-Pat Pat Bool (binds_root v) x) ≡ false → ⊥
  no_root x v e none = let f : false ≡ true = sym none ∙ sym (root_roll v x) ∙ e in cc

  no_root_name : (seen : Option Seen) (args : List Pat) (v : ℕ) → binds_root v (at_name named seen args) ≡ true → ⊥
  no_root_name None args v e = no_root Pat-F.Any v e refl
  no_root_name (Some (SeenSymbol f class)) args v e = no_root (Pat-F.Sym f args) v e refl
  no_root_name (Some (SeenPattern m i)) args v e = let f : false ≡ true = sym (inner m i v) ∙ root_bound v (named m i) e in cc

  root_binder : (v : ℕ) (w : List ℕ) (p : Pat) → binds_root v (roll-Pat (Pat-F.Bind (number_in vs w) p)) ≡ true → (number_in vs w ≡ v) ⊎ (binds_root v p ≡ true)
  root_binder v w p e = elim (or_cases _ _ (sym (root_roll v (Pat-F.Bind (number_in vs w) p)) ∙ e)) [ inl here ↦ inl (eqb-true _ _ here) | inr below ↦ inr below ]

  rooted_level : (x : PatternTree-F PatternTree) → Below Rooted x → IsRooted (views_level look named (Some vs) x)
  rooted_level (PatternTree-F.Sym name args) each v choice e = absurd (no_root_name (look name.text) (map full args) v e)
  rooted_level (PatternTree-F.Variable name) none v choice e = elim (root_binder v name.text _ e) [
    | inl is ↦ (_, inl refl, inl refl, is)
    | inr below ↦ absurd (no_root Pat-F.Any v below refl)
  ]
  rooted_level (PatternTree-F.Binder name t) ih v choice e = elim (root_binder v name.text _ e) [
    | inl is ↦ (_, inl refl, inl refl, is)
    | inr below ↦ (let h = ih v choice below in (h.0, inr h.1, inr h.2, h.3))
  ]
  rooted_level (PatternTree-F.Chain first rest) each v choice e =
      let r = chain_root v (full first) (map (λ l. (l.0, full l.1)) rest) e in
      let h = each.0 v (choice || has_plus (map (λ (l : Sign × PatternTree). (l.0, occurrences_in l.1)) rest)) r.1 in
      let none : has_plus (map (λ (l : Sign × PatternTree). (l.0, root_names l.1)) rest) ≡ false = plus_kept root_names rest ∙ sym (plus_kept full rest) ∙ r.0 in
      (h.0, in_left _ _ h.0 h.1, subst (λ (b : Bool). In (if b then [] else root_names first) h.0.name.text) (sym none) h.2, h.3)
  rooted_level x none v choice e = absurd (no_root _ v e refl)

  rooted : (t : PatternTree) → Rooted t
  rooted = view_induction look named (Some vs) IsRooted rooted_level

  -- a variable that is no name of the root does not stand for it
  pub beside_root : (t : PatternTree) (w : List ℕ) → ((o : Occurrence) → In (occurrences t) o → In vs o.name.text) → In vs w → is_among (root_names t) w ≡ false → binds_root (number_in vs w) (full t) ≡ false
  beside_root t w variables known none = (elim (binds_root (number_in vs w) (full t)) as (λ b. binds_root (number_in vs w) (full t) ≡ b → b ≡ false) [
    | true ↦ λ e. (
        let r = rooted t (number_in vs w) false e in
        let same : r.0.name.text ≡ w = number_once vs r.0.name.text w (variables r.0 r.1) known r.3 in
        let there : true ≡ false = sym (among_of (root_names t) w (subst (λ z. In (root_names t) z) same r.2)) ∙ none in
        absurd cc)
    | false ↦ λ e. refl
  ]) refl

-- ---- how many notifications are asked for

asked_low : (ms : List MentionTree) → asked_by ms ≤ 16
asked_low [] = omega arith
asked_low (m ∷ more) = omega arith

pub suspend_low : (roots : List (List ℕ)) (terms : List TermTree) → suspend_of roots terms ≤ 16
suspend_low roots terms = asked_low (filter (λ m. has_hashes m.marks && is_among roots m.name.text) (mentions_of terms))

none_asked : (ms : List MentionTree) → filter (λ (m : MentionTree). has_hashes m.marks && is_among [] m.name.text) ms ≡ []
none_asked [] = refl
none_asked (m ∷ ms) = let none : (has_hashes m.marks && false) ≡ false = elim (has_hashes m.marks) as (λ b. (b && false) ≡ false) [ true ↦ refl | false ↦ refl ] in rw none (none_asked ms)

-- none are, where no name may have `#`
pub root_kept : (redirected : Bool) (roots : List (List ℕ)) (terms : List TermTree) → 0 < suspend_of (if redirected then [] else roots) terms → redirected ≡ false
root_kept true roots terms h = let none : suspend_of [] terms ≡ 0 = ap asked_by (none_asked (mentions_of terms)) in absurd (omega (arith, h, none))
root_kept false roots terms h = refl

-- no element passes a test that none passes
pub none_of : {X : Type 0} (p : X → Bool) (xs : List X) → list_any p xs ≡ false → (x : X) → In xs x → p x ≡ false
none_of p [] e x h = absurd h
none_of p (y ∷ xs) e x (inl same) = ap p (sym same) ∙ neither_left (p y) _ e
none_of p (y ∷ xs) e x (inr h) = none_of p xs (neither_right (p y) _ e) x h
