-- The canonical text of a rule is derived again.
use Rattle.std.proofs.Common.{◌≡◌, ℕ, Bool, true, false, List, [], ◌∷◌, ◌++◌, map, refl, ap, ◌∙◌}
use Rattle.std.specs.List.{concat}
use Rattle.dactl_grammar.specs.Grammar.{choice, means}
use Rattle.dactl_grammar.proofs.Holds.{Holds, holds_weaker, holds_row, holds_choice, holds_many, holds_means, holds_placed}
use Rattle.dactl_terminals.specs.declared.token.Sort.{Sort}
use Rattle.dactl_terminals.specs.declared.token.Sort.TheVariants as s
use Rattle.dactl_meaning.specs.declared.tree.Name.{Name}
use Rattle.dactl_meaning.specs.declared.tree.PatternTree.{PatternTree}
use Rattle.dactl_meaning.specs.declared.tree.TermTree.{TermTree}
use Rattle.dactl_meaning.specs.declared.tree.Part.{Part}
use Rattle.dactl_meaning.specs.declared.tree.Part.TheVariants as parts
use Rattle.dactl_meaning.specs.declared.tree.RuleTree.{RuleTree}
use Rattle.dactl_syntax.specs.declared.write_patterns.Standing.TheVariants as standing
use Rattle.dactl_terminals.specs.Parts.{Part_of, sign, behind, before, pair, listed, lower}
use Rattle.dactl_syntax.specs.Productions.{term, args, pattern, part_term, part_redirect, part, rewrites_of, redirects_of, rewriting, redirecting, rule_of, rule, group_of, group}
use Rattle.dactl_syntax.specs.Canonical.{word, comma, separated as separated_text, term_text, pattern_text, part_text, arrow_text, rule_text, group_text}
use Rattle.dactl_meaning.specs.Unplaced.{nowhere, bare_name, bare_term, bare_pattern, bare_part, bare_rule, bare_group}
use Rattle.dactl_syntax.proofs.Holding.{AreTold, split_told, Anything, holds_behind, holds_before}
use Rattle.dactl_syntax.proofs.Back.{Back, SameBy, back_bytes, back_pair, back_means, back_left, back_right, back_placed, back_behind, back_before, back_listed}
use Rattle.dactl_syntax.proofs.Signs.{sign_back, semicolon_back}
use Rattle.dactl_syntax.proofs.BackTerms.{ReadsBack, lower_reads, term_reads_back}
use Rattle.dactl_syntax.proofs.BackPatterns.{pattern_reads_back}

-- a first part and then more
abbrev pub listed_text : {A : Type 0} → (A → List ℕ) → (A → List ℕ) → List A → List ℕ
listed_text w v [] = []
listed_text w v (x ∷ xs) = w x ++ concat (map v xs)

module _ (wide : Bool) where
  -- ---- a token before and behind, and lists

  pub behind_reads : {A B : Type 0} {P : Part_of A} {w : A → List ℕ} {e : A → B} {u : List ℕ} (k : Sort) → Back wide (sign k) u Anything → ReadsBack wide P w e → ReadsBack wide (behind k P) (λ a. u ++ w a) e
  behind_reads {A} {B} {P} {w} {e} {u} k t p = holds_behind k (split_told wide) (holds_weaker (λ a. Back wide P (w a) (SameBy e a)) (λ a. Back wide (behind k P) (u ++ w a) (SameBy e a)) (λ a h. back_behind k t h) p)

  pub before_reads : {A B : Type 0} {P : Part_of A} {w : A → List ℕ} {e : A → B} {u : List ℕ} (k : Sort) → Back wide (sign k) u Anything → ReadsBack wide P w e → ReadsBack wide (before P k) (λ a. w a ++ u) e
  before_reads {A} {B} {P} {w} {e} {u} k t p = holds_before k (split_told wide) (holds_weaker (λ a. Back wide P (w a) (SameBy e a)) (λ a. Back wide (before P k) (w a ++ u) (SameBy e a)) (λ a h. back_before k h t) p)

  pub listed_reads : {A B : Type 0} {P Q : Part_of A} {w v : A → List ℕ} {e : A → B} → ReadsBack wide P w e → ReadsBack wide Q v e → ReadsBack wide (listed P Q) (listed_text w v) (map e)
  listed_reads {A} {B} {P} {Q} {w} {v} {e} p q = holds_means (λ x. x.0 ∷ x.1) (λ xs. Back wide (listed P Q) (listed_text w v xs) (SameBy (map e) xs))
      (λ x h. back_listed e P Q w v x.0 x.1 h.0 h.1) (holds_row (split_told wide) p (λ _. holds_many (split_told wide) q))

  fused : {A : Type 0} (u : List ℕ) (w : A → List ℕ) (xs : List A) → map (λ v. u ++ v) (map w xs) ≡ map (λ x. u ++ w x) xs
  fused u w [] = refl
  fused u w (x ∷ xs) = ap (λ (z : List (List ℕ)). (u ++ w x) ∷ z) (fused u w xs)

  separated_is : {A : Type 0} (u : List ℕ) (w : A → List ℕ) (xs : List A) → separated_text u (map w xs) ≡ listed_text w (λ x. u ++ w x) xs
  separated_is u w [] = refl
  separated_is u w (x ∷ xs) = ap (λ (z : List (List ℕ)). w x ++ concat z) (fused u w xs)

  -- parts with a token between each two
  pub separated_reads : {A B : Type 0} {P Q : Part_of A} {w : A → List ℕ} {e : A → B} {u : List ℕ} (k : Sort) → Back wide (sign k) u Anything → ReadsBack wide P w e → ReadsBack wide Q w e → ReadsBack wide (listed P (behind k Q)) (λ xs. separated_text u (map w xs)) (map e)
  separated_reads {A} {B} {P} {Q} {w} {e} {u} k t p q = holds_weaker (λ xs. Back wide (listed P (behind k Q)) (listed_text w (λ x. u ++ w x) xs) (SameBy (map e) xs)) (λ xs. Back wide (listed P (behind k Q)) (separated_text u (map w xs)) (SameBy (map e) xs))
      (λ xs h. back_bytes _ _ (separated_is u w xs) h) (listed_reads p (behind_reads k t q))

  -- ---- rules

  -- a right side
  abbrev side_text : Bool × List Part → List ℕ
  side_text v = arrow_text v.0 ++ separated_text comma (map part_text v.1)

  abbrev bare_side : Bool × List Part → Bool × List Part
  bare_side v = (v.0, map bare_part v.1)

  -- a pattern and a right side
  abbrev rule_words : PatternTree × (Bool × List Part) → List ℕ
  rule_words v = pattern_text standing.Whole v.0 ++ side_text v.1

  abbrev SameRule : PatternTree × (Bool × List Part) → PatternTree × (Bool × List Part) → Type 0
  SameRule v u = (bare_pattern u.0 ≡ bare_pattern v.0) × (bare_side u.1 ≡ bare_side v.1)

  same_rule : (v u : ℕ × (PatternTree × (Bool × List Part))) → SameRule v.1 u.1 → bare_rule (rule_of u) ≡ bare_rule (rule_of v)
  same_rule v u h =
      ap (λ (z : PatternTree). record { place = nowhere; pattern = z; redirects = u.1.1.0; parts = map bare_part u.1.1.1 }) h.0
      ∙ ap (λ (z : Bool × List Part). record { place = nowhere; pattern = bare_pattern v.1.0; redirects = z.0; parts = z.1 }) h.1

  module _ (n : ℕ) where
    plain_reads : ReadsBack wide (means part_term (term (args n))) part_text bare_part
    plain_reads = holds_means part_term (λ t. Back wide (means part_term (term (args n))) (part_text t) (SameBy bare_part t)) (λ t h. back_means part_term (SameBy bare_part (part_term t)) (λ u k. ap (λ (z : TermTree). parts.Term z) k) h) (term_reads_back wide n)

    redirect_back : (left : Name) (t : TermTree) → Back wide lower (word left.text) (SameBy bare_name left) → Back wide (term (args n)) (term_text t) (SameBy bare_term t) → Back wide (part n) (part_text (parts.Redirect left t)) (SameBy bare_part (parts.Redirect left t))
    redirect_back left t h k = back_left (back_means part_redirect (SameBy bare_part (parts.Redirect left t)) (λ u l. ap (λ (z : Name). parts.Redirect z (bare_term u.1)) l.0 ∙ ap (λ (z : TermTree). parts.Redirect (bare_name left) z) l.1) (back_pair h (back_behind s.Becomes (sign_back wide s.Becomes) k)))

    part_reads : ReadsBack wide (part n) part_text bare_part
    part_reads = holds_choice
        (holds_means part_redirect (λ t. Back wide (part n) (part_text t) (SameBy bare_part t)) (λ v h. redirect_back v.0 v.1 h.0 h.1) (holds_row (split_told wide) (lower_reads wide) (λ _. holds_behind s.Becomes (split_told wide) (term_reads_back wide n))))
        (holds_weaker (λ t. Back wide (means part_term (term (args n))) (part_text t) (SameBy bare_part t)) (λ t. Back wide (part n) (part_text t) (SameBy bare_part t)) (λ t h. back_right h) plain_reads)

    rewriting_reads : ReadsBack wide (rewriting n) side_text bare_side
    rewriting_reads = holds_means rewrites_of (λ v. Back wide (rewriting n) (side_text v) (SameBy bare_side v)) (λ ps h. back_means rewrites_of (SameBy bare_side (rewrites_of ps)) (λ u k. ap (λ (z : List Part). (true, z)) k) h)
        (behind_reads s.Rewrites (sign_back wide s.Rewrites) (separated_reads s.Comma (sign_back wide s.Comma) plain_reads part_reads))

    redirecting_reads : ReadsBack wide (redirecting n) side_text bare_side
    redirecting_reads = holds_means redirects_of (λ v. Back wide (redirecting n) (side_text v) (SameBy bare_side v)) (λ ps h. back_means redirects_of (SameBy bare_side (redirects_of ps)) (λ u k. ap (λ (z : List Part). (false, z)) k) h)
        (behind_reads s.Arrow (sign_back wide s.Arrow) (separated_reads s.Comma (sign_back wide s.Comma) part_reads part_reads))

    -- either form of rule
    abbrev ruled : Part_of (PatternTree × (Bool × List Part))
    ruled = choice (pair (pattern n) (rewriting n)) (pair (pattern n) (redirecting n))

    ruled_reads : Holds (AreTold wide) ruled (λ v. Back wide ruled (rule_words v) (SameRule v))
    ruled_reads = holds_choice
        (holds_weaker _ (λ v. Back wide ruled (rule_words v) (SameRule v)) (λ v h. back_left (back_pair h.0 h.1)) (holds_row (split_told wide) (pattern_reads_back wide n) (λ _. rewriting_reads)))
        (holds_weaker _ (λ v. Back wide ruled (rule_words v) (SameRule v)) (λ v h. back_right (back_pair h.0 h.1)) (holds_row (split_told wide) (pattern_reads_back wide n) (λ _. redirecting_reads)))

    rule_reads : ReadsBack wide (rule n) rule_text bare_rule
    rule_reads = holds_means rule_of (λ r. Back wide (rule n) (rule_text r) (SameBy bare_rule r)) (λ v h. back_means rule_of (SameBy bare_rule (rule_of v)) (λ u k. same_rule v u k) (back_placed h)) (holds_placed (λ t. t.place) ruled_reads)

    pub group_reads : ReadsBack wide (group n) group_text bare_group
    group_reads = holds_means group_of (λ g. Back wide (group n) (group_text g) (SameBy bare_group g)) (λ rs h. back_means group_of (SameBy bare_group (group_of rs)) (λ u k. ap (λ (z : List RuleTree). record { rules = z }) k) h)
        (before_reads s.Semicolon (semicolon_back wide) (separated_reads s.Bar (sign_back wide s.Bar) rule_reads rule_reads))
