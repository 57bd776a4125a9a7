-- Reading rules is exact for their grammar.
use Rattle.std.proofs.Common.{◌≡◌, ℕ, suc, Bool, true, false, ◌⊎◌, inl, inr, List, [], ◌∷◌, ◌++◌, length, None, Err, refl, arith}
use Rattle.std.proofs.Math.Bool.{and-false}
use Rattle.std.proofs.lemmas.Bool.{and_parts}
use Rattle.std.specs.Prelude.{◌||◌, ◌&&◌}
use Rattle.dactl_grammar.specs.declared.fault.Fault.TheVariants.{Unexpected}
use Rattle.dactl_terminals.specs.declared.token.Sort.{Sort}
use Rattle.dactl_terminals.specs.declared.token.Sort.TheVariants as s
use Rattle.dactl_meaning.specs.declared.tree.Part.{Part}
use Rattle.dactl_terminals.specs.Sort.{same_sort}
use Rattle.dactl_syntax.specs.Sort.{starts_mark, starts_term, starts_piece}
use Rattle.dactl_grammar.specs.Grammar.{means}
use Rattle.dactl_grammar.specs.Reader.{left, read_as}
use Rattle.dactl_terminals.specs.Parts.{Tok, Part_of, is, behind, pair, separated, lower}
use Rattle.dactl_syntax.specs.Productions.{several, term, args, part_term, part_redirect, part, rewrites_of, redirects_of, rewriting, redirecting, rule_of, rule, group_of, group, pattern}
use Rattle.dactl_terminals.specs.Reads.{Reads, by, read_pair, read_behind, lower_at}
use Rattle.dactl_syntax.specs.Reading.{args_at, term_at, redirects, part_at, plain_at, comma_part_at, plain_parts_at, parts_at, rewriting_at, redirecting_at, right_side_at, rule_at, bar_rule_at, rule_list_at, group_at, groups_at}
use Rattle.dactl_terminals.proofs.Sorts.{every, bars, apart, along, cleared}
use Rattle.dactl_grammar.proofs.Exact.{Stops, exact_choice}
use Rattle.dactl_grammar.proofs.Same.{same_parted}
use Rattle.dactl_terminals.proofs.Fits.{none, solid_choice_of}
use Rattle.dactl_terminals.proofs.Firm.{Firm, firm_as, firm_place, firm_same, firm_pair, firm_behind, firm_before, firm_or, firm_list, firm_lower}
use Rattle.dactl_syntax.proofs.TermLaws.{goes_on_term, firm_term, firm_args}
use Rattle.dactl_syntax.proofs.PatternLaws.{firm_pattern_at}

pub firm_term_at : (n : ℕ) → Firm (term (args n)) (term_at n) starts_term goes_on_term
unfolding term_at
firm_term_at n = firm_term (args n) (args_at n) (firm_args n)

abbrev pub goes_on_part : Sort → Bool
goes_on_part s.Colon = true
goes_on_part s.Open = true
goes_on_part s.Becomes = true
goes_on_part _ = false

abbrev pub goes_on_parts : Sort → Bool
goes_on_parts t = same_sort s.Comma t || goes_on_part t

abbrev pub goes_on_rules : Sort → Bool
goes_on_rules t = same_sort s.Bar t || goes_on_parts t

lower_no_mark : every (bars (same_sort s.Lower) starts_mark) ≡ true
unfolding same_sort
lower_no_mark = refl

becomes_no_colon : every (bars (same_sort s.Becomes) (same_sort s.Colon)) ≡ true
unfolding same_sort
becomes_no_colon = refl

module _ (n : ℕ) where
  abbrev pub redirect : Part_of Part
  redirect = means part_redirect (pair lower (behind s.Becomes (term (args n))))

  abbrev pub plain : Part_of Part
  plain = means part_term (term (args n))

  abbrev read_redirect : Reads Part
  read_redirect = read_as part_redirect (read_pair lower_at (read_behind s.Becomes (term_at n)))

  firm_redirect : Firm redirect read_redirect (same_sort s.Lower) goes_on_term
  unfolding same_sort
  firm_redirect = firm_as part_redirect (firm_pair firm_lower (λ _. firm_behind s.Becomes (firm_term_at n) refl refl refl) refl refl refl)

  pub firm_plain : Firm plain (plain_at n) starts_term goes_on_term
  unfolding plain_at
  firm_plain = firm_as part_term (firm_term_at n)

  -- a term that begins with a name doesn't go on with `:=`
  no_term : (t u : Tok) (l : List Tok) → (term (args n)).begins (t ∷ u ∷ l) → is s.Lower t ≡ true → is s.Becomes u ≡ true → ⊥
  unfolding term_at lower_at
  no_term t u l b is_lower becomes =
      let marks = apart (same_sort s.Lower) starts_mark lower_no_mark t.sort is_lower in
      let colon = apart (same_sort s.Becomes) (same_sort s.Colon) becomes_no_colon u.sort becomes in
      let far = (firm_term_at n).fit.exact.reaches (t ∷ u ∷ l) [] b in
      let near : left (term_at n (t ∷ u ∷ (l ++ []))) ≡ suc (length (l ++ [])) = rw (marks, is_lower, colon) refl in
      absurd (omega (arith, far, near))

  redirect_at : (t u : Tok) (l : List Tok) (x : Bool) → is s.Lower t ≡ true → is s.Becomes u ≡ x → redirect.begins (t ∷ u ∷ l) → (is s.Lower t && x) ≡ true
  unfolding lower_at
  redirect_at t u l true p q b = rw p refl
  redirect_at t u l false p q b =
      let far = firm_redirect.fit.exact.reaches (t ∷ u ∷ l) [] b in
      let near : left (read_redirect (t ∷ u ∷ (l ++ []))) ≡ suc (length (l ++ [])) = rw (p, q) refl in
      absurd (omega (arith, far, near))

  redirect_second : (t u : Tok) (l : List Tok) → redirect.begins (t ∷ u ∷ l) → (is s.Lower t && is s.Becomes u) ≡ true
  redirect_second t u l b = redirect_at t u l (is s.Becomes u) (firm_redirect.fit.starts t (u ∷ l) b) refl b

  redirect_longer : (t : Tok) (a : Part) → redirect.whole (t ∷ []) a → ⊥
  unfolding lower_at
  redirect_longer t a w =
      let p = firm_redirect.fit.starts t [] (firm_redirect.fit.exact.whole_begins (t ∷ []) a w) in
      let far = firm_redirect.fit.exact.complete (t ∷ []) a [] w tt in
      let near : read_redirect (t ∷ []) ≡ Err (Unexpected 0) = rw p refl in
      cc

  stops_part : (rest : List Tok) → Stops (by goes_on_part) rest → Stops (by goes_on_term) rest
  stops_part [] h = tt
  stops_part (t ∷ rest) h = cleared goes_on_term goes_on_part refl t.sort h

  after_lower : (t : Tok) (rest : List Tok) → Stops (by goes_on_part) rest → redirects (t ∷ rest) ≡ false
  unfolding same_sort
  after_lower t [] h = refl
  after_lower t (u ∷ rest) h = rw (cleared (same_sort s.Becomes) goes_on_part refl u.sort h) (and-false (is s.Lower t))

  no_redirect : (t u : Tok) (l : List Tok) (a b : Bool) → is s.Lower t ≡ a → is s.Becomes u ≡ b → (term (args n)).begins (t ∷ u ∷ l) → (a && b) ≡ false
  no_redirect t u l true true p q k = absurd (no_term t u l k p q)
  no_redirect t u l true false p q k = refl
  no_redirect t u l false b p q k = refl

  whole_redirect : (u rest : List Tok) (a : Part) → redirect.whole u a → Stops (by goes_on_part) rest → (redirects (u ++ rest) ≡ true) × Stops (by goes_on_term) rest
  whole_redirect [] rest a w h = absurd (firm_redirect.solid a w)
  whole_redirect (t ∷ []) rest a w h = absurd (redirect_longer t a w)
  whole_redirect (t ∷ u ∷ l) rest a w h = (redirect_second t u l (firm_redirect.fit.exact.whole_begins (t ∷ u ∷ l) a w), stops_part rest h)

  whole_plain : (u rest : List Tok) (a : Part) → plain.whole u a → Stops (by goes_on_part) rest → (redirects (u ++ rest) ≡ false) × Stops (by goes_on_term) rest
  whole_plain [] rest a w h = absurd (firm_plain.solid a w)
  whole_plain (t ∷ []) rest a w h = (after_lower t rest h, stops_part rest h)
  whole_plain (t ∷ u ∷ l) rest a w h = (no_redirect t u l (is s.Lower t) (is s.Becomes u) refl refl (firm_plain.fit.exact.whole_begins (t ∷ u ∷ l) a w), stops_part rest h)

  lower_begins_term : (t : Tok) → is s.Lower t ≡ true → (term (args n)).begins (t ∷ [])
  lower_begins_term t h = inr record { front = []; back = t ∷ []; value = None; parts = refl; first = refl; second = inl (inl h) }

  begins_redirect : (u rest : List Tok) → redirect.begins u → redirects (u ++ rest) ≡ false → plain.begins u
  begins_redirect [] rest b h = firm_plain.fit.exact.empty
  begins_redirect (t ∷ []) rest b h = lower_begins_term t (firm_redirect.fit.starts t [] b)
  begins_redirect (t ∷ u ∷ l) rest b h = let yes = redirect_second t u l b in absurd cc

  begins_plain : (u rest : List Tok) → plain.begins u → redirects (u ++ rest) ≡ true → redirect.begins u
  begins_plain [] rest b h = firm_redirect.fit.exact.empty
  begins_plain (t ∷ []) [] b h = absurd cc
  begins_plain (t ∷ []) (u ∷ rest) b h = inl (and_parts (is s.Lower t) (is s.Becomes u) h).0
  begins_plain (t ∷ u ∷ l) rest b h = let k = and_parts (is s.Lower t) (is s.Becomes u) h in absurd (no_term t u l b k.0 k.1)

  starts_part : (t : Tok) (l : List Tok) → redirect.begins (t ∷ l) ⊎ plain.begins (t ∷ l) → starts_term t.sort ≡ true
  unfolding same_sort
  starts_part t l (inl b) = along (same_sort s.Lower) starts_term refl t.sort (firm_redirect.fit.starts t l b)
  starts_part t l (inr b) = firm_plain.fit.starts t l b

  pub firm_part : Firm (part n) (part_at n) starts_term goes_on_part
  unfolding part_at plain_at
  firm_part = record {
    fit = record {
      exact = exact_choice redirects redirect plain read_redirect (plain_at n) (by goes_on_term) (by goes_on_term) (by goes_on_part) firm_redirect.fit.exact firm_plain.fit.exact whole_redirect whole_plain begins_redirect begins_plain;
      starts = starts_part;
    };
    solid = solid_choice_of redirect plain firm_redirect.solid firm_plain.solid;
  }

  -- ---- rules

  pub firm_comma_part : Firm (behind s.Comma (part n)) (comma_part_at n) (same_sort s.Comma) goes_on_part
  unfolding same_sort comma_part_at
  firm_comma_part = firm_behind s.Comma firm_part refl refl refl

  pub firm_rewriting : Firm (rewriting n) (rewriting_at n) (same_sort s.Rewrites) goes_on_parts
  unfolding same_sort rewriting_at plain_parts_at
  firm_rewriting = firm_as rewrites_of (firm_behind s.Rewrites (firm_list goes_on_parts firm_plain firm_comma_part refl refl refl refl refl refl refl) refl refl refl)

  pub firm_redirecting : Firm (redirecting n) (redirecting_at n) (same_sort s.Arrow) goes_on_parts
  unfolding same_sort redirecting_at parts_at
  firm_redirecting = firm_as redirects_of (firm_behind s.Arrow (firm_list goes_on_parts firm_part firm_comma_part refl refl refl refl refl refl refl) refl refl refl)

  pub firm_rule : Firm (rule n) (rule_at n) starts_piece goes_on_parts
  unfolding same_sort rule_at right_side_at
  firm_rule = firm_as rule_of (firm_place
      (firm_same (same_parted (pattern n) (rewriting n) (redirecting n))
      (firm_pair (firm_pattern_at n) (λ _. firm_or goes_on_parts firm_rewriting firm_redirecting refl refl refl) refl refl refl)))

  pub firm_bar_rule : Firm (behind s.Bar (rule n)) (bar_rule_at n) (same_sort s.Bar) goes_on_parts
  unfolding same_sort bar_rule_at
  firm_bar_rule = firm_behind s.Bar firm_rule refl refl refl

  pub firm_rule_list : Firm (separated s.Bar (rule n)) (rule_list_at n) starts_piece goes_on_rules
  unfolding same_sort rule_list_at
  firm_rule_list = firm_list goes_on_rules firm_rule firm_bar_rule refl refl refl refl refl refl refl

  pub firm_group : Firm (group n) (group_at n) starts_piece none
  unfolding same_sort group_at
  firm_group = firm_as group_of (firm_before s.Semicolon firm_rule_list refl refl refl)

  pub firm_groups : Firm (several (group n)) (groups_at n) starts_piece starts_piece
  unfolding same_sort groups_at
  firm_groups = firm_list starts_piece firm_group firm_group refl refl refl refl refl refl refl
