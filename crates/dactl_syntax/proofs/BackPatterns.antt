-- The canonical text of a pattern is derived again.
use Rattle.std.proofs.Common.{◌≡◌, ℕ, zero, suc, Bool, true, false, List, [], ◌∷◌, ◌++◌, map, Option, Some, None, refl, sym, ap, ◌∙◌, ℤ}
use Rattle.std.specs.Prelude.{codes, unwrap_or, option_map}
use Rattle.std.specs.Fmt.{signed_decimal}
use Rattle.std.specs.List.{AllByRecursion as Each, concat}
use Rattle.std.proofs.lemmas.List.{append-nil}
use Rattle.dactl_grammar.proofs.Holds.{Holds, IfThere, holds_weaker, holds_one, holds_row, holds_choice, holds_maybe, holds_many, holds_means, holds_barred}
use Rattle.dactl_terminals.specs.declared.token.Sort.TheVariants as s
use Rattle.dactl_meaning.specs.declared.tree.Name.{Name}
use Rattle.dactl_meaning.specs.declared.tree.Sign.{Sign}
use Rattle.dactl_meaning.specs.declared.tree.Sign.TheVariants as signs
use Rattle.dactl_meaning.specs.declared.tree.PatternTree.{PatternTree}
use Rattle.dactl_meaning.specs.declared.tree.PatternTree.TheVariants as p
use Rattle.dactl_meaning.specs.declared.tree.PatternTree.TheVariants.{rolls-Any, rolls-Int, rolls-Char, rolls-Integer, rolls-Letter, rolls-Sym, rolls-Variable, rolls-Binder, rolls-Chain}
use Rattle.dactl_meaning.specs.declared.tree.PatternTree.TheOpen.{PatternTree-F}
use Rattle.dactl_meaning.specs.declared.tree.PatternTree.TheViews.{roll-PatternTree}
use Rattle.dactl_meaning.specs.declared.tree.PatternTree.TheFolds.{fold-roll-PatternTree, map-PatternTree}
use Rattle.dactl_syntax.specs.declared.write_patterns.Standing.TheVariants as standing
use Rattle.dactl_terminals.specs.Parts.{Part_of, is, sign, pair, upper, lower, value_at}
use Rattle.dactl_syntax.specs.Productions.{any_of, int_of, char_of, number_of, letter, character_of, pattern_sym_of, base, piece_at, piece_of as pieced, piece, plus_of, minus_of, operator, chain_at, chain_of, squares, rounds, pattern}
use Rattle.dactl_syntax.specs.Canonical.{word, character, Piece, in_round, stand, plain, sign_text, pattern_level, piece_of, pattern_text, tail_text}
use Rattle.dactl_meaning.specs.Unplaced.{bare_name, bare_pattern_level, bare_pattern}
use Rattle.dactl_syntax.proofs.Holding.{AreTold, split_told, holds_behind, holds_before}
use Rattle.dactl_syntax.proofs.Back.{Back, SameBy, SameList, back_weaker, back_bytes, back_wider, back_pair, back_means, back_left, back_right, back_none, back_some, back_behind, back_before, back_nil, back_many}
use Rattle.dactl_syntax.proofs.Signs.{sign_back, integer_back, character_back, char_back}
use Rattle.dactl_syntax.proofs.BackTerms.{ReadsBack, upper_reads, lower_reads}
use Rattle.dactl_syntax.proofs.Written.{whole_sym, whole_chain}
use Rattle.dactl_syntax.proofs.TextGrowth.{base_wider, piece_wider, g_pattern}

module _ (wide : Bool) where
  abbrev Same : PatternTree → PatternTree → Type 0
  Same t = SameBy bare_pattern t

  -- ---- the levels of a pattern

  level_text : (t : PatternTree) (x : PatternTree-F PatternTree) → roll-PatternTree x ≡ t → piece_of t ≡ pattern_level (map-PatternTree PatternTree Piece piece_of x)
  level_text t x e = ap piece_of (sym e) ∙ fold-roll-PatternTree Piece pattern_level x

  level_bare : (t : PatternTree) (x : PatternTree-F PatternTree) → roll-PatternTree x ≡ t → bare_pattern t ≡ bare_pattern_level (map-PatternTree PatternTree PatternTree bare_pattern x)
  level_bare t x e = ap bare_pattern (sym e) ∙ fold-roll-PatternTree PatternTree bare_pattern_level x

  -- a sign and the pattern behind it, without places
  abbrev bare_link : Sign × PatternTree → Sign × PatternTree
  bare_link l = (l.0, bare_pattern l.1)

  bare_sym : (name : Name) (given : List PatternTree) → bare_pattern (p.Sym name given) ≡ p.Sym (bare_name name) (map bare_pattern given)
  bare_sym name given = level_bare (p.Sym name given) (PatternTree-F.Sym name given) (rolls-Sym name given)

  bare_chain : (first : PatternTree) (rest : List (Sign × PatternTree)) → bare_pattern (p.Chain first rest) ≡ p.Chain (bare_pattern first) (map bare_link rest)
  bare_chain first rest = level_bare (p.Chain first rest) (PatternTree-F.Chain first rest) (rolls-Chain first rest)

  -- ---- a pattern by its own text

  abbrev base_at : ℕ → Part_of PatternTree
  base_at n = base (squares n) (rounds n)

  abbrev pub piece_part : ℕ → Part_of PatternTree
  piece_part n = piece (squares n) (rounds n)

  -- the text of a pattern without brackets round it is derived again: as a base, as a piece, or as a whole pattern
  pub data Own (n : ℕ) (t : PatternTree) : Type 0 where
    as_base : (w : List ℕ) → piece_of t ≡ plain w → Back wide (base_at n) w (Same t) → Own n t
    as_piece : (w : List ℕ) → piece_of t ≡ record { bytes = w; is_chain = false; is_named = true } → Back wide (piece_part n) w (Same t) → Own n t
    as_chain : (w : List ℕ) → piece_of t ≡ record { bytes = w; is_chain = true; is_named = false } → Back wide (pattern n) w (Same t) → Own n t

  own_grows : (n : ℕ) (t : PatternTree) → Own n t → Own (suc n) t
  own_grows n t (as_base w e b) = as_base w e (back_wider (base_at n) (base_at (suc n)) (base_wider n) b)
  own_grows n t (as_piece w e b) = as_piece w e (back_wider (piece_part n) (piece_part (suc n)) (piece_wider n) b)
  own_grows n t (as_chain w e b) = as_chain w e (back_wider (pattern n) (pattern (suc n)) (g_pattern n).whole b)

  base_piece : (n : ℕ) {w : List ℕ} {X : PatternTree → Type 0} → Back wide (base_at n) w X → Back wide (piece_part n) w X
  base_piece n b = back_right b

  piece_pattern : (n : ℕ) (t : PatternTree) (w : List ℕ) → Back wide (piece_part n) w (Same t) → Back wide (pattern n) w (Same t)
  piece_pattern n t w b = back_bytes w (w ++ []) (sym (append-nil w)) (back_means chain_of (Same t) (λ v h. ap (λ (r : List (Sign × PatternTree)). bare_pattern (chain_at v.0 r)) h.1 ∙ h.0) (back_pair b (back_nil (λ r. r ≡ []) refl)))

  -- the bytes of a pattern as a whole
  abbrev own_bytes : PatternTree → List ℕ
  own_bytes t = (piece_of t).bytes

  own_pattern : (n : ℕ) (t : PatternTree) → Own n t → Back wide (pattern n) (own_bytes t) (Same t)
  own_pattern n t (as_base w e b) = back_bytes (own_bytes t) w (ap (λ (q : Piece). q.bytes) e) (piece_pattern n t w (base_piece n b))
  own_pattern n t (as_piece w e b) = back_bytes (own_bytes t) w (ap (λ (q : Piece). q.bytes) e) (piece_pattern n t w b)
  own_pattern n t (as_chain w e b) = back_bytes (own_bytes t) w (ap (λ (q : Piece). q.bytes) e) b

  -- ---- a pattern where it stands

  -- its text is derived again as a base behind `:`, and as a piece
  pub record IsBase (n : ℕ) (t : PatternTree) : Type 0 where
    pub own : Own n t
    pub bound : Back wide (base_at n) (pattern_text standing.Bound t) (Same t)
    pub inner : Back wide (piece_part n) (pattern_text standing.Inner t) (Same t)

  pub record IsPiece (n : ℕ) (t : PatternTree) : Type 0 where
    pub own : Own n t
    pub inner : Back wide (piece_part n) (pattern_text standing.Inner t) (Same t)

  stands_as : (n : ℕ) (t : PatternTree) (w : List ℕ) → piece_of t ≡ plain w → Back wide (base_at n) w (Same t) → IsBase n t
  stands_as n t w e b = record {
    own = as_base w e b;
    bound = back_bytes (pattern_text standing.Bound t) w (ap (stand standing.Bound) e) b;
    inner = back_bytes (pattern_text standing.Inner t) w (ap (stand standing.Inner) e) (base_piece n b);
  }

  -- within round brackets
  in_brackets : (n : ℕ) (t : PatternTree) → Own n t → (inner : Back wide (base_at (suc n)) (in_round (own_bytes t)) (Same t)) → IsBase (suc n) t
  in_brackets n t (as_base w e b) inner = stands_as (suc n) t w e (back_wider (base_at n) (base_at (suc n)) (base_wider n) b)
  in_brackets n t (as_piece w e b) inner = record {
    own = own_grows n t (as_piece w e b);
    bound = back_bytes _ _ (ap (stand standing.Bound) e ∙ ap in_round (sym (ap (λ (q : Piece). q.bytes) e))) inner;
    inner = back_bytes _ _ (ap (stand standing.Inner) e) (back_wider (piece_part n) (piece_part (suc n)) (piece_wider n) b);
  }
  in_brackets n t (as_chain w e b) inner = record {
    own = own_grows n t (as_chain w e b);
    bound = back_bytes _ _ (ap (stand standing.Bound) e ∙ ap in_round (sym (ap (λ (q : Piece). q.bytes) e))) inner;
    inner = back_bytes _ _ (ap (stand standing.Inner) e ∙ ap in_round (sym (ap (λ (q : Piece). q.bytes) e))) (base_piece (suc n) inner);
  }

  round_back : (n : ℕ) (t : PatternTree) → Own n t → Back wide (rounds (suc n)) (in_round (own_bytes t)) (Same t)
  unfolding rounds
  round_back n t o = back_behind s.Left (sign_back wide s.Left) (back_before s.Right (own_pattern n t o) (sign_back wide s.Right))

  round_base : (n : ℕ) (t : PatternTree) → Own n t → IsBase (suc n) t
  round_base n t o = in_brackets n t o (back_right (back_right (back_right (back_right (back_right (back_right (round_back n t o)))))))

  -- ---- the same patterns, up to places

  same_sym : (name other : Name) (given others : List PatternTree) → bare_name other ≡ bare_name name → map bare_pattern others ≡ map bare_pattern given → bare_pattern (p.Sym other others) ≡ bare_pattern (p.Sym name given)
  same_sym name other given others e f =
      bare_sym other others ∙ ap (λ (z : Name). p.Sym z (map bare_pattern others)) e ∙ ap (λ (z : List PatternTree). p.Sym (bare_name name) z) f ∙ sym (bare_sym name given)

  bare_variable : (name : Name) → bare_pattern (p.Variable name) ≡ p.Variable (bare_name name)
  bare_variable name = level_bare (p.Variable name) (PatternTree-F.Variable name) (rolls-Variable name)

  same_variable : (name : Name) (v : Name × Option PatternTree) → bare_name v.0 ≡ bare_name name → v.1 ≡ None → bare_pattern (pieced v) ≡ bare_pattern (p.Variable name)
  same_variable name v e f = ap (λ (o : Option PatternTree). bare_pattern (piece_at v.0 o)) f ∙ bare_variable v.0 ∙ ap (λ (z : Name). p.Variable z) e ∙ sym (bare_variable name)

  bare_binder : (name : Name) (inner : PatternTree) → bare_pattern (p.Binder name inner) ≡ p.Binder (bare_name name) (bare_pattern inner)
  bare_binder name inner = level_bare (p.Binder name inner) (PatternTree-F.Binder name inner) (rolls-Binder name inner)

  same_binder : (name : Name) (inner : PatternTree) (other : Name) (o : Option PatternTree) → bare_name other ≡ bare_name name → option_map bare_pattern o ≡ Some (bare_pattern inner) → bare_pattern (piece_at other o) ≡ bare_pattern (p.Binder name inner)
  same_binder name inner other None e f = absurd cc
  same_binder name inner other (Some t) e f =
      let same : bare_pattern t ≡ bare_pattern inner = cc in
      bare_binder other t ∙ ap (λ (z : Name). p.Binder z (bare_pattern t)) e ∙ ap (λ (z : PatternTree). p.Binder (bare_name name) z) same ∙ sym (bare_binder name inner)

  same_chain : (first other : PatternTree) (l : Sign × PatternTree) (rest others : List (Sign × PatternTree)) → bare_pattern other ≡ bare_pattern first → map bare_link others ≡ map bare_link (l ∷ rest) → bare_pattern (chain_at other others) ≡ bare_pattern (p.Chain first (l ∷ rest))
  same_chain first other l rest [] e f = absurd cc
  same_chain first other l rest (k ∷ others) e f = rw (bare_chain other (k ∷ others), bare_chain first (l ∷ rest), e, f) refl

  -- ---- the productions

  -- patterns in square brackets
  abbrev pieces_text : List PatternTree → List ℕ
  pieces_text given = word (codes "[") ++ (concat (map (pattern_text standing.Inner) given) ++ word (codes "]"))

  operator_reads : Holds (AreTold wide) operator (λ o. Back wide operator (sign_text o) (λ k. k ≡ o))
  operator_reads = holds_choice
      (holds_means plus_of (λ o. Back wide operator (sign_text o) (λ k. k ≡ o)) (λ t h. back_left (back_means plus_of (λ k. k ≡ signs.Plus) (λ u l. refl) (sign_back wide s.Plus))) (holds_one (is s.Plus)))
      (holds_means minus_of (λ o. Back wide operator (sign_text o) (λ k. k ≡ o)) (λ t h. back_right (back_means minus_of (λ k. k ≡ signs.Minus) (λ u l. refl) (sign_back wide s.Minus))) (holds_one (is s.Minus)))

  module _ (n : ℕ) (square_reads : ReadsBack wide (squares n) pieces_text (map bare_pattern)) (round_reads : Holds (AreTold wide) (rounds n) (IsBase n)) where
    any_base : IsBase n p.Any
    any_base = stands_as n p.Any (word (codes "ANY")) (level_text p.Any PatternTree-F.Any rolls-Any) (back_left (back_means any_of (Same p.Any) (λ u k. refl) (sign_back wide s.Any)))

    int_base : IsBase n p.Int
    int_base = stands_as n p.Int (word (codes "INT")) (level_text p.Int PatternTree-F.Int rolls-Int) (back_right (back_left (back_means int_of (Same p.Int) (λ u k. refl) (sign_back wide s.Int))))

    char_base : wide ≡ true → IsBase n p.Char
    char_base e = stands_as n p.Char (word (codes "CHAR")) (level_text p.Char PatternTree-F.Char rolls-Char) (back_right (back_right (back_left (back_means char_of (Same p.Char) (λ u k. refl) (char_back wide e)))))

    number_base : (value : ℤ) → Back wide (sign s.Integer) (word (signed_decimal value)) (λ t. value_at true t.word ≡ value) → IsBase n (p.Integer value)
    number_base value b = stands_as n (p.Integer value) (word (signed_decimal value)) (level_text (p.Integer value) (PatternTree-F.Integer value) (rolls-Integer value))
        (back_right (back_right (back_right (back_left (back_means number_of (Same (p.Integer value)) (λ u k. ap (λ (z : ℤ). bare_pattern (p.Integer z)) k) b)))))

    character_base : (value : ℕ) → Back wide (sign s.Character) (character value) (λ t. letter t.word ≡ value) → IsBase n (p.Letter value)
    character_base value b = stands_as n (p.Letter value) (character value) (level_text (p.Letter value) (PatternTree-F.Letter value) (rolls-Letter value))
        (back_right (back_right (back_right (back_right (back_left (back_means character_of (Same (p.Letter value)) (λ u k. ap (λ (z : ℕ). bare_pattern (p.Letter z)) k) b))))))

    -- a symbol without arguments
    alone_back : (name : Name) → Back wide upper (word name.text) (SameBy bare_name name) → Back wide (base_at n) (word name.text ++ []) (Same (p.Sym name []))
    alone_back name h = back_right (back_right (back_right (back_right (back_right (back_left (back_means pattern_sym_of (Same (p.Sym name []))
        (λ v k. same_sym name v.0 [] (unwrap_or v.1 []) k.0 (ap (λ (o : Option (List PatternTree)). map bare_pattern (unwrap_or o [])) k.1))
        (back_pair h (back_none (λ o. o ≡ None) refl))))))))

    sym_base : (name : Name) (given : Option (List PatternTree)) → Back wide upper (word name.text) (SameBy bare_name name) → IfThere (λ a. Back wide (squares n) (pieces_text a) (SameList bare_pattern a)) given → IsBase n (pattern_sym_of (name, given))
    sym_base name None h k = stands_as n (p.Sym name []) (word name.text ++ []) (whole_sym name []) (alone_back name h)
    sym_base name (Some []) h k = stands_as n (p.Sym name []) (word name.text ++ []) (whole_sym name []) (alone_back name h)
    sym_base name (Some (a ∷ given)) h k = stands_as n (p.Sym name (a ∷ given)) (word name.text ++ pieces_text (a ∷ given)) (whole_sym name (a ∷ given))
        (back_right (back_right (back_right (back_right (back_right (back_left (back_means pattern_sym_of (Same (p.Sym name (a ∷ given)))
        (λ v l. same_sym name v.0 (a ∷ given) (unwrap_or v.1 []) l.0 l.1)
        (back_pair h (back_some (λ o. map bare_pattern (unwrap_or o []) ≡ map bare_pattern (a ∷ given)) (λ o l. l) k)))))))))

    base_holds : Holds (AreTold wide) (base_at n) (IsBase n)
    base_holds =
        holds_choice (holds_means any_of (IsBase n) (λ t h. any_base) (holds_one (is s.Any)))
        (holds_choice (holds_means int_of (IsBase n) (λ t h. int_base) (holds_one (is s.Int)))
        (holds_choice (holds_means char_of (IsBase n) (λ t h. char_base (h.0.0.char h.1)) (holds_one (is s.Char)))
        (holds_choice (holds_means number_of (IsBase n) (λ t h. number_base (value_at true t.word) (integer_back wide (value_at true t.word) (h.0.0.value h.1))) (holds_one (is s.Integer)))
        (holds_choice (holds_means character_of (IsBase n) (λ t h. character_base (letter t.word) (character_back wide t.word (h.0.0.character h.1))) (holds_one (is s.Character)))
        (holds_choice (holds_means pattern_sym_of (IsBase n) (λ v h. sym_base v.0 v.1 h.0 h.1) (holds_row (split_told wide) (upper_reads wide) (λ _. holds_maybe square_reads))) round_reads)))))

    as_named : (t : PatternTree) (w : List ℕ) → piece_of t ≡ record { bytes = w; is_chain = false; is_named = true } → Back wide (piece_part n) w (Same t) → IsPiece n t
    as_named t w e b = record { own = as_piece w e b; inner = back_bytes (pattern_text standing.Inner t) w (ap (stand standing.Inner) e) b }

    named_piece : (name : Name) (inner : Option PatternTree) → Back wide lower (word name.text) (SameBy bare_name name) → IfThere (IsBase n) inner → IsPiece n (piece_at name inner)
    named_piece name None h k = as_named (p.Variable name) (word name.text) (level_text (p.Variable name) (PatternTree-F.Variable name) (rolls-Variable name))
        (back_bytes (word name.text) (word name.text ++ []) (sym (append-nil (word name.text)))
        (back_left (back_means pieced (Same (p.Variable name)) (λ v l. same_variable name v l.0 l.1) (back_pair h (back_none (λ o. o ≡ None) refl)))))
    named_piece name (Some inner) h k = as_named (p.Binder name inner) (word name.text ++ (word (codes ":") ++ pattern_text standing.Bound inner)) (level_text (p.Binder name inner) (PatternTree-F.Binder name inner) (rolls-Binder name inner))
        (back_left (back_means pieced (Same (p.Binder name inner)) (λ v l. same_binder name inner v.0 v.1 l.0 l.1)
        (back_pair h (back_some (λ o. option_map bare_pattern o ≡ Some (bare_pattern inner)) (λ o l. ap Some l) (back_behind s.Colon (sign_back wide s.Colon) k.bound)))))

    piece_holds : Holds (AreTold wide) (piece_part n) (IsPiece n)
    piece_holds = holds_choice
        (holds_means pieced (IsPiece n) (λ v h. named_piece v.0 v.1 h.0 h.1) (holds_row (split_told wide) (lower_reads wide) (λ _. holds_maybe (holds_behind s.Colon (split_told wide) base_holds))))
        (holds_weaker (IsBase n) (IsPiece n) (λ t h. record { own = h.own; inner = h.inner }) base_holds)

    -- a sign and a pattern that are written again
    abbrev IsLink : Sign × PatternTree → Type 0
    IsLink l = Back wide operator (sign_text l.0) (λ k. k ≡ l.0) × IsPiece n l.1

    links_back : (rest : List (Sign × PatternTree)) → Each IsLink rest → Each (λ l. Back wide (pair operator (piece_part n)) (tail_text l) (SameBy bare_link l)) rest
    links_back [] h = tt
    links_back (l ∷ rest) h = (back_weaker _ (SameBy bare_link l) (λ v k. ap (λ (o : Sign). (o, bare_pattern v.1)) k.0 ∙ ap (λ (t : PatternTree). (l.0, t)) k.1) (back_pair h.0.0 h.0.1.inner), links_back rest h.1)

    chain_own : (first : PatternTree) (rest : List (Sign × PatternTree)) → IsPiece n first → Each IsLink rest → Own n (chain_at first rest)
    chain_own first [] h k = h.own
    chain_own first (l ∷ rest) h k = as_chain (pattern_text standing.Inner first ++ concat (map tail_text (l ∷ rest))) (whole_chain first (l ∷ rest))
        (back_means chain_of (Same (p.Chain first (l ∷ rest))) (λ v j. same_chain first v.0 l rest v.1 j.0 j.1) (back_pair h.inner (back_many bare_link (pair operator (piece_part n)) tail_text (l ∷ rest) (links_back (l ∷ rest) k))))

    pattern_holds : Holds (AreTold wide) (pattern n) (Own n)
    pattern_holds = holds_means chain_of (Own n) (λ v h. chain_own v.0 v.1 h.0 h.1) (holds_row (split_told wide) piece_holds (λ _. holds_many (split_told wide) (holds_row (split_told wide) operator_reads (λ _. piece_holds))))

  -- ---- with any number of brackets

  inners_back : (n : ℕ) (given : List PatternTree) → Each (IsPiece n) given → Each (λ t. Back wide (piece_part n) (pattern_text standing.Inner t) (Same t)) given
  inners_back n [] h = tt
  inners_back n (t ∷ given) h = (h.0.inner, inners_back n given h.1)

  square_back : (n : ℕ) (given : List PatternTree) → Each (IsPiece n) given → Back wide (squares (suc n)) (pieces_text given) (SameList bare_pattern given)
  unfolding squares
  square_back n given h = back_behind s.Open (sign_back wide s.Open) (back_before s.Close (back_many bare_pattern (piece_part n) (pattern_text standing.Inner) given (inners_back n given h)) (sign_back wide s.Close))

  record BothRead (n : ℕ) : Type 0 where
    pub square : ReadsBack wide (squares n) pieces_text (map bare_pattern)
    pub round : Holds (AreTold wide) (rounds n) (IsBase n)

  both_read : (n : ℕ) → BothRead n
  unfolding squares rounds
  both_read zero = record { square = holds_barred (λ given. Back wide (squares zero) (pieces_text given) (SameList bare_pattern given)); round = holds_barred (IsBase zero) }
  both_read (suc n) = let b = both_read n in record {
    square = holds_behind s.Open (split_told wide) (holds_before s.Close (split_told wide) (holds_weaker (Each (IsPiece n)) (λ given. Back wide (squares (suc n)) (pieces_text given) (SameList bare_pattern given)) (square_back n) (holds_many (split_told wide) (piece_holds n b.square b.round))));
    round = holds_behind s.Left (split_told wide) (holds_before s.Right (split_told wide) (holds_weaker (Own n) (IsBase (suc n)) (round_base n) (pattern_holds n b.square b.round)));
  }

  pub pattern_reads_back : (n : ℕ) → ReadsBack wide (pattern n) (pattern_text standing.Whole) bare_pattern
  pattern_reads_back n = let b = both_read n in holds_weaker (Own n) (λ t. Back wide (pattern n) (pattern_text standing.Whole t) (Same t)) (own_pattern n) (pattern_holds n b.square b.round)
