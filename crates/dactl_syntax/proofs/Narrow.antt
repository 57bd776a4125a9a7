-- What is read of tokens of language 1 has integers of 64 bits and no characters.
use Rattle.std.proofs.Common.{◌≡◌, ℕ, zero, suc, ◌-◌, ◌^◌, ◌<◌, Bool, true, false, List, [], ◌∷◌, ◌++◌, Option, Some, None, IsTrue, refl, sym, ap, subst, ◌∙◌, arith}
use Rattle.std.specs.Prelude.{unwrap_or, is_some, ℤ, pos, negsuc}
use Rattle.std.specs.Int.Signed.{mag}
use Rattle.std.specs.List.{AllByRecursion as Each}
use Rattle.std.proofs.lemmas.Bool.{le-leb, lt-ltb}
use Rattle.dactl_model.specs.Integers.{is_word}
use Rattle.dactl_grammar.specs.Grammar.{maybe}
use Rattle.dactl_grammar.proofs.Holds.{Holds, IfThere, holds_one, holds_row, holds_choice, holds_maybe, holds_many, holds_means, holds_barred}
use Rattle.dactl_terminals.specs.declared.token.Sort.TheVariants as s
use Rattle.dactl_meaning.specs.declared.tree.Name.{Name}
use Rattle.dactl_meaning.specs.declared.tree.Marks.{Marks}
use Rattle.dactl_meaning.specs.declared.tree.Marks.TheVariants as marks
use Rattle.dactl_meaning.specs.declared.tree.NodeTree.{NodeTree}
use Rattle.dactl_meaning.specs.declared.tree.NodeTree.TheVariants as node_tree
use Rattle.dactl_meaning.specs.declared.tree.NodeTree.TheVariants.{rolls-Sym, rolls-Integer}
use Rattle.dactl_meaning.specs.declared.tree.NodeTree.TheOpen.{NodeTree-F}
use Rattle.dactl_meaning.specs.declared.tree.NodeTree.TheFolds.{fold-NodeTree, fold-ArgTree, fold-roll-NodeTree, fold-roll-ArgTree, fold-roll-TermTree}
use Rattle.dactl_meaning.specs.declared.tree.TermTree.{TermTree, roll-TermTree}
use Rattle.dactl_meaning.specs.declared.tree.ArgTree.{ArgTree}
use Rattle.dactl_meaning.specs.declared.tree.Sign.{Sign}
use Rattle.dactl_meaning.specs.declared.tree.PatternTree.{PatternTree}
use Rattle.dactl_meaning.specs.declared.tree.PatternTree.TheVariants as p
use Rattle.dactl_meaning.specs.declared.tree.PatternTree.TheVariants.{rolls-Any, rolls-Int, rolls-Integer as rolls-Number, rolls-Sym as rolls-Symbol, rolls-Variable, rolls-Binder, rolls-Chain}
use Rattle.dactl_meaning.specs.declared.tree.PatternTree.TheOpen.{PatternTree-F}
use Rattle.dactl_meaning.specs.declared.tree.PatternTree.TheViews.{roll-PatternTree}
use Rattle.dactl_meaning.specs.declared.tree.PatternTree.TheFolds.{fold-roll-PatternTree, map-PatternTree}
use Rattle.dactl_terminals.specs.Parts.{Tok, Part_of, is, here, sign, upper, lower, value_at}
use Rattle.dactl_syntax.specs.Productions.{mark, integer_of, letter_of, sym_of, node, named_of, bare_of, body, term_of, term, arg_of, arg, args, any_of, int_of, char_of, number_of, character_of, pattern_sym_of, base, piece_at, piece_of, piece, operator, chain_at, chain_of, pattern_over, squares, rounds, pattern}
use Rattle.dactl_meaning.specs.Spelling.{pattern_narrow, is_narrow_pattern, node_narrow, arg_narrow, term_narrow, is_narrow_term}
use Rattle.dactl_syntax.proofs.TokenFacts.{IsTold, character_is}
use Rattle.dactl_syntax.proofs.Holding.{AreTold, split_told, holds_anything, holds_behind, holds_before, each_weaker, each_passes}

-- the fact holds of what tokens of language 1 mean
abbrev Keeps : {A : Type 0} → Part_of A → (A → Type 0) → Type 0
Keeps P X = Holds (AreTold false) P X

abbrev split : (u v : List Tok) → AreTold false (u ++ v) → AreTold false u × AreTold false v
split = split_told false

-- ---- integers and characters

pub word_within : (z : ℤ) → mag z < 2 ^ 63 → is_word z ≡ true
word_within (pos n) h = lt-ltb n (2 ^ 63) h
word_within (negsuc n) h = rw (le-leb n (2 ^ 63 - 1) (omega arith)) refl

no_character : {X : Type 0} (t : Tok) → IsTold false t → is s.Character t ≡ true → X
no_character t told h = let c = character_is false t.word (told.character h) in let wide = c.is_wide in absurd cc

no_char : {X : Type 0} (t : Tok) → IsTold false t → is s.Char t ≡ true → X
no_char t told h = let wide = told.char h in absurd cc

-- ---- terms

abbrev narrow_node : NodeTree → Bool
narrow_node = fold-NodeTree Bool Bool Bool node_narrow arg_narrow term_narrow

abbrev narrow_arg : ArgTree → Bool
narrow_arg = fold-ArgTree Bool Bool Bool node_narrow arg_narrow term_narrow

abbrev IsNarrowNode : NodeTree → Type 0
IsNarrowNode n = narrow_node n ≡ true

abbrev IsNarrowArg : ArgTree → Type 0
IsNarrowArg a = narrow_arg a ≡ true

abbrev pub IsNarrow : TermTree → Type 0
IsNarrow t = IsTrue (is_narrow_term t)

sym_narrow : (name : Name) (given : List ArgTree) → Each IsNarrowArg given → IsNarrowNode (node_tree.Sym name given)
sym_narrow name given h = ap narrow_node (sym (rolls-Sym name given)) ∙ fold-roll-NodeTree Bool Bool Bool node_narrow arg_narrow term_narrow (NodeTree-F.Sym name given) ∙ each_passes (λ b. b) narrow_arg given h

integer_narrow : (t : Tok) → mag (value_at true t.word) < 2 ^ 63 → IsNarrowNode (integer_of t)
integer_narrow t h = ap narrow_node (sym (rolls-Integer (value_at true t.word) (here t))) ∙ fold-roll-NodeTree Bool Bool Bool node_narrow arg_narrow term_narrow (NodeTree-F.Integer (value_at true t.word) (here t)) ∙ word_within (value_at true t.word) h

given_narrow : (v : Name × Option (List ArgTree)) → IfThere (Each IsNarrowArg) v.1 → IsNarrowNode (sym_of v)
given_narrow v h = sym_narrow v.0 (unwrap_or v.1 []) (given v.1 h)
  where
    given : (o : Option (List ArgTree)) → IfThere (Each IsNarrowArg) o → Each IsNarrowArg (unwrap_or o [])
    given None h = tt
    given (Some xs) h = h

-- the node, if there is one, is narrow
abbrev IsBody : Option Name × Option NodeTree → Type 0
IsBody v = IfThere IsNarrowNode v.1

term_by : (m : Marks) (name : Option Name) (n : Option NodeTree) → IfThere IsNarrowNode n → IsNarrow (roll-TermTree (record { marks = m; name = name; node = n }))
term_by m name None h = fold-roll-TermTree Bool Bool Bool node_narrow arg_narrow term_narrow (record { marks = m; name = name; node = None })
term_by m name (Some n) h = fold-roll-TermTree Bool Bool Bool node_narrow arg_narrow term_narrow (record { marks = m; name = name; node = Some n }) ∙ h

arg_by : (v : Option Tok × TermTree) → IsNarrow v.1 → IsNarrowArg (arg_of v)
arg_by v h = fold-roll-ArgTree Bool Bool Bool node_narrow arg_narrow term_narrow (record { waits = is_some v.0; term = v.1 }) ∙ h

module _ (inner : Part_of (List ArgTree)) (kept : Keeps inner (Each IsNarrowArg)) where
  node_keeps : Keeps (node inner) IsNarrowNode
  node_keeps =
      holds_choice (holds_means integer_of IsNarrowNode (λ t h. integer_narrow t (h.0.0.value h.1)) (holds_one (is s.Integer)))
      (holds_choice (holds_means letter_of IsNarrowNode (λ t h. no_character t h.0.0 h.1) (holds_one (is s.Character)))
      (holds_means sym_of IsNarrowNode (λ v h. given_narrow v h.1) (holds_row split (holds_anything upper) (λ _. holds_maybe kept))))

  body_keeps : Keeps (body inner) IsBody
  body_keeps = holds_choice
      (holds_means named_of IsBody (λ v h. h.1) (holds_row split (holds_anything lower) (λ _. holds_maybe (holds_behind s.Colon split node_keeps))))
      (holds_means bare_of IsBody (λ n h. h) node_keeps)

  term_keeps : Keeps (term inner) IsNarrow
  term_keeps = holds_means term_of IsNarrow (λ v h. term_by (unwrap_or v.0 marks.Plain) v.1.0 v.1.1 h.1) (holds_row split (holds_anything (maybe mark)) (λ _. body_keeps))

  arg_keeps : Keeps (arg inner) IsNarrowArg
  arg_keeps = holds_means arg_of IsNarrowArg (λ v h. arg_by v h.1) (holds_row split (holds_anything (maybe (sign s.Wait))) (λ _. term_keeps))

args_keep : (n : ℕ) → Keeps (args n) (Each IsNarrowArg)
unfolding args
args_keep zero = holds_barred (Each IsNarrowArg)
args_keep (suc n) = holds_behind s.Open split (holds_before s.Close split (holds_many split (arg_keeps (args n) (args_keep n))))

-- ---- patterns

abbrev pub IsNarrowPattern : PatternTree → Type 0
IsNarrowPattern t = IsTrue (is_narrow_pattern t)

level : (t : PatternTree) (x : PatternTree-F PatternTree) → roll-PatternTree x ≡ t → pattern_narrow (map-PatternTree PatternTree Bool is_narrow_pattern x) ≡ true → IsNarrowPattern t
level t x e h = ap is_narrow_pattern (sym e) ∙ fold-roll-PatternTree Bool pattern_narrow x ∙ h

symbol_narrow : (name : Name) (given : Option (List PatternTree)) → IfThere (Each IsNarrowPattern) given → IsNarrowPattern (pattern_sym_of (name, given))
symbol_narrow name None h = level (p.Sym name []) (PatternTree-F.Sym name []) (rolls-Symbol name []) refl
symbol_narrow name (Some given) h = level (p.Sym name given) (PatternTree-F.Sym name given) (rolls-Symbol name given) (each_passes (λ b. b) is_narrow_pattern given h)

piece_narrow : (name : Name) (inner : Option PatternTree) → IfThere IsNarrowPattern inner → IsNarrowPattern (piece_at name inner)
piece_narrow name None h = level (p.Variable name) (PatternTree-F.Variable name) (rolls-Variable name) refl
piece_narrow name (Some inner) h = level (p.Binder name inner) (PatternTree-F.Binder name inner) (rolls-Binder name inner) h

-- the pattern behind a sign
abbrev IsNarrowLink : Sign × PatternTree → Type 0
IsNarrowLink l = IsNarrowPattern l.1

chain_narrow : (first : PatternTree) (rest : List (Sign × PatternTree)) → IsNarrowPattern first → Each IsNarrowLink rest → IsNarrowPattern (chain_at first rest)
chain_narrow first [] h k = h
chain_narrow first (l ∷ rest) h k = level (p.Chain first (l ∷ rest)) (PatternTree-F.Chain first (l ∷ rest)) (rolls-Chain first (l ∷ rest)) (rw (h, each_passes (λ (link : Sign × Bool). link.1) (λ (l : Sign × PatternTree). (l.0, is_narrow_pattern l.1)) (l ∷ rest) k) refl)

module _ (square : Part_of (List PatternTree)) (round : Part_of PatternTree) (square_keeps : Keeps square (Each IsNarrowPattern)) (round_keeps : Keeps round IsNarrowPattern) where
  base_keeps : Keeps (base square round) IsNarrowPattern
  base_keeps =
      holds_choice (holds_means any_of IsNarrowPattern (λ t h. level p.Any PatternTree-F.Any rolls-Any refl) (holds_one (is s.Any)))
      (holds_choice (holds_means int_of IsNarrowPattern (λ t h. level p.Int PatternTree-F.Int rolls-Int refl) (holds_one (is s.Int)))
      (holds_choice (holds_means char_of IsNarrowPattern (λ t h. no_char t h.0.0 h.1) (holds_one (is s.Char)))
      (holds_choice (holds_means number_of IsNarrowPattern (λ t h. level (p.Integer (value_at true t.word)) (PatternTree-F.Integer (value_at true t.word)) (rolls-Number (value_at true t.word)) (word_within (value_at true t.word) (h.0.0.value h.1))) (holds_one (is s.Integer)))
      (holds_choice (holds_means character_of IsNarrowPattern (λ t h. no_character t h.0.0 h.1) (holds_one (is s.Character)))
      (holds_choice (holds_means pattern_sym_of IsNarrowPattern (λ v h. symbol_narrow v.0 v.1 h.1) (holds_row split (holds_anything upper) (λ _. holds_maybe square_keeps))) round_keeps)))))

  piece_keeps : Keeps (piece square round) IsNarrowPattern
  piece_keeps = holds_choice (holds_means piece_of IsNarrowPattern (λ v h. piece_narrow v.0 v.1 h.1) (holds_row split (holds_anything lower) (λ _. holds_maybe (holds_behind s.Colon split base_keeps)))) base_keeps

  over_keeps : Keeps (pattern_over square round) IsNarrowPattern
  over_keeps = holds_means chain_of IsNarrowPattern (λ v h. chain_narrow v.0 v.1 h.0 (each_weaker (λ (l : Sign × PatternTree). Unit {0} × IsNarrowPattern l.1) IsNarrowLink (λ l k. k.1) v.1 h.1)) (holds_row split piece_keeps (λ _. holds_many split (holds_row split (holds_anything operator) (λ _. piece_keeps))))

record BothKeep (n : ℕ) : Type 0 where
  pub square : Keeps (squares n) (Each IsNarrowPattern)
  pub round : Keeps (rounds n) IsNarrowPattern

both_keep : (n : ℕ) → BothKeep n
unfolding squares rounds
both_keep zero = record { square = holds_barred (Each IsNarrowPattern); round = holds_barred IsNarrowPattern }
both_keep (suc n) = let b = both_keep n in record {
  square = holds_behind s.Open split (holds_before s.Close split (holds_many split (piece_keeps (squares n) (rounds n) b.square b.round)));
  round = holds_behind s.Left split (holds_before s.Right split (over_keeps (squares n) (rounds n) b.square b.round));
}

-- ---- patterns and terms of language 1, among those of both languages

narrow_when : {A : Type 0} {P : Part_of A} (wide : Bool) (X : A → Type 0) → Keeps P X → Holds (AreTold wide) P (λ a. wide ≡ false → X a)
narrow_when wide X p = record { of = λ l a told w e. p.of l a (subst (λ (b : Bool). AreTold b l) e told) w }

pub patterns_narrow : (wide : Bool) (n : ℕ) → Holds (AreTold wide) (pattern n) (λ t. wide ≡ false → IsNarrowPattern t)
patterns_narrow wide n = let b = both_keep n in narrow_when wide IsNarrowPattern (over_keeps (squares n) (rounds n) b.square b.round)

pub terms_narrow : (wide : Bool) (n : ℕ) → Holds (AreTold wide) (term (args n)) (λ t. wide ≡ false → IsNarrow t)
terms_narrow wide n = narrow_when wide IsNarrow (term_keeps (args n) (args_keep n))
