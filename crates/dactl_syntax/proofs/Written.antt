-- Texts of lists, one part more.
use Rattle.std.proofs.Common.{◌≡◌, ℕ, zero, suc, ◌+◌, ◌<◌, true, false, List, [], ◌∷◌, ◌++◌, length, map, take, get_or, refl, sym, ap, ◌∙◌, append_assoc, arith}
use Rattle.std.specs.Prelude.{codes}
use Rattle.std.specs.List.{concat}
use Rattle.std.proofs.lemmas.List.{append-nil}
use Rattle.dactl_meaning.specs.declared.tree.Name.{Name}
use Rattle.dactl_meaning.specs.declared.tree.Sign.{Sign}
use Rattle.dactl_meaning.specs.declared.tree.PatternTree.{PatternTree}
use Rattle.dactl_meaning.specs.declared.tree.PatternTree.TheVariants.{rolls-Binder, rolls-Chain, rolls-Sym}
use Rattle.dactl_meaning.specs.declared.tree.PatternTree.TheVariants as p
use Rattle.dactl_meaning.specs.declared.tree.PatternTree.TheOpen.{PatternTree-F}
use Rattle.dactl_meaning.specs.declared.tree.PatternTree.TheFolds.{fold-roll-PatternTree}
use Rattle.dactl_syntax.specs.declared.write_patterns.Standing.TheVariants as standing
use Rattle.dactl_syntax.specs.Canonical.{word, bracketed, separated, before_text, Piece, stand, plain, pattern_level, piece_of, pattern_text, link_text, tail_text}

-- the part at a place joins those before it
pub concat_more : {A : Type 0} (f : A → List ℕ) (xs : List A) (i : ℕ) (d : A) → i < length xs → concat (map f (take (i + 1) xs)) ≡ concat (map f (take i xs)) ++ f (get_or xs i d)
concat_more f [] i d h = absurd (omega arith)
concat_more f (x ∷ xs) zero d h = append-nil (f x)
concat_more f (x ∷ xs) (suc i) d h =
    let e : suc i + 1 ≡ suc (i + 1) = omega arith in
    let tail = concat_more f xs i d (omega arith) in
    rw e (ap (λ (k : List ℕ). f x ++ k) tail ∙ sym (append_assoc (f x) (concat (map f (take i xs))) (f (get_or xs i d))))

pub step_more : {A : Type 0} (f : A → List ℕ) (xs : List A) (i : ℕ) (x : A) (start out next : List ℕ) → i < length xs → out ≡ start ++ concat (map f (take i xs)) → x ≡ get_or xs i x → next ≡ out ++ f x → next ≡ start ++ concat (map f (take (i + 1) xs))
step_more f xs i x start out next lt so_far is step =
    step ∙ ap (λ (k : List ℕ). k ++ f x) so_far ∙ append_assoc start (concat (map f (take i xs))) (f x)
    ∙ ap (λ (k : List ℕ). start ++ k) (ap (λ (z : _). concat (map f (take i xs)) ++ f z) is ∙ sym (concat_more f xs i x lt))

pub two_parts : (a b c u v : List ℕ) → b ≡ a ++ u → c ≡ b ++ v → c ≡ a ++ (u ++ v)
two_parts a b c u v e f = f ∙ ap (λ (k : List ℕ). k ++ v) e ∙ append_assoc a u v

pub three_parts : (a b c d u v w : List ℕ) → b ≡ a ++ u → c ≡ b ++ v → d ≡ c ++ w → d ≡ a ++ (u ++ (v ++ w))
three_parts a b c d u v w e f g = two_parts a b d u (v ++ w) e (two_parts b c d v w f g)

-- ---- a pattern, by its layer

pub piece_binder : (name : Name) (inner : PatternTree) → piece_of (p.Binder name inner) ≡ pattern_level (PatternTree-F.Binder name (piece_of inner))
piece_binder name inner = ap piece_of (sym (rolls-Binder name inner)) ∙ fold-roll-PatternTree Piece pattern_level (PatternTree-F.Binder name inner)

tails : (rest : List (Sign × PatternTree)) → map link_text (map (λ l. (l.0, piece_of l.1)) rest) ≡ map tail_text rest
tails [] = refl
tails (l ∷ rest) = ap (λ (k : List (List ℕ)). tail_text l ∷ k) (tails rest)

stands : (args : List PatternTree) → map (stand standing.Inner) (map piece_of args) ≡ map (pattern_text standing.Inner) args
stands [] = refl
stands (q ∷ args) = ap (λ (k : List (List ℕ)). pattern_text standing.Inner q ∷ k) (stands args)

pub whole_chain : (first : PatternTree) (rest : List (Sign × PatternTree)) → piece_of (p.Chain first rest) ≡ record { bytes = pattern_text standing.Inner first ++ concat (map tail_text rest); is_chain = true; is_named = false }
whole_chain first rest =
    ap piece_of (sym (rolls-Chain first rest)) ∙ fold-roll-PatternTree Piece pattern_level (PatternTree-F.Chain first rest)
    ∙ ap (λ (k : List (List ℕ)). record { bytes = pattern_text standing.Inner first ++ concat k; is_chain = true; is_named = false }) (tails rest)

pub whole_sym : (name : Name) (args : List PatternTree) → piece_of (p.Sym name args) ≡ plain (word name.text ++ bracketed (map (pattern_text standing.Inner) args))
whole_sym name args =
    ap piece_of (sym (rolls-Sym name args)) ∙ fold-roll-PatternTree Piece pattern_level (PatternTree-F.Sym name args)
    ∙ ap (λ (k : List (List ℕ)). plain (word name.text ++ bracketed k)) (stands args)

pub piece_chain : (first : PatternTree) (rest : List (Sign × PatternTree)) → (piece_of (p.Chain first rest)).bytes ≡ pattern_text standing.Inner first ++ concat (map tail_text rest)
piece_chain first rest = ap (λ (k : Piece). k.bytes) (whole_chain first rest)

pub piece_sym : (name : Name) (args : List PatternTree) → (piece_of (p.Sym name args)).bytes ≡ word name.text ++ bracketed (map (pattern_text standing.Inner) args)
piece_sym name args = ap (λ (k : Piece). k.bytes) (whole_sym name args)

-- ---- parts with a token between each two

comma_concat : (sep : List ℕ) (ws : List (List ℕ)) (w : List ℕ) → concat (map (λ v. sep ++ v) (ws ++ w ∷ [])) ≡ concat (map (λ v. sep ++ v) ws) ++ (sep ++ w)
comma_concat sep [] w = append-nil (sep ++ w)
comma_concat sep (v ∷ ws) w = ap (λ (k : List ℕ). (sep ++ v) ++ k) (comma_concat sep ws w) ∙ sym (append_assoc (sep ++ v) (concat (map (λ v. sep ++ v) ws)) (sep ++ w))

taken_more : {A : Type 0} (f : A → List ℕ) (xs : List A) (i : ℕ) (d : A) → i < length xs → map f (take (i + 1) xs) ≡ map f (take i xs) ++ f (get_or xs i d) ∷ []
taken_more f [] i d h = absurd (omega arith)
taken_more f (x ∷ xs) zero d h = refl
taken_more f (x ∷ xs) (suc i) d h =
    let e : suc i + 1 ≡ suc (i + 1) = omega arith in
    rw e (ap (λ (k : List (List ℕ)). f x ∷ k) (taken_more f xs i d (omega arith)))

separated_push : (sep : List ℕ) (ws : List (List ℕ)) (w : List ℕ) → separated sep (ws ++ w ∷ []) ≡ separated sep ws ++ (before_text (length ws) sep ++ w)
separated_push sep [] w = append-nil w
separated_push sep (v ∷ ws) w = ap (λ (k : List ℕ). v ++ k) (comma_concat sep ws w) ∙ sym (append_assoc v (concat (map (λ v. sep ++ v) ws)) (sep ++ w))

length_taken : {A : Type 0} (f : A → List ℕ) (xs : List A) (i : ℕ) → i < length xs → length (map f (take i xs)) ≡ i
length_taken f [] i h = absurd (omega arith)
length_taken f (x ∷ xs) zero h = refl
length_taken f (x ∷ xs) (suc i) h = ap (λ (n : ℕ). suc n) (length_taken f xs i (omega arith))

pub separated_more : {A : Type 0} (sep : List ℕ) (f : A → List ℕ) (xs : List A) (i : ℕ) (x : A) (start out between next : List ℕ) → i < length xs → out ≡ start ++ separated sep (map f (take i xs)) → between ≡ out ++ before_text i sep → x ≡ get_or xs i x → next ≡ between ++ f x → next ≡ start ++ separated sep (map f (take (i + 1) xs))
separated_more sep f xs i x start out between next lt so_far sep_is is step =
    let at : between ++ f x ≡ out ++ (before_text i sep ++ f x) = ap (λ (k : List ℕ). k ++ f x) sep_is ∙ append_assoc out (before_text i sep) (f x) in
    let grown : separated sep (map f (take (i + 1) xs)) ≡ separated sep (map f (take i xs)) ++ (before_text i sep ++ f x) =
    ap (separated sep) (taken_more f xs i x lt)
    ∙ separated_push sep (map f (take i xs)) (f (get_or xs i x))
    ∙ ap (λ (n : ℕ). separated sep (map f (take i xs)) ++ (before_text n sep ++ f (get_or xs i x))) (length_taken f xs i lt)
    ∙ ap (λ (z : _). separated sep (map f (take i xs)) ++ (before_text i sep ++ f z)) (sym is) in
    step ∙ at ∙ ap (λ (k : List ℕ). k ++ (before_text i sep ++ f x)) so_far ∙ append_assoc start (separated sep (map f (take i xs))) (before_text i sep ++ f x) ∙ ap (λ (k : List ℕ). start ++ k) (sym grown)

-- brackets about arguments that there are
pub bracketed_some : {A : Type 0} (f : A → List ℕ) (args : List A) → (args ≡ [] → ⊥) → bracketed (map f args) ≡ word (codes "[") ++ (concat (map f args) ++ word (codes "]"))
bracketed_some f [] some = absurd (some refl)
bracketed_some f (a ∷ args) some = refl
