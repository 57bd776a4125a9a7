-- The tokens of a text as a grammar sees them: which kind has which sort, and what each one's bytes are.
use Rattle.std.proofs.Common.{◌≡◌, ℕ, ◌+◌, ◌-◌, Bool, true, false, cond, List, [], ◌∷◌, ◌++◌, length, take, drop, Option, Some, None, refl, sym, ap, subst, ◌∙◌, append_assoc, arith, length-append}
use Rattle.std.proofs.lemmas.Bool.{and_parts}
use Rattle.std.specs.Prelude.{◌&&◌, is_some, not, min, codes}
use Rattle.std.specs.List.{AllByRecursion as Each}
use Rattle.std.specs.Str.{bytes_eq}
use Rattle.std.proofs.Math.Nat.{min-eq_left, min-eq_right}
use Rattle.std.proofs.Math.Seq.{drop-append_seam, take-append_seam}
use Rattle.std.proofs.lemmas.List.{take-append-drop}
use Rattle.std.proofs.lemmas.Slice.Eq.{bytes_eq-Decides}
use denote.Enum.Bare.{same_true}
use Rattle.dactl_tokens.specs.declared.token.Token.{Token}
use Rattle.dactl_tokens.specs.declared.token.TokenKind.{TokenKind}
use Rattle.dactl_tokens.specs.declared.token.TokenKind.TheVariants as kinds
use Rattle.dactl_tokens.specs.Spelling.{kind_of, is_too_wide}
use Rattle.dactl_tokens.specs.Lexes.{Scans, ScansText, Lexes, has_header, header}
use Rattle.dactl_terminals.specs.declared.token.Sort.{Sort}
use Rattle.dactl_terminals.specs.declared.token.Sort.TheVariants as s
use Rattle.dactl_terminals.specs.contracts.token.Sort.{the_type}
use Rattle.dactl_terminals.specs.Sort.{same_sort}
use Rattle.dactl_terminals.specs.Parts.{Tok}
use Rattle.dactl_terminals.specs.Seen.{between, upper_sort, keyword_sort, sign_sort, sort_of, tok_of, token_seen, tokens_seen}

-- the sort of the first word in a table that the bytes are, and another where they are none
abbrev pub pick : List (List ℕ × Sort) → Sort → List ℕ → Sort
pick [] other w = other
pick (row ∷ table) other w = cond (bytes_eq w row.0) row.1 (pick table other w)

abbrev pub keyword_table : List (List ℕ × Sort)
keyword_table = (codes "MODULE", s.Module) ∷ (codes "ENDMODULE", s.EndModule) ∷ (codes "IMPORTS", s.Imports) ∷ (codes "SYMBOL", s.Symbol) ∷ (codes "PATTERN", s.Pattern) ∷ (codes "RULE", s.Rule) ∷ (codes "INITIAL", s.Initial) ∷ (codes "PUBLIC", s.Public) ∷ (codes "REWRITABLE", s.Rewritable) ∷ (codes "OVERWRITABLE", s.Overwritable) ∷ (codes "CREATABLE", s.Creatable) ∷ (codes "ANY", s.Any) ∷ (codes "INT", s.Int) ∷ []

abbrev pub sign_table : List (List ℕ × Sort)
sign_table = (codes "[", s.Open) ∷ (codes "]", s.Close) ∷ (codes "(", s.Left) ∷ (codes ")", s.Right) ∷ (codes ";", s.Semicolon) ∷ (codes ",", s.Comma) ∷ (codes "|", s.Bar) ∷ (codes ":", s.Colon) ∷ (codes ":=", s.Becomes) ∷ (codes "=", s.Equals) ∷ (codes "=>", s.Rewrites) ∷ (codes "->", s.Arrow) ∷ (codes "*", s.Star) ∷ (codes "#", s.Hash) ∷ (codes "^", s.Wait) ∷ (codes "+", s.Plus) ∷ []

pub keyword_picked : (w : List ℕ) → keyword_sort w ≡ pick keyword_table s.Char w
unfolding keyword_sort
keyword_picked w = refl

pub sign_picked : (w : List ℕ) → sign_sort w ≡ pick sign_table s.Minus w
unfolding sign_sort
sign_picked w = refl

-- the test passes at the sorts of a table
abbrev pub passes : (Sort → Bool) → List (List ℕ × Sort) → Bool
passes p [] = true
passes p (row ∷ table) = p row.1 && passes p table

either : (p : Sort → Bool) (b : Bool) (x y : Sort) → p x ≡ true → p y ≡ true → p (cond b x y) ≡ true
either p true x y h k = h
either p false x y h k = k

pub picked : (p : Sort → Bool) (table : List (List ℕ × Sort)) (other : Sort) (w : List ℕ) → passes p table ≡ true → p other ≡ true → p (pick table other w) ≡ true
picked p [] other w h k = k
picked p (row ∷ table) other w h k = either p (bytes_eq w row.0) row.1 (pick table other w) (and_parts (p row.1) (passes p table) h).0 (picked p table other w (and_parts (p row.1) (passes p table) h).1 k)

-- ---- sorts that tell the kind

-- the one kind of token that has this sort; keywords, signs and the words of equations tell none
abbrev pub lone : Sort → Option TokenKind
lone s.Upper = Some kinds.Upper
lone s.Lower = Some kinds.Lower
lone s.Integer = Some kinds.Integer
lone s.Header = Some kinds.Header
lone s.Character = Some kinds.Character
lone _ = None

abbrev tells_none : Sort → Bool
tells_none s = not (is_some (lone s))

no_kind : {K : TokenKind} (o : Option TokenKind) → not (is_some o) ≡ true → o ≡ Some K → ⊥
no_kind None h e = absurd cc
no_kind (Some k) h e = absurd cc

upper_told : (equations : Bool) (w : List ℕ) (K : TokenKind) → lone (cond equations (upper_sort w) s.Upper) ≡ Some K → kinds.Upper ≡ K
unfolding upper_sort
upper_told false w K e = cc
upper_told true w K e = by (bytes_eq w (codes "DATA")) (bytes_eq w (codes "MAIN")) e
  where
    by : (a b : Bool) → lone (cond a s.Data (cond b s.Main s.Upper)) ≡ Some K → kinds.Upper ≡ K
    by true b h = absurd cc
    by false true h = absurd cc
    by false false h = cc

told : (equations : Bool) (k : TokenKind) (w : List ℕ) (K : TokenKind) → lone (sort_of equations k w) ≡ Some K → k ≡ K
unfolding sort_of
told equations kinds.Upper w K e = upper_told equations w K e
told equations kinds.Lower w K e = cc
told equations kinds.Integer w K e = cc
told equations kinds.Keyword w K e = absurd (no_kind (lone (keyword_sort w)) (ap tells_none (keyword_picked w) ∙ picked tells_none keyword_table s.Char w refl refl) e)
told equations kinds.Sign w K e = absurd (no_kind (lone (sign_sort w)) (ap tells_none (sign_picked w) ∙ picked tells_none sign_table s.Minus w refl refl) e)
told equations kinds.Header w K e = cc
told equations kinds.Character w K e = cc

pub kind_told : (sort : Sort) (K : TokenKind) → lone sort ≡ Some K → (equations : Bool) (k : TokenKind) (w : List ℕ) → same_sort sort (sort_of equations k w) ≡ true → k ≡ K
unfolding same_sort
kind_told sort K e equations k w h = told equations k w K (ap lone (sym (same_true the_type tt sort (sort_of equations k w) h)) ∙ e)

-- ---- the bytes of a token

pub between_is : (text pre word more : List ℕ) (from to : ℕ) → text ≡ pre ++ (word ++ more) → from ≡ length pre → to ≡ from + length word → between text from to ≡ word
unfolding between
between_is text pre word more from to e f t =
    let long : length text ≡ length pre + (length word + length more) = ap length e ∙ length-append pre (word ++ more) ∙ ap (λ (n : ℕ). length pre + n) (length-append word more) in
    let start : min from (length text) ≡ length pre = min-eq_left (omega arith) ∙ f in
    let rest : drop (min from (length text)) text ≡ word ++ more = ap (λ (n : ℕ). drop n text) start ∙ ap (drop (length pre)) e ∙ drop-append_seam pre (word ++ more) in
    let size : to - from ≡ length word = omega arith in
    let some : min (length (word ++ more)) (length word) ≡ length word = min-eq_right (omega (arith, length-append word more)) in
    ap (λ (r : List ℕ). take (min (length r) (to - from)) r) rest ∙ ap (λ (n : ℕ). take (min (length (word ++ more)) n) (word ++ more)) size ∙ ap (λ (n : ℕ). take n (word ++ more)) some ∙ take-append_seam word more

pub seen_word : (equations : Bool) (text before word more : List ℕ) (t : Token) → text ≡ before ++ (word ++ more) → t.from ≡ length before → t.to ≡ t.from + length word → token_seen equations text t ≡ tok_of equations t.kind word t.from
seen_word equations text before word more t e f g = ap (λ (w : List ℕ). tok_of equations t.kind w t.from) (between_is text before word more t.from t.to e f g)

-- ---- what holds of each token

-- a fact holds of each token that is spelled by a word of the language
abbrev pub OfWords : Bool → Bool → (Tok → Type 0) → Type 0
OfWords equations wide X = (k : TokenKind) (w : List ℕ) (place : ℕ) → kind_of wide w ≡ Some k → (k ≡ kinds.Integer → is_too_wide wide w ≡ false) → X (tok_of equations k w place)

holds_from : (equations wide : Bool) (text : List ℕ) (X : Tok → Type 0) → OfWords equations wide X → (pre bytes : List ℕ) (place : ℕ) (ts : List Token) (end : ℕ) → text ≡ pre ++ bytes → place ≡ length pre → Scans wide place bytes ts end [] → Each X (tokens_seen equations text ts)
holds_from equations wide text X of pre bytes place [] end e f w = tt
holds_from equations wide text X of pre bytes place (t ∷ ts) end e f w =
    let before : List ℕ = pre ++ w.gap in
    let long : length before ≡ length pre + length w.gap = length-append pre w.gap in
    let parts : text ≡ before ++ (w.word ++ w.more) = e ∙ ap (λ (z : List ℕ). pre ++ z) w.parts ∙ sym (append_assoc pre w.gap (w.word ++ w.more)) in
    let from = w.is_token.from in
    let to = w.is_token.to in
    let seen = seen_word equations text before w.word w.more t parts (omega arith) (omega arith) in (
      subst X (sym seen) (of t.kind w.word t.from w.is_token.kind w.is_token.fits),
      holds_from equations wide text X of (before ++ w.word) w.more (place + length w.gap + length w.word) ts end (parts ∙ sym (append_assoc before w.word w.more)) (omega (arith, length-append before w.word)) w.next,
    )

-- a text of language 2 begins with 8 bytes
header_length : (text : List ℕ) → true ≡ has_header text → length (take 8 text) ≡ 8
unfolding has_header
header_length text h = ap length ((bytes_eq-Decides (take 8 text) (codes "DACTL 2;")).0 (sym h))

holds_text : (equations wide : Bool) (text : List ℕ) (X : Tok → Type 0) → OfWords equations wide X → (wide ≡ true → X (token_seen equations text header)) → (ts : List Token) (end : ℕ) → wide ≡ has_header text → ScansText wide text ts end [] → Each X (tokens_seen equations text ts)
holds_text equations true text X of first [] end e w = absurd w
holds_text equations true text X of first (t ∷ ts) end e w = (
  subst (λ (u : Token). X (token_seen equations text u)) (sym w.0) (first refl),
  holds_from equations true text X of (take 8 text) (drop 8 text) 8 ts end (sym (take-append-drop 8 text)) (sym (header_length text e)) w.1,
)
holds_text equations false text X of first ts end e w = holds_from equations false text X of [] text 0 ts end refl refl w

-- what holds of each word and of the Header holds of each token of a text
pub tokens_hold : (equations : Bool) (text : List ℕ) (X : Tok → Type 0) → OfWords equations (has_header text) X → (has_header text ≡ true → X (token_seen equations text header)) → (ts : List Token) → Lexes text ts → Each X (tokens_seen equations text ts)
tokens_hold equations text X of first ts w = holds_text equations (has_header text) text X of first ts w.0 refl w.1
