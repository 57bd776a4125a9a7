-- How a text is gaps and tokens, each token the longest at its place.
use Rattle.std.specs.Prelude.{◌≡◌, ◌≢◌, ℕ, ◌+◌, ◌≤◌, ◌<◌, Bool, true, false, List, [], ◌∷◌, ◌++◌, length, take, drop, Some, None, codes}
use Rattle.std.specs.Str.{bytes_eq}
use Rattle.dactl_tokens.specs.declared.token.TokenKind.TheVariants.{Integer, Header}
use Rattle.dactl_tokens.specs.declared.token.Token.{Token}
use Rattle.dactl_tokens.specs.Spelling.{is_blank, kind_of, is_too_wide}

-- no `}` stands there
abbrev pub Open : List ℕ → Type 0
Open [] = Unit {0}
Open (b ∷ bs) = (b ≢ 125) × Open bs

-- blanks and comments, a comment from `{` to the next `}`
pub data IsGap : List ℕ → Type 0 where
  none : IsGap []
  blank : (b : ℕ) (bs : List ℕ) → is_blank b ≡ true → IsGap bs → IsGap (b ∷ bs)
  comment : (body bs : List ℕ) → Open body → IsGap bs → IsGap (123 ∷ (body ++ (125 ∷ bs)))

-- no front that is longer than the first so many bytes is a token
abbrev pub IsLongest : Bool → ℕ → List ℕ → Type 0
IsLongest wide n bytes = (k : ℕ) → n < k → k ≤ length bytes → kind_of wide (take k bytes) ≡ None

-- the word is the token at this place, with more behind it
pub record IsTokenAt (wide : Bool) (place : ℕ) (word more : List ℕ) (t : Token) : Type 0 where
  pub kind : kind_of wide word ≡ Some t.kind
  pub longest : IsLongest wide (length word) (word ++ more)
  pub fits : t.kind ≡ Integer → is_too_wide wide word ≡ false
  pub from : t.from ≡ place
  pub to : t.to ≡ place + length word

-- a gap, the token, and what is said of the place and the bytes after it
pub record Step (wide : Bool) (place : ℕ) (bytes : List ℕ) (t : Token) (after : ℕ → List ℕ → Type 0) : Type 0 where
  pub gap : List ℕ
  pub word : List ℕ
  pub more : List ℕ
  pub parts : bytes ≡ gap ++ (word ++ more)
  pub is_gap : IsGap gap
  pub is_token : IsTokenAt wide (place + length gap) word more t
  pub next : after (place + length gap + length word) more

-- a gap, and then the rest
pub record Ends (place : ℕ) (bytes : List ℕ) (end : ℕ) (rest : List ℕ) : Type 0 where
  pub gap : List ℕ
  pub parts : bytes ≡ gap ++ rest
  pub is_gap : IsGap gap
  pub at : end ≡ place + length gap

-- from a place on the bytes are gaps and these tokens of a language, up to a rest at a place
abbrev pub Scans : Bool → ℕ → List ℕ → List Token → ℕ → List ℕ → Type 0
Scans wide place bytes [] end rest = Ends place bytes end rest
Scans wide place bytes (t ∷ ts) end rest = Step wide place bytes t (λ p more. Scans wide p more ts end rest)

-- a text is of language 2 where its first 8 bytes are these, and of language 1 otherwise
unfoldable pub has_header : List ℕ → Bool
has_header text = bytes_eq (take 8 text) (codes "DACTL 2;")

-- the token of these bytes
abbrev pub header : Token
header = record { kind = Header; from = 0; to = 8 }

-- the first token is the Header, and behind it are gaps and tokens of language 2
abbrev pub ScansBehind : List ℕ → List Token → ℕ → List ℕ → Type 0
ScansBehind text [] end rest = ⊥
ScansBehind text (t ∷ ts) end rest = (t ≡ header) × Scans true 8 (drop 8 text) ts end rest

-- a text of either language is these tokens, up to a rest at a place
abbrev pub ScansText : Bool → List ℕ → List Token → ℕ → List ℕ → Type 0
ScansText true text ts end rest = ScansBehind text ts end rest
ScansText false text ts end rest = Scans false 0 text ts end rest

-- the text is these tokens, those of its language
abbrev pub Lexes : List ℕ → List Token → Type 0
Lexes text ts = (end : ℕ) × ScansText (has_header text) text ts end []

-- no gap goes on there and no token stands there; a `{` without a later `}` begins no gap
abbrev pub IsBad : Bool → List ℕ → Type 0
IsBad wide [] = ⊥
IsBad wide (b ∷ bs) = (is_blank b ≡ false) × (b ≡ 123 → Open bs) × ((k : ℕ) → kind_of wide (take k (b ∷ bs)) ≡ None)

-- an integer that the language doesn't have stands there
pub record IsTooWide (wide : Bool) (rest : List ℕ) : Type 0 where
  pub word : List ℕ
  pub more : List ℕ
  pub parts : rest ≡ word ++ more
  pub kind : kind_of wide word ≡ Some Integer
  pub longest : IsLongest wide (length word) (word ++ more)
  pub too_wide : is_too_wide wide word ≡ true
