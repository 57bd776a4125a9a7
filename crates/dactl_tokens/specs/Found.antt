-- What the parts of the lexer find at the front of bytes.
use Rattle.std.specs.Prelude.{◌≡◌, ℕ, ◌+◌, ◌≤◌, ◌<◌, Bool, true, false, ◌⊎◌, List, [], ◌∷◌, ◌++◌, length, take, drop, Some, None}
use Rattle.dactl_tokens.specs.declared.token.TokenKind.{TokenKind}
use Rattle.dactl_tokens.specs.declared.words.Run.{Run}
use Rattle.dactl_tokens.specs.declared.words.Run.TheVariants as run
use Rattle.dactl_tokens.specs.Spelling.{is_blank, is_digit, is_word, all, kind_of}
use Rattle.dactl_base.specs.declared.refusal.Kind.TheVariants.{BadByte, NumberTooWide}
use Rattle.dactl_base.specs.declared.refusal.Refusal.{Refusal}
use Rattle.dactl_tokens.specs.declared.token.Token.{Token}
use Rattle.dactl_tokens.specs.Lexes.{Open, IsGap, IsLongest, IsTokenAt, IsBad, IsTooWide}

-- no gap goes on there
abbrev pub Halts : List ℕ → Type 0
Halts [] = Unit {0}
Halts (b ∷ bs) = (is_blank b ≡ false) × (b ≡ 123 → Open bs)

-- what a gap takes, and what is left
pub record Skips (bytes rest : List ℕ) : Type 0 where
  pub gap : List ℕ
  pub is_gap : IsGap gap
  pub parts : bytes ≡ gap ++ rest

-- up to the next `}` nothing closes
pub record Closes (bytes rest : List ℕ) : Type 0 where
  pub body : List ℕ
  pub is_open : Open body
  pub parts : bytes ≡ body ++ (125 ∷ rest)

-- so many bytes are the longest front that passes
abbrev pub IsRun : (ℕ → Bool) → ℕ → List ℕ → Type 0
IsRun p n bytes = (n ≤ length bytes) × (all p (take n bytes) ≡ true) × ((k : ℕ) → n < k → k ≤ length bytes → all p (take k bytes) ≡ false)

-- what a run is made of
abbrev pub passes : Run → ℕ → Bool
passes run.Word b = is_word b
passes run.Digits b = is_digit b

-- so many bytes are the longest token there
pub record IsWord (wide : Bool) (bytes : List ℕ) (k : TokenKind) (n : ℕ) : Type 0 where
  pub fits : n ≤ length bytes
  pub kind : kind_of wide (take n bytes) ≡ Some k
  pub longest : IsLongest wide n bytes

-- no token stands there
abbrev pub NoWord : Bool → List ℕ → Type 0
NoWord wide bytes = (k : ℕ) → kind_of wide (take k bytes) ≡ None

-- what stands behind the Header of a text of language 2; of language 1 it is the whole text
abbrev pub IsBehind : Bool → List ℕ → List ℕ → Type 0
IsBehind true text rest = (rest ≡ drop 8 text) × (length rest + 8 ≡ length text)
IsBehind false text rest = rest ≡ text

-- a token stands first at a place, and the rest behind it
pub record TokenThere (wide : Bool) (place : ℕ) (bytes rest : List ℕ) (t : Token) : Type 0 where
  pub word : List ℕ
  pub parts : bytes ≡ word ++ rest
  pub is_token : IsTokenAt wide place word rest t

-- a fault stands at a place
pub record FaultThere (wide : Bool) (place : ℕ) (bytes : List ℕ) (r : Refusal) : Type 0 where
  pub at : r.place.byte ≡ place
  pub fault : ((r.kind ≡ BadByte) × IsBad wide bytes) ⊎ ((r.kind ≡ NumberTooWide) × IsTooWide wide bytes)
