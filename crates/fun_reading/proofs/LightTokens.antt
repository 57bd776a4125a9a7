-- A text has at most one token more than bytes.
use Rattle.std.proofs.Common.{◌≡◌, ℕ, suc, ◌+◌, ◌≤◌, Bool, true, false, List, [], ◌∷◌, ◌++◌, length, drop, Some, arith, length-append, length-drop}
use Rattle.dactl_tokens.specs.declared.token.TokenKind.{TokenKind}
use Rattle.dactl_tokens.specs.declared.token.Token.{Token}
use Rattle.dactl_tokens.specs.Spelling.{kind_of}
use Rattle.dactl_tokens.specs.Lexes.{Scans, ScansText, Lexes, has_header}
use Rattle.dactl_tokens.proofs.OneReading.{kind_nil}

-- a token has a byte at least
some_byte : (wide : Bool) (word : List ℕ) (k : TokenKind) → kind_of wide word ≡ Some k → 1 ≤ length word
some_byte wide [] k spelt = absurd (kind_nil wide k spelt)
some_byte wide (b ∷ word) k spelt = omega arith

scanned_few : (wide : Bool) (place : ℕ) (bytes : List ℕ) (ts : List Token) (end : ℕ) (rest : List ℕ) → Scans wide place bytes ts end rest → length ts ≤ length bytes
scanned_few wide place bytes [] end rest scans = omega arith
scanned_few wide place bytes (t ∷ ts) end rest scans =
    let more = scanned_few wide (place + length scans.gap + length scans.word) scans.more ts end rest scans.next in
    let one = some_byte wide scans.word t.kind scans.is_token.kind in
    let behind = length-append scans.word scans.more in
    let whole = length-append scans.gap (scans.word ++ scans.more) in
    let shown : suc (length ts) ≤ length (scans.gap ++ (scans.word ++ scans.more)) = omega (arith, more, one, behind, whole) in
    rw scans.parts shown

text_few : (wide : Bool) (bytes : List ℕ) (ts : List Token) (end : ℕ) → ScansText wide bytes ts end [] → length ts ≤ 1 + length bytes
text_few true bytes [] end scans = absurd scans
text_few true bytes (t ∷ ts) end scans =
    let more = scanned_few true 8 (drop 8 bytes) ts end [] scans.1 in
    let left = length-drop 8 bytes in
    omega (arith, more, left)
text_few false bytes ts end scans =
    let few = scanned_few false 0 bytes ts end [] scans in
    omega (arith, few)

pub tokens_few : (bytes : List ℕ) (ts : List Token) → Lexes bytes ts → length ts ≤ 1 + length bytes
tokens_few bytes ts lexes = text_few (has_header bytes) bytes ts lexes.0 lexes.1
