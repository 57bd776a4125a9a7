-- What bytes spell as a whole.
use Rattle.std.specs.Prelude.{ℕ, ◌+◌, ◌-◌, ◌*◌, ◌^◌, Bool, true, false, ◌&&◌, ◌||◌, ◌==◌, nat_le, nat_lt, if◌then◌else◌, List, [], ◌∷◌, Option, Some, None, codes, ℤ, pos, ◌-ℤ◌}
use Rattle.std.specs.Str.{bytes_eq}
use Rattle.dactl_tokens.specs.declared.token.TokenKind.{TokenKind}
use Rattle.dactl_tokens.specs.declared.token.TokenKind.TheVariants.{Upper, Lower, Integer, Keyword, Sign, Character}

abbrev pub within : ℕ → ℕ → ℕ → Bool
within low high b = nat_le low b && nat_le b high

-- `A` to `Z`
abbrev pub is_upper : ℕ → Bool
is_upper = within 65 90

-- `a` to `z`
abbrev pub is_lower : ℕ → Bool
is_lower = within 97 122

-- `0` to `9`
abbrev pub is_digit : ℕ → Bool
is_digit = within 48 57

-- what a name may go on with: a letter, a digit or `_`
abbrev pub is_word : ℕ → Bool
is_word b = is_upper b || is_lower b || is_digit b || (b == 95)

-- space, tab, LF and CR
abbrev pub is_blank : ℕ → Bool
is_blank b = (b == 32) || (b == 9) || (b == 10) || (b == 13)

abbrev pub all : (ℕ → Bool) → List ℕ → Bool
all p [] = true
all p (b ∷ bs) = p b && all p bs

abbrev pub is_among : List ℕ → List (List ℕ) → Bool
is_among w [] = false
is_among w (v ∷ vs) = bytes_eq w v || is_among w vs

-- the keywords of both languages, and `CHAR` in language 2, which is the wide one
unfoldable pub is_keyword : Bool → List ℕ → Bool
is_keyword wide w = is_among w (codes "MODULE" ∷ codes "ENDMODULE" ∷ codes "IMPORTS" ∷ codes "SYMBOL" ∷ codes "PATTERN" ∷ codes "RULE" ∷ codes "INITIAL" ∷ codes "PUBLIC" ∷ codes "REWRITABLE" ∷ codes "OVERWRITABLE" ∷ codes "CREATABLE" ∷ codes "ANY" ∷ codes "INT" ∷ []) || (wide && bytes_eq w (codes "CHAR"))

abbrev pub is_one_of : ℕ → List ℕ → Bool
is_one_of b [] = false
is_one_of b (c ∷ cs) = (b == c) || is_one_of b cs

-- one byte alone is a sign
unfoldable pub is_sign_byte : ℕ → Bool
is_sign_byte b = is_one_of b (codes "[]();,|:=*#^+-")

-- `:=`, `=>` and `->`
unfoldable pub is_long_sign : ℕ → ℕ → Bool
is_long_sign b c = ((b == 58) && (c == 61)) || ((b == 61) && (c == 62)) || ((b == 45) && (c == 62))

-- a sign, or an integer that begins with `-`
abbrev pub sign_kind : List ℕ → Option TokenKind
sign_kind [] = None
sign_kind (b ∷ []) = if is_sign_byte b then Some Sign else None
sign_kind (b ∷ c ∷ []) = if is_long_sign b c then Some Sign else (if (b == 45) && is_digit c then Some Integer else None)
sign_kind (b ∷ c ∷ d ∷ bs) = if (b == 45) && (is_digit c && (is_digit d && all is_digit bs)) then Some Integer else None

-- a byte that a character may have, from space to `~`
abbrev pub is_printable : ℕ → Bool
is_printable = within 32 126

-- behind its first `'` a character has one byte and another `'`
abbrev pub character_kind : List ℕ → Option TokenKind
character_kind (c ∷ d ∷ []) = if is_printable c && (d == 39) then Some Character else None
character_kind _ = None

-- the kind of token that the bytes spell in a language, if they spell one
unfoldable pub kind_of : Bool → List ℕ → Option TokenKind
kind_of wide [] = None
kind_of wide (b ∷ bs) =
    if is_upper b then (if all is_word bs then Some (if is_keyword wide (b ∷ bs) then Keyword else Upper) else None)
    else (if is_lower b then (if all is_word bs then Some Lower else None)
    else (if is_digit b then (if all is_digit bs then Some Integer else None)
    else (if (b == 39) && wide then character_kind bs else sign_kind (b ∷ bs))))

-- the value of digits behind a number
abbrev pub decimal : ℕ → List ℕ → ℕ
decimal n [] = n
decimal n (b ∷ bs) = decimal (10 * n + (b - 48)) bs

-- the least integer of a language is this far below zero, and the greatest one less above it
abbrev pub bound : Bool → ℕ
bound wide = if wide then 2 ^ 127 else 2 ^ 63

-- the bytes of an integer spell one that the language doesn't have
unfoldable pub is_too_wide : Bool → List ℕ → Bool
is_too_wide wide [] = false
is_too_wide wide (b ∷ bs) = if b == 45 then nat_lt (bound wide) (decimal 0 bs) else nat_le (bound wide) (decimal 0 (b ∷ bs))

-- the value of the bytes of an integer
abbrev pub value_of : List ℕ → ℤ
value_of [] = pos 0
value_of (b ∷ bs) = if b == 45 then pos 0 -ℤ pos (decimal 0 bs) else pos (decimal 0 (b ∷ bs))
