-- The names that a symbol may have.
use Rattle.std.specs.Prelude.{ℕ, Bool, false, not, ◌&&◌, ◌||◌, List, [], ◌∷◌, ◌==◌, nat_le, codes}
use Rattle.std.specs.List.{list_all, list_any}
use Rattle.std.specs.Str.{bytes_eq}

-- 'A' to 'Z'
abbrev pub is_capital : ℕ → Bool
is_capital c = nat_le 65 c && nat_le c 90

-- 'a' to 'z'
abbrev pub is_small_letter : ℕ → Bool
is_small_letter c = nat_le 97 c && nat_le c 122

-- '0' to '9'
abbrev pub is_digit : ℕ → Bool
is_digit c = nat_le 48 c && nat_le c 57

-- a letter, a digit or '_'
abbrev pub is_word_byte : ℕ → Bool
is_word_byte c = is_capital c || is_small_letter c || is_digit c || (c == 95)

-- the first byte is a capital letter
abbrev pub begins_capital : List ℕ → Bool
begins_capital [] = false
begins_capital (c ∷ cs) = is_capital c

-- the keywords of each language
unfoldable pub keywords : List (List ℕ)
keywords =
    codes "MODULE" ∷ codes "ENDMODULE" ∷ codes "IMPORTS" ∷ codes "SYMBOL" ∷ codes "PATTERN" ∷ codes "RULE" ∷ codes "INITIAL" ∷ codes "PUBLIC" ∷ codes "REWRITABLE" ∷ codes "OVERWRITABLE" ∷ codes "CREATABLE" ∷ codes "ANY" ∷ codes "INT" ∷ []

-- the name is a keyword of the language, in which `CHAR` is one too or not
unfoldable pub is_keyword : Bool → List ℕ → Bool
is_keyword wide name = list_any (bytes_eq name) keywords || (wide && bytes_eq name (codes "CHAR"))

-- the spelling of a name with a capital letter: letters, digits and '_', and no keyword
abbrev pub is_upper_name : Bool → List ℕ → Bool
is_upper_name wide name = begins_capital name && list_all is_word_byte name && not (is_keyword wide name)
