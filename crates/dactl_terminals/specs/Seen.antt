-- The tokens of a text as a grammar sees them: by what they spell.
use Rattle.std.specs.Prelude.{ℕ, ◌-◌, min, Bool, List, length, take, drop, map, if◌then◌else◌, codes}
use Rattle.std.specs.Str.{bytes_eq}
use Rattle.dactl_tokens.specs.declared.token.Token.{Token}
use Rattle.dactl_tokens.specs.declared.token.TokenKind.{TokenKind}
use Rattle.dactl_tokens.specs.declared.token.TokenKind.TheVariants as kinds
use Rattle.dactl_terminals.specs.declared.token.Sort.{Sort}
use Rattle.dactl_terminals.specs.declared.token.Sort.TheVariants as s
use Rattle.dactl_terminals.specs.declared.token.Terminal.{Terminal}
use Rattle.dactl_terminals.specs.Parts.{Tok}

-- the bytes from one place to another, as far as the text goes
unfoldable pub between : List ℕ → ℕ → ℕ → List ℕ
between text from to = let rest = drop (min from (length text)) text in take (min (length rest) (to - from)) rest

-- a name in equations, which have two words beside the names
unfoldable pub upper_sort : List ℕ → Sort
upper_sort w =
    if bytes_eq w (codes "DATA") then s.Data else
    if bytes_eq w (codes "MAIN") then s.Main else s.Upper

-- the keyword that a keyword's bytes spell; what spells none of the others is `CHAR`
unfoldable pub keyword_sort : List ℕ → Sort
keyword_sort w =
    if bytes_eq w (codes "MODULE") then s.Module else
    if bytes_eq w (codes "ENDMODULE") then s.EndModule else
    if bytes_eq w (codes "IMPORTS") then s.Imports else
    if bytes_eq w (codes "SYMBOL") then s.Symbol else
    if bytes_eq w (codes "PATTERN") then s.Pattern else
    if bytes_eq w (codes "RULE") then s.Rule else
    if bytes_eq w (codes "INITIAL") then s.Initial else
    if bytes_eq w (codes "PUBLIC") then s.Public else
    if bytes_eq w (codes "REWRITABLE") then s.Rewritable else
    if bytes_eq w (codes "OVERWRITABLE") then s.Overwritable else
    if bytes_eq w (codes "CREATABLE") then s.Creatable else
    if bytes_eq w (codes "ANY") then s.Any else
    if bytes_eq w (codes "INT") then s.Int else s.Char

-- the sign that a sign's bytes spell; what spells none of the others is `-`
unfoldable pub sign_sort : List ℕ → Sort
sign_sort w =
    if bytes_eq w (codes "[") then s.Open else
    if bytes_eq w (codes "]") then s.Close else
    if bytes_eq w (codes "(") then s.Left else
    if bytes_eq w (codes ")") then s.Right else
    if bytes_eq w (codes ";") then s.Semicolon else
    if bytes_eq w (codes ",") then s.Comma else
    if bytes_eq w (codes "|") then s.Bar else
    if bytes_eq w (codes ":") then s.Colon else
    if bytes_eq w (codes ":=") then s.Becomes else
    if bytes_eq w (codes "=") then s.Equals else
    if bytes_eq w (codes "=>") then s.Rewrites else
    if bytes_eq w (codes "->") then s.Arrow else
    if bytes_eq w (codes "*") then s.Star else
    if bytes_eq w (codes "#") then s.Hash else
    if bytes_eq w (codes "^") then s.Wait else
    if bytes_eq w (codes "+") then s.Plus else s.Minus

-- what a token of a kind is by its bytes, in equations or in modules
unfoldable pub sort_of : Bool → TokenKind → List ℕ → Sort
sort_of equations kinds.Upper w = if equations then upper_sort w else s.Upper
sort_of equations kinds.Lower w = s.Lower
sort_of equations kinds.Integer w = s.Integer
sort_of equations kinds.Keyword w = keyword_sort w
sort_of equations kinds.Sign w = sign_sort w
sort_of equations kinds.Header w = s.Header
sort_of equations kinds.Character w = s.Character

-- a token of a kind, its bytes and its place
abbrev pub tok_of : Bool → TokenKind → List ℕ → ℕ → Tok
tok_of equations k w place = record { sort = sort_of equations k w; word = w; place = place }

-- a token of the text
abbrev pub token_seen : Bool → List ℕ → Token → Tok
token_seen equations text t = tok_of equations t.kind (between text t.from t.to) t.from

-- the tokens of the text as the grammar sees them
abbrev pub tokens_seen : Bool → List ℕ → List Token → List Tok
tokens_seen equations text ts = map (token_seen equations text) ts

-- ---- the same for the tokens of the parser, which have their sorts

abbrev pub word_of : List ℕ → Terminal → List ℕ
word_of text t = between text t.from t.to

abbrev pub seen : List ℕ → Terminal → Tok
seen text t = record { sort = t.sort; word = word_of text t; place = t.from }

abbrev pub toks : List ℕ → List Terminal → List Tok
toks text ts = map (seen text) ts
