-- What is answered for the tokens of a text of equations: its tree, or the first fault.
use Rattle.std.specs.Prelude.{ℕ, Bool, true, List, length}
use Rattle.dactl_base.specs.declared.refusal.Refusal.{Refusal}
use Rattle.dactl_tokens.specs.declared.token.Token.{Token}
use Rattle.fun_meaning.specs.declared.tree.Fun.{Fun}
use Rattle.dactl_terminals.specs.declared.token.Sort.TheVariants as s
use Rattle.dactl_terminals.specs.Parts.{Tok, is}
use Rattle.dactl_terminals.specs.Seen as seen
use Rattle.dactl_terminals.specs.Answer.{IsFault}
use Rattle.fun_syntax.specs.Productions.{fun}

-- how many brackets may be open
abbrev pub most_open : ℕ
most_open = 100

-- the brackets that count
abbrev pub is_bracket : Tok → Bool
is_bracket t = is s.Open t

-- the tokens of the text as the grammar sees them
abbrev pub tokens_seen : List ℕ → List Token → List Tok
tokens_seen bytes tokens = seen.tokens_seen true bytes tokens

-- the tokens of the text derive the equations
abbrev pub AreEquations : List ℕ → List Token → Fun → Type 0
AreEquations bytes tokens e = (fun most_open).whole (tokens_seen bytes tokens) e

-- the first fault of the tokens of a text
abbrev pub IsFirstFault : List ℕ → List Token → Refusal → Type 0
IsFirstFault bytes tokens r = IsFault is_bracket fun most_open (length bytes) (tokens_seen bytes tokens) r
