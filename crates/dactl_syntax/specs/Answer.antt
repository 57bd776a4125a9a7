-- What is answered for the tokens of a text: its tree, or the first fault.
use Rattle.std.specs.Prelude.{◌≡◌, ℕ, Bool, false, ◌||◌, List, length}
use Rattle.dactl_base.specs.declared.refusal.Refusal.{Refusal}
use Rattle.dactl_tokens.specs.declared.token.Token.{Token}
use Rattle.dactl_terminals.specs.declared.token.Sort.TheVariants as s
use Rattle.dactl_meaning.specs.declared.tree.Text.{Text}
use Rattle.dactl_terminals.specs.Parts.{Tok, is}
use Rattle.dactl_terminals.specs.Seen as seen
use Rattle.dactl_terminals.specs.Answer.{IsFault}
use Rattle.dactl_syntax.specs.Productions.{text}

-- how many brackets may be open
abbrev pub most_open : ℕ
most_open = 200

-- the brackets that count
abbrev pub is_bracket : Tok → Bool
is_bracket t = is s.Open t || is s.Left t

-- the tokens of the text as the grammar sees them
abbrev pub tokens_seen : List ℕ → List Token → List Tok
tokens_seen bytes tokens = seen.tokens_seen false bytes tokens

-- the tokens of the text derive the tree, which has the text's length
pub record IsTree (bytes : List ℕ) (tokens : List Token) (tree : Text) : Type 0 where
  pub derives : (text most_open).whole (tokens_seen bytes tokens) (tree.language, tree.modules)
  pub length : tree.length ≡ length bytes

-- the first fault of the tokens of a text
abbrev pub IsFirstFault : List ℕ → List Token → Refusal → Type 0
IsFirstFault bytes tokens r = IsFault is_bracket text most_open (length bytes) (tokens_seen bytes tokens) r
