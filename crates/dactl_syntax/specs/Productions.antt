-- The grammar, one definition for each of its productions.
use Rattle.std.specs.Prelude.{ℕ, zero, suc, ◌+◌, Bool, true, false, ◌&&◌, List, [], ◌∷◌, length, Option, Some, None, is_some, unwrap_or, min}
use Rattle.std.specs.Str.{bytes_eq}
use Rattle.dactl_base.specs.declared.refusal.Place.{Place}
use Rattle.dactl_terminals.specs.declared.token.Sort.{Sort}
use Rattle.dactl_terminals.specs.declared.token.Sort.TheVariants as s
use Rattle.dactl_meaning.specs.declared.tree.Name.{Name}
use Rattle.dactl_meaning.specs.declared.tree.Marks.{Marks}
use Rattle.dactl_meaning.specs.declared.tree.Marks.TheVariants as marks
use Rattle.dactl_meaning.specs.declared.tree.NodeTree.{NodeTree}
use Rattle.dactl_meaning.specs.declared.tree.NodeTree.TheVariants as node_tree
use Rattle.dactl_meaning.specs.declared.tree.TermTree.{TermTree, roll-TermTree}
use Rattle.dactl_meaning.specs.declared.tree.ArgTree.{ArgTree, roll-ArgTree}
use Rattle.dactl_meaning.specs.declared.tree.PatternTree.{PatternTree}
use Rattle.dactl_meaning.specs.declared.tree.PatternTree.TheVariants as p
use Rattle.dactl_meaning.specs.declared.tree.Sign.{Sign}
use Rattle.dactl_meaning.specs.declared.tree.Sign.TheVariants as signs
use Rattle.dactl_meaning.specs.declared.tree.Part.{Part}
use Rattle.dactl_meaning.specs.declared.tree.Part.TheVariants as parts
use Rattle.dactl_meaning.specs.declared.tree.RuleTree.{RuleTree}
use Rattle.dactl_meaning.specs.declared.tree.Group.{Group}
use Rattle.dactl_meaning.specs.declared.tree.Item.{Item}
use Rattle.dactl_meaning.specs.declared.tree.Item.TheVariants as item
use Rattle.dactl_model.specs.declared.program.Class.{Class}
use Rattle.dactl_model.specs.declared.program.Class.TheVariants as classes
use Rattle.dactl_meaning.specs.declared.tree.Module.{Module}
use Rattle.dactl_terminals.specs.Parts.{Tok, Part_of, is, sign, behind, before, pair, listed, separated, here, upper, lower, names, value_at}
use Rattle.dactl_syntax.specs.Sort.{is_class}
use Rattle.dactl_grammar.specs.Grammar.{one, row, choice, maybe, many, means, barred, placed}

abbrev pub several : {A : Type 0} → Part_of A → Part_of (List A)
several P = listed P P

-- ---- terms

-- mark = "*" | "#" {"#"}
abbrev pub star_of : Tok → Marks
star_of t = marks.Star (here t)

-- the first `#` and how many more; counted up to the greatest number of 32 bits, past which no text within its length has any
abbrev pub hashes_of : Tok × ℕ → Marks
hashes_of v = marks.Hashes (here v.0) (min (v.1 + 1) 4294967295)

abbrev pub counted : Part_of ℕ
counted = means length (many (sign s.Hash))

abbrev pub mark : Part_of Marks
mark = choice (means star_of (sign s.Star)) (means hashes_of (pair (sign s.Hash) counted))

-- the byte of a character, which stands between two `'`
abbrev pub letter : List ℕ → ℕ
letter [] = 0
letter (quote ∷ []) = 0
letter (quote ∷ byte ∷ more) = byte

-- node = Integer | Character | Upper ["[" {arg} "]"]
abbrev pub integer_of : Tok → NodeTree
integer_of t = node_tree.Integer (value_at true t.word) (here t)

abbrev pub letter_of : Tok → NodeTree
letter_of t = node_tree.Letter (letter t.word) (here t)

abbrev pub sym_of : Name × Option (List ArgTree) → NodeTree
sym_of v = node_tree.Sym v.0 (unwrap_or v.1 [])

abbrev pub node : Part_of (List ArgTree) → Part_of NodeTree
node args = choice (means integer_of (sign s.Integer)) (choice (means letter_of (sign s.Character)) (means sym_of (pair upper (maybe args))))

-- term = [mark] (Lower [":" node] | node)
abbrev pub named_of : Name × Option NodeTree → Option Name × Option NodeTree
named_of v = (Some v.0, v.1)

abbrev pub bare_of : NodeTree → Option Name × Option NodeTree
bare_of n = (None, Some n)

abbrev pub body : Part_of (List ArgTree) → Part_of (Option Name × Option NodeTree)
body args = choice (means named_of (pair lower (maybe (behind s.Colon (node args))))) (means bare_of (node args))

abbrev pub term_of : Option Marks × (Option Name × Option NodeTree) → TermTree
term_of v = roll-TermTree (record { marks = unwrap_or v.0 marks.Plain; name = v.1.0; node = v.1.1 })

abbrev pub term : Part_of (List ArgTree) → Part_of TermTree
term args = means term_of (pair (maybe mark) (body args))

-- arg = ["^"] term
abbrev pub arg_of : Option Tok × TermTree → ArgTree
arg_of v = roll-ArgTree (record { waits = is_some v.0; term = v.1 })

abbrev pub arg : Part_of (List ArgTree) → Part_of ArgTree
arg args = means arg_of (pair (maybe (sign s.Wait)) (term args))

-- "[" {arg} "]", with at most so many brackets open
unfoldable pub args : ℕ → Part_of (List ArgTree)
args zero = barred
args (suc n) = behind s.Open (before (many (arg (args n))) s.Close)

-- ---- patterns

-- base = "ANY" | "INT" | "CHAR" | Integer | Character | Upper ["[" {piece} "]"] | "(" pattern ")"
abbrev pub any_of : Tok → PatternTree
any_of t = p.Any

abbrev pub int_of : Tok → PatternTree
int_of t = p.Int

abbrev pub char_of : Tok → PatternTree
char_of t = p.Char

abbrev pub number_of : Tok → PatternTree
number_of t = p.Integer (value_at true t.word)

abbrev pub character_of : Tok → PatternTree
character_of t = p.Letter (letter t.word)

abbrev pub pattern_sym_of : Name × Option (List PatternTree) → PatternTree
pattern_sym_of v = p.Sym v.0 (unwrap_or v.1 [])

abbrev pub base : Part_of (List PatternTree) → Part_of PatternTree → Part_of PatternTree
base square round =
    choice (means any_of (sign s.Any))
    (choice (means int_of (sign s.Int))
    (choice (means char_of (sign s.Char))
    (choice (means number_of (sign s.Integer))
    (choice (means character_of (sign s.Character))
    (choice (means pattern_sym_of (pair upper (maybe square))) round)))))

-- piece = Lower [":" base] | base
abbrev pub piece_at : Name → Option PatternTree → PatternTree
piece_at n None = p.Variable n
piece_at n (Some b) = p.Binder n b

abbrev pub piece_of : Name × Option PatternTree → PatternTree
piece_of v = piece_at v.0 v.1

abbrev pub piece : Part_of (List PatternTree) → Part_of PatternTree → Part_of PatternTree
piece square round = choice (means piece_of (pair lower (maybe (behind s.Colon (base square round))))) (base square round)

-- pattern = piece {("+" | "-") piece}
abbrev pub plus_of : Tok → Sign
plus_of t = signs.Plus

abbrev pub minus_of : Tok → Sign
minus_of t = signs.Minus

abbrev pub operator : Part_of Sign
operator = choice (means plus_of (sign s.Plus)) (means minus_of (sign s.Minus))

abbrev pub chain_at : PatternTree → List (Sign × PatternTree) → PatternTree
chain_at f [] = f
chain_at f (r ∷ rs) = p.Chain f (r ∷ rs)

abbrev pub chain_of : PatternTree × List (Sign × PatternTree) → PatternTree
chain_of v = chain_at v.0 v.1

abbrev pub pattern_over : Part_of (List PatternTree) → Part_of PatternTree → Part_of PatternTree
pattern_over square round = means chain_of (pair (piece square round) (many (pair operator (piece square round))))

-- "[" {piece} "]" and "(" pattern ")", with at most so many brackets open
unfoldable mutual
  pub squares : ℕ → Part_of (List PatternTree)
  squares zero = barred
  squares (suc n) = behind s.Open (before (many (piece (squares n) (rounds n))) s.Close)

  pub rounds : ℕ → Part_of PatternTree
  rounds zero = barred
  rounds (suc n) = behind s.Left (before (pattern_over (squares n) (rounds n)) s.Right)

abbrev pub pattern : ℕ → Part_of PatternTree
pattern n = pattern_over (squares n) (rounds n)

-- ---- rules

-- part = term | Lower ":=" term
abbrev pub part_term : TermTree → Part
part_term t = parts.Term t

abbrev pub part_redirect : Name × TermTree → Part
part_redirect v = parts.Redirect v.0 v.1

abbrev pub part : ℕ → Part_of Part
part n = choice (means part_redirect (pair lower (behind s.Becomes (term (args n))))) (means part_term (term (args n)))

-- rule = pattern "=>" term {"," part} | pattern "->" part {"," part}
abbrev pub rewrites_of : List Part → Bool × List Part
rewrites_of ps = (true, ps)

abbrev pub redirects_of : List Part → Bool × List Part
redirects_of ps = (false, ps)

abbrev pub rewriting : ℕ → Part_of (Bool × List Part)
rewriting n = means rewrites_of (behind s.Rewrites (listed (means part_term (term (args n))) (behind s.Comma (part n))))

abbrev pub redirecting : ℕ → Part_of (Bool × List Part)
redirecting n = means redirects_of (behind s.Arrow (separated s.Comma (part n)))

abbrev pub rule_of : ℕ × (PatternTree × (Bool × List Part)) → RuleTree
rule_of v = record { place = record { byte = v.0 }; pattern = v.1.0; redirects = v.1.1.0; parts = v.1.1.1 }

abbrev pub rule : ℕ → Part_of RuleTree
rule n = means rule_of (placed (λ t. t.place) (choice (pair (pattern n) (rewriting n)) (pair (pattern n) (redirecting n))))

-- group = rule {"|" rule} ";"
abbrev pub group_of : List RuleTree → Group
group_of rs = record { rules = rs }

abbrev pub group : ℕ → Part_of Group
group n = means group_of (before (separated s.Bar (rule n)) s.Semicolon)

-- ---- items

-- imports = "IMPORTS" Upper {"," Upper} ";"
abbrev pub imports_of : List Name → Item
imports_of ns = item.Imports ns

abbrev pub imports : Part_of Item
imports = means imports_of (behind s.Imports (before names s.Semicolon))

-- class = "REWRITABLE" | "OVERWRITABLE" | "CREATABLE"
abbrev pub class_of : Sort → Class
class_of s.Rewritable = classes.Rewritable
class_of s.Overwritable = classes.Overwritable
class_of _ = classes.Creatable

-- a class, and where it stands
abbrev pub ClassHere : Type 0
ClassHere = Class × Place

abbrev pub class_at : Tok → ClassHere
class_at t = (class_of t.sort, here t)

abbrev pub class : Part_of ClassHere
class = means class_at (one (λ t. is_class t.sort))

-- symbols = "SYMBOL" class ["PUBLIC" class] Upper {"," Upper} ";"
abbrev pub symbols_of : ClassHere × (Option ClassHere × List Name) → Item
symbols_of v = item.Symbols v.0.0 v.1.0 v.1.1

abbrev pub symbols : Part_of Item
symbols = means symbols_of (behind s.Symbol (pair class (pair (maybe (behind s.Public class)) (before names s.Semicolon))))

-- named = "PATTERN" ["PUBLIC"] Upper "=" pattern ";"
abbrev pub pattern_named_of : Bool × (Name × PatternTree) → Item
pattern_named_of v = item.Named v.0 v.1.0 v.1.1

abbrev pub named : ℕ → Part_of Item
named n = means pattern_named_of (behind s.Pattern (pair (means is_some (maybe (sign s.Public))) (pair upper (behind s.Equals (before (pattern n) s.Semicolon)))))

-- rules = "RULE" group {group}
abbrev pub rules_of : List Group → Item
rules_of gs = item.Rules gs

abbrev pub rules : ℕ → Part_of Item
rules n = means rules_of (behind s.Rule (several (group n)))

-- initial = "INITIAL" "=>" term {"," term} ";"
abbrev pub initial_of : Tok × List TermTree → Item
initial_of v = item.Initial (here v.0) v.1

abbrev pub initial : ℕ → Part_of Item
initial n = means initial_of (pair (sign s.Initial) (behind s.Rewrites (before (separated s.Comma (term (args n))) s.Semicolon)))

-- item = imports | symbols | named | rules | initial
abbrev pub an_item : ℕ → Part_of Item
an_item n = choice imports (choice symbols (choice (named n) (choice (rules n) (initial n))))

-- ---- modules

-- the name after "ENDMODULE" is the one after "MODULE"
abbrev pub is_name : Name → Tok → Bool
is_name name t = is s.Upper t && bytes_eq t.word name.text

-- module = "MODULE" Upper ";" {item} "ENDMODULE" Upper ";"
abbrev pub module_of : Name × (List Item × Tok) → Module
module_of v = record { name = v.0; items = v.1.0 }

abbrev pub a_module : ℕ → Part_of Module
a_module n = means module_of (behind s.Module (row (before upper s.Semicolon) (λ name. pair (many (an_item n)) (behind s.EndModule (before (one (is_name name)) s.Semicolon)))))

-- text = [Header] module {module}; the Header makes language 2
abbrev pub language_of : Option Tok → ℕ
language_of None = 1
language_of (Some t) = 2

abbrev pub text : ℕ → Part_of (ℕ × List Module)
text n = pair (means language_of (maybe (sign s.Header))) (several (a_module n))
