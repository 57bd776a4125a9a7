-- What reading each part of the grammar gives.
use Rattle.std.specs.Prelude.{ℕ, zero, suc, Bool, false, ◌&&◌, List, [], ◌∷◌, length, Option, is_some}
use Rattle.dactl_terminals.specs.declared.token.Sort.TheVariants as s
use Rattle.dactl_meaning.specs.declared.tree.Name.{Name}
use Rattle.dactl_meaning.specs.declared.tree.Marks.{Marks}
use Rattle.dactl_meaning.specs.declared.tree.NodeTree.{NodeTree}
use Rattle.dactl_meaning.specs.declared.tree.TermTree.{TermTree}
use Rattle.dactl_meaning.specs.declared.tree.ArgTree.{ArgTree}
use Rattle.dactl_meaning.specs.declared.tree.Part.{Part}
use Rattle.dactl_meaning.specs.declared.tree.PatternTree.{PatternTree}
use Rattle.dactl_meaning.specs.declared.tree.Sign.{Sign}
use Rattle.dactl_meaning.specs.declared.tree.RuleTree.{RuleTree}
use Rattle.dactl_meaning.specs.declared.tree.Group.{Group}
use Rattle.dactl_meaning.specs.declared.tree.Item.{Item}
use Rattle.dactl_meaning.specs.declared.tree.Module.{Module}
use Rattle.dactl_terminals.specs.Sort.{same_sort}
use Rattle.dactl_syntax.specs.Sort.{starts_mark, starts_arg, starts_piece, is_sign, is_class, starts_item}
use Rattle.dactl_grammar.specs.Reader.{head_is, read_one, read_row, read_as, read_choice, read_maybe, read_many, read_barred, read_placed}
use Rattle.dactl_terminals.specs.Parts.{Tok, is}
use Rattle.dactl_terminals.specs.Reads.{Reads, by, read_sign, read_pair, read_behind, read_before, read_listed, upper_at, lower_at, names_at}
use Rattle.dactl_syntax.specs.Productions.{ClassHere, star_of, hashes_of, integer_of, letter_of, sym_of, named_of, bare_of, term_of, arg_of, part_term, part_redirect, any_of, int_of, char_of, number_of, character_of, pattern_sym_of, piece_of, plus_of, minus_of, chain_of, rewrites_of, redirects_of, rule_of, group_of, imports_of, class_at, symbols_of, pattern_named_of, rules_of, initial_of, is_name, module_of, language_of}

-- ---- terms

unfoldable pub hashes_at : Reads ℕ
hashes_at = read_as length (read_many (by (same_sort s.Hash)) (read_sign s.Hash))

unfoldable pub mark_at : Reads Marks
mark_at = read_choice (head_is (by (same_sort s.Star))) (read_as star_of (read_sign s.Star)) (read_as hashes_of (read_pair (read_sign s.Hash) hashes_at))

abbrev pub read_node : Reads (List ArgTree) → Reads NodeTree
read_node args =
    read_choice (head_is (by (same_sort s.Integer))) (read_as integer_of (read_sign s.Integer))
    (read_choice (head_is (by (same_sort s.Character))) (read_as letter_of (read_sign s.Character))
    (read_as sym_of (read_pair upper_at (read_maybe (by (same_sort s.Open)) args))))

abbrev pub read_body : Reads (List ArgTree) → Reads (Option Name × Option NodeTree)
read_body args = read_choice (head_is (by (same_sort s.Lower))) (read_as named_of (read_pair lower_at (read_maybe (by (same_sort s.Colon)) (read_behind s.Colon (read_node args))))) (read_as bare_of (read_node args))

abbrev pub read_term : Reads (List ArgTree) → Reads TermTree
read_term args = read_as term_of (read_pair (read_maybe (by starts_mark) mark_at) (read_body args))

abbrev pub read_arg : Reads (List ArgTree) → Reads ArgTree
read_arg args = read_as arg_of (read_pair (read_maybe (by (same_sort s.Wait)) (read_sign s.Wait)) (read_term args))

unfoldable pub args_at : ℕ → Reads (List ArgTree)
args_at zero = read_barred (is s.Open)
args_at (suc n) = read_behind s.Open (read_before (read_many (by starts_arg) (read_arg (args_at n))) s.Close)

unfoldable pub node_at : ℕ → Reads NodeTree
node_at n = read_node (args_at n)

unfoldable pub body_at : ℕ → Reads (Option Name × Option NodeTree)
body_at n = read_body (args_at n)

unfoldable pub term_at : ℕ → Reads TermTree
term_at n = read_term (args_at n)

unfoldable pub arg_at : ℕ → Reads ArgTree
arg_at n = read_arg (args_at n)

-- ---- patterns

abbrev pub read_base : Reads (List PatternTree) → Reads PatternTree → Reads PatternTree
read_base square round =
    read_choice (head_is (by (same_sort s.Any))) (read_as any_of (read_sign s.Any))
    (read_choice (head_is (by (same_sort s.Int))) (read_as int_of (read_sign s.Int))
    (read_choice (head_is (by (same_sort s.Char))) (read_as char_of (read_sign s.Char))
    (read_choice (head_is (by (same_sort s.Integer))) (read_as number_of (read_sign s.Integer))
    (read_choice (head_is (by (same_sort s.Character))) (read_as character_of (read_sign s.Character))
    (read_choice (head_is (by (same_sort s.Upper))) (read_as pattern_sym_of (read_pair upper_at (read_maybe (by (same_sort s.Open)) square))) round)))))

abbrev pub read_piece : Reads (List PatternTree) → Reads PatternTree → Reads PatternTree
read_piece square round = read_choice (head_is (by (same_sort s.Lower))) (read_as piece_of (read_pair lower_at (read_maybe (by (same_sort s.Colon)) (read_behind s.Colon (read_base square round))))) (read_base square round)

unfoldable pub operator_at : Reads Sign
operator_at = read_choice (head_is (by (same_sort s.Plus))) (read_as plus_of (read_sign s.Plus)) (read_as minus_of (read_sign s.Minus))

abbrev pub read_pattern : Reads (List PatternTree) → Reads PatternTree → Reads PatternTree
read_pattern square round = read_as chain_of (read_pair (read_piece square round) (read_many (by is_sign) (read_pair operator_at (read_piece square round))))

unfoldable mutual
  pub squares_at : ℕ → Reads (List PatternTree)
  squares_at zero = read_barred (is s.Open)
  squares_at (suc n) = read_behind s.Open (read_before (read_many (by starts_piece) (read_piece (squares_at n) (rounds_at n))) s.Close)

  pub rounds_at : ℕ → Reads PatternTree
  rounds_at zero = read_barred (is s.Left)
  rounds_at (suc n) = read_behind s.Left (read_before (read_pattern (squares_at n) (rounds_at n)) s.Right)

unfoldable pub base_at : ℕ → Reads PatternTree
base_at n = read_base (squares_at n) (rounds_at n)

unfoldable pub piece_reads : ℕ → Reads PatternTree
piece_reads n = read_piece (squares_at n) (rounds_at n)

unfoldable pub pieces_at : ℕ → Reads (List PatternTree)
pieces_at n = read_many (by starts_piece) (piece_reads n)

unfoldable pub link_at : ℕ → Reads (Sign × PatternTree)
link_at n = read_pair operator_at (piece_reads n)

unfoldable pub links_at : ℕ → Reads (List (Sign × PatternTree))
links_at n = read_many (by is_sign) (link_at n)

unfoldable pub pattern_at : ℕ → Reads PatternTree
pattern_at n = read_pattern (squares_at n) (rounds_at n)

-- ---- rules

abbrev pub redirects : List Tok → Bool
redirects [] = false
redirects (t ∷ []) = false
redirects (t ∷ u ∷ l) = is s.Lower t && is s.Becomes u

unfoldable pub part_at : ℕ → Reads Part
part_at n = read_choice redirects (read_as part_redirect (read_pair lower_at (read_behind s.Becomes (term_at n)))) (read_as part_term (term_at n))

unfoldable pub plain_at : ℕ → Reads Part
plain_at n = read_as part_term (term_at n)

unfoldable pub comma_part_at : ℕ → Reads Part
comma_part_at n = read_behind s.Comma (part_at n)

unfoldable pub plain_parts_at : ℕ → Reads (List Part)
plain_parts_at n = read_listed (same_sort s.Comma) (plain_at n) (comma_part_at n)

unfoldable pub parts_at : ℕ → Reads (List Part)
parts_at n = read_listed (same_sort s.Comma) (part_at n) (comma_part_at n)

unfoldable pub rewriting_at : ℕ → Reads (Bool × List Part)
rewriting_at n = read_as rewrites_of (read_behind s.Rewrites (plain_parts_at n))

unfoldable pub redirecting_at : ℕ → Reads (Bool × List Part)
redirecting_at n = read_as redirects_of (read_behind s.Arrow (parts_at n))

unfoldable pub right_side_at : ℕ → Reads (Bool × List Part)
right_side_at n = read_choice (head_is (by (same_sort s.Rewrites))) (rewriting_at n) (redirecting_at n)

unfoldable pub rule_at : ℕ → Reads RuleTree
rule_at n = read_as rule_of (read_placed (λ t. t.place) (read_pair (pattern_at n) (right_side_at n)))

unfoldable pub bar_rule_at : ℕ → Reads RuleTree
bar_rule_at n = read_behind s.Bar (rule_at n)

unfoldable pub rule_list_at : ℕ → Reads (List RuleTree)
rule_list_at n = read_listed (same_sort s.Bar) (rule_at n) (bar_rule_at n)

unfoldable pub group_at : ℕ → Reads Group
group_at n = read_as group_of (read_before (rule_list_at n) s.Semicolon)

unfoldable pub groups_at : ℕ → Reads (List Group)
groups_at n = read_listed starts_piece (group_at n) (group_at n)

-- ---- items

unfoldable pub imports_at : Reads Item
imports_at = read_as imports_of (read_behind s.Imports (read_before names_at s.Semicolon))

unfoldable pub class_reads : Reads ClassHere
class_reads = read_as class_at (read_one (by is_class))

unfoldable pub public_class_at : Reads (Option ClassHere)
public_class_at = read_maybe (by (same_sort s.Public)) (read_behind s.Public class_reads)

unfoldable pub symbols_at : Reads Item
symbols_at = read_as symbols_of (read_behind s.Symbol (read_pair class_reads (read_pair public_class_at (read_before names_at s.Semicolon))))

unfoldable pub public_at : Reads Bool
public_at = read_as is_some (read_maybe (by (same_sort s.Public)) (read_sign s.Public))

unfoldable pub named_at : ℕ → Reads Item
named_at n = read_as pattern_named_of (read_behind s.Pattern (read_pair public_at (read_pair upper_at (read_behind s.Equals (read_before (pattern_at n) s.Semicolon)))))

unfoldable pub rules_at : ℕ → Reads Item
rules_at n = read_as rules_of (read_behind s.Rule (groups_at n))

unfoldable pub comma_term_at : ℕ → Reads TermTree
comma_term_at n = read_behind s.Comma (term_at n)

unfoldable pub terms_at : ℕ → Reads (List TermTree)
terms_at n = read_listed (same_sort s.Comma) (term_at n) (comma_term_at n)

unfoldable pub initial_at : ℕ → Reads Item
initial_at n = read_as initial_of (read_pair (read_sign s.Initial) (read_behind s.Rewrites (read_before (terms_at n) s.Semicolon)))

unfoldable pub item_at : ℕ → Reads Item
item_at n =
    read_choice (head_is (by (same_sort s.Imports))) imports_at
    (read_choice (head_is (by (same_sort s.Symbol))) symbols_at
    (read_choice (head_is (by (same_sort s.Pattern))) (named_at n)
    (read_choice (head_is (by (same_sort s.Rule))) (rules_at n) (initial_at n))))

-- ---- modules

abbrev pub module_end : Name → Reads Tok
module_end name = read_behind s.EndModule (read_before (read_one (is_name name)) s.Semicolon)

unfoldable pub items_at : ℕ → Reads (List Item)
items_at n = read_many (by starts_item) (item_at n)

unfoldable pub module_at : ℕ → Reads Module
module_at n = read_as module_of (read_behind s.Module (read_row (read_before upper_at s.Semicolon) (λ name. read_pair (items_at n) (module_end name))))

unfoldable pub modules_at : ℕ → Reads (List Module)
modules_at n = read_listed (same_sort s.Module) (module_at n) (module_at n)

-- ---- texts

unfoldable pub language_at : Reads ℕ
language_at = read_as language_of (read_maybe (by (same_sort s.Header)) (read_sign s.Header))

unfoldable pub text_at : ℕ → Reads (ℕ × List Module)
text_at n = read_pair language_at (modules_at n)
