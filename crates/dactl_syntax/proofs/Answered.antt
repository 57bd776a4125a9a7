-- What reading a whole text gives is what is answered for it.
use Rattle.std.proofs.Common.{◌≡◌, ℕ, List, length, Result, Ok, Err, refl, sym, ap, subst, ◌∙◌}
use Rattle.dactl_base.specs.declared.refusal.Refusal.{Refusal}
use Rattle.dactl_grammar.specs.declared.fault.Fault.{Fault}
use Rattle.dactl_grammar.specs.Reader.{read_all}
use Rattle.dactl_grammar.proofs.Bounded.{Bounded}
use Rattle.dactl_grammar.proofs.Answered.{read_derives, derives_read}
use Rattle.dactl_tokens.specs.declared.token.Token.{Token}
use Rattle.dactl_tokens.proofs.Reading.{lexes_once}
use Rattle.dactl_terminals.specs.declared.token.Sort.TheVariants as s
use Rattle.dactl_terminals.specs.declared.token.Terminal.{Terminal}
use Rattle.dactl_meaning.specs.declared.tree.Module.{Module}
use Rattle.dactl_meaning.specs.declared.tree.Text.{Text}
use Rattle.dactl_terminals.specs.Sort.{same_sort}
use Rattle.dactl_terminals.specs.Parts.{Tok}
use Rattle.dactl_syntax.specs.Productions.{text}
use Rattle.dactl_terminals.specs.Reads.{by}
use Rattle.dactl_terminals.specs.Answer.{refusal_of}
use Rattle.dactl_syntax.specs.Reading.{text_at}
use Rattle.dactl_terminals.specs.Seen.{toks}
use Rattle.dactl_syntax.specs.Answer.{tokens_seen, most_open, is_bracket, IsTree, IsFirstFault}
use Rattle.dactl_syntax.specs.Laws.{Reads}
use Rattle.dactl_syntax.proofs.ModuleLaws.{firm_text}
use Rattle.dactl_syntax.proofs.TextGrowth.{g_text}
use Rattle.dactl_terminals.proofs.Answered.{read_fault as fault_of, never_both as no_fault, one_fault as fault_is}

pub text_laws : Bounded is_bracket text text_at (by (same_sort s.Module))
text_laws = record { exact = λ n. (firm_text n).fit.exact; grows = g_text }

abbrev reading : List Tok → Result (ℕ × List Module) Fault
reading l = read_all (text_at most_open) l

-- ---- a tree

pub read_tree : (bytes : List ℕ) (tokens : List Token) (v : ℕ × List Module) → reading (tokens_seen bytes tokens) ≡ Ok v → IsTree bytes tokens (record { language = v.0; modules = v.1; length = length bytes })
read_tree bytes tokens v e = record { derives = read_derives text_laws most_open (tokens_seen bytes tokens) v e; length = refl }

tree_read : (bytes : List ℕ) (tokens : List Token) (t : Text) → IsTree bytes tokens t → reading (tokens_seen bytes tokens) ≡ Ok (t.language, t.modules)
tree_read bytes tokens t w = derives_read text_laws most_open (tokens_seen bytes tokens) (t.language, t.modules) w.derives

-- what is read alike is the same
same_text : (l : List Tok) (a b : Text) → reading l ≡ Ok (a.language, a.modules) → reading l ≡ Ok (b.language, b.modules) → a.length ≡ b.length → a ≡ b
same_text l a b p q n =
    let pair : (a.language, a.modules) ≡ (b.language, b.modules) = cc in
    ap (λ (v : ℕ × List Module). record { language = v.0; modules = v.1; length = a.length }) pair ∙ ap (λ (k : ℕ). record { language = b.language; modules = b.modules; length = k }) n

pub read_only : (bytes : List ℕ) (tokens : List Token) (v : ℕ × List Module) → reading (tokens_seen bytes tokens) ≡ Ok v → (t : Text) → IsTree bytes tokens t → record { language = v.0; modules = v.1; length = length bytes } ≡ t
read_only bytes tokens v e t w = same_text (tokens_seen bytes tokens) (record { language = v.0; modules = v.1; length = length bytes }) t e (tree_read bytes tokens t w) (sym w.length)

-- ---- a fault

pub read_fault : (bytes : List ℕ) (tokens : List Token) (f : Fault) → reading (tokens_seen bytes tokens) ≡ Err f → IsFirstFault bytes tokens (refusal_of (length bytes) (tokens_seen bytes tokens) f)
read_fault bytes tokens f e = fault_of text_laws most_open (length bytes) (tokens_seen bytes tokens) f e

pub never_both : (bytes : List ℕ) (tokens : List Token) (v : ℕ × List Module) → reading (tokens_seen bytes tokens) ≡ Ok v → (r : Refusal) → IsFirstFault bytes tokens r → ⊥
never_both bytes tokens v e r w = no_fault text_laws most_open (length bytes) (tokens_seen bytes tokens) v e r w

pub no_tree : (bytes : List ℕ) (tokens : List Token) (f : Fault) → reading (tokens_seen bytes tokens) ≡ Err f → (t : Text) → IsTree bytes tokens t → ⊥
no_tree bytes tokens f e t w = let g = tree_read bytes tokens t w in cc

pub one_fault : (bytes : List ℕ) (tokens : List Token) (f : Fault) → reading (tokens_seen bytes tokens) ≡ Err f → (r : Refusal) → IsFirstFault bytes tokens r → refusal_of (length bytes) (tokens_seen bytes tokens) f ≡ r
one_fault bytes tokens f e r w = fault_is text_laws most_open (length bytes) (tokens_seen bytes tokens) f e r w

-- ---- from bytes to the tree

pub one_tree : (bytes : List ℕ) (a b : Text) → Reads bytes a → Reads bytes b → a ≡ b
one_tree bytes a b p q =
    let same = lexes_once bytes p.tokens q.tokens p.lexes q.lexes in
    let read = tree_read bytes p.tokens a p.is_tree in
    let w : IsTree bytes p.tokens b = subst (λ (k : List Token). IsTree bytes k b) (sym same) q.is_tree in
    same_text (tokens_seen bytes p.tokens) a b read (tree_read bytes p.tokens b w) (p.is_tree.length ∙ sym w.length)

-- ---- in the code's terms

-- the parser's tokens, read as those of the text
pub as_tokens : (bytes : List ℕ) (tokens : List Token) (items slice : List Terminal) (r : Result (ℕ × List Module) Fault) → slice ≡ items → toks bytes items ≡ tokens_seen bytes tokens → reading (toks bytes slice) ≡ r → reading (tokens_seen bytes tokens) ≡ r
as_tokens bytes tokens items slice r a b e = subst (λ (l : List Tok). reading l ≡ r) (ap (toks bytes) a ∙ b) e
