-- What reading a whole text gives is what is answered for it.
use Rattle.std.proofs.Common.{◌≡◌, ℕ, List, length, Result, Ok, Err, ap, subst, ◌∙◌}
use Rattle.dactl_base.specs.declared.refusal.Refusal.{Refusal}
use Rattle.dactl_grammar.specs.declared.fault.Fault.{Fault}
use Rattle.dactl_grammar.specs.Reader.{read_all}
use Rattle.dactl_grammar.proofs.Bounded.{Bounded}
use Rattle.dactl_grammar.proofs.Answered.{read_derives, derives_read}
use Rattle.dactl_tokens.specs.declared.token.Token.{Token}
use Rattle.fun_meaning.specs.declared.tree.Fun.{Fun}
use Rattle.dactl_terminals.specs.declared.token.Terminal.{Terminal}
use Rattle.dactl_terminals.specs.Parts.{Tok}
use Rattle.fun_syntax.specs.Productions.{fun}
use Rattle.dactl_terminals.specs.Reads.{by}
use Rattle.dactl_terminals.specs.Answer.{refusal_of}
use Rattle.fun_syntax.specs.Reading.{fun_at}
use Rattle.dactl_terminals.specs.Seen.{toks}
use Rattle.fun_syntax.specs.Answer.{tokens_seen, most_open, is_bracket, AreEquations, IsFirstFault}
use Rattle.dactl_terminals.proofs.Fits.{none}
use Rattle.fun_syntax.proofs.Parts.{fit_fun}
use Rattle.fun_syntax.proofs.Growth.{g_fun}
use Rattle.dactl_terminals.proofs.Answered.{read_fault as fault_of, never_both as no_fault, one_fault as fault_is}

fun_laws : Bounded is_bracket fun fun_at (by none)
fun_laws = record { exact = λ n. (fit_fun n).exact; grows = g_fun }

abbrev reading : List Tok → Result Fun Fault
reading l = read_all (fun_at most_open) l

-- ---- equations

pub read_found : (bytes : List ℕ) (tokens : List Token) (e : Fun) → reading (tokens_seen bytes tokens) ≡ Ok e → AreEquations bytes tokens e
read_found bytes tokens e r = read_derives fun_laws most_open (tokens_seen bytes tokens) e r

found_read : (bytes : List ℕ) (tokens : List Token) (e : Fun) → AreEquations bytes tokens e → reading (tokens_seen bytes tokens) ≡ Ok e
found_read bytes tokens e w = derives_read fun_laws most_open (tokens_seen bytes tokens) e w

pub read_only : (bytes : List ℕ) (tokens : List Token) (e : Fun) → reading (tokens_seen bytes tokens) ≡ Ok e → (f : Fun) → AreEquations bytes tokens f → e ≡ f
read_only bytes tokens e r f w = let g = found_read bytes tokens f w in cc

-- ---- a fault

pub read_fault : (bytes : List ℕ) (tokens : List Token) (f : Fault) → reading (tokens_seen bytes tokens) ≡ Err f → IsFirstFault bytes tokens (refusal_of (length bytes) (tokens_seen bytes tokens) f)
read_fault bytes tokens f e = fault_of fun_laws most_open (length bytes) (tokens_seen bytes tokens) f e

pub never_both : (bytes : List ℕ) (tokens : List Token) (e : Fun) → reading (tokens_seen bytes tokens) ≡ Ok e → (r : Refusal) → IsFirstFault bytes tokens r → ⊥
never_both bytes tokens e read r w = no_fault fun_laws most_open (length bytes) (tokens_seen bytes tokens) e read r w

pub none_found : (bytes : List ℕ) (tokens : List Token) (f : Fault) → reading (tokens_seen bytes tokens) ≡ Err f → (t : Fun) → AreEquations bytes tokens t → ⊥
none_found bytes tokens f e t w = let g = found_read bytes tokens t w in cc

pub one_fault : (bytes : List ℕ) (tokens : List Token) (f : Fault) → reading (tokens_seen bytes tokens) ≡ Err f → (r : Refusal) → IsFirstFault bytes tokens r → refusal_of (length bytes) (tokens_seen bytes tokens) f ≡ r
one_fault bytes tokens f e r w = fault_is fun_laws most_open (length bytes) (tokens_seen bytes tokens) f e r w

-- ---- in the code's terms

-- the parser's tokens, read as those of the text
pub as_tokens : (bytes : List ℕ) (tokens : List Token) (items slice : List Terminal) (r : Result Fun Fault) → slice ≡ items → toks bytes items ≡ tokens_seen bytes tokens → reading (toks bytes slice) ≡ r → reading (tokens_seen bytes tokens) ≡ r
as_tokens bytes tokens items slice r a b e = subst (λ (l : List Tok). reading l ≡ r) (ap (toks bytes) a ∙ b) e
