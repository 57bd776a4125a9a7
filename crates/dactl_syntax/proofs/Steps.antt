-- What the loops and the steps over brackets cite.
use Rattle.std.proofs.Common.{◌≡◌, ℕ, zero, suc, ◌+◌, ◌-◌, ◌<◌, List, ◌++◌, length, Ok, refl, ap, ◌∙◌, arith}
use Rattle.std.proofs.lemmas.List.{length-map}
use Rattle.dactl_terminals.specs.declared.token.Sort.TheVariants as s
use Rattle.dactl_terminals.specs.declared.token.Terminal.{Terminal}
use Rattle.dactl_syntax.specs.Sort.{starts_arg}
use Rattle.dactl_grammar.specs.Reader.{read_many}
use Rattle.dactl_terminals.specs.Parts.{Tok}
use Rattle.dactl_syntax.specs.Productions.{args}
use Rattle.dactl_terminals.specs.Reads.{by, read_behind, read_before, read_sign}
use Rattle.dactl_syntax.specs.Reading.{arg_at, args_at}
use Rattle.dactl_terminals.specs.Seen.{seen, toks}
use Rattle.dactl_terminals.proofs.Firm.{firm_shrinks, firm_sign}
use Rattle.dactl_syntax.proofs.TermLaws.{firm_arg, firm_args}
use Rattle.dactl_grammar.proofs.Loop.{Shrinks}

pub arg_shrinks : (n : ℕ) → Shrinks (arg_at n)
unfolding arg_at
arg_shrinks n = firm_shrinks (firm_arg (args n) (args_at n) (firm_args n))

pub hash_shrinks : Shrinks (read_sign s.Hash)
hash_shrinks = firm_shrinks (firm_sign s.Hash)

pub one_left : (text : List ℕ) (l r : List Terminal) (t : Tok) → read_sign s.Hash (toks text l) ≡ Ok (t, toks text r) → length r + 1 ≡ length l
one_left text l r t e =
    let k = (firm_sign s.Hash).fit.exact.sound (toks text l) t (toks text r) e in
    let len = ap length (k.parts ∙ ap (λ (u : List Tok). u ++ toks text r) k.whole.0) in
    let len_l = length-map l (seen text) in
    let len_r = length-map r (seen text) in
    omega arith

-- brackets may still be opened
pub args_step : (n : ℕ) → 0 < n → (l : List Tok) → args_at n l ≡ read_behind s.Open (read_before (read_many (by starts_arg) (arg_at (n - 1))) s.Close) l
unfolding args_at arg_at
args_step zero h l = absurd (omega arith)
args_step (suc n) h l = let e : suc n - 1 ≡ n = omega arith in rw e refl
