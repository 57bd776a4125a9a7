-- What loops over parts cite.
use Rattle.std.proofs.Common.{◌≡◌, ℕ, ◌<◌, Bool, true, false, List, [], ◌∷◌, ◌++◌, length, Ok, arith}
use Rattle.std.proofs.lemmas.List.{length-map}
use Rattle.dactl_grammar.specs.Giving.{Fails}
use Rattle.dactl_grammar.specs.Reader.{Outcome, head_is, read_many}
use Rattle.dactl_grammar.specs.declared.fault.ReadError.{ReadError}
use Rattle.dactl_grammar.proofs.Loop.{Shrinks, with_front, goes_on, ends, is_done}
use Rattle.dactl_terminals.specs.declared.token.Sort.{Sort}
use Rattle.dactl_terminals.specs.declared.token.Terminal.{Terminal}
use Rattle.dactl_terminals.specs.Parts.{Tok, Part_of}
use Rattle.dactl_terminals.specs.Reads.{Reads, by}
use Rattle.dactl_terminals.specs.Seen.{seen, toks}
use Rattle.dactl_terminals.proofs.Firm.{Firm, firm_shrinks}

-- what is left behind a part is less
pub less_left : {A : Type 0} (R : Reads A) → Shrinks R → (text : List ℕ) (l r : List Terminal) (a : A) → R (toks text l) ≡ Ok (a, toks text r) → length r < length l
less_left R h text l r a e =
    let lt = h (toks text l) a (toks text r) e in
    let len_l = length-map l (seen text) in
    let len_r = length-map r (seen text) in
    omega arith

-- with what a loop has found, what it is still to read is all that it reads
pub record HasFound {A : Type 0} (f : Sort → Bool) (R : Reads A) (found : List A) (text : List ℕ) (l : List Terminal) (all : Outcome Tok (List A)) : Type 0 where
  pub so_far : with_front found (read_many (by f) R (toks text l)) ≡ all

module _ {A : Type 0} {P : Part_of A} {R : Reads A} {f m : Sort → Bool} {found : List A} {text : List ℕ} {l : List Terminal} {all : Outcome Tok (List A)} (p : Firm P R f m) (h : HasFound f R found text l all) where
  pub part_less : (r : List Terminal) (a : A) → R (toks text l) ≡ Ok (a, toks text r) → length r < length l
  part_less r a e = less_left R (firm_shrinks p) text l r a e

  pub part_found : (r : List Terminal) (a : A) → head_is (by f) (toks text l) ≡ true → R (toks text l) ≡ Ok (a, toks text r) → HasFound f R (found ++ a ∷ []) text r all
  part_found r a next e = record { so_far = goes_on (by f) R (firm_shrinks p) found (toks text l) a (toks text r) all next e h.so_far }

  pub part_fails : (e : ReadError) → head_is (by f) (toks text l) ≡ true → Fails e (R (toks text l)) → Fails e all
  part_fails e next fails = ends (by f) R (firm_shrinks p) e found (toks text l) all next fails h.so_far

  pub all_found : head_is (by f) (toks text l) ≡ false → all ≡ Ok (found, toks text l)
  all_found next = is_done (by f) R (firm_shrinks p) found (toks text l) all next h.so_far
