-- What reading all of the tokens gives is what is answered for them.
use Rattle.std.proofs.Common.{◌≡◌, ℕ, zero, suc, ◌+◌, ◌-◌, ◌<◌, Bool, inl, inr, List, [], ◌∷◌, ◌++◌, length, drop, get_or, Ok, Err, refl, sym, ap, ◌∙◌, arith, length-append}
use Rattle.dactl_base.specs.declared.refusal.Kind.{Kind}
use Rattle.dactl_base.specs.declared.refusal.Kind.TheVariants as kinds
use Rattle.dactl_base.specs.declared.refusal.Refusal.{Refusal}
use Rattle.dactl_grammar.specs.declared.fault.Fault.{Fault}
use Rattle.dactl_grammar.specs.declared.fault.Fault.TheVariants.{Unexpected, TooDeep}
use Rattle.dactl_grammar.specs.Grammar.{Grammar}
use Rattle.dactl_grammar.specs.Reader.{Reader, read_all}
use Rattle.dactl_grammar.proofs.Bounded.{Bounded}
use Rattle.dactl_grammar.proofs.Answered.{read_unexpected, read_too_deep}
use Rattle.dactl_grammar.proofs.Exclusive.{unexpected_read, too_deep_read}
use Rattle.dactl_terminals.specs.declared.token.Terminal.{Terminal}
use Rattle.dactl_terminals.specs.Parts.{Tok}
use Rattle.dactl_terminals.specs.Seen.{toks}
use Rattle.dactl_terminals.specs.Answer.{next_place, refusal_of, IsFault}

drop_front : (k : ℕ) (front rest : List Tok) → k ≡ length front → drop k (front ++ rest) ≡ rest
drop_front zero [] rest e = refl
drop_front zero (t ∷ front) rest e = absurd (omega arith)
drop_front (suc k) [] rest e = absurd (omega arith)
drop_front (suc k) (t ∷ front) rest e = drop_front k front rest (omega arith)

-- what stands from a fault on
from_fault : (l front rest : List Tok) (left : ℕ) → l ≡ front ++ rest → left ≡ length rest → drop (length l - left) l ≡ rest
from_fault l front rest left e n =
    let len : length l ≡ length front + length rest = ap length e ∙ length-append front rest in
    let k : length l - left ≡ length front = omega arith in
    ap (drop (length l - left)) e ∙ drop_front (length l - left) front rest k

refusal_is : (r : Refusal) (k : Kind) (n : ℕ) → r.kind ≡ k → r.place.byte ≡ n → record { kind = k; place = record { byte = n } } ≡ r
refusal_is r k n e f = ap (λ (x : Kind). record { kind = x; place = record { byte = n } }) (sym e) ∙ ap (λ (x : ℕ). record { kind = r.kind; place = record { byte = x } }) (sym f)

module _ {A : Type 0} {is_bracket : Tok → Bool} {G : ℕ → Grammar Tok A} {R : ℕ → Reader Tok A} {more : Tok → Bool} (laws : Bounded is_bracket G R more) (most end : ℕ) where
  pub read_fault : (l : List Tok) (f : Fault) → read_all (R most) l ≡ Err f → IsFault is_bracket G most end l (refusal_of end l f)
  read_fault l (Unexpected k) e =
      let first = read_unexpected laws most l k e in
      inl (refl, record { left = k; first = first; at = ap (next_place end) (from_fault l first.front first.rest k first.parts first.place) })
  read_fault l (TooDeep k) e =
      let first = read_too_deep laws most l k e in
      inr (refl, record { left = k; first = first; at = ap (next_place end) (from_fault l first.front (first.bracket ∷ first.rest) k first.parts first.place) })

  -- a first fault is read
  record FaultRead (l : List Tok) (r : Refusal) : Type 0 where
    pub fault : Fault
    pub read : read_all (R most) l ≡ Err fault
    pub refusal : refusal_of end l fault ≡ r

  fault_read : (l : List Tok) (r : Refusal) → IsFault is_bracket G most end l r → FaultRead l r
  fault_read l r (inl w) =
      let u = w.1 in
      let first = u.first in
      let place = ap (next_place end) (from_fault l first.front first.rest u.left first.parts first.place) in
      record { fault = Unexpected u.left; read = unexpected_read laws most l u.left first; refusal = refusal_is r kinds.Unexpected (next_place end (drop (length l - u.left) l)) w.0 (u.at ∙ sym place) }
  fault_read l r (inr w) =
      let u = w.1 in
      let first = u.first in
      let place = ap (next_place end) (from_fault l first.front (first.bracket ∷ first.rest) u.left first.parts first.place) in
      record { fault = TooDeep u.left; read = too_deep_read laws most l u.left first; refusal = refusal_is r kinds.TooDeep (next_place end (drop (length l - u.left) l)) w.0 (u.at ∙ sym place) }

  pub never_both : (l : List Tok) (a : A) → read_all (R most) l ≡ Ok a → (r : Refusal) → IsFault is_bracket G most end l r → ⊥
  never_both l a e r w = let k = fault_read l r w in let f = k.read in cc

  pub one_fault : (l : List Tok) (f : Fault) → read_all (R most) l ≡ Err f → (r : Refusal) → IsFault is_bracket G most end l r → refusal_of end l f ≡ r
  one_fault l f e r w =
      let k = fault_read l r w in
      let read = k.read in
      let same : f ≡ k.fault = cc in
      ap (refusal_of end l) same ∙ k.refusal

-- ---- in the code's terms

pub place_at : (bytes : List ℕ) (end : ℕ) (ts : List Terminal) (i j : ℕ) (t : Terminal) → i ≡ j → i < length ts → t ≡ get_or ts i t → t.from ≡ next_place end (drop j (toks bytes ts))
place_at bytes end ts i j t same lt e = ap (λ (x : Terminal). x.from) e ∙ at ts i lt ∙ ap (λ (k : ℕ). next_place end (drop k (toks bytes ts))) same
  where
    at : (ts : List Terminal) (i : ℕ) → i < length ts → (get_or ts i t).from ≡ next_place end (drop i (toks bytes ts))
    at [] i lt = absurd (omega arith)
    at (u ∷ ts) zero lt = refl
    at (u ∷ ts) (suc i) lt = at ts i (omega arith)
