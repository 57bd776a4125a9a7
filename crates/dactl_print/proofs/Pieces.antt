-- What several printing calls did, one after the other.
use Rattle.std.proofs.Common.{◌≡◌, ℕ, ◌≤◌, List, [], ◌++◌, Result, Ok, Err, IsErr, sym, subst, ap, ◌∙◌, append_assoc, append-nil, ◌-◌, length, take, drop, take-append-drop, arith}
use Rattle.std.specs.declared.option.Option.{Option}
use Rattle.std.proofs.lemmas.List.{take_rest}
use Rattle.std.proofs.KnownBytes.{Appends-nil, Appends-trans}
use Rattle.dactl_base.specs.Bytes.{AppendsFront}
use Rattle.dactl_base.specs.Faults.{Rose}
use Rattle.dactl_print.specs.Printing.{PassesOn, Prints}

-- what is left of the first bytes, and then the others, is passed on in part
joined : (g xs ys d h all rest : List ℕ) → g ++ xs ≡ d ++ h → h ++ ys ≡ all ++ rest → g ++ (xs ++ ys) ≡ (d ++ all) ++ rest
joined g xs ys d h all rest first second =
    sym (append_assoc g xs ys) ∙ ap (λ l. l ++ ys) first ∙ append_assoc d h ys ∙ ap (λ l. d ++ l) second ∙ sym (append_assoc d all rest)

pub PassesOn-then : (o m n : Option (List ℕ)) (g xs ys h l : List ℕ) → PassesOn o m (g ++ xs) h → PassesOn m n (h ++ ys) l → PassesOn o n (g ++ (xs ++ ys)) l
PassesOn-then o m n g xs ys h l p q = record {
  handed = p.handed ++ q.handed;
  split = joined g xs ys p.handed h q.handed l p.split q.split;
  grown = Appends-trans o m n p.handed q.handed p.grown q.grown;
}

pub AppendsFront-then : (o m n : Option (List ℕ)) (g xs ys h : List ℕ) → PassesOn o m (g ++ xs) h → AppendsFront m n (h ++ ys) → AppendsFront o n (g ++ (xs ++ ys))
AppendsFront-then o m n g xs ys h p q = record {
  front = p.handed ++ q.front;
  rest = q.rest;
  split = joined g xs ys p.handed h q.front q.rest p.split q.split;
  grown = Appends-trans o m n p.handed q.front p.grown q.grown;
}

pub AppendsFront-more : (o n : Option (List ℕ)) (g xs ys : List ℕ) → AppendsFront o n (g ++ xs) → AppendsFront o n (g ++ (xs ++ ys))
AppendsFront-more o n g xs ys p = record {
  front = p.front;
  rest = p.rest ++ ys;
  split = sym (append_assoc g xs ys) ∙ ap (λ l. l ++ ys) p.split ∙ append_assoc p.front p.rest ys;
  grown = p.grown;
}

rose-earlier : (b c d : ℕ) → b ≤ c → Rose c d → Rose b d
rose-earlier b c d p q = omega arith

-- nothing was printed
pub printed_nothing : {T E : Type 0} (o : Option (List ℕ)) (b : ℕ) (g : List ℕ) (u : T) → Prints {T = T} {E = E} o o b b g g (Ok u) []
printed_nothing o b g u = record {
  ok = record { handed = []; split = append-nil g; grown = Appends-nil o };
  front = tt;
  dropped = tt;
  later = omega arith;
  cause = tt;
}

-- one call printed its bytes, and then another one
pub prints_then : {S T E : Type 0} {o m n : Option (List ℕ)} {b c d : ℕ} {g h l xs ys : List ℕ} {u : S} {r : Result T E}
    → Prints {T = S} {E = E} o m b c g h (Ok u) xs → Prints m n c d h l r ys → Prints o n b d g l r (xs ++ ys)
prints_then {o} {m} {n} {b} {c} {d} {g} {h} {l} {xs} {ys} {r = Ok v} p q = record {
  ok = PassesOn-then o m n g xs ys h l p.ok q.ok;
  front = tt;
  dropped = tt;
  later = omega (arith, p.later, q.later);
  cause = tt;
}
prints_then {o} {m} {n} {b} {c} {d} {g} {h} {l} {xs} {ys} {r = Err e} p q = record {
  ok = tt;
  front = AppendsFront-then o m n g xs ys h p.ok q.front;
  dropped = q.dropped;
  later = omega (arith, p.later, q.later);
  cause = rose-earlier b c d p.later q.cause;
}

-- a call failed, and nothing followed
pub prints_no_more : {S T E : Type 0} {o n : Option (List ℕ)} {b d : ℕ} {g l xs : List ℕ} {e : E} {r : Result T E} (ys : List ℕ)
    → Prints {T = S} {E = E} o n b d g l (Err e) xs → IsErr r → Prints o n b d g l r (xs ++ ys)
prints_no_more {r = Ok v} ys p failed = cc
prints_no_more {o} {n} {b} {d} {g} {l} {xs} {r = Err e} ys p failed = record {
  ok = tt;
  front = AppendsFront-more o n g xs ys p.front;
  dropped = p.dropped;
  later = p.later;
  cause = p.cause;
}

-- further bytes joined those that are gathered
pub prints_gathered : {S E : Type 0} {o m : Option (List ℕ)} {b c : ℕ} {g h l xs : List ℕ} {u : S} (ys : List ℕ)
    → Prints {T = S} {E = E} o m b c g h (Ok u) xs → l ≡ h ++ ys → Prints {T = S} {E = E} o m b c g l (Ok u) (xs ++ ys)
prints_gathered {g} {h} {l} {xs} ys p grown = record {
  ok = record {
    handed = p.ok.handed;
    split = sym (append_assoc g xs ys) ∙ ap (λ l. l ++ ys) p.ok.split ∙ append_assoc p.ok.handed h ys ∙ ap (λ l. p.ok.handed ++ l) (sym grown);
    grown = p.ok.grown;
  };
  front = tt;
  dropped = tt;
  later = p.later;
  cause = tt;
}

-- bytes of which some were sent, then some more, and then none
pub all_sent : (all sent rest : List ℕ) (count : ℕ) → all ≡ sent ++ rest → all ≡ ((sent ++ take count rest) ++ []) ++ take (length rest - count) (drop count rest)
all_sent all sent rest count split =
    split ∙ ap (λ l. sent ++ l) (sym (take-append-drop count rest)) ∙ sym (append_assoc sent (take count rest) (drop count rest))
    ∙ ap (λ l. l ++ drop count rest) (sym (append-nil (sent ++ take count rest))) ∙ ap (λ l. ((sent ++ take count rest) ++ []) ++ l) (sym (take_rest rest count))

-- the same bytes, written otherwise
pub prints_same : {T E : Type 0} {o n : Option (List ℕ)} {b d : ℕ} {g l xs ys : List ℕ} {r : Result T E} → xs ≡ ys → Prints {T = T} {E = E} o n b d g l r ys → Prints o n b d g l r xs
prints_same {o} {n} {b} {d} {g} {l} {r} e p = subst (Prints o n b d g l r) (sym e) p

-- the same bytes were gathered before
pub prints_after : {T E : Type 0} {o n : Option (List ℕ)} {b d : ℕ} {g h l xs : List ℕ} {r : Result T E} → h ≡ g → Prints {T = T} {E = E} o n b d g l r xs → Prints o n b d h l r xs
prints_after {o} {n} {b} {d} {l} {xs} {r} e p = subst (λ k. Prints o n b d k l r xs) (sym e) p
