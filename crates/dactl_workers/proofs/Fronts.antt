-- Lists that begin with others.
use Rattle.std.proofs.Common.{◌≡◌, ◌≢◌, ◌<◌, ◌≤◌, ◌+◌, List, [], ◌∷◌, ◌++◌, sym, ap, ◌∙◌, append-nil, append_assoc, length, length-append, arith}
use Rattle.dactl_turn.specs.Gives.{StartsWith}

pub starts_trans : {A : Type 0} (c b a : List A) → StartsWith c b → StartsWith b a → StartsWith c a
starts_trans c b a p q = (q.0 ++ p.0, p.1 ∙ (ap (λ z. z ++ p.0) q.1 ∙ append_assoc a q.0 p.0))

pub starts_same : {A : Type 0} (a : List A) → StartsWith a a
starts_same a = ([], sym (append-nil a))

-- the whole is longer than a front that it is not
pub longer_than : {A : Type 0} (whole front : List A) → StartsWith whole front → whole ≢ front → length front < length whole
longer_than whole front ([], e) not = absurd (not (e ∙ append-nil front))
longer_than whole front (x ∷ xs, e) not = let l : length whole ≡ length (front ++ x ∷ xs) = ap length e in let m = length-append front (x ∷ xs) in omega arith

pub no_shorter : {A : Type 0} (whole front : List A) → StartsWith whole front → length front ≤ length whole
no_shorter whole front b = let l : length whole ≡ length (front ++ b.0) = ap length b.1 in let m = length-append front b.0 in omega arith
