-- One offer more.
use Rattle.std.proofs.Common.{◌≡◌, ℕ, ◌+◌, ◌<◌, List, [], ◌∷◌, ◌++◌, take, length, length-append, get_or, refl, sym, ap, ◌∙◌, subst, append-nil, append_assoc, add-zero, inl, inr, arith}
use Rattle.std.proofs.lemmas.List.{take_more}
use Rattle.dactl_model.specs.declared.graph.NodeId.{NodeId}
use Rattle.dactl_workers.specs.Turns.{IsOffered}
use Rattle.dactl_workers.proofs.Subsequences.{subsequence_append}

module _ {H : Type 0} (put taken : H → List NodeId) (back : H → ℕ) where
  pub offered_none : (h : H) → IsOffered put taken back h h [] 0
  offered_none h = record { puts = []; is_put = sym (append-nil (put h)); among = refl; even = refl; is_back = omega arith; is_taken = refl }

  pub offered_ok : (a b : H) (x : NodeId) → put b ≡ put a ++ x ∷ [] → taken b ≡ taken a → back b ≡ back a → IsOffered put taken back a b (x ∷ []) 0
  offered_ok a b x p t k = record { puts = x ∷ []; is_put = p; among = inr ([], refl, refl); even = refl; is_back = k ∙ sym (add-zero (back a)); is_taken = t }

  pub offered_back : (a b : H) (x : NodeId) → put b ≡ put a → taken b ≡ taken a → back b ≡ back a + 1 → IsOffered put taken back a b (x ∷ []) 1
  offered_back a b x p t k = record { puts = []; is_put = p ∙ sym (append-nil (put a)); among = inl refl; even = refl; is_back = k; is_taken = t }

  pub offered_on : (h a b : H) (nodes more : List NodeId) (m n : ℕ) → IsOffered put taken back h a nodes m → IsOffered put taken back a b more n → IsOffered put taken back h b (nodes ++ more) (m + n)
  offered_on h a b nodes more m n o p = let e = o.even in let f = p.even in let lp = length-append o.puts p.puts in let ln = length-append nodes more in let ob = o.is_back in let pb = p.is_back in record {
    puts = o.puts ++ p.puts;
    is_put = p.is_put ∙ (ap (λ (z : List NodeId). z ++ p.puts) o.is_put ∙ append_assoc (put h) o.puts p.puts);
    among = subsequence_append o.puts nodes p.puts more o.among p.among;
    even = omega arith;
    is_back = omega arith;
    is_taken = p.is_taken ∙ o.is_taken;
  }

  pub one_more : (h b : H) (nodes : List NodeId) (i refused : ℕ) (d : NodeId) → i < length nodes → IsOffered put taken back h b (take i nodes ++ get_or nodes i d ∷ []) refused → IsOffered put taken back h b (take (i + 1) nodes) refused
  one_more h b nodes i refused d lt o = subst (λ (z : List NodeId). IsOffered put taken back h b z refused) (sym (take_more nodes i d lt)) o
