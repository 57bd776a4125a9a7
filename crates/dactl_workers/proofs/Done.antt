-- Stretches of work, one after another.
use Rattle.std.proofs.lemmas.List.{append_cancel_left, append_cancel_right}
use Rattle.std.proofs.Common.{◌≡◌, ℕ, ◌+◌, ◌≤◌, ◌<◌, List, [], ◌∷◌, ◌++◌, refl, sym, ap, ◌∙◌, subst, append-nil, append_assoc, length, length-append, arith}
use Rattle.dactl_model.specs.declared.graph.NodeId.{NodeId}
use Rattle.dactl_model.specs.declared.graph.Entry.{Entry}
use Rattle.dactl_model.specs.declared.program.Program.{Program}
use Rattle.dactl_turn.specs.Gives.{by_worker, StartsWith}
use Rattle.dactl_turn.proofs.Gives.{by_worker-append}
use Rattle.dactl_workers.specs.Accounts.{IsSubsequence, LastActs, by_others, OwnActs, Account, HasDone}
use Rattle.dactl_workers.proofs.Subsequences.{subsequence_append}
use Rattle.dactl_workers.proofs.OwnActs.{both_count, filtered, acts_append, acts_of_others, acts_of_one}

join_lists : {A : Type 0} (a b c xs ys : List A) → b ≡ a ++ xs → c ≡ b ++ ys → c ≡ a ++ (xs ++ ys)
join_lists a b c xs ys p q = q ∙ (ap (λ z. z ++ ys) p ∙ append_assoc a xs ys)

own_count : (k : ℕ) (xs ys : List Entry) → length (by_worker k (xs ++ ys)) ≡ length (by_worker k xs) + length (by_worker k ys)
own_count k xs ys = ap length (by_worker-append k xs ys) ∙ length-append (by_worker k xs) (by_worker k ys)

-- what others add, where one's own stay
pub others_rise : (k : ℕ) (a b xs : List Entry) → b ≡ a ++ xs → by_worker k xs ≡ [] → length (by_others k b) ≡ length (by_others k a) + length xs
others_rise k a b xs is none_own = let ca = both_count k a in let cb = both_count k b in let own = own_count k a xs in let same : length (by_worker k b) ≡ length (by_worker k (a ++ xs)) = ap (λ z. length (by_worker k z)) is in
    let zero_own : length (by_worker k xs) ≡ 0 = ap length none_own in let all : length b ≡ length (a ++ xs) = ap length is in let l = length-append a xs in omega arith

-- others never lose an entry
pub others_stay : (k : ℕ) (a b xs : List Entry) → b ≡ a ++ xs → length (by_others k a) ≤ length (by_others k b)
others_stay k a b xs is = let ca = both_count k a in let cb = both_count k b in let cx = both_count k xs in let own = own_count k a xs in let same : length (by_worker k b) ≡ length (by_worker k (a ++ xs)) = ap (λ z. length (by_worker k z)) is in
    let all : length b ≡ length (a ++ xs) = ap length is in let l = length-append a xs in omega arith

module _ (p : Program) (k : ℕ) where
  abbrev Done : Account → Account → Type 0
  Done = HasDone p k

  pub nothing_done : (a : Account) → Done a a
  nothing_done a = record {
    entries = [];
    seen = sym (append-nil a.seen);
    commits = omega arith;
    offers = [];
    acts = refl;
    offered = omega arith;
    puts = [];
    put = sym (append-nil a.put);
    among = refl;
    even = refl;
    back = refl;
    takes = [];
    taken = sym (append-nil a.taken);
    took = omega arith;
    stale = omega arith;
    paid = omega arith;
  }

  pub done_on : (a b c : Account) → Done a b → Done b c → Done a c
  done_on a b c d e = let own = own_count k d.entries e.entries in let lo = length-append d.offers e.offers in let lp = length-append d.puts e.puts in let lt = length-append d.takes e.takes in
      let c1 = d.commits in let c2 = e.commits in let o1 = d.offered in let o2 = e.offered in let v1 = d.even in let v2 = e.even in let b1 = d.back in let b2 = e.back in let t1 = d.took in let t2 = e.took in
      let s1 = d.stale in let s2 = e.stale in let w1 = d.paid in let w2 = e.paid in record {
        entries = d.entries ++ e.entries;
        seen = join_lists a.seen b.seen c.seen d.entries e.entries d.seen e.seen;
        commits = omega arith;
        offers = d.offers ++ e.offers;
        acts = acts_append p k a.seen d.entries e.entries d.offers e.offers d.acts (subst (λ (z : List Entry). OwnActs p k z e.entries e.offers) d.seen e.acts);
        offered = omega arith;
        puts = d.puts ++ e.puts;
        put = join_lists a.put b.put c.put d.puts e.puts d.put e.put;
        among = subsequence_append d.puts d.offers e.puts e.offers d.among e.among;
        even = omega arith;
        back = omega arith;
        takes = d.takes ++ e.takes;
        taken = join_lists a.taken b.taken c.taken d.takes e.takes d.taken e.taken;
        took = omega arith;
        stale = omega arith;
        paid = omega arith;
      }

  -- the entries since are not one's own, where one's own are the same
  pub none_own : (old new : List Entry) (b : StartsWith new old) → by_worker k new ≡ by_worker k old → by_worker k b.0 ≡ []
  none_own old new b same = append_cancel_left (by_worker k old) (by_worker k b.0) [] (sym (ap (by_worker k) b.1 ∙ by_worker-append k old b.0) ∙ (same ∙ sym (append-nil (by_worker k old))))

  abbrev after : Account → List Entry → ℕ → ℕ → Account
  after a seen stale passive = record { seen = seen; put = a.put; taken = a.taken; back = a.back; commits = a.commits; offered = a.offered; refused = a.refused; took = a.took; stale = stale; passive = passive }

  -- more is seen, and both bounds hold
  pub seen_done : (a : Account) (seen : List Entry) (stale passive : ℕ) → StartsWith seen a.seen → by_worker k seen ≡ by_worker k a.seen
      → stale + length (by_others k a.seen) ≤ a.stale + length (by_others k seen) → (stale + passive) + length (by_others k a.seen) ≤ (a.stale + a.passive) + length (by_others k seen) → Done a (after a seen stale passive)
  seen_done a seen stale passive b same s m = let none_there = none_own a.seen seen b same in let zero_own : length (by_worker k b.0) ≡ 0 = ap length none_there in record {
    entries = b.0;
    seen = b.1;
    commits = omega arith;
    offers = [];
    acts = acts_of_others p k a.seen b.0 none_there;
    offered = omega arith;
    puts = [];
    put = sym (append-nil a.put);
    among = refl;
    even = refl;
    back = refl;
    takes = [];
    taken = sym (append-nil a.taken);
    took = omega arith;
    stale = s;
    paid = omega arith;
  }

  -- a turn that only looks
  pub looked_done : (a : Account) (seen : List Entry) (stale passive : ℕ) → StartsWith seen a.seen → by_worker k seen ≡ by_worker k a.seen → stale ≡ a.stale → passive ≡ a.passive → Done a (after a seen stale passive)
  looked_done a seen stale passive b same s m = let more = others_stay k a.seen seen b.0 b.1 in seen_done a seen stale passive b same (omega arith) (omega arith)

  -- a refusal that an entry of another pays for, since more was seen than at the choice
  pub charged_done : (a : Account) (seen : List Entry) (stale passive : ℕ) → StartsWith seen a.seen → by_worker k seen ≡ by_worker k a.seen → length a.seen < length seen
      → stale ≤ a.stale + 1 → stale + passive ≤ (a.stale + a.passive) + 1 → Done a (after a seen stale passive)
  charged_done a seen stale passive b same more s m = let rise = others_rise k a.seen seen b.0 b.1 (none_own a.seen seen b same) in let all : length seen ≡ length (a.seen ++ b.0) = ap length b.1 in let l = length-append a.seen b.0 in
      seen_done a seen stale passive b same (omega arith) (omega arith)

  -- a passive commit that a node taken pays for
  pub paid_done : (a c : Account) (seen : List Entry) (stale passive : ℕ) → Done a c → c.stale ≡ a.stale → c.passive ≡ a.passive → c.took ≡ a.took + 1 → StartsWith seen c.seen → by_worker k seen ≡ by_worker k c.seen
      → stale ≡ c.stale → passive ≤ c.passive + 1 → Done a (after c seen stale passive)
  paid_done a c seen stale passive d cs cp ct b same s m = let none_there = none_own c.seen seen b same in let zero_own : length (by_worker k b.0) ≡ 0 = ap length none_there in let more = others_stay k c.seen seen b.0 b.1 in let more0 = others_stay k a.seen c.seen d.entries d.seen in
      let e : Done c (after c seen stale c.passive) = looked_done c seen stale c.passive b same s refl in let f : Done a (after c seen stale c.passive) = done_on a c (after c seen stale c.passive) d e in record {
        entries = f.entries;
        seen = f.seen;
        commits = f.commits;
        offers = f.offers;
        acts = f.acts;
        offered = f.offered;
        puts = f.puts;
        put = f.put;
        among = f.among;
        even = f.even;
        back = f.back;
        takes = f.takes;
        taken = f.taken;
        took = f.took;
        stale = f.stale;
        paid = omega arith;
      }

  -- an entry of one's own, and the offers of the nodes that it made active
  pub committed_done : (a : Account) (seen front : List Entry) (x : Entry) (nodes puts : List NodeId) (put taken : List NodeId) (back commits offered refused took stale passive again : ℕ)
      → seen ≡ front ++ x ∷ [] → StartsWith front a.seen → by_worker k seen ≡ by_worker k a.seen ++ x ∷ [] → x.worker ≡ k → LastActs p seen nodes
      → put ≡ a.put ++ puts → IsSubsequence puts nodes → length puts + again ≡ length nodes → back ≡ a.back + again → taken ≡ a.taken → took ≡ a.took
      → commits ≡ a.commits + 1 → offered ≡ a.offered + length nodes → refused ≡ a.refused + again → stale ≡ a.stale → passive ≡ a.passive
      → Done a (record { seen = seen; put = put; taken = taken; back = back; commits = commits; offered = offered; refused = refused; took = took; stale = stale; passive = passive })
  committed_done a seen front x nodes puts put taken back commits offered refused took stale passive again is b mine own acts ip among even ib it io ic ioff ir ist ipa =
      let one : by_worker k (x ∷ []) ≡ x ∷ [] = filtered k x [] own in
      let apart : by_worker k seen ≡ by_worker k front ++ x ∷ [] = ap (by_worker k) is ∙ (by_worker-append k front (x ∷ []) ∙ ap (λ z. by_worker k front ++ z) one) in
      let same : by_worker k front ≡ by_worker k a.seen = append_cancel_right (by_worker k front) (by_worker k a.seen) (x ∷ []) (sym apart ∙ mine) in
      let none_there = none_own a.seen front b same in
      let more : seen ≡ a.seen ++ (b.0 ++ x ∷ []) = is ∙ (ap (λ z. z ++ x ∷ []) b.1 ∙ append_assoc a.seen b.0 (x ∷ [])) in
      let own_now : by_worker k (b.0 ++ x ∷ []) ≡ x ∷ [] = by_worker-append k b.0 (x ∷ []) ∙ (λ i. none_there i ++ one i) in
      let one_own : length (by_worker k (b.0 ++ x ∷ [])) ≡ 1 = ap length own_now in
      let stay = others_stay k a.seen seen (b.0 ++ x ∷ []) more in
      let acts_of : OwnActs p k (a.seen ++ b.0) (x ∷ []) nodes = acts_of_one p k (a.seen ++ b.0) x nodes own (subst (λ z. LastActs p z nodes) (is ∙ ap (λ z. z ++ x ∷ []) b.1) acts) in record {
        entries = b.0 ++ x ∷ [];
        seen = more;
        commits = omega arith;
        offers = nodes;
        acts = acts_append p k a.seen b.0 (x ∷ []) [] nodes (acts_of_others p k a.seen b.0 none_there) acts_of;
        offered = ioff;
        puts = puts;
        put = ip;
        among = among;
        even = omega arith;
        back = omega arith;
        takes = [];
        taken = it ∙ sym (append-nil a.taken);
        took = omega arith;
        stale = omega arith;
        paid = omega arith;
      }

  -- the hand is another, with the same lists
  pub unmoved_done : (a : Account) (put taken : List NodeId) (back : ℕ) → put ≡ a.put → taken ≡ a.taken → back ≡ a.back
      → Done a (record { seen = a.seen; put = put; taken = taken; back = back; commits = a.commits; offered = a.offered; refused = a.refused; took = a.took; stale = a.stale; passive = a.passive })
  unmoved_done a put taken back m t b = record {
    entries = [];
    seen = sym (append-nil a.seen);
    commits = omega arith;
    offers = [];
    acts = refl;
    offered = omega arith;
    puts = [];
    put = m ∙ sym (append-nil a.put);
    among = refl;
    even = refl;
    back = ap (λ z. z + a.refused) b;
    takes = [];
    taken = t ∙ sym (append-nil a.taken);
    took = omega arith;
    stale = omega arith;
    paid = omega arith;
  }

  -- and a node was taken
  pub taken_done : (a : Account) (put taken : List NodeId) (back : ℕ) (n : NodeId) → put ≡ a.put → taken ≡ a.taken ++ n ∷ [] → back ≡ a.back
      → Done a (record { seen = a.seen; put = put; taken = taken; back = back; commits = a.commits; offered = a.offered; refused = a.refused; took = a.took + 1; stale = a.stale; passive = a.passive })
  taken_done a put taken back n m t b = record {
    entries = [];
    seen = sym (append-nil a.seen);
    commits = omega arith;
    offers = [];
    acts = refl;
    offered = omega arith;
    puts = [];
    put = m ∙ sym (append-nil a.put);
    among = refl;
    even = refl;
    back = ap (λ z. z + a.refused) b;
    takes = n ∷ [];
    taken = t;
    took = omega arith;
    stale = omega arith;
    paid = omega arith;
  }
