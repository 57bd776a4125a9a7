-- What a worker has done from one moment to another: the entries that it saw, the nodes that it offered and took, and its counts.
use Rattle.std.specs.Prelude.{◌≡◌, ◌≢◌, ◌⊎◌, ℕ, ◌+◌, ◌≤◌, not, List, [], ◌∷◌, ◌++◌, length, filter, ◌==◌}
use Rattle.dactl_model.specs.declared.graph.NodeId.{NodeId}
use Rattle.dactl_model.specs.declared.graph.Entry.{Entry}
use Rattle.dactl_model.specs.declared.program.Program.{Program}
use Rattle.dactl_model.specs.Acts.{HasActs}
use Rattle.dactl_turn.specs.Gives.{by_worker}

-- xs is ys with some items left out
abbrev pub IsSubsequence : {A : Type 0} → List A → List A → Type 0
IsSubsequence xs [] = xs ≡ []
IsSubsequence {A} xs (y ∷ ys) = IsSubsequence xs ys ⊎ ((rest : List A) × (xs ≡ y ∷ rest) × IsSubsequence rest ys)

-- the entries that carry another number than k
abbrev pub by_others : ℕ → List Entry → List Entry
by_others k es = filter (λ (e : Entry). not (e.worker == k)) es

-- the nodes that the last entry of the journal made active
abbrev pub LastActs : Program → List Entry → List NodeId → Type 0
LastActs p journal nodes = HasActs p journal (length journal) nodes

module _ (p : Program) (k : ℕ) where
  -- the nodes that the entries es of number k made active, one entry after another, where the entries `before` come first
  abbrev pub OwnActs : List Entry → List Entry → List NodeId → Type 0
  OwnActs before [] nodes = nodes ≡ []
  OwnActs before (e ∷ es) nodes = ((e.worker ≢ k) × OwnActs (before ++ e ∷ []) es nodes)
      ⊎ ((e.worker ≡ k) × ((first : List NodeId) × (more : List NodeId) × LastActs p (before ++ e ∷ []) first × (nodes ≡ first ++ more) × OwnActs (before ++ e ∷ []) es more))

-- what a worker has seen, its hand has put and taken and got back, and the worker has counted at a moment
pub record Account : Type 0 where
  pub seen : List Entry
  pub put : List NodeId
  pub taken : List NodeId
  pub back : ℕ
  pub commits : ℕ
  pub offered : ℕ
  pub refused : ℕ
  pub took : ℕ
  pub stale : ℕ
  pub passive : ℕ

module _ (p : Program) (k : ℕ) where
  -- what worker k has done between two moments
  pub record HasDone (a b : Account) : Type 0 where
    -- the entries that it saw then, and its own among them
    pub entries : List Entry
    pub seen : b.seen ≡ a.seen ++ entries
    pub commits : b.commits ≡ a.commits + length (by_worker k entries)
    -- for each of its own, in order, it offered exactly the nodes made active, once each
    pub offers : List NodeId
    pub acts : OwnActs p k a.seen entries offers
    pub offered : b.offered ≡ a.offered + length offers
    -- what its hand put are some of these, in order, and the others were handed back
    pub puts : List NodeId
    pub put : b.put ≡ a.put ++ puts
    pub among : IsSubsequence puts offers
    pub even : length puts + b.refused ≡ length offers + a.refused
    pub back : b.back + a.refused ≡ a.back + b.refused
    -- what its hand took
    pub takes : List NodeId
    pub taken : b.taken ≡ a.taken ++ takes
    pub took : b.took ≡ a.took + length takes
    -- each stale commit is paid for by an entry of another worker, and each passive one by such an entry or by a node taken
    pub stale : b.stale + length (by_others k a.seen) ≤ a.stale + length (by_others k b.seen)
    pub paid : (b.stale + b.passive) + (a.took + length (by_others k a.seen)) ≤ (a.stale + a.passive) + (b.took + length (by_others k b.seen))
