-- A version that is greater than each before, entry after entry.
use Rattle.std.proofs.Common.{◌≡◌, ◌≢◌, ℕ, ◌+◌, ◌<◌, ◌≤◌, length, get_or, All, Some, sym, ◌∙◌, arith, subst, inl, inr}
use Rattle.std.specs.List.{slice_get}
use Rattle.std.proofs.lemmas.Bool.{cases_lt}
use Rattle.std.proofs.lemmas.Option.{slice_get-get_or, slice_get_within, get_or_from_slice_get}
use Rattle.std.proofs.lemmas.List.Elements.{All-map}
use Rattle.dactl_model.specs.declared.graph.NodeId.{NodeId}
use Rattle.dactl_model.specs.declared.graph.Room.{Room}
use Rattle.dactl_model.specs.declared.program.Start.{Start}
use Rattle.dactl_model.specs.Versions.{content}
use Rattle.dactl_store.specs.Held.{Held}
use Rattle.dactl_store.specs.Redirecting.{IsVersioned, IsLatest}
use Rattle.dactl_store.specs.Start.{IsBegun}

-- no node has a greater version than the one that was given
pub most_versioned : (version : ℕ) (before after : Held) → IsVersioned version before after → All (λ v. v ≤ version) before.versions → All (λ v. v ≤ version) after.versions
most_versioned version before after is most i d below = elim (cases_lt version (get_or after.versions i d)) [
  | inl greater ↦
      let n : NodeId = record { number = i } in
      let here : i < length after.graph.nodes = omega (arith, is.long) in
      let at : slice_get after.versions i ≡ Some (get_or after.versions i d) = slice_get-get_or after.versions i d below in
      let differ : content after.graph (record { number = i }) ≢ content before.graph (record { number = i }) = λ same.
      let was : slice_get before.versions i ≡ Some (get_or after.versions i d) = sym (is.kept n here same) ∙ at in
      let few : get_or before.versions i d ≤ version = most i d (slice_get_within before.versions i (get_or after.versions i d) was) in
      omega (arith, greater, few, get_or_from_slice_get before.versions i (get_or after.versions i d) d was) in
      let given : get_or after.versions i d ≡ version = get_or_from_slice_get after.versions i version d (is.given n here differ) in
      omega (arith, given)
  | inr less ↦ less
]

-- after it the next greater one is the latest
pub latest_next : (version : ℕ) (before after : Held) → IsVersioned version before after → IsLatest version before → after.newest ≡ version → IsLatest (version + 1) after
latest_next version before after is latest newest = record {
  newer = omega (arith, newest);
  most = λ i d below. (let few = most_versioned version before after is latest.most i d below in omega (arith, few));
}

-- at the start each version but 0 is the latest
pub latest_begun : (version : ℕ) (start : Start) (room : Room) (held : Held) → 0 < version → IsBegun start room held → IsLatest version held
latest_begun version start room held some is = record {
  newer = omega (arith, is.newest);
  most = subst (All (λ v. v ≤ version)) (sym is.versions) (All-map (λ v. v ≤ version) (λ _. 0) start.fresh (λ i d below. omega arith));
}
