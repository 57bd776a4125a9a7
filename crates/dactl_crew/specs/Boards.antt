-- What a crew says of a board and its hands.
use Rattle.std.specs.Prelude.{◌≡◌, ℕ, List, []}
use Rattle.dactl_model.specs.declared.graph.NodeId.{NodeId}

-- a hand of this board that has put and taken nothing, and got nothing back
abbrev pub IsNewHand : {H : Type 0} → (H → Type 0) → (H → List NodeId) → (H → List NodeId) → (H → ℕ) → H → Type 0
IsNewHand fits put taken back hand = fits hand × (put hand ≡ []) × (taken hand ≡ []) × (back hand ≡ 0)

-- what a trait of boards says of a kind of board and its hands
abbrev pub Words : Type 0 → Type 0 → Type 1
Words B H =
    record {
      fits : B → H → Type 0;
      put : H → List NodeId;
      taken : H → List NodeId;
      back : H → ℕ;
      is_sound : B → Type 0;
      parts : B → ℕ;
      share : B → ℕ;
      puts : B → List NodeId;
      takes : B → List NodeId;
    }
