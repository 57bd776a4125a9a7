-- What a call that prints does to the sink and to the bytes that are gathered for it.
use Rattle.std.specs.Prelude.{◌≡◌, ℕ, ◌≤◌, List, [], ◌++◌, OnOk, OnErr}
use Rattle.std.specs.declared.option.Option.{Option}
use Rattle.std.specs.declared.result.Result.{Result}
use Rattle.std.specs.Io.KnownBytes.{Appends}
use Rattle.dactl_base.specs.Bytes.{AppendsFront}
use Rattle.dactl_base.specs.Faults.{Rose}

-- room for the numbers of so many nodes, and the bytes that are gathered
pub record Gathering : Type 0 where
  pub room : ℕ
  pub gathered : List ℕ

-- of all these bytes the sink took a front, and the rest is gathered
pub record PassesOn (old new : Option (List ℕ)) (all rest : List ℕ) : Type 0 where
  pub handed : List ℕ
  pub split : all ≡ handed ++ rest
  pub grown : Appends old new handed

-- the call printed these bytes: they follow what was gathered, and the sink takes from the front. An error comes where the sink had a fault, and nothing is gathered then
pub record Prints {T E : Type 0} (old new : Option (List ℕ)) (before now : ℕ) (gathered left : List ℕ) (result : Result T E) (bytes : List ℕ) : Type 0 where
  pub ok : OnOk result (PassesOn old new (gathered ++ bytes) left)
  pub front : OnErr result (AppendsFront old new (gathered ++ bytes))
  pub dropped : OnErr result (left ≡ [])
  pub later : before ≤ now
  pub cause : OnErr result (Rose before now)
