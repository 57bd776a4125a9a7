-- What is answered for a text: its tokens, or its first fault.
use Rattle.std.specs.Prelude.{◌≡◌, ℕ, ◌⊎◌, Bool, List, Result, Ok, Err}
use Rattle.dactl_base.specs.declared.refusal.Kind.TheVariants.{BadByte, NumberTooWide}
use Rattle.dactl_base.specs.declared.refusal.Refusal.{Refusal}
use Rattle.dactl_base.specs.declared.refusal.TextFault.{TextFault}
use Rattle.dactl_base.specs.declared.refusal.TextFault.TheVariants.{Refused, Memory}
use Rattle.dactl_tokens.specs.declared.token.Token.{Token}
use Rattle.dactl_tokens.specs.Lexes.{ScansText, has_header, IsBad, IsTooWide}

-- up to the place the text is gaps and tokens, and a fault of its language stands there
pub record StopsAt (text : List ℕ) (place : ℕ) (fault : Bool → List ℕ → Type 0) : Type 0 where
  pub tokens : List Token
  pub rest : List ℕ
  pub scans : ScansText (has_header text) text tokens place rest
  pub stops : fault (has_header text) rest

-- the first fault of the text
abbrev pub IsFirstFault : List ℕ → Refusal → Type 0
IsFirstFault text r = ((r.kind ≡ BadByte) × StopsAt text r.place.byte IsBad) ⊎ ((r.kind ≡ NumberTooWide) × StopsAt text r.place.byte IsTooWide)

-- the answer is a value that is seen as this one, unless memory is wanting
abbrev pub OkOrMemory : {X Y : Type 0} → (X → Y) → Y → Result X TextFault → Type 0
OkOrMemory view y (Ok x) = view x ≡ y
OkOrMemory view y (Err (Refused r)) = ⊥
OkOrMemory view y (Err Memory) = Unit {0}

-- the answer is this refusal, unless memory is wanting
abbrev pub RefusedOrMemory : {X : Type 0} → Refusal → Result X TextFault → Type 0
RefusedOrMemory r (Ok x) = ⊥
RefusedOrMemory r (Err (Refused s)) = s ≡ r
RefusedOrMemory r (Err Memory) = Unit {0}
