-- What a text gives of its equations, once it is read and has no fault in its names.
use Rattle.std.specs.Prelude.{◌≡◌, ◌≤◌, ℕ, List, [], length}
use Rattle.fun_meaning.specs.declared.tree.Fun.{Fun}
use Rattle.fun_meaning.specs.Sound.{AreSound, AreSmall}
use Rattle.fun_meaning.specs.Spelt.{AreSpelt, AreLight}
use Rattle.fun_syntax.specs.Faults.{faults_of}
use Rattle.fun_syntax.specs.Reads.{FunReads}

-- equations without a fault in their names are sound
abbrev pub FaultlessAreSound : Type 0
FaultlessAreSound = (e : Fun) → faults_of e ≡ [] → AreSound e

-- and they are not too large
abbrev pub FaultlessAreSmall : Type 0
FaultlessAreSmall = (e : Fun) → faults_of e ≡ [] → AreSmall e

-- what a text reads has spelled names and integers of 64 bits
abbrev pub ReadAreSpelt : Type 0
ReadAreSpelt = (bytes : List ℕ) (e : Fun) → FunReads bytes e → AreSpelt e

-- what a text of lawful length reads makes few nodes
abbrev pub ReadAreLight : Type 0
ReadAreLight = (bytes : List ℕ) (e : Fun) → length bytes ≤ 1048576 → FunReads bytes e → AreLight e
