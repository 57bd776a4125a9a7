-- What a map from names finds after one entry more.
use Rattle.std.proofs.Common.{◌≡◌, ℕ, Bool, true, false, not, cond, List, Option, Some, None, is_some, is_none, refl, sym, ap, ◌∙◌}
use Rattle.std.specs.Prelude.{option_map}
use Rattle.std.specs.Option.{option_or}
use Rattle.std.specs.Str.{bytes_eq}
use Rattle.std.proofs.lemmas.Slice.Eq.{bytes_eq-Decides}
use Rattle.dactl_names.specs.declared.map.NameMap.{NameMap}
use Rattle.dactl_names.specs.Found.{found, Notes}
use Rattle.dactl_symbols.specs.declared.names.Meaning.{Meaning}
use Rattle.dactl_symbols.specs.Meanings.{meaning_of, found_in, Adds}

both_ways : (b c : Bool) (v w : List ℕ) → bytes_eq v w ≡ b → bytes_eq w v ≡ c → b ≡ c
both_ways true true v w e f = refl
both_ways false false v w e f = refl
both_ways true false v w e f = sym ((bytes_eq-Decides w v).1 (sym ((bytes_eq-Decides v w).0 e))) ∙ f
both_ways false true v w e f = sym e ∙ (bytes_eq-Decides v w).1 (sym ((bytes_eq-Decides w v).0 f))

mapped : (o : Option Meaning) (b : Bool) (v : Meaning) → option_map meaning_of (option_or o (cond b (Some v) None)) ≡ option_or (option_map meaning_of o) (cond b (Some (meaning_of v)) None)
mapped None true v = refl
mapped None false v = refl
mapped (Some m) b v = refl

-- a name that is noted means what is noted, unless it meant something
pub found-noted : (m n : NameMap Meaning) (name : List ℕ) (v : Meaning) → Notes name v m n → Adds (found_in m) (found_in n) name (meaning_of v)
found-noted m n name v notes = λ word.
    ap (option_map meaning_of) (notes word) ∙ mapped (found m word) (bytes_eq name word) v
    ∙ ap (λ (b : Bool). option_or (found_in m word) (cond b (Some (meaning_of v)) None)) (both_ways (bytes_eq name word) (bytes_eq word name) name word refl refl)

-- a name means something where it is found
pub means_something : (o : Option Meaning) → is_some (option_map meaning_of o) ≡ not (is_none o)
means_something None = refl
means_something (Some m) = refl
