-- Settings that words come to are within their limits.
use Rattle.std.proofs.Common.{◌≡◌, ◌⊎◌, ◌&&◌, ◌∷◌, [], ℕ, Bool, List, Option, Some, None, Result, Ok, Err, IfOk, IfSome, not, nat_le, option_map, true, false, refl, arith, inl, inr, if◌then◌else◌}
use Rattle.std.specs.Prelude.{codes, unwrap_or}
use Rattle.std.specs.Char.{is_ascii_digit}
use Rattle.std.specs.List.{list_all}
use Rattle.std.specs.Option.{option_map_or}
use Rattle.std.specs.Str.Parse.{digits_value}
use Rattle.std.proofs.lemmas.Bool.{leb-true}
use Rattle.clap.specs.Walk.{is_empty}
use Rattle.clap.specs.Words.{Row, Text, first_of}
use Rattle.clap.proofs.WalkLemmas.{both}
use Rattle.dactl_settings.specs.Command.{options}
use Rattle.dactl_settings.specs.Limits.{IsUpTo, IsWithinLimits}
use Rattle.dactl_settings.specs.Reading.{fits, found_in, is_number, settings_in, settings_of, takes}
use Rattle.dactl_settings.specs.declared.settings.Settings.{Settings}
use Rattle.dactl_settings.specs.declared.fault.UsageFault.{UsageFault}
use Rattle.dactl_settings.specs.declared.fault.UsageFault.TheVariants.{Words, Number, Both, Memory}

number_up_to : (greatest : ℕ) (text : Text) → is_number greatest text ≡ true → IsUpTo greatest (digits_value 10 text)
number_up_to greatest text is =
    let digits = both (not (is_empty text)) _ is in
    let limits = both (list_all is_ascii_digit text) _ digits.1 in
    let ends = both (nat_le 1 (digits_value 10 text)) _ limits.1 in
    (leb-true _ _ ends.0, leb-true _ _ ends.1)

given : (greatest : ℕ) (text : Option Text) → option_map_or (is_number greatest) text true ≡ true
    → IfSome (option_map (digits_value 10) text) (IsUpTo greatest)
given greatest None is = tt
given greatest (Some text) is = number_up_to greatest text is

given_or : (greatest usual : ℕ) (text : Option Text) → IsUpTo greatest usual → option_map_or (is_number greatest) text true ≡ true
    → IsUpTo greatest (unwrap_or (option_map (digits_value 10) text) usual)
given_or greatest usual None within is = within
given_or greatest usual (Some text) within is = number_up_to greatest text is

each : {X : Type 0} (p : X → Bool) (a b c d : X) → list_all p (a ∷ b ∷ c ∷ d ∷ []) ≡ true
    → (p a ≡ true) × (p b ≡ true) × (p c ≡ true) × (p d ≡ true)
each p a b c d all =
    let one = both (p a) (p b && (p c && (p d && true))) all in
    let two = both (p b) (p c && (p d && true)) one.1 in
    let three = both (p c) (p d && true) two.1 in
    (one.0, two.0, three.0, (both (p d) true three.1).0)

-- both exclusive flags are asked for
abbrev asks : Settings → Bool
asks s = s.verify && s.resume

within_rows : (rows : List Row) → list_all (fits rows) options ≡ true → asks (settings_in rows) ≡ false → IsWithinLimits (settings_in rows)
within_rows rows all one =
    let fit = each (fits rows) (codes "workers", 16) (codes "budget", 4000000) (codes "nodes", 2000000) (codes "sample", 20000) all in
    record {
      workers = given_or 16 4 (first_of (codes "workers") rows) (omega arith, omega arith) fit.0;
      budget = given_or 4000000 1000000 (first_of (codes "budget") rows) (omega arith, omega arith) fit.1;
      nodes = given_or 2000000 200000 (first_of (codes "nodes") rows) (omega arith, omega arith) fit.2;
      sample = given 20000 (first_of (codes "sample") rows) fit.3;
      one = one;
    }

within : (words : List Text) → IfOk (settings_of words) IsWithinLimits
unfolding settings_of
within words = go (takes words) (list_all (fits (found_in words)) options) (asks (settings_in (found_in words))) refl refl
  where
    go : (taken all both : Bool) → list_all (fits (found_in words)) options ≡ all → asks (settings_in (found_in words)) ≡ both
        → IfOk (if taken then (if all then (if both then Err Both else Ok (settings_in (found_in words))) else Err Number) else Err Words) IsWithinLimits
    go true true false fit one = within_rows (found_in words) fit one
    go true true true fit one = tt
    go true false both fit one = tt
    go false all both fit one = tt

-- settings that words come to are within the limits
pub answered : (words : List Text) (r : Result Settings UsageFault) → (r ≡ settings_of words) ⊎ (r ≡ Err Memory) → IfOk r IsWithinLimits
answered words r (inl is) = rw is (within words)
answered words r (inr spent) = rw spent tt
