-- What a parse by the command tells.
use Rattle.std.proofs.Common.{◌≡◌, ◌⊎◌, ◌∙◌, ap, inl, inr, refl, arith, List, [], ◌∷◌, Result, Ok, Err, true, false, if◌then◌else◌}
use Rattle.std.specs.Result.{IsErrAnd}
use Rattle.std.proofs.lemmas.Bool.{ne_eqb}
use Rattle.clap.specs.Kinds.{HasKind, Kinds}
use Rattle.clap.specs.Walk.{is_empty}
use Rattle.clap.specs.Words.{Row, Text, fault_of, is_simple, is_simple_and_free, kind_of, matches_of}
use Rattle.clap.specs.declared.error.Error.{Error}
use Rattle.clap.specs.declared.error.kind.ErrorKind.{ErrorKind}
use Rattle.clap.specs.declared.error.kind.ErrorKind.TheVariants.{OutOfMemory}
use Rattle.dactl_settings.specs.Command.{command}
use Rattle.dactl_settings.specs.Faults.{fault_by}
use Rattle.dactl_settings.specs.Reading.{checked_settings, found_in, settings_of, takes}
use Rattle.dactl_settings.specs.declared.settings.Settings.{Settings}
use Rattle.dactl_settings.specs.declared.fault.UsageFault.{UsageFault}
use Rattle.dactl_settings.specs.declared.fault.UsageFault.TheVariants.{Words, Memory}

-- the command is one of those of which `clap` says exactly what they take
pub command_is_simple : is_simple command ≡ true
command_is_simple = refl

pub command_is_free : is_simple_and_free command ≡ true
command_is_free = refl

not_empty : (k : ErrorKind) (ks : Kinds) → is_empty (k ∷ ks) ≡ false
not_empty k ks = ne_eqb _ _ (λ e. omega arith)

told : (k : ErrorKind) → (fault_by k ≡ Memory) ⊎ (fault_by k ≡ Words)
told OutOfMemory = inl refl
told _ = inr refl

-- the answer where the parse gives matches
pub taken : (words : List Text) (rows : List Row) → fault_of command words ≡ [] → rows ≡ matches_of command words → checked_settings rows ≡ settings_of words
unfolding settings_of takes found_in
taken words rows none same = ap checked_settings same ∙ go (fault_of command words) none
  where
    go : (kinds : Kinds) → kinds ≡ []
        → checked_settings (matches_of command words) ≡ (if is_empty kinds then checked_settings (matches_of command words) else Err Words)
    go [] e = refl
    go (k ∷ ks) e = cc

abbrev failed : UsageFault → Result Settings UsageFault
failed f = Err f

-- the answer where it ends with an error
pub refused : (words : List Text) (e : Error) (r : Result Settings UsageFault) → HasKind (fault_of command words) e → IsErrAnd r (λ f. f ≡ fault_by (kind_of e))
    → (r ≡ settings_of words) ⊎ (r ≡ Err Memory)
unfolding settings_of takes found_in
refused words e (Ok s) has is = absurd is
refused words e (Err f) has is = go (fault_of command words) has
  where
    go : (kinds : Kinds) → HasKind kinds e
        → (failed f ≡ (if is_empty kinds then checked_settings (matches_of command words) else Err Words)) ⊎ (failed f ≡ Err Memory)
    go kinds (inl spent) = inr (ap Err (is ∙ ap fault_by spent))
    go [] (inr among) = absurd among
    go (k ∷ ks) (inr among) = elim (told (kind_of e)) [
      | inl memory ↦ inr (ap Err (is ∙ memory))
      | inr words ↦ inl (rw (not_empty k ks) (ap Err (is ∙ words)))
    ]
