-- Values that are given where there are none.
use Rattle.std.proofs.Common.{◌≡◌, Bool, true, false, Option, Some, None, is_some, refl, sym, true≢false}
use Rattle.dactl_names.specs.Found.{or_given}

pub none_is : {V : Type 0} (o : Option V) → is_some o ≡ false → o ≡ None
none_is None h = refl
none_is (Some v) h = absurd (true≢false h)

-- where nothing is given, what is found stays
pub not_given : {V : Type 0} (old : Option V) (value : V) → old ≡ or_given old false value
not_given None value = refl
not_given (Some v) value = refl

-- a name that has a value keeps it
pub kept : {V : Type 0} (old : Option V) (is : Bool) (value : V) → (is ≡ true → is_some old ≡ true) → old ≡ or_given old is value
kept old false value there = not_given old value
kept None true value there = absurd (true≢false (sym (there refl)))
kept (Some v) true value there = refl
