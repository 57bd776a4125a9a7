-- Which fault of a text is told: the least one that holds.
use Rattle.std.specs.Prelude.{◌≡◌, ℕ, ◌<◌, ◌⊎◌, Result, Ok, Err}
use Rattle.dactl_base.specs.declared.refusal.Kind.{Kind}
use Rattle.dactl_base.specs.declared.refusal.Kind.TheVariants as kinds
use Rattle.dactl_base.specs.declared.refusal.Refusal.{Refusal}
use Rattle.dactl_base.specs.declared.refusal.TextFault.{TextFault}
use Rattle.dactl_base.specs.declared.refusal.TextFault.TheVariants as faults

-- the phase that finds faults of the kind: tokens, grammar, scope, cycles of named patterns, rules
abbrev pub phase : Kind → ℕ
phase kinds.BadByte = 1
phase kinds.NumberTooWide = 1
phase kinds.Unexpected = 2
phase kinds.TooDeep = 2
phase kinds.TwiceDeclared = 3
phase kinds.UnknownModule = 3
phase kinds.UnknownName = 3
phase kinds.NotVisible = 3
phase kinds.PublicTooStrong = 3
phase kinds.NoInitial = 3
phase kinds.TwoInitials = 3
phase kinds.TooMany = 3
phase kinds.PatternCycle = 4
phase kinds.RootNotRewritable = 5
phase kinds.BinderInChoice = 5
phase kinds.TooWide = 5
phase kinds.Unbound = 5
phase kinds.NamedTwice = 5
phase kinds.RedirectedTwice = 5
phase kinds.NotOverwritable = 5
phase kinds.NotCreatable = 5
phase kinds.MarkOnBound = 5
phase kinds.TooManyWaits = 5
phase kinds.NotAConstructor = 3
phase kinds.WrongArity = 3

-- where the kind stands in the order that decides between faults at one place
abbrev pub rank : Kind → ℕ
rank kinds.BadByte = 0
rank kinds.NumberTooWide = 1
rank kinds.Unexpected = 2
rank kinds.TooDeep = 3
rank kinds.TwiceDeclared = 4
rank kinds.UnknownModule = 5
rank kinds.UnknownName = 6
rank kinds.NotVisible = 7
rank kinds.PublicTooStrong = 8
rank kinds.NoInitial = 9
rank kinds.TwoInitials = 10
rank kinds.TooMany = 11
rank kinds.PatternCycle = 12
rank kinds.RootNotRewritable = 13
rank kinds.BinderInChoice = 14
rank kinds.TooWide = 15
rank kinds.Unbound = 16
rank kinds.NamedTwice = 17
rank kinds.RedirectedTwice = 18
rank kinds.NotOverwritable = 19
rank kinds.NotCreatable = 20
rank kinds.MarkOnBound = 21
rank kinds.TooManyWaits = 22
rank kinds.NotAConstructor = 23
rank kinds.WrongArity = 24

-- in one phase, the one fault comes before the other: by place, and at one place by the order of the kinds
abbrev pub StandsBefore : Refusal → Refusal → Type 0
StandsBefore a b = (a.place.byte < b.place.byte) ⊎ ((a.place.byte ≡ b.place.byte) × (rank a.kind < rank b.kind))

-- the one fault comes before the other: by phase, then by place, then by the order of the kinds
abbrev pub Precedes : Refusal → Refusal → Type 0
Precedes a b = (phase a.kind < phase b.kind) ⊎ ((phase a.kind ≡ phase b.kind) × StandsBefore a b)

-- no fault holds
abbrev pub NoFault : (Refusal → Type 0) → Type 0
NoFault Holds = (r : Refusal) → ¬ Holds r

-- the fault holds, and none that holds comes before it
pub record IsLeastFault (Holds : Refusal → Type 0) (r : Refusal) : Type 0 where
  pub holds : Holds r
  pub least : (other : Refusal) → Holds other → ¬ Precedes other r

-- a text is refused for the least fault; want of memory tells nothing of the text
abbrev pub IsDueFault : (Refusal → Type 0) → TextFault → Type 0
IsDueFault Holds (faults.Refused r) = IsLeastFault Holds r
IsDueFault Holds faults.Memory = Unit {0}

-- what a phase answers, memory aside: a value where no fault holds, and otherwise the least fault
abbrev pub TellsFaults : {A : Type 0} → (Refusal → Type 0) → Result A TextFault → Type 0
TellsFaults Holds (Ok value) = NoFault Holds
TellsFaults Holds (Err fault) = IsDueFault Holds fault
