-- The parts of a line, each with what follows it.
use Rattle.std.specs.Prelude.{◌≡◌, ℕ, ◌<◌, ◌≤◌, not, ◌||◌, ◌==◌, Bool, List, [], ◌∷◌, ◌++◌, length, map, All}
use Rattle.std.specs.Char.{is_ascii_digit}
use Rattle.dactl_base.specs.Readers.{Stops}
use Rattle.dactl_model.specs.declared.graph.Arc.{Arc}
use Rattle.dactl_model.specs.declared.graph.Label.{Label}
use Rattle.dactl_model.specs.declared.graph.Label.TheVariants.{Symbol, Integer, Character}
use Rattle.dactl_model.specs.declared.graph.Mark.{Mark}
use Rattle.dactl_model.specs.declared.graph.Mark.TheVariants.{Idle, Active, Waiting}
use Rattle.dactl_model.specs.declared.program.Program.{Program}
use Rattle.dactl_print.specs.Lines.{mark_text, label_text, IsLabelAmong}
use Rattle.dactl_resume.specs.Plain.{put_argument, put_further, put_arguments}
use Rattle.dactl_resume.specs.Restriction.{IsOfLanguage}

-- the names of a program's symbols, in their order
abbrev pub names_of : Program → List (List ℕ)
names_of p = map (λ s. s.name) p.symbols

-- `*` or `#`
abbrev pub is_sign : ℕ → Bool
is_sign c = (c == 42) || (c == 35)

-- who waits, waits for one notification at least, and for 16 at most
abbrev pub IsFewMark : Mark → Type 0
IsFewMark Idle = Unit {0}
IsFewMark Active = Unit {0}
IsFewMark (Waiting k) = (1 ≤ k) × (k ≤ 16)

-- the bytes have this mark, and the rest follows it
pub record BeginsMark (bytes : List ℕ) (mark : Mark) (rest : List ℕ) : Type 0 where
  pub text : bytes ≡ mark_text mark ++ rest
  pub few : IsFewMark mark
  pub ends : Stops is_sign rest

-- neither `[` nor LF
abbrev pub is_label_byte : ℕ → Bool
is_label_byte c = not ((c == 91) || (c == 10))

-- the label is one of the program's
abbrev pub IsLabelOf : Program → Label → Type 0
IsLabelOf p label = IsLabelAmong (length p.symbols) label × IsOfLanguage p.wide label

-- it is a name or an integer
abbrev pub IsWord : Label → Type 0
IsWord (Symbol f) = Unit {0}
IsWord (Integer z) = Unit {0}
IsWord (Character c) = ⊥

-- the bytes have this label of the program, and the rest follows it
pub record BeginsLabel (p : Program) (bytes : List ℕ) (label : Label) (rest : List ℕ) : Type 0 where
  pub text : bytes ≡ label_text p label ++ rest
  pub own : IsLabelOf p label
  pub ends : Stops is_label_byte rest

-- behind the lead the bytes have this argument, whose target is one of so many nodes, and the rest follows it
pub record BeginsArgument (lead bytes : List ℕ) (count : ℕ) (arc : Arc) (rest : List ℕ) : Type 0 where
  pub text : bytes ≡ lead ++ put_argument arc rest
  pub target : arc.target.number < count
  pub ends : Stops is_ascii_digit rest

-- the targets of the arcs are among so many nodes
abbrev pub AreTargets : ℕ → List Arc → Type 0
AreTargets count arcs = All (λ a. a.target.number < count) arcs

-- the bytes are these further arguments, the bracket and the LF
abbrev pub IsFurther : List ℕ → List Arc → Type 0
IsFurther bytes arcs = bytes ≡ put_further arcs (10 ∷ [])

-- the bytes are the arguments of a line, with its LF: 16 at most, whose targets are among so many nodes
pub record AreArguments (bytes : List ℕ) (count : ℕ) (arcs : List Arc) : Type 0 where
  pub text : bytes ≡ put_arguments arcs (10 ∷ [])
  pub targets : AreTargets count arcs
  pub few : length arcs ≤ 16

-- the list grew by the further arguments that the bytes are
pub record Appended (before after : List Arc) (bytes : List ℕ) (count : ℕ) : Type 0 where
  pub more : List Arc
  pub grown : after ≡ before ++ more
  pub text : IsFurther bytes more
  pub targets : AreTargets count after
  pub few : length after ≤ 16
