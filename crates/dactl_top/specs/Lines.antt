-- The exit code of each answer, and the lines that tell numbers.
use Rattle.std.specs.Prelude.{ℕ, List, codes, ◌++◌, decimal}
use Rattle.dactl_base.specs.declared.refusal.Kind.{Kind}
use Rattle.dactl_base.specs.declared.refusal.Kind.TheVariants as kinds
use Rattle.dactl_base.specs.declared.refusal.Refusal.{Refusal}
use Rattle.dactl_model.specs.declared.graph.Room.{Room}
use Rattle.dactl_verify.specs.declared.verdict.Verdict.{Verdict}
use Rattle.dactl_verify.specs.declared.verdict.Verdict.TheVariants as verdicts
use Rattle.dactl_top.specs.declared.status.Status.{Status}
use Rattle.dactl_top.specs.declared.status.Status.TheVariants.{Normal, Checked, Budget, Usage, Refused, Full, ReadFault, WriteFault, Memory, TooLong, Small, Verified, Invalid, NoPart, BadGraph, NoRoom}

-- what the process ends with
abbrev pub code_of : Status → ℕ
code_of Normal = 0
code_of Checked = 0
code_of Budget = 1
code_of Usage = 2
code_of Refused = 3
code_of Full = 4
code_of ReadFault = 5
code_of WriteFault = 6
code_of Memory = 7
code_of TooLong = 8
code_of Small = 9
code_of Verified = 0
code_of Invalid = 11
code_of NoPart = 12
code_of BadGraph = 13
code_of NoRoom = 14

-- the line that tells what the first graph needs
abbrev pub small_line : Room → List ℕ
small_line needed = codes "small " ++ decimal needed.nodes ++ codes " " ++ decimal needed.arcs ++ codes "\n"

-- the line of a word and a number
abbrev pub number_line : List ℕ → ℕ → List ℕ
number_line word number = word ++ decimal number ++ codes "\n"

-- the line that tells which line of a printed graph is bad
abbrev pub bad_graph_line : ℕ → List ℕ
bad_graph_line line = number_line (codes "bad graph ") line

-- the line that tells what the check of a trace found, after so many entries
abbrev pub verdict_line : Verdict → ℕ → List ℕ
verdict_line verdicts.Valid entries = number_line (codes "valid ") entries
verdict_line (verdicts.Wrong line) entries = number_line (codes "invalid ") line
verdict_line (verdicts.Full line node rule needed left) entries = number_line (codes "no room ") entries
verdict_line (verdicts.Small needed left) entries = small_line needed

-- the name of a kind of fault
abbrev pub kind_name : Kind → List ℕ
kind_name kinds.BadByte = codes "BadByte"
kind_name kinds.NumberTooWide = codes "NumberTooWide"
kind_name kinds.Unexpected = codes "Unexpected"
kind_name kinds.TooDeep = codes "TooDeep"
kind_name kinds.TwiceDeclared = codes "TwiceDeclared"
kind_name kinds.UnknownModule = codes "UnknownModule"
kind_name kinds.UnknownName = codes "UnknownName"
kind_name kinds.NotVisible = codes "NotVisible"
kind_name kinds.PublicTooStrong = codes "PublicTooStrong"
kind_name kinds.NoInitial = codes "NoInitial"
kind_name kinds.TwoInitials = codes "TwoInitials"
kind_name kinds.TooMany = codes "TooMany"
kind_name kinds.PatternCycle = codes "PatternCycle"
kind_name kinds.RootNotRewritable = codes "RootNotRewritable"
kind_name kinds.BinderInChoice = codes "BinderInChoice"
kind_name kinds.TooWide = codes "TooWide"
kind_name kinds.Unbound = codes "Unbound"
kind_name kinds.NamedTwice = codes "NamedTwice"
kind_name kinds.RedirectedTwice = codes "RedirectedTwice"
kind_name kinds.NotOverwritable = codes "NotOverwritable"
kind_name kinds.NotCreatable = codes "NotCreatable"
kind_name kinds.MarkOnBound = codes "MarkOnBound"
kind_name kinds.TooManyWaits = codes "TooManyWaits"
kind_name kinds.NotAConstructor = codes "NotAConstructor"
kind_name kinds.WrongArity = codes "WrongArity"

-- the line that tells why a text is refused, and at which byte
abbrev pub refused_line : Refusal → List ℕ
refused_line r = codes "refused " ++ kind_name r.kind ++ codes " " ++ decimal r.place.byte ++ codes "\n"
