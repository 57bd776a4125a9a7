-- The program of a tree without faults is valid.
use Rattle.dactl_model.specs.Programs.{IsValid}
use Rattle.dactl_meaning.specs.declared.tree.Text.{Text}
use Rattle.dactl_meaning.specs.Faults.{NoFault}
use Rattle.dactl_meaning.specs.Meaning.{program_of, TreeFault}
use Rattle.dactl_meaning.specs.Spelling.{IsSpelled}
use Rattle.dactl_validity.specs.Counting.{IsCountable}

-- the program of a tree without faults is valid
abbrev pub IsValidWithoutFaults : Type 0
IsValidWithoutFaults = (text : Text) → IsSpelled text → IsCountable text → NoFault (TreeFault text) → IsValid (program_of text)
