-- How the errors of `clap` are told.
use Rattle.clap.specs.declared.error.kind.ErrorKind.{ErrorKind}
use Rattle.clap.specs.declared.error.kind.ErrorKind.TheVariants.{OutOfMemory}
use Rattle.dactl_settings.specs.declared.fault.UsageFault.{UsageFault}
use Rattle.dactl_settings.specs.declared.fault.UsageFault.TheVariants.{Words, Memory}

-- the fault that an error of that kind is: want of memory, or words that the command does not take
abbrev pub fault_by : ErrorKind → UsageFault
fault_by OutOfMemory = Memory
fault_by _ = Words
