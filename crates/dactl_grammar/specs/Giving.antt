-- A function of the code gives what its reader gives, unless memory is wanting.
use Rattle.std.specs.Prelude.{◌≡◌, Result, Ok, Err}
use Rattle.dactl_grammar.specs.declared.fault.Fault.{Fault}
use Rattle.dactl_grammar.specs.declared.fault.ReadError.{ReadError}
use Rattle.dactl_grammar.specs.declared.fault.ReadError.TheVariants as errors

-- the error is that of the reader, or want of memory
abbrev pub Fails : {Y : Type 0} → ReadError → Result Y Fault → Type 0
Fails errors.Memory read = Unit {0}
Fails (errors.Fault f) read = read ≡ Err f

-- the value, seen as the reader sees it, is what the reader gives
abbrev pub Gives : {X Y : Type 0} → (X → Y) → Result X ReadError → Result Y Fault → Type 0
Gives view (Ok x) read = read ≡ Ok (view x)
Gives view (Err e) read = Fails e read
