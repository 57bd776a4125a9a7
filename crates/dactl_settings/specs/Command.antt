-- The command, as `clap` reads it.
use Rattle.std.specs.Prelude.{ℕ, List, [], ◌∷◌, ◌++◌, Some, true, codes, fold, map}
use Rattle.clap.specs.Words.{App, Rule, Text, new_app, new_rule, with_rule}
use Rattle.clap.specs.declared.builder.ArgAction.TheVariants.{Set, SetTrue}

-- an option of that name, which takes one text
abbrev pub option : Text → Rule
option name = record (new_rule name) { long = Some name; action = Some Set }

-- a flag of that name
abbrev pub flag : Text → Rule
flag name = record (new_rule name) { long = Some name; action = Some SetTrue }

-- the names of the options, each with the greatest number that it takes
abbrev pub options : List (Text × ℕ)
options = (codes "workers", 16) ∷ (codes "budget", 4000000) ∷ (codes "nodes", 2000000) ∷ (codes "sample", 20000) ∷ []

-- the names of the flags
abbrev pub flags : List Text
flags = codes "trace" ∷ codes "check" ∷ codes "verify" ∷ codes "resume" ∷ codes "fun" ∷ codes "steal" ∷ []

-- a command that takes no words, not even `--help`
abbrev pub bare : App
bare = let new = new_app (codes "dactl") in record new { top = record new.top { disable_help_flag = true } }

-- the command: the bare one with the options and the flags
abbrev pub command : App
command = fold with_rule bare (map (λ named. option named.0) options ++ map flag flags)
