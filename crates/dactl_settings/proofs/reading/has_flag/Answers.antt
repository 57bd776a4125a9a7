use Rattle.std.proofs.Common.{◌∙◌, refl}
use Rattle.clap.specs.Words.{found_of}
use Rattle.clap.proofs.WalkLemmas.{first_value-rows}
use Rattle.dactl_settings.proofs.reading.has_flag.Goals as goal

pub returns-in-None : goal.returns-in-None
returns-in-None c = rw (← (c.in-None.ensures ∙ first_value-rows (found_of c.args.matches.now) c.args.name.now)) refl

pub returns-in-Some : goal.returns-in-Some
returns-in-Some c = rw (← (c.in-Some.ensures ∙ first_value-rows (found_of c.args.matches.now) c.args.name.now)) c.eq.ensures
