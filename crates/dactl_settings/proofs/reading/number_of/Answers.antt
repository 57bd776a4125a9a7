use Rattle.std.proofs.Common.{◌∙◌, ap, Some, refl}
use Rattle.clap.specs.Words.{found_of}
use Rattle.clap.proofs.WalkLemmas.{first_value-rows}
use Rattle.dactl_settings.proofs.Numbers.{untrue}
use Rattle.dactl_settings.proofs.reading.number_of.Goals as goal

pub returns-in-None-clause-fits : goal.returns-in-None-clause-fits
returns-in-None-clause-fits c = rw (← (c.in-None.ensures ∙ first_value-rows (found_of c.args.matches.now) c.args.name.now)) refl

pub returns-in-None-clause-number : goal.returns-in-None-clause-number
returns-in-None-clause-number c = rw (← (c.in-None.ensures ∙ first_value-rows (found_of c.args.matches.now) c.args.name.now)) refl

pub returns-in-Some-read_number-clause-fits : goal.returns-in-Some-read_number-clause-fits
returns-in-Some-read_number-clause-fits c = rw (← (c.in-Some.ensures ∙ first_value-rows (found_of c.args.matches.now) c.args.name.now)) c.in-Some-read_number.ensures.0

pub returns-in-Some-read_number-clause-number : goal.returns-in-Some-read_number-clause-number
returns-in-Some-read_number-clause-number c = rw (← (c.in-Some.ensures ∙ first_value-rows (found_of c.args.matches.now) c.args.name.now)) (ap Some c.in-Some-read_number.ensures.1)

pub returns-in-None-read_number-clause-misfit : goal.returns-in-None-read_number-clause-misfit
returns-in-None-read_number-clause-misfit c = rw (← (c.in-Some.ensures ∙ first_value-rows (found_of c.args.matches.now) c.args.name.now)) (untrue _ c.in-None-read_number.ensures)
