-- Runs of a text of equations show the values that these give.
use Rattle.std.proofs.Common.{◌≡◌, refl, subst}
use Rattle.dactl_model.specs.declared.program.Program.{Program}
use Rattle.dactl_model.specs.Firing.{start_of}
use Rattle.dactl_model.specs.Steps.{Reduction}
use Rattle.fun_meaning.specs.Meaning.{symbol_names, Unfolds}
use Rattle.fun_laws.specs.Statements.{program_for}
use Rattle.fun_laws.proofs.Valid.{values_are_meant}
use Rattle.fun_reading.proofs.Sound.{faultless_are_sound}
use Rattle.fun_reading.proofs.Small.{faultless_are_small}
use Rattle.fun_reading.proofs.Spelt.{read_are_spelt}
use Rattle.fun_reading.proofs.Light.{read_are_light}
use Rattle.fun_program.specs.Values.{RunsShowValues}

pub runs_show_values : RunsShowValues
runs_show_values bytes p journal g short means run e v reads unfolds =
    let same : p ≡ program_for e = means.only (program_for e) (record { equations = e; reads = reads; program = refl }) in
    values_are_meant e journal g v
    (faultless_are_sound e reads.faultless) (faultless_are_small e reads.faultless) (read_are_spelt bytes e reads.reads) (read_are_light bytes e short reads.reads)
    (subst (λ (q : Program). Reduction q (start_of q.start) journal g) same run)
    (subst (λ (q : Program). Unfolds e (symbol_names q) g g.root v) same unfolds)
