-- What the root of the last graph shows after a run of a text of equations.
use Rattle.std.proofs.Common.{◌≡◌, ℕ, ◌≤◌, List, length, Some, None, IfOk, IfSome, true, false, refl, sym, subst, inl}
use Rattle.std.specs.declared.option.Option.{Option}
use Rattle.dactl_model.specs.declared.graph.Entry.{Entry}
use Rattle.dactl_model.specs.declared.graph.Graph.{Graph}
use Rattle.dactl_model.specs.declared.program.Program.{Program}
use Rattle.dactl_model.specs.Firing.{start_of}
use Rattle.dactl_model.specs.Steps.{Reduction}
use Rattle.dactl_sample.proofs.Lengths.{sample_short}
use Rattle.dactl_settings.specs.declared.settings.Settings.{Settings}
use Rattle.dactl_settings.specs.Limits.{IsUpTo, IsWithinLimits}
use Rattle.dactl_settings.specs.Reading.{settings_of}
use Rattle.dactl_settings.proofs.Limits as limits
use Rattle.fun_program.specs.Compiling as equations
use Rattle.fun_program.specs.Values.{ShowsValues}
use Rattle.fun_program.proofs.Values.{runs_show_values}
use Rattle.dactl_top.specs.Compiling.{MeansBy}
use Rattle.dactl_top.specs.Given.{Given, HasSettings, IsText}
use Rattle.dactl_top.specs.Input.{longest}
use Rattle.dactl_top.specs.Parts.{IsStarted, Runs}
use Rattle.dactl_top.proofs.Parts.{whole_text}

sampled_short : (g : Given) (sample : Option ℕ) → IfSome sample (IsUpTo 20000) → IsText g sample → length g.text ≤ longest
sampled_short g None few text = text.fits
sampled_short g (Some count) few text = sample_short count g.text text.0 few.0 few.1

-- a text that is there whole is not too long
pub text_short : (g : Given) (s : Settings) → HasSettings g s → IsText g s.sample → length g.text ≤ longest
text_short g s has text =
    let within : IsWithinLimits s = subst (λ r. IfOk r IsWithinLimits) has.words (limits.answered g.words (settings_of g.words) (inl refl)) in
    sampled_short g s.sample within.sample text

-- without a marker the whole input is the text, and its program is the one that runs
pub shows_values : (s : Settings) (input : List ℕ) (p : Program) (journal : List Entry) (g : Graph) → length input ≤ longest → s.verify ≡ false → Runs (MeansBy s.fun) s input p → Reduction p (start_of p.start) journal g → s.fun ≡ true → s.resume ≡ false
    → ShowsValues input p g
shows_values s input p journal g short unasked runs leads fun fresh =
    let text : runs.part.text ≡ input = whole_text s input runs.part.text runs.rest unasked fresh runs.part.parted in
    let same : p ≡ runs.meant = subst (λ b. IsStarted b runs.meant runs.rest p) fresh runs.started in
    let means : equations.MeansProgram runs.part.text runs.meant = subst (λ b. MeansBy b runs.part.text runs.meant) fun runs.part.says in
    let own : equations.MeansProgram input p = subst (λ (z : List ℕ × Program). equations.MeansProgram z.0 z.1) (λ i. (text i, sym same i)) means in
    runs_show_values input p journal g short own leads
