use Rattle.std.proofs.Common.{◌∙◌, List, ap, subst, sym, inl, map}
use Rattle.std.specs.String.{string_bytes}
use Rattle.clap.specs.Words.{App, HasKind, Text, fault_of, is_simple, is_simple_and_free, matches_of}
use Rattle.dactl_settings.proofs.Limits.{answered}
use Rattle.dactl_settings.proofs.Parses.{command_is_free, command_is_simple, refused, taken}
use Rattle.dactl_settings.proofs.reading.read_settings.Goals as goal

pub returns-in_err-matches : goal.returns-in_err-matches
returns-in_err-matches c =
    let words : List Text = map string_bytes c.args.words.now in
    let is = c.in_ok-command.ensures in
    let e = c.in_err-matches.field-0.0 in
    let has = c.in_err-matches.ensures.kinds (ap is_simple_and_free is ∙ command_is_free) in
    let answer = refused words e c.from_residual-in_err-matches.result (subst (λ (app : App). HasKind (fault_of app words) e) is has) c.from_residual-in_err-matches.ensures.1 in
    record { settings = answer; limits = answered words c.from_residual-in_err-matches.result answer }

pub returns : goal.returns
returns c =
    let words : List Text = map string_bytes c.args.words.now in
    let is = c.in_ok-command.ensures in
    let none = c.in_ok-matches.ensures.kinds (ap is_simple_and_free is ∙ command_is_free) in
    let rows = (c.in_ok-matches.ensures.matches (ap is_simple is ∙ command_is_simple)).0 in
    let settled = c.settings_in.ensures ∙ taken words _ (ap (λ (app : App). fault_of app words) (sym is) ∙ none) (rows ∙ ap (λ (app : App). matches_of app words) is) in
    record { settings = inl settled; limits = answered words c.settings_in.result (inl settled) }
