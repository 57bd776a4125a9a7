use Rattle.std.proofs.Common.{◌≡◌, ◌∙◌, ap, ap₂}
use Rattle.std.proofs.lemmas.Result.{IfOk-weaker}
use Rattle.clap.specs.Simple.{app_of_fields}
use Rattle.clap.specs.Words.{App, app_of, with_rule}
use Rattle.std.specs.Prelude.{true}
use Rattle.dactl_settings.specs.Command.{bare}
use Rattle.dactl_settings.proofs.command.command.Goals as goal

abbrev without_help : App → App
without_help app = record app { top = record app.top { disable_help_flag = true } }

pub returns : goal.returns
returns c =
    let is_bare : app_of c.disable_help_flag.result ≡ bare = ap app_of_fields c.disable_help_flag.ensures ∙ ap without_help c.new.ensures.app in
    let one = c.in_ok-arg.ensures.shape c.option.ensures.local ∙ ap₂ with_rule is_bare c.option.ensures.rule in
    let two = c.in_ok-arg-2.ensures.shape c.option-2.ensures.local ∙ ap₂ with_rule one c.option-2.ensures.rule in
    let three = c.in_ok-arg-3.ensures.shape c.option-3.ensures.local ∙ ap₂ with_rule two c.option-3.ensures.rule in
    let four = c.in_ok-arg-4.ensures.shape c.option-4.ensures.local ∙ ap₂ with_rule three c.option-4.ensures.rule in
    let five = c.in_ok-arg-5.ensures.shape c.flag.ensures.local ∙ ap₂ with_rule four c.flag.ensures.rule in
    let six = c.in_ok-arg-6.ensures.shape c.flag-2.ensures.local ∙ ap₂ with_rule five c.flag-2.ensures.rule in
    let seven = c.in_ok-arg-7.ensures.shape c.flag-3.ensures.local ∙ ap₂ with_rule six c.flag-3.ensures.rule in
    let eight = c.in_ok-arg-8.ensures.shape c.flag-4.ensures.local ∙ ap₂ with_rule seven c.flag-4.ensures.rule in
    let nine = c.in_ok-arg-9.ensures.shape c.flag-5.ensures.local ∙ ap₂ with_rule eight c.flag-5.ensures.rule in
    IfOk-weaker c.arg-10.result _ _ (λ made adds. adds.shape c.flag-6.ensures.local ∙ ap₂ with_rule nine c.flag-6.ensures.rule) c.arg-10.ensures
