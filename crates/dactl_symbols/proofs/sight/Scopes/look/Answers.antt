use Rattle.std.proofs.Common.{ap, ◌∙◌}
use Rattle.std.specs.Prelude.{option_map}
use Rattle.dactl_symbols.specs.Meanings.{meaning_in}
use Rattle.dactl_symbols.specs.Scoping.{told}
use Rattle.dactl_symbols.proofs.Looking.{seen-by}
use Rattle.dactl_symbols.proofs.sight.Scopes.look.Goals as goal

pub returns-in_err-meaning : goal.returns-in_err-meaning
returns-in_err-meaning c = ap (option_map told) c.from_residual.ensures ∙ seen-by c.args.self.now c.args.module c.args.name.now _ (c.in_err-meaning.ensures ∙ ap (λ v. meaning_in v.names c.args.name.now) c.self.view_is)

pub returns : goal.returns
returns c = c.seen.ensures ∙ seen-by c.args.self.now c.args.module c.args.name.now _ (c.in_ok-meaning.ensures ∙ ap (λ v. meaning_in v.names c.args.name.now) c.self.view_is)
