use Rattle.std.proofs.Common.{◌∙◌, sym}
use Rattle.dactl_symbols.proofs.Looking.{seen-own, seen-other}
use Rattle.dactl_symbols.proofs.sight.Scopes.seen.Goals as goal

pub returns-then-same : goal.returns-then-same
returns-then-same c = c.meaning_seen.ensures ∙ seen-own c.args.self.now c.args.module c.args.meaning (sym c.same.ensures ∙ c.if-same.true)

pub returns : goal.returns
returns c = c.meaning_seen-2.ensures ∙ seen-other c.args.self.now c.args.module c.args.meaning (sym c.same.ensures ∙ c.if-same.false) c.gives-imported.result c.gives-imported.ensures
