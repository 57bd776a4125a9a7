use Rattle.std.proofs.Common.{sym, ◌∙◌}
use Rattle.fun_syntax.proofs.Entries.{found-added, found-kept}
use Rattle.fun_syntax.specs.Words.{found_in}
use Rattle.fun_syntax.proofs.words.enter.Goals as goal

pub returns-clause-added : goal.returns-clause-added
returns-clause-added g c =
    found-added c.args.words.now c.insert.new.self c.in_ok-key.key c.args.value c.in_ok-insert.ensures.updates c.args.word.now c.in_ok-key.ensures.items (sym c.contains_key.ensures ∙ c.if-contains_key.false)

pub returns-then-contains_key-clause-added : goal.returns-then-contains_key-clause-added
returns-then-contains_key-clause-added g c = found-kept (found_in c.args.words.now) c.args.word.now c.args.value (sym c.contains_key.ensures ∙ c.if-contains_key.true)
