use Rattle.std.proofs.Common.{ap, sym, ◌∙◌}
use Rattle.dactl_names.specs.Found.{found_short}
use Rattle.dactl_names.proofs.Numbers.{short_is}
use Rattle.dactl_names.proofs.Finding.{found-short}
use Rattle.dactl_names.proofs.map.NameMap.get.Goals as goal

pub returns-then-name-le-SHORT : goal.returns-then-name-le-SHORT
returns-then-name-le-SHORT g c =
    c.copied.ensures ∙ c.get.ensures.value ∙ ap (found_short c.args.self.now.short) c.packed.ensures.number
    ∙ sym (found-short c.args.self.now c.args.name.now (short_is c.args.name.now c.if-name-le-SHORT.true c.packed.ensures.bytes))
