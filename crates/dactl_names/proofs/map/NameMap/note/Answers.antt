use Rattle.std.proofs.Common.{◌≡◌, IfOk, is_none, refl, subst, ap, sym, ◌∙◌}
use Rattle.std.proofs.lemmas.Result.{on_ok_weaker}
use Rattle.dactl_names.specs.Found.{found_short}
use Rattle.dactl_names.proofs.Numbers.{short_is}
use Rattle.dactl_names.proofs.Finding.{found-short, notes-short}
use Rattle.dactl_names.proofs.map.NameMap.note.Goals as goal

pub returns-then-name-le-SHORT-clause-new : goal.returns-then-name-le-SHORT-clause-new
returns-then-name-le-SHORT-clause-new g c =
    subst (λ o. IfOk c.note_short.result (λ is_new. is_new ≡ is_none o))
    (ap (found_short c.args.self.now.short) c.packed.ensures.number ∙ sym (found-short c.args.self.now c.args.name.now (short_is c.args.name.now c.if-name-le-SHORT.true c.packed.ensures.bytes)))
    c.note_short.ensures.new

pub returns-then-name-le-SHORT-clause-after : goal.returns-then-name-le-SHORT-clause-after
returns-then-name-le-SHORT-clause-after g c =
    on_ok_weaker c.note_short.result
    (notes-short c.args.self.now (record { short = c.note_short.new.short; long = c.args.self.now.long }) c.args.name.now c.packed.result c.args.value
    (short_is c.args.name.now c.if-name-le-SHORT.true c.packed.ensures.bytes) c.packed.ensures.number refl)
    c.note_short.ensures.after
