use Rattle.std.proofs.Common.{map, set, ap, ◌∙◌}
use Rattle.std.proofs.lemmas.List.{map-set}
use Rattle.dactl_arcs.specs.Tables.{link_of}
use Rattle.dactl_arcs.proofs.link.LinkTable.set.Goals as goal

pub returns : goal.returns
returns c =
    let codes = c.self.inside.codes in
    ap (map link_of) c.set.ensures ∙ map-set link_of codes c.args.place c.encoded.result
    ∙ ap (set (map link_of codes) c.args.place) c.encoded.ensures ∙ ap (λ links. set links c.args.place c.args.link) c.self.view_is
