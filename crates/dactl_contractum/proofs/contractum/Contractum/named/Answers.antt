use Rattle.std.proofs.Common.{sym, ◌∙◌, arith, rules}
use Rattle.std.proofs.lemmas.List.{length-map}
use Rattle.dactl_contractum.specs.Drawing.{made_in, sketch_of}
use Rattle.dactl_contractum.proofs.Meanings.{denotes_old, denotes_fresh, node_some, node_none}
use Rattle.dactl_contractum.proofs.contractum.Contractum.named.Goals as goal

pub returns-in-Some : goal.returns-in-Some
returns-in-Some c = denotes_old c.args.variables.now (made_in c.args.self.now.drawing) c.args.name.now c.in-Some.number (sym c.in-Some.ensures)

pub overflow_cast-result : goal.overflow_cast-result
overflow_cast-result c =
    let f = node_some (made_in c.args.self.now.drawing) c.args.name.now c.in-Some-get.number (sym (c.requires.given c.args.name.now) ∙ sym c.in-Some-get.ensures) in
    omega (arith, f.1, length-map c.args.self.now.drawing.made.items sketch_of)

pub returns-in-Some-get : goal.returns-in-Some-get
returns-in-Some-get c =
    let f = node_some (made_in c.args.self.now.drawing) c.args.name.now c.in-Some-get.number (sym (c.requires.given c.args.name.now) ∙ sym c.in-Some-get.ensures) in
    denotes_fresh c.args.variables.now (made_in c.args.self.now.drawing) c.args.name.now c.in-Some-get.number (sym c.small_number.ensures ∙ c.in_default.is) f.0

pub returns-in-None : goal.returns-in-None
returns-in-None c =
    let f = node_none (made_in c.args.self.now.drawing) c.args.name.now (sym (c.requires.given c.args.name.now) ∙ sym c.in-None.ensures) in
    denotes_fresh c.args.variables.now (made_in c.args.self.now.drawing) c.args.name.now c.len.result (sym c.small_number.ensures ∙ c.in_default.is) (f ∙ length-map c.args.self.now.drawing.made.items sketch_of ∙ search rules)
