use Rattle.std.proofs.Common.{length, map, sym, ap, ◌∙◌}
use Rattle.std.proofs.lemmas.List.{length-map}
use Rattle.dactl_meaning.specs.Contractum.{Drawn, term_of_part, terms_draw}
use Rattle.dactl_contractum.specs.Drawing.{target_of, made_in}
use Rattle.dactl_contractum.proofs.Meanings.{all_moves, drawn_lengths}
use Rattle.dactl_contractum.proofs.contractum.Contractum.moves.Goals as goal

pub push_moves-requires-clause-parts : goal.push_moves-requires-clause-parts
push_moves-requires-clause-parts c =
    sym (length-map c.args.parts.now term_of_part) ∙ sym (drawn_lengths 0 (map term_of_part c.args.parts.now)) ∙ sym (length-map (terms_draw 0 (map term_of_part c.args.parts.now)) (λ (d : Drawn). d.target))
    ∙ ap length (sym c.requires.drawn.stand) ∙ length-map c.args.self.now.targets.items target_of

pub returns : goal.returns
returns c =
    c.from_vec.ensures
    ∙ all_moves c.args.variables.now (made_in c.args.self.now.drawing) c.args.redirects c.args.parts.now (map target_of c.args.self.now.targets.items) c.in_ok-moves.moves.items c.push_moves.new.moves.items
    c.requires.drawn.made c.requires.drawn.stand c.in_ok-moves.ensures c.in_ok-push_moves.ensures
