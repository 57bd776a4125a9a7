use Rattle.std.proofs.Common.{ℕ, List, [], ◌∷◌, ◌++◌, map, take, ap, sym, ◌∙◌, subst, arith}
use Rattle.std.proofs.lemmas.List.{map_more, length-map, length-take-le}
use Rattle.dactl_model.specs.declared.program.Symbol.{Symbol}
use Rattle.dactl_resume.specs.Found.{found_in, ArePlaces}
use Rattle.dactl_resume.proofs.Entries.{places_more}
use Rattle.dactl_resume.proofs.names.Names.new.Goals as goal

pub loop-number-preserved : goal.loop-number-preserved
loop-number-preserved c =
    let symbols : List Symbol = c.as_slice-symbols.result.now in
    let k : ℕ = c.loop-number.number in
    let one : Symbol = c.index-symbols-number.result in
    let names : List (List ℕ) = map (λ (s : Symbol). s.name) (take c.loop-number.number c.as_slice-symbols.result.now) in
    let more = map_more (λ (s : Symbol). s.name) symbols k one c.loop-number-test.true ∙ ap (λ (s : Symbol). map (λ (s : Symbol). s.name) (take k symbols) ++ s.name ∷ []) (sym c.index-symbols-number.is) in
    let long = length-map (take k symbols) (λ (s : Symbol). s.name) ∙ length-take-le k symbols (omega arith) in
    subst (λ (ns : List (List ℕ)). ArePlaces ns (found_in c.insert.new.self)) (sym more)
    (places_more c.loop-number.places c.insert.new.self c.in_ok-key.key c.loop-number.number c.in_ok-insert.ensures.updates names one.name (c.in_ok-key.ensures.items ∙ c.as_slice.ensures) (sym long) c.loop-number.invariant)
