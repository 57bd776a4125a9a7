use Rattle.std.proofs.Common.{List, sym, ap, ◌∙◌, subst, map, take}
use Rattle.dactl_meaning.specs.Declarations.{Declaration}
use Rattle.dactl_symbols.specs.Declaring.{declaration_of}
use Rattle.dactl_symbols.specs.Meanings.{AreNames, Adds, first_with, found_in, symbol_count, count_with}
use Rattle.dactl_symbols.proofs.NameSteps.{names-more, symbols-more}
use Rattle.dactl_symbols.proofs.Walks.{mapped-more}
use Rattle.dactl_symbols.proofs.names.Names.new.Goals as goal

pub loop-one-preserved : goal.loop-one-preserved
loop-one-preserved c =
    let ds : List Declaration = map declaration_of (take c.loop-one.one-index c.deref-one-items.result.now) in
    let d : Declaration = declaration_of c.one-item.result in
    let more = sym (mapped-more declaration_of c.deref-one-items.result.now c.loop-one.one-index c.one-item.result c.loop-one-test.true c.one-item.is) in
    let adds = subst (λ n. Adds (found_in c.loop-one.first) (found_in c.note.new.first) d.name.text (first_with d n)) c.loop-one.invariant.count c.in_ok-repeated.ensures.added in
    record {
      names = subst (λ l. AreNames l (found_in c.note.new.first) c.lesser-again.result) more (subst (AreNames _ (found_in c.note.new.first)) (sym c.lesser-again.ensures) (names-more ds d (found_in c.loop-one.first) (found_in c.note.new.first) c.loop-one.again c.in_ok-repeated.repeated c.loop-one.invariant.names c.in_ok-repeated.ensures.fault adds));
      count = c.counted-symbols.ensures ∙ ap (λ n. count_with n d.entity) c.loop-one.invariant.count ∙ sym (symbols-more ds d) ∙ ap symbol_count more;
    }
