use Rattle.std.proofs.Common.{List, ap, ◌∙◌, map}
use Rattle.std.specs.List.{filter_map}
use Rattle.std.proofs.lemmas.List.{take_all}
use Rattle.dactl_meaning.specs.Declarations.{Declaration, entity_symbol}
use Rattle.dactl_symbols.specs.Declaring.{declaration_of}
use Rattle.dactl_symbols.specs.Scoping.{symbols_in}
use Rattle.dactl_symbols.proofs.Walks.{picked_same-more}
use Rattle.dactl_symbols.proofs.sight.Scopes.symbols.Goals as goal

pub loop-declared-preserved : goal.loop-declared-preserved
loop-declared-preserved c = picked_same-more (λ d. entity_symbol d.name.text d.entity) declaration_of c.declared-declared-items.result.now c.loop-declared.declared-index c.declared-item.result c.loop-declared.symbols.items c.push_some.new.items.items c.in_ok-symbol_of.field-0 c.loop-declared-test.true c.declared-item.is c.loop-declared.invariant c.in_ok-push_some.ensures c.in_ok-symbol_of.ensures

pub returns : goal.returns
unfolding symbols_in
returns c =
    c.from_vec.ensures ∙ c.loop-declared.invariant
    ∙ ap (λ l. filter_map (λ d. entity_symbol d.name.text d.entity) (map declaration_of l)) (take_all c.loop-declared.declared-index c.declared-declared-items.result.now c.loop-declared-test.false)
    ∙ ap (λ (ds : List Declaration). filter_map (λ d. entity_symbol d.name.text d.entity) ds) c.declared-declared-items.ensures
    ∙ ap symbols_in c.self.view_is
