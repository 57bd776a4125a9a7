use Rattle.std.proofs.Common.{◌≡◌, ℕ, List, [], ◌++◌, Bool, true, false, if◌then◌else◌, ap, sym, ◌∙◌}
use Rattle.std.proofs.lemmas.List.{append-nil}
use Rattle.dactl_meaning.specs.declared.tree.PatternTree.{PatternTree}
use Rattle.dactl_meaning.specs.Expansion.{root_names, has_plus}
use Rattle.dactl_rules.proofs.RootNames.{root_chain}
use Rattle.dactl_rules.proofs.roots.+root_names.Goals as goal

pub returns-in_ok-root_names-in-Chain : goal.returns-in_ok-root_names-in-Chain
returns-in_ok-root_names-in-Chain t c =
    let plus : has_plus c.in-Chain.rest ≡ false = ap (has_plus {A = PatternTree}) (sym c.as_slice-in-Chain.ensures) ∙ sym c.has_plus.ensures ∙ c.if-not-has_plus.true in
    c.in_ok-root_names-in-Chain.ensures ∙ ap (λ (z : PatternTree). c.args.names.now ++ root_names z) c.get-then-not-has_plus.ensures
    ∙ ap (λ (z : List (List ℕ)). c.args.names.now ++ z)
    (sym (ap root_names c.in-Chain.is ∙ root_chain c.in-Chain.first c.in-Chain.rest ∙ ap (λ (b : Bool). if b then [] else root_names c.in-Chain.first) plus))

pub returns-else-not-has_plus : goal.returns-else-not-has_plus
returns-else-not-has_plus t c =
    let plus : has_plus c.in-Chain.rest ≡ true = ap (has_plus {A = PatternTree}) (sym c.as_slice-in-Chain.ensures) ∙ sym c.has_plus.ensures ∙ c.if-not-has_plus.false in
    sym (append-nil c.args.names.now)
    ∙ ap (λ (z : List (List ℕ)). c.args.names.now ++ z)
    (sym (ap root_names c.in-Chain.is ∙ root_chain c.in-Chain.first c.in-Chain.rest ∙ ap (λ (b : Bool). if b then [] else root_names c.in-Chain.first) plus))
