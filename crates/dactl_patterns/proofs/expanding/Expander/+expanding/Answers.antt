use Rattle.std.proofs.Common.{◌≡◌, ℕ, ◌+◌, ◌-◌, ◌<◌, ◌≤◌, List, map, Option, Some, sym, ap, ◌∙◌, subst, arith}
use Rattle.std.specs.Prelude.{IfSome}
use Rattle.std.specs.Option.{option_copied}
use Rattle.std.proofs.lemmas.Result.{IfOk-weaker}
use Rattle.dactl_model.specs.declared.program.Pat.{Pat}
use Rattle.dactl_meaning.specs.declared.tree.PatternTree.{PatternTree}
use Rattle.dactl_meaning.specs.declared.tree.Sign.{Sign}
use Rattle.dactl_meaning.specs.Sight.{sees}
use Rattle.dactl_meaning.specs.Expansion.{at_name, at_variable, chain, join, pattern_nodes}
use Rattle.dactl_patterns.specs.declared.expanding.Small.{Small}
use Rattle.dactl_patterns.specs.Table.{IsWithin}
use Rattle.dactl_patterns.specs.Expanding.{of_tree, of_link}
use Rattle.dactl_patterns.proofs.Expansions.{expands_symbol, expands_binder, expands_chain, nodes_joined, chain_first}
use Rattle.dactl_patterns.proofs.Within.{within_as, within_bound, symbol_more, symbol_over, symbol_whole, link_more, link_over}
use Rattle.dactl_patterns.proofs.expanding.Expander.+expanding.Goals as goal

pub symbol-returns-in_default-clause-is : goal.symbol-returns-in_default-clause-is
symbol-returns-in_default-clause-is t c = λ named right.
    let l = c.loop-argument in
    let of : PatternTree → Pat = of_tree c.args.self.now named in
    symbol_over of c.args.symbol c.args.args.now l.argument-index c.argument-item.result l.pats c.args.most l.nodes c.loop-argument-test.true c.argument-item.is (l.invariant.1 named right) l.invariant.0
    (subst (IsWithin (c.args.most - l.nodes) (of c.argument-item.result)) c.in_default.is (c.in_ok-small.ensures.is named right))

pub symbol-loop-argument-preserved : goal.symbol-loop-argument-preserved
symbol-loop-argument-preserved t c =
    let l = c.loop-argument in
    let fits : c.in-Some.small.nodes ≤ c.args.most - l.nodes = subst (λ (o : Option Small). IfSome o (λ s. s.nodes ≤ c.args.most - l.nodes)) c.in-Some.is c.in_ok-small.ensures.within in
    let so_far : l.nodes ≤ c.args.most = l.invariant.0 in (
      omega arith,
      λ named right.
          symbol_more (of_tree c.args.self.now named) c.args.args.now l.argument-index c.argument-item.result l.pats c.push.new.self l.nodes c.in-Some.small c.loop-argument-test.true c.argument-item.is (l.invariant.1 named right)
          (subst (IsWithin (c.args.most - l.nodes) (of_tree c.args.self.now named c.argument-item.result)) c.in-Some.is (c.in_ok-small.ensures.is named right)) c.in_ok-push.ensures.ok,
    )

pub symbol-returns-clause-is : goal.symbol-returns-clause-is
symbol-returns-clause-is t c = λ named right.
    let l = c.loop-argument in
    symbol_whole (of_tree c.args.self.now named) c.args.symbol c.args.args.now l.argument-index l.pats l.nodes c.loop-argument-test.false (l.invariant.1 named right)

pub chain-returns-then-folded-most-clause-is : goal.chain-returns-then-folded-most-clause-is
chain-returns-then-folded-most-clause-is t c = λ named right sized.
    let of : Sign × PatternTree → Sign × Pat = of_link c.args.self.now named in
    let before = c.loop-link.invariant.1 named right sized in
    let nodes : c.loop-link.folded.nodes ≡ pattern_nodes c.loop-link.folded.pat = before.0 in
    let all : c.loop-link.folded.nodes ≡ c.args.most = c.if-folded-most.true in
    link_over of c.args.rest.now c.loop-link.link-index c.link-item.result c.loop-link.folded.pat (chain c.args.first.pat (map of c.args.rest.now)) c.loop-link-test.true c.link-item.is before.1 c.args.most (omega arith)

pub chain-returns-in_default-clause-is : goal.chain-returns-in_default-clause-is
chain-returns-in_default-clause-is t c = λ named right sized.
    let of : Sign × PatternTree → Sign × Pat = of_link c.args.self.now named in
    let before = c.loop-link.invariant.1 named right sized in
    let nodes : c.loop-link.folded.nodes ≡ pattern_nodes c.loop-link.folded.pat = before.0 in
    let over : c.args.most - c.loop-link.folded.nodes - 1 < pattern_nodes (of c.link-item.result).1 =
    subst (IsWithin (c.args.most - c.loop-link.folded.nodes - 1) (of c.link-item.result).1) c.in_default.is (c.in_ok-right.ensures.is named right) in
    link_over of c.args.rest.now c.loop-link.link-index c.link-item.result c.loop-link.folded.pat (chain c.args.first.pat (map of c.args.rest.now)) c.loop-link-test.true c.link-item.is before.1 c.args.most (omega arith)

pub chain-loop-link-preserved : goal.chain-loop-link-preserved
chain-loop-link-preserved t c =
    let rest : ℕ = c.args.most - c.loop-link.folded.nodes - 1 in
    let fits : c.in-Some.right.nodes ≤ c.args.most - c.loop-link.folded.nodes - 1 = subst (λ (o : Option Small). IfSome o (λ s. s.nodes ≤ c.args.most - c.loop-link.folded.nodes - 1)) c.in-Some.is c.in_ok-right.ensures.within in
    let so_far : c.loop-link.folded.nodes ≤ c.args.most = c.loop-link.invariant.0 in
    let sum : c.in_ok-folded.folded.nodes ≡ 1 + (c.loop-link.folded.nodes + c.in-Some.right.nodes) = c.in_ok-folded.ensures.nodes in (
      omega arith,
      λ named right sized.
          let of : Sign × PatternTree → Sign × Pat = of_link c.args.self.now named in
          let before = c.loop-link.invariant.1 named right sized in
          let nodes : c.loop-link.folded.nodes ≡ pattern_nodes c.loop-link.folded.pat = before.0 in
          let one : IsWithin rest (of c.link-item.result).1 (Some c.in-Some.right) = subst (IsWithin rest (of c.link-item.result).1) c.in-Some.is (c.in_ok-right.ensures.is named right) in
          let more : c.in-Some.right.nodes ≡ pattern_nodes c.in-Some.right.pat = one.1 ∙ ap pattern_nodes (sym one.0) in (
            omega (arith, ap pattern_nodes c.in_ok-folded.ensures.pat, nodes_joined c.link-item.result.0 c.loop-link.folded.pat c.in-Some.right.pat),
            link_more of c.args.rest.now c.loop-link.link-index c.link-item.result c.loop-link.folded.pat (chain c.args.first.pat (map of c.args.rest.now)) c.loop-link-test.true c.link-item.is before.1 c.in_ok-folded.folded.pat
                (c.in_ok-folded.ensures.pat ∙ ap (join c.link-item.result.0 c.loop-link.folded.pat) one.0),
          ),
    )

pub expand-returns-in_ok-bound-in-Some-2-clause-is : goal.expand-returns-in_ok-bound-in-Some-2-clause-is
expand-returns-in_ok-bound-in-Some-2-clause-is t c = λ named right.
    let of : PatternTree → Pat = of_tree c.args.self.now named in
    let variables = option_copied c.args.self.now.variables in
    let inner = c.in-Binder.inner in
    within_as c.args.most (at_variable variables c.in-Binder.name.text (of inner)) (of c.args.tree.now) (Some c.in_ok-bound-in-Some-2.field-0)
    (ap of c.in-Binder.is ∙ expands_binder (sees c.args.self.now.patterns.now.text.now c.args.self.now.owner) named variables c.in-Binder.name inner)
    (within_bound c.args.most variables c.in-Binder.name.text (of inner) c.in-Some-2.inner c.in_ok-bound-in-Some-2.field-0
    (subst (λ (z : PatternTree). IsWithin c.args.most (of z) (Some c.in-Some-2.inner)) c.get.ensures (subst (IsWithin c.args.most (of c.get.result.now)) c.in-Some-2.is (c.in_ok-inner-in-Binder.ensures.is named right)))
    c.in_ok-bound-in-Some-2.ensures.pat c.in_ok-bound-in-Some-2.ensures.nodes)

pub expand-returns-in-Sym-clause-is : goal.expand-returns-in-Sym-clause-is
expand-returns-in-Sym-clause-is t c =
    IfOk-weaker c.at_name.result _ _
    (λ r h named right.
    let of : PatternTree → Pat = of_tree c.args.self.now named in
    let look = sees c.args.self.now.patterns.now.text.now c.args.self.now.owner in
    within_as c.args.most (at_name named (look c.in-Sym.name.text) (map of c.as_slice.result.now)) (of c.args.tree.now) r
    (ap of c.in-Sym.is ∙ expands_symbol look named (option_copied c.args.self.now.variables) c.in-Sym.name c.in-Sym.args ∙ ap (λ (l : List PatternTree). at_name named (look c.in-Sym.name.text) (map of l)) (sym c.as_slice.ensures))
    (h named right))
    c.at_name.ensures.is

pub expand-returns-in-Some-3-clause-is : goal.expand-returns-in-Some-3-clause-is
expand-returns-in-Some-3-clause-is t c =
    IfOk-weaker c.chain.result _ _
    (λ r h named right.
    let of : PatternTree → Pat = of_tree c.args.self.now named in
    let links : Sign × PatternTree → Sign × Pat = of_link c.args.self.now named in
    let first = c.in-Chain.first in
    let one : IsWithin c.args.most (of first) (Some c.in-Some-3.first) = subst (λ (z : PatternTree). IsWithin c.args.most (of z) (Some c.in-Some-3.first)) c.get-in-Chain.ensures (subst (IsWithin c.args.most (of c.get-in-Chain.result.now)) c.in-Some-3.is (c.in_ok-first-in-Chain.ensures.is named right)) in
    within_as c.args.most (chain c.in-Some-3.first.pat (map links c.as_slice-in-Some-3.result.now)) (of c.args.tree.now) r
    (ap of c.in-Chain.is ∙ expands_chain (sees c.args.self.now.patterns.now.text.now c.args.self.now.owner) named (option_copied c.args.self.now.variables) first c.in-Chain.rest
    ∙ ap (λ (p : Pat). chain p (map links c.in-Chain.rest)) (sym one.0) ∙ ap (λ (l : List (Sign × PatternTree)). chain c.in-Some-3.first.pat (map links l)) (sym c.as_slice-in-Some-3.ensures))
    (h named right (one.1 ∙ ap pattern_nodes (sym one.0))))
    c.chain.ensures.is

pub expand-returns-in-None-3-clause-is : goal.expand-returns-in-None-3-clause-is
expand-returns-in-None-3-clause-is t c = λ named right.
    let of : PatternTree → Pat = of_tree c.args.self.now named in
    let links : Sign × PatternTree → Sign × Pat = of_link c.args.self.now named in
    let over : c.args.most < pattern_nodes (of c.in-Chain.first) = subst (λ (z : PatternTree). c.args.most < pattern_nodes (of z)) c.get-in-Chain.ensures (subst (IsWithin c.args.most (of c.get-in-Chain.result.now)) c.in-None-3.is (c.in_ok-first-in-Chain.ensures.is named right)) in
    let whole = ap of c.in-Chain.is ∙ expands_chain (sees c.args.self.now.patterns.now.text.now c.args.self.now.owner) named (option_copied c.args.self.now.variables) c.in-Chain.first c.in-Chain.rest in
    omega (arith, ap pattern_nodes whole, chain_first (of c.in-Chain.first) (map links c.in-Chain.rest))
