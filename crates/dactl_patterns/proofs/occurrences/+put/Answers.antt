use Rattle.std.proofs.Common.{◌≡◌, Bool, true, ◌||◌, sym, ap, ◌∙◌}
use Rattle.std.proofs.lemmas.Result.{on_ok_weaker}
use Rattle.dactl_meaning.specs.declared.tree.PatternTree.{PatternTree}
use Rattle.dactl_meaning.specs.declared.tree.Sign.{Sign}
use Rattle.dactl_meaning.specs.Expansion.{has_plus, occurrences_in}
use Rattle.dactl_meaning.specs.RuleFaults.{widths}
use Rattle.dactl_patterns.proofs.Layers.{puts_symbol, puts_binder, puts_chain, puts_more}
use Rattle.dactl_patterns.proofs.occurrences.+put.Goals as goal
use Rattle.dactl_patterns.proofs.occurrences.+put.Goals.{put-then-choice, put-else-choice}

pub put-returns-in_ok-put_use-in-Sym : goal.put-returns-in_ok-put_use-in-Sym
put-returns-in_ok-put_use-in-Sym t c =
    on_ok_weaker c.put_arguments.result
    (puts_symbol c.args.choice c.args.found.now c.put_use.new.found c.put_arguments.new.found c.args.tree.now c.in-Sym.name c.in-Sym.args c.as_slice-args.result.now c.in-Sym.is c.as_slice-args.ensures c.in_ok-put_use-in-Sym.ensures)
    c.put_arguments.ensures

pub put-returns-in_ok-put_place-in-Binder : goal.put-returns-in_ok-put_place-in-Binder
put-returns-in_ok-put_place-in-Binder t c =
    on_ok_weaker c.put.result
    (puts_binder c.args.choice c.args.found.now c.put_place-in-Binder.new.found c.put.new.found c.args.tree.now c.in-Binder.name c.in-Binder.inner c.get.result.now c.in-Binder.is c.get.ensures c.in_ok-put_place-in-Binder.ensures)
    c.put.ensures

pub put-returns-in_ok-put-in-Chain : goal.put-returns-in_ok-put-in-Chain
put-returns-in_ok-put-in-Chain t c =
    let rest = c.in-Chain.rest in
    let side : c.if-choice.put ≡ (c.args.choice || has_plus rest) =
    elim c.if-choice.branch [
      | put-then-choice w ↦ w.put-is ∙ w.if-choice.true ∙ ap (λ (b : Bool). b || has_plus rest) (sym w.if-choice.true)
      | put-else-choice w ↦ w.put-is ∙ w.has_plus.ensures ∙ ap has_plus w.as_slice.ensures ∙ ap (λ (b : Bool). b || has_plus rest) (sym w.if-choice.false)
    ] in
    on_ok_weaker c.put_links.result
    (puts_chain c.args.choice c.args.found.now c.put-in-Chain.new.found c.put_links.new.found c.args.tree.now c.in-Chain.first c.get-in-Chain.result.now rest c.as_slice-in-Chain.result.now c.if-choice.put
    c.in-Chain.is c.get-in-Chain.ensures c.as_slice-in-Chain.ensures side c.in_ok-put-in-Chain.ensures)
    c.put_links.ensures

pub put_arguments-loop-argument-preserved : goal.put_arguments-loop-argument-preserved
put_arguments-loop-argument-preserved t c =
    puts_more (λ (a : PatternTree). occurrences_in a c.args.choice) widths c.args.found.now c.loop-argument.found c.put.new.found c.args.args.now c.loop-argument.argument-index c.argument-item.result
    c.loop-argument-test.true c.argument-item.is c.loop-argument.invariant c.in_ok-put.ensures

pub put_links-loop-link-preserved : goal.put_links-loop-link-preserved
put_links-loop-link-preserved t c =
    puts_more (λ (l : Sign × PatternTree). occurrences_in l.1 true) (λ (l : Sign × PatternTree). widths l.1) c.args.found.now c.loop-link.found c.put.new.found c.args.rest.now c.loop-link.link-index c.link-item.result
    c.loop-link-test.true c.link-item.is c.loop-link.invariant c.in_ok-put.ensures
