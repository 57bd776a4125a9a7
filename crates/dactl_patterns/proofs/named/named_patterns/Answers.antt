use Rattle.std.proofs.Common.{◌≡◌, length, sym, ap, ◌∙◌, arith}
use Rattle.std.specs.Borrow.{Bor}
use Rattle.dactl_meaning.specs.declared.tree.Text.{Text}
use Rattle.dactl_meaning.specs.Expansion.{named_count}
use Rattle.dactl_patterns.proofs.named.named_patterns.Goals as goal

pub returns-clause-named : goal.returns-clause-named
returns-clause-named c =
    let patterns = c.in_ok-entered.field-0 in
    let same : length c.as_slice.result.now ≡ named_count patterns.text.now = c.as_slice.ensures.len ∙ c.in_ok-order.ensures.count ∙ ap (λ (t : Bor Text). named_count t.now) (sym c.in_ok-entered.ensures.text) in
    record {
      scopes = rw (c.in_ok-entered.ensures.text, c.in_ok-entered.ensures.scopes) c.requires;
      right = c.in_ok-entered.ensures.right (named_count patterns.text.now) (omega arith);
    }
