use Rattle.std.proofs.Common.{◌≡◌, ℕ, Bool, not, List, [], ◌++◌, map, ap, sym, ◌∙◌, if◌then◌else◌}
use Rattle.std.specs.List.{filter, flat_map}
use Rattle.std.specs.Borrow.{Bor}
use Rattle.dactl_base.specs.declared.refusal.Kind.TheVariants as kinds
use Rattle.dactl_base.specs.declared.refusal.Refusal.{Refusal}
use Rattle.dactl_meaning.specs.declared.tree.Name.{Name}
use Rattle.dactl_meaning.specs.Expansion.{is_among}
use Rattle.dactl_meaning.specs.RuleFaults.{each_at, again, place_of, head_is, is_class}
use Rattle.dactl_contractum.specs.Lefts.{words, left_unbound}
use Rattle.dactl_contractum.specs.Told.{fault_at, drawn_faults}
use Rattle.dactl_contractum.specs.Drawing.{made_in, mentioned_in}
use Rattle.dactl_symbols.specs.Scoping.{seen_in, class_in}
use Rattle.dactl_model.specs.declared.program.Class.TheVariants as classes
use Rattle.dactl_rules.proofs.rule.early_faults.Goals as goal
use Rattle.dactl_rules.proofs.rule.early_faults.Goals.{then-tree, else-tree}

pub returns-clause-faults : goal.returns-clause-faults
returns-clause-faults c =
    let parts = c.args.parts.now in
    let redirects = c.args.tree.now.redirects in
    let passes : Name → Bool = λ n. is_among parts.variables n.text in
    let lefts : c.as_slice-lefts.result.now ≡ parts.lefts.items = c.as_slice-lefts.ensures.value in
    let roots : c.if-tree.redirected.now ≡ (if redirects then parts.roots else []) = elim c.if-tree.branch [
      | then-tree b ↦ ap (λ (z : Bor (List (List ℕ))). z.now) b.redirected-is ∙ ap (λ (z : Bool). if z then parts.roots else []) (sym b.if-tree.true)
      | else-tree b ↦ ap (λ (z : Bor (List (List ℕ))). z.now) b.redirected-is ∙ c.in_ok-none.ensures ∙ c.new.ensures ∙ ap (λ (z : Bool). if z then parts.roots else []) (sym b.if-tree.false)
    ] in
    let twice : List (List ℕ) → List (Bor Name) → List Refusal = λ names ls. each_at kinds.RedirectedTwice (map place_of (again names (filter passes (words ls)))) in
    let a : List Refusal = fault_at (not (head_is (λ f. is_class classes.Rewritable (class_in c.args.viewer.scopes.now c.args.viewer.owner f)) parts.head)) kinds.RootNotRewritable c.args.tree.now.place in
    let b : List Refusal = drawn_faults (seen_in c.args.viewer.scopes.now c.args.viewer.owner) parts.variables parts.suspendable (made_in parts.contractum.drawing) (mentioned_in parts.contractum.drawing) in
    let unbound : List (Bor Name) → List Refusal = λ ls. flat_map (left_unbound parts.variables) (words ls) in
    let headless : c.fault_at.new.faults.items ≡ a =
    c.in_ok-fault_at.ensures ∙ ap (λ (z : List Refusal). z ++ fault_at (not c.has_rewritable_head-headless.result) kinds.RootNotRewritable c.args.tree.now.place) c.new-faults.ensures.items
    ∙ ap (λ (z : Bool). fault_at (not z) kinds.RootNotRewritable c.args.tree.now.place) c.has_rewritable_head-headless.ensures in
    let drawn : c.contractum_faults.new.faults.items ≡ a ++ b = c.in_ok-symbols.ensures.faults ∙ ap (λ (z : List Refusal). z ++ b) headless in
    let unnamed : c.unbound.new.faults.items ≡ (a ++ b) ++ unbound parts.lefts.items =
    c.in_ok-unbound.ensures ∙ ap (λ (z : List Refusal). z ++ unbound c.as_slice-lefts.result.now) drawn ∙ ap (λ (z : List (Bor Name)). (a ++ b) ++ unbound z) lefts in
    c.in_ok-redirected_twice.ensures ∙ ap (λ (z : List Refusal). z ++ twice c.if-tree.redirected.now c.as_slice-lefts.result.now) unnamed
    ∙ ap (λ (z : List (List ℕ)). ((a ++ b) ++ unbound parts.lefts.items) ++ twice z c.as_slice-lefts.result.now) roots
    ∙ ap (λ (z : List (Bor Name)). ((a ++ b) ++ unbound parts.lefts.items) ++ twice (if redirects then parts.roots else []) z) lefts
