use Rattle.std.proofs.Common.{◌≡◌, ℕ, Bool, List, [], ◌∷◌, ◌++◌, ◌||◌, is_some, map, take, if◌then◌else◌, ap, sym, subst, ◌∙◌}
use Rattle.std.specs.List.{filter}
use Rattle.std.specs.Borrow.{Bor}
use Rattle.std.proofs.lemmas.List.{append-nil, take_all}
use Rattle.dactl_base.specs.declared.refusal.Kind.TheVariants as kinds
use Rattle.dactl_meaning.specs.declared.tree.Name.{Name}
use Rattle.dactl_meaning.specs.Expansion.{is_among}
use Rattle.dactl_meaning.specs.RuleFaults.{each_at, again, place_of}
use Rattle.dactl_names.specs.Found.{found, Notes}
use Rattle.dactl_contractum.specs.Numbers.{variable_number}
use Rattle.dactl_contractum.specs.Told.{fault_at}
use Rattle.dactl_contractum.specs.Lefts.{words}
use Rattle.dactl_contractum.proofs.ToldFaults.{kept_more, variable_told}
use Rattle.dactl_contractum.proofs.Twice.{twice_start, twice_more}
use Rattle.dactl_contractum.proofs.lefts.redirected_twice.Goals as goal
use Rattle.dactl_contractum.proofs.lefts.redirected_twice.Goals.{then-is_some+in_ok-note+in_ok-fault_at, else-is_some}

pub loop-left-init : goal.loop-left-init
loop-left-init c = twice_start kinds.RedirectedTwice c.args.redirected.now c.new-seen.result c.args.faults.now.items c.new-seen.ensures

pub loop-left-preserved : goal.loop-left-preserved
loop-left-preserved c =
    let n = c.left-item.result.now in
    let passes : Name → Bool = λ m. is_among c.args.variables.now m.text in
    let before = filter passes (words (take c.loop-left.left-index c.args.lefts.now)) in
    let more = kept_more passes (λ (n : Bor Name). n.now) c.args.lefts.now c.loop-left.left-index c.left-item.result c.loop-left-test.true c.left-item.is in
    let known_so : is_among c.args.variables.now n.text ≡ c.is_some.result =
    sym (variable_told c.args.variables.now n.text) ∙ ap (λ (v : List ℕ). is_some (variable_number c.args.variables.now v)) (sym c.as_slice-word.ensures) ∙ ap is_some (sym c.number.ensures) ∙ sym c.is_some.ensures in
    elim c.if-is_some.branch [
      | then-is_some+in_ok-note+in_ok-fault_at b ↦
          let kept = more ∙ ap (λ (z : Bool). before ++ (if z then n ∷ [] else [])) (known_so ∙ b.if-is_some.true) in
          let noted = subst (λ (v : List ℕ). Notes v 0 c.loop-left.seen b.note.new.self) c.as_slice-word.ensures b.in_ok-note.ensures.after in
          let faults : c.if-is_some.faults.items ≡ c.loop-left.faults.items ++ fault_at b.is_bound-known.result kinds.RedirectedTwice n.place = ap (λ (z : _). z.items) b.faults-is ∙ b.in_ok-fault_at.ensures in
          let known = b.is_bound-known.ensures ∙ ap (λ (v : List ℕ). is_some (variable_number c.args.redirected.now v) || is_some (found c.loop-left.seen v)) c.as_slice-word.ensures in
          rw (kept, b.seen-is) (twice_more kinds.RedirectedTwice c.args.redirected.now before c.loop-left.seen b.note.new.self c.args.faults.now.items c.loop-left.faults.items c.if-is_some.faults.items n b.is_bound-known.result c.loop-left.invariant noted known faults)
      | else-is_some b ↦
          let kept = more ∙ ap (λ (z : Bool). before ++ (if z then n ∷ [] else [])) (known_so ∙ b.if-is_some.false) ∙ append-nil before in
          rw (kept, b.seen-is, b.faults-is) c.loop-left.invariant
    ]

pub returns : goal.returns
returns c =
    let passes : Name → Bool = λ m. is_among c.args.variables.now m.text in
    c.loop-left.invariant.told
    ∙ ap (λ (z : List (Bor Name)). c.args.faults.now.items ++ each_at kinds.RedirectedTwice (map place_of (again c.args.redirected.now (filter passes (words z))))) (take_all c.loop-left.left-index c.args.lefts.now c.loop-left-test.false)
