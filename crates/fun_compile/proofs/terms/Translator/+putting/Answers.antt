use Rattle.std.proofs.Common.{◌≡◌, ◌<◌, true, false, ap, ◌∙◌, arith}
use Rattle.dactl_meaning.specs.declared.tree.Marks.{Marks}
use Rattle.dactl_meaning.specs.declared.tree.Marks.TheVariants as marks
use Rattle.fun_meaning.specs.Names.{Spelling, operation}
use Rattle.fun_meaning.specs.Values.{is_constructor}
use Rattle.fun_compile.specs.Translated.{marks_for, wrapped}
use Rattle.fun_compile.proofs.Putting.{called, made_pure, made_active, made_waiting}
use Rattle.fun_compile.proofs.terms.Translator.+putting.Goals as goal
use Rattle.fun_compile.proofs.terms.Translator.+putting.Goals.{made-else-waiting-eq0-via-then-waiting-eq0+else-is_constructor, made-else-waiting-eq0-via-else-waiting-eq0}

pub made-returns-then-is_constructor : goal.made-returns-then-is_constructor
made-returns-then-is_constructor t c =
    let e = c.args.self.now.fun.now in
    let g : Spelling = c.args.name.now.text in
    let a = c.in_ok-args.field-0 in
    let none : a.waiting ≡ 0 = cc in
    let constructs : is_constructor e g ≡ true = cc in
    let is : c.in_ok-term.term ≡ called marks.Plain g a.args = c.in_ok-term.ensures ∙ ap (λ (n : Spelling). called marks.Plain n a.args) c.as_slice-spelling.ensures in
    made_pure e g c.args.args.now a c.in_ok-term.term c.in_ok-args.ensures none constructs is

pub made-returns : goal.made-returns
made-returns t c =
    let e = c.args.self.now.fun.now in
    let g : Spelling = c.args.name.now.text in
    let a = c.in_ok-args.field-0 in
    let m : Marks = c.marks_for.result in
    let call : c.in_ok-term-2.term ≡ called (marks_for a.waiting) g a.args =
    c.in_ok-term-2.ensures ∙ ap (λ (n : Spelling). called m n a.args) c.as_slice-spelling.ensures ∙ ap (λ (k : Marks). called k g a.args) c.marks_for.ensures in
    let is : c.in_ok-term-3.term ≡ wrapped (operation g) (called (marks_for a.waiting) g a.args) =
    c.in_ok-term-3.ensures ∙ ap (λ (n : Spelling). wrapped (operation n) c.in_ok-term-2.term) c.as_slice-spelling.ensures ∙ ap (wrapped (operation g)) call in
    elim c.else-waiting-eq0.branch [
      | made-else-waiting-eq0-via-then-waiting-eq0+else-is_constructor w ↦
          let other : is_constructor e g ≡ false = cc in
          made_active e g c.args.args.now a c.in_ok-term-3.term c.in_ok-args.ensures other is
      | made-else-waiting-eq0-via-else-waiting-eq0 w ↦
          let some : 0 < a.waiting = omega arith in
          made_waiting e g c.args.args.now a c.in_ok-term-3.term c.in_ok-args.ensures some is
    ]
