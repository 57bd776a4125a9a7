use Rattle.std.proofs.Common.{◌≡◌, List, ℕ, ◌∙◌}
use Rattle.fun_syntax.specs.declared.roles.Role.TheVariants as role
use Rattle.fun_syntax.specs.Words.{Known, with_word}
use Rattle.fun_syntax.proofs.Entries.{empty}
use Rattle.fun_syntax.proofs.roles.built_ins.Goals as goal

-- a word that is entered where this was known
added : {V : Type 0} {next before known : Known V} {word name : List ℕ} (v : V) → next ≡ with_word before word v → before ≡ known → word ≡ name → next ≡ with_word known name v
added v entered is same = entered ∙ (λ j. with_word (is j) (same j) v)

pub returns : goal.returns
returns c =
    added role.Constructor c.in_ok-enter-7.ensures.added (added role.Constructor c.in_ok-enter-6.ensures.added (added role.Arithmetic c.in_ok-enter-5.ensures.added (added role.Arithmetic c.in_ok-enter-4.ensures.added (added role.Arithmetic c.in_ok-enter-3.ensures.added (added role.Arithmetic c.in_ok-enter-2.ensures.added (added role.Arithmetic c.in_ok-enter.ensures.added (empty c.new-roles.result c.new-roles.ensures.empty) c.as_slice.ensures) c.as_slice-2.ensures) c.as_slice-3.ensures) c.as_slice-4.ensures) c.as_slice-5.ensures) c.as_slice-6.ensures) c.as_slice-7.ensures
