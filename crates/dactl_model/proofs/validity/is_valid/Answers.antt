use Rattle.std.proofs.Common.{List, length, subst, sym, ◌≡◌, false}
use Rattle.dactl_model.specs.declared.program.Rule.{Rule}
use Rattle.dactl_model.specs.declared.program.Program.{Program}
use Rattle.dactl_model.specs.declared.program.Symbol.{Symbol}
use Rattle.dactl_model.specs.Programs.{IsValid, IsNarrowProgram}
use Rattle.dactl_model.specs.Validity.{AreValidSymbols, AreSoundRules, IsSoundStart}
use Rattle.dactl_model.proofs.ValidityParts.{valid_of_parts, rules_of, start_of_valid}
use Rattle.dactl_model.proofs.validity.is_valid.Goals as goal

-- over the slices that the tests read
valid_by : (p : Program) (symbols : List Symbol) (rules : List Rule) → symbols ≡ p.symbols → rules ≡ p.rules → AreValidSymbols p.wide symbols → AreSoundRules (length symbols) rules → IsSoundStart (length symbols) p.start
    → (p.wide ≡ false → IsNarrowProgram p) → IsValid p
valid_by p symbols rules same_symbols same_rules fine sound start narrow =
    valid_of_parts p (subst (AreValidSymbols p.wide) same_symbols fine)
    (subst (λ rs. AreSoundRules (length p.symbols) rs) same_rules (subst (λ ss. AreSoundRules (length ss) rules) same_symbols sound))
    (subst (λ ss. IsSoundStart (length ss) p.start) same_symbols start)
    narrow

start_by : (p : Program) (symbols : List Symbol) → symbols ≡ p.symbols → IsValid p → IsSoundStart (length symbols) p.start
start_by p symbols same valid = subst (λ ss. IsSoundStart (length ss) p.start) (sym same) (start_of_valid p valid)

rules_by : (p : Program) (symbols : List Symbol) (rules : List Rule) → symbols ≡ p.symbols → rules ≡ p.rules → IsValid p → AreSoundRules (length symbols) rules
rules_by p symbols rules same_symbols same_rules valid =
    subst (λ ss. AreSoundRules (length ss) rules) (sym same_symbols) (subst (AreSoundRules (length p.symbols)) (sym same_rules) (rules_of p valid))

pub returns-else-are_sound_rules : goal.returns-else-are_sound_rules
returns-else-are_sound_rules c =
    (λ e. cc, λ valid. c.are_sound_rules.ensures.1 (rules_by c.args.program.now _ _ c.as_slice-symbols.ensures c.as_slice.ensures valid))

pub returns-then-are_sound_rules : goal.returns-then-are_sound_rules
returns-then-are_sound_rules c = (
  λ e. valid_by c.args.program.now _ _ c.as_slice-symbols.ensures c.as_slice.ensures (c.are_valid_symbols.ensures.0 c.if-not-are_valid_symbols.false) (c.are_sound_rules.ensures.0 c.if-are_sound_rules.true) (c.is_sound_start.ensures.0 e)
      (c.is_in_language.ensures.0 c.if-not-is_in_language.false),
  λ valid. c.is_sound_start.ensures.1 (start_by c.args.program.now _ c.as_slice-symbols.ensures valid),
)
