-- Validity and its parts.
use Rattle.std.proofs.Common.{◌≡◌, ℕ, length, false}
use Rattle.dactl_model.specs.declared.program.Rule.{Rule}
use Rattle.dactl_model.specs.declared.program.Program.{Program}
use Rattle.dactl_model.specs.Programs.{IsValid, IsValidRule, IsNarrowProgram}
use Rattle.dactl_model.specs.Validity.{AreValidSymbols, AreSoundRules, HasSoundPattern, HasSoundVariables, HasSoundBody, IsSoundStart}

pub rule_of_parts : (symbols r : ℕ) (rule : Rule) → HasSoundPattern symbols rule → HasSoundVariables rule → HasSoundBody symbols r rule → IsValidRule symbols r rule
rule_of_parts symbols r rule pattern variables body = record {
  symbol = pattern.symbol;
  head = pattern.head;
  symbols_in = pattern.symbols_in;
  few = variables.few;
  variables = variables.variables;
  in_place = pattern.in_place;
  body = body.body;
  group = body.group;
  delta = body.delta;
  suspends = body.suspends;
}

pub pattern_of : (symbols r : ℕ) (rule : Rule) → IsValidRule symbols r rule → HasSoundPattern symbols rule
pattern_of symbols r rule v = record { symbol = v.symbol; head = v.head; symbols_in = v.symbols_in; in_place = v.in_place }

pub variables_of : (symbols r : ℕ) (rule : Rule) → IsValidRule symbols r rule → HasSoundVariables rule
variables_of symbols r rule v = record { few = v.few; variables = v.variables }

pub body_of : (symbols r : ℕ) (rule : Rule) → IsValidRule symbols r rule → HasSoundBody symbols r rule
body_of symbols r rule v = record { body = v.body; group = v.group; delta = v.delta; suspends = v.suspends }

pub valid_of_parts : (p : Program) → AreValidSymbols p.wide p.symbols → AreSoundRules (length p.symbols) p.rules → IsSoundStart (length p.symbols) p.start
    → (p.wide ≡ false → IsNarrowProgram p) → IsValid p
valid_of_parts p symbols rules start narrow = record {
  truths = symbols.truths;
  names = symbols.names;
  distinct = symbols.distinct;
  add = rules.arithmetic.add;
  sub = rules.arithmetic.sub;
  mul = rules.arithmetic.mul;
  eq = rules.arithmetic.eq;
  lt = rules.arithmetic.lt;
  rules = rules.valid;
  groups = rules.rise;
  start = start.fresh;
  root = start.root;
  few_symbols = symbols.few;
  few_rules = rules.few;
  narrow = narrow;
}

pub symbols_of : (p : Program) → IsValid p → AreValidSymbols p.wide p.symbols
symbols_of p v = record { truths = v.truths; few = v.few_symbols; names = v.names; distinct = v.distinct }

pub rules_of : (p : Program) → IsValid p → AreSoundRules (length p.symbols) p.rules
rules_of p v = record {
  few = v.few_rules;
  arithmetic = record { add = v.add; sub = v.sub; mul = v.mul; eq = v.eq; lt = v.lt };
  valid = v.rules;
  rise = v.groups;
}

pub start_of_valid : (p : Program) → IsValid p → IsSoundStart (length p.symbols) p.start
start_of_valid p v = record { fresh = v.start; root = v.root }
