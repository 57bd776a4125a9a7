-- The faults of a tree by phases: what the scope answers, and what the rules answer where the scope has no fault, is what the tree means.
use Rattle.std.proofs.Common.{◌≡◌, ℕ, ◌<◌, ◌⊎◌, true, false, List, Result, Ok, Err, IfOk, refl, sym, ap, ◌∙◌, subst, inl, inr, arith}
use Rattle.std.specs.declared.vec.Vec.{Vec}
use Rattle.std.specs.declared.alloc.Global.{Global}
use Rattle.dactl_base.specs.declared.refusal.Kind.{Kind}
use Rattle.dactl_base.specs.declared.refusal.Kind.TheVariants as kinds
use Rattle.dactl_base.specs.declared.refusal.Refusal.{Refusal}
use Rattle.dactl_base.specs.declared.refusal.TextFault.{TextFault}
use Rattle.dactl_base.specs.declared.refusal.TextFault.TheVariants as faults
use Rattle.dactl_model.specs.declared.program.Program.{Program}
use Rattle.dactl_meaning.specs.declared.tree.Text.{Text}
use Rattle.dactl_meaning.specs.Faults.{phase, Precedes, NoFault, IsLeastFault, IsDueFault, TellsFaults}
use Rattle.dactl_meaning.specs.Declarations.{items}
use Rattle.dactl_meaning.specs.ScopeFaults.{HasScopeFault, ScopeFault}
use Rattle.dactl_meaning.specs.Meaning.{CycleFault, RuleFault, TreeFault, program_of}
use Rattle.dactl_syntax.specs.Laws.{Reads}
use Rattle.dactl_tokens.specs.declared.token.Token.{Token}
use Rattle.dactl_tokens.specs.Lexes.{Lexes}
use Rattle.dactl_tokens.specs.Answer as tokens
use Rattle.dactl_tokens.specs.Answer.{OkOrMemory, RefusedOrMemory}
use Rattle.dactl_syntax.specs.Answer as grammar
use Rattle.fun_program.specs.Compiling as equations
use Rattle.dactl_rules.proofs.Late.{rule_phase, cycle_phase}
use Rattle.dactl_top.specs.Compiling.{IsGrammarFault, Compiles, CompilesBy}
use Rattle.dactl_top.proofs.Faults.{one_least}

-- ---- each fault is of its phase

scope_phase : (t : Text) (k : Kind) (place : ℕ) → HasScopeFault t k place → phase k ≡ 3
scope_phase t kinds.TwiceDeclared place has = refl
scope_phase t kinds.UnknownModule place has = refl
scope_phase t kinds.UnknownName place has = refl
scope_phase t kinds.NotVisible place has = refl
scope_phase t kinds.PublicTooStrong place has = refl
scope_phase t kinds.NoInitial place has = refl
scope_phase t kinds.TwoInitials place has = refl
scope_phase t kinds.TooMany place has = refl
scope_phase t kinds.BadByte place has = absurd has
scope_phase t kinds.NumberTooWide place has = absurd has
scope_phase t kinds.Unexpected place has = absurd has
scope_phase t kinds.TooDeep place has = absurd has
scope_phase t kinds.PatternCycle place has = absurd has
scope_phase t kinds.RootNotRewritable place has = absurd has
scope_phase t kinds.BinderInChoice place has = absurd has
scope_phase t kinds.TooWide place has = absurd has
scope_phase t kinds.Unbound place has = absurd has
scope_phase t kinds.NamedTwice place has = absurd has
scope_phase t kinds.RedirectedTwice place has = absurd has
scope_phase t kinds.NotOverwritable place has = absurd has
scope_phase t kinds.NotCreatable place has = absurd has
scope_phase t kinds.MarkOnBound place has = absurd has
scope_phase t kinds.TooManyWaits place has = absurd has
scope_phase t kinds.NotAConstructor place has = absurd has
scope_phase t kinds.WrongArity place has = absurd has

-- ---- and so the phases go one after the other

later_phase : (a b : Refusal) → phase b.kind < phase a.kind → Precedes a b → ⊥
later_phase a b later before = elim before [ inl first ↦ absurd (omega (arith, first, later)) | inr same ↦ let e = same.0 in absurd (omega (arith, e, later)) ]

-- the least fault of the scope is the least of the tree
pub scope_least : (t : Text) (r : Refusal) → IsLeastFault (ScopeFault t) r → IsLeastFault (TreeFault t) r
scope_least t r is = record {
  holds = inl is.holds;
  least = λ other has before. let third : phase r.kind ≡ 3 = scope_phase t r.kind r.place.byte is.holds in elim has [
    | inl scope ↦ is.least other scope before
    | inr more ↦ elim more [
      | inl cycle ↦ let fourth = cycle_phase t other cycle in later_phase other r (omega (arith, third, fourth)) before
      | inr rule ↦ let fifth = rule_phase t other rule in later_phase other r (omega (arith, third, fifth)) before
    ]
  ];
}

pub scope_due : (t : Text) (f : TextFault) → IsDueFault (ScopeFault t) f → IsDueFault (TreeFault t) f
scope_due t (faults.Refused r) is = scope_least t r is
scope_due t faults.Memory is = tt

late_due : (t : Text) (f : TextFault) → NoFault (ScopeFault t) → IsDueFault (λ r. CycleFault t r ⊎ RuleFault t r) f → IsDueFault (TreeFault t) f
late_due t (faults.Refused r) none is = record { holds = inr is.holds; least = λ other has before. elim has [ inl scope ↦ none other scope | inr late ↦ is.least other late before ] }
late_due t faults.Memory none is = tt

-- ---- what is answered for the bytes

-- the tokens of the bytes were found: there are no others, and their tokens have no fault
pub record Scanned (bytes : List ℕ) (list : List Token) : Type 0 where
  pub lexes : Lexes bytes list
  pub only : (ts : List Token) → Lexes bytes ts → list ≡ ts
  pub faultless : NoFault (tokens.IsFirstFault bytes)

-- and their tree: there is no other, and the grammar has no fault
pub record Parsed (bytes : List ℕ) (t : Text) : Type 0 where
  pub reads : Reads bytes t
  pub only : (also : Text) → Reads bytes also → t ≡ also
  pub tokens : NoFault (tokens.IsFirstFault bytes)
  pub grammar : NoFault (IsGrammarFault bytes)

-- what the call for tokens tells of those that it gave
pub scanned : (bytes : List ℕ) (now : List Token) (found : Vec Token Global) → now ≡ found.items → Lexes bytes found.items → ((ts : List Token) → Lexes bytes ts → OkOrMemory (λ (f : Vec Token Global). f.items) ts (Ok found))
    → ((r : Refusal) → tokens.IsFirstFault bytes r → RefusedOrMemory {X = Vec Token Global} r (Ok found)) → Scanned bytes now
scanned bytes now found same lexes only fault = record { lexes = subst (Lexes bytes) (sym same) lexes; only = λ ts is. same ∙ only ts is; faultless = λ r is. fault r is }

pub parsed : (bytes : List ℕ) (list : List Token) (t : Text) → Scanned bytes list → grammar.IsTree bytes list t → ((also : Text) → grammar.IsTree bytes list also → t ≡ also) → NoFault (grammar.IsFirstFault bytes list) → Parsed bytes t
parsed bytes list t scan is only faultless = record {
  reads = record { tokens = list; lexes = scan.lexes; is_tree = is };
  only = λ also reads. only also (subst (λ x. grammar.IsTree bytes x also) (sym (scan.only reads.tokens reads.lexes)) reads.is_tree);
  tokens = scan.faultless;
  grammar = λ r is. faultless r (subst (λ x. grammar.IsFirstFault bytes x r) (sym (scan.only is.tokens is.lexes)) is.first);
}

-- the bytes have a fault in their tokens
pub token_fault : (bytes : List ℕ) (f : TextFault) → ((r : Refusal) → f ≡ faults.Refused r → tokens.IsFirstFault bytes r) → ((ts : List Token) → Lexes bytes ts → OkOrMemory (λ (found : Vec Token Global). found.items) ts (Err f)) → ((r : Refusal) → tokens.IsFirstFault bytes r → RefusedOrMemory {X = Vec Token Global} r (Err f)) → Compiles bytes (Err f)
token_fault bytes faults.Memory told only fault = tt
token_fault bytes (faults.Refused r) told only fault = record {
  is = inl (told r refl);
  only = λ other is. elim is [ inl first ↦ fault other first | inr more ↦ elim more [ inl first ↦ absurd (only first.tokens first.lexes) | inr first ↦ absurd (only first.reads.tokens first.reads.lexes) ] ];
  none = λ p is. absurd (only is.reads.tokens is.reads.lexes);
}

-- the bytes have a fault in their grammar
pub grammar_fault : (bytes : List ℕ) (list : List Token) (f : TextFault) → Scanned bytes list → ((r : Refusal) → f ≡ faults.Refused r → grammar.IsFirstFault bytes list r) → ((t : Text) → grammar.IsTree bytes list t → OkOrMemory {X = Text} (λ x. x) t (Err f))
    → ((r : Refusal) → grammar.IsFirstFault bytes list r → RefusedOrMemory {X = Text} r (Err f)) → Compiles bytes (Err f)
grammar_fault bytes list faults.Memory scan told only fault = tt
grammar_fault bytes list (faults.Refused r) scan told only fault =
    let no_tree : (t : Text) → ¬ Reads bytes t = λ t reads. only t (subst (λ x. grammar.IsTree bytes x t) (sym (scan.only reads.tokens reads.lexes)) reads.is_tree) in record {
      is = inr (inl (record { tokens = list; lexes = scan.lexes; first = told r refl }));
      only = λ other is. elim is [
        | inl first ↦ absurd (scan.faultless other first)
        | inr more ↦ elim more [
          | inl first ↦ fault other (subst (λ x. grammar.IsFirstFault bytes x other) (sym (scan.only first.tokens first.lexes)) first.first)
          | inr first ↦ absurd (no_tree first.tree first.reads)
        ]
      ];
      none = λ p is. no_tree is.tree is.reads;
    }

-- the tree of the bytes has a fault
pub tree_fault : (bytes : List ℕ) (t : Text) (f : TextFault) → Parsed bytes t → IsDueFault (TreeFault t) f → Compiles bytes (Err f)
tree_fault bytes t faults.Memory parse due = tt
tree_fault bytes t (faults.Refused r) parse due = record {
  is = inr (inr (record { tree = t; reads = parse.reads; least = due }));
  only = λ other is. elim is [
    | inl first ↦ absurd (parse.tokens other first)
    | inr more ↦ elim more [
      | inl first ↦ absurd (parse.grammar other first)
      | inr first ↦ one_least (TreeFault t) r other due (subst (λ x. IsLeastFault (TreeFault x) other) (sym (parse.only first.tree first.reads)) first.least)
    ]
  ];
  none = λ p is. is.faultless r (subst (λ x. TreeFault x r) (parse.only is.tree is.reads) due.holds);
}

-- the tree of the bytes has no fault, and this is its program
tree_program : (bytes : List ℕ) (t : Text) (p : Program) → Parsed bytes t → NoFault (TreeFault t) → p ≡ program_of t → Compiles bytes (Ok p)
tree_program bytes t p parse faultless is = record {
  is = record { tree = t; reads = parse.reads; faultless = faultless; program = is };
  only = λ q other. is ∙ ap program_of (parse.only other.tree other.reads) ∙ sym other.program;
  faultless = λ r fault. elim fault [
    | inl first ↦ parse.tokens r first
    | inr more ↦ elim more [
      | inl first ↦ parse.grammar r first
      | inr first ↦ faultless r (subst (λ x. TreeFault x r) (sym (parse.only first.tree first.reads)) first.least.holds)
    ]
  ];
}

-- the scope of the tree has a fault
pub scope_fault : (bytes : List ℕ) (t : Text) (f : TextFault) → Parsed bytes t → IsDueFault (ScopeFault t) f → Compiles bytes (Err f)
scope_fault bytes t f parse due = tree_fault bytes t f parse (scope_due t f due)

-- it has none, and the rules answered
pub rules_answer : (bytes : List ℕ) (t : Text) (result : Result Program TextFault) → Parsed bytes t → NoFault (ScopeFault t) → TellsFaults (λ r. CycleFault t r ⊎ RuleFault t r) result → IfOk result (λ p. p ≡ program_of t) → Compiles bytes result
rules_answer bytes t (Ok p) parse none tells is = tree_program bytes t p parse (λ r has. elim has [ inl scope ↦ none r scope | inr late ↦ tells r late ]) is
rules_answer bytes t (Err f) parse none tells is = tree_fault bytes t f parse (late_due t f none tells)

-- ---- by the flag

pub by_modules : (bytes : List ℕ) (result : Result Program TextFault) → Compiles bytes result → CompilesBy false bytes result
by_modules bytes (Ok p) answer = answer
by_modules bytes (Err (faults.Refused r)) answer = answer
by_modules bytes (Err faults.Memory) answer = answer

pub by_equations : (bytes : List ℕ) (result : Result Program TextFault) → equations.Compiles bytes result → CompilesBy true bytes result
by_equations bytes (Ok p) answer = answer
by_equations bytes (Err (faults.Refused r)) answer = answer
by_equations bytes (Err faults.Memory) answer = answer
