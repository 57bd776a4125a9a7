-- What the phases answer, one after the other, is what is answered for the bytes.
use Rattle.std.proofs.Common.{◌≡◌, ℕ, List, [], Some, None, Ok, Err, inl, inr, refl, sym, subst}
use Rattle.std.specs.declared.vec.Vec.{Vec}
use Rattle.std.specs.declared.alloc.Global.{Global}
use Rattle.dactl_base.specs.declared.refusal.Refusal.{Refusal}
use Rattle.dactl_base.specs.declared.refusal.TextFault.{TextFault}
use Rattle.dactl_base.specs.declared.refusal.TextFault.TheVariants as faults
use Rattle.dactl_tokens.specs.declared.token.Token.{Token}
use Rattle.dactl_tokens.specs.Lexes.{Lexes}
use Rattle.dactl_tokens.specs.Answer as tokens
use Rattle.dactl_tokens.specs.Answer.{OkOrMemory, RefusedOrMemory}
use Rattle.fun_meaning.specs.declared.tree.Fun.{Fun}
use Rattle.fun_syntax.specs.Answer as grammar
use Rattle.fun_syntax.specs.Answer.{AreEquations}
use Rattle.fun_syntax.specs.Faults.{faults_of}
use Rattle.fun_syntax.specs.Least.{IsLeast, least}
use Rattle.fun_syntax.specs.Reads.{FunReads, IsGrammarFault, Answers}
use Rattle.fun_syntax.proofs.Told.{least-None, least-Some, one_least, among-nil}

-- the tokens of the bytes were found: there are no others, and they have no fault
pub record Scanned (bytes : List ℕ) (list : List Token) : Type 0 where
  pub lexes : Lexes bytes list
  pub only : (ts : List Token) → Lexes bytes ts → list ≡ ts
  pub faultless : (r : Refusal) → ¬ tokens.IsFirstFault bytes r

-- and their equations: there are no others, and the grammar has no fault
pub record Parsed (bytes : List ℕ) (e : Fun) : Type 0 where
  pub reads : FunReads bytes e
  pub only : (also : Fun) → FunReads bytes also → e ≡ also
  pub tokens : (r : Refusal) → ¬ tokens.IsFirstFault bytes r
  pub grammar : (r : Refusal) → ¬ IsGrammarFault bytes r

-- what the call for tokens tells of those that it gave
pub scanned : (bytes : List ℕ) (now : List Token) (found : Vec Token Global) → now ≡ found.items → Lexes bytes found.items → ((ts : List Token) → Lexes bytes ts → OkOrMemory (λ (f : Vec Token Global). f.items) ts (Ok found))
    → ((r : Refusal) → tokens.IsFirstFault bytes r → RefusedOrMemory {X = Vec Token Global} r (Ok found)) → Scanned bytes now
scanned bytes now found same lexes only fault = record { lexes = subst (Lexes bytes) (sym same) lexes; only = λ ts is. subst (λ l. l ≡ ts) (sym same) (only ts is); faultless = λ r is. fault r is }

pub parsed : (bytes : List ℕ) (list : List Token) (e : Fun) → Scanned bytes list → AreEquations bytes list e → ((also : Fun) → AreEquations bytes list also → e ≡ also) → ((r : Refusal) → ¬ grammar.IsFirstFault bytes list r) → Parsed bytes e
parsed bytes list e scan is only faultless = record {
  reads = record { tokens = list; lexes = scan.lexes; derives = is };
  only = λ also reads. only also (subst (λ x. AreEquations bytes x also) (sym (scan.only reads.tokens reads.lexes)) reads.derives);
  tokens = scan.faultless;
  grammar = λ r is. faultless r (subst (λ x. grammar.IsFirstFault bytes x r) (sym (scan.only is.tokens is.lexes)) is.first);
}

-- the bytes have a fault in their tokens
pub token_fault : (bytes : List ℕ) (f : TextFault) → ((r : Refusal) → f ≡ faults.Refused r → tokens.IsFirstFault bytes r) → ((ts : List Token) → Lexes bytes ts → OkOrMemory (λ (found : Vec Token Global). found.items) ts (Err f))
    → ((r : Refusal) → tokens.IsFirstFault bytes r → RefusedOrMemory {X = Vec Token Global} r (Err f)) → Answers bytes (Err f)
token_fault bytes faults.Memory told only fault = tt
token_fault bytes (faults.Refused r) told only fault = record {
  is = inl (told r refl);
  only = λ other is. elim is [ inl first ↦ fault other first | inr more ↦ elim more [ inl first ↦ absurd (only first.tokens first.lexes) | inr first ↦ absurd (only first.reads.tokens first.reads.lexes) ] ];
  none = λ e is. absurd (only is.reads.tokens is.reads.lexes);
}

-- the bytes have a fault in their grammar
pub grammar_fault : (bytes : List ℕ) (list : List Token) (f : TextFault) → Scanned bytes list → ((r : Refusal) → f ≡ faults.Refused r → grammar.IsFirstFault bytes list r) → ((e : Fun) → AreEquations bytes list e → OkOrMemory {X = Fun} (λ x. x) e (Err f))
    → ((r : Refusal) → grammar.IsFirstFault bytes list r → RefusedOrMemory {X = Fun} r (Err f)) → Answers bytes (Err f)
grammar_fault bytes list faults.Memory scan told only fault = tt
grammar_fault bytes list (faults.Refused r) scan told only fault =
    let none : (e : Fun) → ¬ FunReads bytes e = λ e reads. only e (subst (λ x. AreEquations bytes x e) (sym (scan.only reads.tokens reads.lexes)) reads.derives) in record {
      is = inr (inl (record { tokens = list; lexes = scan.lexes; first = told r refl }));
      only = λ other is. elim is [
        | inl first ↦ absurd (scan.faultless other first)
        | inr more ↦ elim more [
          | inl first ↦ fault other (subst (λ x. grammar.IsFirstFault bytes x other) (sym (scan.only first.tokens first.lexes)) first.first)
          | inr first ↦ absurd (none first.equations first.reads)
        ]
      ];
      none = λ e is. none e is.reads;
    }

-- the names have a fault
pub name_fault : (bytes : List ℕ) (e : Fun) (r : Refusal) → Parsed bytes e → Some r ≡ least (faults_of e) → Answers bytes (Err (faults.Refused r))
name_fault bytes e r parse told =
    let first : IsLeast (faults_of e) r = least-Some (faults_of e) r (sym told) in record {
      is = inr (inr (record { equations = e; reads = parse.reads; least = first }));
      only = λ other is. elim is [
        | inl token ↦ absurd (parse.tokens other token)
        | inr more ↦ elim more [
          | inl again ↦ absurd (parse.grammar other again)
          | inr named ↦ one_least (faults_of e) r other first (subst (λ x. IsLeast (faults_of x) other) (sym (parse.only named.equations named.reads)) named.least)
        ]
      ];
      none = λ other is.
          let none : faults_of e ≡ [] = subst (λ x. faults_of x ≡ []) (sym (parse.only other is.reads)) is.faultless in
          among-nil r (subst (λ l. IsLeast l r) none first).among;
    }

-- the names have no fault
pub no_fault : (bytes : List ℕ) (e : Fun) → Parsed bytes e → None ≡ least (faults_of e) → Answers bytes (Ok e)
no_fault bytes e parse told =
    let none : faults_of e ≡ [] = least-None (faults_of e) (sym told) in record {
      is = record { reads = parse.reads; faultless = none };
      only = λ other is. parse.only other is.reads;
      faultless = λ r is. elim is [
        | inl token ↦ parse.tokens r token
        | inr more ↦ elim more [
          | inl again ↦ parse.grammar r again
          | inr named ↦ among-nil r (subst (λ l. IsLeast l r) (subst (λ x. faults_of x ≡ []) (parse.only named.equations named.reads) none) named.least).among
        ]
      ];
    }
