-- Reading from the front of a list of tokens: what was read and what is left, or the first fault.
use Rattle.std.specs.Prelude.{ℕ, zero, suc, Bool, false, List, [], ◌∷◌, length, Option, Some, None, Result, Ok, Err, if◌then◌else◌}
use Rattle.dactl_grammar.specs.declared.fault.Fault.{Fault}
use Rattle.dactl_grammar.specs.declared.fault.Fault.TheVariants.{Unexpected, TooDeep}
use Rattle.dactl_grammar.specs.Grammar.{place_of}

-- what was read and the tokens that are left, or the fault
abbrev pub Outcome : Type 0 → Type 0 → Type 0
Outcome T A = Result (A × List T) Fault

-- a reader of a part, from the front of a list
abbrev pub Reader : Type 0 → Type 0 → Type 0
Reader T A = List T → Outcome T A

-- go on with what was read
infixl 10 ◌>>=◌
abbrev pub ◌>>=◌ : {A B : Type 0} → Result A Fault → (A → Result B Fault) → Result B Fault
(Ok x) >>= f = f x
(Err e) >>= f = Err e

-- how many tokens stand from the fault on
abbrev pub fault_left : Fault → ℕ
fault_left (Unexpected n) = n
fault_left (TooDeep n) = n

-- how many tokens are left behind what was read, or from the fault on
abbrev pub left : {T A : Type 0} → Outcome T A → ℕ
left (Ok x) = length x.1
left (Err e) = fault_left e

-- there is a next token, and it passes
abbrev pub head_is : {T : Type 0} → (T → Bool) → List T → Bool
head_is c [] = false
head_is c (t ∷ l) = c t

-- ---- a reader for each form of grammar; a choice, a part that may be left out and a repetition go by a test of what comes next

abbrev pub read_one : {T : Type 0} → (T → Bool) → Reader T T
read_one c [] = Err (Unexpected 0)
read_one c (t ∷ l) = if c t then Ok (t, l) else Err (Unexpected (suc (length l)))

abbrev pub read_row : {T A B : Type 0} → Reader T A → (A → Reader T B) → Reader T (A × B)
read_row R S l = R l >>= (λ x. S x.0 x.1 >>= (λ y. Ok ((x.0, y.0), y.1)))

abbrev pub read_as : {T A B : Type 0} → (A → B) → Reader T A → Reader T B
read_as f R l = R l >>= (λ x. Ok (f x.0, x.1))

abbrev pub read_choice : {T A : Type 0} → (List T → Bool) → Reader T A → Reader T A → Reader T A
read_choice c R S l = if c l then R l else S l

abbrev pub read_maybe : {T A : Type 0} → (T → Bool) → Reader T A → Reader T (Option A)
read_maybe c R l = if head_is c l then (R l >>= (λ x. Ok (Some x.0, x.1))) else Ok (None, l)

-- at most this many times
abbrev pub read_times : {T A : Type 0} → (T → Bool) → Reader T A → ℕ → Reader T (List A)
read_times c R zero l = Ok ([], l)
read_times c R (suc n) l = if head_is c l then (R l >>= (λ x. read_times c R n x.1 >>= (λ y. Ok (x.0 ∷ y.0, y.1)))) else Ok ([], l)

-- any number of times
unfoldable pub read_many : {T A : Type 0} → (T → Bool) → Reader T A → Reader T (List A)
read_many c R l = read_times c R (length l) l

-- nothing may be left
abbrev pub to_end : {T A : Type 0} → A → List T → Result A Fault
to_end a [] = Ok a
to_end a (t ∷ l) = Err (Unexpected (suc (length l)))

-- a bracket that may not be opened: one too many
abbrev pub read_barred : {T A : Type 0} → (T → Bool) → Reader T A
read_barred c l = read_one c l >>= (λ _. Err (TooDeep (length l)))

abbrev pub read_placed : {T A : Type 0} → (T → ℕ) → Reader T A → Reader T (ℕ × A)
read_placed g R l = R l >>= (λ x. Ok ((place_of g l, x.0), x.1))

abbrev pub to_the_end : {T A : Type 0} → A × List T → Result A Fault
to_the_end x = to_end x.0 x.1

-- all of the tokens
abbrev pub read_all : {T A : Type 0} → Reader T A → List T → Result A Fault
read_all R l = R l >>= to_the_end
