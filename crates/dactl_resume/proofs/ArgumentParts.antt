-- Arguments, one after another.
use Rattle.std.proofs.Common.{◌≡◌, ◌≢◌, ℕ, ◌+◌, ◌-◌, ◌^◌, ◌<◌, ◌≤◌, Bool, true, false, cond, codes, List, [], ◌∷◌, ◌++◌, length, refl, ap, sym, ◌∙◌, subst, arith, length-append, append_assoc, inl, inr}
use Rattle.std.specs.Fmt.{decimal}
use Rattle.std.specs.List.{AllByRecursion}
use Rattle.std.proofs.lemmas.Bool.{cases_lt}
use Rattle.std.proofs.lemmas.List.{append_cancel_left, append-nil}
use Rattle.std.proofs.lemmas.List.Elements.{All-from_recursion, recursion_from_All}
use Rattle.dactl_base.specs.Readers.{BeginsWith}
use Rattle.dactl_model.specs.declared.graph.Arc.{Arc}
use Rattle.dactl_print.specs.Texts.{line_feed}
use Rattle.dactl_resume.specs.Plain.{put_argument, put_further, put_arguments}
use Rattle.dactl_resume.specs.Parts.{BeginsArgument, AreTargets, IsFurther, AreArguments, Appended}
use Rattle.dactl_resume.proofs.SameText.{other_byte, same_argument, further_stops}

-- ---- one argument

flag_apart : (w v : Bool) (behind at more : List ℕ) → behind ≡ cond w (94 ∷ []) [] ++ at → (w ≡ false → (rest : List ℕ) → behind ≢ 94 ∷ rest) → behind ≡ cond v (94 ∷ []) [] ++ (64 ∷ more) → (w ≡ v) × (at ≡ 64 ∷ more)
flag_apart true true behind at more joined none is = (refl, append_cancel_left (94 ∷ []) at (64 ∷ more) (sym joined ∙ is))
flag_apart true false behind at more joined none is = absurd (other_byte 94 64 at more (λ e. absurd (omega (arith, e))) (sym joined ∙ is))
flag_apart false true behind at more joined none is = absurd (none refl (64 ∷ more) is)
flag_apart false false behind at more joined none is = (refl, sym joined ∙ is)

module _ (lead bytes behind at : List ℕ) (w : Bool) (count : ℕ) (few : count < 2 ^ 32) (stripped : bytes ≡ lead ++ behind) (joined : behind ≡ cond w (94 ∷ []) [] ++ at) where
  -- the number of an argument stands behind the flag
  pub argument_number : (w ≡ false → (rest : List ℕ) → behind ≢ 94 ∷ rest) → (arc : Arc) (rest : List ℕ) → BeginsArgument lead bytes count arc rest → BeginsWith (codes "@") at (arc.target.number + 1) rest
  argument_number none arc rest is =
      let own : behind ≡ put_argument arc rest = append_cancel_left lead behind (put_argument arc rest) (sym stripped ∙ is.text) in
      let parts = flag_apart w arc.waits behind at (decimal (arc.target.number + 1) ++ rest) joined none own in
      let below : arc.target.number < count = is.target in
      record { text = parts.1; word = omega arith; ends = is.ends }

  -- and a number there makes an argument
  pub argument_read : (number : ℕ) (rest : List ℕ) → BeginsWith (codes "@") at number rest → 1 ≤ number → number ≤ count → BeginsArgument lead bytes count (record { target = record { number = number - 1 }; waits = w }) rest
  argument_read number rest is some most =
      let again : number ≡ number - 1 + 1 = omega arith in
      record {
        text = stripped ∙ ap (λ (t : List ℕ). lead ++ t) (joined ∙ ap (λ (t : List ℕ). cond w (94 ∷ []) [] ++ t) is.text ∙ ap (λ (n : ℕ). cond w (94 ∷ []) [] ++ (64 ∷ (decimal n ++ rest))) again);
        target = omega arith;
        ends = is.ends;
      }

-- an argument behind a lead, and what follows it, are determined
pub argument_behind : (lead bytes : List ℕ) (count : ℕ) → count < 2 ^ 32 → (a b : Arc) (r s : List ℕ) → BeginsArgument lead bytes count a r → BeginsArgument lead bytes count b s → (a ≡ b) × (r ≡ s)
argument_behind lead bytes count few a b r s one other =
    let own : put_argument a r ≡ put_argument b s = append_cancel_left lead (put_argument a r) (put_argument b s) (sym one.text ∙ other.text) in
    let first : a.target.number < count = one.target in
    let second : b.target.number < count = other.target in
    same_argument a b r s (omega arith) (omega arith) one.ends other.ends own

-- ---- further arguments

room_for : (n m : ℕ) → n ≤ 16 → (n ≡ 16 → ⊥) → m ≡ n + 1 → m ≤ 16
room_for n m few room one =
    elim (cases_lt n 16) [
      | inl less ↦ omega arith
      | inr above ↦ absurd (room (omega arith))
    ]

-- of the further arguments that the bytes may be, some are read, and the rest is the others
pub record AreRead (before now : List Arc) (bytes rest : List ℕ) (count : ℕ) : Type 0 where
  pub done : List Arc
  pub grown : now ≡ before ++ done
  pub there : (more : List Arc) → IsFurther rest more → IsFurther bytes (done ++ more)
  pub back : (all : List Arc) → AreTargets count all → IsFurther bytes all → (more : List Arc) × (all ≡ done ++ more) × IsFurther rest more
  pub targets : AreTargets count now
  pub few : length now ≤ 16

pub none_read : (before : List Arc) (bytes : List ℕ) (count : ℕ) → AreTargets count before → length before ≤ 16 → AreRead before before bytes bytes count
none_read before bytes count targets few = record {
  done = [];
  grown = sym (append-nil before);
  there = λ more is. is;
  back = λ all targets is. (all, refl, is);
  targets = targets;
  few = few;
}

tail_of : (count : ℕ) (done more : List Arc) → AreTargets count (done ++ more) → AreTargets count more
tail_of count done more all = All-from_recursion (λ a. a.target.number < count) more (go done (recursion_from_All (λ a. a.target.number < count) (done ++ more) all))
  where
    go : (xs : List Arc) → AllByRecursion (λ a. a.target.number < count) (xs ++ more) → AllByRecursion (λ a. a.target.number < count) more
    go [] all = all
    go (x ∷ xs) all = go xs all.1

pub targets_more : (count : ℕ) (xs ys : List Arc) → AreTargets count xs → AreTargets count ys → AreTargets count (xs ++ ys)
targets_more count xs ys one other =
    All-from_recursion (λ a. a.target.number < count) (xs ++ ys) (go xs (recursion_from_All (λ a. a.target.number < count) xs one))
  where
    go : (zs : List Arc) → AllByRecursion (λ a. a.target.number < count) zs → AllByRecursion (λ a. a.target.number < count) (zs ++ ys)
    go [] all = recursion_from_All (λ a. a.target.number < count) ys other
    go (z ∷ zs) all = (all.0, go zs all.1)

pub target_one : (count : ℕ) (arc : Arc) → arc.target.number < count → AreTargets count (arc ∷ [])
target_one count arc below = All-from_recursion (λ a. a.target.number < count) (arc ∷ []) (below, tt)

abbrev closing : List ℕ
closing = 93 ∷ 10 ∷ []

bracket_no_space : (rest : List ℕ) → closing ≡ 32 ∷ rest → ⊥
bracket_no_space rest e = other_byte 93 32 (10 ∷ []) rest (λ same. absurd (omega (arith, same))) e

-- the first of the further arguments stands behind a space
pub first_further : (bytes : List ℕ) (count : ℕ) (a : Arc) (more : List Arc) → AreTargets count (a ∷ more) → IsFurther bytes (a ∷ more) → BeginsArgument (codes " ") bytes count a (put_further more (10 ∷ []))
first_further bytes count a more targets is = record {
  text = is;
  target = (recursion_from_All (λ a. a.target.number < count) (a ∷ more) targets).0;
  ends = further_stops more (10 ∷ []);
}

module _ (before now : List Arc) (bytes rest : List ℕ) (count : ℕ) (small : count < 2 ^ 32) (so : AreRead before now bytes rest count) where
  -- one more
  pub one_read : (arc : Arc) (behind : List ℕ) → BeginsArgument (codes " ") rest count arc behind → (length now ≡ 16 → ⊥) → AreRead before (now ++ arc ∷ []) bytes behind count
  one_read arc behind is room =
      let long = length-append now (arc ∷ []) in
      let few : length now ≤ 16 = so.few in
      record {
        done = so.done ++ arc ∷ [];
        grown = ap (λ (t : List Arc). t ++ arc ∷ []) so.grown ∙ append_assoc before so.done (arc ∷ []);
        there = λ more further. subst (λ (t : List Arc). IsFurther bytes t) (sym (append_assoc so.done (arc ∷ []) more)) (so.there (arc ∷ more) (is.text ∙ ap (λ (t : List ℕ). 32 ∷ put_argument arc t) further));
        back = λ all targets further. again all targets further (so.back all targets further);
        targets = targets_more count now (arc ∷ []) so.targets (target_one count arc is.target);
        few = room_for (length now) (length (now ++ arc ∷ [])) few room long;
      }
    where
      again : (all : List Arc) → AreTargets count all → IsFurther bytes all → ((more : List Arc) × (all ≡ so.done ++ more) × IsFurther rest more) → (more : List Arc) × (all ≡ (so.done ++ arc ∷ []) ++ more) × IsFurther behind more
      again all targets further ([], split, closes) = absurd (bracket_no_space (put_argument arc behind) (sym closes ∙ is.text))
      again all targets further (a ∷ more, split, closes) =
          let own : AreTargets count (a ∷ more) = tail_of count so.done (a ∷ more) (subst (AreTargets count) split targets) in
          let same = argument_behind (codes " ") rest count small a arc (put_further more (10 ∷ [])) behind (first_further rest count a more own closes) is in
          (more, split ∙ ap (λ (x : Arc). so.done ++ x ∷ more) same.0 ∙ sym (append_assoc so.done (arc ∷ []) more), sym same.1)

  -- the bracket closes them
  pub all_read : rest ≡ codes "]" ++ line_feed → Appended before now bytes count
  all_read closes = record {
    more = so.done;
    grown = so.grown;
    text = subst (λ (t : List Arc). IsFurther bytes t) (append-nil so.done) (so.there [] closes);
    targets = so.targets;
    few = so.few;
  }

  -- no more, where the bracket does not close and no argument begins
  pub none_further : (rest ≡ codes "]" ++ line_feed → ⊥) → ((arc : Arc) (behind : List ℕ) → BeginsArgument (codes " ") rest count arc behind → ⊥)
      → (more : List Arc) → IsFurther bytes more → AreTargets count more → ⊥
  none_further unclosed none more is targets = go (so.back more targets is)
    where
      go : ((others : List Arc) × (more ≡ so.done ++ others) × IsFurther rest others) → ⊥
      go ([], split, closes) = unclosed closes
      go (a ∷ others, split, closes) = none a (put_further others (10 ∷ [])) (first_further rest count a others (tail_of count so.done (a ∷ others) (subst (AreTargets count) split targets)) closes)

  -- nor where there are 16
  pub too_many : (rest ≡ codes "]" ++ line_feed → ⊥) → length now ≡ 16 → (more : List Arc) → IsFurther bytes more → AreTargets count more → length before + length more ≤ 16 → ⊥
  too_many unclosed full more is targets most = go (so.back more targets is)
    where
      go : ((others : List Arc) × (more ≡ so.done ++ others) × IsFurther rest others) → ⊥
      go ([], split, closes) = unclosed closes
      go (a ∷ others, split, closes) =
          let whole : length more ≡ length so.done + length (a ∷ others) = ap length split ∙ length-append so.done (a ∷ others) in
          let long : length now ≡ length before + length so.done = ap length so.grown ∙ length-append before so.done in
          absurd (omega (arith, whole, long, full, most))

-- ---- all arguments of a line

feed_no_bracket : (rest : List ℕ) → line_feed ≡ 91 ∷ rest → ⊥
feed_no_bracket rest e = other_byte 10 91 [] rest (λ same. absurd (omega (arith, same))) e

-- none
pub no_arguments : (bytes : List ℕ) (count : ℕ) → bytes ≡ line_feed → AreArguments bytes count []
no_arguments bytes count is = record { text = is; targets = All-from_recursion (λ a. a.target.number < count) [] tt; few = omega arith }

first_argument : (bytes : List ℕ) (count : ℕ) (a : Arc) (more : List Arc) → AreArguments bytes count (a ∷ more) → BeginsArgument (codes "[") bytes count a (put_further more (10 ∷ []))
first_argument bytes count a more is = record {
  text = is.text;
  target = (recursion_from_All (λ a. a.target.number < count) (a ∷ more) is.targets).0;
  ends = further_stops more (10 ∷ []);
}

-- no first one
pub none_first : (bytes : List ℕ) (count : ℕ) → (bytes ≡ line_feed → ⊥) → ((arc : Arc) (rest : List ℕ) → BeginsArgument (codes "[") bytes count arc rest → ⊥) → (arcs : List Arc) → AreArguments bytes count arcs → ⊥
none_first bytes count more none [] is = more is.text
none_first bytes count more none (a ∷ arcs) is = none a (put_further arcs (10 ∷ [])) (first_argument bytes count a arcs is)

-- the first one and the others
pub arguments_read : (bytes rest : List ℕ) (count : ℕ) (first : Arc) (arcs : List Arc) → BeginsArgument (codes "[") bytes count first rest → Appended (first ∷ []) arcs rest count → AreArguments bytes count arcs
arguments_read bytes rest count first arcs is others = record {
  text = is.text ∙ ap (λ (t : List ℕ). 91 ∷ put_argument first t) others.text ∙ sym (ap (λ (xs : List Arc). put_arguments xs (10 ∷ [])) others.grown);
  targets = others.targets;
  few = others.few;
}

-- the others are none
pub none_others : (bytes rest : List ℕ) (count : ℕ) → count < 2 ^ 32 → (first : Arc) → BeginsArgument (codes "[") bytes count first rest
    → ((more : List Arc) → IsFurther rest more → AreTargets count more → 1 + length more ≤ 16 → ⊥) → (arcs : List Arc) → AreArguments bytes count arcs → ⊥
none_others bytes rest count small first is none [] other = feed_no_bracket (put_argument first rest) (sym other.text ∙ is.text)
none_others bytes rest count small first is none (a ∷ arcs) other =
    let same = argument_behind (codes "[") bytes count small a first (put_further arcs (10 ∷ [])) rest (first_argument bytes count a arcs other) is in
    let few : length (a ∷ arcs) ≤ 16 = other.few in
    none arcs (sym same.1) (tail_of count (a ∷ []) arcs other.targets) (omega arith)
