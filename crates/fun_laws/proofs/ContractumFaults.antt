-- The terms of a translation have no faults.
use Rattle.std.proofs.Common.{◌≡◌, ℕ, zero, suc, ◌+◌, Bool, true, false, not, cond, ◌&&◌, List, [], ◌∷◌, ◌++◌, map, length, drop, count_by, Option, Some, None, refl, sym, ◌∙◌, ap, subst, arith, ℤ, nat_lt}
use Rattle.std.specs.List.{AllByRecursion, flat_map, list_all, filter}
use Rattle.std.proofs.lemmas.List.{append-nil}
use Rattle.dactl_base.specs.declared.refusal.Kind.TheVariants as kinds
use Rattle.dactl_model.specs.declared.program.Op.{Op}
use Rattle.dactl_model.proofs.Counting.{count_by-cons}
use Rattle.dactl_model.proofs.Unique.{left_true, right_true}
use Rattle.dactl_meaning.specs.declared.tree.Name.{Name}
use Rattle.dactl_meaning.specs.declared.tree.Marks.{Marks}
use Rattle.dactl_meaning.specs.declared.tree.Marks.TheVariants as marks
use Rattle.dactl_meaning.specs.declared.tree.TermTree.{TermTree}
use Rattle.dactl_meaning.specs.declared.tree.NodeTree.{NodeTree}
use Rattle.dactl_meaning.specs.declared.tree.ArgTree.{ArgTree}
use Rattle.dactl_meaning.specs.declared.tree.NodeTree.TheOpen.{NodeTree-F}
use Rattle.dactl_meaning.specs.declared.tree.NodeTree.TheViews.{roll-NodeTree, roll-ArgTree}
use Rattle.dactl_meaning.specs.declared.tree.NodeTree.TheFolds.{fold-NodeTree, fold-ArgTree, fold-roll-NodeTree, fold-roll-ArgTree, fold-roll-TermTree}
use Rattle.dactl_meaning.specs.Sight.{Seen}
use Rattle.dactl_meaning.specs.Expansion.{is_among}
use Rattle.dactl_meaning.specs.Contractum.{Target, Number, Of, Sketch, Drawn, DrawnArc, term_draws, made_by, MentionTree, node_mentions, arg_mentions, term_mentions, mentions_in, mentions_of, given_names, name_list, has_hashes}
use Rattle.dactl_meaning.specs.RuleFaults.{again as names_again, place_of, core_names, wide_in_contractum, is_pattern, not_creatable, bound_names, unbound_mentions, named_twice_in_contractum, mark_on_bound, marks_on_bound, at_if, too_many_waits_at, too_many_waits, each_at, contractum_faults, suspended_again, mark_place}
use Rattle.fun_meaning.specs.declared.tree.Expr.{Expr}
use Rattle.fun_meaning.specs.declared.tree.Expr.TheOpen.{Expr-F}
use Rattle.fun_meaning.specs.declared.tree.Expr.TheViews.{roll-Expr}
use Rattle.fun_meaning.specs.declared.tree.Expr.TheFolds.{fold-roll-Expr}
use Rattle.fun_meaning.specs.declared.tree.Fun.{Fun}
use Rattle.fun_meaning.specs.Names.{Spelling, check_name, operation}
use Rattle.fun_meaning.specs.Values.{is_constructor, word}
use Rattle.fun_compile.specs.Translated.{Put, bare, marked, arg_put, node_over, marks_for, waiting, checked, wrapped, made_put, put_level, put, top_of, top}
use Rattle.dactl_meaning.specs.Unplaced.{nowhere}
use Rattle.fun_meaning.specs.Sound.{sound_level, is_sound, narrow_level, is_narrow}
use Rattle.fun_meaning.proofs.Inducing.{Each, expr_induction}
use Rattle.fun_laws.proofs.Heads.{among_left}
use Rattle.fun_laws.proofs.Drawing.{drawn_puts, bare_draws, integer_draws, over_draws, checked_draws}
use Rattle.fun_laws.proofs.Lists.{not_false, length_of_map, filter_none, flat_none}
use Rattle.fun_laws.proofs.Starred.{starred_marked, starred_bare}
use Rattle.fun_meaning.proofs.Zips.{each_append, each_weaken}

-- ---- what terms mention

abbrev node_mentioned : NodeTree → List MentionTree
node_mentioned = fold-NodeTree (List MentionTree) (List MentionTree) (List MentionTree) node_mentions arg_mentions term_mentions

abbrev arg_mentioned : ArgTree → List MentionTree
arg_mentioned = fold-ArgTree (List MentionTree) (List MentionTree) (List MentionTree) node_mentions arg_mentions term_mentions

pub bare_mentions : (m : Marks) (x : Spelling) → mentions_in (bare m x) ≡ record { name = word x; marks = m } ∷ []
bare_mentions m x = fold-roll-TermTree (List MentionTree) (List MentionTree) (List MentionTree) node_mentions arg_mentions term_mentions (record { marks = m; name = Some (word x); node = None })

marked_mentions : (m : Marks) (node : NodeTree) → mentions_in (marked m node) ≡ node_mentioned node
marked_mentions m node = fold-roll-TermTree (List MentionTree) (List MentionTree) (List MentionTree) node_mentions arg_mentions term_mentions (record { marks = m; name = None; node = Some node })

integer_mentions : (m : Marks) (i : ℤ) → mentions_in (marked m (roll-NodeTree (NodeTree-F.Integer i nowhere))) ≡ []
integer_mentions m i =
    marked_mentions m (roll-NodeTree (NodeTree-F.Integer i nowhere)) ∙ fold-roll-NodeTree (List MentionTree) (List MentionTree) (List MentionTree) node_mentions arg_mentions term_mentions (NodeTree-F.Integer i nowhere)

arg_mentions_is : (waits : Bool) (t : TermTree) → arg_mentioned (roll-ArgTree (record { waits = waits; term = t })) ≡ mentions_in t
arg_mentions_is waits t = fold-roll-ArgTree (List MentionTree) (List MentionTree) (List MentionTree) node_mentions arg_mentions term_mentions (record { waits = waits; term = t })

puts_mention : (args : List Put) → flat_map (λ (a : List MentionTree). a) (map arg_mentioned (map arg_put args)) ≡ flat_map (λ (a : Put). mentions_in a.term) args
puts_mention [] = refl
puts_mention (a ∷ args) =
    ap (λ (ms : List MentionTree). ms ++ flat_map (λ (b : List MentionTree). b) (map arg_mentioned (map arg_put args))) (arg_mentions_is (not a.pure) a.term)
    ∙ ap (λ (ms : List MentionTree). mentions_in a.term ++ ms) (puts_mention args)

over_mentions : (m : Marks) (g : Spelling) (args : List Put) → mentions_in (marked m (node_over g args)) ≡ flat_map (λ (a : Put). mentions_in a.term) args
over_mentions m g args =
    marked_mentions m (node_over g args) ∙ fold-roll-NodeTree (List MentionTree) (List MentionTree) (List MentionTree) node_mentions arg_mentions term_mentions (NodeTree-F.Sym (word g) (map arg_put args)) ∙ puts_mention args

checked_mentions : (t : TermTree) → mentions_in (checked t) ≡ mentions_in t
checked_mentions t =
    marked_mentions (marks.Hashes nowhere 1) (roll-NodeTree (NodeTree-F.Sym (word check_name) (roll-ArgTree (record { waits = true; term = t }) ∷ [])))
    ∙ fold-roll-NodeTree (List MentionTree) (List MentionTree) (List MentionTree) node_mentions arg_mentions term_mentions (NodeTree-F.Sym (word check_name) (roll-ArgTree (record { waits = true; term = t }) ∷ []))
    ∙ ap (λ (ms : List MentionTree). ms ++ []) (arg_mentions_is true t) ∙ append-nil (mentions_in t)

-- ---- good sketches and mentions

pub drawn_long : (k : ℕ) (args : List Put) → length (drawn_puts k args) ≡ length args
drawn_long k [] = refl
drawn_long k (a ∷ args) = ap suc (drawn_long (k + length (term_draws a.term k).made) args)

abbrev pub drawn_arc : DrawnArc → Bool × Target
drawn_arc a = (a.waits, a.drawn.target)

drawn_waits : (k : ℕ) (args : List Put) → count_by (λ (a : Bool × Target). a.0) (map drawn_arc (drawn_puts k args)) ≡ waiting args
drawn_waits k [] = refl
drawn_waits k (a ∷ args) =
    count_by-cons (λ (b : Bool × Target). b.0) (drawn_arc (record { waits = not a.pure; drawn = term_draws a.term k })) (map drawn_arc (drawn_puts (k + length (term_draws a.term k).made) args))
    ∙ ap (λ n. cond (not a.pure) 1 0 + n) (drawn_waits (k + length (term_draws a.term k).made) args) ∙ sym (count_by-cons (λ (b : Put). not b.pure) a args)

not_less : (n : ℕ) → nat_lt n n ≡ false
not_less n = grind arith

no_fault_waits : (s : Sketch) (n : ℕ) → count_by (λ (a : Bool × Target). a.0) s.arcs ≡ n → too_many_waits_at s (marks_for n) ≡ []
no_fault_waits s zero counts = refl
no_fault_waits s (suc n) counts = ap (λ c. at_if (nat_lt c (suc n)) 0) counts ∙ ap (λ b. at_if b 0) (not_less (suc n))

seven_none : (a b c d f h g : List ℕ) → a ≡ [] → b ≡ [] → c ≡ [] → d ≡ [] → f ≡ [] → h ≡ [] → g ≡ []
    → each_at kinds.TooWide a ++ each_at kinds.Unbound b ++ each_at kinds.NamedTwice c ++ each_at kinds.NotCreatable d ++ each_at kinds.MarkOnBound f ++ each_at kinds.MarkOnBound h ++ each_at kinds.TooManyWaits g ≡ []
seven_none a b c d f h g one two three four five six seven = rw (one, two, three, four, five, six, seven) refl

-- a variable may be mentioned without marks and with `*`
mark_fair : (m : Marks) (is_root : Bool) → has_hashes m ≡ false → mark_on_bound true is_root m ≡ []
mark_fair marks.Plain is_root none = refl
mark_fair (marks.Star p) is_root none = refl
mark_fair (marks.Hashes p count) is_root none = absurd (cc none)

module _ (e : Fun) (look : List ℕ → Option Seen) (fits : Spelling → ℕ → Bool) (vars : List Spelling) (seen : (g : Spelling) (count : ℕ) → fits g count ≡ true → is_pattern (look g) ≡ false) (check_seen : is_pattern (look check_name) ≡ false) where
  -- a new node without a fault
  pub record IsGood (s : Sketch) : Type 0 where
    pub name : s.name ≡ None
    pub narrow : nat_lt 16 (length s.arcs) ≡ false
    pub symbol : AllByRecursion (λ (n : Name). is_pattern (look n.text) ≡ false) (core_names s.core)
    pub waits : too_many_waits_at s s.marks ≡ []

  -- a mention without a fault
  pub record IsFair (m : MentionTree) : Type 0 where
    pub bound : is_among vars m.name.text ≡ true
    pub mark : has_hashes m.marks ≡ false

  pub record AreGood (t : TermTree) (k : ℕ) : Type 0 where
    pub made : AllByRecursion IsGood (term_draws t k).made
    pub mentioned : AllByRecursion IsFair (mentions_in t)

  abbrev IsClaim : Expr → Type 0
  IsClaim x = is_sound fits vars x ≡ true → is_narrow x ≡ true → (k : ℕ) → AreGood (put e x).term k

  args_good : (xs : List Expr) → Each IsClaim xs → list_all (λ b. b) (map (is_sound fits vars) xs) ≡ true → list_all (λ b. b) (map is_narrow xs) ≡ true → (k : ℕ)
      → AllByRecursion IsGood (flat_map (λ (a : DrawnArc). a.drawn.made) (drawn_puts k (map (put e) xs))) × AllByRecursion IsFair (flat_map (λ (a : Put). mentions_in a.term) (map (put e) xs))
  args_good [] each sound narrow k = (tt, tt)
  args_good (x ∷ xs) each sound narrow k =
      let here = each.0 (left_true _ _ sound) (left_true _ _ narrow) k in
      let rest = args_good xs each.1 (right_true _ _ sound) (right_true _ _ narrow) (k + length (term_draws (put e x).term k).made) in (
        each_append IsGood (term_draws (put e x).term k).made (flat_map (λ (a : DrawnArc). a.drawn.made) (drawn_puts (k + length (term_draws (put e x).term k).made) (map (put e) xs))) here.made rest.0,
        each_append IsFair (mentions_in (put e x).term) (flat_map (λ (a : Put). mentions_in a.term) (map (put e) xs)) here.mentioned rest.1,
      )

  pub bare_good : (m : Marks) (x : Spelling) (k : ℕ) → is_among vars x ≡ true → has_hashes m ≡ false → AreGood (bare m x) k
  bare_good m x k among mark = record {
    made = subst (λ (d : Drawn). AllByRecursion IsGood d.made) (sym (bare_draws m x k)) tt;
    mentioned = subst (AllByRecursion IsFair) (sym (bare_mentions m x)) (record { bound = among; mark = mark }, tt);
  }

  integer_good : (m : Marks) (i : ℤ) (k : ℕ) → too_many_waits_at (record { name = None; marks = m; core = Number i; arcs = [] }) m ≡ [] → AreGood (marked m (roll-NodeTree (NodeTree-F.Integer i nowhere))) k
  integer_good m i k waits = record {
    made = subst (λ (d : Drawn). AllByRecursion IsGood d.made) (sym (integer_draws m i k)) (record { name = refl; narrow = refl; symbol = tt; waits = waits }, tt);
    mentioned = subst (AllByRecursion IsFair) (sym (integer_mentions m i)) tt;
  }

  -- a name over good arguments
  over_good : (g : Spelling) (xs : List Expr) (m : Marks) (k : ℕ) → is_pattern (look g) ≡ false → nat_lt 16 (length xs) ≡ false
      → too_many_waits_at (record { name = None; marks = m; core = Of (word g); arcs = map drawn_arc (drawn_puts (k + 1) (map (put e) xs)) }) m ≡ []
      → Each IsClaim xs → list_all (λ b. b) (map (is_sound fits vars) xs) ≡ true → list_all (λ b. b) (map is_narrow xs) ≡ true → AreGood (marked m (node_over g (map (put e) xs))) k
  over_good g xs m k symbol narrow waits each sound narrows =
      let args = args_good xs each sound narrows (k + 1) in
      let long : length (map drawn_arc (drawn_puts (k + 1) (map (put e) xs))) ≡ length xs = length_of_map drawn_arc (drawn_puts (k + 1) (map (put e) xs)) ∙ drawn_long (k + 1) (map (put e) xs) ∙ length_of_map (put e) xs in
      record {
        made = subst (λ (d : Drawn). AllByRecursion IsGood d.made) (sym (over_draws m g (map (put e) xs) k)) (record { name = refl; narrow = ap (nat_lt 16) long ∙ narrow; symbol = (symbol, tt); waits = waits }, args.0);
        mentioned = subst (AllByRecursion IsFair) (sym (over_mentions m g (map (put e) xs))) args.1;
      }

  checked_good : (t : TermTree) (k : ℕ) → AreGood t (k + 1) → AreGood (checked t) k
  checked_good t k good = record {
    made = subst (λ (d : Drawn). AllByRecursion IsGood d.made) (sym (checked_draws t k)) (record { name = refl; narrow = refl; symbol = (check_seen, tt); waits = refl }, each_append IsGood (term_draws t (k + 1)).made [] good.made tt);
    mentioned = subst (AllByRecursion IsFair) (sym (checked_mentions t)) good.mentioned;
  }

  for_good : (g : Spelling) (xs : List Expr) (k : ℕ) → is_pattern (look g) ≡ false → nat_lt 16 (length xs) ≡ false → Each IsClaim xs → list_all (λ b. b) (map (is_sound fits vars) xs) ≡ true → list_all (λ b. b) (map is_narrow xs) ≡ true
      → AreGood (marked (marks_for (waiting (map (put e) xs))) (node_over g (map (put e) xs))) k
  for_good g xs k symbol narrow each sound narrows =
      over_good g xs (marks_for (waiting (map (put e) xs))) k symbol narrow
      (no_fault_waits (record { name = None; marks = marks_for (waiting (map (put e) xs)); core = Of (word g); arcs = map drawn_arc (drawn_puts (k + 1) (map (put e) xs)) }) (waiting (map (put e) xs)) (drawn_waits (k + 1) (map (put e) xs))) each sound narrows

  wrapped_good : (g : Spelling) (xs : List Expr) (o : Option Op) (k : ℕ) → is_pattern (look g) ≡ false → nat_lt 16 (length xs) ≡ false → Each IsClaim xs → list_all (λ b. b) (map (is_sound fits vars) xs) ≡ true → list_all (λ b. b) (map is_narrow xs) ≡ true
      → AreGood (wrapped o (marked (marks_for (waiting (map (put e) xs))) (node_over g (map (put e) xs)))) k
  wrapped_good g xs None k symbol narrow each sound narrows = for_good g xs k symbol narrow each sound narrows
  wrapped_good g xs (Some o) k symbol narrow each sound narrows = checked_good (marked (marks_for (waiting (map (put e) xs))) (node_over g (map (put e) xs))) k (for_good g xs (k + 1) symbol narrow each sound narrows)

  either_good : (g : Spelling) (xs : List Expr) (b : Bool) (k : ℕ) → is_pattern (look g) ≡ false → nat_lt 16 (length xs) ≡ false → Each IsClaim xs → list_all (λ b. b) (map (is_sound fits vars) xs) ≡ true → list_all (λ b. b) (map is_narrow xs) ≡ true
      → AreGood (made_put b g (map (put e) xs)).term k
  either_good g xs true k symbol narrow each sound narrows = over_good g xs marks.Plain k symbol narrow refl each sound narrows
  either_good g xs false k symbol narrow each sound narrows = wrapped_good g xs (operation g) k symbol narrow each sound narrows

  record MadeParts (g : Name) (xs : List Expr) : Type 0 where
    pub fit : fits g.text (length xs) ≡ true
    pub sound : list_all (λ b. b) (map (is_sound fits vars) xs) ≡ true
    pub narrow : nat_lt 16 (length xs) ≡ false
    pub narrows : list_all (λ b. b) (map is_narrow xs) ≡ true

  made_parts : (g : Name) (xs : List Expr) → is_sound fits vars (roll-Expr (Expr-F.Made g xs)) ≡ true → is_narrow (roll-Expr (Expr-F.Made g xs)) ≡ true → MadeParts g xs
  made_parts g xs sound narrow =
      let one : (fits g.text (length (map (is_sound fits vars) xs)) && list_all (λ b. b) (map (is_sound fits vars) xs)) ≡ true = sym (fold-roll-Expr Bool (sound_level fits vars) (Expr-F.Made g xs)) ∙ sound in
      let two : (not (nat_lt 16 (length (map is_narrow xs))) && list_all (λ b. b) (map is_narrow xs)) ≡ true = sym (fold-roll-Expr Bool narrow_level (Expr-F.Made g xs)) ∙ narrow in
      record {
        fit = ap (fits g.text) (sym (length_of_map (is_sound fits vars) xs)) ∙ left_true _ _ one;
        sound = right_true _ _ one;
        narrow = ap (nat_lt 16) (sym (length_of_map is_narrow xs)) ∙ not_false (nat_lt 16 (length (map is_narrow xs))) (left_true _ _ two);
        narrows = right_true _ _ two;
      }

  sound_variable : (x : Name) → is_sound fits vars (roll-Expr (Expr-F.Variable x)) ≡ true → is_among vars x.text ≡ true
  sound_variable x is = sym (fold-roll-Expr Bool (sound_level fits vars) (Expr-F.Variable x)) ∙ is

  puts_good : (x : Expr) → IsClaim x
  puts_good = expr_induction IsClaim (record {
    variable = λ x sound narrow k. subst (λ (a : Put). AreGood a.term k) (sym (fold-roll-Expr Put (put_level e) (Expr-F.Variable x))) (bare_good marks.Plain x.text k (sound_variable x sound) refl);
    integer = λ i sound narrow k. subst (λ (a : Put). AreGood a.term k) (sym (fold-roll-Expr Put (put_level e) (Expr-F.Integer i))) (integer_good marks.Plain i k refl);
    made = λ g xs each sound narrow k.
        let parts = made_parts g xs sound narrow in
        subst (λ (a : Put). AreGood a.term k) (sym (fold-roll-Expr Put (put_level e) (Expr-F.Made g xs)))
        (either_good g.text xs (is_constructor e g.text && list_all (λ (a : Put). a.pure) (map (put e) xs)) k (seen g.text (length xs) parts.fit) parts.narrow each parts.sound parts.narrows);
  })

  -- ---- with `*` before what is pure

  each_claim : (xs : List Expr) → Each IsClaim xs
  each_claim [] = tt
  each_claim (x ∷ xs) = (puts_good x, each_claim xs)

  top_either : (g : Spelling) (xs : List Expr) (b : Bool) (k : ℕ) → is_pattern (look g) ≡ false → nat_lt 16 (length xs) ≡ false → list_all (λ b. b) (map (is_sound fits vars) xs) ≡ true → list_all (λ b. b) (map is_narrow xs) ≡ true
      → AreGood (top_of (made_put b g (map (put e) xs))) k
  top_either g xs true k symbol narrow sound narrows =
      subst (λ t. AreGood t k) (sym (starred_marked (node_over g (map (put e) xs)))) (over_good g xs (marks.Star nowhere) k symbol narrow refl (each_claim xs) sound narrows)
  top_either g xs false k symbol narrow sound narrows = wrapped_good g xs (operation g) k symbol narrow (each_claim xs) sound narrows

  abbrev IsTopClaim : Expr → Type 0
  IsTopClaim x = is_sound fits vars x ≡ true → is_narrow x ≡ true → AreGood (top e x) 0

  pub tops_good : (x : Expr) → IsTopClaim x
  tops_good = expr_induction IsTopClaim (record {
    variable = λ x sound narrow. subst (λ (a : Put). AreGood (top_of a) 0) (sym (fold-roll-Expr Put (put_level e) (Expr-F.Variable x)))
        (subst (λ t. AreGood t 0) (sym (starred_bare x.text)) (bare_good (marks.Star nowhere) x.text 0 (sound_variable x sound) refl));
    integer = λ i sound narrow. subst (λ (a : Put). AreGood (top_of a) 0) (sym (fold-roll-Expr Put (put_level e) (Expr-F.Integer i)))
        (subst (λ t. AreGood t 0) (sym (starred_marked (roll-NodeTree (NodeTree-F.Integer i nowhere)))) (integer_good (marks.Star nowhere) i 0 refl));
    made = λ g xs each sound narrow.
        let parts = made_parts g xs sound narrow in
        subst (λ (a : Put). AreGood (top_of a) 0) (sym (fold-roll-Expr Put (put_level e) (Expr-F.Made g xs)))
        (top_either g.text xs (is_constructor e g.text && list_all (λ (a : Put). a.pure) (map (put e) xs)) 0 (seen g.text (length xs) parts.fit) parts.narrow parts.sound parts.narrows);
  })

  -- ---- so there is no fault

  filtered : {A : Type 0} (P : A → Type 0) (test : A → Bool) (xs : List A) → AllByRecursion P xs → AllByRecursion P (filter test xs)
  filtered P test [] all = tt
  filtered P test (x ∷ xs) all = elim (test x) as (λ b. AllByRecursion P (cond b (x ∷ filter test xs) (filter test xs))) [ true ↦ (all.0, filtered P test xs all.1) | false ↦ filtered P test xs all.1 ]

  cores : (made : List Sketch) → AllByRecursion IsGood made → AllByRecursion (λ (n : Name). is_pattern (look n.text) ≡ false) (flat_map (λ (s : Sketch). core_names s.core) made)
  cores [] all = tt
  cores (s ∷ made) all = each_append (λ (n : Name). is_pattern (look n.text) ≡ false) (core_names s.core) (flat_map (λ (x : Sketch). core_names x.core) made) all.0.symbol (cores made all.1)

  pub no_contractum_faults : (roots : List Spelling) (t : TermTree) → AreGood t 0 → contractum_faults look vars roots (t ∷ []) ≡ []
  no_contractum_faults roots t good =
      let all : AllByRecursion IsGood (made_by (t ∷ [])) = each_append IsGood (term_draws t 0).made [] good.made tt in
      let fair : AllByRecursion IsFair (mentions_of (t ∷ [])) = each_append IsFair (mentions_in t) [] good.mentioned tt in
      let wide : wide_in_contractum (t ∷ []) ≡ [] =
      ap (λ (ss : List Sketch). map place_of (flat_map (λ (s : Sketch). core_names s.core) ss)) (filter_none (λ (s : Sketch). nat_lt 16 (length s.arcs)) (made_by (t ∷ [])) (each_weaken IsGood (λ (s : Sketch). nat_lt 16 (length s.arcs) ≡ false) (λ s is. is.narrow) (made_by (t ∷ [])) all)) in
      let unbound : unbound_mentions vars (t ∷ []) ≡ [] =
      ap (λ (ms : List MentionTree). map (λ (m : MentionTree). place_of m.name) ms) (filter_none (λ (m : MentionTree). not (is_among (bound_names vars (t ∷ [])) m.name.text)) (mentions_of (t ∷ []))
      (each_weaken IsFair (λ (m : MentionTree). not (is_among (bound_names vars (t ∷ [])) m.name.text) ≡ false) (λ m is. ap not (among_left vars (map (λ (n : Name). n.text) (given_names (made_by (t ∷ [])))) m.name.text is.bound)) (mentions_of (t ∷ [])) fair)) in
      let given : given_names (made_by (t ∷ [])) ≡ [] = flat_none (λ (s : Sketch). name_list s.name) (made_by (t ∷ [])) (each_weaken IsGood (λ (s : Sketch). name_list s.name ≡ []) (λ s is. ap name_list is.name) (made_by (t ∷ [])) all) in
      let twice : named_twice_in_contractum vars (t ∷ []) ≡ [] = ap (λ (ns : List Name). map place_of (names_again vars ns)) given in
      let creatable : not_creatable look (t ∷ []) ≡ [] = ap (λ (ns : List Name). map place_of ns) (filter_none (λ (n : Name). is_pattern (look n.text)) (flat_map (λ (s : Sketch). core_names s.core) (made_by (t ∷ []))) (cores (made_by (t ∷ [])) all)) in
      let mark : marks_on_bound vars roots (t ∷ []) ≡ [] =
      flat_none (λ (m : MentionTree). mark_on_bound (is_among vars m.name.text) (is_among roots m.name.text) m.marks) (filter (λ (m : MentionTree). is_among (bound_names vars (t ∷ [])) m.name.text) (mentions_of (t ∷ [])))
      (each_weaken IsFair (λ (m : MentionTree). mark_on_bound (is_among vars m.name.text) (is_among roots m.name.text) m.marks ≡ [])
      (λ m is. ap (λ b. mark_on_bound b (is_among roots m.name.text) m.marks) is.bound ∙ mark_fair m.marks (is_among roots m.name.text) is.mark) (filter (λ (m : MentionTree). is_among (bound_names vars (t ∷ [])) m.name.text) (mentions_of (t ∷ [])))
      (filtered IsFair (λ (m : MentionTree). is_among (bound_names vars (t ∷ [])) m.name.text) (mentions_of (t ∷ [])) fair)) in
      let again : suspended_again roots (t ∷ []) ≡ [] =
      ap (λ (ms : List MentionTree). flat_map (λ (m : MentionTree). mark_place m.marks) (drop 1 ms)) (filter_none (λ (m : MentionTree). has_hashes m.marks && is_among roots m.name.text) (mentions_of (t ∷ []))
      (each_weaken IsFair (λ (m : MentionTree). (has_hashes m.marks && is_among roots m.name.text) ≡ false) (λ m is. ap (λ b. b && is_among roots m.name.text) is.mark) (mentions_of (t ∷ [])) fair)) in
      let waits : too_many_waits (t ∷ []) ≡ [] = flat_none (λ (s : Sketch). too_many_waits_at s s.marks) (made_by (t ∷ [])) (each_weaken IsGood (λ (s : Sketch). too_many_waits_at s s.marks ≡ []) (λ s is. is.waits) (made_by (t ∷ [])) all) in
      seven_none (wide_in_contractum (t ∷ [])) (unbound_mentions vars (t ∷ [])) (named_twice_in_contractum vars (t ∷ [])) (not_creatable look (t ∷ [])) (marks_on_bound vars roots (t ∷ [])) (suspended_again roots (t ∷ [])) (too_many_waits (t ∷ [])) wide unbound twice creatable mark again waits
