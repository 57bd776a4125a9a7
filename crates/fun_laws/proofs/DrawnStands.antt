-- The new nodes that a translated term draws stand for the expression, and are as the invariant wants.
use Rattle.std.proofs.Common.{◌≡◌, ℕ, zero, suc, ◌+◌, ◌<◌, Bool, true, false, not, cond, ◌&&◌, ◌||◌, List, [], ◌∷◌, ◌++◌, map, length, Option, Some, None, slice_get, refl, sym, ◌∙◌, ap, subst, arith, ℤ, if◌then◌else◌, ◌==◌}
use Rattle.std.specs.List.{AllZip, AllByRecursion, flat_map, list_all}
use Rattle.std.specs.Str.{bytes_eq}
use Rattle.dactl_model.specs.declared.graph.Label.{Label}
use Rattle.dactl_model.specs.declared.graph.Label.TheVariants.{Symbol, Integer}
use Rattle.dactl_model.specs.declared.graph.Mark.TheVariants.{Waiting}
use Rattle.dactl_model.specs.declared.program.Class.{Class}
use Rattle.dactl_model.specs.declared.program.Mention.TheVariants.{Old, Fresh}
use Rattle.dactl_model.specs.declared.program.FreshArc.{FreshArc}
use Rattle.dactl_model.specs.declared.program.FreshNode.{FreshNode}
use Rattle.dactl_model.specs.declared.program.Op.{Op}
use Rattle.dactl_model.specs.Programs.{fresh_flags}
use Rattle.dactl_model.proofs.Counting.{count_by-cons}
use Rattle.dactl_model.proofs.Unique.{left_true, right_true}
use Rattle.dactl_meaning.specs.declared.tree.Name.{Name}
use Rattle.dactl_meaning.specs.declared.tree.Marks.{Marks}
use Rattle.dactl_meaning.specs.declared.tree.Marks.TheVariants as marks
use Rattle.dactl_meaning.specs.declared.tree.TermTree.{TermTree}
use Rattle.dactl_meaning.specs.declared.tree.NodeTree.TheOpen.{NodeTree-F}
use Rattle.dactl_meaning.specs.declared.tree.NodeTree.TheViews.{roll-NodeTree}
use Rattle.dactl_meaning.specs.Sight.{Seen, SeenSymbol}
use Rattle.dactl_meaning.specs.Expansion.{is_among, number_in}
use Rattle.dactl_meaning.specs.Contractum.{Target, Made, Named, Number, Of, Sketch, Drawn, DrawnArc, drawn_node, term_draws, mark_of, symbol_label, number_given, denotes, fresh_of}
use Rattle.fun_meaning.specs.declared.tree.Expr.{Expr}
use Rattle.fun_meaning.specs.declared.tree.Expr.TheOpen.{Expr-F}
use Rattle.fun_meaning.specs.declared.tree.Expr.TheViews.{roll-Expr, out-roll-Expr}
use Rattle.fun_meaning.specs.declared.tree.Expr.TheFolds.{fold-roll-Expr}
use Rattle.fun_meaning.specs.declared.tree.Fun.{Fun}
use Rattle.fun_meaning.specs.Names.{Spelling, same_name, check_name, operation, place_of}
use Rattle.fun_meaning.specs.Values.{is_constructor, word}
use Rattle.fun_meaning.specs.Translation.{IsTerm, StandsNamed, StandsLevel, StandsAt, awaited, FitsArity, FitsSymbol, is_operation, names_operation, is_arithmetic, names_check, is_check, names_constructor, is_settled, SettledNode, SettledAt, NoOperationNode, NoOperation, IsThereFresh, IsTidyFreshArc, IsTidyFresh}
use Rattle.fun_compile.specs.Translated.{Put, bare, marked, node_over, marks_for, waiting, checked, wrapped, made_put, put_level, put, top_of, top}
use Rattle.dactl_meaning.specs.Unplaced.{nowhere}
use Rattle.fun_meaning.specs.Sound.{sound_level, is_sound}
use Rattle.fun_meaning.proofs.Inducing.{Each, expr_induction}
use Rattle.fun_laws.proofs.Standing.{Stands, stand_depth, Settled, settled_depth}
use Rattle.fun_laws.proofs.Drawing.{drawn_puts, bare_draws, integer_draws, over_draws, checked_draws, IsAt, at_head, at_tail, at_left, at_right}
use Rattle.fun_laws.proofs.Lists.{length_of_map}
use Rattle.fun_laws.proofs.Starred.{starred_marked, starred_bare}
use Rattle.fun_meaning.proofs.Zips.{each_append}
use Rattle.fun_meaning.proofs.After.{get_map}

-- ---- names

pub bytes_same : (v w : Spelling) → bytes_eq v w ≡ same_name v w
bytes_same [] [] = refl
bytes_same [] (b ∷ bs) = refl
bytes_same (a ∷ rest) [] = refl
bytes_same (a ∷ rest) (b ∷ bs) = ap (λ t. (a == b) && t) (bytes_same rest bs)

number_step : (b : Bool) (n : ℕ) → (if b then 0 else n + 1) ≡ (if b then 0 else suc n)
number_step true n = refl
number_step false n = omega arith

pub number_place : (names : List Spelling) (x : Spelling) → number_in names x ≡ place_of names x
number_place [] x = refl
number_place (y ∷ names) x =
    ap (λ b. if b then 0 else number_in names x + 1) (bytes_same y x)
    ∙ ap (λ n. if same_name y x then 0 else n + 1) (number_place names x) ∙ number_step (same_name y x) (place_of names x)

place_one : (y : Spelling) (names : List Spelling) (x : Spelling) (b : Bool) → same_name y x ≡ b → (b || is_among names x) ≡ true → (is_among names x ≡ true → place_of names x < length names) → (if b then 0 else suc (place_of names x)) < suc (length names)
place_one y names x true same among rest = omega arith
place_one y names x false same among rest = let below : place_of names x < length names = rest among in omega arith

pub place_below : (names : List Spelling) (x : Spelling) → is_among names x ≡ true → place_of names x < length names
place_below [] x among = cc
place_below (y ∷ names) x among = place_one y names x (same_name y x) refl (sym (ap (λ b. b || is_among names x) (bytes_same y x)) ∙ among) (λ inner. place_below names x inner)

-- a name over so many arguments, that the module sees as the symbol of that name
pub record IsSeenName (e : Fun) (symbols : List Spelling) (look : List ℕ → Option Seen) (g : Spelling) (count : ℕ) : Type 0 where
  pub number : ℕ
  pub class : Class
  pub seen : look g ≡ Some (SeenSymbol number class)
  pub named : slice_get symbols number ≡ Some g
  pub fits : FitsArity e (Some g) count

no_waits : (b : Bool) → not b ≡ false → b ≡ true
no_waits true is = refl
no_waits false is = cc

module _ (e : Fun) (symbols : List Spelling) (look : List ℕ → Option Seen) (fits : Spelling → ℕ → Bool) (vars : List Spelling) (all : List Sketch)
    (seen : (g : Spelling) (count : ℕ) → fits g count ≡ true → IsSeenName e symbols look g count × (same_name g check_name ≡ false)) (check_seen : IsSeenName e symbols look check_name 1)
    (plain : (g : Spelling) → is_constructor e g ≡ true → operation g ≡ None) where
  abbrev fresh : List FreshNode
  fresh = map (fresh_of look vars all) all

  abbrev IsTidySketch : Sketch → Type 0
  IsTidySketch s = IsTidyFresh e symbols (length vars) (map (fresh_of look vars all) all) (fresh_of look vars all s)

  -- what is drawn stands for the expression
  pub record IsPut (x : Expr) (pure : Bool) (d : Drawn) : Type 0 where
    pub stands : Stands symbols vars fresh x (denotes vars all d.target)
    pub no_operation : NoOperation symbols (length vars) fresh (denotes vars all d.target)
    pub there : IsThereFresh (length vars) fresh (denotes vars all d.target)
    pub settled : pure ≡ true → Settled e symbols (length vars) fresh (denotes vars all d.target)
    pub tidy : AllByRecursion (λ s. IsTidyFresh e symbols (length vars) (map (fresh_of look vars all) all) (fresh_of look vars all s)) d.made

  abbrev PutsAs : Put → Expr → Type 0
  PutsAs a x = (k : ℕ) → IsAt all k (term_draws a.term k).made → IsPut x a.pure (term_draws a.term k)

  abbrev IsClaim : Expr → Type 0
  IsClaim x = is_sound fits vars x ≡ true → PutsAs (put e x) x

  -- the arcs of a new node over these
  abbrev arcs_of : List DrawnArc → List FreshArc
  arcs_of ds = map (λ (a : Bool × Target). record { to = denotes vars all a.1; waits = a.0 }) (map (λ (a : DrawnArc). (a.waits, a.drawn.target)) ds)

  record ArePut (xs : List Expr) (puts : List Put) (ds : List DrawnArc) : Type 0 where
    pub stand : AllZip (λ x (a : FreshArc). Stands symbols vars fresh x a.to) xs (arcs_of ds)
    pub flags : fresh_flags (arcs_of ds) ≡ waiting puts
    pub long : length (arcs_of ds) ≡ length xs
    pub arcs_tidy : (label : Label) → AllByRecursion (IsTidyFreshArc e symbols (length vars) fresh label) (arcs_of ds)
    pub settled : list_all (λ a. a.pure) puts ≡ true → AllByRecursion (λ (a : FreshArc). Settled e symbols (length vars) fresh a.to) (arcs_of ds)
    pub tidy : AllByRecursion IsTidySketch (flat_map (λ a. a.drawn.made) ds)

  are_put : (xs : List Expr) → Each IsClaim xs → list_all (λ b. b) (map (is_sound fits vars) xs) ≡ true → (k : ℕ) → IsAt all k (flat_map (λ a. a.drawn.made) (drawn_puts k (map (put e) xs))) → ArePut xs (map (put e) xs) (drawn_puts k (map (put e) xs))
  are_put [] each sound k at = record { stand = tt; flags = refl; long = refl; arcs_tidy = λ label. tt; settled = λ pure. tt; tidy = tt }
  are_put (x ∷ xs) each sound k at =
      let a = put e x in
      let made = (term_draws a.term k).made in
      let more = flat_map (λ (b : DrawnArc). b.drawn.made) (drawn_puts (k + length (term_draws a.term k).made) (map (put e) xs)) in
      let here : IsPut x a.pure (term_draws a.term k) = each.0 (left_true _ _ sound) k (at_left all k made more at) in
      let rest = are_put xs each.1 (right_true _ _ sound) (k + length made) (at_right all k made more at) in
      let ds = drawn_puts (k + length made) (map (put e) xs) in
      record {
        stand = (here.stands, rest.stand);
        flags = count_by-cons (λ (b : FreshArc). b.waits) (record { to = denotes vars all (term_draws a.term k).target; waits = not a.pure }) (arcs_of ds)
            ∙ ap (λ n. cond (not a.pure) 1 0 + n) rest.flags ∙ sym (count_by-cons (λ (b : Put). not b.pure) a (map (put e) xs));
        long = ap suc rest.long;
        arcs_tidy = λ label. (record { settled = λ free. here.settled (no_waits a.pure free); checked = λ no_check. here.no_operation; there = here.there }, rest.arcs_tidy label);
        settled = λ pure. (here.settled (left_true _ _ pure), rest.settled (right_true _ _ pure));
        tidy = each_append IsTidySketch made more here.tidy rest.tidy;
      }

  -- a new node over arguments, of the symbol of that name
  record IsOver (g : Spelling) (xs : List Expr) (puts : List Put) (m : Marks) (k : ℕ) : Type 0 where
    pub term : (d : ℕ) × IsTerm symbols fresh (StandsAt d symbols vars fresh) g xs (Fresh k)
    pub operates : operation g ≡ None → NoOperation symbols (length vars) fresh (Fresh k)
    pub there : k < length fresh
    pub settled : is_constructor e g ≡ true → list_all (λ a. a.pure) puts ≡ true → Settled e symbols (length vars) fresh (Fresh k)
    pub tidy : AllByRecursion IsTidySketch (drawn_node k None m (Of (word g)) (drawn_puts (k + 1) puts)).made

  abbrev sketch_over : Spelling → List Put → Marks → ℕ → Sketch
  sketch_over g puts m k = record { name = None; marks = m; core = Of (word g); arcs = map (λ (a : DrawnArc). (a.waits, a.drawn.target)) (drawn_puts (k + 1) puts) }

  no_operation_new : (k : ℕ) (node : FreshNode) (f : ℕ) (g : Spelling) → slice_get fresh k ≡ Some node → node.label ≡ Symbol f → slice_get symbols f ≡ Some g → operation g ≡ None → NoOperation symbols (length vars) fresh (Fresh k)
  no_operation_new k node f g at label named none =
      subst (NoOperationNode symbols) (sym at) (ap (is_arithmetic symbols) label ∙ ap names_operation named ∙ ap is_operation none)

  settled_new : (k : ℕ) (node : FreshNode) (f : ℕ) (g : Spelling) → slice_get fresh k ≡ Some node → node.label ≡ Symbol f → slice_get symbols f ≡ Some g → is_constructor e g ≡ true → AllByRecursion (λ (a : FreshArc). Settled e symbols (length vars) fresh a.to) node.arcs
      → Settled e symbols (length vars) fresh (Fresh k)
  settled_new k node f g at label named constructor all_settled =
      let deep = settled_depth e symbols (length vars) fresh node.arcs all_settled in
      (suc deep.0, subst (SettledNode e symbols (SettledAt deep.0 e symbols (length vars) fresh)) (sym at) (ap (is_settled e symbols) label ∙ ap (names_constructor e) named ∙ constructor, deep.1))

  fresh_length : length fresh ≡ length all
  fresh_length = length_of_map (fresh_of look vars all) all

  get_length : {A : Type 0} (xs : List A) (k : ℕ) (x : A) → slice_get xs k ≡ Some x → k < length xs
  get_length [] k x at = absurd (cc at)
  get_length (y ∷ xs) zero x at = omega arith
  get_length (y ∷ xs) (suc k) x at = let rest : k < length xs = get_length xs k x at in omega arith

  over : (g : Spelling) (xs : List Expr) (m : Marks) (k : ℕ) → IsSeenName e symbols look g (length xs) → same_name g check_name ≡ false → awaited (mark_of m) ≡ waiting (map (put e) xs)
      → IsAt all k (drawn_node k None m (Of (word g)) (drawn_puts (k + 1) (map (put e) xs))).made → ArePut xs (map (put e) xs) (drawn_puts (k + 1) (map (put e) xs)) → IsOver g xs (map (put e) xs) m k
  over g xs m k name ordinary counts at args =
      let ds = drawn_puts (k + 1) (map (put e) xs) in
      let sketch = sketch_over g (map (put e) xs) m k in
      let node : FreshNode = fresh_of look vars all (sketch_over g (map (put e) xs) m k) in
      let here : slice_get all k ≡ Some (sketch_over g (map (put e) xs) m k) = at_head all k sketch (flat_map (λ (a : DrawnArc). a.drawn.made) ds) at in
      let there : slice_get fresh k ≡ Some (fresh_of look vars all (sketch_over g (map (put e) xs) m k)) = get_map (fresh_of look vars all) all k sketch here in
      let label : symbol_label (look g) ≡ Symbol name.number = ap symbol_label name.seen in
      let deep = stand_depth symbols vars fresh xs (arcs_of ds) args.stand in
      record {
        term = (deep.0, record { place = k; node = node; symbol = name.number; is = refl; at = there; label = label; name = name.named; ordinary = ordinary; args_stand = deep.1 });
        operates = λ none. no_operation_new k node name.number g there label name.named none;
        there = get_length fresh k node there;
        settled = λ constructor pure. settled_new k node name.number g there label name.named constructor (args.settled pure);
        tidy = (
          record {
            symbol = subst (λ l. FitsSymbol e symbols l (length (arcs_of ds))) (sym label) (subst (λ o. FitsArity e o (length (arcs_of ds))) (sym name.named) (subst (FitsArity e (Some g)) (sym args.long) name.fits));
            mark = args.flags ∙ sym counts;
            arcs_tidy = args.arcs_tidy (symbol_label (look g));
          },
          args.tidy,
        );
      }

  -- by what the term draws
  by_draw : (x : Expr) (pure : Bool) (t : TermTree) (k : ℕ) (d : Drawn) → term_draws t k ≡ d → (IsAt all k d.made → IsPut x pure d) → IsAt all k (term_draws t k).made → IsPut x pure (term_draws t k)
  by_draw x pure t k d same step at = subst (IsPut x pure) (sym same) (step (subst (λ (z : Drawn). IsAt all k z.made) same at))

  named_target : (x : Spelling) → is_among vars x ≡ true → denotes vars all (Named x) ≡ Old (place_of vars x)
  named_target x among = ap (λ b. if b then Old (number_in vars x) else Fresh (number_given all x)) among ∙ ap Old (number_place vars x)

  variable_put : (m : Marks) (x : Name) (pure : Bool) → is_among vars x.text ≡ true → PutsAs (record { pure = pure; term = bare m x.text }) (roll-Expr (Expr-F.Variable x))
  variable_put m x pure among k =
      by_draw (roll-Expr (Expr-F.Variable x)) pure (bare m x.text) k (record { target = Named x.text; made = [] }) (bare_draws m x.text k) (λ at.
      let to = named_target x.text among in
      let below = place_below vars x.text among in
      record {
        stands = (1, subst (λ y. StandsLevel symbols vars fresh (StandsAt 0 symbols vars fresh) y (denotes vars all (Named x.text))) (sym (out-roll-Expr (Expr-F.Variable x))) (record { is = to; bound = below }));
        no_operation = subst (NoOperation symbols (length vars) fresh) (sym to) below;
        there = subst (IsThereFresh (length vars) fresh) (sym to) below;
        settled = λ is. (1, subst (SettledAt 1 e symbols (length vars) fresh) (sym to) below);
        tidy = tt;
      })

  integer_put : (m : Marks) (i : ℤ) (pure : Bool) → awaited (mark_of m) ≡ 0 → PutsAs (record { pure = pure; term = marked m (roll-NodeTree (NodeTree-F.Integer i nowhere)) }) (roll-Expr (Expr-F.Integer i))
  integer_put m i pure counts k =
      by_draw (roll-Expr (Expr-F.Integer i)) pure (marked m (roll-NodeTree (NodeTree-F.Integer i nowhere))) k (drawn_node k None m (Number i) []) (integer_draws m i k) (λ at.
      let sketch : Sketch = record { name = None; marks = m; core = Number i; arcs = [] } in
      let node : FreshNode = record { label = Integer i; arcs = []; mark = mark_of m } in
      let there : slice_get fresh k ≡ Some (record { label = Integer i; arcs = []; mark = mark_of m }) = get_map (fresh_of look vars all) all k sketch (at_head all k sketch [] at) in
      record {
        stands = (1, subst (λ y. StandsLevel symbols vars fresh (StandsAt 0 symbols vars fresh) y (Fresh k)) (sym (out-roll-Expr (Expr-F.Integer i))) (record { place = k; node = node; is = refl; at = there; label = refl }));
        no_operation = subst (NoOperationNode symbols) (sym there) refl;
        there = get_length fresh k node there;
        settled = λ is. (1, subst (SettledNode e symbols (SettledAt 0 e symbols (length vars) fresh)) (sym there) (refl, tt));
        tidy = (record { symbol = tt; mark = sym counts; arcs_tidy = tt }, tt);
      })

  abbrev tree : Name → List Expr → Expr
  tree g xs = roll-Expr (Expr-F.Made g xs)

  -- a name that is no operation
  made_put_is : (g : Name) (xs : List Expr) (m : Marks) (pure : Bool) → IsSeenName e symbols look g.text (length xs) → same_name g.text check_name ≡ false → awaited (mark_of m) ≡ waiting (map (put e) xs) → operation g.text ≡ None
      → (pure ≡ true → (is_constructor e g.text ≡ true) × (list_all (λ a. a.pure) (map (put e) xs) ≡ true)) → Each IsClaim xs → list_all (λ b. b) (map (is_sound fits vars) xs) ≡ true
      → PutsAs (record { pure = pure; term = marked m (node_over g.text (map (put e) xs)) }) (tree g xs)
  made_put_is g xs m pure name ordinary counts none when each sound k =
      let puts = map (put e) xs in
      by_draw (tree g xs) pure (marked m (node_over g.text puts)) k (drawn_node k None m (Of (word g.text)) (drawn_puts (k + 1) (map (put e) xs))) (over_draws m g.text puts k) (λ at.
      let args = are_put xs each sound (k + 1) (at_tail all k (sketch_over g.text (map (put e) xs) m k) (flat_map (λ (a : DrawnArc). a.drawn.made) (drawn_puts (k + 1) (map (put e) xs))) at) in
      let is = over g.text xs m k name ordinary counts at args in
      record {
        stands = (
          suc is.term.0,
          subst (λ y. StandsLevel symbols vars fresh (StandsAt is.term.0 symbols vars fresh) y (Fresh k)) (sym (out-roll-Expr (Expr-F.Made g xs)))
              (subst (StandsNamed symbols fresh (StandsAt is.term.0 symbols vars fresh) g.text xs (Fresh k)) (sym none) is.term.1),
        );
        no_operation = is.operates none;
        there = is.there;
        settled = λ so. is.settled (when so).0 (when so).1;
        tidy = is.tidy;
      })

  check_clash : (label : Label) → label ≡ Symbol check_seen.number → is_check symbols label ≡ false → ⊥
  check_clash label is no_check =
      let clash : true ≡ false = sym (ap (is_check symbols) is ∙ ap names_check check_seen.named) ∙ no_check in
      cc

  -- an operation, below Chk
  checked_put_is : (g : Name) (xs : List Expr) (m : Marks) (o : Op) → IsSeenName e symbols look g.text (length xs) → same_name g.text check_name ≡ false → awaited (mark_of m) ≡ waiting (map (put e) xs) → operation g.text ≡ Some o
      → Each IsClaim xs → list_all (λ b. b) (map (is_sound fits vars) xs) ≡ true → PutsAs (record { pure = false; term = checked (marked m (node_over g.text (map (put e) xs))) }) (tree g xs)
  checked_put_is g xs m o name ordinary counts some each sound k =
      let puts = map (put e) xs in
      let inner : Drawn = drawn_node (k + 1) None m (Of (word g.text)) (drawn_puts (k + 1 + 1) (map (put e) xs)) in
      by_draw (tree g xs) false (checked (marked m (node_over g.text puts))) k
      (drawn_node k None (marks.Hashes nowhere 1) (Of (word check_name)) (record { waits = true; drawn = drawn_node (k + 1) None m (Of (word g.text)) (drawn_puts (k + 1 + 1) (map (put e) xs)) } ∷ []))
      (checked_draws (marked m (node_over g.text puts)) k ∙ ap (λ (d : Drawn). drawn_node k None (marks.Hashes nowhere 1) (Of (word check_name)) (record { waits = true; drawn = d } ∷ [])) (over_draws m g.text puts (k + 1))) (λ at.
      let sketch : Sketch = record { name = None; marks = marks.Hashes nowhere 1; core = Of (word check_name); arcs = (true, Made (k + 1)) ∷ [] } in
      let below = at_left all (k + 1) inner.made [] (at_tail all k sketch (inner.made ++ []) at) in
      let args = are_put xs each sound (k + 1 + 1) (at_tail all (k + 1) (sketch_over g.text (map (put e) xs) m (k + 1)) (flat_map (λ (a : DrawnArc). a.drawn.made) (drawn_puts (k + 1 + 1) (map (put e) xs))) below) in
      let is = over g.text xs m (k + 1) name ordinary counts below args in
      let arc : FreshArc = record { to = Fresh (k + 1); waits = true } in
      let node : FreshNode = record { label = symbol_label (look check_name); arcs = record { to = Fresh (k + 1); waits = true } ∷ []; mark = Waiting 1 } in
      let there : slice_get fresh k ≡ Some (record { label = symbol_label (look check_name); arcs = record { to = Fresh (k + 1); waits = true } ∷ []; mark = Waiting 1 }) =
      get_map (fresh_of look vars all) all k sketch (at_head all k sketch (inner.made ++ []) at) in
      let label : symbol_label (look check_name) ≡ Symbol check_seen.number = ap symbol_label check_seen.seen in
      record {
        stands = (
          suc is.term.0,
          subst (λ y. StandsLevel symbols vars fresh (StandsAt is.term.0 symbols vars fresh) y (Fresh k)) (sym (out-roll-Expr (Expr-F.Made g xs)))
              (subst (StandsNamed symbols fresh (StandsAt is.term.0 symbols vars fresh) g.text xs (Fresh k)) (sym some)
              (record { place = k; node = node; symbol = check_seen.number; arc = arc; is = refl; at = there; label = label; name = check_seen.named; arcs = refl; term = is.term.1 })),
        );
        no_operation = no_operation_new k node check_seen.number check_name there label check_seen.named refl;
        there = get_length fresh k node there;
        settled = λ so. absurd (cc so);
        tidy = (
          record {
            symbol = subst (λ l. FitsSymbol e symbols l 1) (sym label) (subst (λ q. FitsArity e q 1) (sym check_seen.named) check_seen.fits);
            mark = refl;
            arcs_tidy = (record { settled = λ free. absurd (cc free); checked = λ no_check. absurd (check_clash (symbol_label (look check_name)) label no_check); there = is.there }, tt);
          },
          each_append IsTidySketch inner.made [] is.tidy tt,
        );
      })

  counted : (n : ℕ) → awaited (mark_of (marks_for n)) ≡ n
  counted zero = refl
  counted (suc n) = refl

  none_waits : (puts : List Put) → list_all (λ a. a.pure) puts ≡ true → waiting puts ≡ 0
  none_waits [] pure = refl
  none_waits (a ∷ puts) pure =
      let rest : waiting puts ≡ 0 = none_waits puts (right_true a.pure (list_all (λ (b : Put). b.pure) puts) pure) in
      let first : a.pure ≡ true = left_true a.pure (list_all (λ (b : Put). b.pure) puts) pure in
      let sum : 0 + waiting puts ≡ 0 = omega arith in
      count_by-cons (λ (b : Put). not b.pure) a puts ∙ ap (λ b. cond (not b) 1 0 + waiting puts) first ∙ sum

  -- what a name is put as
  abbrev IsPutMade : Name → List Expr → Put → Type 0
  IsPutMade g xs a = PutsAs a (tree g xs)

  wrapped_put : (g : Name) (xs : List Expr) (o : Option Op) → operation g.text ≡ o → IsSeenName e symbols look g.text (length xs) → same_name g.text check_name ≡ false → Each IsClaim xs → list_all (λ b. b) (map (is_sound fits vars) xs) ≡ true
      → PutsAs (record { pure = false; term = wrapped o (marked (marks_for (waiting (map (put e) xs))) (node_over g.text (map (put e) xs))) }) (tree g xs)
  wrapped_put g xs None is name ordinary each sound = made_put_is g xs (marks_for (waiting (map (put e) xs))) false name ordinary (counted (waiting (map (put e) xs))) is (λ so. absurd (cc so)) each sound
  wrapped_put g xs (Some o) is name ordinary each sound = checked_put_is g xs (marks_for (waiting (map (put e) xs))) o name ordinary (counted (waiting (map (put e) xs))) is each sound

  either_put : (g : Name) (xs : List Expr) (b : Bool) → (is_constructor e g.text && list_all (λ a. a.pure) (map (put e) xs)) ≡ b → IsSeenName e symbols look g.text (length xs) → same_name g.text check_name ≡ false → Each IsClaim xs
      → list_all (λ b. b) (map (is_sound fits vars) xs) ≡ true → PutsAs (made_put b g.text (map (put e) xs)) (tree g xs)
  either_put g xs true is name ordinary each sound =
      let constructor : is_constructor e g.text ≡ true = left_true (is_constructor e g.text) (list_all (λ (a : Put). a.pure) (map (put e) xs)) is in
      let pure : list_all (λ a. a.pure) (map (put e) xs) ≡ true = right_true (is_constructor e g.text) (list_all (λ (a : Put). a.pure) (map (put e) xs)) is in
      made_put_is g xs marks.Plain true name ordinary (sym (none_waits (map (put e) xs) pure)) (plain g.text constructor) (λ so. (constructor, pure)) each sound
  either_put g xs false is name ordinary each sound = wrapped_put g xs (operation g.text) refl name ordinary each sound

  put_made : (g : Name) (xs : List Expr) → put e (tree g xs) ≡ made_put (is_constructor e g.text && list_all (λ a. a.pure) (map (put e) xs)) g.text (map (put e) xs)
  put_made g xs = fold-roll-Expr Put (put_level e) (Expr-F.Made g xs)

  sound_made : (g : Name) (xs : List Expr) → is_sound fits vars (tree g xs) ≡ true → (fits g.text (length xs) ≡ true) × (list_all (λ b. b) (map (is_sound fits vars) xs) ≡ true)
  sound_made g xs is =
      let level : (fits g.text (length (map (is_sound fits vars) xs)) && list_all (λ b. b) (map (is_sound fits vars) xs)) ≡ true = sym (fold-roll-Expr Bool (sound_level fits vars) (Expr-F.Made g xs)) ∙ is in
      (ap (fits g.text) (sym (length_of_map (is_sound fits vars) xs)) ∙ left_true _ _ level, right_true _ _ level)

  sound_variable : (x : Name) → is_sound fits vars (roll-Expr (Expr-F.Variable x)) ≡ true → is_among vars x.text ≡ true
  sound_variable x is = sym (fold-roll-Expr Bool (sound_level fits vars) (Expr-F.Variable x)) ∙ is

  -- the term of a sound expression draws nodes that stand for it
  pub puts : (x : Expr) → IsClaim x
  puts = expr_induction IsClaim (record {
    variable = λ x sound. subst (λ a. PutsAs a (roll-Expr (Expr-F.Variable x))) (sym (fold-roll-Expr Put (put_level e) (Expr-F.Variable x))) (variable_put marks.Plain x true (sound_variable x sound));
    integer = λ i sound. subst (λ a. PutsAs a (roll-Expr (Expr-F.Integer i))) (sym (fold-roll-Expr Put (put_level e) (Expr-F.Integer i))) (integer_put marks.Plain i true refl);
    made = λ g xs each sound.
        let parts = sound_made g xs sound in
        let known = seen g.text (length xs) parts.0 in
        subst (λ a. PutsAs a (tree g xs)) (sym (put_made g xs)) (either_put g xs (is_constructor e g.text && list_all (λ a. a.pure) (map (put e) xs)) refl known.0 known.1 each parts.1);
  })

  -- ---- with `*` before what is pure

  each_claim : (xs : List Expr) → Each IsClaim xs
  each_claim [] = tt
  each_claim (x ∷ xs) = (puts x, each_claim xs)

  abbrev TopsAs : TermTree → Expr → Type 0
  TopsAs t x = PutsAs (record { pure = false; term = t }) x

  abbrev IsTopClaim : Expr → Type 0
  IsTopClaim x = is_sound fits vars x ≡ true → TopsAs (top e x) x

  either_top : (g : Name) (xs : List Expr) (b : Bool) → (is_constructor e g.text && list_all (λ a. a.pure) (map (put e) xs)) ≡ b → IsSeenName e symbols look g.text (length xs) → same_name g.text check_name ≡ false
      → list_all (λ b. b) (map (is_sound fits vars) xs) ≡ true → TopsAs (top_of (made_put b g.text (map (put e) xs))) (tree g xs)
  either_top g xs true is name ordinary sound =
      let constructor : is_constructor e g.text ≡ true = left_true (is_constructor e g.text) (list_all (λ (a : Put). a.pure) (map (put e) xs)) is in
      let pure : list_all (λ a. a.pure) (map (put e) xs) ≡ true = right_true (is_constructor e g.text) (list_all (λ (a : Put). a.pure) (map (put e) xs)) is in
      subst (λ t. TopsAs t (tree g xs)) (sym (starred_marked (node_over g.text (map (put e) xs))))
      (made_put_is g xs (marks.Star nowhere) false name ordinary (sym (none_waits (map (put e) xs) pure)) (plain g.text constructor) (λ so. absurd (cc so)) (each_claim xs) sound)
  either_top g xs false is name ordinary sound = wrapped_put g xs (operation g.text) refl name ordinary (each_claim xs) sound

  pub tops : (x : Expr) → IsTopClaim x
  tops = expr_induction IsTopClaim (record {
    variable = λ x sound. subst (λ a. TopsAs (top_of a) (roll-Expr (Expr-F.Variable x))) (sym (fold-roll-Expr Put (put_level e) (Expr-F.Variable x)))
        (subst (λ t. TopsAs t (roll-Expr (Expr-F.Variable x))) (sym (starred_bare x.text)) (variable_put (marks.Star nowhere) x false (sound_variable x sound)));
    integer = λ i sound. subst (λ a. TopsAs (top_of a) (roll-Expr (Expr-F.Integer i))) (sym (fold-roll-Expr Put (put_level e) (Expr-F.Integer i)))
        (subst (λ t. TopsAs t (roll-Expr (Expr-F.Integer i))) (sym (starred_marked (roll-NodeTree (NodeTree-F.Integer i nowhere)))) (integer_put (marks.Star nowhere) i false refl));
    made = λ g xs each sound.
        let parts = sound_made g xs sound in
        let known = seen g.text (length xs) parts.0 in
        subst (λ a. TopsAs (top_of a) (tree g xs)) (sym (put_made g xs)) (either_top g xs (is_constructor e g.text && list_all (λ a. a.pure) (map (put e) xs)) refl known.0 known.1 parts.1);
  })
