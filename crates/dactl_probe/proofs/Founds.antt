-- What a look finds is what the readings tell; and where it finds a node, the pattern tests that node.
use Rattle.std.proofs.Common.{◌≡◌, ℕ, zero, suc, Bool, true, false, ◌&&◌, ◌||◌, ◌==◌, List, [], ◌∷◌, map, length, refl, sym, ◌∙◌, ap, slice_get, Option, Some, None, ◌⊎◌, inl, inr}
use Rattle.std.proofs.lemmas.List.{length-map}
use Rattle.dactl_model.specs.declared.graph.NodeId.{NodeId}
use Rattle.dactl_model.specs.declared.graph.Label.{Label}
use Rattle.dactl_model.specs.declared.reading.Reading.{Reading}
use Rattle.dactl_model.specs.declared.program.Pat.{Pat}
use Rattle.dactl_model.specs.declared.program.Pat.TheOpen.{Pat-F}
use Rattle.dactl_model.specs.declared.program.Pat.TheViews.{roll-Pat}
use Rattle.dactl_model.specs.declared.program.Pat.TheFolds.{fold-roll-Pat, map-Pat}
use Rattle.dactl_model.specs.Patterns.{has_symbol, is_integer, has_integer, is_character, has_character}
use Rattle.dactl_model.specs.Readings as told
use Rattle.dactl_model.specs.Readings.{Value, Told, least, greatest, opposite, answer, told_label, told_all, told_symbol, told_symbol_at, reading_of, targets_of}
use Rattle.dactl_model.proofs.Induction.{Each, pat_induction}
use Rattle.dactl_model.proofs.Told.{told_roll}
use Rattle.dactl_decide.specs.Paths.{tests, test_below, is_root}
use Rattle.dactl_decide.proofs.Trees.{tests_roll}
use Rattle.dactl_probe.specs.declared.finding.Finding.{Finding}
use Rattle.dactl_probe.specs.declared.finding.Finding.TheVariants.{No, Unknown, Yes}
use Rattle.dactl_probe.specs.Findings.{lesser, greater, denied, finding_of, found, found_level, found_label, found_all, found_symbol, found_symbol_at}
use Rattle.dactl_probe.specs.Leading.{Leads, Needs}

-- the value of a finding
abbrev pub value_of : Finding → Value
value_of No = told.No
value_of (Unknown m) = told.Unknown
value_of Yes = told.Yes

found_roll : (rs : List Reading) (x : Pat-F Pat) (n : NodeId) → found rs (roll-Pat x) n ≡ found_level rs (map-Pat Pat (NodeId → Finding) (found rs) x) n
found_roll rs x n = ap (λ f. f n) (fold-roll-Pat (NodeId → Finding) (found_level rs) x)

value_lesser : (a b : Finding) → value_of (lesser a b) ≡ least (value_of a) (value_of b)
value_lesser No b = refl
value_lesser (Unknown m) No = refl
value_lesser (Unknown m) (Unknown k) = refl
value_lesser (Unknown m) Yes = refl
value_lesser Yes b = refl

value_greater : (a b : Finding) → value_of (greater a b) ≡ greatest (value_of a) (value_of b)
value_greater No b = refl
value_greater (Unknown m) No = refl
value_greater (Unknown m) (Unknown k) = refl
value_greater (Unknown m) Yes = refl
value_greater Yes b = refl

value_denied : (a : Finding) → value_of (denied a) ≡ opposite (value_of a)
value_denied No = refl
value_denied (Unknown m) = refl
value_denied Yes = refl

value_answer : (b : Bool) → value_of (finding_of b) ≡ answer b
value_answer true = refl
value_answer false = refl

lesser_unknown : (a b : Finding) (m : NodeId) → lesser a b ≡ Unknown m → (a ≡ Unknown m) ⊎ (b ≡ Unknown m)
lesser_unknown No b m e = cc
lesser_unknown (Unknown k) No m e = cc
lesser_unknown (Unknown k) (Unknown j) m e = inl e
lesser_unknown (Unknown k) Yes m e = inl e
lesser_unknown Yes b m e = inr e

greater_unknown : (a b : Finding) (m : NodeId) → greater a b ≡ Unknown m → (a ≡ Unknown m) ⊎ (b ≡ Unknown m)
greater_unknown No b m e = inr e
greater_unknown (Unknown k) No m e = inl e
greater_unknown (Unknown k) (Unknown j) m e = inl e
greater_unknown (Unknown k) Yes m e = cc
greater_unknown Yes b m e = cc

denied_unknown : (a : Finding) (m : NodeId) → denied a ≡ Unknown m → a ≡ Unknown m
denied_unknown No m e = cc
denied_unknown (Unknown k) m e = e
denied_unknown Yes m e = cc

same_unknown : (n m : NodeId) → Unknown n ≡ Unknown m → n ≡ m
same_unknown n m e = cc

not_unknown : (b : Bool) (m : NodeId) → finding_of b ≡ Unknown m → ⊥
not_unknown true m e = cc
not_unknown false m e = cc

or_left : (a b : Bool) → a ≡ true → (a || b) ≡ true
or_left true b e = refl
or_left false b e = cc

or_right : (a b : Bool) → b ≡ true → (a || b) ≡ true
or_right true b e = refl
or_right false b e = e

module _ (rs : List Reading) where
  pub record IsFound (p : Pat) : Type 0 where
    pub value : (n : NodeId) → value_of (found rs p n) ≡ (told.told rs p n).value
    pub needs : (n m : NodeId) → found rs p n ≡ Unknown m → Needs rs p n m

  level : (x : Pat-F Pat) → ((n : NodeId) → value_of (found_level rs (map-Pat Pat (NodeId → Finding) (found rs) x) n) ≡ (told.told_level rs (map-Pat Pat (NodeId → Told) (told.told rs) x) n).value)
      → ((n m : NodeId) → found_level rs (map-Pat Pat (NodeId → Finding) (found rs) x) n ≡ Unknown m → Needs rs (roll-Pat x) n m) → IsFound (roll-Pat x)
  level x value needs = record {
    value = λ n. ap value_of (found_roll rs x n) ∙ (value n ∙ sym (ap (λ t. t.value) (told_roll rs x n)));
    needs = λ n m e. needs n m (sym (found_roll rs x n) ∙ e);
  }

  -- the node itself is needed
  needs_here : (x : Pat-F Pat) (n m : NodeId) → ((path : List ℕ) → is_root path ≡ true → tests (roll-Pat x) path ≡ true) → reading_of rs n ≡ None → Unknown n ≡ Unknown m → Needs rs (roll-Pat x) n m
  needs_here x n m tested unread e =
      let same = same_unknown n m e in
      record { path = []; tested = tested [] refl; leads = same; unread = ap (reading_of rs) (sym same) ∙ unread }

  label_value : (o : Option Reading) (n : NodeId) (test : Label → Bool) → value_of (found_label o n test) ≡ (told_label o test).value
  label_value None n test = refl
  label_value (Some r) n test = value_answer (test r.label)

  label_needs : (x : Pat-F Pat) (o : Option Reading) (n m : NodeId) (test : Label → Bool) → ((path : List ℕ) → is_root path ≡ true → tests (roll-Pat x) path ≡ true) → reading_of rs n ≡ o → found_label o n test ≡ Unknown m → Needs rs (roll-Pat x) n m
  label_needs x None n m test tested unread e = needs_here x n m tested unread e
  label_needs x (Some r) n m test tested read e = absurd (not_unknown (test r.label) m e)

  all_value : (ps : List Pat) → Each IsFound ps → (ts : List NodeId) → value_of (found_all (map (found rs) ps) ts) ≡ (told_all (map (told.told rs) ps) ts).value
  all_value [] each ts = refl
  all_value (p ∷ ps) each [] = refl
  all_value (p ∷ ps) each (t ∷ ts) =
      value_lesser (found rs p t) (found_all (map (found rs) ps) ts) ∙ (ap (λ v. least v (value_of (found_all (map (found rs) ps) ts))) (each.0.value t) ∙ ap (λ v. least (told.told rs p t).value v) (all_value ps each.1 ts))

  -- one of the targets leads to the node
  record NeedsOne (ps : List Pat) (ts : List NodeId) (m : NodeId) : Type 0 where
    pub place : ℕ
    pub target : NodeId
    pub path : List ℕ
    pub is_target : slice_get ts place ≡ Some target
    pub tested : test_below (slice_get (map tests ps) place) path ≡ true
    pub leads : Leads rs target path m
    pub unread : reading_of rs m ≡ None

  all_needs : (ps : List Pat) → Each IsFound ps → (ts : List NodeId) (m : NodeId) → found_all (map (found rs) ps) ts ≡ Unknown m → NeedsOne ps ts m
  all_needs [] each ts m e = cc
  all_needs (p ∷ ps) each [] m e = cc
  all_needs (p ∷ ps) each (t ∷ ts) m e =
      elim (lesser_unknown (found rs p t) (found_all (map (found rs) ps) ts) m e) [
        | inl here ↦ (let n = each.0.needs t m here in record { place = zero; target = t; path = n.path; is_target = refl; tested = n.tested; leads = n.leads; unread = n.unread })
        | inr later ↦ (let n = all_needs ps each.1 ts m later in record { place = suc n.place; target = n.target; path = n.path; is_target = n.is_target; tested = n.tested; leads = n.leads; unread = n.unread })
      ]

  symbol_value : (f : ℕ) (args : List Pat) → Each IsFound args → (o : Option Reading) (n : NodeId) → value_of (found_symbol o n f (map (found rs) args)) ≡ (told_symbol o f (map (told.told rs) args)).value
  symbol_value f args each None n = refl
  symbol_value f args each (Some r) n =
      ap (λ k. value_of (found_symbol_at (has_symbol r.label f && (k == length (targets_of r.targets))) (map (found rs) args) (targets_of r.targets))) (length-map args (found rs) ∙ sym (length-map args (told.told rs)))
      ∙ at (has_symbol r.label f && (length (map (told.told rs) args) == length (targets_of r.targets)))
    where
      at : (b : Bool) → value_of (found_symbol_at b (map (found rs) args) (targets_of r.targets)) ≡ (told_symbol_at b (map (told.told rs) args) (targets_of r.targets)).value
      at true = all_value args each (targets_of r.targets)
      at false = refl

  symbol_needs : (f : ℕ) (args : List Pat) → Each IsFound args → (o : Option Reading) (n m : NodeId) → reading_of rs n ≡ o → found_symbol o n f (map (found rs) args) ≡ Unknown m → Needs rs (roll-Pat (Pat-F.Sym f args)) n m
  symbol_needs f args each None n m read e = needs_here (Pat-F.Sym f args) n m (λ path root. tests_roll (Pat-F.Sym f args) path ∙ or_left (is_root path) _ root) read e
  symbol_needs f args each (Some r) n m read e = at (has_symbol r.label f && (length (map (found rs) args) == length (targets_of r.targets))) e
    where
      at : (b : Bool) → found_symbol_at b (map (found rs) args) (targets_of r.targets) ≡ Unknown m → Needs rs (roll-Pat (Pat-F.Sym f args)) n m
      at false e = cc
      at true e =
          let one = all_needs args each (targets_of r.targets) m e in
          record {
            path = one.place ∷ one.path;
            tested = tests_roll (Pat-F.Sym f args) (one.place ∷ one.path) ∙ one.tested;
            leads = (r, one.target, read, one.is_target, one.leads);
            unread = one.unread;
          }

  through : (x : Pat-F Pat) (q : Pat) (n m : NodeId) → ((path : List ℕ) → tests q path ≡ true → tests (roll-Pat x) path ≡ true) → Needs rs q n m → Needs rs (roll-Pat x) n m
  through x q n m tested is = record { path = is.path; tested = tested is.path is.tested; leads = is.leads; unread = is.unread }

  pub founds : (p : Pat) → IsFound p
  founds = pat_induction IsFound (record {
    any = level Pat-F.Any (λ n. refl) (λ n m e. cc);
    int = level Pat-F.Int (λ n. label_value (reading_of rs n) n is_integer) (λ n m e. label_needs Pat-F.Int (reading_of rs n) n m is_integer (λ path root. tests_roll Pat-F.Int path ∙ root) refl e);
    char = level Pat-F.Char (λ n. label_value (reading_of rs n) n is_character) (λ n m e. label_needs Pat-F.Char (reading_of rs n) n m is_character (λ path root. tests_roll Pat-F.Char path ∙ root) refl e);
    literal = λ i. level (Pat-F.Literal i) (λ n. label_value (reading_of rs n) n (λ l. has_integer l i)) (λ n m e. label_needs (Pat-F.Literal i) (reading_of rs n) n m (λ l. has_integer l i) (λ path root. tests_roll (Pat-F.Literal i) path ∙ root) refl e);
    letter = λ c. level (Pat-F.Letter c) (λ n. label_value (reading_of rs n) n (λ l. has_character l c)) (λ n m e. label_needs (Pat-F.Letter c) (reading_of rs n) n m (λ l. has_character l c) (λ path root. tests_roll (Pat-F.Letter c) path ∙ root) refl e);
    symbol = λ f args each. level (Pat-F.Sym f args) (λ n. symbol_value f args each (reading_of rs n) n) (λ n m e. symbol_needs f args each (reading_of rs n) n m refl e);
    bind = λ v q ih. level (Pat-F.Bind v q) (λ n. ih.value n) (λ n m e. through (Pat-F.Bind v q) q n m (λ path t. tests_roll (Pat-F.Bind v q) path ∙ t) (ih.needs n m e));
    union = λ q s left right. level (Pat-F.Union q s)
        (λ n. value_greater (found rs q n) (found rs s n) ∙ (ap (λ v. greatest v (value_of (found rs s n))) (left.value n) ∙ ap (λ v. greatest (told.told rs q n).value v) (right.value n)))
        (λ n m e. elim (greater_unknown (found rs q n) (found rs s n) m e) [
          | inl first ↦ through (Pat-F.Union q s) q n m (λ path t. tests_roll (Pat-F.Union q s) path ∙ or_left (tests q path) (tests s path) t) (left.needs n m first)
          | inr second ↦ through (Pat-F.Union q s) s n m (λ path t. tests_roll (Pat-F.Union q s) path ∙ or_right (tests q path) (tests s path) t) (right.needs n m second)
        ]);
    less = λ q s left right. level (Pat-F.Less q s)
        (λ n. value_lesser (found rs q n) (denied (found rs s n)) ∙ (ap (λ v. least v (value_of (denied (found rs s n)))) (left.value n) ∙ ap (λ v. least (told.told rs q n).value v) (value_denied (found rs s n) ∙ ap opposite (right.value n))))
        (λ n m e. elim (lesser_unknown (found rs q n) (denied (found rs s n)) m e) [
          | inl first ↦ through (Pat-F.Less q s) q n m (λ path t. tests_roll (Pat-F.Less q s) path ∙ or_left (tests q path) (tests s path) t) (left.needs n m first)
          | inr second ↦ through (Pat-F.Less q s) s n m (λ path t. tests_roll (Pat-F.Less q s) path ∙ or_right (tests q path) (tests s path) t) (right.needs n m (denied_unknown (found rs s n) m second))
        ]);
  })
