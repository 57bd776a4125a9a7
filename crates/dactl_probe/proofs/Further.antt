-- Further readings leave what was told, so a rule that is lost stays so.
use Rattle.std.proofs.Common.{◌≡◌, ℕ, Bool, true, false, ◌&&◌, ◌==◌, List, [], ◌∷◌, ◌++◌, length, map, refl, sym, ◌∙◌, ap, subst, Option, Some, None, ◌⊎◌, inl, inr}
use Rattle.std.specs.List.{list_all}
use Rattle.std.proofs.lemmas.List.{length-map}
use Rattle.dactl_model.specs.declared.graph.NodeId.{NodeId}
use Rattle.dactl_model.specs.declared.graph.Label.{Label}
use Rattle.dactl_model.specs.declared.reading.Reading.{Reading}
use Rattle.dactl_model.specs.declared.program.Pat.{Pat}
use Rattle.dactl_model.specs.declared.program.Pat.TheOpen.{Pat-F}
use Rattle.dactl_model.specs.declared.program.Pat.TheViews.{roll-Pat}
use Rattle.dactl_model.specs.declared.program.Pat.TheFolds.{map-Pat}
use Rattle.dactl_model.specs.declared.program.Rule.{Rule}
use Rattle.dactl_model.specs.Patterns.{has_symbol, is_integer, has_integer, is_character, has_character}
use Rattle.dactl_model.specs.Readings.{Value, No, Unknown, Yes, Told, least, greatest, opposite, told, told_level, told_label, told_all, told_symbol, told_symbol_at, reading_of, targets_of}
use Rattle.dactl_model.specs.RuleTold.{no_conflict}
use Rattle.dactl_model.proofs.Induction.{Each, pat_induction}
use Rattle.dactl_model.proofs.Told.{told_roll}
use Rattle.dactl_model.proofs.Unique.{left_true, right_true}
use Rattle.dactl_probe.specs.Bindings.{is_first}
use Rattle.dactl_probe.specs.declared.lost.Lost.{Lost}
use Rattle.dactl_probe.specs.Lost.{IsRuleLost, AreLost}
use Rattle.dactl_probe.proofs.Pairs.{first_from_agreed, agreed_from_first}
use Rattle.dactl_probe.proofs.Traced.{read_more}

-- the pair is one of the list
abbrev In : ℕ × NodeId → List (ℕ × NodeId) → Type 0
In x [] = ⊥
In x (y ∷ ys) = (x ≡ y) ⊎ In x ys

in_left : (x : ℕ × NodeId) (xs ys : List (ℕ × NodeId)) → In x xs → In x (xs ++ ys)
in_left x [] ys is = absurd is
in_left x (y ∷ xs) ys (inl same) = inl same
in_left x (y ∷ xs) ys (inr rest) = inr (in_left x xs ys rest)

in_right : (x : ℕ × NodeId) (xs ys : List (ℕ × NodeId)) → In x ys → In x (xs ++ ys)
in_right x [] ys is = is
in_right x (y ∷ xs) ys is = inr (in_right x xs ys is)

in_either : (x : ℕ × NodeId) (xs ys : List (ℕ × NodeId)) → In x (xs ++ ys) → In x xs ⊎ In x ys
in_either x [] ys is = inr is
in_either x (y ∷ xs) ys (inl same) = inl (inl same)
in_either x (y ∷ xs) ys (inr rest) = elim (in_either x xs ys rest) [ inl first ↦ inl (inr first) | inr second ↦ inr second ]

all_in : (test : ℕ × NodeId → Bool) (x : ℕ × NodeId) (xs : List (ℕ × NodeId)) → list_all test xs ≡ true → In x xs → test x ≡ true
all_in test x [] all is = absurd is
all_in test x (y ∷ xs) all (inl same) = ap test same ∙ left_true _ _ all
all_in test x (y ∷ xs) all (inr rest) = all_in test x xs (right_true _ _ all) rest

in_all : (test : ℕ × NodeId → Bool) (xs : List (ℕ × NodeId)) → ((x : ℕ × NodeId) → In x xs → test x ≡ true) → list_all test xs ≡ true
in_all test [] each = refl
in_all test (y ∷ xs) each =
    let here : test y ≡ true = each y (inl refl) in
    let rest : list_all test xs ≡ true = in_all test xs (λ x is. each x (inr is)) in
    rw (here, rest) refl

-- two pairs that conflict do so among more pairs
conflict_stays : (xs ys : List (ℕ × NodeId)) → ((x : ℕ × NodeId) → In x xs → In x ys) → no_conflict xs ≡ false → no_conflict ys ≡ false
conflict_stays xs ys among conflict = go (no_conflict ys) refl
  where
    go : (b : Bool) → no_conflict ys ≡ b → b ≡ false
    go false e = refl
    go true e =
        let first : list_all (is_first ys) ys ≡ true = first_from_agreed ys e in
        let some : list_all (is_first ys) xs ≡ true = in_all (is_first ys) xs (λ x is. all_in (is_first ys) x ys first (among x is)) in
        let agreed : no_conflict xs ≡ true = agreed_from_first ys xs some in
        sym agreed ∙ conflict

-- the second value is the first one where that is known
record Holds (v w : Value) : Type 0 where
  no : v ≡ No → w ≡ No
  yes : v ≡ Yes → w ≡ Yes

holds_same : (v : Value) → Holds v v
holds_same v = record { no = λ e. e; yes = λ e. e }

least_no : (v : Value) → least v No ≡ No
least_no No = refl
least_no Unknown = refl
least_no Yes = refl

greatest_yes : (v : Value) → greatest v Yes ≡ Yes
greatest_yes No = refl
greatest_yes Unknown = refl
greatest_yes Yes = refl

holds_least : (v w x y : Value) → Holds v w → Holds x y → Holds (least v x) (least w y)
holds_least No w x y a b = record { no = λ e. ap (λ k. least k y) (a.no refl); yes = λ e. cc }
holds_least Unknown w No y a b = record { no = λ e. ap (λ k. least w k) (b.no refl) ∙ least_no w; yes = λ e. cc }
holds_least Unknown w Unknown y a b = record { no = λ e. cc; yes = λ e. cc }
holds_least Unknown w Yes y a b = record { no = λ e. cc; yes = λ e. cc }
holds_least Yes w x y a b = record { no = λ e. ap (λ k. least k y) (a.yes refl) ∙ b.no e; yes = λ e. ap (λ k. least k y) (a.yes refl) ∙ b.yes e }

holds_greatest : (v w x y : Value) → Holds v w → Holds x y → Holds (greatest v x) (greatest w y)
holds_greatest Yes w x y a b = record { no = λ e. cc; yes = λ e. ap (λ k. greatest k y) (a.yes refl) }
holds_greatest Unknown w Yes y a b = record { no = λ e. cc; yes = λ e. ap (λ k. greatest w k) (b.yes refl) ∙ greatest_yes w }
holds_greatest Unknown w Unknown y a b = record { no = λ e. cc; yes = λ e. cc }
holds_greatest Unknown w No y a b = record { no = λ e. cc; yes = λ e. cc }
holds_greatest No w x y a b = record { no = λ e. ap (λ k. greatest k y) (a.no refl) ∙ b.no e; yes = λ e. ap (λ k. greatest k y) (a.no refl) ∙ b.yes e }

holds_opposite : (v w : Value) → Holds v w → Holds (opposite v) (opposite w)
holds_opposite No w a = record { no = λ e. cc; yes = λ e. ap opposite (a.no refl) }
holds_opposite Unknown w a = record { no = λ e. cc; yes = λ e. cc }
holds_opposite Yes w a = record { no = λ e. ap opposite (a.yes refl); yes = λ e. cc }

-- what is told stays told: a value that is known, and the pairs
record Stays (a b : Told) : Type 0 where
  value : Holds a.value b.value
  pairs : (x : ℕ × NodeId) → In x a.pairs → In x b.pairs

stays_same : (a : Told) → Stays a a
stays_same a = record { value = holds_same a.value; pairs = λ x is. is }

-- nothing is told yet
stays_unknown : (b : Told) → Stays (record { value = Unknown; pairs = [] }) b
stays_unknown b = record { value = record { no = λ e. cc; yes = λ e. cc }; pairs = λ x is. absurd is }

stays_both : (a b c d : Told) → Stays a b → Stays c d → Stays (record { value = least a.value c.value; pairs = a.pairs ++ c.pairs }) (record { value = least b.value d.value; pairs = b.pairs ++ d.pairs })
stays_both a b c d first second = record {
  value = holds_least a.value b.value c.value d.value first.value second.value;
  pairs = λ x is. elim (in_either x a.pairs c.pairs is) [
    | inl left ↦ in_left x b.pairs d.pairs (first.pairs x left)
    | inr right ↦ in_right x b.pairs d.pairs (second.pairs x right)
  ];
}

stays_bound : (a b : Told) (y : ℕ × NodeId) → Stays a b → Stays (record { value = a.value; pairs = y ∷ a.pairs }) (record { value = b.value; pairs = y ∷ b.pairs })
stays_bound a b y is = record { value = is.value; pairs = λ x among. elim among [ inl same ↦ inl same | inr rest ↦ inr (is.pairs x rest) ] }

module _ (rs more : List Reading) where
  abbrev IsKept : Pat → Type 0
  IsKept p = (n : NodeId) → Stays (told rs p n) (told (rs ++ more) p n)

  level : (x : Pat-F Pat) → ((n : NodeId) → Stays (told_level rs (map-Pat Pat (NodeId → Told) (told rs) x) n) (told_level (rs ++ more) (map-Pat Pat (NodeId → Told) (told (rs ++ more)) x) n)) → IsKept (roll-Pat x)
  level x stays n =
      subst (λ a. Stays a (told (rs ++ more) (roll-Pat x) n)) (sym (told_roll rs x n))
      (subst (λ b. Stays (told_level rs (map-Pat Pat (NodeId → Told) (told rs) x) n) b) (sym (told_roll (rs ++ more) x n)) (stays n))

  label : (test : Label → Bool) (o s : Option Reading) → ((r : Reading) → o ≡ Some r → s ≡ Some r) → Stays (told_label o test) (told_label s test)
  label test None s kept = stays_unknown (told_label s test)
  label test (Some r) s kept = subst (λ x. Stays (told_label (Some r) test) (told_label x test)) (sym (kept r refl)) (stays_same (told_label (Some r) test))

  all : (ps : List Pat) → Each IsKept ps → (ts : List NodeId) → Stays (told_all (map (told rs) ps) ts) (told_all (map (told (rs ++ more)) ps) ts)
  all [] each ts = stays_same (record { value = Yes; pairs = [] })
  all (p ∷ ps) each [] = stays_same (record { value = No; pairs = [] })
  all (p ∷ ps) each (t ∷ ts) = stays_both (told rs p t) (told (rs ++ more) p t) (told_all (map (told rs) ps) ts) (told_all (map (told (rs ++ more)) ps) ts) (each.0 t) (all ps each.1 ts)

  at : (args : List Pat) → Each IsKept args → (b : Bool) (ts : List NodeId) → Stays (told_symbol_at b (map (told rs) args) ts) (told_symbol_at b (map (told (rs ++ more)) args) ts)
  at args each true ts = all args each ts
  at args each false ts = stays_same (record { value = No; pairs = [] })

  symbol : (f : ℕ) (args : List Pat) → Each IsKept args → (o s : Option Reading) → ((r : Reading) → o ≡ Some r → s ≡ Some r) → Stays (told_symbol o f (map (told rs) args)) (told_symbol s f (map (told (rs ++ more)) args))
  symbol f args each None s kept = stays_unknown (told_symbol s f (map (told (rs ++ more)) args))
  symbol f args each (Some r) s kept =
      let long : length (map (told rs) args) ≡ length (map (told (rs ++ more)) args) = length-map args (told rs) ∙ sym (length-map args (told (rs ++ more))) in
      subst (λ x. Stays (told_symbol (Some r) f (map (told rs) args)) (told_symbol x f (map (told (rs ++ more)) args))) (sym (kept r refl))
      (subst (λ k. Stays (told_symbol (Some r) f (map (told rs) args)) (told_symbol_at (has_symbol r.label f && (k == length (targets_of r.targets))) (map (told (rs ++ more)) args) (targets_of r.targets))) long
      (at args each (has_symbol r.label f && (length (map (told rs) args) == length (targets_of r.targets))) (targets_of r.targets)))

  kept : (p : Pat) → IsKept p
  kept = pat_induction IsKept (record {
    any = level Pat-F.Any (λ n. stays_same (record { value = Yes; pairs = [] }));
    int = level Pat-F.Int (λ n. label is_integer (reading_of rs n) (reading_of (rs ++ more) n) (read_more rs more n));
    char = level Pat-F.Char (λ n. label is_character (reading_of rs n) (reading_of (rs ++ more) n) (read_more rs more n));
    literal = λ i. level (Pat-F.Literal i) (λ n. label (λ l. has_integer l i) (reading_of rs n) (reading_of (rs ++ more) n) (read_more rs more n));
    letter = λ c. level (Pat-F.Letter c) (λ n. label (λ l. has_character l c) (reading_of rs n) (reading_of (rs ++ more) n) (read_more rs more n));
    symbol = λ f args each. level (Pat-F.Sym f args) (λ n. symbol f args each (reading_of rs n) (reading_of (rs ++ more) n) (read_more rs more n));
    bind = λ v q ih. level (Pat-F.Bind v q) (λ n. stays_bound (told rs q n) (told (rs ++ more) q n) (v, n) (ih n));
    union = λ q s left right. level (Pat-F.Union q s) (λ n. record {
      value = holds_greatest (told rs q n).value (told (rs ++ more) q n).value (told rs s n).value (told (rs ++ more) s n).value (left n).value (right n).value;
      pairs = λ x is. absurd is;
    });
    less = λ q s left right. level (Pat-F.Less q s) (λ n. record {
      value = holds_least (told rs q n).value (told (rs ++ more) q n).value (opposite (told rs s n).value) (opposite (told (rs ++ more) s n).value) (left n).value
          (holds_opposite (told rs s n).value (told (rs ++ more) s n).value (right n).value);
      pairs = (left n).pairs;
    });
  })

  pub lost_more : (n : NodeId) (rule : Rule) → IsRuleLost rs n rule → IsRuleLost (rs ++ more) n rule
  lost_more n rule (inl fails) = inl ((kept rule.pattern n).value.no fails)
  lost_more n rule (inr conflict) = inr (conflict_stays (told rs rule.pattern n).pairs (told (rs ++ more) rule.pattern n).pairs ((kept rule.pattern n).pairs) conflict)

  pub all_lost_more : (rules : List Rule) (n : NodeId) (lost : Lost) → AreLost rules rs n lost → AreLost rules (rs ++ more) n lost
  all_lost_more rules n lost are s rule known is = lost_more n rule (are s rule known is)
