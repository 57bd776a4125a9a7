-- Orderly rules: no conflict, and their bindings.
use Rattle.std.proofs.Common.{◌≡◌, ℕ, suc, zero, ◌+◌, ◌<◌, ◌≤◌, Bool, true, false, not, ◌&&◌, ◌||◌, ◌==◌, if◌then◌else◌, List, [], ◌∷◌, ◌++◌, length, map, refl, sym, ◌∙◌, ap, subst, arith, Option, Some, None, slice_get}
use Rattle.std.specs.List.{list_all}
use Rattle.std.specs.Option.{option_map}
use Rattle.std.proofs.lemmas.Bool.{eqb-true, eq-eqb}
use Rattle.std.proofs.lemmas.Option.{slice_get-map}
use Rattle.dactl_model.specs.declared.graph.NodeId.{NodeId}
use Rattle.dactl_model.specs.declared.reading.Reading.{Reading}
use Rattle.dactl_model.specs.declared.graph.Label.{Label}
use Rattle.dactl_model.specs.declared.program.Pat.{Pat}
use Rattle.dactl_model.specs.declared.program.Pat.TheOpen.{Pat-F}
use Rattle.dactl_model.specs.declared.program.Pat.TheViews.{roll-Pat}
use Rattle.dactl_model.specs.declared.program.Pat.TheFolds.{fold-roll-Pat, map-Pat}
use Rattle.dactl_model.specs.declared.program.Rule.{Rule}
use Rattle.dactl_model.specs.Patterns.{has_symbol, is_integer, has_integer, is_character, has_character, same_node}
use Rattle.dactl_model.specs.Readings.{Value, No, Unknown, Yes, Told, least, opposite, told, told_level, told_label, told_all, told_symbol, told_symbol_at, reading_of, targets_of}
use Rattle.dactl_model.specs.RuleTold.{no_conflict, pair_node, pair_nodes, bindings_told}
use Rattle.dactl_model.proofs.Induction.{Each, pat_induction}
use Rattle.dactl_model.proofs.Told.{told_roll}
use Rattle.dactl_model.specs.Rooms.{Observed}
use Rattle.dactl_probe.specs.Bindings.{nodes_of, with_nodes, HasRoomFor}
use Rattle.dactl_decide.specs.Orders.{go_on, after_all, after_level, after, is_number, is_orderly}

after_roll : (x : Pat-F Pat) (k : ℕ) → after (roll-Pat x) k ≡ after_level (map-Pat Pat (ℕ → Option ℕ) after x) k
after_roll x k = ap (λ f. f k) (fold-roll-Pat (ℕ → Option ℕ) after_level x)

-- the variables of the pairs ascend, from k on and below m
abbrev Rises : ℕ → ℕ → List (ℕ × NodeId) → Type 0
Rises k m [] = k ≤ m
Rises k m (x ∷ xs) = (k ≤ x.0) × Rises (suc x.0) m xs

rises_later : (j k m : ℕ) (xs : List (ℕ × NodeId)) → j ≤ k → Rises k m xs → Rises j m xs
rises_later j k m [] less up = omega arith
rises_later j k m (x ∷ xs) less up = (omega (arith, up.0), up.1)

rises_append : (k j m : ℕ) (xs ys : List (ℕ × NodeId)) → Rises k j xs → Rises j m ys → Rises k m (xs ++ ys)
rises_append k j m [] ys first second = rises_later k j m ys first second
rises_append k j m (x ∷ xs) ys first second = (first.0, rises_append (suc x.0) j m xs ys first.1 second)

-- the variables of the pairs are the numbers from k on and below m
abbrev Counts : ℕ → ℕ → List (ℕ × NodeId) → Type 0
Counts k m [] = k ≡ m
Counts k m (x ∷ xs) = (x.0 ≡ k) × Counts (k + 1) m xs

counts_append : (k j m : ℕ) (xs ys : List (ℕ × NodeId)) → Counts k j xs → Counts j m ys → Counts k m (xs ++ ys)
counts_append k j m [] ys first second = subst (λ i. Counts i m ys) (sym first) second
counts_append k j m (x ∷ xs) ys first second = (first.0, counts_append (k + 1) j m xs ys first.1 second)

counts_grow : (k m : ℕ) (xs : List (ℕ × NodeId)) → Counts k m xs → k ≤ m
counts_grow k m [] is = omega (arith, is)
counts_grow k m (x ∷ xs) is = omega (arith, counts_grow (k + 1) m xs is.1)

least_sure : (v w : Value) → least v w ≡ Yes → (v ≡ Yes) × (w ≡ Yes)
least_sure No w e = cc
least_sure Unknown No e = cc
least_sure Unknown Unknown e = cc
least_sure Unknown Yes e = cc
least_sure Yes w e = (refl, e)

-- where a number to go on from was needed, there is one
record GoesOn (o : Option ℕ) (next : ℕ → Option ℕ) (m : ℕ) : Type 0 where
  pub middle : ℕ
  pub is : o ≡ Some middle
  pub rest : next middle ≡ Some m

goes_on : (o : Option ℕ) (next : ℕ → Option ℕ) (m : ℕ) → go_on o next ≡ Some m → GoesOn o next m
goes_on None next m e = cc
goes_on (Some k) next m e = record { middle = k; is = refl; rest = e }

same_number : (k m : ℕ) → Some k ≡ Some m → k ≡ m
same_number k m e = cc

module _ (rs : List Reading) where
  record IsAscending (p : Pat) : Type 0 where
    pub grows : (k m : ℕ) → after p k ≡ Some m → k ≤ m
    pub rises : (k m : ℕ) (n : NodeId) → after p k ≡ Some m → Rises k m (told rs p n).pairs
    pub counts : (k m : ℕ) (n : NodeId) → after p k ≡ Some m → (told rs p n).value ≡ Yes → Counts k m (told rs p n).pairs

  level : (x : Pat-F Pat) → ((k m : ℕ) → after_level (map-Pat Pat (ℕ → Option ℕ) after x) k ≡ Some m → k ≤ m)
      → ((k m : ℕ) (n : NodeId) → after_level (map-Pat Pat (ℕ → Option ℕ) after x) k ≡ Some m → Rises k m (told_level rs (map-Pat Pat (NodeId → Told) (told rs) x) n).pairs)
      → ((k m : ℕ) (n : NodeId) → after_level (map-Pat Pat (ℕ → Option ℕ) after x) k ≡ Some m → (told_level rs (map-Pat Pat (NodeId → Told) (told rs) x) n).value ≡ Yes → Counts k m (told_level rs (map-Pat Pat (NodeId → Told) (told rs) x) n).pairs)
      → IsAscending (roll-Pat x)
  level x grows rises counts = record {
    grows = λ k m e. grows k m (sym (after_roll x k) ∙ e);
    rises = λ k m n e. subst (λ t. Rises k m t.pairs) (sym (told_roll rs x n)) (rises k m n (sym (after_roll x k) ∙ e));
    counts = λ k m n e sure. subst (λ t. Counts k m t.pairs) (sym (told_roll rs x n)) (counts k m n (sym (after_roll x k) ∙ e) (sym (ap (λ t. t.value) (told_roll rs x n)) ∙ sure));
  }

  -- a level without binders
  bare : (x : Pat-F Pat) → ((k : ℕ) → after_level (map-Pat Pat (ℕ → Option ℕ) after x) k ≡ Some k) → ((n : NodeId) → (told_level rs (map-Pat Pat (NodeId → Told) (told rs) x) n).pairs ≡ []) → IsAscending (roll-Pat x)
  bare x stays none = level x
      (λ k m e. omega (arith, same k m e))
      (λ k m n e. subst (Rises k m) (sym (none n)) (omega (arith, same k m e)))
      (λ k m n e sure. subst (Counts k m) (sym (none n)) (same k m e))
    where
      same : (k m : ℕ) → after_level (map-Pat Pat (ℕ → Option ℕ) after x) k ≡ Some m → k ≡ m
      same k m e = same_number k m (sym (stays k) ∙ e)

  no_pairs : (o : Option Reading) (test : Label → Bool) → (told_label o test).pairs ≡ []
  no_pairs None test = refl
  no_pairs (Some r) test = refl

  all_grow : (ps : List Pat) → Each IsAscending ps → (k m : ℕ) → after_all (map after ps) k ≡ Some m → k ≤ m
  all_grow [] each k m e = omega (arith, same_number k m e)
  all_grow (p ∷ ps) each k m e =
      let g = goes_on (after p k) (after_all (map after ps)) m e in
      omega (arith, each.0.grows k g.middle g.is, all_grow ps each.1 g.middle m g.rest)

  all_rise : (ps : List Pat) → Each IsAscending ps → (k m : ℕ) (ts : List NodeId) → after_all (map after ps) k ≡ Some m → Rises k m (told_all (map (told rs) ps) ts).pairs
  all_rise [] each k m ts e = omega (arith, same_number k m e)
  all_rise (p ∷ ps) each k m [] e = all_grow (p ∷ ps) each k m e
  all_rise (p ∷ ps) each k m (t ∷ ts) e =
      let g = goes_on (after p k) (after_all (map after ps)) m e in
      rises_append k g.middle m (told rs p t).pairs (told_all (map (told rs) ps) ts).pairs (each.0.rises k g.middle t g.is) (all_rise ps each.1 g.middle m ts g.rest)

  all_count : (ps : List Pat) → Each IsAscending ps → (k m : ℕ) (ts : List NodeId) → after_all (map after ps) k ≡ Some m → (told_all (map (told rs) ps) ts).value ≡ Yes → Counts k m (told_all (map (told rs) ps) ts).pairs
  all_count [] each k m ts e sure = same_number k m e
  all_count (p ∷ ps) each k m [] e sure = cc
  all_count (p ∷ ps) each k m (t ∷ ts) e sure =
      let g = goes_on (after p k) (after_all (map after ps)) m e in
      let both = least_sure (told rs p t).value (told_all (map (told rs) ps) ts).value sure in
      counts_append k g.middle m (told rs p t).pairs (told_all (map (told rs) ps) ts).pairs (each.0.counts k g.middle t g.is both.0) (all_count ps each.1 g.middle m ts g.rest both.1)

  at_rise : (ps : List Pat) → Each IsAscending ps → (b : Bool) (k m : ℕ) (ts : List NodeId) → after_all (map after ps) k ≡ Some m → Rises k m (told_symbol_at b (map (told rs) ps) ts).pairs
  at_rise ps each true k m ts e = all_rise ps each k m ts e
  at_rise ps each false k m ts e = all_grow ps each k m e

  at_count : (ps : List Pat) → Each IsAscending ps → (b : Bool) (k m : ℕ) (ts : List NodeId) → after_all (map after ps) k ≡ Some m → (told_symbol_at b (map (told rs) ps) ts).value ≡ Yes → Counts k m (told_symbol_at b (map (told rs) ps) ts).pairs
  at_count ps each true k m ts e sure = all_count ps each k m ts e sure
  at_count ps each false k m ts e sure = cc

  symbol_rise : (f : ℕ) (ps : List Pat) → Each IsAscending ps → (o : Option Reading) (k m : ℕ) → after_all (map after ps) k ≡ Some m → Rises k m (told_symbol o f (map (told rs) ps)).pairs
  symbol_rise f ps each None k m e = all_grow ps each k m e
  symbol_rise f ps each (Some r) k m e = at_rise ps each (has_symbol r.label f && (length (map (told rs) ps) == length (targets_of r.targets))) k m (targets_of r.targets) e

  symbol_count : (f : ℕ) (ps : List Pat) → Each IsAscending ps → (o : Option Reading) (k m : ℕ) → after_all (map after ps) k ≡ Some m → (told_symbol o f (map (told rs) ps)).value ≡ Yes → Counts k m (told_symbol o f (map (told rs) ps)).pairs
  symbol_count f ps each None k m e sure = cc
  symbol_count f ps each (Some r) k m e sure = at_count ps each (has_symbol r.label f && (length (map (told rs) ps) == length (targets_of r.targets))) k m (targets_of r.targets) e sure

  -- a binder has the number from which its order begins
  record Begins (v k m : ℕ) (q : Pat) : Type 0 where
    pub at : v ≡ k
    pub rest : after q (k + 1) ≡ Some m

  begins : (v k m : ℕ) (q : Pat) → (if v == k then after q (k + 1) else None) ≡ Some m → Begins v k m q
  begins v k m q e = (elim (v == k) as (λ b. (v == k) ≡ b → (if b then after q (k + 1) else None) ≡ Some m → Begins v k m q) [
    | true ↦ λ same f. record { at = eqb-true v k same; rest = f }
    | false ↦ λ same f. cc
  ]) refl e

  bind : (v : ℕ) (q : Pat) → IsAscending q → IsAscending (roll-Pat (Pat-F.Bind v q))
  bind v q ih = level (Pat-F.Bind v q)
      (λ k m e. let b = begins v k m q e in omega (arith, ih.grows (k + 1) m b.rest))
      (λ k m n e. let b = begins v k m q e in (omega (arith, b.at), rises_later (suc v) (k + 1) m (told rs q n).pairs (omega (arith, b.at)) (ih.rises (k + 1) m n b.rest)))
      (λ k m n e sure. let b = begins v k m q e in (b.at, ih.counts (k + 1) m n b.rest sure))

  less : (q s : Pat) → IsAscending q → IsAscending (roll-Pat (Pat-F.Less q s))
  less q s ih = level (Pat-F.Less q s)
      (λ k m e. ih.grows k m e)
      (λ k m n e. ih.rises k m n e)
      (λ k m n e sure. ih.counts k m n e (least_sure (told rs q n).value (opposite (told rs s n).value) sure).0)

  ascending : (p : Pat) → IsAscending p
  ascending = pat_induction IsAscending (record {
    any = bare Pat-F.Any (λ k. refl) (λ n. refl);
    int = bare Pat-F.Int (λ k. refl) (λ n. no_pairs (reading_of rs n) is_integer);
    char = bare Pat-F.Char (λ k. refl) (λ n. no_pairs (reading_of rs n) is_character);
    literal = λ i. bare (Pat-F.Literal i) (λ k. refl) (λ n. no_pairs (reading_of rs n) (λ l. has_integer l i));
    letter = λ c. bare (Pat-F.Letter c) (λ k. refl) (λ n. no_pairs (reading_of rs n) (λ l. has_character l c));
    symbol = λ f args each. level (Pat-F.Sym f args) (λ k m e. all_grow args each k m e) (λ k m n e. symbol_rise f args each (reading_of rs n) k m e) (λ k m n e sure. symbol_count f args each (reading_of rs n) k m e sure);
    bind = bind;
    union = λ q s left right. bare (Pat-F.Union q s) (λ k. refl) (λ n. refl);
    less = λ q s left right. less q s left;
  })

  -- ascending variables are different
  apart : (x : ℕ × NodeId) (k m : ℕ) (xs : List (ℕ × NodeId)) → x.0 < k → Rises k m xs → list_all (λ y. not (x.0 == y.0) || same_node x.1 y.1) xs ≡ true
  apart x k m [] less up = refl
  apart x k m (y ∷ ys) less up =
      let here : (not (x.0 == y.0) || same_node x.1 y.1) ≡ true = go (x.0 == y.0) refl in
      let rest : list_all (λ y. not (x.0 == y.0) || same_node x.1 y.1) ys ≡ true = apart x (suc y.0) m ys (omega (arith, up.0)) up.1 in
      rw (here, rest) refl
    where
      go : (b : Bool) → (x.0 == y.0) ≡ b → (not b || same_node x.1 y.1) ≡ true
      go false e = refl
      go true e = absurd (omega (arith, eqb-true x.0 y.0 e, up.0, less))

  different : (k m : ℕ) (xs : List (ℕ × NodeId)) → Rises k m xs → no_conflict xs ≡ true
  different k m [] up = refl
  different k m (x ∷ xs) up =
      let here : list_all (λ y. not (x.0 == y.0) || same_node x.1 y.1) xs ≡ true = apart x (suc x.0) m xs (omega arith) up.1 in
      let rest : no_conflict xs ≡ true = different (suc x.0) m xs up.1 in
      rw (here, rest) refl

  -- a rule whose variables stand in order
  ordered : (rule : Rule) → is_orderly rule ≡ true → after rule.pattern 0 ≡ Some rule.variables
  ordered rule is = go (after rule.pattern 0) is
    where
      go : (o : Option ℕ) → is_number o rule.variables ≡ true → o ≡ Some rule.variables
      go None e = cc
      go (Some k) e = ap Some (eqb-true k rule.variables e)

  pub consistent : (n : NodeId) (rule : Rule) → is_orderly rule ≡ true → no_conflict (told rs rule.pattern n).pairs ≡ true
  consistent n rule is = different 0 rule.variables (told rs rule.pattern n).pairs ((ascending rule.pattern).rises 0 rule.variables n (ordered rule is))

  pub counted : (n : NodeId) (rule : Rule) → is_orderly rule ≡ true → (told rs rule.pattern n).value ≡ Yes → Counts 0 rule.variables (told rs rule.pattern n).pairs
  counted n rule is sure = (ascending rule.pattern).counts 0 rule.variables n (ordered rule is) sure

-- the nodes of the variables are those of the pairs
skip : (x : ℕ × NodeId) (xs : List (ℕ × NodeId)) (k count : ℕ) → x.0 < k → pair_nodes (x ∷ xs) k count ≡ pair_nodes xs k count
skip x xs k zero less = refl
skip x xs k (suc count) less =
    let here : pair_node (x ∷ xs) k ≡ pair_node xs k = go (x.0 == k) refl in
    let rest : pair_nodes (x ∷ xs) (k + 1) count ≡ pair_nodes xs (k + 1) count = skip x xs (k + 1) count (omega (arith, less)) in
    rw (here, rest) refl
  where
    go : (b : Bool) → (x.0 == k) ≡ b → (if b then x.1 else pair_node xs k) ≡ pair_node xs k
    go false e = refl
    go true e = absurd (omega (arith, eqb-true x.0 k e, less))

counted_nodes : (k count : ℕ) (xs : List (ℕ × NodeId)) → Counts k (k + count) xs → pair_nodes xs k count ≡ nodes_of xs
counted_nodes k zero [] is = refl
counted_nodes k zero (x ∷ xs) is = absurd (omega (arith, counts_grow (k + 1) (k + zero) xs is.1))
counted_nodes k (suc count) [] is = absurd (omega (arith, is))
counted_nodes k (suc count) (x ∷ xs) is =
    let first : pair_node (x ∷ xs) k ≡ x.1 = ap (λ b. if b then x.1 else pair_node xs k) (eq-eqb x.0 k is.0) in
    let end : k + suc count ≡ (k + 1) + count = omega arith in
    let rest : pair_nodes xs (k + 1) count ≡ nodes_of xs = counted_nodes (k + 1) count xs (subst (λ m. Counts (k + 1) m xs) end is.1) in
    rw (first, skip x xs (k + 1) count (omega (arith, is.0)), rest) refl

from_zero : (rs : List Reading) (n : NodeId) (rule : Rule) → Counts 0 rule.variables (told rs rule.pattern n).pairs → Counts 0 (0 + rule.variables) (told rs rule.pattern n).pairs
from_zero rs n rule is = let end : rule.variables ≡ 0 + rule.variables = omega arith in subst (λ m. Counts 0 m (told rs rule.pattern n).pairs) end is

pub bindings_counted : (rs : List Reading) (n : NodeId) (rule : Rule) → is_orderly rule ≡ true → (told rs rule.pattern n).value ≡ Yes → bindings_told rs n rule ≡ nodes_of (told rs rule.pattern n).pairs
bindings_counted rs n rule is sure = counted_nodes 0 rule.variables (told rs rule.pattern n).pairs (from_zero rs n rule (counted rs n rule is sure))

counted_long : (k count : ℕ) (xs : List (ℕ × NodeId)) → Counts k (k + count) xs → length xs ≡ count
counted_long k count [] is = omega (arith, is)
counted_long k zero (x ∷ xs) is = absurd (omega (arith, counts_grow (k + 1) (k + zero) xs is.1))
counted_long k (suc count) (x ∷ xs) is =
    let end : k + suc count ≡ (k + 1) + count = omega arith in
    ap suc (counted_long (k + 1) count xs (subst (λ m. Counts (k + 1) m xs) end is.1))

-- a rule whose variables stand in order has as many pairs as variables
pub pairs_long : (rs : List Reading) (n : NodeId) (rule : Rule) → is_orderly rule ≡ true → (told rs rule.pattern n).value ≡ Yes → length (told rs rule.pattern n).pairs ≡ rule.variables
pairs_long rs n rule is sure = counted_long 0 rule.variables (told rs rule.pattern n).pairs (from_zero rs n rule (counted rs n rule is sure))

-- what deciders say of a rule
pub flag_of : (rules : List Rule) (r : ℕ) (rule : Rule) (flag : Bool) → slice_get (map is_orderly rules) r ≡ Some flag → slice_get rules r ≡ Some rule → flag ≡ true → is_orderly rule ≡ true
flag_of rules r rule flag told is set =
    let mapped : Some flag ≡ Some (is_orderly rule) = sym told ∙ (slice_get-map is_orderly rules r ∙ ap (option_map is_orderly) is) in
    let same : flag ≡ is_orderly rule = cc in
    sym same ∙ set

pub orderly_room : (f : Observed) (n : NodeId) (rule : Rule) → f.bindings ≡ [] → rule.variables ≤ 64 → is_orderly rule ≡ true → (told f.readings rule.pattern n).value ≡ Yes → HasRoomFor f (told f.readings rule.pattern n).pairs
orderly_room f n rule empty few is sure = omega (arith, ap length empty, few, pairs_long f.readings n rule is sure)

pub orderly_bindings : (f after : Observed) (n : NodeId) (rule : Rule) → f.bindings ≡ [] → is_orderly rule ≡ true → (told f.readings rule.pattern n).value ≡ Yes → after ≡ with_nodes f (told f.readings rule.pattern n).pairs → after ≡ record f { bindings = bindings_told f.readings n rule }
orderly_bindings f after n rule empty is sure pushed =
    pushed ∙ ap {A = List NodeId} {B = Observed} (λ bs. record f { bindings = bs }) (ap (λ bs. bs ++ nodes_of (told f.readings rule.pattern n).pairs) empty ∙ sym (bindings_counted f.readings n rule is sure))
