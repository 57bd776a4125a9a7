-- Each reading of a probe is at a path of its own, so they are no more than the paths.
use Rattle.std.proofs.Common.{◌≡◌, ◌≢◌, ℕ, zero, suc, ◌<◌, ◌≤◌, ◌↔◌, Bool, true, false, ◌&&◌, ◌||◌, ◌==◌, List, [], ◌∷◌, ◌++◌, length, get_or, refl, sym, ◌∙◌, ap, subst, arith, slice_get, Option, Some, None, All, AllPairs, ◌⊎◌, inl, inr, cond, unwrap_or, length-append}
use Rattle.std.specs.List.{Contains, AllZip, AllByRecursion, IsDistinct}
use Rattle.std.specs.Set.{is_member}
use Rattle.std.proofs.lemmas.Bool.{eq-eqb, eqb-true, cases_lt}
use Rattle.std.proofs.lemmas.Bool.Decides.{Decides-eqb}
use Rattle.std.proofs.lemmas.Slice.Eq.{slice_eq-Decides}
use Rattle.std.proofs.lemmas.Map.Keys.{IsDistinct-cons}
use Rattle.std.proofs.lemmas.Cmp.{nat_list_eq_equiv}
use Rattle.std.proofs.lemmas.List.Elements.{All-from_recursion, recursion_from_All}
use Rattle.std.proofs.lemmas.List.Quantifiers.{all_pairs_push}
use Rattle.std.proofs.lemmas.List.Folds.{list_any_none}
use Rattle.std.proofs.lemmas.Map.Made.{length-le_from_is_member}
use Rattle.std.proofs.lemmas.Option.{slice_get_within, get_or_from_slice_get, slice_get-get_or}
use Rattle.std.specs.Bool.{Decides as IsDecided}
use Rattle.dactl_model.specs.declared.graph.NodeId.{NodeId}
use Rattle.dactl_model.specs.declared.graph.Label.{Label}
use Rattle.dactl_model.specs.declared.graph.Label.TheVariants.{Symbol, Integer, Character}
use Rattle.dactl_model.specs.declared.graph.Event.TheVariants as event
use Rattle.dactl_model.specs.declared.reading.Reading.{Reading}
use Rattle.dactl_model.specs.declared.program.Rule.{Rule}
use Rattle.dactl_model.specs.declared.program.Program.{Program}
use Rattle.dactl_model.specs.Patterns.{same_node}
use Rattle.dactl_model.specs.Programs.{IsValid}
use Rattle.dactl_model.specs.Readings.{reading_of, targets_of, told, Yes}
use Rattle.dactl_model.specs.Rooms.{Observed}
use Rattle.dactl_decide.specs.Paths.{is_root, tests, symbol_tests, same_path, IsNumberOf}
use Rattle.dactl_decide.specs.Decisions.{Decisions, AreDecisions}
use Rattle.dactl_decide.proofs.Gathered.{symbol_within}
use Rattle.dactl_probe.specs.declared.verdict.Verdict.{Verdict}
use Rattle.dactl_probe.specs.declared.verdict.Verdict.TheVariants as verdict
use Rattle.dactl_probe.specs.declared.probe.Next.TheVariants.{Need, Done}
use Rattle.dactl_model.specs.RuleTold.{ShowsFire, bindings_told}
use Rattle.dactl_probe.proofs.Decided.{same_rule}
use Rattle.dactl_probe.specs.Leading.{Leads}
use Rattle.dactl_probe.specs.declared.lost.Lost.{Lost}
use Rattle.dactl_probe.specs.Lost.{AreLost}
use Rattle.dactl_probe.specs.Verdicts.{label_tests, IsPlaced, IsNeed, IsVerdict}
use Rattle.dactl_probe.specs.Probing.{Probing, IsProbing, IsNextNode, IsTargetRead, Decides, most}
use Rattle.dactl_probe.specs.Tracing.{next_of, IsReadAt, IsTraced, IsSound}

zip_long : {A B : Type 0} (R : A → B → Type 0) (xs : List A) (ys : List B) → AllZip R xs ys → length xs ≡ length ys
zip_long R [] [] all = refl
zip_long R [] (y ∷ ys) all = absurd all
zip_long R (x ∷ xs) [] all = absurd all
zip_long R (x ∷ xs) (y ∷ ys) all = ap suc (zip_long R xs ys all.1)

zip_push : {A B : Type 0} (R : A → B → Type 0) (xs : List A) (ys : List B) (x : A) (y : B) → AllZip R xs ys → R x y → AllZip R (xs ++ x ∷ []) (ys ++ y ∷ [])
zip_push R [] [] x y all last = (last, tt)
zip_push R [] (z ∷ ys) x y all last = absurd all
zip_push R (z ∷ xs) [] x y all last = absurd all
zip_push R (z ∷ xs) (w ∷ ys) x y all last = (all.0, zip_push R xs ys x y all.1 last)

-- one path leads to one node
leads_one : (rs : List Reading) (n : NodeId) (path : List ℕ) (a b : NodeId) → Leads rs n path a → Leads rs n path b → a ≡ b
leads_one rs n [] a b first second = sym first ∙ second
leads_one rs n (i ∷ path) a b (r, k, read, get, rest) (s, j, also, got, others) =
    let same_reading : r ≡ s = (let e = sym read ∙ also in same_some e) in
    let same_target : k ≡ j = same_some (sym get ∙ (ap (λ x. slice_get (targets_of x.targets) i) same_reading ∙ got)) in
    leads_one rs k path a b rest (subst (λ x. Leads rs x path b) (sym same_target) others)
  where
    same_some : {X : Type 0} {x y : X} → Some x ≡ Some y → x ≡ y
    same_some e = cc

-- further readings leave what was read
pub read_more : (rs more : List Reading) (n : NodeId) (r : Reading) → reading_of rs n ≡ Some r → reading_of (rs ++ more) n ≡ Some r
read_more [] more n r is = cc
read_more (x ∷ rs) more n r is = go (same_node x.node n) (read_more rs more n r) is
  where
    go : (b : Bool) → (reading_of rs n ≡ Some r → reading_of (rs ++ more) n ≡ Some r) → cond b (Some x) (reading_of rs n) ≡ Some r → cond b (Some x) (reading_of (rs ++ more) n) ≡ Some r
    go true rest e = e
    go false rest e = rest e

leads_more : (rs more : List Reading) (n : NodeId) (path : List ℕ) (m : NodeId) → Leads rs n path m → Leads (rs ++ more) n path m
leads_more rs more n [] m leads = leads
leads_more rs more n (i ∷ path) m (r, k, read, get, rest) = (r, k, read_more rs more n r read, get, leads_more rs more k path m rest)

-- who was not read is none of those read
unread_each : (rs : List Reading) (m : NodeId) → reading_of rs m ≡ None → AllByRecursion (λ r. r.node ≢ m) rs
unread_each [] m unread = tt
unread_each (x ∷ rs) m unread = go (same_node x.node m) refl (unread_each rs m) unread
  where
    go : (b : Bool) → same_node x.node m ≡ b → (reading_of rs m ≡ None → AllByRecursion (λ r. r.node ≢ m) rs) → cond b (Some x) (reading_of rs m) ≡ None → AllByRecursion (λ r. r.node ≢ m) (x ∷ rs)
    go true e rest is = cc
    go false e rest is = ((λ same. let clash : true ≡ false = sym (eq-eqb x.node.number m.number (ap (λ k. k.number) same)) ∙ e in cc), rest is)

unread_all : (rs : List Reading) (m : NodeId) → reading_of rs m ≡ None → All (λ r. r.node ≢ m) rs
unread_all rs m unread = All-from_recursion (λ r. r.node ≢ m) rs (unread_each rs m unread)

read_contains : (rs : List Reading) (n : NodeId) (r : Reading) → reading_of rs n ≡ Some r → Contains rs r
read_contains [] n r is = cc
read_contains (x ∷ rs) n r is = go (same_node x.node n) (read_contains rs n r) is
  where
    go : (b : Bool) → (reading_of rs n ≡ Some r → Contains rs r) → cond b (Some x) (reading_of rs n) ≡ Some r → Contains (x ∷ rs) r
    go true rest e = let same : x ≡ r = cc in (zero, omega arith, same)
    go false rest e = let at = rest e in (suc at.0, omega (arith, at.1), at.2)

-- where a path of one step or more leads is a target of a node that was read
leads_target : (rs : List Reading) (n : NodeId) (i : ℕ) (path : List ℕ) (m : NodeId) → Leads rs n (i ∷ path) m → IsTargetRead rs m
leads_target rs n i [] m (r, k, read, get, rest) =
    (r, read_contains rs n r read, subst (λ x. Contains (targets_of r.targets) x) rest (i, slice_get_within (targets_of r.targets) i k get, get_or_from_slice_get (targets_of r.targets) i k k get))
leads_target rs n i (j ∷ path) m (r, k, read, get, rest) = leads_target rs k j path m rest

path_Decides : (a b : List ℕ) → IsDecided (same_path a b) (a ≡ b)
path_Decides a b = slice_eq-Decides Decides-eqb a b (same_path a b) refl

other_path : (a b : List ℕ) → (a ≡ b → ⊥) → same_path a b ≡ false
other_path a b other = go (same_path a b) refl
  where
    go : (c : Bool) → same_path a b ≡ c → c ≡ false
    go true e = absurd (other ((path_Decides a b).0 e))
    go false e = refl

IsDistinct-nil : IsDistinct same_path []
unfolding IsDistinct
IsDistinct-nil = tt

-- as many different nodes at tested paths as there are tested paths, at most
module _ {X : Type 0} (key : X → NodeId) (passes : List ℕ → Bool) (rs : List Reading) (n : NodeId) where
  abbrev pub At : List ℕ → X → Type 0
  At path x = (passes path ≡ true) × Leads rs n path (key x)

  abbrev AreApart : List X → Type 0
  AreApart [] = Unit {0}
  AreApart (x ∷ xs) = AllByRecursion (λ y. key x ≢ key y) xs × AreApart xs

  apart : (xs : List X) → AllPairs (λ a b. key a ≢ key b) xs → AreApart xs
  apart [] different = tt
  apart (x ∷ xs) different = (
    recursion_from_All (λ y. key x ≢ key y) xs (λ k d within. different zero (suc k) d (omega arith) (omega (arith, within))),
    apart xs (λ i j d before within. different (suc i) (suc j) d (omega (arith, before)) (omega (arith, within))),
  )

  other_paths : (path : List ℕ) (x : X) → At path x → (paths : List (List ℕ)) (xs : List X) → AllZip At paths xs → AllByRecursion (λ y. key x ≢ key y) xs → AllByRecursion (λ q. same_path path q ≡ false) paths
  other_paths path x at [] xs places others = tt
  other_paths path x at (q ∷ paths) [] places others = absurd places
  other_paths path x at (q ∷ paths) (y ∷ xs) places others = (
    other_path path q (λ same. others.0 (leads_one rs n q (key x) (key y) (subst (λ p. Leads rs n p (key x)) same at.1) places.0.1)),
    other_paths path x at paths xs places.1 others.1,
  )

  distinct_paths : (paths : List (List ℕ)) (xs : List X) → AllZip At paths xs → AreApart xs → IsDistinct same_path paths
  distinct_paths [] xs places different = IsDistinct-nil
  distinct_paths (q ∷ paths) [] places different = absurd places
  distinct_paths (q ∷ paths) (x ∷ xs) places different = IsDistinct-cons same_path q paths (other_paths q x places.0 paths xs places.1 different.0) (distinct_paths paths xs places.1 different.1)

  member_passes : (paths : List (List ℕ)) (xs : List X) → AllZip At paths xs → (q : List ℕ) → is_member same_path paths q ≡ true → passes q ≡ true
  member_passes [] xs places q is = cc
  member_passes (path ∷ paths) [] places q is = absurd places
  member_passes (path ∷ paths) (x ∷ xs) places q is = go (same_path q path) refl is (member_passes paths xs places.1 q)
    where
      go : (b : Bool) → same_path q path ≡ b → (b || is_member same_path paths q) ≡ true → (is_member same_path paths q ≡ true → passes q ≡ true) → passes q ≡ true
      go true e in_list rest = ap passes ((path_Decides q path).0 e) ∙ places.0.0
      go false e in_list rest = rest in_list

  pub few_paths : (k : ℕ) → IsNumberOf passes k → (paths : List (List ℕ)) (xs : List X) → AllZip At paths xs → AllPairs (λ a b. key a ≢ key b) xs → length xs ≤ k
  few_paths k counted paths xs places different =
      let long = zip_long At paths xs places in
      let distinct = distinct_paths paths xs places (apart xs different) in
      let fewer = length-le_from_is_member nat_list_eq_equiv paths counted.paths distinct (λ q is. counted.exactly q ∙ member_passes paths xs places q is) in
      omega (arith, long, fewer, counted.number)

-- how many paths are tested at a node with the label

root_alone : (passes : List ℕ → Bool) → ((path : List ℕ) → is_root path ≡ passes path) → IsNumberOf passes 1
root_alone passes is = record {
  paths = [] ∷ [];
  different = IsDistinct-cons same_path [] [] tt IsDistinct-nil;
  exactly = λ path. member path ∙ is path;
  number = refl;
}
  where
    member : (path : List ℕ) → is_member same_path ([] ∷ []) path ≡ is_root path
    member [] = refl
    member (i ∷ path) = refl

no_symbol_tests : (p : Program) (f : ℕ) (path : List ℕ) → IsValid p → length p.symbols ≤ f → is_root path ≡ symbol_tests p.rules f path
no_symbol_tests p f path valid past =
    let none = list_any_none (λ rule. (rule.symbol == f) && tests rule.pattern path) p.rules (λ k d within. not_here k d within) in
    sym (ap (λ b. is_root path || b) none ∙ or_false (is_root path))
  where
    or_false : (b : Bool) → (b || false) ≡ b
    or_false true = refl
    or_false false = refl

    not_here : (k : ℕ) (d : Rule) → k < length p.rules → ((get_or p.rules k d).symbol == f && tests (get_or p.rules k d).pattern path) ≡ false
    not_here k d within = go ((get_or p.rules k d).symbol == f) refl
      where
        go : (b : Bool) → ((get_or p.rules k d).symbol == f) ≡ b → (b && tests (get_or p.rules k d).pattern path) ≡ false
        go true e = absurd (omega (arith, eqb-true (get_or p.rules k d).symbol f e, symbol_within p k (get_or p.rules k d) valid (slice_get-get_or p.rules k d within), past))
        go false e = refl

pub label_counted : (d : Decisions) → AreDecisions d → (l : Label) → IsNumberOf (label_tests d.program l) (most d l)
label_counted d are (Integer i) = root_alone (label_tests d.program (Integer i)) (λ path. refl)
label_counted d are (Character c) = root_alone (label_tests d.program (Character c)) (λ path. refl)
label_counted d are (Symbol f) = at (slice_get d.paths f) refl
  where
    at : (o : Option ℕ) → slice_get d.paths f ≡ o → IsNumberOf (symbol_tests d.program.rules f) (unwrap_or o 1)
    at (Some k) is = are.numbers.each f k is
    at None is = root_alone (symbol_tests d.program.rules f) (λ path. no_symbol_tests d.program f path are.valid (past is))
      where
        past : slice_get d.paths f ≡ None → length d.program.symbols ≤ f
        past none = elim (cases_lt f (length d.paths)) [
          | inl inside ↦ (let some = sym none ∙ slice_get-get_or d.paths f 0 inside in cc)
          | inr outside ↦ omega (arith, are.numbers.long, outside)
        ]

pub most_within : (d : Decisions) → AreDecisions d → (l : Label) → most d l ≤ d.widest
most_within d are (Integer i) = are.greatest.some
most_within d are (Character c) = are.greatest.some
most_within d are (Symbol f) = at (slice_get d.paths f) refl
  where
    at : (o : Option ℕ) → slice_get d.paths f ≡ o → unwrap_or o 1 ≤ d.widest
    at None is = are.greatest.some
    at (Some k) is =
        let above = are.greatest.above f k (slice_get_within d.paths f k is) in
        let same = get_or_from_slice_get d.paths f k k is in
        omega (arith, above, same)

same_reading : (rs : List Reading) (n : NodeId) (a b : Reading) → reading_of rs n ≡ Some a → reading_of rs n ≡ Some b → a ≡ b
same_reading rs n a b is also = let e : Some a ≡ Some b = sym is ∙ also in cc

-- the readings of a traced probe are no more than the paths at the root's label
traced_few : (d : Decisions) (n : NodeId) (rs : List Reading) → AreDecisions d → AllPairs (λ a b. a.node ≢ b.node) rs → (t : IsTraced d.program rs n) → length rs ≤ most d t.root.label
traced_few d n rs are different t = few_paths (λ r. r.node) (label_tests d.program t.root.label) rs n (most d t.root.label) (label_counted d are t.root.label) t.paths rs t.places different

-- and with a needed node there is room for one more
traced_fewer : (d : Decisions) (n m : NodeId) (rs : List Reading) → AreDecisions d → AllPairs (λ a b. a.node ≢ b.node) rs → (t : IsTraced d.program rs n) → reading_of rs m ≡ None → (path : List ℕ) → IsReadAt d.program t.root rs n path m → length rs < most d t.root.label
traced_fewer d n m rs are different t unread path at =
    let further : Reading = record t.root { node = m } in
    let apart_all = all_pairs_push (λ a b. a.node ≢ b.node) rs further different (unread_all rs m unread) in
    let places = zip_push (At (λ r. r.node) (label_tests d.program t.root.label) rs n) t.paths rs path further t.places at in
    let few = few_paths (λ r. r.node) (label_tests d.program t.root.label) rs n (most d t.root.label) (label_counted d are t.root.label) (t.paths ++ path ∷ []) (rs ++ further ∷ []) places apart_all in
    omega (arith, few, length-append rs (further ∷ []))

placed_at : (p : Program) (rs : List Reading) (n m : NodeId) (t : IsTraced p rs n) (placed : IsPlaced p rs n m) → IsReadAt p t.root rs n placed.path m
placed_at p rs n m t placed =
    let same = same_reading rs n placed.root t.root placed.is_root t.is_root in
    (ap (λ r. label_tests p r.label placed.path) (sym same) ∙ placed.tested, placed.leads)

placed_of : (p : Program) (rs : List Reading) (n m : NodeId) → IsTraced p rs n → IsNeed p rs n m → IsPlaced p rs n m
placed_of p rs n m t need = elim need.place [
  | inl root ↦ (let clash = sym root.0 ∙ t.is_root in cc)
  | inr placed ↦ placed
]

-- a needed node of a probe that has read its root is a target of a node that was read
placed_target : (p : Program) (rs : List Reading) (n m : NodeId) → reading_of rs m ≡ None → (placed : IsPlaced p rs n m) → IsTargetRead rs m
placed_target p rs n m unread placed = go placed.path placed.leads
  where
    go : (path : List ℕ) → Leads rs n path m → IsTargetRead rs m
    go [] at = let clash = sym unread ∙ (ap (reading_of rs) (sym at) ∙ placed.is_root) in cc
    go (i ∷ path) leads = leads_target rs n i path m leads

pub done_of : (p : Program) (rs : List Reading) (n : NodeId) (v : Verdict) → IsVerdict p rs n v → (next_of v ≡ Done) ↔ Decides p rs n
done_of p rs n (verdict.Need m) is = ((λ e. cc), (λ (e, at, shows). absurd (is.undecided e at shows)))
done_of p rs n (verdict.Fire r) is = ((λ e. (event.Fire n r, refl, is)), (λ decides. refl))
done_of p rs n verdict.Note is = ((λ e. (event.Note n, refl, ([], is))), (λ decides. refl))

needed : (v : Verdict) (m : NodeId) → next_of v ≡ Need m → v ≡ verdict.Need m
needed (verdict.Need k) m e = let same : k ≡ m = cc in ap verdict.Need same
needed (verdict.Fire r) m e = cc
needed verdict.Note m e = cc

module _ (d : Decisions) (n : NodeId) (footprint : Observed) (v : Verdict) (lost : Lost) (sound : IsSound d n footprint v lost) where
  few : (r : Reading) → reading_of footprint.readings n ≡ Some r → length footprint.readings ≤ most d r.label
  few r read = elim sound.traced [
    | inl empty ↦ (let clash = sym read ∙ ap (λ rs. reading_of rs n) empty in cc)
    | inr t ↦ subst (λ x. length footprint.readings ≤ most d x.label) (same_reading footprint.readings n t.root r t.is_root read) (traced_few d n footprint.readings sound.decisions sound.different t)
  ]

  fewer : (m : NodeId) → IsNeed d.program footprint.readings n m → (r : Reading) → reading_of footprint.readings n ≡ Some r → length footprint.readings < most d r.label
  fewer m need r read = elim sound.traced [
    | inl empty ↦ (let clash = sym read ∙ ap (λ rs. reading_of rs n) empty in cc)
    | inr t ↦ (
        let placed = placed_of d.program footprint.readings n m t need in
        subst (λ x. length footprint.readings < most d x.label) (same_reading footprint.readings n t.root r t.is_root read)
        (traced_fewer d n m footprint.readings sound.decisions sound.different t need.unread placed.path (placed_at d.program footprint.readings n m t placed)))
  ]

  within : (m : NodeId) → IsNeed d.program footprint.readings n m → length footprint.readings < d.widest
  within m need = elim sound.traced [
    | inl empty ↦ omega (arith, ap length empty, sound.decisions.greatest.some)
    | inr t ↦ omega (arith, fewer m need t.root t.is_root, most_within d sound.decisions t.root.label)
  ]

  next_node : (m : NodeId) → IsNeed d.program footprint.readings n m → IsNextNode (record { decisions = d; node = n; readings = footprint.readings; room = footprint.room; next = next_of v }) m
  next_node m need = record {
    unread = need.unread;
    place = elim sound.traced [
      | inl empty ↦ elim need.place [
        | inl root ↦ inl (empty, root.1)
        | inr placed ↦ (let clash = sym placed.is_root ∙ ap (λ rs. reading_of rs n) empty in cc)
      ]
      | inr t ↦ inr (placed_target d.program footprint.readings n m need.unread (placed_of d.program footprint.readings n m t need))
    ];
    fewer = fewer m need;
    within = within m need;
  }

  pub sound_probing : IsProbing (record { decisions = d; node = n; readings = footprint.readings; room = footprint.room; next = next_of v })
  sound_probing = record {
    done = done_of d.program footprint.readings n v sound.decided;
    need = λ m e. next_node m (subst (λ x. IsVerdict d.program footprint.readings n x) (needed v m e) sound.decided);
    different = sound.different;
    few = few;
  }

  -- there is room for the reading that is needed
  pub sound_room : (m : NodeId) → next_of v ≡ Need m → length footprint.readings < footprint.room
  sound_room m e =
      let need : IsNeed d.program footprint.readings n m = subst (λ x. IsVerdict d.program footprint.readings n x) (needed v m e) sound.decided in
      omega (arith, within m need, sound.room)

  root_read : (x : Reading) → x.node ≡ n → reading_of (x ∷ []) n ≡ Some x
  root_read x at = ap (λ b. cond b (Some x) None) (eq-eqb x.node.number n.number (ap (λ k. k.number) at))

  -- and after it the fields fit together again
  pub sound_step : (x : Reading) (w : Verdict) (k : Lost) → next_of v ≡ Need x.node → IsVerdict d.program (footprint.readings ++ x ∷ []) n w → AreLost d.program.rules (footprint.readings ++ x ∷ []) n k → IsSound d n (record footprint { readings = footprint.readings ++ x ∷ [] }) w k
  sound_step x w k e decided below =
      let need : IsNeed d.program footprint.readings n x.node = subst (λ y. IsVerdict d.program footprint.readings n y) (needed v x.node e) sound.decided in
      record {
        decisions = sound.decisions;
        room = sound.room;
        unbound = sound.unbound;
        different = all_pairs_push (λ a b. a.node ≢ b.node) footprint.readings x sound.different (unread_all footprint.readings x.node need.unread);
        traced = inr (elim sound.traced [
          | inl empty ↦ first need empty
          | inr t ↦ further need t
        ]);
        decided = decided;
        are_lost = below;
      }
    where
      first : IsNeed d.program footprint.readings n x.node → footprint.readings ≡ [] → IsTraced d.program (footprint.readings ++ x ∷ []) n
      first need empty = subst (λ rs. IsTraced d.program (rs ++ x ∷ []) n) (sym empty) (record {
        root = x;
        is_root = root_read x at;
        paths = [] ∷ [];
        places = ((root_tested x.label, sym at), tt);
      })
        where
          at : x.node ≡ n
          at = elim need.place [
            | inl root ↦ root.1
            | inr placed ↦ (let clash = sym placed.is_root ∙ ap (λ rs. reading_of rs n) empty in cc)
          ]

          root_tested : (l : Label) → label_tests d.program l [] ≡ true
          root_tested (Symbol f) = refl
          root_tested (Integer i) = refl
          root_tested (Character c) = refl

      further : IsNeed d.program footprint.readings n x.node → IsTraced d.program footprint.readings n → IsTraced d.program (footprint.readings ++ x ∷ []) n
      further need t =
          let placed = placed_of d.program footprint.readings n x.node t need in
          let at = placed_at d.program footprint.readings n x.node t placed in
          record {
            root = t.root;
            is_root = read_more footprint.readings (x ∷ []) n t.root t.is_root;
            paths = t.paths ++ placed.path ∷ [];
            places = zip_push (λ path r. IsReadAt d.program t.root (footprint.readings ++ x ∷ []) n path r.node) t.paths footprint.readings placed.path x (kept t.root t.paths footprint.readings t.places) (at.0, leads_more footprint.readings (x ∷ []) n placed.path x.node at.1);
          }
        where
          kept : (root : Reading) (paths : List (List ℕ)) (xs : List Reading) → AllZip (λ path r. IsReadAt d.program root footprint.readings n path r.node) paths xs → AllZip (λ path r. IsReadAt d.program root (footprint.readings ++ x ∷ []) n path r.node) paths xs
          kept root [] [] places = tt
          kept root [] (y ∷ xs) places = places
          kept root (q ∷ paths) [] places = places
          kept root (q ∷ paths) (y ∷ xs) places = ((places.0.0, leads_more footprint.readings (x ∷ []) n q y.node places.0.1), kept root paths xs places.1)

pub sound_start : (d : Decisions) (n : NodeId) (footprint : Observed) (v : Verdict) (k : Lost) → AreDecisions d → d.widest ≤ footprint.room → footprint.readings ≡ [] → footprint.bindings ≡ [] → IsVerdict d.program footprint.readings n v → AreLost d.program.rules footprint.readings n k → IsSound d n footprint v k
sound_start d n footprint v k are room empty unbound decided below = record {
  decisions = are;
  room = room;
  unbound = unbound;
  different = rw empty (λ i j d before within. absurd (omega (arith, within)));
  traced = inl empty;
  decided = decided;
  are_lost = below;
}

-- without readings the probe's own node is needed
pub first_verdict : (p : Program) (n : NodeId) (v : Verdict) → IsVerdict p [] n v → v ≡ verdict.Need n
first_verdict p n (verdict.Need m) is = elim is.place [
  | inl root ↦ ap verdict.Need root.1
  | inr placed ↦ (let clash = placed.is_root in cc)
]
first_verdict p n (verdict.Fire r) is = let clash = is.1.read in cc
first_verdict p n verdict.Note is = let clash = is.read in cc

pub nothing_needed : (v : Verdict) → ((r : ℕ) × (v ≡ verdict.Fire r)) ⊎ (v ≡ verdict.Note) → Done ≡ next_of v
nothing_needed v (inl (r, is)) = ap next_of (sym is)
nothing_needed v (inr is) = ap next_of (sym is)

-- what holds of a probe that begins
pub started : (d : Decisions) (n : NodeId) (footprint cleared : Observed) (rs : List Reading) (v : Verdict) (k : Lost) → AreDecisions d → d.widest ≤ footprint.room → cleared ≡ record { readings = []; bindings = []; room = footprint.room } → rs ≡ cleared.readings → IsVerdict d.program rs n v
    → AreLost d.program.rules rs n k → IsSound d n cleared v k
started d n footprint cleared rs v k are room is same decided below =
    sound_start d n cleared v k are (subst (λ o. d.widest ≤ o.room) (sym is) room) (ap (λ o. o.readings) is) (ap (λ o. o.bindings) is) (subst (λ xs. IsVerdict d.program xs n v) same decided) (subst (λ xs. AreLost d.program.rules xs n k) same below)

pub started_view : (d : Decisions) (n : NodeId) (footprint cleared : Observed) (rs : List Reading) (v : Verdict) → cleared ≡ record { readings = []; bindings = []; room = footprint.room } → rs ≡ cleared.readings → IsVerdict d.program rs n v
    → ◌≡◌ {A = Probing} (record { decisions = d; node = n; readings = cleared.readings; room = cleared.room; next = next_of v }) (record { decisions = d; node = n; readings = []; room = footprint.room; next = Need n })
started_view d n footprint cleared rs v is same decided =
    let empty : rs ≡ [] = same ∙ ap (λ o. o.readings) is in
    let v_is = first_verdict d.program n v (subst (λ xs. IsVerdict d.program xs n v) empty decided) in
    ap {A = Observed} {B = Probing} (λ o. record { decisions = d; node = n; readings = o.readings; room = o.room; next = next_of v }) is ∙ ap {A = Verdict} {B = Probing} (λ w. record { decisions = d; node = n; readings = []; room = footprint.room; next = next_of w }) v_is

-- a rule that may fire is one of the program
pub fire_within : (p : Program) (rs : List Reading) (n : NodeId) (v : Verdict) (r : ℕ) → IsVerdict p rs n v → v ≡ verdict.Fire r → r < length p.rules
fire_within p rs n v r decided is =
    let shown : IsVerdict p rs n (verdict.Fire r) = subst (IsVerdict p rs n) is decided in
    slice_get_within p.rules r shown.1.rule shown.1.is_rule

-- and its pattern holds
pub fire_yes : (p : Program) (rs : List Reading) (n : NodeId) (v : Verdict) (r : ℕ) (rule : Rule) → IsVerdict p rs n v → v ≡ verdict.Fire r → slice_get p.rules r ≡ Some rule → (told rs rule.pattern n).value ≡ Yes
fire_yes p rs n v r rule decided is is_rule =
    let shown : IsVerdict p rs n (verdict.Fire r) = subst (IsVerdict p rs n) is decided in
    let same = same_rule p.rules r shown.1.rule rule shown.1.is_rule is_rule in
    ap (λ x. (told rs x.pattern n).value) (sym same) ∙ shown.1.yes.pattern

-- with its own bindings the attempt shows its event
pub shows_fire : (p : Program) (before after : Observed) (n : NodeId) (v : Verdict) (r : ℕ) (rule : Rule) → IsVerdict p before.readings n v → v ≡ verdict.Fire r → slice_get p.rules r ≡ Some rule → after ≡ record before { bindings = bindings_told before.readings n rule } → ShowsFire p after.readings n r after.bindings
shows_fire p before after n v r rule decided is is_rule filled =
    let fires : IsVerdict p before.readings n (verdict.Fire r) = subst (IsVerdict p before.readings n) is decided in
    let shown = fires.1 in
    let same = same_rule p.rules r shown.rule rule shown.is_rule is_rule in
    let now : ShowsFire p before.readings n r (bindings_told before.readings n rule) = record { rule = shown.rule; is_rule = shown.is_rule; read = shown.read; yes = shown.yes; first = shown.first; bindings_are = ap (bindings_told before.readings n) (sym same) } in
    subst (λ o. ShowsFire p o.readings n r o.bindings) (sym filled) now
