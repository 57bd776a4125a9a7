-- The new nodes, the redirections and the wakes of a contractum without faults.
use Rattle.std.proofs.Common.{◌≡◌, ℕ, ◌+◌, ◌<◌, ◌≤◌, Bool, true, false, not, ◌||◌, ◌&&◌, cond, if◌then◌else◌, List, [], ◌∷◌, ◌++◌, map, length, filter, count_by, sum_by, All, Option, Some, None, refl, sym, ap, subst, ◌∙◌, arith, inl, nat_lt}
use Rattle.std.specs.List.{flat_map}
use Rattle.std.proofs.lemmas.List.{length-map}
use Rattle.std.proofs.lemmas.List.Sums.{sum_by-cons}
use Rattle.std.proofs.lemmas.List.Folds.{list_any-append}
use Rattle.dactl_base.specs.declared.refusal.Kind.{Kind}
use Rattle.dactl_base.specs.declared.refusal.Kind.TheVariants as kinds
use Rattle.dactl_base.specs.declared.refusal.Refusal.{Refusal}
use Rattle.dactl_model.specs.declared.program.Mention.TheVariants.{Old, Fresh}
use Rattle.dactl_model.specs.declared.program.FreshArc.{FreshArc}
use Rattle.dactl_model.specs.declared.program.FreshNode.{FreshNode}
use Rattle.dactl_model.specs.Programs.{IsMention, IsLabel, IsFreshMark, IsFreshNode, AreFreshNodes}
use Rattle.dactl_model.proofs.Unique.{right_true}
use Rattle.dactl_meaning.specs.declared.tree.Name.{Name}
use Rattle.dactl_meaning.specs.declared.tree.Marks.{Marks}
use Rattle.dactl_meaning.specs.declared.tree.Marks.TheVariants as marks
use Rattle.dactl_meaning.specs.declared.tree.TermTree.{TermTree}
use Rattle.dactl_meaning.specs.Sight.{Seen, SeenSymbol, SeenPattern}
use Rattle.dactl_meaning.specs.Uses.{Use, term_uses}
use Rattle.dactl_meaning.specs.Expansion.{is_among, number_in}
use Rattle.dactl_meaning.specs.Contractum.{Target, Made, Named, Core, Number, Character, Of, Sketch, Drawn, terms_draw, made_by, MentionTree, mentions_of, name_list, given_names, has_name, number_given, name_denotes, denotes, mark_of, symbol_label, label_of, fresh_of, fresh_nodes, has_star, wakes_of}
use Rattle.dactl_meaning.specs.RuleFaults.{place_of, at_if, core_names, wide_in_contractum, is_pattern, not_creatable, bound_names, unbound_mentions, too_many_waits_at, too_many_waits, each_at, contractum_faults}
use Rattle.dactl_meaning.specs.Spelling.{is_counted, is_whole}
use Rattle.dactl_validity.specs.Counting.{AreCountable}
use Rattle.dactl_validity.proofs.ValidLists.{In, in_left, in_right, in_map, map_in, in_flat, flat_in, in_filter, filter_in, all_of}
use Rattle.dactl_validity.proofs.ValidTests.{right_only, is_true, not_above, at_least}
use Rattle.dactl_validity.proofs.ValidPatterns.{SeesBelow}
use Rattle.dactl_validity.proofs.ValidVariables.{among_in, number_below}
use Rattle.dactl_validity.proofs.ValidTerms.{Within, Limits, IsCore, IsSketch, IsDrawn, terms_drawn}

-- ---- faults

-- no fault of the list
abbrev pub Faultless : List Refusal → Type 0
Faultless faults = (r : Refusal) → In faults r → ⊥

abbrev pub NoPlace : List ℕ → Type 0
NoPlace places = (p : ℕ) → In places p → ⊥

pub faultless_left : (xs ys : List Refusal) → Faultless (xs ++ ys) → Faultless xs
faultless_left xs ys h r k = h r (in_left xs ys r k)

pub faultless_right : (xs ys : List Refusal) → Faultless (xs ++ ys) → Faultless ys
faultless_right xs ys h r k = h r (in_right xs ys r k)

pub no_place : (kind : Kind) (places : List ℕ) → Faultless (each_at kind places) → NoPlace places
no_place kind places h p k = h _ (in_map (λ (place : ℕ). record { kind = kind; place = record { byte = place } }) places p k)

-- what passes a test would be a fault
pub none_passes : {X : Type 0} (test : X → Bool) (xs : List X) (place : X → ℕ) → NoPlace (map place (filter test xs)) → (x : X) → In xs x → test x ≡ false
none_passes test xs place h x k = (elim (test x) as (λ b. test x ≡ b → b ≡ false) [
  | true ↦ λ e. absurd (h (place x) (in_map place (filter test xs) x (in_filter test xs x k e)))
  | false ↦ λ e. refl
]) refl

pub record HasNoFault (look : List ℕ → Option Seen) (variables : List (List ℕ)) (terms : List TermTree) : Type 0 where
  pub wide : NoPlace (wide_in_contractum terms)
  pub unbound : NoPlace (unbound_mentions variables terms)
  pub creatable : NoPlace (not_creatable look terms)
  pub waits : NoPlace (too_many_waits terms)

pub has_no_fault : (look : List ℕ → Option Seen) (variables roots : List (List ℕ)) (terms : List TermTree) → Faultless (contractum_faults look variables roots terms) → HasNoFault look variables terms
has_no_fault look variables roots terms h = record {
  wide = no_place kinds.TooWide (wide_in_contractum terms) (λ r k. h r (search (in_left, in_right, k) depth 8));
  unbound = no_place kinds.Unbound (unbound_mentions variables terms) (λ r k. h r (search (in_left, in_right, k) depth 8));
  creatable = no_place kinds.NotCreatable (not_creatable look terms) (λ r k. h r (search (in_left, in_right, k) depth 8));
  waits = no_place kinds.TooManyWaits (too_many_waits terms) (λ r k. h r (search (in_left, in_right, k) depth 8));
}

-- ---- what names denote

rest_among : (o : Option Name) (names : List Name) (w : List ℕ) → is_among (map (λ n. n.text) (name_list o ++ names)) w ≡ true → is_among (map (λ n. n.text) (name_list o)) w ≡ false → is_among (map (λ n. n.text) names) w ≡ true
rest_among None names w e t = e
rest_among (Some name) names w e t = right_only _ _ e t

given_below : (made : List Sketch) (w : List ℕ) → is_among (map (λ n. n.text) (given_names made)) w ≡ true → number_given made w < length made
given_below [] w e = absurd cc
given_below (s ∷ made) w e = (elim (has_name s w) as (λ b. has_name s w ≡ b → number_given (s ∷ made) w < length (s ∷ made)) [
  | true ↦ λ t. (let here : number_given (s ∷ made) w ≡ 0 = ap (λ (b : Bool). if b then 0 else number_given made w + 1) t in omega (arith, here))
  | false ↦ λ t. (
      let later : number_given (s ∷ made) w ≡ number_given made w + 1 = ap (λ (b : Bool). if b then 0 else number_given made w + 1) t in
      omega (arith, later, given_below made w (rest_among s.name (given_names made) w e t)))
]) refl

module _ (variables : List (List ℕ)) (made : List Sketch) where
  -- a name that is bound denotes what is there
  abbrev IsBound : List ℕ → Type 0
  IsBound w = is_among (variables ++ map (λ n. n.text) (given_names made)) w ≡ true

  name_there : (w : List ℕ) → IsBound w → IsMention (length variables) (length made) (name_denotes variables made w)
  name_there w h = (elim (is_among variables w) as (λ b. is_among variables w ≡ b → IsMention (length variables) (length made) (if b then Old (number_in variables w) else Fresh (number_given made w))) [
    | true ↦ λ t. number_below variables w (among_in variables w t)
    | false ↦ λ t. given_below made w (ap (λ (b : Bool). b || is_among (map (λ n. n.text) (given_names made)) w) (sym t) ∙ sym (list_any-append _ variables (map (λ n. n.text) (given_names made))) ∙ h)
  ]) refl

  target_there : (t : Target) → Within (length made) IsBound t → IsMention (length variables) (length made) (denotes variables made t)
  target_there (Made k) h = h
  target_there (Named w) h = name_there w h

-- ---- the new nodes

-- the name is seen
abbrev pub IsSeen : (List ℕ → Option Seen) → Name → Type 0
IsSeen look name = (s : Seen) × (look name.text ≡ Some s)

sum_over : {X Y : Type 0} (f : Y → ℕ) (g : X → Y) (h : X → ℕ) → ((x : X) → f (g x) ≡ h x) → (xs : List X) → sum_by f (map g xs) ≡ sum_by h xs
sum_over f g h same [] = refl
sum_over f g h same (x ∷ xs) = omega (arith, sum_by-cons f (g x) (map g xs), same x, sum_over f g h same xs, sum_by-cons h x xs)

module _ (look : List ℕ → Option Seen) (variables : List (List ℕ)) (terms : List TermTree) (symbols : ℕ)
    (fine : HasNoFault look variables terms) (below : SeesBelow symbols look)
    (whole : (t : TermTree) → In terms t → is_whole t ≡ true)
    (seen : (u : Use) → In (flat_map term_uses terms) u → IsSeen look u.name) where
  abbrev made : List Sketch
  made = made_by terms

  -- what the contractum mentions is bound
  mentions_bound : (m : MentionTree) → In (mentions_of terms) m → IsBound variables made m.name.text
  mentions_bound m h = is_true (is_among (bound_names variables terms) m.name.text)
      (none_passes (λ (m : MentionTree). not (is_among (bound_names variables terms) m.name.text)) (mentions_of terms) (λ (m : MentionTree). place_of m.name) fine.unbound m h)

  abbrev limits : Limits
  limits = record { bound = length made; Known = IsBound variables made; Used = IsSeen look; Strict = ⊥ }

  all_drawn : (d : Drawn) → In (terms_draw 0 terms) d → IsDrawn limits d
  all_drawn = terms_drawn limits terms 0 (omega arith) whole (λ s. absurd s) mentions_bound seen

  sketch_drawn : (s : Sketch) → In made s → IsSketch limits s
  sketch_drawn s h = let r = flat_in (λ (d : Drawn). d.made) (terms_draw 0 terms) s h in (all_drawn r.0 r.1).made s r.2

  few_arcs : (s : Sketch) → In made s → length s.arcs ≤ 16
  few_arcs s h = by_core s.core refl (sketch_drawn s h).core
    where
      by_core : (c : Core) → s.core ≡ c → IsCore (IsSeen look) c s.arcs → length s.arcs ≤ 16
      by_core (Number value) e k = let none : length s.arcs ≡ 0 = ap length k in omega (arith, none)
      by_core (Character value) e k = let none : length s.arcs ≡ 0 = ap length k in omega (arith, none)
      by_core (Of name) e k = not_above 16 (length s.arcs) ((elim (nat_lt 16 (length s.arcs)) as (λ b. nat_lt 16 (length s.arcs) ≡ b → b ≡ false) [
        | true ↦ λ t. absurd (fine.wide (place_of name) (in_map place_of _ name
            (in_flat (λ (z : Sketch). core_names z.core) (filter (λ (z : Sketch). nat_lt 16 (length z.arcs)) made) s name (in_filter (λ (z : Sketch). nat_lt 16 (length z.arcs)) made s h t)
            (subst (λ c. In (core_names c) name) (sym e) (inl refl)))))
        | false ↦ λ t. refl
      ]) refl)

  label_fine : (s : Sketch) → In made s → IsLabel symbols (label_of look s.core) (length s.arcs)
  label_fine s h = by_core s.core refl (sketch_drawn s h).core
    where
      by_seen : (name : Name) → s.core ≡ Of name → (z : Seen) → look name.text ≡ Some z → IsLabel symbols (symbol_label (Some z)) (length s.arcs)
      by_seen name e (SeenSymbol f class) k = below name.text f class k
      by_seen name e (SeenPattern m i) k = absurd (fine.creatable (place_of name) (in_map place_of _ name
          (in_filter (λ (n : Name). is_pattern (look n.text)) (flat_map (λ (z : Sketch). core_names z.core) made) name
          (in_flat (λ (z : Sketch). core_names z.core) made s name h (subst (λ c. In (core_names c) name) (sym e) (inl refl))) (ap is_pattern k))))

      by_core : (c : Core) → s.core ≡ c → IsCore (IsSeen look) c s.arcs → IsLabel symbols (label_of look c) (length s.arcs)
      by_core (Number value) e k = ap length k
      by_core (Character value) e k = ap length k
      by_core (Of name) e k = subst (λ o. IsLabel symbols (symbol_label o) (length s.arcs)) (sym k.1) (by_seen name e k.0 k.1)

  abbrev flags : Sketch → ℕ
  flags s = count_by (λ (a : Bool × Target). a.0) s.arcs

  mark_fine : (s : Sketch) → In made s → IsFreshMark (mark_of s.marks) (flags s)
  mark_fine s h = by_marks s.marks refl (sketch_drawn s h).marks
    where
      by_marks : (m : Marks) → s.marks ≡ m → is_counted m ≡ true → IsFreshMark (mark_of m) (flags s)
      by_marks marks.Plain e k = tt
      by_marks (marks.Star p) e k = tt
      by_marks (marks.Hashes p count) e k = (
        at_least 1 count k,
        not_above (flags s) count ((elim (nat_lt (flags s) count) as (λ b. nat_lt (flags s) count ≡ b → b ≡ false) [
          | true ↦ λ t. absurd (fine.waits p.byte (in_flat (λ (z : Sketch). too_many_waits_at z z.marks) made s p.byte h
              (subst (λ m. In (too_many_waits_at s m) p.byte) (sym e) (subst (λ b. In (at_if b p.byte) p.byte) (sym t) (inl refl)))))
          | false ↦ λ t. refl
        ]) refl),
      )

  abbrev news : List FreshNode
  news = fresh_nodes look variables terms

  as_many : length news ≡ length made
  as_many = length-map made (fresh_of look variables made)

  arc_of : Bool × Target → FreshArc
  arc_of a = record { to = denotes variables made a.1; waits = a.0 }

  node_fine : (s : Sketch) → In made s → IsFreshNode symbols (length variables) (length news) (fresh_of look variables made s)
  unfolding arc_of
  node_fine s h =
      let many : length (map arc_of s.arcs) ≡ length s.arcs = length-map s.arcs arc_of in
      record {
        label = subst (IsLabel symbols (label_of look s.core)) (sym many) (label_fine s h);
        few = omega (arith, many, few_arcs s h);
        mentions = all_of (λ (a : FreshArc). IsMention (length variables) (length news) a.to) (map arc_of s.arcs) (λ a i.
            let r = map_in arc_of s.arcs a i in
            subst (λ (z : FreshArc). IsMention (length variables) (length news) z.to) r.2
            (subst (λ n. IsMention (length variables) n (denotes variables made r.0.1)) (sym as_many) (target_there variables made r.0.1 ((sketch_drawn s h).arcs r.0 r.1))));
        mark = subst (IsFreshMark (mark_of s.marks)) (sym (sum_over (λ (a : FreshArc). cond a.waits 1 0) arc_of (λ (a : Bool × Target). cond a.0 1 0) (λ a. refl) s.arcs)) (mark_fine s h);
      }

  pub news_fine : AreCountable terms → AreFreshNodes symbols (length variables) news
  news_fine countable = record {
    each = all_of (IsFreshNode symbols (length variables) (length news)) news (λ n i. let r = map_in (fresh_of look variables made) made n i in subst (IsFreshNode symbols (length variables) (length news)) r.2 (node_fine r.0 r.1));
    nodes = omega (arith, as_many, countable.nodes);
    arcs = omega (arith, countable.arcs, sum_over (λ (n : FreshNode). length n.arcs) (fresh_of look variables made) (λ (s : Sketch). length s.arcs) (λ s. length-map s.arcs _) made);
  }

  -- ---- the wakes

  pub wakes_fine : All (λ v. v < length variables) (wakes_of variables terms)
  wakes_fine = all_of (λ v. v < length variables) (wakes_of variables terms) (λ v i.
      let r = map_in (λ (m : MentionTree). number_in variables m.name.text) _ v i in
      let passed = filter_in (λ (m : MentionTree). has_star m.marks && is_among variables m.name.text) (mentions_of terms) r.0 r.1 in
      subst (λ n. n < length variables) r.2 (number_below variables r.0.name.text (among_in variables r.0.name.text (right_true (has_star r.0.marks) _ passed.1))))

  -- ---- what a term stands for

  pub stands_fine : (d : Drawn) → In (terms_draw 0 terms) d → IsMention (length variables) (length news) (denotes variables made d.target)
  stands_fine d h = subst (λ n. IsMention (length variables) n (denotes variables made d.target)) (sym as_many) (target_there variables made d.target (all_drawn d h).target)
