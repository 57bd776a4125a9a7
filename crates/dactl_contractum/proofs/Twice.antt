-- Names that are given again.
use Rattle.std.proofs.Common.{◌≡◌, ℕ, ◌+◌, ◌<◌, Bool, true, false, ◌||◌, cond, List, [], ◌∷◌, ◌++◌, length, map, take, get_or, Option, Some, None, is_some, refl, sym, ap, ◌∙◌, append_assoc, if◌then◌else◌}
use Rattle.std.specs.Option.{option_or}
use Rattle.std.specs.Str.{bytes_eq}
use Rattle.std.proofs.lemmas.Slice.Eq.{bytes_eq-Decides}
use Rattle.std.proofs.lemmas.List.{append-nil, take_more, map-append}
use Rattle.std.proofs.lemmas.Grind.{flat_map-append}
use Rattle.dactl_base.specs.declared.refusal.Kind.{Kind}
use Rattle.dactl_base.specs.declared.refusal.Refusal.{Refusal}
use Rattle.dactl_meaning.specs.declared.tree.Name.{Name}
use Rattle.dactl_meaning.specs.Expansion.{is_among}
use Rattle.dactl_meaning.specs.Contractum as contractum
use Rattle.dactl_meaning.specs.Contractum.{name_list, given_names}
use Rattle.dactl_meaning.specs.RuleFaults.{each_at, again, place_of}
use Rattle.dactl_contractum.specs.declared.drawing.Sketch.{Sketch}
use Rattle.dactl_contractum.specs.Drawing.{sketch_of}
use Rattle.dactl_names.specs.declared.map.NameMap.{NameMap}
use Rattle.dactl_names.specs.Found.{found, Notes}
use Rattle.dactl_contractum.specs.Numbers.{variable_number}
use Rattle.dactl_contractum.specs.Told.{fault_at}
use Rattle.dactl_contractum.proofs.Tables.{is_some-first}

-- the names that count as seen behind some names
abbrev pub seen_after : List (List ℕ) → List Name → List (List ℕ)
seen_after seen [] = seen
seen_after seen (n ∷ names) = seen_after (if is_among seen n.text then seen else n.text ∷ seen) names

again_by : (b c : Bool) (m n : Name) (one two one_more two_more : List Name) → one_more ≡ one ++ (if c then n ∷ [] else []) → two_more ≡ two ++ (if c then n ∷ [] else [])
    → cond b (m ∷ one_more) two_more ≡ cond b (m ∷ one) two ++ (if c then n ∷ [] else [])
again_by true c m n one two one_more two_more e f = ap (λ (z : List Name). m ∷ z) e
again_by false c m n one two one_more two_more e f = f

again_cases : (b : Bool) (seen : List (List ℕ)) (m n : Name) (ns : List Name) → is_among seen m.text ≡ b
    → again seen (ns ++ n ∷ []) ≡ again seen ns ++ (if is_among (seen_after seen ns) n.text then n ∷ [] else [])
    → again (m.text ∷ seen) (ns ++ n ∷ []) ≡ again (m.text ∷ seen) ns ++ (if is_among (seen_after (m.text ∷ seen) ns) n.text then n ∷ [] else [])
    → cond b (m ∷ again seen (ns ++ n ∷ [])) (again (m.text ∷ seen) (ns ++ n ∷ []))
    ≡ cond b (m ∷ again seen ns) (again (m.text ∷ seen) ns) ++ (if is_among (seen_after (cond b seen (m.text ∷ seen)) ns) n.text then n ∷ [] else [])
again_cases true seen m n ns h e f = ap (λ (z : List Name). m ∷ z) e
again_cases false seen m n ns h e f = f

again-push : (seen : List (List ℕ)) (ns : List Name) (n : Name) → again seen (ns ++ n ∷ []) ≡ again seen ns ++ (if is_among (seen_after seen ns) n.text then n ∷ [] else [])
again-push seen [] n = refl
again-push seen (m ∷ ns) n = again_cases (is_among seen m.text) seen m n ns refl (again-push seen ns n) (again-push (m.text ∷ seen) ns n)

seen-push : (seen : List (List ℕ)) (ns : List Name) (n : Name) → seen_after seen (ns ++ n ∷ []) ≡ (if is_among (seen_after seen ns) n.text then seen_after seen ns else n.text ∷ seen_after seen ns)
seen-push seen [] n = refl
seen-push seen (m ∷ ns) n = seen-push (if is_among seen m.text then seen else m.text ∷ seen) ns n

is_some-option_or : (a b : Option ℕ) → is_some (option_or a b) ≡ (is_some a || is_some b)
is_some-option_or None b = refl
is_some-option_or (Some n) b = refl

is_some-if : (b : Bool) (n : ℕ) → is_some (if b then Some n else None) ≡ b
is_some-if true n = refl
is_some-if false n = refl

-- what the table says once the name is noted
noted_seen : (table next : NameMap ℕ) (n v : List ℕ) → Notes n 0 table next → is_some (found next v) ≡ (is_some (found table v) || bytes_eq n v)
noted_seen table next n v noted = ap is_some (noted v) ∙ is_some-option_or (found table v) (if bytes_eq n v then Some 0 else None) ∙ ap (λ (z : Bool). is_some (found table v) || z) (is_some-if (bytes_eq n v) 0)

bools : (p q e : Bool) → (e || (p || q)) ≡ (p || (q || e))
bools true q true = refl
bools true q false = refl
bools false true true = refl
bools false true false = refl
bools false false true = refl
bools false false false = refl

or_true : (p q : Bool) → (p || (q || true)) ≡ true
or_true true q = refl
or_true false true = refl
or_true false false = refl

or_false : (p q : Bool) → (p || (q || false)) ≡ (p || q)
or_false true q = refl
or_false false true = refl
or_false false false = refl

seen_by : (b e : Bool) (s : List (List ℕ)) (n v : List ℕ) (p q : Bool) → is_among s n ≡ b → bytes_eq n v ≡ e → is_among s v ≡ (p || q) → is_among (cond b s (n ∷ s)) v ≡ (p || (q || e))
seen_by false e s n v p q hb he h = ap (λ (z : Bool). z || is_among s v) he ∙ ap (λ (z : Bool). e || z) h ∙ bools p q e
seen_by true false s n v p q hb he h = h ∙ sym (or_false p q)
seen_by true true s n v p q hb he h = ap (is_among s) (sym ((bytes_eq-Decides n v).0 he)) ∙ hb ∙ sym (or_true p q)

each_again : (kind : Kind) (b : Bool) (xs : List Name) (n : Name) → each_at kind (map place_of (xs ++ (if b then n ∷ [] else []))) ≡ each_at kind (map place_of xs) ++ fault_at b kind n.place
each_again kind b xs n = by b
  where
    by : (c : Bool) → each_at kind (map place_of (xs ++ (if c then n ∷ [] else []))) ≡ each_at kind (map place_of xs) ++ fault_at c kind n.place
    by true = ap (each_at kind) (map-append place_of xs (n ∷ [])) ∙ map-append (λ (place : ℕ). let r : Refusal = record { kind = kind; place = record { byte = place } } in r) (map place_of xs) (place_of n ∷ [])
    by false = ap (λ (z : List Name). each_at kind (map place_of z)) (append-nil xs) ∙ sym (append-nil (each_at kind (map place_of xs)))

-- what holds of the names so far, after which the table has those seen
pub record AreTwice (kind : Kind) (variables : List (List ℕ)) (names : List Name) (table : NameMap ℕ) (start faults : List Refusal) : Type 0 where
  pub told : faults ≡ start ++ each_at kind (map place_of (again variables names))
  pub seen : (w : List ℕ) → is_among (seen_after variables names) w ≡ (is_some (variable_number variables w) || is_some (found table w))

or_none : (b : Bool) → b ≡ (b || false)
or_none true = refl
or_none false = refl

pub twice_start : (kind : Kind) (variables : List (List ℕ)) (table : NameMap ℕ) (start : List Refusal) → ((w : List ℕ) → found table w ≡ None) → AreTwice kind variables [] table start start
twice_start kind variables table start none = record {
  told = sym (append-nil start);
  seen = λ w.
      sym (is_some-first (λ v. bytes_eq v w) 0 variables) ∙ or_none (is_some (variable_number variables w))
      ∙ ap (λ (o : Option ℕ). is_some (variable_number variables w) || is_some o) (sym (none w));
}

pub twice_more : (kind : Kind) (variables : List (List ℕ)) (names : List Name) (table table_next : NameMap ℕ) (start faults next : List Refusal) (n : Name) (known : Bool) → AreTwice kind variables names table start faults → Notes n.text 0 table table_next
    → known ≡ (is_some (variable_number variables n.text) || is_some (found table n.text)) → next ≡ faults ++ fault_at known kind n.place
    → AreTwice kind variables (names ++ n ∷ []) table_next start next
twice_more kind variables names table table_next start faults next n known h noted k step =
    let s = seen_after variables names in
    let same : known ≡ is_among s n.text = k ∙ sym (h.seen n.text) in
    record {
      told = step ∙ ap (λ (z : List Refusal). z ++ fault_at known kind n.place) h.told
          ∙ append_assoc start (each_at kind (map place_of (again variables names))) (fault_at known kind n.place)
          ∙ ap (λ (z : Bool). start ++ (each_at kind (map place_of (again variables names)) ++ fault_at z kind n.place)) same
          ∙ ap (λ (z : List Refusal). start ++ z) (sym (each_again kind (is_among s n.text) (again variables names) n))
          ∙ ap (λ (z : List Name). start ++ each_at kind (map place_of z)) (sym (again-push variables names n));
      seen = λ w.
          ap (λ (z : List (List ℕ)). is_among z w) (seen-push variables names n)
          ∙ seen_by (is_among s n.text) (bytes_eq n.text w) s n.text w (is_some (variable_number variables w)) (is_some (found table w)) refl refl (h.seen w)
          ∙ ap (λ (z : Bool). is_some (variable_number variables w) || z) (sym (noted_seen table table_next n.text w noted));
    }

-- the names that sketches have, one sketch more
pub names_more : (xs : List Sketch) (i : ℕ) (x : Sketch) → i < length xs → x ≡ get_or xs i x
    → given_names (map sketch_of (take (i + 1) xs)) ≡ given_names (map sketch_of (take i xs)) ++ name_list x.term.now.name
names_more xs i x lt is =
    ap (λ (z : List Sketch). given_names (map sketch_of z)) (take_more xs i x lt ∙ ap (λ (z : Sketch). take i xs ++ z ∷ []) (sym is))
    ∙ ap given_names (map-append sketch_of (take i xs) (x ∷ []))
    ∙ flat_map-append (λ (s : contractum.Sketch). name_list s.name) (map sketch_of (take i xs)) (sketch_of x ∷ [])
    ∙ ap (λ (z : List Name). given_names (map sketch_of (take i xs)) ++ z) (append-nil (name_list x.term.now.name))
