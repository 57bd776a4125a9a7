-- What the names of a contractum stand for.
use Rattle.std.proofs.Common.{◌≡◌, ℕ, suc, ◌+◌, ◌<◌, Bool, true, false, ◌&&◌, ◌||◌, cond, List, [], ◌∷◌, ◌++◌, length, map, take, get_or, Option, Some, None, is_some, refl, sym, ap, ◌∙◌, append_assoc, true≢false, arith, if◌then◌else◌}
use Rattle.std.specs.List.{list_any, filter, filter_map}
use Rattle.std.specs.Str.{bytes_eq}
use Rattle.std.proofs.lemmas.List.{append-nil, take_more, map-append, length-map, length-take-le}
use Rattle.std.proofs.lemmas.List.Elements.{filter_map-append}
use Rattle.dactl_model.specs.declared.graph.Label.TheVariants as labels
use Rattle.dactl_model.specs.declared.program.FreshNode.{FreshNode}
use Rattle.dactl_model.specs.declared.program.Mention.TheVariants.{Old, Fresh}
use Rattle.dactl_model.specs.declared.program.Move.{Move}
use Rattle.dactl_meaning.specs.declared.tree.Name.{Name}
use Rattle.dactl_meaning.specs.declared.tree.TermTree.{TermTree}
use Rattle.dactl_meaning.specs.declared.tree.Part.{Part}
use Rattle.dactl_meaning.specs.Expansion.{is_among, number_in}
use Rattle.dactl_meaning.specs.Contractum as contractum
use Rattle.dactl_meaning.specs.Sight.{Seen, SeenSymbol, SeenPattern}
use Rattle.dactl_meaning.specs.Contractum.{Core, Number, Character, Of, symbol_label, label_of, mark_of, fresh_of}
use Rattle.dactl_meaning.specs.Contractum.{Sketch, Drawn, has_name, number_given, name_denotes, left_of_part, term_of_part, term_draws, terms_draw, made_by, move_of, moves_from, root_move, moves_of, has_star}
use Rattle.dactl_contractum.specs.Numbers.{first_from, variable_number, node_number}
use Rattle.dactl_contractum.specs.declared.drawing.Sketch as code
use Rattle.dactl_contractum.specs.Drawing.{sketch_of}
use Rattle.dactl_contractum.specs.Meant.{move_by, moves_by, root_by, arc_meant, label_with, node_with, nodes_with}
use Rattle.dactl_contractum.specs.Told.{seen_symbol, core_symbol, symbol_at}
use Rattle.dactl_contractum.proofs.Tables.{is_some-first}

-- ---- the first item that passes a test, by a recursion of its own

module _ {A : Type 0} (test : A → Bool) (F : List A → ℕ) (ends : F [] ≡ 0) (steps : (x : A) (xs : List A) → F (x ∷ xs) ≡ (if test x then 0 else F xs + 1)) where
  is_by : (b c : Bool) (k n : ℕ) (o : Option ℕ) → o ≡ (if c then Some (k + 1 + n) else None) → cond b (Some k) o ≡ (if (b || c) then Some (k + (if b then 0 else n + 1)) else None)
  is_by true c k n o e = let e : k ≡ k + 0 = omega arith in ap (λ (z : ℕ). Some z) e
  is_by false true k n o e = let s : k + 1 + n ≡ k + (n + 1) = omega arith in e ∙ ap (λ (z : ℕ). Some z) s
  is_by false false k n o e = e

  first_is : (k : ℕ) (xs : List A) → first_from test k xs ≡ (if list_any test xs then Some (k + F xs) else None)
  first_is k [] = refl
  first_is k (x ∷ xs) =
      is_by (test x) (list_any test xs) k (F xs) (first_from test (k + 1) xs) (first_is (k + 1) xs)
      ∙ ap (λ (z : ℕ). if list_any test (x ∷ xs) then Some (k + z) else None) (sym (steps x xs))

  below_by : (b c : Bool) (n m : ℕ) → (c ≡ true → n < m) → (b || c) ≡ true → (if b then 0 else n + 1) < m + 1
  below_by true c n m h e = omega arith
  below_by false c n m h e = let lt = h e in omega arith

  below : (xs : List A) → list_any test xs ≡ true → F xs < length xs
  below [] h = absurd (true≢false (sym h))
  below (x ∷ xs) h = let e = steps x xs in let lt = below_by (test x) (list_any test xs) (F xs) (length xs) (below xs) h in omega arith

  all_by : (b c : Bool) (n m : ℕ) → (c ≡ false → n ≡ m) → (b || c) ≡ false → (if b then 0 else n + 1) ≡ m + 1
  all_by true c n m h e = absurd (true≢false e)
  all_by false c n m h e = ap (λ (z : ℕ). z + 1) (h e)

  all : (xs : List A) → list_any test xs ≡ false → F xs ≡ length xs
  all [] h = ends
  all (x ∷ xs) h = let e = steps x xs in let at = all_by (test x) (list_any test xs) (F xs) (length xs) (all xs) h in omega arith

  pub some_facts : (xs : List A) (n : ℕ) → first_from test 0 xs ≡ Some n → (list_any test xs ≡ true) × (F xs ≡ n) × (n < length xs)
  some_facts xs n h =
      let any : list_any test xs ≡ true = sym (is_some-first test 0 xs) ∙ ap is_some h in
      let at : Some (0 + F xs) ≡ Some n = ap (λ (b : Bool). if b then Some (0 + F xs) else None) (sym any) ∙ sym (first_is 0 xs) ∙ h in
      let e : 0 + F xs ≡ n = cc in
      let lt = below xs any in
      (any, omega arith, omega arith)

  pub none_facts : (xs : List A) → first_from test 0 xs ≡ None → (list_any test xs ≡ false) × (F xs ≡ length xs)
  none_facts xs h = let any : list_any test xs ≡ false = sym (is_some-first test 0 xs) ∙ ap is_some h in (any, all xs any)

pub variable_some : (variables : List (List ℕ)) (w : List ℕ) (n : ℕ) → variable_number variables w ≡ Some n → (is_among variables w ≡ true) × (number_in variables w ≡ n) × (n < length variables)
variable_some variables w n h = some_facts (λ v. bytes_eq v w) (λ vs. number_in vs w) refl (λ v vs. refl) variables n h

pub variable_none : (variables : List (List ℕ)) (w : List ℕ) → variable_number variables w ≡ None → (is_among variables w ≡ false) × (number_in variables w ≡ length variables)
variable_none variables w h = none_facts (λ v. bytes_eq v w) (λ vs. number_in vs w) refl (λ v vs. refl) variables h

pub node_some : (made : List Sketch) (w : List ℕ) (n : ℕ) → node_number made w ≡ Some n → (number_given made w ≡ n) × (n < length made)
node_some made w n h = let f = some_facts (λ s. has_name s w) (λ z. number_given z w) refl (λ s z. refl) made n h in (f.1, f.2)

pub node_none : (made : List Sketch) (w : List ℕ) → node_number made w ≡ None → number_given made w ≡ length made
node_none made w h = (none_facts (λ s. has_name s w) (λ z. number_given z w) refl (λ s z. refl) made h).1

-- ---- what a name denotes

pub denotes_old : (variables : List (List ℕ)) (made : List Sketch) (w : List ℕ) (n : ℕ) → variable_number variables w ≡ Some n → Old n ≡ name_denotes variables made w
denotes_old variables made w n h =
    let f = variable_some variables w n h in
    ap (λ (z : ℕ). Old z) (sym f.1) ∙ ap (λ (b : Bool). if b then Old (number_in variables w) else Fresh (number_given made w)) (sym f.0)

pub denotes_fresh : (variables : List (List ℕ)) (made : List Sketch) (w : List ℕ) (n : ℕ) → variable_number variables w ≡ None → number_given made w ≡ n → Fresh n ≡ name_denotes variables made w
denotes_fresh variables made w n h k =
    let f = variable_none variables w h in
    ap (λ (z : ℕ). Fresh z) (sym k) ∙ ap (λ (b : Bool). if b then Old (number_in variables w) else Fresh (number_given made w)) (sym f.0)

pub wakes_some : (variables : List (List ℕ)) (w : List ℕ) (n : ℕ) → variable_number variables w ≡ Some n → Some n ≡ (if true && is_among variables w then Some (number_in variables w) else None)
wakes_some variables w n h =
    let f = variable_some variables w n h in
    ap (λ (z : ℕ). Some z) (sym f.1) ∙ ap (λ (b : Bool). if b then Some (number_in variables w) else None) (sym f.0)

pub wakes_none : (variables : List (List ℕ)) (w : List ℕ) → variable_number variables w ≡ None → None ≡ (if true && is_among variables w then Some (number_in variables w) else None)
wakes_none variables w h = ap (λ (b : Bool). if b then Some (number_in variables w) else None) (sym (variable_none variables w h).0)

-- ---- redirections

moves-push : (variables : List (List ℕ)) (made : List Sketch) (ps : List Part) (p : Part) (ts : List contractum.Target) (t : contractum.Target) → length ps ≡ length ts
    → moves_by variables made (ps ++ p ∷ []) (ts ++ t ∷ []) ≡ moves_by variables made ps ts ++ move_by variables made (left_of_part p) t
moves-push variables made [] p [] t e = append-nil (move_by variables made (left_of_part p) t)
moves-push variables made [] p (u ∷ ts) t e = absurd (omega arith)
moves-push variables made (q ∷ ps) p [] t e = absurd (omega arith)
moves-push variables made (q ∷ ps) p (u ∷ ts) t e =
    ap (λ (z : List Move). move_by variables made (left_of_part q) u ++ z) (moves-push variables made ps p ts t (omega arith))
    ∙ sym (append_assoc (move_by variables made (left_of_part q) u) (moves_by variables made ps ts) (move_by variables made (left_of_part p) t))

pub moves_more : {T : Type 0} (variables : List (List ℕ)) (made : List Sketch) (f : T → contractum.Target) (ps : List Part) (ts : List T) (i : ℕ) (p : Part) (d : T) → i < length ps → length ps ≡ length ts → p ≡ get_or ps i p
    → moves_by variables made (take (i + 1) ps) (map f (take (i + 1) ts)) ≡ moves_by variables made (take i ps) (map f (take i ts)) ++ move_by variables made (left_of_part p) (f (get_or ts i d))
moves_more variables made f ps ts i p d lt same at_p =
    let lt_t : i < length ts = omega arith in
    let t = get_or ts i d in
    let more_p = take_more ps i p lt ∙ ap (λ (z : Part). take i ps ++ z ∷ []) (sym at_p) in
    let more_t = ap (map f) (take_more ts i d lt_t) ∙ map-append f (take i ts) (t ∷ []) in
    let lengths : length (take i ps) ≡ length (map f (take i ts)) = omega (arith, length-take-le i ps (omega arith), length-take-le i ts (omega arith), length-map (take i ts) f) in
    ap (λ (z : List Part). moves_by variables made z (map f (take (i + 1) ts))) more_p ∙ ap (moves_by variables made (take i ps ++ p ∷ [])) more_t
    ∙ moves-push variables made (take i ps) p (map f (take i ts)) (f t) lengths

pub push_step : {A : Type 0} (start a x now next more : List A) → next ≡ now ++ x → now ≡ start ++ a → more ≡ a ++ x → next ≡ start ++ more
push_step start a x now next more step so_far grown = step ∙ ap (λ (z : List _). z ++ x) so_far ∙ append_assoc start a x ∙ ap (λ (z : List _). start ++ z) (sym grown)

wakes_by : (variables : List (List ℕ)) (w : List ℕ) (o : Option ℕ) → variable_number variables w ≡ o → variable_number variables w ≡ (if true && is_among variables w then Some (number_in variables w) else None)
wakes_by variables w None h = h ∙ wakes_none variables w h
wakes_by variables w (Some n) h = h ∙ wakes_some variables w n h

pub wakes_is : (variables : List (List ℕ)) (w : List ℕ) → variable_number variables w ≡ (if true && is_among variables w then Some (number_in variables w) else None)
wakes_is variables w = wakes_by variables w (variable_number variables w) refl

pub kept_one : {X Y : Type 0} (f : X → Option Y) (x : X) (y : Y) → f x ≡ Some y → filter_map f (x ∷ []) ≡ y ∷ []
kept_one f x y e = rw e refl

pub kept_none : {X Y : Type 0} (f : X → Option Y) (x : X) → f x ≡ None → filter_map f (x ∷ []) ≡ []
kept_none f x e = rw e refl

pub wakes_more : {M : Type 0} (wakes : contractum.MentionTree → Option ℕ) (f : M → contractum.MentionTree) (ms : List M) (i : ℕ) (m : M) → i < length ms → m ≡ get_or ms i m
    → filter_map wakes (map f (take (i + 1) ms)) ≡ filter_map wakes (map f (take i ms)) ++ filter_map wakes (f m ∷ [])
wakes_more wakes f ms i m lt at =
    ap (λ (z : List _). filter_map wakes (map f z)) (take_more ms i m lt ∙ ap (λ (z : _). take i ms ++ z ∷ []) (sym at))
    ∙ ap (filter_map wakes) (map-append f (take i ms) (m ∷ [])) ∙ filter_map-append wakes (map f (take i ms)) (f m ∷ [])

-- ---- all redirections

one_told : (variables : List (List ℕ)) (made : List Sketch) (left : Option Name) (d : Drawn) → move_by variables made left d.target ≡ move_of variables made left d
one_told variables made None d = refl
one_told variables made (Some left) d = refl

moves_told : (variables : List (List ℕ)) (made : List Sketch) (k : ℕ) (ps : List Part) → moves_by variables made ps (map (λ (d : Drawn). d.target) (terms_draw k (map term_of_part ps))) ≡ moves_from variables made k ps
moves_told variables made k [] = refl
moves_told variables made k (p ∷ ps) =
    let d = term_draws (term_of_part p) k in
    ap (λ (z : List Move). move_by variables made (left_of_part p) d.target ++ z) (moves_told variables made (k + length d.made) ps)
    ∙ ap (λ (z : List Move). z ++ moves_from variables made (k + length d.made) ps) (one_told variables made (left_of_part p) d)

root_told : (variables : List (List ℕ)) (made : List Sketch) (redirects : Bool) (terms : List TermTree) → root_by variables made redirects (map (λ (d : Drawn). d.target) (terms_draw 0 terms)) ≡ root_move variables made redirects terms
root_told variables made false terms = refl
root_told variables made true [] = refl
root_told variables made true (t ∷ terms) = refl

pub all_moves : (variables : List (List ℕ)) (made : List Sketch) (redirects : Bool) (ps : List Part) (targets : List contractum.Target) (first all : List Move) → made ≡ made_by (map term_of_part ps)
    → targets ≡ map (λ (d : Drawn). d.target) (terms_draw 0 (map term_of_part ps)) → first ≡ root_by variables made redirects targets → all ≡ first ++ moves_by variables made ps targets → all ≡ moves_of variables redirects ps
all_moves variables made redirects ps targets first all is_made are_targets is_first are_all =
    are_all ∙ ap (λ (z : List Move). z ++ moves_by variables made ps targets) is_first
    ∙ ap (λ (z : List contractum.Target). root_by variables made redirects z ++ moves_by variables made ps z) are_targets
    ∙ ap (λ (z : List Move). z ++ moves_by variables made ps (map (λ (d : Drawn). d.target) (terms_draw 0 (map term_of_part ps)))) (root_told variables made redirects (map term_of_part ps))
    ∙ ap (λ (z : List Move). root_move variables made redirects (map term_of_part ps) ++ z) (moves_told variables made 0 ps)
    ∙ ap (λ (z : List Sketch). root_move variables z redirects (map term_of_part ps) ++ moves_from variables z 0 ps) is_made

pub drawn_lengths : (k : ℕ) (terms : List TermTree) → length (terms_draw k terms) ≡ length terms
drawn_lengths k [] = refl
drawn_lengths k (t ∷ terms) = ap (λ (n : ℕ). suc n) (drawn_lengths (k + length (term_draws t k).made) terms)

-- ---- wakes

pub wake_one : (b : Bool) (n : ℕ) (m : contractum.MentionTree) (ms : List contractum.MentionTree) (variables : List (List ℕ)) (rest : List ℕ) → rest ≡ map (λ m. number_in variables m.name.text) (filter (λ m. has_star m.marks && is_among variables m.name.text) ms)
    → n ≡ number_in variables m.name.text → cond b (n ∷ rest) rest ≡ map (λ (x : contractum.MentionTree). number_in variables x.name.text) (cond b (m ∷ filter (λ m. has_star m.marks && is_among variables m.name.text) ms) (filter (λ m. has_star m.marks && is_among variables m.name.text) ms))
wake_one true n m ms variables rest e f = ap (λ (z : ℕ). z ∷ rest) f ∙ ap (λ (z : List ℕ). number_in variables m.name.text ∷ z) e
wake_one false n m ms variables rest e f = e

-- ---- new nodes

symbol_is : (o : Option Seen) → labels.Symbol (seen_symbol o) ≡ symbol_label o
symbol_is None = refl
symbol_is (Some (SeenSymbol id class)) = refl
symbol_is (Some (SeenPattern m i)) = refl

label_is : (look : List ℕ → Option Seen) (c : Core) → label_with c (core_symbol look c) ≡ label_of look c
label_is look (Number value) = refl
label_is look (Character value) = refl
label_is look (Of name) = symbol_is (look name.text)

-- new nodes whose symbols are looked up are those that are meant
pub nodes_told : (look : List ℕ → Option Seen) (variables : List (List ℕ)) (made sketches : List Sketch) → nodes_with variables made sketches (map (symbol_at look) sketches) ≡ map (fresh_of look variables made) sketches
nodes_told look variables made [] = refl
nodes_told look variables made (s ∷ sketches) = λ j. record { label = label_is look s.core j; arcs = map (arc_meant variables made) s.arcs; mark = mark_of s.marks } ∷ nodes_told look variables made sketches j

nodes-push : (variables : List (List ℕ)) (made sketches : List Sketch) (s : Sketch) (symbols : List ℕ) (n : ℕ) → length sketches ≡ length symbols
    → nodes_with variables made (sketches ++ s ∷ []) (symbols ++ n ∷ []) ≡ nodes_with variables made sketches symbols ++ node_with variables made s n ∷ []
nodes-push variables made [] s [] n e = refl
nodes-push variables made [] s (m ∷ symbols) n e = absurd (omega arith)
nodes-push variables made (x ∷ sketches) s [] n e = absurd (omega arith)
nodes-push variables made (x ∷ sketches) s (m ∷ symbols) n e = ap (λ (z : List FreshNode). node_with variables made x m ∷ z) (nodes-push variables made sketches s symbols n (omega arith))

-- one new node more
pub nodes_more : {X : Type 0} (variables : List (List ℕ)) (made : List Sketch) (f : X → Sketch) (xs : List X) (symbols : List ℕ) (i : ℕ) (x : X) (now next : List FreshNode) → i < length xs → length symbols ≡ length xs → x ≡ get_or xs i x
    → now ≡ nodes_with variables made (map f (take i xs)) (take i symbols) → next ≡ now ++ node_with variables made (f x) (get_or symbols i 0) ∷ []
    → next ≡ nodes_with variables made (map f (take (i + 1) xs)) (take (i + 1) symbols)
nodes_more variables made f xs symbols i x now next lt same at so_far step =
    let lt_s : i < length symbols = omega arith in
    let n = get_or symbols i 0 in
    let more_x = ap (map f) (take_more xs i x lt ∙ ap (λ (z : _). take i xs ++ z ∷ []) (sym at)) ∙ map-append f (take i xs) (x ∷ []) in
    let lengths : length (map f (take i xs)) ≡ length (take i symbols) = omega (arith, length-take-le i xs (omega arith), length-take-le i symbols (omega arith), length-map (take i xs) f) in
    step ∙ ap (λ (z : List FreshNode). z ++ node_with variables made (f x) n ∷ []) so_far
    ∙ sym (nodes-push variables made (map f (take i xs)) (f x) (take i symbols) n lengths)
    ∙ (λ j. nodes_with variables made (sym more_x j) (sym (take_more symbols i 0 lt_s) j))

-- each new node has a symbol's number
pub symbols_many : (look : List ℕ → Option Seen) (made : List code.Sketch) (symbols : List ℕ) → symbols ≡ map (symbol_at look) (map sketch_of made) → length symbols ≡ length made
symbols_many look made symbols is = ap length is ∙ length-map (map sketch_of made) (symbol_at look) ∙ length-map made sketch_of
