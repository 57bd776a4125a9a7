-- The canonical text of a term is derived again.
use Rattle.std.proofs.Common.{◌≡◌, ℕ, zero, suc, ◌+◌, ◌-◌, ◌≤◌, Bool, true, false, List, [], ◌∷◌, ◌++◌, length, map, Option, Some, None, refl, sym, ap, ◌∙◌, append_assoc, arith, ℤ}
use Rattle.std.specs.Prelude.{codes, min, unwrap_or, is_some, option_map, if◌then◌else◌}
use Rattle.std.specs.Fmt.{signed_decimal}
use Rattle.std.specs.List.{AllByRecursion as Each, concat}
use Rattle.std.proofs.lemmas.List.{append-nil}
use Rattle.std.proofs.Math.Nat.{min-eq_left, min-le_right}
use Rattle.dactl_base.specs.declared.refusal.Place.{Place}
use Rattle.dactl_grammar.specs.Grammar.{maybe, many}
use Rattle.dactl_grammar.proofs.Holds.{Holds, IfThere, holds_weaker, holds_one, holds_row, holds_choice, holds_maybe, holds_many, holds_means, holds_barred}
use Rattle.dactl_terminals.specs.declared.token.Sort.TheVariants as s
use Rattle.dactl_meaning.specs.declared.tree.Name.{Name}
use Rattle.dactl_meaning.specs.declared.tree.Marks.{Marks}
use Rattle.dactl_meaning.specs.declared.tree.Marks.TheVariants as marks
use Rattle.dactl_meaning.specs.declared.tree.NodeTree.{NodeTree}
use Rattle.dactl_meaning.specs.declared.tree.NodeTree.TheVariants as node_tree
use Rattle.dactl_meaning.specs.declared.tree.NodeTree.TheVariants.{rolls-Sym, rolls-Integer, rolls-Letter}
use Rattle.dactl_meaning.specs.declared.tree.NodeTree.TheOpen.{NodeTree-F}
use Rattle.dactl_meaning.specs.declared.tree.NodeTree.TheFolds.{fold-roll-NodeTree, fold-roll-ArgTree, fold-roll-TermTree}
use Rattle.dactl_meaning.specs.declared.tree.TermTree.{TermTree, roll-TermTree}
use Rattle.dactl_meaning.specs.declared.tree.ArgTree.{ArgTree, roll-ArgTree}
use Rattle.dactl_terminals.specs.Parts.{Tok, Part_of, is, here, sign, behind, before, upper, lower, name_of, value_at}
use Rattle.dactl_syntax.specs.Productions.{star_of, hashes_of, counted, mark, integer_of, letter, letter_of, sym_of, node, named_of, bare_of, body, term_of, term, arg_of, arg, args}
use Rattle.dactl_syntax.specs.Canonical.{word, character, bracketed, repeated, marks_text, body_text, node_level, arg_level, term_level, node_text, arg_text, term_text}
use Rattle.dactl_meaning.specs.Unplaced.{bare_name, bare_marks, bare_node_level, bare_arg_level, bare_term_level, bare_node, bare_arg, bare_term, nowhere}
use Rattle.dactl_syntax.proofs.Holding.{AreTold, split_told, holds_anything, holds_behind, holds_before}
use Rattle.dactl_syntax.proofs.Back.{Back, SameBy, SameList, back_bytes, back_pair, back_means, back_left, back_right, back_none, back_some, back_behind, back_before, back_nil, back_cons, back_many}
use Rattle.dactl_syntax.proofs.Signs.{sign_back, upper_back, lower_back, integer_back, character_back}

module _ (wide : Bool) where
  -- each meaning of the part on tokens of a text is written as bytes that the part derives again, the same seen through e
  abbrev pub ReadsBack : {A B : Type 0} → Part_of A → (A → List ℕ) → (A → B) → Type 0
  ReadsBack P w e = Holds (AreTold wide) P (λ a. Back wide P (w a) (SameBy e a))

  -- ---- names

  pub upper_reads : ReadsBack upper (λ n. word n.text) bare_name
  upper_reads = holds_means name_of (λ n. Back wide upper (word n.text) (SameBy bare_name n)) (λ t h. upper_back wide (name_of t) (h.0.0.upper h.1)) (holds_one (is s.Upper))

  pub lower_reads : ReadsBack lower (λ n. word n.text) bare_name
  lower_reads = holds_means name_of (λ n. Back wide lower (word n.text) (SameBy bare_name n)) (λ t h. lower_back wide (name_of t) (h.0.0.lower h.1)) (holds_one (is s.Lower))

  -- ---- marks

  repeated_front : (n : ℕ) (w : List ℕ) → repeated (suc n) w ≡ w ++ repeated n w
  repeated_front zero w = sym (append-nil w)
  repeated_front (suc n) w = ap (λ (z : List ℕ). z ++ w) (repeated_front n w) ∙ append_assoc w (repeated n w) w

  abbrev hash_text : List ℕ
  hash_text = word (codes "#")

  hashes_back : (n : ℕ) → Back wide (many (sign s.Hash)) (repeated n hash_text) (λ ts. length ts ≡ n)
  hashes_back zero = back_nil (λ ts. length ts ≡ 0) refl
  hashes_back (suc n) = back_bytes (repeated (suc n) hash_text) (hash_text ++ repeated n hash_text) (repeated_front n hash_text) (back_cons (λ ts. length ts ≡ suc n) (λ t ts h k. ap (λ (m : ℕ). suc m) k) (sign_back wide s.Hash) (hashes_back n))

  some_hashes : (n count : ℕ) (place : Place) → count ≡ n + 1 → count ≤ 4294967295 → Back wide mark (marks_text (marks.Hashes place count)) (SameBy bare_marks (marks.Hashes place count))
  some_hashes n count place e low =
      let front : repeated count hash_text ≡ hash_text ++ repeated n hash_text = ap (λ (m : ℕ). repeated m hash_text) (e ∙ one_more n) ∙ repeated_front n hash_text in
      back_bytes (repeated count hash_text) (hash_text ++ repeated n hash_text) front
      (back_right (back_means hashes_of (SameBy bare_marks (marks.Hashes place count)) (λ v h. ap (λ (m : ℕ). marks.Hashes nowhere m) (same v.1 h.1)) (back_pair (sign_back wide s.Hash) (back_means length (λ m. m ≡ n) (λ ts h. h) (hashes_back n)))))
    where
      one_more : (m : ℕ) → m + 1 ≡ suc m
      one_more m = omega arith

      same : (m : ℕ) → m ≡ n → min (m + 1) 4294967295 ≡ count
      same m h = let le : m + 1 ≤ 4294967295 = omega arith in min-eq_left le ∙ omega arith

  mark_reads : ReadsBack mark marks_text bare_marks
  mark_reads = holds_choice
      (holds_means star_of (λ m. Back wide mark (marks_text m) (SameBy bare_marks m)) (λ t h. back_left (back_means star_of (SameBy bare_marks (star_of t)) (λ u k. refl) (sign_back wide s.Star))) (holds_one (is s.Star)))
      (holds_means hashes_of (λ m. Back wide mark (marks_text m) (SameBy bare_marks m)) (λ v h. hashes v) (holds_row (split_told wide) (holds_one (is s.Hash)) (λ _. holds_anything counted)))
    where
      hashes : (v : Tok × ℕ) → Back wide mark (marks_text (hashes_of v)) (SameBy bare_marks (hashes_of v))
      hashes v = let most = min-le_right (v.1 + 1) 4294967295 in some_hashes (min (v.1 + 1) 4294967295 - 1) (min (v.1 + 1) 4294967295) (here v.0) (omega arith) most

  -- ---- the levels of a term

  text_integer : (value : ℤ) (place : Place) → node_text (node_tree.Integer value place) ≡ word (signed_decimal value)
  text_integer value place = ap node_text (sym (rolls-Integer value place)) ∙ fold-roll-NodeTree (List ℕ) (List ℕ) (List ℕ) node_level arg_level term_level (NodeTree-F.Integer value place)

  bare_integer : (value : ℤ) (place : Place) → bare_node (node_tree.Integer value place) ≡ node_tree.Integer value nowhere
  bare_integer value place = ap bare_node (sym (rolls-Integer value place)) ∙ fold-roll-NodeTree NodeTree ArgTree TermTree bare_node_level bare_arg_level bare_term_level (NodeTree-F.Integer value place)

  text_letter : (value : ℕ) (place : Place) → node_text (node_tree.Letter value place) ≡ character value
  text_letter value place = ap node_text (sym (rolls-Letter value place)) ∙ fold-roll-NodeTree (List ℕ) (List ℕ) (List ℕ) node_level arg_level term_level (NodeTree-F.Letter value place)

  bare_letter : (value : ℕ) (place : Place) → bare_node (node_tree.Letter value place) ≡ node_tree.Letter value nowhere
  bare_letter value place = ap bare_node (sym (rolls-Letter value place)) ∙ fold-roll-NodeTree NodeTree ArgTree TermTree bare_node_level bare_arg_level bare_term_level (NodeTree-F.Letter value place)

  text_sym : (name : Name) (given : List ArgTree) → node_text (node_tree.Sym name given) ≡ word name.text ++ bracketed (map arg_text given)
  text_sym name given = ap node_text (sym (rolls-Sym name given)) ∙ fold-roll-NodeTree (List ℕ) (List ℕ) (List ℕ) node_level arg_level term_level (NodeTree-F.Sym name given)

  bare_sym : (name : Name) (given : List ArgTree) → bare_node (node_tree.Sym name given) ≡ node_tree.Sym (bare_name name) (map bare_arg given)
  bare_sym name given = ap bare_node (sym (rolls-Sym name given)) ∙ fold-roll-NodeTree NodeTree ArgTree TermTree bare_node_level bare_arg_level bare_term_level (NodeTree-F.Sym name given)

  text_arg : (waits : Bool) (t : TermTree) → arg_text (roll-ArgTree (record { waits = waits; term = t })) ≡ (if waits then word (codes "^") else []) ++ term_text t
  text_arg waits t = fold-roll-ArgTree (List ℕ) (List ℕ) (List ℕ) node_level arg_level term_level (record { waits = waits; term = t })

  bare_arg_is : (waits : Bool) (t : TermTree) → bare_arg (roll-ArgTree (record { waits = waits; term = t })) ≡ roll-ArgTree (record { waits = waits; term = bare_term t })
  bare_arg_is waits t = fold-roll-ArgTree NodeTree ArgTree TermTree bare_node_level bare_arg_level bare_term_level (record { waits = waits; term = t })

  abbrev a_term : Marks → Option Name → Option NodeTree → TermTree
  a_term m name n = roll-TermTree (record { marks = m; name = name; node = n })

  text_term : (m : Marks) (name : Option Name) (n : Option NodeTree) → term_text (a_term m name n) ≡ marks_text m ++ body_text name (option_map node_text n)
  text_term m name None = fold-roll-TermTree (List ℕ) (List ℕ) (List ℕ) node_level arg_level term_level (record { marks = m; name = name; node = None })
  text_term m name (Some n) = fold-roll-TermTree (List ℕ) (List ℕ) (List ℕ) node_level arg_level term_level (record { marks = m; name = name; node = Some n })

  bare_term_is : (m : Marks) (name : Option Name) (n : Option NodeTree) → bare_term (a_term m name n) ≡ a_term (bare_marks m) (option_map bare_name name) (option_map bare_node n)
  bare_term_is m name None = fold-roll-TermTree NodeTree ArgTree TermTree bare_node_level bare_arg_level bare_term_level (record { marks = m; name = name; node = None })
  bare_term_is m name (Some n) = fold-roll-TermTree NodeTree ArgTree TermTree bare_node_level bare_arg_level bare_term_level (record { marks = m; name = name; node = Some n })

  -- ---- terms over what stands within brackets

  -- arguments in their brackets
  abbrev pub args_text : List ArgTree → List ℕ
  args_text given = word (codes "[") ++ (concat (map arg_text given) ++ word (codes "]"))

  -- the same nodes, up to places
  same_integer : (t u : Tok) → value_at true u.word ≡ value_at true t.word → bare_node (integer_of u) ≡ bare_node (integer_of t)
  same_integer t u e = bare_integer (value_at true u.word) (here u) ∙ ap (λ (z : ℤ). node_tree.Integer z nowhere) e ∙ sym (bare_integer (value_at true t.word) (here t))

  same_letter : (t u : Tok) → letter u.word ≡ letter t.word → bare_node (letter_of u) ≡ bare_node (letter_of t)
  same_letter t u e = bare_letter (letter u.word) (here u) ∙ ap (λ (z : ℕ). node_tree.Letter z nowhere) e ∙ sym (bare_letter (letter t.word) (here t))

  same_sym : (name other : Name) (given others : List ArgTree) → bare_name other ≡ bare_name name → map bare_arg others ≡ map bare_arg given → bare_node (node_tree.Sym other others) ≡ bare_node (node_tree.Sym name given)
  same_sym name other given others e f =
      bare_sym other others ∙ ap (λ (z : Name). node_tree.Sym z (map bare_arg others)) e ∙ ap (λ (z : List ArgTree). node_tree.Sym (bare_name name) z) f ∙ sym (bare_sym name given)

  same_term : (m l : Marks) (name other : Option Name) (n o : Option NodeTree) → bare_marks l ≡ bare_marks m → option_map bare_name other ≡ option_map bare_name name → option_map bare_node o ≡ option_map bare_node n → bare_term (a_term l other o) ≡ bare_term (a_term m name n)
  same_term m l name other n o e f g = rw (bare_term_is l other o, bare_term_is m name n, e, f, g) refl

  -- the same name or none, and the same node or none
  abbrev SameBody : Option Name × Option NodeTree → Option Name × Option NodeTree → Type 0
  SameBody v u = (option_map bare_name u.0 ≡ option_map bare_name v.0) × (option_map bare_node u.1 ≡ option_map bare_node v.1)

  abbrev text_body : Option Name × Option NodeTree → List ℕ
  text_body v = body_text v.0 (option_map node_text v.1)

  same_arg : (waits other : Bool) (t u : TermTree) → other ≡ waits → bare_term u ≡ bare_term t → bare_arg (roll-ArgTree (record { waits = other; term = u })) ≡ bare_arg (roll-ArgTree (record { waits = waits; term = t }))
  same_arg waits other t u e f = rw (bare_arg_is other u, bare_arg_is waits t, e, f) refl

  -- the marks before a term, if there are some
  marks_back : (m : Option Marks) → IfThere (λ k. Back wide mark (marks_text k) (SameBy bare_marks k)) m → Back wide (maybe mark) (marks_text (unwrap_or m marks.Plain)) (λ o. bare_marks (unwrap_or o marks.Plain) ≡ bare_marks (unwrap_or m marks.Plain))
  marks_back None h = back_none (λ o. bare_marks (unwrap_or o marks.Plain) ≡ marks.Plain) refl
  marks_back (Some m) h = back_some (λ o. bare_marks (unwrap_or o marks.Plain) ≡ bare_marks m) (λ k e. e) h

  -- `^` before a term, if it stands there
  abbrev wait_text : Option Tok → List ℕ
  wait_text o = if is_some o then word (codes "^") else []

  waits_back : (o : Option Tok) → Back wide (maybe (sign s.Wait)) (wait_text o) (λ u. is_some u ≡ is_some o)
  waits_back None = back_none (λ u. is_some u ≡ false) refl
  waits_back (Some t) = back_some (λ u. is_some u ≡ true) (λ u h. refl) (sign_back wide s.Wait)

  module _ (inner : Part_of (List ArgTree)) (inner_reads : ReadsBack inner args_text (map bare_arg)) where
    -- a symbol without arguments
    alone_back : (name : Name) → Back wide upper (word name.text) (SameBy bare_name name) → Back wide (node inner) (word name.text ++ []) (SameBy bare_node (node_tree.Sym name []))
    alone_back name h = back_right (back_right (back_means sym_of (SameBy bare_node (node_tree.Sym name []))
        (λ v k. same_sym name v.0 [] (unwrap_or v.1 []) k.0 (ap (λ (o : Option (List ArgTree)). map bare_arg (unwrap_or o [])) k.1))
        (back_pair h (back_none (λ o. o ≡ None) refl))))

    sym_back : (name : Name) (given : Option (List ArgTree)) → Back wide upper (word name.text) (SameBy bare_name name) → IfThere (λ a. Back wide inner (args_text a) (SameList bare_arg a)) given
        → Back wide (node inner) (word name.text ++ bracketed (map arg_text (unwrap_or given []))) (SameBy bare_node (sym_of (name, given)))
    sym_back name None h k = alone_back name h
    sym_back name (Some []) h k = alone_back name h
    sym_back name (Some (a ∷ given)) h k = back_right (back_right (back_means sym_of (SameBy bare_node (node_tree.Sym name (a ∷ given)))
        (λ v l. same_sym name v.0 (a ∷ given) (unwrap_or v.1 []) l.0 l.1)
        (back_pair h (back_some (λ o. map bare_arg (unwrap_or o []) ≡ map bare_arg (a ∷ given)) (λ o l. l) k))))

    node_reads : ReadsBack (node inner) node_text bare_node
    node_reads = holds_choice
        (holds_means integer_of (λ n. Back wide (node inner) (node_text n) (SameBy bare_node n)) (λ t h. back_bytes _ _ (text_integer (value_at true t.word) (here t))
        (back_left (back_means integer_of (SameBy bare_node (integer_of t)) (λ u k. same_integer t u k) (integer_back wide (value_at true t.word) (h.0.0.value h.1))))) (holds_one (is s.Integer)))
        (holds_choice (holds_means letter_of (λ n. Back wide (node inner) (node_text n) (SameBy bare_node n)) (λ t h. back_bytes _ _ (text_letter (letter t.word) (here t))
        (back_right (back_left (back_means letter_of (SameBy bare_node (letter_of t)) (λ u k. same_letter t u k) (character_back wide t.word (h.0.0.character h.1)))))) (holds_one (is s.Character)))
        (holds_means sym_of (λ n. Back wide (node inner) (node_text n) (SameBy bare_node n)) (λ v h. back_bytes _ _ (text_sym v.0 (unwrap_or v.1 [])) (sym_back v.0 v.1 h.0 h.1)) (holds_row (split_told wide) upper_reads (λ _. holds_maybe inner_reads))))

    named_back : (name : Name) (n : Option NodeTree) → Back wide lower (word name.text) (SameBy bare_name name) → IfThere (λ m. Back wide (node inner) (node_text m) (SameBy bare_node m)) n → Back wide (body inner) (text_body (Some name, n)) (SameBody (Some name, n))
    named_back name None h k = back_bytes (word name.text) (word name.text ++ []) (sym (append-nil (word name.text)))
        (back_left (back_means named_of (SameBody (Some name, None)) (λ v l. (ap Some l.0, ap (option_map bare_node) l.1)) (back_pair h (back_none (λ o. o ≡ None) refl))))
    named_back name (Some n) h k = back_left (back_means named_of (SameBody (Some name, Some n)) (λ v l. (ap Some l.0, l.1))
        (back_pair h (back_some (λ o. option_map bare_node o ≡ Some (bare_node n)) (λ o l. ap Some l) (back_behind s.Colon (sign_back wide s.Colon) k))))

    body_reads : Holds (AreTold wide) (body inner) (λ v. Back wide (body inner) (text_body v) (SameBody v))
    body_reads = holds_choice
        (holds_means named_of (λ v. Back wide (body inner) (text_body v) (SameBody v)) (λ v h. named_back v.0 v.1 h.0 h.1) (holds_row (split_told wide) lower_reads (λ _. holds_maybe (holds_behind s.Colon (split_told wide) node_reads))))
        (holds_means bare_of (λ v. Back wide (body inner) (text_body v) (SameBody v)) (λ n h. back_right (back_means bare_of (SameBody (None, Some n)) (λ o l. (refl, ap Some l)) h)) node_reads)

    term_reads : ReadsBack (term inner) term_text bare_term
    term_reads = holds_means term_of (λ t. Back wide (term inner) (term_text t) (SameBy bare_term t))
        (λ v h. back_bytes _ _ (text_term (unwrap_or v.0 marks.Plain) v.1.0 v.1.1)
        (back_means term_of (SameBy bare_term (term_of v)) (λ u k. same_term (unwrap_or v.0 marks.Plain) (unwrap_or u.0 marks.Plain) v.1.0 u.1.0 v.1.1 u.1.1 k.0 k.1.0 k.1.1) (back_pair (marks_back v.0 h.0) h.1)))
        (holds_row (split_told wide) (holds_maybe mark_reads) (λ _. body_reads))

    arg_reads : ReadsBack (arg inner) arg_text bare_arg
    arg_reads = holds_means arg_of (λ a. Back wide (arg inner) (arg_text a) (SameBy bare_arg a))
        (λ v h. back_bytes _ _ (text_arg (is_some v.0) v.1) (back_means arg_of (SameBy bare_arg (arg_of v)) (λ u k. same_arg (is_some v.0) (is_some u.0) v.1 u.1 k.0 k.1) (back_pair (waits_back v.0) h.1)))
        (holds_row (split_told wide) (holds_anything (maybe (sign s.Wait))) (λ _. term_reads))

  -- arguments in brackets
  bracketed_back : (inner : Part_of (List ArgTree)) (given : List ArgTree) → Each (λ a. Back wide (arg inner) (arg_text a) (SameBy bare_arg a)) given → Back wide (behind s.Open (before (many (arg inner)) s.Close)) (args_text given) (SameList bare_arg given)
  bracketed_back inner given h = back_behind s.Open (sign_back wide s.Open) (back_before s.Close (back_many bare_arg (arg inner) arg_text given h) (sign_back wide s.Close))

  pub args_read : (n : ℕ) → ReadsBack (args n) args_text (map bare_arg)
  unfolding args
  args_read zero = holds_barred (λ given. Back wide (args zero) (args_text given) (SameList bare_arg given))
  args_read (suc n) =
      holds_behind s.Open (split_told wide) (holds_before s.Close (split_told wide) (holds_weaker (Each (λ a. Back wide (arg (args n)) (arg_text a) (SameBy bare_arg a))) (λ given. Back wide (args (suc n)) (args_text given) (SameList bare_arg given))
      (λ given h. bracketed_back (args n) given h) (holds_many (split_told wide) (arg_reads (args n) (args_read n)))))

  pub term_reads_back : (n : ℕ) → ReadsBack (term (args n)) term_text bare_term
  term_reads_back n = term_reads (args n) (args_read n)
