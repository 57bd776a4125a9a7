-- What the bytes read is spelled as tokens and the grammar have it.
use Rattle.std.proofs.Common.{◌≡◌, ℕ, zero, suc, ◌+◌, Bool, true, false, List, [], Option, Some, None, All, IsTrue, refl, sym, ap, subst, ◌∙◌, arith}
use Rattle.std.specs.Prelude.{min, nat_le, unwrap_or, is_some, option_map}
use Rattle.std.specs.List.{AllByRecursion as Each, enumerate_from}
use Rattle.std.proofs.lemmas.List.Elements.{All-from_recursion}
use Rattle.std.proofs.lemmas.Bool.{le-leb, and_from}
use Rattle.dactl_model.specs.Names.{is_upper_name, is_keyword, keywords}
use Rattle.dactl_tokens.specs.Lexes.{has_header}
use Rattle.dactl_grammar.specs.Grammar.{maybe, means}
use Rattle.dactl_grammar.proofs.Holds.{Holds, IfThere, holds_one, holds_row, holds_choice, holds_maybe, holds_many, holds_means, holds_barred, holds_placed}
use Rattle.dactl_terminals.specs.declared.token.Sort.TheVariants as s
use Rattle.dactl_meaning.specs.declared.tree.Name.{Name}
use Rattle.dactl_meaning.specs.declared.tree.Marks.{Marks}
use Rattle.dactl_meaning.specs.declared.tree.Marks.TheVariants as marks
use Rattle.dactl_meaning.specs.declared.tree.NodeTree.{NodeTree}
use Rattle.dactl_meaning.specs.declared.tree.NodeTree.TheVariants as node_tree
use Rattle.dactl_meaning.specs.declared.tree.NodeTree.TheVariants.{rolls-Sym, rolls-Integer, rolls-Letter}
use Rattle.dactl_meaning.specs.declared.tree.NodeTree.TheOpen.{NodeTree-F}
use Rattle.dactl_meaning.specs.declared.tree.NodeTree.TheFolds.{fold-NodeTree, fold-ArgTree, fold-roll-NodeTree, fold-roll-ArgTree, fold-roll-TermTree}
use Rattle.dactl_meaning.specs.declared.tree.TermTree.{TermTree, roll-TermTree}
use Rattle.dactl_meaning.specs.declared.tree.ArgTree.{ArgTree}
use Rattle.dactl_meaning.specs.declared.tree.PatternTree.{PatternTree}
use Rattle.dactl_meaning.specs.declared.tree.Part.{Part}
use Rattle.dactl_meaning.specs.declared.tree.RuleTree.{RuleTree}
use Rattle.dactl_meaning.specs.declared.tree.Item.{Item}
use Rattle.dactl_meaning.specs.declared.tree.Item.TheVariants as item
use Rattle.dactl_meaning.specs.declared.tree.Module.{Module}
use Rattle.dactl_meaning.specs.declared.tree.Text.{Text}
use Rattle.dactl_terminals.specs.Parts.{Tok, Part_of, is, here, sign, upper, lower, name_of, value_at}
use Rattle.dactl_syntax.specs.Productions.{star_of, hashes_of, counted, mark, integer_of, letter, letter_of, sym_of, node, named_of, bare_of, body, term_of, term, arg_of, arg, args, part_term, part_redirect, part, rewrites_of, redirects_of, rewriting, redirecting, rule_of, rule}
use Rattle.dactl_meaning.specs.Spelling.{is_counted, has_body, node_whole, arg_whole, term_whole, is_whole, contracta, all_patterns, IsNarrowText, IsSpelled}
use Rattle.dactl_meaning.specs.Contractum.{term_of_part}
use Rattle.dactl_meaning.specs.Declarations.{PlacedRule, Declaration, items_of, rules as all_rules, item_names, module_names, own_names, built_in_names, all_names, is_symbol, symbol_names}
use Rattle.dactl_meaning.specs.Meaning.{PlacedInitial, all_initials, is_wide}
use Rattle.dactl_syntax.specs.Answer.{most_open}
use Rattle.dactl_syntax.specs.Laws.{Reads}
use Rattle.dactl_syntax.proofs.TokenFacts.{upper_named}
use Rattle.dactl_syntax.proofs.Holding.{AreTold, split_told, holds_anything, holds_behind, holds_before, holds_both, Some_of, holds_listed, holds_separated, each_append, each_weaker, each_map, each_flat, each_filter, each_passes, each_numbered}
use Rattle.dactl_syntax.proofs.Walk.{IsItem, IsModule, modules_hold}
use Rattle.dactl_syntax.proofs.Listed.{module_items, named_each, initials_each, rules_each}
use Rattle.dactl_syntax.proofs.Language.{language_read, modules_read}
use Rattle.dactl_syntax.proofs.Narrow.{IsNarrow, IsNarrowPattern, patterns_narrow, terms_narrow}

module _ (wide : Bool) where
  abbrev Shows : {A : Type 0} → Part_of A → (A → Type 0) → Type 0
  Shows P X = Holds (AreTold wide) P X

  -- ---- names

  abbrev pub IsUpperName : Name → Type 0
  IsUpperName n = IsTrue (is_upper_name wide n.text)

  upper_shows : Shows upper IsUpperName
  upper_shows = holds_means name_of IsUpperName (λ t h. upper_named wide t.word (h.0.0.upper h.1)) (holds_one (is s.Upper))

  -- ---- terms

  abbrev IsCounted : Marks → Type 0
  IsCounted m = is_counted m ≡ true

  at_least_one : (n : ℕ) → nat_le 1 (min (n + 1) 4294967295) ≡ true
  at_least_one n = le-leb 1 (min (n + 1) 4294967295) (omega arith)

  mark_shows : Shows mark IsCounted
  mark_shows = holds_choice (holds_means star_of IsCounted (λ t h. refl) (holds_one (is s.Star))) (holds_means hashes_of IsCounted (λ v h. at_least_one v.1) (holds_row (split_told wide) (holds_one (is s.Hash)) (λ _. holds_anything counted)))

  abbrev whole_node : NodeTree → Bool
  whole_node = fold-NodeTree Bool Bool Bool node_whole arg_whole term_whole

  abbrev whole_arg : ArgTree → Bool
  whole_arg = fold-ArgTree Bool Bool Bool node_whole arg_whole term_whole

  abbrev IsWholeNode : NodeTree → Type 0
  IsWholeNode n = whole_node n ≡ true

  abbrev IsWholeArg : ArgTree → Type 0
  IsWholeArg a = whole_arg a ≡ true

  abbrev IsWhole : TermTree → Type 0
  IsWhole t = IsTrue (is_whole t)

  sym_whole : (name : Name) (given : List ArgTree) → Each IsWholeArg given → IsWholeNode (node_tree.Sym name given)
  sym_whole name given h = ap whole_node (sym (rolls-Sym name given)) ∙ fold-roll-NodeTree Bool Bool Bool node_whole arg_whole term_whole (NodeTree-F.Sym name given) ∙ each_passes (λ b. b) whole_arg given h

  integer_whole : (t : Tok) → IsWholeNode (integer_of t)
  integer_whole t = ap whole_node (sym (rolls-Integer (value_at true t.word) (here t))) ∙ fold-roll-NodeTree Bool Bool Bool node_whole arg_whole term_whole (NodeTree-F.Integer (value_at true t.word) (here t))

  letter_whole : (t : Tok) → IsWholeNode (letter_of t)
  letter_whole t = ap whole_node (sym (rolls-Letter (letter t.word) (here t))) ∙ fold-roll-NodeTree Bool Bool Bool node_whole arg_whole term_whole (NodeTree-F.Letter (letter t.word) (here t))

  given_whole : (v : Name × Option (List ArgTree)) → IfThere (Each IsWholeArg) v.1 → IsWholeNode (sym_of v)
  given_whole v h = sym_whole v.0 (unwrap_or v.1 []) (given v.1 h)
    where
      given : (o : Option (List ArgTree)) → IfThere (Each IsWholeArg) o → Each IsWholeArg (unwrap_or o [])
      given None h = tt
      given (Some xs) h = h

  -- a name, a node or both, and the node is whole
  abbrev IsBody : Option Name × Option NodeTree → Type 0
  IsBody v = has_body v.0 (option_map whole_node v.1) ≡ true

  named_body : (name : Name) (n : Option NodeTree) → IfThere IsWholeNode n → IsBody (Some name, n)
  named_body name None h = refl
  named_body name (Some n) h = h

  marks_of : (m : Option Marks) → IfThere IsCounted m → IsCounted (unwrap_or m marks.Plain)
  marks_of None h = refl
  marks_of (Some m) h = h

  term_by : (m : Marks) (name : Option Name) (n : Option NodeTree) → IsCounted m → IsBody (name, n) → IsWhole (roll-TermTree (record { marks = m; name = name; node = n }))
  term_by m name None h k = fold-roll-TermTree Bool Bool Bool node_whole arg_whole term_whole (record { marks = m; name = name; node = None }) ∙ and_from (is_counted m) (has_body name None) h k
  term_by m name (Some n) h k = fold-roll-TermTree Bool Bool Bool node_whole arg_whole term_whole (record { marks = m; name = name; node = Some n }) ∙ and_from (is_counted m) (whole_node n) h k

  term_whole_of : (v : Option Marks × (Option Name × Option NodeTree)) → IfThere IsCounted v.0 → IsBody v.1 → IsWhole (term_of v)
  term_whole_of v h k = term_by (unwrap_or v.0 marks.Plain) v.1.0 v.1.1 (marks_of v.0 h) k

  arg_whole_of : (v : Option Tok × TermTree) → IsWhole v.1 → IsWholeArg (arg_of v)
  arg_whole_of v h = fold-roll-ArgTree Bool Bool Bool node_whole arg_whole term_whole (record { waits = is_some v.0; term = v.1 }) ∙ h

  module _ (inner : Part_of (List ArgTree)) (shown : Shows inner (Each IsWholeArg)) where
    node_shows : Shows (node inner) IsWholeNode
    node_shows = holds_choice
        (holds_means integer_of IsWholeNode (λ t h. integer_whole t) (holds_one (is s.Integer)))
        (holds_choice (holds_means letter_of IsWholeNode (λ t h. letter_whole t) (holds_one (is s.Character)))
        (holds_means sym_of IsWholeNode (λ v h. given_whole v h.1) (holds_row (split_told wide) upper_shows (λ _. holds_maybe shown))))

    body_shows : Shows (body inner) IsBody
    body_shows = holds_choice
        (holds_means named_of IsBody (λ v h. named_body v.0 v.1 h.1) (holds_row (split_told wide) (holds_anything lower) (λ _. holds_maybe (holds_behind s.Colon (split_told wide) node_shows))))
        (holds_means bare_of IsBody (λ n h. h) node_shows)

    term_shows : Shows (term inner) IsWhole
    term_shows = holds_means term_of IsWhole (λ v h. term_whole_of v h.0 h.1) (holds_row (split_told wide) (holds_maybe mark_shows) (λ _. body_shows))

    arg_shows : Shows (arg inner) IsWholeArg
    arg_shows = holds_means arg_of IsWholeArg (λ v h. arg_whole_of v h.1) (holds_row (split_told wide) (holds_anything (maybe (sign s.Wait))) (λ _. term_shows))

  args_show : (n : ℕ) → Shows (args n) (Each IsWholeArg)
  unfolding args
  args_show zero = holds_barred (Each IsWholeArg)
  args_show (suc n) = holds_behind s.Open (split_told wide) (holds_before s.Close (split_told wide) (holds_many (split_told wide) (arg_shows (args n) (args_show n))))

  -- ---- terms, patterns and rules

  -- it is whole, and in language 1 it is narrow
  abbrev IsFineTerm : TermTree → Type 0
  IsFineTerm t = IsWhole t × (wide ≡ false → IsNarrow t)

  abbrev IsFinePattern : PatternTree → Type 0
  IsFinePattern t = wide ≡ false → IsNarrowPattern t

  abbrev IsFinePart : Part → Type 0
  IsFinePart p = IsFineTerm (term_of_part p)

  abbrev IsFineRule : RuleTree → Type 0
  IsFineRule r = IsFinePattern r.pattern × Each IsFinePart r.parts

  -- the parts of a right side
  abbrev AreFine : Bool × List Part → Type 0
  AreFine v = Each IsFinePart v.1

  module _ (n : ℕ) where
    fine_terms : Shows (term (args n)) IsFineTerm
    fine_terms = holds_both IsWhole (λ t. wide ≡ false → IsNarrow t) (term_shows (args n) (args_show n)) (terms_narrow wide n)

    plain_shows : Shows (means part_term (term (args n))) IsFinePart
    plain_shows = holds_means part_term IsFinePart (λ t h. h) fine_terms

    part_shows : Shows (part n) IsFinePart
    part_shows = holds_choice (holds_means part_redirect IsFinePart (λ v h. h.1) (holds_row (split_told wide) (holds_anything lower) (λ _. holds_behind s.Becomes (split_told wide) fine_terms))) plain_shows

    rewriting_shows : Shows (rewriting n) AreFine
    rewriting_shows = holds_means rewrites_of AreFine (λ ps h. h.each) (holds_behind s.Rewrites (split_told wide) (holds_listed (split_told wide) plain_shows (holds_behind s.Comma (split_told wide) part_shows)))

    redirecting_shows : Shows (redirecting n) AreFine
    redirecting_shows = holds_means redirects_of AreFine (λ ps h. h.each) (holds_behind s.Arrow (split_told wide) (holds_separated s.Comma (split_told wide) part_shows))

    rule_shows : Shows (rule n) IsFineRule
    rule_shows = holds_means rule_of IsFineRule (λ v h. (h.0, h.1)) (holds_placed (λ t. t.place)
        (holds_choice (holds_row (split_told wide) (patterns_narrow wide n) (λ _. rewriting_shows)) (holds_row (split_told wide) (patterns_narrow wide n) (λ _. redirecting_shows))))

  -- symbols are upper names, an INITIAL has a term, and rules, patterns and terms are fine
  abbrev IsFine : Item → Type 0
  IsFine t = IsItem IsFineRule IsFinePattern IsFineTerm IsUpperName t

  abbrev IsFineModule : Module → Type 0
  IsFineModule m = IsModule IsFineRule IsFinePattern IsFineTerm IsUpperName m

-- ---- what is listed of a text

module _ (wide : Bool) (tree : Text) (given : Each (IsFineModule wide) tree.modules) where
  -- ---- symbols

  abbrev IsUpperSymbol : Declaration → Type 0
  IsUpperSymbol d = is_symbol d.entity ≡ true → IsUpperName wide d.name

  names_of_item : (m i : ℕ) (t : Item) → IsFine wide t → Each IsUpperSymbol (item_names m i t)
  names_of_item m i (item.Symbols seen public declared) h = each_map IsUpperSymbol _ declared (each_weaker (IsUpperName wide) _ (λ n up k. up) declared h)
  names_of_item m i (item.Named public name pattern) h = (λ k. absurd cc, tt)
  names_of_item m i _ h = tt

  names_of_module : (m : ℕ × Module) → IsFineModule wide m.1 → Each IsUpperSymbol (module_names m)
  names_of_module m h = (λ k. absurd cc, each_flat IsUpperSymbol _ (items_of m) (each_weaker _ _ (λ i k. names_of_item i.owner i.number i.item k) (items_of m) (module_items (IsFineRule wide) (IsFinePattern wide) (IsFineTerm wide) (IsUpperName wide) m h)))

  symbols_upper : Each IsUpperSymbol built_in_names → Each (λ d. IsUpperName wide d.name) (symbol_names tree)
  symbols_upper built = each_filter (λ d. IsUpperName wide d.name) (λ d. is_symbol d.entity) (all_names tree)
      (each_append IsUpperSymbol built_in_names (own_names tree) built
      (each_flat IsUpperSymbol module_names (enumerate_from 0 tree.modules) (each_weaker (λ (m : ℕ × Module). IsFineModule wide m.1) _ names_of_module (enumerate_from 0 tree.modules) (each_numbered (IsFineModule wide) 0 tree.modules given))))

  -- ---- rules, patterns and INITIALs

  initials_fine : Each (λ (i : PlacedInitial). Some_of (IsFineTerm wide) i.terms) (all_initials tree)
  initials_fine = initials_each (IsFineRule wide) (IsFinePattern wide) (IsFineTerm wide) (IsUpperName wide) tree given

  rules_fine : Each (λ (r : PlacedRule). IsFineRule wide r.rule) (all_rules tree)
  rules_fine = rules_each (IsFineRule wide) (IsFinePattern wide) (IsFineTerm wide) (IsUpperName wide) tree given

  -- what holds of each term holds of the terms of each contractum
  contracta_all : (X : TermTree → Type 0) → ((t : TermTree) → IsFineTerm wide t → X t) → All (λ terms. All X terms) (contracta tree)
  contracta_all X f = All-from_recursion _ (contracta tree) (each_append (λ terms. All X terms) _ _
      (each_map (λ terms. All X terms) _ (all_rules tree) (each_weaker (λ (r : PlacedRule). IsFineRule wide r.rule) _ (λ r h. All-from_recursion X _ (each_map X term_of_part r.rule.parts (each_weaker (IsFinePart wide) _ (λ p k. f (term_of_part p) k) r.rule.parts h.1))) (all_rules tree) rules_fine))
      (each_map (λ terms. All X terms) _ (all_initials tree) (each_weaker (λ (i : PlacedInitial). Some_of (IsFineTerm wide) i.terms) _ (λ i h. All-from_recursion X i.terms (each_weaker (IsFineTerm wide) X f i.terms h.each)) (all_initials tree) initials_fine)))

  patterns_fine : Each (IsFinePattern wide) (all_patterns tree)
  patterns_fine = each_append (IsFinePattern wide) _ _
      (each_map (IsFinePattern wide) _ (all_rules tree) (each_weaker (λ (r : PlacedRule). IsFineRule wide r.rule) _ (λ r h. h.0) (all_rules tree) rules_fine))
      (named_each (IsFineRule wide) (IsFinePattern wide) (IsFineTerm wide) (IsUpperName wide) tree given)

  narrow_text : wide ≡ false → IsNarrowText tree
  narrow_text e = record {
    patterns = All-from_recursion _ (all_patterns tree) (each_weaker (IsFinePattern wide) _ (λ t h. h e) (all_patterns tree) patterns_fine);
    terms = contracta_all IsNarrow (λ t h. h.1 e);
  }

built_in_upper : (wide : Bool) → Each (λ d. is_symbol d.entity ≡ true → IsUpperName wide d.name) built_in_names
unfolding is_keyword keywords
built_in_upper true = (λ k. refl, (λ k. refl, (λ k. refl, (λ k. refl, (λ k. refl, (λ k. refl, (λ k. refl, (λ k. refl, tt))))))))
built_in_upper false = (λ k. refl, (λ k. refl, (λ k. refl, (λ k. refl, (λ k. refl, (λ k. refl, (λ k. refl, (λ k. refl, tt))))))))

spelled_of : (wide : Bool) (tree : Text) → is_wide tree ≡ wide → Each (IsFineModule wide) tree.modules → IsSpelled tree
spelled_of wide tree e given = record {
  names = All-from_recursion _ (symbol_names tree) (subst (λ (w : Bool). Each (λ d. IsUpperName w d.name) (symbol_names tree)) (sym e) (symbols_upper wide tree given (built_in_upper wide)));
  initials = All-from_recursion _ (all_initials tree) (each_weaker (λ (i : PlacedInitial). Some_of (IsFineTerm wide) i.terms) _ (λ i h. h.some) (all_initials tree) (initials_fine wide tree given));
  whole = contracta_all wide tree given (IsWhole wide) (λ t h. h.0);
  narrow = λ h. narrow_text wide tree given (sym e ∙ h);
}

pub trees_are_spelled : (bytes : List ℕ) (tree : Text) → Reads bytes tree → IsSpelled tree
trees_are_spelled bytes tree r =
    let wide : Bool = has_header bytes in
    let m = modules_read bytes tree r in
    let shows = modules_hold (IsFineRule wide) (IsFinePattern wide) (IsFineTerm wide) (IsUpperName wide) (AreTold wide) (split_told wide) most_open (rule_shows wide most_open) (patterns_narrow wide most_open) (fine_terms wide most_open) (upper_shows wide) in
    spelled_of wide tree (language_read bytes tree r) (shows.of m.tokens tree.modules m.told m.derives).each
