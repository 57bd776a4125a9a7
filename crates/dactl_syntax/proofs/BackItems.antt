-- The canonical text of a whole text is derived again, and read.
use Rattle.std.proofs.Common.{◌≡◌, ℕ, Bool, true, false, inl, List, [], ◌∷◌, ◌++◌, length, map, Option, Some, None, refl, sym, ap, subst, ◌∙◌, append_assoc, cond}
use Rattle.std.specs.Prelude.{codes, is_some, option_map, ◌&&◌, ◌==◌}
use Rattle.std.specs.List.{AllByRecursion as Each, concat}
use Rattle.std.specs.Str.{bytes_eq}
use Rattle.std.proofs.lemmas.Slice.Eq.{bytes_eq-Decides}
use Rattle.dactl_model.specs.declared.program.Class.{Class}
use Rattle.dactl_model.specs.declared.program.Class.TheVariants as classes
use Rattle.dactl_grammar.specs.Grammar.{one, row, maybe, many, means}
use Rattle.dactl_grammar.proofs.Holds.{Holds, holds_weaker, holds_one, holds_row, holds_choice, holds_many, holds_means}
use Rattle.dactl_tokens.specs.declared.token.TokenKind.TheVariants as kinds
use Rattle.dactl_tokens.specs.Spelling.{kind_of, is_keyword}
use Rattle.dactl_tokens.specs.Lexes.{Lexes, has_header, header}
use Rattle.dactl_terminals.specs.declared.token.Sort.TheVariants as s
use Rattle.dactl_meaning.specs.declared.tree.Name.{Name}
use Rattle.dactl_meaning.specs.declared.tree.PatternTree.{PatternTree}
use Rattle.dactl_meaning.specs.declared.tree.TermTree.{TermTree}
use Rattle.dactl_meaning.specs.declared.tree.Group.{Group}
use Rattle.dactl_meaning.specs.declared.tree.Item.{Item}
use Rattle.dactl_meaning.specs.declared.tree.Item.TheVariants as item
use Rattle.dactl_meaning.specs.declared.tree.Module.{Module}
use Rattle.dactl_meaning.specs.declared.tree.Text.{Text}
use Rattle.dactl_terminals.specs.Sort.{same_sort}
use Rattle.dactl_syntax.specs.Sort.{is_class}
use Rattle.dactl_terminals.specs.Parts.{Tok, Part_of, is, sign, behind, before, pair, upper, name_of, names}
use Rattle.dactl_syntax.specs.Productions.{several, imports_of, imports, class_of, class_at, class, ClassHere, symbols_of, symbols, pattern_named_of, named, rules_of, rules, initial_of, initial, an_item, is_name, module_of, a_module, text}
use Rattle.dactl_terminals.specs.Seen.{keyword_sort, sort_of, token_seen}
use Rattle.dactl_syntax.specs.Canonical.{word, line_end, names_text, class_text, public_class_text, public_text, group_text, item_text, module_text, header_text, canonical}
use Rattle.dactl_meaning.specs.Unplaced.{nowhere, bare_name, bare_pattern, bare_class, bare_item, bare_module, without_places}
use Rattle.dactl_meaning.specs.Meaning.{is_wide}
use Rattle.dactl_syntax.specs.Answer.{most_open}
use Rattle.dactl_syntax.specs.Laws.{Reads, ReadsSame}
use Rattle.dactl_syntax.proofs.Language.{language_is, modules_read}
use Rattle.dactl_syntax.proofs.Holding.{AreTold, split_told, Anything, holds_anything, holds_behind, holds_before, each_append}
use Rattle.dactl_syntax.proofs.Words.{IsFine, text_of, after, toks_at, tokens_at, text_row, toks_row, words_lex, words_lex_wide, words_seen}
use Rattle.dactl_syntax.proofs.Back.{Back, SameBy, back_weaker, back_bytes, back_one, back_pair, back_means, back_left, back_right, back_none, back_some, back_behind, back_before, back_many}
use Rattle.dactl_syntax.proofs.Signs.{sign_back, no_integer_keyword, no_integer_upper, semicolon_back, upper_back}
use Rattle.dactl_syntax.proofs.BackTerms.{ReadsBack, upper_reads, term_reads_back}
use Rattle.dactl_syntax.proofs.BackPatterns.{pattern_reads_back}
use Rattle.dactl_syntax.proofs.BackRules.{behind_reads, before_reads, listed_text, listed_reads, separated_reads, group_reads}

module _ (wide : Bool) where
  names_read : ReadsBack wide names names_text (map bare_name)
  names_read = separated_reads wide s.Comma (sign_back wide s.Comma) (upper_reads wide) (upper_reads wide)

  -- ---- imports

  imports_read : ReadsBack wide imports item_text bare_item
  imports_read = holds_means imports_of (λ i. Back wide imports (item_text i) (SameBy bare_item i)) (λ ns h. back_means imports_of (SameBy bare_item (imports_of ns)) (λ u k. ap (λ (z : List Name). item.Imports z) k) h)
      (behind_reads wide s.Imports (sign_back wide s.Imports) (before_reads wide s.Semicolon (semicolon_back wide) names_read))

  -- ---- symbols

  class_word : (c : Class) (bytes : List ℕ) → kind_of wide bytes ≡ Some kinds.Keyword → is_class (sort_of false kinds.Keyword bytes) ≡ true → class_of (sort_of false kinds.Keyword bytes) ≡ c → Back wide class (word bytes) (λ v. v.0 ≡ c)
  class_word c bytes e h k = back_means class_at (λ v. v.0 ≡ c) (λ t l. l) (back_one (λ t. is_class t.sort) (record { kind = kinds.Keyword; bytes = bytes; blank = 32 }) (λ t. class_of t.sort ≡ c) (record { kind = e; fits = λ i. absurd (no_integer_keyword i); space = inl refl }) (λ place. h) (λ place. k))

  class_back : (c : Class) → Back wide class (class_text c) (λ v. v.0 ≡ c)
  unfolding kind_of is_keyword sort_of keyword_sort
  class_back classes.Rewritable = class_word classes.Rewritable (codes "REWRITABLE") refl refl refl
  class_back classes.Overwritable = class_word classes.Overwritable (codes "OVERWRITABLE") refl refl refl
  class_back classes.Creatable = class_word classes.Creatable (codes "CREATABLE") refl refl refl

  public_class_back : (o : Option ClassHere) → Back wide (maybe (behind s.Public class)) (public_class_text o) (λ u. option_map bare_class u ≡ option_map bare_class o)
  public_class_back None = back_none (λ u. option_map bare_class u ≡ None) refl
  public_class_back (Some c) = back_some (λ u. option_map bare_class u ≡ Some (bare_class c)) (λ v h. ap (λ (z : Class). Some (z, nowhere)) h) (back_behind s.Public (sign_back wide s.Public) (class_back c.0))

  same_symbols : (v u : ClassHere × (Option ClassHere × List Name)) → u.0.0 ≡ v.0.0 → option_map bare_class u.1.0 ≡ option_map bare_class v.1.0 → map bare_name u.1.1 ≡ map bare_name v.1.1 → bare_item (symbols_of u) ≡ bare_item (symbols_of v)
  same_symbols v u e f g = rw (e, f, g) refl

  symbols_read : ReadsBack wide symbols item_text bare_item
  symbols_read = holds_means symbols_of (λ i. Back wide symbols (item_text i) (SameBy bare_item i))
      (λ v h. back_means symbols_of (SameBy bare_item (symbols_of v)) (λ u k. same_symbols v u k.0 k.1.0 k.1.1) (back_behind s.Symbol (sign_back wide s.Symbol) (back_pair (class_back v.0.0) (back_pair (public_class_back v.1.0) h.1.1))))
      (holds_behind s.Symbol (split_told wide) (holds_row (split_told wide) (holds_anything class) (λ _. holds_row (split_told wide) (holds_anything (maybe (behind s.Public class))) (λ _. before_reads wide s.Semicolon (semicolon_back wide) names_read))))

  -- ---- named patterns, rules and starts

  public_mark : (b : Bool) → Back wide (means is_some (maybe (sign s.Public))) (public_text b) (λ u. u ≡ b)
  public_mark true = back_means is_some (λ u. u ≡ true) (λ o h. h) (back_some (λ o. is_some o ≡ true) (λ t h. refl) (sign_back wide s.Public))
  public_mark false = back_means is_some (λ u. u ≡ false) (λ o h. h) (back_none (λ o. is_some o ≡ false) refl)

  same_named : (v u : Bool × (Name × PatternTree)) → u.0 ≡ v.0 → bare_name u.1.0 ≡ bare_name v.1.0 → bare_pattern u.1.1 ≡ bare_pattern v.1.1 → bare_item (pattern_named_of u) ≡ bare_item (pattern_named_of v)
  same_named v u e f g = rw (e, f, g) refl

  module _ (n : ℕ) where
    named_read : ReadsBack wide (named n) item_text bare_item
    named_read = holds_means pattern_named_of (λ i. Back wide (named n) (item_text i) (SameBy bare_item i))
        (λ v h. back_means pattern_named_of (SameBy bare_item (pattern_named_of v)) (λ u k. same_named v u k.0 k.1.0 k.1.1) (back_behind s.Pattern (sign_back wide s.Pattern) (back_pair (public_mark v.0) (back_pair h.1.0 h.1.1))))
        (holds_behind s.Pattern (split_told wide) (holds_row (split_told wide) (holds_anything (means is_some (maybe (sign s.Public)))) (λ _. holds_row (split_told wide) (upper_reads wide) (λ _. behind_reads wide s.Equals (sign_back wide s.Equals) (before_reads wide s.Semicolon (semicolon_back wide) (pattern_reads_back wide n))))))

    several_text : (gs : List Group) → concat (map group_text gs) ≡ listed_text group_text group_text gs
    several_text [] = refl
    several_text (g ∷ gs) = refl

    rules_read : ReadsBack wide (rules n) item_text bare_item
    rules_read = holds_means rules_of (λ i. Back wide (rules n) (item_text i) (SameBy bare_item i))
        (λ gs h. back_means rules_of (SameBy bare_item (rules_of gs)) (λ u k. ap (λ (z : List Group). item.Rules z) k) (back_bytes _ _ (ap (λ (z : List ℕ). word (codes "RULE") ++ z) (several_text gs)) h))
        (behind_reads wide s.Rule (sign_back wide s.Rule) (listed_reads wide (group_reads wide n) (group_reads wide n)))

    initial_reads : ReadsBack wide (initial n) item_text bare_item
    initial_reads = holds_means initial_of (λ i. Back wide (initial n) (item_text i) (SameBy bare_item i))
        (λ v h. back_means initial_of (SameBy bare_item (initial_of v)) (λ u k. ap (λ (z : List TermTree). item.Initial nowhere z) k.1) (back_pair (sign_back wide s.Initial) h.1))
        (holds_row (split_told wide) (holds_one (is s.Initial)) (λ _. behind_reads wide s.Rewrites (sign_back wide s.Rewrites) (before_reads wide s.Semicolon (semicolon_back wide) (separated_reads wide s.Comma (sign_back wide s.Comma) (term_reads_back wide n) (term_reads_back wide n)))))

    abbrev IsItem : Item → Type 0
    IsItem i = Back wide (an_item n) (item_text i) (SameBy bare_item i)

    item_reads : ReadsBack wide (an_item n) item_text bare_item
    item_reads =
        holds_choice (holds_weaker _ IsItem (λ i h. back_left h) imports_read)
        (holds_choice (holds_weaker _ IsItem (λ i h. back_right (back_left h)) symbols_read)
        (holds_choice (holds_weaker _ IsItem (λ i h. back_right (back_right (back_left h))) named_read)
        (holds_choice (holds_weaker _ IsItem (λ i h. back_right (back_right (back_right (back_left h)))) rules_read)
        (holds_weaker _ IsItem (λ i h. back_right (back_right (back_right (back_right h)))) initial_reads))))

  -- ---- modules

  -- what follows the name of a module, by the bytes of the name
  abbrev rest_of : ℕ → List ℕ → Part_of (List Item × Tok)
  rest_of n w = pair (many (an_item n)) (behind s.EndModule (before (one (λ t. is s.Upper t && bytes_eq t.word w)) s.Semicolon))

  end_back : (w : List ℕ) → kind_of wide w ≡ Some kinds.Upper → Back wide (one (λ t. is s.Upper t && bytes_eq t.word w)) (word w) Anything
  unfolding sort_of same_sort
  end_back w e = back_one (λ t. is s.Upper t && bytes_eq t.word w) (record { kind = kinds.Upper; bytes = w; blank = 32 }) Anything (record { kind = e; fits = λ i. absurd (no_integer_upper i); space = inl refl })
      (λ place. (bytes_eq-Decides w w).1 refl) (λ place. tt)

  -- what stands behind the name
  abbrev rest_text : List ℕ → List Item → List ℕ
  rest_text w items = concat (map item_text items) ++ (word (codes "ENDMODULE") ++ (word w ++ line_end))

  rest_back : (n : ℕ) (w : List ℕ) (items : List Item) → kind_of wide w ≡ Some kinds.Upper → Each (λ i. Back wide (an_item n) (item_text i) (SameBy bare_item i)) items → Back wide (rest_of n w) (rest_text w items) (λ v. map bare_item v.0 ≡ map bare_item items)
  rest_back n w items e h = back_weaker _ (λ v. map bare_item v.0 ≡ map bare_item items) (λ v k. k.0) (back_pair (back_many bare_item (an_item n) item_text items h) (back_behind s.EndModule (sign_back wide s.EndModule) (back_before s.Semicolon (end_back w e) (semicolon_back wide))))

  -- a name, and behind it what the same name allows
  abbrev named_rest : ℕ → Part_of (Name × (List Item × Tok))
  named_rest n = row (before upper s.Semicolon) (λ name. rest_of n name.text)

  named_back : (n : ℕ) (name : Name) (items : List Item) → kind_of wide name.text ≡ Some kinds.Upper → Each (λ i. Back wide (an_item n) (item_text i) (SameBy bare_item i)) items
      → Back wide (named_rest n) ((word name.text ++ line_end) ++ rest_text name.text items) (λ v. (bare_name v.0 ≡ bare_name name) × (map bare_item v.1.0 ≡ map bare_item items))
  named_back n name items e h =
      let first = back_before s.Semicolon (upper_back wide name e) (semicolon_back wide) in
      let later = rest_back n name.text items e h in
      record {
        words = first.words ++ later.words;
        are = ap (λ (z : List ℕ). z ++ rest_text name.text items) first.are ∙ ap (λ (z : List ℕ). text_of first.words ++ z) later.are ∙ sym (text_row first.words later.words);
        fine = each_append (IsFine wide) first.words later.words first.fine later.fine;
        derives = λ place. (let a = first.derives place in
            let b = later.derives (after place first.words) in
            let same : name.text ≡ a.value.text = ap (λ (z : Name). z.text) (sym a.holds) in
            record {
              value = (a.value, b.value);
              whole = record {
                front = toks_at place first.words;
                back = toks_at (after place first.words) later.words;
                parts = toks_row place first.words later.words;
                first = a.whole;
                second = subst (λ (w : List ℕ). (rest_of n w).whole (toks_at (after place first.words) later.words) b.value) same b.whole;
              };
              holds = (a.holds, b.holds);
            });
      }

  -- a name that is spelled as an upper name
  upper_kinds : Holds (AreTold wide) upper (λ name. kind_of wide name.text ≡ Some kinds.Upper)
  upper_kinds = holds_means name_of (λ name. kind_of wide name.text ≡ Some kinds.Upper) (λ t h. h.0.0.upper h.1) (holds_one (is s.Upper))

  same_module : (m o : Module) → bare_name o.name ≡ bare_name m.name → map bare_item o.items ≡ map bare_item m.items → bare_module o ≡ bare_module m
  same_module m o e f = ap (λ (z : Name). record { name = z; items = map bare_item o.items }) e ∙ ap (λ (z : List Item). record { name = bare_name m.name; items = z }) f

  module_back_of : (n : ℕ) (m : Module) → kind_of wide m.name.text ≡ Some kinds.Upper → Each (λ i. Back wide (an_item n) (item_text i) (SameBy bare_item i)) m.items → Back wide (a_module n) (module_text m) (SameBy bare_module m)
  module_back_of n m e h = back_means module_of (SameBy bare_module m) (λ v k. same_module m (module_of v) k.0 k.1)
      (back_bytes (module_text m) (word (codes "MODULE") ++ ((word m.name.text ++ line_end) ++ rest_text m.name.text m.items)) (ap (λ (z : List ℕ). word (codes "MODULE") ++ z) (sym (append_assoc (word m.name.text) line_end (rest_text m.name.text m.items))))
      (back_behind s.Module (sign_back wide s.Module) (named_back n m.name m.items e h)))

  module_reads : (n : ℕ) → ReadsBack wide (a_module n) module_text bare_module
  module_reads n = holds_means module_of (λ m. Back wide (a_module n) (module_text m) (SameBy bare_module m)) (λ v h. module_back_of n (module_of v) h.0 h.1.0)
      (holds_behind s.Module (split_told wide) (holds_row (split_told wide) (holds_before s.Semicolon (split_told wide) upper_kinds) (λ name. holds_row (split_told wide) (holds_many (split_told wide) (item_reads n)) (λ _. holds_anything (behind s.EndModule (before (one (is_name name)) s.Semicolon))))))

  -- ---- texts

  modules_text : (ms : List Module) → concat (map module_text ms) ≡ listed_text module_text module_text ms
  modules_text [] = refl
  modules_text (m ∷ ms) = refl

  abbrev all_text : List Module → List ℕ
  all_text ms = concat (map module_text ms)

  abbrev AllBack : List Module → Type 0
  AllBack ms = Back wide (several (a_module most_open)) (all_text ms) (SameBy (map bare_module) ms)

  modules_read_back : ReadsBack wide (several (a_module most_open)) all_text (map bare_module)
  modules_read_back = holds_weaker (λ ms. Back wide (several (a_module most_open)) (listed_text module_text module_text ms) (SameBy (map bare_module) ms)) AllBack
      (λ ms h. back_bytes _ _ (modules_text ms) h) (listed_reads wide (module_reads most_open) (module_reads most_open))

-- ---- the canonical text

abbrev bytes_of : List Module → List ℕ
bytes_of ms = concat (map module_text ms)

abbrev IsBackWith : Bool → List Module → Type 0
IsBackWith wide ms = Back wide (several (a_module most_open)) (bytes_of ms) (SameBy (map bare_module) ms)

-- the first bytes of modules are no Header
no_header : (ms : List Module) (m : Module) (more : List Module) → ms ≡ m ∷ more → has_header (bytes_of ms) ≡ false
unfolding has_header
no_header ms m more e = ap (λ (k : List Module). has_header (bytes_of k)) e

-- the tree of the canonical text, by its language
abbrev tree_again : ℕ → List Module → Text → Text
tree_again language ms tree = record { language = language; modules = ms; length = length (canonical tree) }

canonical_is : (wide : Bool) (tree : Text) → is_wide tree ≡ wide → canonical tree ≡ header_text wide ++ bytes_of tree.modules
canonical_is wide tree e = ap (λ (k : Bool). header_text k ++ bytes_of tree.modules) e

same_again : (language : ℕ) (tree : Text) (ms : List Module) → tree.language ≡ language → map bare_module ms ≡ map bare_module tree.modules → without_places (tree_again language ms tree) ≡ without_places tree
same_again language tree ms e f = ap (λ (k : ℕ). record { language = k; modules = map bare_module ms; length = 0 }) (sym e) ∙ ap (λ (k : List Module). record { language = tree.language; modules = k; length = 0 }) f

narrow_again : (tree : Text) → tree.language ≡ 1 → has_header (bytes_of tree.modules) ≡ false → IsBackWith false tree.modules → ReadsSame (canonical tree) tree
narrow_again tree e n b =
    let d = b.derives 0 in
    let ts = tokens_at 0 b.words in
    let are : canonical tree ≡ text_of b.words = canonical_is false tree (ap (λ (k : ℕ). k == 2) e) ∙ b.are in
    let lexes = words_lex b.words b.fine (ap has_header (sym b.are) ∙ n) in
    record {
      again = tree_again 1 d.value tree;
      reads = record {
        tokens = ts;
        lexes = subst (λ (z : List ℕ). Lexes z ts) (sym are) lexes;
        is_tree = record {
          derives = subst (λ (l : List Tok). (text most_open).whole l (1, d.value)) (sym (words_seen (canonical tree) [] 0 b.words are refl))
              (record { front = []; back = toks_at 0 b.words; parts = refl; first = record { value = None; is = refl; inner = refl }; second = d.whole });
          length = refl;
        };
      };
      same = same_again 1 tree d.value e d.holds;
    }

-- the Header as the grammar sees it
header_seen : (bytes : List ℕ) → is s.Header (token_seen false bytes header) ≡ true
unfolding sort_of same_sort
header_seen bytes = refl

wide_again : (tree : Text) → tree.language ≡ 2 → IsBackWith true tree.modules → ReadsSame (canonical tree) tree
wide_again tree e b =
    let d = b.derives 9 in
    let ts = tokens_at 9 b.words in
    let are : canonical tree ≡ header_text true ++ text_of b.words = canonical_is true tree (ap (λ (k : ℕ). k == 2) e) ∙ ap (λ (z : List ℕ). header_text true ++ z) b.are in
    let first : Tok = token_seen false (canonical tree) header in
    record {
      again = tree_again 2 d.value tree;
      reads = record {
        tokens = header ∷ ts;
        lexes = subst (λ (z : List ℕ). Lexes z (header ∷ ts)) (sym are) (words_lex_wide b.words b.fine);
        is_tree = record {
          derives = subst (λ (l : List Tok). (text most_open).whole (first ∷ l) (2, d.value)) (sym (words_seen (canonical tree) (header_text true) 9 b.words are refl))
              (record { front = first ∷ []; back = toks_at 9 b.words; parts = refl; first = record { value = Some first; is = refl; inner = (refl, header_seen (canonical tree)) }; second = d.whole });
          length = refl;
        };
      };
      same = same_again 2 tree d.value e d.holds;
    }

read_again : (wide : Bool) (tree : Text) → tree.language ≡ cond wide 2 1 → has_header (bytes_of tree.modules) ≡ false → IsBackWith wide tree.modules → ReadsSame (canonical tree) tree
read_again true tree e n b = wide_again tree e b
read_again false tree e n b = narrow_again tree e n b

pub canonical_reads : (bytes : List ℕ) (tree : Text) → Reads bytes tree → ReadsSame (canonical tree) tree
canonical_reads bytes tree r =
    let wide : Bool = has_header bytes in
    let m = modules_read bytes tree r in
    let given = m.derives in
    read_again wide tree (language_is bytes tree r) (no_header tree.modules given.value.0 given.value.1 given.is) ((modules_read_back wide).of m.tokens tree.modules m.told m.derives)
