-- A text is either read, or bad at one line.
use Rattle.std.proofs.Common.{◌≡◌, ◌≢◌, ℕ, zero, suc, ◌+◌, ◌<◌, ◌≤◌, ◌^◌, List, [], ◌∷◌, ◌++◌, length, Some, None, slice_get, get_or, refl, sym, ◌∙◌, ap, subst, arith, ◌⊎◌, inl, inr}
use Rattle.std.specs.List.{concat}
use Rattle.std.proofs.lemmas.Bool.{cases_lt, cases_eq}
use Rattle.std.proofs.lemmas.Option.{slice_get_cases, slice_get_within}
use Rattle.dactl_model.specs.declared.graph.Node.{Node}
use Rattle.dactl_model.specs.declared.graph.Graph.{Graph}
use Rattle.dactl_model.specs.declared.program.Program.{Program}
use Rattle.dactl_model.specs.Graphs.{IsFineNode}
use Rattle.dactl_model.specs.Programs.{IsValid}
use Rattle.dactl_model.proofs.Pairs.{All-slice_get}
use Rattle.dactl_print.specs.Lines.{graph_lines, IsLabelAmong, IsGraphText}
use Rattle.dactl_print.proofs.OneOrder.{has_one_text}
use Rattle.dactl_within.proofs.FireKept.{numbered}
use Rattle.dactl_resume.specs.Answers.{lines_of, IsListed, IsLineOf, IsGood, IsGraphOf, IsMalformed, DiffersFirst, IsOther, IsBadAt, IsRead}
use Rattle.dactl_resume.specs.Restriction.{IsOfLanguage}
use Rattle.dactl_resume.specs.Plain.{put_node, put_nodes}
use Rattle.dactl_resume.specs.Statements.{IsNotBoth, HasOneGraph, HasOneBadLine, IsReadOrBad}
use Rattle.dactl_resume.proofs.Canonical.{graph_is}
use Rattle.dactl_resume.proofs.GraphOf.{node_lines, graph_formed, graph_printable, graph_lines_are, lines_put, print_read}
use Rattle.dactl_resume.proofs.LineLists.{lines_few, feeds, differs_first}
use Rattle.dactl_resume.proofs.NodeLines.{lines_of_nodes}
use Rattle.dactl_resume.proofs.Ordering.{has_order}
use Rattle.dactl_resume.proofs.Putting.{text_put}
use Rattle.dactl_resume.proofs.SameText.{good_graph, same_nodes, text_has_one_graph, root_is}

pub has_one_graph : HasOneGraph
has_one_graph p text g h valid one other = text_has_one_graph p g h text valid one.fine other.fine one.canonical other.canonical one.printable other.printable one.print other.print

-- ---- the lines of nodes

line_back : (p : Program) (i : ℕ) (nodes : List Node) (j : ℕ) (bytes : List ℕ) (node : Node) → slice_get (node_lines p i nodes) j ≡ Some bytes → slice_get nodes j ≡ Some node → bytes ≡ put_node p (i + j) node []
line_back p i [] j bytes node at got = absurd (cc got)
line_back p i (first ∷ nodes) zero bytes node at got =
    let here : i ≡ i + 0 = omega arith in
    let line : put_node p i first [] ≡ bytes = cc in
    let same : first ≡ node = cc in
    sym line ∙ ap (λ (n : Node). put_node p i n []) same ∙ ap (λ (k : ℕ). put_node p k node []) here
line_back p i (first ∷ nodes) (suc j) bytes node at got =
    let number : (i + 1) + j ≡ i + suc j = omega arith in
    line_back p (i + 1) nodes j bytes node at got ∙ ap (λ (k : ℕ). put_node p k node []) number

length-node_lines : (p : Program) (i : ℕ) (nodes : List Node) → length (node_lines p i nodes) ≡ length nodes
length-node_lines p i [] = refl
length-node_lines p i (node ∷ nodes) = ap suc (length-node_lines p (i + 1) nodes)

-- ---- the lines of a graph that is read

module _ (p : Program) (valid : IsValid p) (text : List ℕ) (g : Graph) (read : IsRead p text g) where
  read_lines : lines_of text ≡ node_lines p 0 g.nodes
  read_lines = ap lines_of (text_put p g read.fine read.canonical text read.print) ∙ lines_of_nodes p valid 0 g.nodes (omega (arith, read.printable.few)) (good_graph p valid g read.fine read.printable)

  read_long : length g.nodes ≡ length (lines_of text)
  read_long = sym (ap length read_lines ∙ length-node_lines p 0 g.nodes)

  read_listed : (i : ℕ) (node : Node) → slice_get g.nodes i ≡ Some node → IsListed p (length (lines_of text)) node
  read_listed i node at = record {
    fine = subst (λ (c : ℕ). IsFineNode c node) read_long (All-slice_get (IsFineNode (length g.nodes)) g.nodes i node read.fine.each at);
    symbol = All-slice_get (λ (n : Node). IsLabelAmong (length p.symbols) n.label) g.nodes i node read.printable.symbols at;
    language = All-slice_get (λ (n : Node). IsOfLanguage p.wide n.label) g.nodes i node read.printable.language at;
  }

  -- it is the graph of the lines
  pub read_graph_of : IsGraphOf p (lines_of text) g
  read_graph_of = record {
    long = read_long;
    root = ap (λ r. r.number) (root_is g read.fine read.canonical);
    nodes = λ i bytes node at got. record { text = line i bytes node at got; listed = read_listed i node got };
  }
    where
      line : (i : ℕ) (bytes : List ℕ) (node : Node) → slice_get (lines_of text) i ≡ Some bytes → slice_get g.nodes i ≡ Some node → bytes ≡ put_node p i node []
      line i bytes node at got =
          let number : 0 + i ≡ i = omega arith in
          line_back p 0 g.nodes i bytes node (ap (λ (ls : List (List ℕ)). slice_get ls i) (sym read_lines) ∙ at) got ∙ ap (λ (k : ℕ). put_node p k node []) number

-- each line of a graph of lines is good
good_of : (p : Program) (lines : List (List ℕ)) (g : Graph) → IsGraphOf p lines g → (i : ℕ) (bytes : List ℕ) → slice_get lines i ≡ Some bytes → IsGood p (length lines) i bytes
good_of p lines g is i bytes at =
    elim (slice_get_cases g.nodes i).1 [
      | inl (node, inside, got, same) ↦ (node, is.nodes i bytes node at got)
      | inr (past, none) ↦ absurd (omega (arith, past, is.long, slice_get_within lines i bytes at))
    ]

-- lines have one graph
one_graph_of : (p : Program) → IsValid p → (lines : List (List ℕ)) (g k : Graph) → lines ≢ [] → length lines < 2 ^ 63 → IsGraphOf p lines g → IsGraphOf p lines k → g ≡ k
one_graph_of p valid lines g k some few one other =
    let texts : put_nodes p 0 g.nodes ≡ put_nodes p 0 k.nodes =
    sym (lines_put p 0 g.nodes) ∙ ap concat (sym (graph_lines_are p lines g one) ∙ graph_lines_are p lines k other) ∙ lines_put p 0 k.nodes in
    graph_is g k
    (same_nodes p valid 0 g.nodes k.nodes (good_graph p valid g (graph_formed p lines g one some) (graph_printable p lines g one few)) (good_graph p valid k (graph_formed p lines k other some) (graph_printable p lines k other few)) texts)
    (ap numbered (one.root ∙ sym other.root))

-- where the graph of the lines is read, no line differs from its print
read_no_other : (p : Program) → IsValid p → (text : List ℕ) (g : Graph) (i : ℕ) → IsRead p text g → IsOther p text i → ⊥
read_no_other p valid text g i read other =
    let few : length (lines_of text) < 2 ^ 63 = omega (arith, read_long p valid text g read, read.printable.few) in
    let same : other.graph ≡ g = one_graph_of p valid (lines_of text) other.graph g other.some few other.is_graph (read_graph_of p valid text g read) in
    let print : text ≡ other.print = has_one_text p g text other.print read.print (subst (λ (k : Graph). IsGraphText p k other.print) same other.is_print) in
    other.first.differs (ap (λ (t : List ℕ). slice_get (lines_of t) i) print)

pub is_not_both : IsNotBoth
is_not_both p text g line valid read (inl (none, first)) = absurd (omega (arith, read_long p valid text g read, ap length none, read.fine.some))
is_not_both p text g line valid read (inr (i, number, inl malformed)) = malformed.bad (good_of p (lines_of text) g (read_graph_of p valid text g read) i malformed.bytes malformed.at)
is_not_both p text g line valid read (inr (i, number, inr other)) = read_no_other p valid text g i read other

-- ---- one bad line

apart_cases : (i j : ℕ) → (i < j → ⊥) → (j < i → ⊥) → i ≡ j
apart_cases i j before after =
    elim (cases_lt i j) [
      | inl less ↦ absurd (before less)
      | inr above ↦ elim (cases_lt j i) [ inl less ↦ absurd (after less) | inr below ↦ omega arith ]
    ]

malformed_once : (p : Program) (lines : List (List ℕ)) (i j : ℕ) → IsMalformed p lines i → IsMalformed p lines j → i < j → ⊥
malformed_once p lines i j one other before = one.bad (other.before i one.bytes before one.at)

malformed_no_other : (p : Program) (text : List ℕ) (i j : ℕ) → IsMalformed p (lines_of text) i → IsOther p text j → ⊥
malformed_no_other p text i j one other = one.bad (good_of p (lines_of text) other.graph other.is_graph i one.bytes one.at)

others_once : (p : Program) → IsValid p → (text : List ℕ) → length text < 2 ^ 63 → (i j : ℕ) → IsOther p text i → IsOther p text j → i < j → ⊥
others_once p valid text small i j one other before =
    let few : length (lines_of text) < 2 ^ 63 = omega (arith, lines_few text, small) in
    let same : one.graph ≡ other.graph = one_graph_of p valid (lines_of text) one.graph other.graph one.some few one.is_graph other.is_graph in
    let print : one.print ≡ other.print = has_one_text p other.graph one.print other.print (subst (λ (k : Graph). IsGraphText p k one.print) same one.is_print) other.is_print in
    one.first.differs (other.first.before i before ∙ sym (ap (λ (t : List ℕ). slice_get (lines_of t) i) print))

no_line : (p : Program) (lines : List (List ℕ)) (i : ℕ) → lines ≡ [] → IsMalformed p lines i → ⊥
no_line p lines i none one = let at : slice_get [] i ≡ Some one.bytes = ap (λ (ls : List (List ℕ)). slice_get ls i) (sym none) ∙ one.at in absurd (cc at)

pub has_one_bad_line : HasOneBadLine
has_one_bad_line p text line other valid few (inl (none, first)) (inl (also, too)) = first ∙ sym too
has_one_bad_line p text line other valid few (inl (none, first)) (inr (j, at, inl malformed)) = absurd (no_line p (lines_of text) j none malformed)
has_one_bad_line p text line other valid few (inl (none, first)) (inr (j, at, inr differs)) = absurd (differs.some none)
has_one_bad_line p text line other valid few (inr (i, here, inl malformed)) (inl (none, first)) = absurd (no_line p (lines_of text) i none malformed)
has_one_bad_line p text line other valid few (inr (i, here, inr differs)) (inl (none, first)) = absurd (differs.some none)
has_one_bad_line p text line other valid few (inr (i, here, inl one)) (inr (j, at, inl two)) =
    here ∙ ap (λ (k : ℕ). k + 1) (apart_cases i j (malformed_once p (lines_of text) i j one two) (malformed_once p (lines_of text) j i two one)) ∙ sym at
has_one_bad_line p text line other valid few (inr (i, here, inl one)) (inr (j, at, inr two)) = absurd (malformed_no_other p text i j one two)
has_one_bad_line p text line other valid few (inr (i, here, inr one)) (inr (j, at, inl two)) = absurd (malformed_no_other p text j i two one)
has_one_bad_line p text line other valid few (inr (i, here, inr one)) (inr (j, at, inr two)) =
    here ∙ ap (λ (k : ℕ). k + 1) (apart_cases i j (others_once p valid text few i j one two) (others_once p valid text few j i two one)) ∙ sym at

-- ---- never neither

-- two texts are the same, or go on differently behind what they share
record Parting (xs ys : List ℕ) : Type 0 where
  common : List ℕ
  one : List ℕ
  other : List ℕ
  is_one : xs ≡ common ++ one
  is_other : ys ≡ common ++ other
  apart : slice_get one 0 ≡ slice_get other 0 → ⊥

parts : (xs ys : List ℕ) → (xs ≡ ys) ⊎ Parting xs ys
parts [] [] = inl refl
parts [] (y ∷ ys) = inr (record { common = []; one = []; other = y ∷ ys; is_one = refl; is_other = refl; apart = λ e. absurd (cc e) })
parts (x ∷ xs) [] = inr (record { common = []; one = x ∷ xs; other = []; is_one = refl; is_other = refl; apart = λ e. absurd (cc e) })
parts (x ∷ xs) (y ∷ ys) =
    elim (cases_eq x y) [
      | inl same ↦
          elim (parts xs ys) [
            | inl rest ↦ inl (ap (λ (k : ℕ). k ∷ xs) same ∙ ap (λ (t : List ℕ). y ∷ t) rest)
            | inr rest ↦ inr (record {
              common = y ∷ rest.common;
              one = rest.one;
              other = rest.other;
              is_one = ap (λ (k : ℕ). k ∷ xs) same ∙ ap (λ (t : List ℕ). y ∷ t) rest.is_one;
              is_other = ap (λ (t : List ℕ). y ∷ t) rest.is_other;
              apart = rest.apart;
            })
          ]
      | inr differs ↦ inr (record { common = []; one = x ∷ xs; other = y ∷ ys; is_one = refl; is_other = refl; apart = λ e. let same : x ≡ y = cc in differs same })
    ]

parting_differs : (xs ys : List ℕ) → Parting xs ys → (i : ℕ) × DiffersFirst xs ys i
parting_differs xs ys is = (
  feeds is.common,
  subst (λ (t : List ℕ). DiffersFirst t ys (feeds is.common)) (sym is.is_one) (subst (λ (t : List ℕ). DiffersFirst (is.common ++ is.one) t (feeds is.common)) (sym is.is_other) (differs_first is.common is.one is.other is.apart)),
)

-- good lines have nodes
pub record Chosen (p : Program) (count i : ℕ) (lines : List (List ℕ)) : Type 0 where
  pub nodes : List Node
  pub long : length nodes ≡ length lines
  pub each : (j : ℕ) (bytes : List ℕ) (node : Node) → slice_get lines j ≡ Some bytes → slice_get nodes j ≡ Some node → IsLineOf p count (i + j) bytes node

choose : (p : Program) (count i : ℕ) (lines : List (List ℕ)) → ((j : ℕ) (bytes : List ℕ) → slice_get lines j ≡ Some bytes → IsGood p count (i + j) bytes) → Chosen p count i lines
choose p count i [] good = record { nodes = []; long = refl; each = λ j bytes node at got. absurd (cc at) }
choose p count i (line ∷ lines) good =
    let number : (j : ℕ) → i + suc j ≡ (i + 1) + j = λ j. omega arith in
    let first = good 0 line refl in
    let rest = choose p count (i + 1) lines (λ j bytes at. subst (λ (k : ℕ). IsGood p count k bytes) (number j) (good (suc j) bytes at)) in
    record { nodes = first.0 ∷ rest.nodes; long = ap suc rest.long; each = each first.0 first.1 rest }
  where
    each : (one : Node) → IsLineOf p count (i + 0) line one → (rest : Chosen p count (i + 1) lines) (j : ℕ) (bytes : List ℕ) (node : Node)
        → slice_get (line ∷ lines) j ≡ Some bytes → slice_get (one ∷ rest.nodes) j ≡ Some node → IsLineOf p count (i + j) bytes node
    each one is rest zero bytes node at got =
        let bytes_are : line ≡ bytes = cc in
        let node_is : one ≡ node = cc in
        subst (λ (b : List ℕ). IsLineOf p count (i + 0) b node) bytes_are (subst (IsLineOf p count (i + 0) line) node_is is)
    each one is rest (suc j) bytes node at got =
        let number : (i + 1) + j ≡ i + suc j = omega arith in
        subst (λ (k : ℕ). IsLineOf p count k bytes node) number (rest.each j bytes node at got)

graph_of_good : (p : Program) (lines : List (List ℕ)) → ((j : ℕ) (bytes : List ℕ) → slice_get lines j ≡ Some bytes → IsGood p (length lines) j bytes) → (g : Graph) × IsGraphOf p lines g
graph_of_good p lines good =
    let start : (j : ℕ) → j ≡ 0 + j = λ j. omega arith in
    let chosen = choose p (length lines) 0 lines (λ j bytes at. subst (λ (k : ℕ). IsGood p (length lines) k bytes) (start j) (good j bytes at)) in (
      record { nodes = chosen.nodes; root = numbered 0 },
      record {
        long = chosen.long;
        root = refl;
        nodes = λ j bytes node at got. subst (λ (k : ℕ). IsLineOf p (length lines) k bytes node) (sym (start j)) (chosen.each j bytes node at got);
      },
    )

module _ (p : Program) (valid : IsValid p) (text : List ℕ) (small : length text < 2 ^ 63) (unread : (g : Graph) → IsRead p text g → ⊥) (fine : (line : ℕ) → IsBadAt p text line → ⊥) where
  -- the first k lines have a good form
  abbrev FrontGood : ℕ → Type 0
  FrontGood k = (j : ℕ) (bytes : List ℕ) → j < k → slice_get (lines_of text) j ≡ Some bytes → IsGood p (length (lines_of text)) j bytes

  front_more : (k : ℕ) → FrontGood k → ((bytes : List ℕ) → slice_get (lines_of text) k ≡ Some bytes → IsGood p (length (lines_of text)) k bytes) → FrontGood (k + 1)
  front_more k good here j bytes below at =
      elim (cases_lt j k) [
        | inl before ↦ good j bytes before at
        | inr after ↦
            let same : k ≡ j = omega arith in
            subst (λ (i : ℕ). IsGood p (length (lines_of text)) i bytes) same (here bytes (ap (slice_get (lines_of text)) same ∙ at))
      ]

  not_not_front : (k : ℕ) → (FrontGood k → ⊥) → ⊥
  not_not_front zero none = none (λ j bytes below at. absurd (omega arith))
  not_not_front (suc k) none = not_not_front k (λ good. step good (slice_get_cases (lines_of text) k).1)
    where
      number : k + 1 ≡ suc k
      number = omega arith

      step : FrontGood k → ((bytes : List ℕ) × (k < length (lines_of text)) × (slice_get (lines_of text) k ≡ Some bytes) × (get_or (lines_of text) k bytes ≡ bytes)) ⊎ ((length (lines_of text) ≤ k) × (slice_get (lines_of text) k ≡ None)) → ⊥
      step good (inl (line, inside, at, same)) =
          fine (k + 1) (inr (
            k,
            refl,
            inl (record {
              bytes = line;
              at = at;
              bad = λ is. none (subst FrontGood number (front_more k good (λ bytes got. let one : Some line ≡ Some bytes = sym at ∙ got in let same : line ≡ bytes = cc in subst (IsGood p (length (lines_of text)) k) same is)));
              before = λ j bytes below got. good j bytes below got;
            }),
          ))
      step good (inr (past, missing)) = none (subst FrontGood number (front_more k good (λ bytes got. let clash : None ≡ Some bytes = sym missing ∙ got in absurd (cc clash))))

  unread_graph : lines_of text ≢ [] → (g : Graph) → IsGraphOf p (lines_of text) g → ⊥
  unread_graph some g is =
      let formed = graph_formed p (lines_of text) g is some in
      let order = has_order g formed in
      let has : IsGraphText p g (graph_lines p g order.0) = record { order = order.0; is_order = order.1; lines = refl } in
      elim (parts text (graph_lines p g order.0)) [
        | inl same ↦ unread g (print_read p text (graph_lines p g order.0) g valid small some is has same)
        | inr parting ↦
            let first = parting_differs text (graph_lines p g order.0) parting in
            fine (first.0 + 1) (inr (first.0, refl, inr (record { some = some; graph = g; is_graph = is; print = graph_lines p g order.0; is_print = has; first = first.1 })))
      ]

pub is_read_or_bad : IsReadOrBad
is_read_or_bad p text valid few unread fine =
    let some : lines_of text ≢ [] = λ none. fine 1 (inl (none, refl)) in
    not_not_front p valid text few unread fine (length (lines_of text)) (λ good.
    let graph = graph_of_good p (lines_of text) (λ j bytes at. good j bytes (slice_get_within (lines_of text) j bytes at) at) in
    unread_graph p valid text few unread fine some graph.0 graph.1)
