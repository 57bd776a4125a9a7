-- The graph of lines, and the text that they are.
use Rattle.std.proofs.Common.{◌≡◌, ◌≢◌, ℕ, suc, ◌+◌, ◌<◌, ◌^◌, cond, List, [], ◌∷◌, ◌++◌, length, All, Some, slice_get, refl, sym, ◌∙◌, ap, subst, arith, inl, inr, append_assoc}
use Rattle.std.specs.Fmt.{decimal}
use Rattle.std.specs.List.{concat}
use Rattle.std.proofs.lemmas.Option.{slice_get_cases, slice_get_within, slice_get-get_or}
use Rattle.dactl_model.specs.declared.graph.Arc.{Arc}
use Rattle.dactl_model.specs.declared.graph.Node.{Node}
use Rattle.dactl_model.specs.declared.graph.Graph.{Graph}
use Rattle.dactl_model.specs.declared.program.Program.{Program}
use Rattle.dactl_model.specs.Graphs.{IsFineNode, IsWellFormed}
use Rattle.dactl_model.specs.Programs.{IsValid}
use Rattle.dactl_print.specs.Lines.{mark_text, label_text, IsLabelAmong, HasSymbolsOf, IsGraphText}
use Rattle.dactl_within.proofs.FireKept.{numbered}
use Rattle.dactl_resume.specs.Answers.{lines_of, IsListed, IsGraphOf, IsRead}
use Rattle.dactl_resume.specs.Plain.{put_argument, put_further, put_arguments, put_content, put_node, put_nodes}
use Rattle.dactl_resume.specs.Restriction.{IsRestriction, IsOfLanguage, IsCanonical, IsPrintable}
use Rattle.dactl_resume.proofs.Canonical.{graph_is, restriction_is_canonical}
use Rattle.dactl_resume.proofs.Existing.{has_restriction}
use Rattle.dactl_resume.proofs.LineLists.{lines_join, lines_few}
use Rattle.dactl_resume.proofs.Printable.{restriction_is_printable}
use Rattle.dactl_resume.proofs.Putting.{text_put}
use Rattle.dactl_resume.proofs.SameText.{same_nodes, good_graph}
use Rattle.dactl_resume.proofs.Texts.{text_comes_back}

-- ---- the lines of nodes

-- the lines of the nodes from number i on
abbrev pub node_lines : Program → ℕ → List Node → List (List ℕ)
node_lines p i [] = []
node_lines p i (node ∷ nodes) = put_node p i node [] ∷ node_lines p (i + 1) nodes

argument_append : (a : Arc) (s r : List ℕ) → put_argument a s ++ r ≡ put_argument a (s ++ r)
argument_append a s r =
    append_assoc (cond a.waits (94 ∷ []) []) (64 ∷ (decimal (a.target.number + 1) ++ s)) r
    ∙ ap (λ (t : List ℕ). cond a.waits (94 ∷ []) [] ++ (64 ∷ t)) (append_assoc (decimal (a.target.number + 1)) s r)

further_append : (arcs : List Arc) (s r : List ℕ) → put_further arcs s ++ r ≡ put_further arcs (s ++ r)
further_append [] s r = refl
further_append (a ∷ arcs) s r = ap (λ (t : List ℕ). 32 ∷ t) (argument_append a (put_further arcs s) r ∙ ap (put_argument a) (further_append arcs s r))

pub arguments_append : (arcs : List Arc) (s r : List ℕ) → put_arguments arcs s ++ r ≡ put_arguments arcs (s ++ r)
arguments_append [] s r = refl
arguments_append (a ∷ arcs) s r = ap (λ (t : List ℕ). 91 ∷ t) (argument_append a (put_further arcs s) r ∙ ap (put_argument a) (further_append arcs s r))

content_append : (p : Program) (node : Node) (r : List ℕ) → put_content p node [] ++ r ≡ put_content p node r
content_append p node r =
    append_assoc (mark_text node.mark) (label_text p node.label ++ put_arguments node.arcs (10 ∷ [])) r
    ∙ ap (λ (t : List ℕ). mark_text node.mark ++ t) (append_assoc (label_text p node.label) (put_arguments node.arcs (10 ∷ [])) r
    ∙ ap (λ (t : List ℕ). label_text p node.label ++ t) (arguments_append node.arcs (10 ∷ []) r))

pub node_append : (p : Program) (i : ℕ) (node : Node) (r : List ℕ) → put_node p i node [] ++ r ≡ put_node p i node r
node_append p i node r =
    ap (λ (t : List ℕ). 64 ∷ t) (append_assoc (decimal (i + 1)) (32 ∷ put_content p node []) r ∙ ap (λ (t : List ℕ). decimal (i + 1) ++ (32 ∷ t)) (content_append p node r))

pub lines_put : (p : Program) (i : ℕ) (nodes : List Node) → concat (node_lines p i nodes) ≡ put_nodes p i nodes
lines_put p i [] = refl
lines_put p i (node ∷ nodes) = ap (λ (t : List ℕ). put_node p i node [] ++ t) (lines_put p (i + 1) nodes) ∙ node_append p i node (put_nodes p (i + 1) nodes)

lines_by : (p : Program) (i : ℕ) (lines : List (List ℕ)) (nodes : List Node) → length nodes ≡ length lines
    → ((j : ℕ) (bytes : List ℕ) (node : Node) → slice_get lines j ≡ Some bytes → slice_get nodes j ≡ Some node → bytes ≡ put_node p (i + j) node []) → lines ≡ node_lines p i nodes
lines_by p i [] [] long each = refl
lines_by p i [] (node ∷ nodes) long each = absurd (omega arith)
lines_by p i (line ∷ lines) [] long each = absurd (omega arith)
lines_by p i (line ∷ lines) (node ∷ nodes) long each =
    let here : i + 0 ≡ i = omega arith in
    let first : line ≡ put_node p i node [] = each 0 line node refl refl ∙ ap (λ (k : ℕ). put_node p k node []) here in
    let rest = lines_by p (i + 1) lines nodes (omega arith) (λ j bytes other at got. each (suc j) bytes other at got ∙ ap (λ (k : ℕ). put_node p k other []) (step i j)) in
    ap (λ (l : List ℕ). l ∷ lines) first ∙ ap (λ (ls : List (List ℕ)). put_node p i node [] ∷ ls) rest
  where
    step : (i j : ℕ) → i + suc j ≡ (i + 1) + j
    step i j = omega arith

-- ---- the graph of lines

some_lines : (lines : List (List ℕ)) → lines ≢ [] → 0 < length lines
some_lines [] some = absurd (some refl)
some_lines (line ∷ lines) some = omega arith

module _ (p : Program) (lines : List (List ℕ)) (g : Graph) (is : IsGraphOf p lines g) where
  listed_at : (i : ℕ) (node : Node) → slice_get g.nodes i ≡ Some node → IsListed p (length lines) node
  listed_at i node at =
      elim (slice_get_cases lines i).1 [
        | inl (bytes, inside, got, same) ↦ (is.nodes i bytes node got at).listed
        | inr (past, none) ↦ absurd (omega (arith, slice_get_within g.nodes i node at, is.long))
      ]

  each_listed : (P : Node → Type 0) → ((node : Node) → IsListed p (length lines) node → P node) → All P g.nodes
  each_listed P step i d below = step _ (listed_at i _ (slice_get-get_or g.nodes i d below))

  pub graph_formed : lines ≢ [] → IsWellFormed g
  graph_formed some =
      let above = some_lines lines some in
      record {
        some = omega (arith, is.long, above);
        root = omega (arith, is.long, is.root, above);
        each = subst (λ (c : ℕ). All (IsFineNode c) g.nodes) (sym is.long) (each_listed (IsFineNode (length lines)) (λ node listed. listed.fine));
      }

  pub graph_symbols : HasSymbolsOf p g
  graph_symbols = each_listed (λ node. IsLabelAmong (length p.symbols) node.label) (λ node listed. listed.symbol)

  graph_language : All (λ node. IsOfLanguage p.wide node.label) g.nodes
  graph_language = each_listed (λ node. IsOfLanguage p.wide node.label) (λ node listed. listed.language)

  pub graph_printable : length lines < 2 ^ 63 → IsPrintable p g
  graph_printable few = record { symbols = graph_symbols; language = graph_language; few = omega (arith, is.long, few) }

  pub graph_lines_are : lines ≡ node_lines p 0 g.nodes
  graph_lines_are = lines_by p 0 lines g.nodes is.long (λ j bytes node at got. (is.nodes j bytes node at got).text ∙ ap (λ (k : ℕ). put_node p k node []) (start j))
    where
      start : (j : ℕ) → j ≡ 0 + j
      start j = omega arith

-- where the text is the print of the graph of its lines, this is read
pub print_read : (p : Program) (text print : List ℕ) (g : Graph) → IsValid p → length text < 2 ^ 63 → lines_of text ≢ [] → IsGraphOf p (lines_of text) g → IsGraphText p g print → text ≡ print → IsRead p text g
print_read p text print g valid small some is printed same =
    let few : length (lines_of text) < 2 ^ 63 = omega (arith, lines_few text, small) in
    let fine = graph_formed p (lines_of text) g is some in
    let printable = graph_printable p (lines_of text) g is few in
    let has : IsGraphText p g text = subst (IsGraphText p g) (sym same) printed in
    let part = has_restriction g has.order fine has.is_order in
    let h = part.0 in
    let restricts : IsRestriction g has.order part.0 = part.1 in
    let canonical = restriction_is_canonical g part.0 has.order restricts in
    let own : text ≡ put_nodes p 0 g.nodes = sym (lines_join text) ∙ ap concat (graph_lines_are p (lines_of text) g is) ∙ lines_put p 0 g.nodes in
    let other : text ≡ put_nodes p 0 part.0.nodes = text_put p part.0 restricts.fine canonical.0 text (text_comes_back p has.order part.0 g text restricts.fine restricts.within has) in
    let good = good_graph p valid g fine printable in
    let good_too = good_graph p valid part.0 restricts.fine (restriction_is_printable p g part.0 has.order fine printable restricts) in
    let nodes = same_nodes p valid 0 g.nodes part.0.nodes good good_too (sym own ∙ other) in
    let root = ap numbered (is.root ∙ sym canonical.1) in
    let one : g ≡ part.0 = graph_is g part.0 nodes root in
    record {
      fine = fine;
      canonical = subst IsCanonical (sym one) canonical.0;
      printable = printable;
      print = has;
    }
