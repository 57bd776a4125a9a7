-- Lines determine their nodes, and a text is that of one graph at most, among those that are numbered as they are printed.
use Rattle.std.proofs.Common.{◌≡◌, ℕ, ◌+◌, ◌<◌, ◌^◌, Bool, true, false, cond, List, [], ◌∷◌, ◌++◌, length, refl, sym, ◌∙◌, ap, arith}
use Rattle.std.specs.Char.{is_ascii_digit}
use Rattle.std.specs.List.{AllByRecursion}
use Rattle.std.specs.Fmt.{decimal}
use Rattle.std.proofs.lemmas.List.{append_cancel_left}
use Rattle.std.proofs.lemmas.List.Elements.{recursion_from_All}
use Rattle.dactl_base.specs.Readers.{Stops}
use Rattle.dactl_base.proofs.Passing.{begins_front, begins_stops}
use Rattle.dactl_base.proofs.NumberParts.{same_number}
use Rattle.dactl_model.specs.declared.graph.NodeId.{NodeId}
use Rattle.dactl_model.specs.declared.graph.Arc.{Arc}
use Rattle.dactl_model.specs.declared.graph.Mark.{Mark}
use Rattle.dactl_model.specs.declared.graph.Mark.TheVariants.{Idle, Active, Waiting}
use Rattle.dactl_model.specs.declared.graph.Node.{Node}
use Rattle.dactl_model.specs.declared.graph.Graph.{Graph}
use Rattle.dactl_model.specs.declared.program.Program.{Program}
use Rattle.dactl_model.specs.Graphs.{FitsMark, IsFineNode, IsWellFormed}
use Rattle.dactl_model.specs.Programs.{IsValid}
use Rattle.dactl_print.specs.Lines.{label_text, IsLabelAmong}
use Rattle.dactl_within.specs.Renumbering.{nodes_from}
use Rattle.dactl_within.proofs.FireKept.{numbered, node_with}
use Rattle.dactl_resume.specs.Answers.{IsListed}
use Rattle.dactl_resume.specs.Parts.{is_sign, is_label_byte, IsLabelOf}
use Rattle.dactl_resume.specs.Plain.{put_argument, put_further, put_arguments, put_content, put_node, put_nodes}
use Rattle.dactl_resume.specs.Restriction.{IsOfLanguage, IsCanonical, IsPrintable}
use Rattle.dactl_resume.specs.Statements.{TextHasOneGraph, ReadIsRestriction}
use Rattle.dactl_resume.proofs.Marks.{IsSomeMark, same_marked}
use Rattle.dactl_resume.proofs.LabelTexts.{label_begins, same_labelled}
use Rattle.dactl_resume.proofs.Putting.{text_put}
use Rattle.dactl_resume.proofs.Texts.{text_comes_back}
use Rattle.dactl_resume.proofs.Canonical.{graph_is, restriction_is_canonical, canonical_is_own}

pub other_byte : (m n : ℕ) (r s : List ℕ) → (m ≡ n → ⊥) → m ∷ r ≡ n ∷ s → ⊥
other_byte m n r s ne e = let same : m ≡ n = cc in ne same

same_target : (i j : ℕ) (r s : List ℕ) → i < 2 ^ 63 → j < 2 ^ 63 → Stops is_ascii_digit r → Stops is_ascii_digit s → decimal (i + 1) ++ r ≡ decimal (j + 1) ++ s → (i ≡ j) × (r ≡ s)
same_target i j r s one other stops ends e =
    let parts = same_number (i + 1) (j + 1) r s (omega arith) (omega arith) stops ends e in
    (omega (arith, parts.0), parts.1)

same_argument_by : (v w : Bool) (i j : ℕ) (r s : List ℕ) → i < 2 ^ 63 → j < 2 ^ 63 → Stops is_ascii_digit r → Stops is_ascii_digit s
    → cond v (94 ∷ []) [] ++ (64 ∷ (decimal (i + 1) ++ r)) ≡ cond w (94 ∷ []) [] ++ (64 ∷ (decimal (j + 1) ++ s)) → (v ≡ w) × (i ≡ j) × (r ≡ s)
same_argument_by true true i j r s one other stops ends e =
    let rest = same_target i j r s one other stops ends (append_cancel_left (94 ∷ 64 ∷ []) (decimal (i + 1) ++ r) (decimal (j + 1) ++ s) e) in
    (refl, rest.0, rest.1)
same_argument_by true false i j r s one other stops ends e = absurd (other_byte 94 64 (64 ∷ (decimal (i + 1) ++ r)) (decimal (j + 1) ++ s) (λ no. absurd (omega (arith, no))) e)
same_argument_by false true i j r s one other stops ends e = absurd (other_byte 64 94 (decimal (i + 1) ++ r) (64 ∷ (decimal (j + 1) ++ s)) (λ no. absurd (omega (arith, no))) e)
same_argument_by false false i j r s one other stops ends e =
    let rest = same_target i j r s one other stops ends (append_cancel_left (64 ∷ []) (decimal (i + 1) ++ r) (decimal (j + 1) ++ s) e) in
    (refl, rest.0, rest.1)

abbrev arc_with : NodeId → Bool → Arc
arc_with target waits = record { target = target; waits = waits }

abbrev pub IsShort : Arc → Type 0
IsShort a = a.target.number < 2 ^ 63

pub same_argument : (a b : Arc) (r s : List ℕ) → IsShort a → IsShort b → Stops is_ascii_digit r → Stops is_ascii_digit s → put_argument a r ≡ put_argument b s → (a ≡ b) × (r ≡ s)
same_argument a b r s one other stops ends e =
    let parts = same_argument_by a.waits b.waits a.target.number b.target.number r s one other stops ends e in
    (ap (λ w. arc_with a.target w) parts.0 ∙ ap (λ k. arc_with (numbered k) b.waits) parts.1, parts.2)

pub short_arcs : (count : ℕ) → count < 2 ^ 63 → (arcs : List Arc) → AllByRecursion (λ a. a.target.number < count) arcs → AllByRecursion IsShort arcs
short_arcs count few [] below = tt
short_arcs count few (a ∷ arcs) below = (omega (arith, below.0), short_arcs count few arcs below.1)

pub further_stops : (arcs : List Arc) (rest : List ℕ) → Stops is_ascii_digit (put_further arcs rest)
further_stops [] rest = refl
further_stops (a ∷ arcs) rest = refl

pub same_further : (xs ys : List Arc) (r s : List ℕ) → AllByRecursion IsShort xs → AllByRecursion IsShort ys → put_further xs r ≡ put_further ys s → (xs ≡ ys) × (r ≡ s)
same_further [] [] r s one other e = (refl, append_cancel_left (93 ∷ []) r s e)
same_further [] (y ∷ ys) r s one other e = absurd (other_byte 93 32 r (put_argument y (put_further ys s)) (λ no. absurd (omega (arith, no))) e)
same_further (x ∷ xs) [] r s one other e = absurd (other_byte 32 93 (put_argument x (put_further xs r)) s (λ no. absurd (omega (arith, no))) e)
same_further (x ∷ xs) (y ∷ ys) r s one other e =
    let first = same_argument x y (put_further xs r) (put_further ys s) one.0 other.0 (further_stops xs r) (further_stops ys s)
    (append_cancel_left (32 ∷ []) (put_argument x (put_further xs r)) (put_argument y (put_further ys s)) e) in
    let rest = same_further xs ys r s one.1 other.1 first.1 in
    (ap (λ z. z ∷ xs) first.0 ∙ ap (λ zs. y ∷ zs) rest.0, rest.1)

pub same_arguments : (xs ys : List Arc) (r s : List ℕ) → AllByRecursion IsShort xs → AllByRecursion IsShort ys → put_arguments xs (10 ∷ r) ≡ put_arguments ys (10 ∷ s) → (xs ≡ ys) × (r ≡ s)
same_arguments [] [] r s one other e = (refl, append_cancel_left (10 ∷ []) r s e)
same_arguments [] (y ∷ ys) r s one other e = absurd (other_byte 10 91 r (put_argument y (put_further ys (10 ∷ s))) (λ no. absurd (omega (arith, no))) e)
same_arguments (x ∷ xs) [] r s one other e = absurd (other_byte 91 10 (put_argument x (put_further xs (10 ∷ r))) s (λ no. absurd (omega (arith, no))) e)
same_arguments (x ∷ xs) (y ∷ ys) r s one other e =
    let first = same_argument x y (put_further xs (10 ∷ r)) (put_further ys (10 ∷ s)) one.0 other.0 (further_stops xs (10 ∷ r)) (further_stops ys (10 ∷ s))
    (append_cancel_left (91 ∷ []) (put_argument x (put_further xs (10 ∷ r))) (put_argument y (put_further ys (10 ∷ s))) e) in
    let rest = same_further xs ys (10 ∷ r) (10 ∷ s) one.1 other.1 first.1 in
    (ap (λ z. z ∷ xs) first.0 ∙ ap (λ zs. y ∷ zs) rest.0, append_cancel_left (10 ∷ []) r s rest.1)

pub arguments_stop : (arcs : List Arc) (r : List ℕ) → Stops is_label_byte (put_arguments arcs (10 ∷ r))
arguments_stop [] r = refl
arguments_stop (a ∷ arcs) r = refl

module _ (p : Program) (valid : IsValid p) where
  -- what a printed node asks
  pub record IsGood (node : Node) : Type 0 where
    pub label : IsLabelOf p node.label
    pub mark : IsSomeMark node.mark
    pub arcs : AllByRecursion IsShort node.arcs

  -- no sign stands behind a mark
  pub label_stops : (node : Node) (more : List ℕ) → IsLabelOf p node.label → Stops is_sign (label_text p node.label ++ more)
  label_stops node more is = begins_stops is_sign (label_text p node.label ++ more) (begins_front (λ c. is_sign c ≡ false) (label_text p node.label) more (label_begins p valid node.label is))

  pub same_content : (x y : Node) (r s : List ℕ) → IsGood x → IsGood y → put_content p x r ≡ put_content p y s → (x ≡ y) × (r ≡ s)
  same_content x y r s one other e =
      let marks = same_marked x.mark y.mark (label_text p x.label ++ put_arguments x.arcs (10 ∷ r)) (label_text p y.label ++ put_arguments y.arcs (10 ∷ s)) one.mark other.mark
      (label_stops x (put_arguments x.arcs (10 ∷ r)) one.label) (label_stops y (put_arguments y.arcs (10 ∷ s)) other.label) e in
      let labels = same_labelled p valid x.label y.label (put_arguments x.arcs (10 ∷ r)) (put_arguments y.arcs (10 ∷ s)) one.label other.label (arguments_stop x.arcs r) (arguments_stop y.arcs s) marks.1 in
      let arcs = same_arguments x.arcs y.arcs r s one.arcs other.arcs labels.1 in
      (ap (λ z. node_with z x.arcs x.mark) labels.0 ∙ ap (λ z. node_with y.label z x.mark) arcs.0 ∙ ap (λ z. node_with y.label y.arcs z) marks.0, arcs.1)

  pub same_put : (i : ℕ) (x y : Node) (r s : List ℕ) → IsGood x → IsGood y → put_node p i x r ≡ put_node p i y s → (x ≡ y) × (r ≡ s)
  same_put i x y r s one other e =
      let left = put_content p x r in
      let right = put_content p y s in
      same_content x y r s one other
      (append_cancel_left (32 ∷ []) left right (append_cancel_left (decimal (i + 1)) (32 ∷ left) (32 ∷ right) (append_cancel_left (64 ∷ []) (decimal (i + 1) ++ (32 ∷ left)) (decimal (i + 1) ++ (32 ∷ right)) e)))

  pub same_nodes : (i : ℕ) (xs ys : List Node) → AllByRecursion IsGood xs → AllByRecursion IsGood ys → put_nodes p i xs ≡ put_nodes p i ys → xs ≡ ys
  same_nodes i [] [] one other e = refl
  same_nodes i [] (y ∷ ys) one other e = absurd (cc e)
  same_nodes i (x ∷ xs) [] one other e = absurd (cc e)
  same_nodes i (x ∷ xs) (y ∷ ys) one other e =
      let first = same_put i x y (put_nodes p (i + 1) xs) (put_nodes p (i + 1) ys) one.0 other.0 e in
      ap (λ z. z ∷ xs) first.0 ∙ ap (λ zs. y ∷ zs) (same_nodes (i + 1) xs ys one.1 other.1 first.1)

  some_mark : (mark : Mark) (arcs : List Arc) → FitsMark mark arcs → IsSomeMark mark
  some_mark Idle arcs fits = tt
  some_mark Active arcs fits = tt
  some_mark (Waiting k) arcs fits = fits.0

  pub good_node : (count : ℕ) → count < 2 ^ 63 → (node : Node) → IsListed p count node → IsGood node
  good_node count few node is = record {
    label = (is.symbol, is.language);
    mark = some_mark node.mark node.arcs is.fine.mark;
    arcs = short_arcs count few node.arcs (recursion_from_All (λ a. a.target.number < count) node.arcs is.fine.targets);
  }

  good_nodes : (count : ℕ) → count < 2 ^ 63 → (nodes : List Node) → AllByRecursion (IsFineNode count) nodes → AllByRecursion (λ node. IsLabelAmong (length p.symbols) node.label) nodes
      → AllByRecursion (λ node. IsOfLanguage p.wide node.label) nodes → AllByRecursion IsGood nodes
  good_nodes count few [] fine among words = tt
  good_nodes count few (node ∷ nodes) fine among words = (
    good_node count few node (record { fine = fine.0; symbol = among.0; language = words.0 }),
    good_nodes count few nodes fine.1 among.1 words.1,
  )

  pub good_graph : (g : Graph) → IsWellFormed g → IsPrintable p g → AllByRecursion IsGood g.nodes
  good_graph g fine is =
      good_nodes (length g.nodes) is.few g.nodes (recursion_from_All (IsFineNode (length g.nodes)) g.nodes fine.each)
      (recursion_from_All (λ node. IsLabelAmong (length p.symbols) node.label) g.nodes is.symbols) (recursion_from_All (λ node. IsOfLanguage p.wide node.label) g.nodes is.language)

pub root_is : (g : Graph) → IsWellFormed g → IsCanonical g → g.root ≡ numbered 0
root_is g fine canonical = ap numbered (restriction_is_canonical g g (nodes_from 0 (length g.nodes)) (canonical_is_own g fine canonical)).1

pub text_has_one_graph : TextHasOneGraph
text_has_one_graph p h k text valid fine fine_k canonical canonical_k is also has has_k =
    let same : put_nodes p 0 h.nodes ≡ put_nodes p 0 k.nodes = sym (text_put p h fine canonical text has) ∙ text_put p k fine_k canonical_k text has_k in
    graph_is h k (same_nodes p valid 0 h.nodes k.nodes (good_graph p valid h fine is) (good_graph p valid k fine_k also) same) (root_is h fine canonical ∙ sym (root_is k fine_k canonical_k))

pub read_is_restriction : ReadIsRestriction
read_is_restriction p g h k order text valid is printable_k has fine canonical printable has_h =
    text_has_one_graph p h k text valid fine is.fine canonical (restriction_is_canonical g k order is).0 printable printable_k has_h (text_comes_back p order k g text is.fine is.within has)
