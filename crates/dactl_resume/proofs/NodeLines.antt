-- The lines of a graph's print are those of its nodes.
use Rattle.std.proofs.Common.{◌≡◌, ℕ, ◌+◌, ◌<◌, ◌^◌, ◌==◌, Bool, true, false, not, if◌then◌else◌, cond, List, [], ◌∷◌, ◌++◌, length, refl, sym, ◌∙◌, ap, subst, arith, append_assoc}
use Rattle.std.specs.Fmt.{decimal}
use Rattle.std.specs.List.{AllByRecursion}
use Rattle.dactl_base.proofs.Passing.{all_more, each_step}
use Rattle.dactl_base.proofs.NextLine.{is_pure, not_feed, pure_append, pure_decimal}
use Rattle.dactl_model.specs.declared.graph.Label.{Label}
use Rattle.dactl_model.specs.declared.graph.Label.TheVariants.{Symbol, Integer, Character}
use Rattle.dactl_model.specs.declared.graph.Arc.{Arc}
use Rattle.dactl_model.specs.declared.graph.Mark.{Mark}
use Rattle.dactl_model.specs.declared.graph.Node.{Node}
use Rattle.dactl_model.specs.declared.program.Program.{Program}
use Rattle.dactl_model.specs.Programs.{IsValid}
use Rattle.dactl_model.proofs.Unique.{left_true, right_true}
use Rattle.dactl_print.specs.Lines.{mark_text, label_text}
use Rattle.dactl_resume.specs.Answers.{prepend, lines_of}
use Rattle.dactl_resume.specs.Parts.{is_sign, is_label_byte, IsLabelOf}
use Rattle.dactl_resume.specs.Plain.{put_argument, put_further, put_arguments, put_node, put_nodes}
use Rattle.dactl_resume.proofs.Marks.{mark_signs}
use Rattle.dactl_resume.proofs.LabelTexts.{word_bytes}
use Rattle.dactl_resume.proofs.SameText.{IsShort, IsGood}
use Rattle.dactl_resume.proofs.GraphOf.{node_lines, arguments_append}

false_true : false ≡ true → ⊥
false_true e = cc

pure_mark : (mark : Mark) → is_pure (mark_text mark) ≡ true
pure_mark mark = each_step is_sign (λ c. not (c == 10)) (λ c sign. not_feed c (λ e. absurd (false_true (subst (λ x. is_sign x ≡ true) e sign)))) (mark_text mark) (mark_signs mark)

label_no_feed : (c : ℕ) → is_label_byte c ≡ true → not (c == 10) ≡ true
label_no_feed c byte = not_feed c (λ e. absurd (false_true (subst (λ x. is_label_byte x ≡ true) e byte)))

pure_flag : (w : Bool) → is_pure (cond w (94 ∷ []) []) ≡ true
pure_flag true = refl
pure_flag false = refl

pure_argument : (a : Arc) (rest : List ℕ) → IsShort a → is_pure rest ≡ true → is_pure (put_argument a rest) ≡ true
pure_argument a rest short pure =
    let number : is_pure (decimal (a.target.number + 1) ++ rest) ≡ true = pure_append (decimal (a.target.number + 1)) rest (pure_decimal (a.target.number + 1) (omega (arith, short))) pure in
    pure_append (cond a.waits (94 ∷ []) []) (64 ∷ (decimal (a.target.number + 1) ++ rest)) (pure_flag a.waits) (all_more (λ c. not (c == 10)) 64 (decimal (a.target.number + 1) ++ rest) refl number)

pure_further : (arcs : List Arc) → AllByRecursion IsShort arcs → is_pure (put_further arcs []) ≡ true
pure_further [] short = refl
pure_further (a ∷ arcs) short = all_more (λ c. not (c == 10)) 32 (put_argument a (put_further arcs [])) refl (pure_argument a (put_further arcs []) short.0 (pure_further arcs short.1))

pure_arguments : (arcs : List Arc) → AllByRecursion IsShort arcs → is_pure (put_arguments arcs []) ≡ true
pure_arguments [] short = refl
pure_arguments (a ∷ arcs) short = all_more (λ c. not (c == 10)) 91 (put_argument a (put_further arcs [])) refl (pure_argument a (put_further arcs []) short.0 (pure_further arcs short.1))

-- a line ends with its first LF
line_ends : (xs more : List ℕ) → is_pure xs ≡ true → lines_of (xs ++ 10 ∷ more) ≡ (xs ++ 10 ∷ []) ∷ lines_of more
line_ends [] more pure = refl
line_ends (b ∷ xs) more pure =
    let rest = line_ends xs more (right_true (not (b == 10)) (is_pure xs) pure) in
    (elim (b == 10) as (λ t. not t ≡ true → (if t then (10 ∷ []) ∷ lines_of (xs ++ 10 ∷ more) else prepend b (lines_of (xs ++ 10 ∷ more))) ≡ (b ∷ (xs ++ 10 ∷ [])) ∷ lines_of more) [
      | true ↦ λ e. absurd (false_true e)
      | false ↦ λ e. ap (prepend b) rest
    ]) (left_true (not (b == 10)) (is_pure xs) pure)

-- what stands before the LF of a node's line
abbrev node_front : Program → ℕ → Node → List ℕ
node_front p i node = 64 ∷ (decimal (i + 1) ++ (32 ∷ (mark_text node.mark ++ (label_text p node.label ++ put_arguments node.arcs []))))

front_append : (p : Program) (i : ℕ) (node : Node) (more : List ℕ) → node_front p i node ++ 10 ∷ more ≡ put_node p i node more
front_append p i node more =
    ap (λ (t : List ℕ). 64 ∷ t)
    (append_assoc (decimal (i + 1)) (32 ∷ (mark_text node.mark ++ (label_text p node.label ++ put_arguments node.arcs []))) (10 ∷ more)
    ∙ ap (λ (t : List ℕ). decimal (i + 1) ++ (32 ∷ t))
    (append_assoc (mark_text node.mark) (label_text p node.label ++ put_arguments node.arcs []) (10 ∷ more)
    ∙ ap (λ (t : List ℕ). mark_text node.mark ++ t)
    (append_assoc (label_text p node.label) (put_arguments node.arcs []) (10 ∷ more)
    ∙ ap (λ (t : List ℕ). label_text p node.label ++ t) (arguments_append node.arcs [] (10 ∷ more)))))

module _ (p : Program) (valid : IsValid p) where
  pure_label : (l : Label) → IsLabelOf p l → is_pure (label_text p l) ≡ true
  pure_label (Symbol f) is = each_step is_label_byte (λ c. not (c == 10)) label_no_feed (label_text p (Symbol f)) (word_bytes p valid (Symbol f) is tt)
  pure_label (Integer z) is = each_step is_label_byte (λ c. not (c == 10)) label_no_feed (label_text p (Integer z)) (word_bytes p valid (Integer z) is tt)
  pure_label (Character c) is = all_more (λ b. not (b == 10)) 39 (c ∷ 39 ∷ []) refl (all_more (λ b. not (b == 10)) c (39 ∷ []) (not_feed c (λ e. absurd (omega (arith, e, is.1.1.0)))) refl)

  pure_front : (i : ℕ) (node : Node) → i + 1 < 10 ^ 64 → IsGood p valid node → is_pure (node_front p i node) ≡ true
  pure_front i node small good =
      let label = pure_append (label_text p node.label) (put_arguments node.arcs []) (pure_label node.label good.label) (pure_arguments node.arcs good.arcs) in
      let mark = pure_append (mark_text node.mark) (label_text p node.label ++ put_arguments node.arcs []) (pure_mark node.mark) label in
      let space = all_more (λ c. not (c == 10)) 32 (mark_text node.mark ++ (label_text p node.label ++ put_arguments node.arcs [])) refl mark in
      all_more (λ c. not (c == 10)) 64 (decimal (i + 1) ++ (32 ∷ (mark_text node.mark ++ (label_text p node.label ++ put_arguments node.arcs [])))) refl
      (pure_append (decimal (i + 1)) (32 ∷ (mark_text node.mark ++ (label_text p node.label ++ put_arguments node.arcs []))) (pure_decimal (i + 1) small) space)

  -- the lines of the nodes' text are those of the nodes
  pub lines_of_nodes : (i : ℕ) (nodes : List Node) → i + length nodes < 2 ^ 63 → AllByRecursion (IsGood p valid) nodes → lines_of (put_nodes p i nodes) ≡ node_lines p i nodes
  lines_of_nodes i [] few good = refl
  lines_of_nodes i (node ∷ nodes) few good =
      ap lines_of (sym (front_append p i node (put_nodes p (i + 1) nodes)))
      ∙ line_ends (node_front p i node) (put_nodes p (i + 1) nodes) (pure_front i node (omega arith) good.0)
      ∙ ap (λ (l : List ℕ). l ∷ lines_of (put_nodes p (i + 1) nodes)) (front_append p i node [])
      ∙ ap (λ (ls : List (List ℕ)). put_node p i node [] ∷ ls) (lines_of_nodes (i + 1) nodes (omega arith) good.1)
