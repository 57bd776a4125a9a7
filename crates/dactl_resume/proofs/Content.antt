-- Mark, label and arguments of a line, one after another.
use Rattle.std.proofs.Common.{◌≡◌, ℕ, ◌+◌, ◌^◌, ◌<◌, List, [], ◌∷◌, ◌++◌, sym, ◌∙◌, ap, subst, Option, Some, None, Result, Ok, Err, IfOk, MatchOption}
use Rattle.std.specs.Fmt.{decimal}
use Rattle.std.specs.List.{AllByRecursion}
use Rattle.std.proofs.lemmas.List.{append_cancel_left}
use Rattle.std.proofs.lemmas.List.Elements.{recursion_from_All}
use Rattle.dactl_model.specs.declared.graph.Label.{Label}
use Rattle.dactl_model.specs.declared.graph.Arc.{Arc}
use Rattle.dactl_model.specs.declared.graph.Mark.{Mark}
use Rattle.dactl_model.specs.declared.graph.Node.{Node}
use Rattle.dactl_model.specs.declared.program.Program.{Program}
use Rattle.dactl_model.specs.Graphs.{FitsLabel, FitsMark}
use Rattle.dactl_model.specs.Programs.{IsValid}
use Rattle.dactl_print.specs.Lines.{mark_text, label_text}
use Rattle.dactl_within.proofs.FireKept.{node_with}
use Rattle.dactl_resume.specs.Answers.{IsContentOf, IsLineOf}
use Rattle.dactl_resume.specs.Parts.{BeginsMark, BeginsLabel, AreTargets, AreArguments}
use Rattle.dactl_resume.specs.Plain.{put_arguments, put_content}
use Rattle.dactl_resume.proofs.Marks.{same_marked, some_mark, few_mark}
use Rattle.dactl_resume.proofs.LabelTexts.{same_labelled}
use Rattle.dactl_resume.proofs.SameText.{label_stops, arguments_stop, IsShort, short_arcs, same_arguments}

-- what stands behind the mark, and behind the label
abbrev after_mark : Program → Node → List ℕ
after_mark p node = label_text p node.label ++ put_arguments node.arcs (10 ∷ [])

abbrev after_label : Node → List ℕ
after_label node = put_arguments node.arcs (10 ∷ [])

module _ (p : Program) (valid : IsValid p) (count : ℕ) where
  pub content_mark : (bytes : List ℕ) (node : Node) → IsContentOf p count bytes node → BeginsMark bytes node.mark (after_mark p node)
  content_mark bytes node is = record {
    text = is.text;
    few = few_mark node.mark node.arcs is.listed.fine.few is.listed.fine.mark;
    ends = label_stops p valid node (after_label node) (is.listed.symbol, is.listed.language);
  }

  pub content_label : (bytes behind : List ℕ) (mark : Mark) (node : Node) → BeginsMark bytes mark behind → IsContentOf p count bytes node → (mark ≡ node.mark) × BeginsLabel p behind node.label (after_label node)
  content_label bytes behind mark node found is =
      let own = content_mark bytes node is in
      let same = same_marked mark node.mark behind (after_mark p node) (some_mark mark found.few) (some_mark node.mark own.few) found.ends own.ends (sym found.text ∙ own.text) in
      (same.0, record { text = same.1; own = (is.listed.symbol, is.listed.language); ends = arguments_stop node.arcs [] })

  pub content_arguments : (bytes behind rest : List ℕ) (mark : Mark) (label : Label) (node : Node) → BeginsMark bytes mark behind → BeginsLabel p behind label rest → IsContentOf p count bytes node
      → (label ≡ node.label) × AreArguments rest count node.arcs
  content_arguments bytes behind rest mark label node found then is =
      let own = (content_label bytes behind mark node found is).1 in
      let same = same_labelled p valid label node.label rest (after_label node) then.own own.own then.ends own.ends (sym then.text ∙ own.text) in
      (same.0, record { text = same.1; targets = is.listed.fine.targets; few = is.listed.fine.few })

  -- the parts make the content
  pub content_read : (bytes behind rest : List ℕ) (mark : Mark) (label : Label) (arcs : List Arc) → BeginsMark bytes mark behind → BeginsLabel p behind label rest → AreArguments rest count arcs
      → FitsLabel label arcs × FitsMark mark arcs → IsContentOf p count bytes (node_with label arcs mark)
  content_read bytes behind rest mark label arcs found then are fits = record {
    text = found.text ∙ ap (λ (t : List ℕ). mark_text mark ++ t) (then.text ∙ ap (λ (t : List ℕ). label_text p label ++ t) are.text);
    listed = record {
      fine = record { targets = are.targets; few = are.few; label = fits.0; mark = fits.1 };
      symbol = then.own.0;
      language = then.own.1;
    };
  }

  -- and where they do not fit together, no content has them
  pub content_unfit : (bytes behind rest : List ℕ) (mark : Mark) (label : Label) (arcs : List Arc) → count < 2 ^ 63 → BeginsMark bytes mark behind → BeginsLabel p behind label rest → AreArguments rest count arcs
      → (FitsLabel label arcs × FitsMark mark arcs → ⊥) → (node : Node) → IsContentOf p count bytes node → ⊥
  content_unfit bytes behind rest mark label arcs small found then are unfit node is =
      let marks = content_label bytes behind mark node found is in
      let labels = content_arguments bytes behind rest mark label node found then is in
      let lists = same_arguments arcs node.arcs [] [] (short_targets small arcs are.targets) (short_targets small node.arcs is.listed.fine.targets) (sym are.text ∙ labels.1.text) in
      unfit (
        subst (λ (l : Label). FitsLabel l arcs) (sym labels.0) (subst (λ (xs : List Arc). FitsLabel node.label xs) (sym lists.0) is.listed.fine.label),
        subst (λ (m : Mark). FitsMark m arcs) (sym marks.0) (subst (λ (xs : List Arc). FitsMark node.mark xs) (sym lists.0) is.listed.fine.mark),
      )
    where
      short_targets : count < 2 ^ 63 → (xs : List Arc) → AreTargets count xs → AllByRecursion IsShort xs
      short_targets small xs below = short_arcs count small xs (recursion_from_All (λ a. a.target.number < count) xs below)

-- ---- the head of a line

pub line_content : (p : Program) (count i : ℕ) (line bytes : List ℕ) (node : Node) → line ≡ 64 ∷ (decimal (i + 1) ++ (32 ∷ bytes)) → IsLineOf p count i line node → IsContentOf p count bytes node
line_content p count i line bytes node head is =
    let both : 64 ∷ (decimal (i + 1) ++ (32 ∷ bytes)) ≡ 64 ∷ (decimal (i + 1) ++ (32 ∷ put_content p node [])) = sym head ∙ is.text in
    record {
      text = append_cancel_left (32 ∷ []) bytes (put_content p node []) (append_cancel_left (decimal (i + 1)) (32 ∷ bytes) (32 ∷ put_content p node []) (append_cancel_left (64 ∷ []) (decimal (i + 1) ++ (32 ∷ bytes)) (decimal (i + 1) ++ (32 ∷ put_content p node [])) both));
      listed = is.listed;
    }

pub content_line : (p : Program) (count i : ℕ) (line bytes : List ℕ) (node : Node) → line ≡ 64 ∷ (decimal (i + 1) ++ (32 ∷ bytes)) → IsContentOf p count bytes node → IsLineOf p count i line node
content_line p count i line bytes node head is = record {
  text = head ∙ ap (λ (t : List ℕ). 64 ∷ (decimal (i + 1) ++ (32 ∷ t))) is.text;
  listed = is.listed;
}

-- what is answered of the content is so of the line
pub line_answer : {E : Type 0} (p : Program) (count i : ℕ) (line bytes : List ℕ) → line ≡ 64 ∷ (decimal (i + 1) ++ (32 ∷ bytes)) → (r : Result (Option Node) E)
    → IfOk r (λ found. MatchOption found ((node : Node) → IsContentOf p count bytes node → ⊥) (λ node. IsContentOf p count bytes node))
    → IfOk r (λ found. MatchOption found ((node : Node) → IsLineOf p count i line node → ⊥) (λ node. IsLineOf p count i line node))
line_answer p count i line bytes head (Ok None) none = λ node is. none node (line_content p count i line bytes node head is)
line_answer p count i line bytes head (Ok (Some node)) is = content_line p count i line bytes node head is
line_answer p count i line bytes head (Err e) is = tt
