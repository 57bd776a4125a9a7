-- The nodes of the lines, one after another.
use Rattle.std.proofs.Common.{◌≡◌, ℕ, ◌+◌, ◌<◌, ◌≤◌, List, [], ◌∷◌, ◌++◌, length, Some, slice_get, refl, sym, ◌∙◌, ap, subst, arith, inl, inr, append_assoc, length-append}
use Rattle.std.proofs.lemmas.List.{append-nil}
use Rattle.std.proofs.lemmas.Option.{slice_get_cases, slice_get_within}
use Rattle.dactl_base.specs.Readers.{next_line}
use Rattle.dactl_model.specs.declared.graph.Node.{Node}
use Rattle.dactl_model.specs.declared.graph.Graph.{Graph}
use Rattle.dactl_model.specs.declared.program.Program.{Program}
use Rattle.dactl_within.proofs.After.{get_append_left, get_append_right}
use Rattle.dactl_resume.specs.Answers.{lines_of, IsLineOf, IsGood, IsGraphOf, IsMalformed}
use Rattle.dactl_resume.proofs.LineLists.{lines_next}

-- so many lines have their nodes, and the others are those of the rest
pub record Walked (p : Program) (lines : List (List ℕ)) (rest : List ℕ) (place : ℕ) (nodes : List Node) : Type 0 where
  pub done : List (List ℕ)
  pub split : lines ≡ done ++ lines_of rest
  pub passed : length done ≡ place
  pub long : length nodes ≡ place
  pub each : (i : ℕ) (bytes : List ℕ) (node : Node) → slice_get done i ≡ Some bytes → slice_get nodes i ≡ Some node → IsLineOf p (length lines) i bytes node
  pub few : length rest ≤ 1048576

pub not_walked : (p : Program) (text : List ℕ) → length text ≤ 1048576 → Walked p (lines_of text) text 0 []
not_walked p text few = record { done = []; split = refl; passed = refl; long = refl; each = λ i bytes node at got. absurd (cc at); few = few }

module _ (p : Program) (lines : List (List ℕ)) (rest : List ℕ) (place : ℕ) (nodes : List Node) (so : Walked p lines rest place nodes) where
  module _ (line behind : List ℕ) (some : 0 < length rest) (is : line ≡ next_line rest) (joined : rest ≡ line ++ behind) where
    next : lines_of rest ≡ line ∷ lines_of behind
    next = lines_next rest behind some (joined ∙ ap (λ (l : List ℕ). l ++ behind) is) ∙ ap (λ (l : List ℕ). l ∷ lines_of behind) (sym is)

    -- the next line stands at this place
    pub line_at : slice_get lines place ≡ Some line
    line_at =
        let number : place ≡ place + 0 = omega arith in
        ap (λ (ls : List (List ℕ)). slice_get ls place) so.split ∙ ap (slice_get (so.done ++ lines_of rest)) number
        ∙ get_append_right so.done (lines_of rest) place 0 so.passed ∙ ap (λ (ls : List (List ℕ)). slice_get ls 0) next

    pub place_below : place < length lines
    place_below = slice_get_within lines place line line_at

    each_more : (node : Node) → IsLineOf p (length lines) place line node → (i : ℕ) (bytes : List ℕ) (other : Node) → slice_get (so.done ++ line ∷ []) i ≡ Some bytes → slice_get (nodes ++ node ∷ []) i ≡ Some other → IsLineOf p (length lines) i bytes other
    each_more node own i bytes other at got =
        elim (slice_get_cases so.done i).1 [
          | inl (was, inside, there, same) ↦
              elim (slice_get_cases nodes i).1 [
                | inl (one, within, here, alike) ↦
                    let line_same : Some was ≡ Some bytes = sym (get_append_left so.done (line ∷ []) i was there) ∙ at in
                    let node_same : Some one ≡ Some other = sym (get_append_left nodes (node ∷ []) i one here) ∙ got in
                    let bytes_are : was ≡ bytes = cc in
                    let node_is : one ≡ other = cc in
                    subst (λ (b : List ℕ). IsLineOf p (length lines) i b other) bytes_are (subst (IsLineOf p (length lines) i was) node_is (so.each i was one there here))
                | inr (past, none) ↦ absurd (omega (arith, past, inside, so.long, so.passed))
              ]
          | inr (past, none) ↦
              let most : i < length (so.done ++ line ∷ []) = slice_get_within (so.done ++ line ∷ []) i bytes at in
              let number : place + 0 ≡ i = omega (arith, most, past, so.passed, length-append so.done (line ∷ [])) in
              let here : place ≡ i = omega (arith, number) in
              let line_same : Some line ≡ Some bytes = sym (get_append_right so.done (line ∷ []) place 0 so.passed) ∙ ap (slice_get (so.done ++ line ∷ [])) number ∙ at in
              let node_same : Some node ≡ Some other = sym (get_append_right nodes (node ∷ []) place 0 so.long) ∙ ap (slice_get (nodes ++ node ∷ [])) number ∙ got in
              let bytes_are : line ≡ bytes = cc in
              let node_is : node ≡ other = cc in
              subst (λ (k : ℕ). IsLineOf p (length lines) k bytes other) here (subst (λ (b : List ℕ). IsLineOf p (length lines) place b other) bytes_are (subst (IsLineOf p (length lines) place line) node_is own))
        ]

    -- one line more has its node
    pub walked_more : (node : Node) → IsLineOf p (length lines) place line node → length behind ≤ 1048576 → Walked p lines behind (place + 1) (nodes ++ node ∷ [])
    walked_more node own few = record {
      done = so.done ++ line ∷ [];
      split = so.split ∙ ap (λ (ls : List (List ℕ)). so.done ++ ls) next ∙ sym (append_assoc so.done (line ∷ []) (lines_of behind));
      passed = length-append so.done (line ∷ []) ∙ ap (λ (k : ℕ). k + 1) so.passed;
      long = length-append nodes (node ∷ []) ∙ ap (λ (k : ℕ). k + 1) so.long;
      each = each_more node own;
      few = few;
    }

    -- or it is the first one that has none
    pub malformed_here : ((node : Node) → IsLineOf p (length lines) place line node → ⊥) → IsMalformed p lines place
    malformed_here none = record {
      bytes = line;
      at = line_at;
      bad = λ good. none good.0 good.1;
      before = λ j good below at. earlier j good below at;
    }
      where
        earlier : (j : ℕ) (good : List ℕ) → j < place → slice_get lines j ≡ Some good → IsGood p (length lines) j good
        earlier j good below at =
            elim (slice_get_cases so.done j).1 [
              | inl (was, inside, there, same) ↦
                  elim (slice_get_cases nodes j).1 [
                    | inl (one, within, here, alike) ↦
                        let line_same : Some was ≡ Some good = sym (get_append_left so.done (lines_of rest) j was there) ∙ ap (λ (ls : List (List ℕ)). slice_get ls j) (sym so.split) ∙ at in
                        let bytes_are : was ≡ good = cc in
                        (one, subst (λ (b : List ℕ). IsLineOf p (length lines) j b one) bytes_are (so.each j was one there here))
                    | inr (past, none) ↦ absurd (omega (arith, past, below, so.long))
                  ]
              | inr (past, none) ↦ absurd (omega (arith, past, below, so.passed))
            ]

  -- at the end the nodes are those of a graph
  pub graph_walked : (g : Graph) → length rest ≡ 0 → g.nodes ≡ nodes → g.root.number ≡ 0 → IsGraphOf p lines g
  graph_walked g ended are root = record {
    long = ap length are ∙ so.long ∙ sym so.passed ∙ ap length (sym all);
    root = root;
    nodes = λ i bytes node at got. so.each i bytes node (ap (λ (ls : List (List ℕ)). slice_get ls i) (sym all) ∙ at) (ap (λ (ns : List Node). slice_get ns i) (sym are) ∙ got);
  }
    where
      none : (bs : List ℕ) → length bs ≡ 0 → lines_of bs ≡ []
      none [] e = refl
      none (b ∷ bs) e = absurd (omega arith)

      all : lines ≡ so.done
      all = so.split ∙ ap (λ (ls : List (List ℕ)). so.done ++ ls) (none rest ended) ∙ append-nil so.done
