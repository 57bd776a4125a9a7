-- What the terms of a contractum make, mention and stand for.
use Rattle.std.specs.Prelude.{◌≡◌, ℕ, ◌<◌, ◌≤◌, ◌^◌, List, map, length}
use Rattle.std.specs.Borrow.{Bor}
use Rattle.dactl_meaning.specs.declared.tree.TermTree.{TermTree}
use Rattle.dactl_meaning.specs.Contractum.{terms_draw, made_by, mentions_of}
use Rattle.dactl_contractum.specs.declared.drawing.Target.{Target}
use Rattle.dactl_contractum.specs.declared.drawing.Drawing.{Drawing}
use Rattle.dactl_contractum.specs.declared.contractum.Contractum.{Contractum}
use Rattle.dactl_contractum.specs.Drawing.{target_of, made_in, mentioned_in}
use Rattle.dactl_names.specs.Found.{found}
use Rattle.dactl_contractum.specs.Numbers.{node_number}

-- the terms behind the references
abbrev pub seen : List (Bor TermTree) → List TermTree
seen terms = map (λ t. t.now) terms

-- the terms are drawn, and these are what they stand for
pub record AreDrawn (terms : List TermTree) (drawing : Drawing) (targets : List Target) : Type 0 where
  pub made : made_in drawing ≡ made_by terms
  pub mentions : mentioned_in drawing ≡ mentions_of terms
  pub stand : map target_of targets ≡ map (λ d. d.target) (terms_draw 0 terms)

-- the numbers of a contractum and of so many variables fit theirs, and names have those of their new nodes
pub record IsReady (variables : List (List ℕ)) (c : Contractum) : Type 0 where
  pub few : length variables ≤ 64
  pub small : length c.drawing.made.items < 2 ^ 31
  pub given : (w : List ℕ) → found c.given w ≡ node_number (made_in c.drawing) w
