-- Worked rules: which mentions make the root wait again, and which are faults, computed by the definitions.
use Rattle.std.proofs.Common.{◌≡◌, ℕ, ◌+◌, Bool, true, false, List, [], ◌∷◌, map, Some, None, codes, refl, ap, ◌∙◌}
use Rattle.dactl_base.specs.declared.refusal.Place.{Place}
use Rattle.dactl_meaning.specs.declared.tree.Name.{Name}
use Rattle.dactl_meaning.specs.declared.tree.Marks.TheVariants as marks
use Rattle.dactl_meaning.specs.declared.tree.TermTree.{TermTree}
use Rattle.dactl_meaning.specs.declared.tree.NodeTree.TheViews.{roll-TermTree}
use Rattle.dactl_meaning.specs.declared.tree.NodeTree.TheFolds.{fold-roll-TermTree}
use Rattle.dactl_meaning.specs.declared.tree.PatternTree.{PatternTree}
use Rattle.dactl_meaning.specs.declared.tree.PatternTree.TheOpen.{PatternTree-F}
use Rattle.dactl_meaning.specs.declared.tree.PatternTree.TheViews.{roll-PatternTree}
use Rattle.dactl_meaning.specs.declared.tree.PatternTree.TheFolds.{fold-roll-PatternTree}
use Rattle.dactl_meaning.specs.declared.tree.Part.TheVariants as parts
use Rattle.dactl_meaning.specs.declared.tree.RuleTree.{RuleTree}
use Rattle.dactl_meaning.specs.Contractum.{MentionTree, node_mentions, arg_mentions, term_mentions, mentions_in, suspend_of}
use Rattle.dactl_meaning.specs.Expansion.{Occurrence, occurrences, occurrences_level, root_names, root_names_level, each_once, variables_of}
use Rattle.dactl_meaning.specs.RuleFaults.{suspendable, marks_on_bound, suspended_again}

abbrev at : ℕ → Place
at p = record { byte = p }

abbrev name : List ℕ → ℕ → Name
name w p = record { text = w; place = at p }

-- the pattern r:(s:F), whose first token stands at byte 36
abbrev head : PatternTree
head = roll-PatternTree (PatternTree-F.Sym (name (codes "F") 41) [])

abbrev inner : PatternTree
inner = roll-PatternTree (PatternTree-F.Binder (name (codes "s") 39) head)

abbrev pattern : PatternTree
pattern = roll-PatternTree (PatternTree-F.Binder (name (codes "r") 36) inner)

roots : root_names pattern ≡ codes "r" ∷ codes "s" ∷ []
roots =
    fold-roll-PatternTree (List (List ℕ)) root_names_level (PatternTree-F.Binder (name (codes "r") 36) inner)
    ∙ ap (λ (l : List (List ℕ)). codes "r" ∷ l) (fold-roll-PatternTree (List (List ℕ)) root_names_level (PatternTree-F.Binder (name (codes "s") 39) head))
    ∙ ap (λ (l : List (List ℕ)). codes "r" ∷ codes "s" ∷ l) (fold-roll-PatternTree (List (List ℕ)) root_names_level (PatternTree-F.Sym (name (codes "F") 41) []))

abbrev there : List ℕ → ℕ → Occurrence
there w p = record { name = name w p; given = true; in_choice = false }

places : occurrences pattern ≡ there (codes "r") 36 ∷ there (codes "s") 39 ∷ []
places =
    ap (λ (f : Bool → List Occurrence). f false) (fold-roll-PatternTree (Bool → List Occurrence) occurrences_level (PatternTree-F.Binder (name (codes "r") 36) inner))
    ∙ ap (λ (f : Bool → List Occurrence). there (codes "r") 36 ∷ f false) (fold-roll-PatternTree (Bool → List Occurrence) occurrences_level (PatternTree-F.Binder (name (codes "s") 39) head))
    ∙ ap (λ (f : Bool → List Occurrence). there (codes "r") 36 ∷ there (codes "s") 39 ∷ f false) (fold-roll-PatternTree (Bool → List Occurrence) occurrences_level (PatternTree-F.Sym (name (codes "F") 41) []))

variables : variables_of pattern ≡ codes "r" ∷ codes "s" ∷ []
variables = ap (λ (os : List Occurrence). each_once (map (λ o. o.name.text) os)) places

-- a mention of the name with one `#`, which stands at the place
abbrev again : List ℕ → ℕ → TermTree
again w p = roll-TermTree (record { marks = marks.Hashes (at p) 1; name = Some (name w (p + 1)); node = None })

mentioned : (w : List ℕ) (p : ℕ) → mentions_in (again w p) ≡ record { name = name w (p + 1); marks = marks.Hashes (at p) 1 } ∷ []
mentioned w p = fold-roll-TermTree (List MentionTree) (List MentionTree) (List MentionTree) node_mentions arg_mentions term_mentions (record { marks = marks.Hashes (at p) 1; name = Some (name w (p + 1)); node = None })

-- a rule with this pattern and these terms, behind `=>` or `->`
abbrev rule : Bool → List TermTree → RuleTree
rule redirects terms = record { place = at 36; pattern = pattern; redirects = redirects; parts = map parts.Term terms }

-- behind `->`, #r
abbrev waits : List TermTree
waits = again (codes "r") 47 ∷ []

waits_again : suspend_of (suspendable (rule false waits)) waits ≡ 1
waits_again = rw (roots, mentioned (codes "r") 47) refl

waits_fine : marks_on_bound (variables_of pattern) (suspendable (rule false waits)) waits ≡ []
waits_fine = rw (variables, roots, mentioned (codes "r") 47) refl

-- behind `=>`, #r
redirected : marks_on_bound (variables_of pattern) (suspendable (rule true waits)) waits ≡ 47 ∷ []
redirected = rw (variables, mentioned (codes "r") 47) refl

-- behind `->`, #r, #s
twice : suspended_again (suspendable (rule false (again (codes "r") 47 ∷ again (codes "s") 51 ∷ []))) (again (codes "r") 47 ∷ again (codes "s") 51 ∷ []) ≡ 51 ∷ []
twice = rw (roots, mentioned (codes "r") 47, mentioned (codes "s") 51) refl
