-- No rule of a translation makes its root wait again.
use Rattle.std.proofs.Common.{◌≡◌, Bool, true, false, cond, ◌&&◌, List, [], ◌∷◌, refl, ◌∙◌, ap}
use Rattle.std.specs.List.{filter}
use Rattle.dactl_meaning.specs.declared.tree.TermTree.{TermTree}
use Rattle.dactl_meaning.specs.Expansion.{is_among}
use Rattle.dactl_meaning.specs.Contractum.{MentionTree, mentions_of, has_hashes, asked_by, suspend_of}

and_false : (b : Bool) → (b && false) ≡ false
and_false true = refl
and_false false = refl

-- none of the mentions is of a root that has no name
none_suspend : (ms : List MentionTree) → filter (λ (m : MentionTree). has_hashes m.marks && is_among [] m.name.text) ms ≡ []
none_suspend [] = refl
none_suspend (m ∷ ms) =
    ap (λ b. cond b (m ∷ filter (λ (n : MentionTree). has_hashes n.marks && is_among [] n.name.text) ms) (filter (λ (n : MentionTree). has_hashes n.marks && is_among [] n.name.text) ms)) (and_false (has_hashes m.marks))
    ∙ none_suspend ms

-- a rule that redirects its root asks for no notification
pub no_suspension : (terms : List TermTree) → suspend_of [] terms ≡ 0
no_suspension terms = ap asked_by (none_suspend (mentions_of terms))
