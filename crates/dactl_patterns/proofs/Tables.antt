-- One named pattern more in the table, and how many a text declares.
use Rattle.std.proofs.Common.{◌≡◌, ℕ, zero, suc, ◌+◌, ◌≤◌, Bool, true, false, List, [], ◌∷◌, length, cond, Some, refl, sym, ap, ◌∙◌, subst, arith}
use Rattle.std.specs.List.{flat_map, filter_map, cons_option}
use Rattle.std.proofs.lemmas.List.{length-append}
use Rattle.std.specs.Borrow.{Bor}
use Rattle.indexmap.specs.IndexMap.{IndexMap, get}
use Rattle.dactl_model.specs.declared.program.Pat.{Pat}
use Rattle.dactl_meaning.specs.declared.tree.PatternTree.{PatternTree}
use Rattle.dactl_meaning.specs.declared.tree.Item.{Item}
use Rattle.dactl_meaning.specs.declared.tree.Item.TheVariants as item
use Rattle.dactl_meaning.specs.declared.tree.Text.{Text}
use Rattle.dactl_meaning.specs.Declarations.{Placed, items, item_pattern}
use Rattle.dactl_meaning.specs.Expansion.{named_count, named_expansion}
use Rattle.dactl_meaning.specs.Meaning.{NamedPattern}
use Rattle.dactl_patterns.specs.declared.named.Known.{Known}
use Rattle.dactl_patterns.specs.declared.named.NamedPatterns.{NamedPatterns}
use Rattle.dactl_patterns.specs.Cycles.{declared_at, declared, all_declared}
use Rattle.dactl_patterns.specs.Levels.{is_same}
use Rattle.dactl_patterns.specs.Table.{IsKnown, IsRight, Deepens, IsRightFrom}
use Rattle.dactl_patterns.proofs.Gaining.{same-true}

-- ---- the table

module _ {S : Type 0} (old new : IndexMap NamedPattern Known S) (at : NamedPattern) (known : Known) (named : NamedPattern → Pat)
    (updates : (q : NamedPattern) → get is_same new q ≡ cond (is_same at q) (Some known) (get is_same old q))
    (before : (a : NamedPattern) (k : Known) → get is_same old a ≡ Some k → IsKnown (named a) k) (here : IsKnown (named at) known) where
  -- what is known of each is right with one more that is
  pub table_more : (a : NamedPattern) (k : Known) → get is_same new a ≡ Some k → IsKnown (named a) k
  table_more a k found = by (is_same at a) refl
    where
      by : (b : Bool) → is_same at a ≡ b → IsKnown (named a) k
      by true same =
          let some : Some known ≡ Some k = ap (λ (b : Bool). cond b (Some known) (get is_same old a)) (sym same) ∙ sym (updates a) ∙ found in
          let it : known ≡ k = cc in
          subst (λ (z : NamedPattern). IsKnown (named z) k) (same-true at a same) (subst (IsKnown (named at)) it here)
      by false same = before a k (ap (λ (b : Bool). cond b (Some known) (get is_same old a)) (sym same) ∙ sym (updates a) ∙ found)

-- with one named pattern more it is right from the next depth on
pub right_next : (depth : ℕ) (old new : NamedPatterns) → new.text ≡ old.text → IsRightFrom depth old → Deepens old new → IsRightFrom (depth + 1) new
right_next depth old new same before step = next
  where
    next : (d : ℕ) → depth + 1 ≤ d → IsRight (named_expansion new.text.now d) new
    next zero le = absurd (omega arith)
    next (suc d) le = subst (λ (t : Bor Text). IsRight (named_expansion t.now (suc d)) new) (sym same) (step d (before d (omega arith)) (before (suc d) (omega arith)))

-- ---- how many named patterns are declared

counts_item : (a : NamedPattern) (i : Item) (rest : List PatternTree) → length (cons_option (item_pattern i) rest) ≡ length (declared_at a i) + length rest
counts_item a (item.Named public name pattern) rest = omega arith
counts_item a _ rest = omega arith

counts : (ps : List Placed) → length (filter_map (λ i. item_pattern i.item) ps) ≡ length (flat_map declared ps)
counts [] = refl
counts (p ∷ ps) =
    omega (arith, counts_item (p.owner, p.number) p.item (filter_map (λ i. item_pattern i.item) ps), counts ps, length-append (declared p) (flat_map declared ps))

pub counted : (text : Text) → named_count text ≡ length (all_declared text)
counted text = counts (items text)
